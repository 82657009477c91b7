pub mod Laws
pub mod ConvertsWhole
