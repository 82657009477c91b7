pub mod Laws
pub mod EveryScript
