pub mod Laws
pub mod ListsWhole
