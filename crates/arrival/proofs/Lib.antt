pub mod Laws
pub mod Filling
pub mod Spreading
pub mod Placing
