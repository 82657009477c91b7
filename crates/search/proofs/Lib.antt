pub mod Laws
pub mod Routes
pub mod Loops
pub mod Targets
