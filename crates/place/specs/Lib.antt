pub mod Output
pub mod Failure
