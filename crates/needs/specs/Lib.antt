pub mod Fractions
pub mod Needs
