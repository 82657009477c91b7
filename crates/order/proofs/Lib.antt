-- The laws of the definitions of specs/.
pub mod Booleans
pub mod Arithmetic
pub mod Sums
pub mod SumChanges
pub mod Ranges
pub mod Residues
pub mod Tables
pub mod Selects
pub mod Searches
pub mod Extremes
