-- What is claimed of the model's definitions, by the file of the definition.
pub mod Refusal
pub mod Widths
pub mod Units
pub mod Replication
pub mod Placement
pub mod Domains
pub mod Steps
pub mod Calls
pub mod ReadLog
pub mod Listing
pub mod Writing
