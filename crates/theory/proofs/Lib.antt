-- The laws of the model's definitions: a file for each file of definitions, its sections in the order of the definitions.
-- A law's name begins with the definition that it is about.
pub mod Plan
pub mod Refusal
pub mod Widths
pub mod Replication
pub mod Placement
pub mod PlacementFirst
pub mod Domains
pub mod Steps
pub mod StepsLocal
pub mod StepsNext
pub mod Units
pub mod Calls
pub mod ReadLog
pub mod Listing
pub mod Writing
pub mod WritingPlan
pub mod Conversion
pub mod Arrivals
pub mod Deletions
