-- The model of the service, in the order of document 01, with the requests of document 02. Every definition computes.
pub mod Plan
pub mod Refusal
pub mod Replication
pub mod Placement
pub mod Steps
pub mod Calls
pub mod Checks
pub mod Claims
pub mod Listing
pub mod ReadLog
pub mod Histories
pub mod Writing
pub mod Conversion
pub mod Recordings
