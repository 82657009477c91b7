-- What the document promises, stated of the model's definitions.
pub mod TotalLoad
pub mod Exact
pub mod Potential
pub mod Bounds
pub mod Claim
pub mod Histories
pub mod Trials
pub mod RowExamples
pub mod Feeds
pub mod Budgets
pub mod Checks
pub mod Unread
pub mod ReadExamples
pub mod Versions
pub mod Ties
pub mod Listing
pub mod Conversion
