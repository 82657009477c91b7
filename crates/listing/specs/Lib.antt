pub mod FirstRun
pub mod Entries
