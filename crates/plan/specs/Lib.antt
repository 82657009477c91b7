pub mod Reading
pub mod Verdict
