pub mod PlayLaws
pub mod Short
pub mod Numbers
