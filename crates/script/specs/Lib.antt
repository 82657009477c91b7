pub mod Script
pub mod Promise
