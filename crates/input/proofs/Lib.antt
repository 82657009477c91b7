pub mod OnWhole
mod Parts
mod Known
pub mod Streams
