pub mod Pasted
