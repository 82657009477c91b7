pub mod Cluster
pub mod Blocks
