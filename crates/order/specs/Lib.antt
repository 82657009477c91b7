-- What the definitions of the model are made of: nothing here speaks of a cluster.
pub mod Sum
pub mod Table
pub mod Search
pub mod Select
