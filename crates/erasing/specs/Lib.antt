pub mod Least
pub mod Delete
pub mod Reclaim
