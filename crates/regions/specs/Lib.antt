pub mod Bounds
pub mod Gathering
