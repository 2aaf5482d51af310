pub mod Site
pub mod Placed
