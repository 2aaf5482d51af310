pub mod Computing
pub mod Table
pub mod Runs
pub mod Names
pub mod Comparing
pub mod Edition110
pub mod RegionTable
