pub mod PathOrder
pub mod Chains
pub mod Windows
pub mod Pivots
pub mod Regions
pub mod Tables
