pub mod Blocks
pub mod Front
