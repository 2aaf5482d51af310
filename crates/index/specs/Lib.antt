pub mod View
pub mod Steps
pub mod Turns
pub mod Unused
