pub mod Turns
pub mod Names
pub mod Gathering
pub mod Shared
