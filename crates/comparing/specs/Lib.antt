pub mod Walk
pub mod Last
pub mod Names
