pub mod View
pub mod Ends
