pub mod Types
pub mod View
