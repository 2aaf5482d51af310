pub mod Volume
pub mod Fresh
