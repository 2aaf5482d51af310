pub mod Found
pub mod Told
pub mod Looked
