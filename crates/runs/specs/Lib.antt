pub mod Sealed
pub mod Written
