pub mod Runs
pub mod InOrder
pub mod Sums
pub mod View
