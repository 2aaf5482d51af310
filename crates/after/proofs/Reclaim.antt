-- What an accepted reclaim leaves.
pub mod Keeping
pub mod Left
