-- How many bytes a listing takes: for each slot of the index, and in all.
pub mod Weights
pub mod Lines
pub mod Bound
