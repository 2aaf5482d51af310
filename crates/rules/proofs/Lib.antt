-- Theorems on which no definition rests: an edit of a definition is refused by them.
pub mod Dates
pub mod Refusals
pub mod RegionTable
