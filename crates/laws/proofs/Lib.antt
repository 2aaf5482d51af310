pub mod Lists
pub mod Entries
pub mod Index
pub mod Images
pub mod Listing
pub mod Records
pub mod Report
pub mod RegionTable
