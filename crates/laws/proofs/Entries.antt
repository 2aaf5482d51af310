-- What create, delete, restore and reclaim keep of the entries, in any order.
pub mod EntryKinds
pub mod Regions
pub mod Walked
pub mod Leading
pub mod Paths
pub mod Retyping
pub mod Deleting
pub mod Restoring
pub mod Creating
