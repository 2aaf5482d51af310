-- Theorems about the walk over the index.
pub mod Slots
pub mod Items
pub mod Walks
pub mod Entries
pub mod Rising
pub mod Ends
pub mod Places
pub mod Unused
pub mod Shift
pub mod Runs
pub mod Retyped
pub mod Writes
