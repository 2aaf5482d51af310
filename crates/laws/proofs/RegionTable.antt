-- The test for shared blocks over a table: how many places are enough.
pub mod Room
