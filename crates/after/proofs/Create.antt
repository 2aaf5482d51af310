-- What an accepted create leaves: the claim is `create-left`.
pub mod Passed
pub mod Added
pub mod Made
pub mod Seen
pub mod Left
