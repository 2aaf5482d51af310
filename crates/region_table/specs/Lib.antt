pub mod View
pub mod Entries
pub mod Answers
