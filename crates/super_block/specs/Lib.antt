pub mod View
pub mod Tests
pub mod Ends
pub mod Written
