pub mod Years
pub mod Calendar
pub mod Quick
pub mod Range
pub mod Text
