-- The report: a table one item further, what it adds up to over many images, and the room that its text takes.
pub mod Table
pub mod Sums
