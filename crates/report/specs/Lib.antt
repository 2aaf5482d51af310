-- What the contracts say beside the rules.
pub mod Rows
pub mod Stored
pub mod Items
pub mod View
pub mod Text
pub mod Adding
pub mod Numbers
