-- What the contracts say beside the rules.
pub mod Feeding
pub mod Pieces
