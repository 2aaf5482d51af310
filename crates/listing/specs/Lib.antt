-- What the contracts say beside the rules.
pub mod Lines
pub mod Volume
