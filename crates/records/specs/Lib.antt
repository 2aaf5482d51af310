-- What the contracts say beside the rules.
pub mod View
