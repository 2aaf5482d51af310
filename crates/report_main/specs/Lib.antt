-- What the contracts say.
pub mod Files
