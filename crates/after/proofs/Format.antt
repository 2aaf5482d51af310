-- What an accepted format leaves: the claim is `format-left`.
pub mod Left
