-- The claim is `two-images`; `Same` is what it says of answers of the code, `Unseen` what it means for the bytes that it leaves out.
pub mod Seen
pub mod TwoImages
pub mod Same
pub mod Reopens
pub mod Unseen
