-- A whole listing by the live entries, and the room that it takes.
pub mod Rising
pub mod Packed
pub mod Room
