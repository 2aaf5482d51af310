-- What a change of one entry's type and stamp leaves; a delete that keeps and a restore are its two cases.
pub mod Seeing
pub mod Left
