-- The rules as the code walks them: the parts of a path as an automaton, characters of one byte as bits, texts from within, and a reader of them.
pub mod Automaton
pub mod Masks
pub mod Texts
pub mod View
pub mod Reader
