-- Lemmas.
mod Reading
