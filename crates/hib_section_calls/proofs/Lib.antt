-- Lemmas.
pub mod Gathers
pub mod Bulks
pub mod Places
