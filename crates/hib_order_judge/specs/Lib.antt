pub mod Dossiers
pub mod Footings
pub mod Verdicts
