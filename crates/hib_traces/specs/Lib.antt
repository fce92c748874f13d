pub mod Making
pub mod Marks
pub mod Places
pub mod Stands
pub mod Verdicts
