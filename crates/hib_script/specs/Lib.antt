pub mod Outline
pub mod Places
pub mod Lines
pub mod Drafts
pub mod Script
pub mod Passing
