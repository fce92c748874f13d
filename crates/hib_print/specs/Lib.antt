pub mod Spelling
pub mod Lines
pub mod Printed
pub mod Steps
