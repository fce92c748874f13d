pub mod Given
pub mod Commands
pub mod Clap
pub mod Matched
pub mod Topics
pub mod Tools
