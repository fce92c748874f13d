pub mod Asked
pub mod Live
