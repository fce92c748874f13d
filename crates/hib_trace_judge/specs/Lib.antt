pub mod Hits
pub mod Updates
pub mod Lines
pub mod Told
pub mod Traces
pub mod Found
