pub mod Breaks
pub mod Standing
pub mod Audit
