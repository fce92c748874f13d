pub mod Added
pub mod Ends
pub mod Given
pub mod Goes
pub mod Longer
pub mod Typed
