pub mod Unknown
pub mod Again
