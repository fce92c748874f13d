pub mod Names
pub mod Keys
pub mod Noted
pub mod Few
pub mod Rising
