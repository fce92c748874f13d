pub mod Due
pub mod LastTicks
