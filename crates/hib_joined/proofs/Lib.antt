-- What a run over parts comes to.
pub mod One
