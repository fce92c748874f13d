pub mod Cut
pub mod WithJournal
pub mod WithSection
