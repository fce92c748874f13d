pub mod Pieces
pub mod ActLaws
pub mod RegionLaws
pub mod ActWhole
pub mod AnswerLaws
pub mod ReplyWhole
pub mod AsciiWhole
