-- Small facts.
pub mod Basics
-- One key of a read-write region, with no journal in sight: what each kind of entry does to it, and what always holds.
pub mod Guarded
pub mod Protocol
-- From a legal journal to that: what touches a key, what its slot was before, and what a session may do.
pub mod Touches
pub mod Effects
pub mod Views
pub mod Commits
pub mod Coherent
pub mod Floors
-- What a session holds and what it may do, by its plan.
pub mod HeldRows
pub mod Pending
pub mod Walks
pub mod Working
pub mod Flushing
pub mod Flushes
pub mod Ends
pub mod Blocks
-- Read-write keys: rows, locks and their holders.
pub mod Holders
pub mod Orderly
pub mod Whole
pub mod Ids
pub mod Writers
-- Lists of queries.
pub mod Stamped
pub mod Given
pub mod QueryRules
pub mod Past
pub mod Hits
pub mod Lists
-- Items of any region.
pub mod StoreRules
pub mod Stored
pub mod ReadOnlyRules
pub mod ReadOnly
-- Finds, misses, and all claims together.
pub mod Answered
pub mod Misses
pub mod Joined
pub mod Refuted
