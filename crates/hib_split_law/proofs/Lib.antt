-- What an entry of another part leaves as it is.
pub mod Local
-- What the store defers is what the sessions have written.
pub mod Unsaved
-- The replies of parts, over their lists.
pub mod Replies
-- All together.
pub mod Apart
-- What the store's list tells of the whole.
pub mod Counts
-- The merged list.
pub mod Merge
