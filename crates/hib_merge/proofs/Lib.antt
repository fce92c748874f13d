-- The newest entry first, and the oldest first.
pub mod Reversed
-- Two lists woven into one.
pub mod Woven
-- Lists merged by halves.
pub mod Halves
-- The merged list.
pub mod Merged
-- The entries of each session.
pub mod Placed
-- Whether sessions' lists agree.
pub mod Agreed
-- The last ticks.
pub mod Ticking
