-- Answers of a region's calls as replies.
use Rattle.std.specs.Prelude.{Bool, true, false}
use Rattle.hib_journal.specs.Types.{Reply}
use Rattle.hib_base.specs.declared.replies.Got.{Got}

-- what was found, without where it lies in memory
abbrev pub got_reply : Got → Reply
got_reply (Got.Hit row) = Reply.Hit row.now
got_reply (Got.Miss miss) = Reply.Miss miss

abbrev pub removed_reply : Bool → Reply
removed_reply true = Reply.Dropped
removed_reply false = Reply.Absent
