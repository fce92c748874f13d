use Rattle.std.proofs.Common.{◌≡◌, take}
use Rattle.hib_journal.specs.Types.{Key}
use Rattle.hib_report.specs.Watch.{course_at, deleted_if, names_key}
use Rattle.hib_report.proofs.watch.delete_all.Given as goal

-- the keys that were passed are done
abbrev pub invariant-loop-key : goal.invariant-loop-key
invariant-loop-key l = (k : Key) → course_at l.courses.entries k ≡ deleted_if (names_key k (take l.key-index l.keys)) (course_at l.fn.courses.entries k)
