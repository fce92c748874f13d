use Rattle.std.specs.Map.{lookup}
use Rattle.std.specs.Prelude.{nat_eq, if◌then◌else◌}
use Rattle.std.proofs.Common.{◌≡◌, ℕ, take, Some}
use Rattle.hib_journal.specs.Stamps.{names}
use Rattle.hib_follow.proofs.marks.stamp_all.Given as goal

abbrev pub invariant-loop-table : goal.invariant-loop-table
invariant-loop-table l =
    (t : ℕ) → lookup (nat_eq t) l.stamps.entries ≡ (if names t (take l.table-index l.tables) then Some l.stamped else lookup (nat_eq t) l.fn.stamps.entries)
