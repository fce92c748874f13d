use Rattle.std.specs.List.{list_any}
use Rattle.std.specs.Map.{lookup}
use Rattle.std.specs.Prelude.{if◌then◌else◌}
use Rattle.std.proofs.Common.{◌≡◌, take, Some}
use Rattle.hib_base.specs.Keys.{same_key}
use Rattle.hib_journal.specs.Sound.{deletes_key}
use Rattle.hib_journal.specs.Types.{Key}
use Rattle.hib_follow.specs.Desks.{changes_at}
use Rattle.hib_follow.proofs.deleted.note_changes.Given as goal

abbrev pub invariant-loop-change : goal.invariant-loop-change
invariant-loop-change l =
    (k : Key) → lookup (same_key k) l.numbers.entries
    ≡ (if list_any (deletes_key k) (changes_at (take l.change-index l.change-items)) then Some l.since else lookup (same_key k) l.fn.numbers.entries)
