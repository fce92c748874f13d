use Rattle.std.specs.Option.{option_or}
use Rattle.std.proofs.Common.{◌≡◌, drop}
use Rattle.std.specs.Map.{lookup}
use Rattle.hib_base.specs.Keys.{same_key}
use Rattle.hib_base.specs.Tables.{last_on}
use Rattle.hib_journal.specs.Types.{Key}
use Rattle.hib_completion.specs.Touched.{at_place}
use Rattle.hib_completion.proofs.touched.lasts_of.Given as goal

-- the last change of a key is one of the rest, or else one so far
abbrev pub invariant-loop-place : goal.invariant-loop-place
invariant-loop-place l =
    (k : Key) → option_or (last_on k (drop l.place l.changes)) (at_place l.changes (lookup (same_key k) l.lasts.entries)) ≡ last_on k l.changes
