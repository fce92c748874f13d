use Rattle.std.specs.Option.{option_or}
use Rattle.std.proofs.Common.{◌≡◌, ◌++◌, drop, is_some}
use Rattle.std.specs.Map.{keys_of as keys_in, lookup}
use Rattle.hib_base.specs.Keys.{same_key}
use Rattle.hib_base.specs.Tables.{first_on}
use Rattle.hib_journal.specs.Types.{Key}
use Rattle.hib_journal.specs.Next.{keys_of}
use Rattle.hib_completion.specs.Touched.{at_place}
use Rattle.hib_completion.proofs.Keys.{less}
use Rattle.hib_completion.proofs.touched.firsts_of.Given as goal

-- the keys so far, and those of the rest that are not among them; the first change of a key is one so far, or else one of the rest
abbrev pub invariant-loop-place : goal.invariant-loop-place
invariant-loop-place l = record {
  keys : keys_in l.firsts.entries ++ less (keys_in l.firsts.entries) (keys_of (drop l.place l.changes)) ≡ keys_of l.changes;
  there : (k : Key) → is_some (at_place l.changes (lookup (same_key k) l.firsts.entries)) ≡ is_some (lookup (same_key k) l.firsts.entries);
  each : (k : Key) → option_or (at_place l.changes (lookup (same_key k) l.firsts.entries)) (first_on k (drop l.place l.changes)) ≡ first_on k l.changes;
}
