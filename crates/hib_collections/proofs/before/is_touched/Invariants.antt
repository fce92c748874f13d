use Rattle.std.proofs.Common.{◌≡◌, [], ◌∷◌, drop}
use Rattle.hib_journal.specs.Next.{is_in_tables}
use Rattle.hib_collections.proofs.before.is_touched.Given as goal

abbrev pub invariant-loop-change : goal.invariant-loop-change
invariant-loop-change l = is_in_tables (l.entity ∷ []) l.changes ≡ is_in_tables (l.entity ∷ []) (drop l.change-index l.changes)
