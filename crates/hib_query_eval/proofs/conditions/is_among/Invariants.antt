use Rattle.std.proofs.Common.{◌≡◌, drop}
use Rattle.std.specs.List.{list_any}
use Rattle.hib_journal.specs.Query.{same_cell}
use Rattle.hib_query_eval.proofs.conditions.is_among.Given as goal

-- no cell so far is the same
abbrev pub invariant-loop-other : goal.invariant-loop-other
invariant-loop-other l = list_any (λ c. same_cell l.cell c) l.cells ≡ list_any (λ c. same_cell l.cell c) (drop l.other-index l.cells)
