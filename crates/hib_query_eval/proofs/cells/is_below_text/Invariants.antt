use Rattle.std.proofs.Common.{◌≡◌, drop}
use Rattle.hib_journal.specs.Query.{is_below_text}
use Rattle.hib_query_eval.proofs.cells.is_below_text.Given as goal

-- the bytes so far are the same
abbrev pub invariant-loop-at : goal.invariant-loop-at
invariant-loop-at l = is_below_text l.a l.b ≡ is_below_text (drop l.at l.a) (drop l.at l.b)
