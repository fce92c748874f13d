use Rattle.std.proofs.Common.{◌≡◌, drop}
use Rattle.hib_base.specs.Tables.{first_on}
use Rattle.hib_completion.proofs.touched.first_of.Given as goal

-- no change so far is of the key
abbrev pub invariant-loop-change : goal.invariant-loop-change
invariant-loop-change l = first_on l.key l.changes ≡ first_on l.key (drop l.change-index l.changes)
