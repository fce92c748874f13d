use Rattle.std.proofs.Common.{take}
use Rattle.hib_query_eval.specs.Views.{Lays}
use Rattle.hib_query_eval.proofs.own.all_laid.Given as goal

-- what the changes so far leave
abbrev pub invariant-loop-change : goal.invariant-loop-change
invariant-loop-change l = Lays (take l.change-index l.changes) l.laid
