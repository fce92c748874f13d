use Rattle.std.proofs.Common.{take}
use Rattle.std.specs.List.{AllZip}
use Rattle.hib_trace_lists.specs.Loads.{IsChanges}
use Rattle.hib_trace_lists.proofs.changes.changes_of.Given as goal

abbrev pub invariant-loop-commits : goal.invariant-loop-commits
invariant-loop-commits l = AllZip (λ f m. IsChanges f.items m.items) (take l.commits-index l.files) l.tables.items
