use Rattle.std.proofs.Common.{◌≡◌, Some, take}
use Rattle.std.specs.List.{filter_map}
use Rattle.hib_trace_law.specs.declared.commits.Commit.{Commit}
use Rattle.hib_traces.specs.Marks.{pair_mark}
use Rattle.hib_traces.proofs.order.call_marks.Given as goal

abbrev pub invariant-loop-commit : goal.invariant-loop-commit
invariant-loop-commit l = l.marks.items ≡ filter_map (λ (c : Commit). pair_mark (Some c.begin) c.end) (take l.commit-index l.commits)
