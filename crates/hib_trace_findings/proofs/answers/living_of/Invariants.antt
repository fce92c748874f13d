use Rattle.std.proofs.Common.{◌≡◌, take}
use Rattle.std.specs.List.{filter_map}
use Rattle.hib_trace_findings.specs.Judged.{living}
use Rattle.hib_trace_findings.proofs.answers.living_of.Given as goal

abbrev pub invariant-loop-commit : goal.invariant-loop-commit
invariant-loop-commit l = l.sources.items ≡ filter_map (living l.none) (take l.commit-index l.commits)
