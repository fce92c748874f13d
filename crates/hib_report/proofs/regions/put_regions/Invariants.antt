use Rattle.std.proofs.Common.{◌≡◌, ◌++◌, take}
use Rattle.hib_report.specs.Report.{regions_text}
use Rattle.hib_report.proofs.regions.put_regions.Given as goal

-- what was put so far
abbrev pub invariant-loop-counts : goal.invariant-loop-counts
invariant-loop-counts l = l.out.items ≡ l.fn.out.items ++ regions_text l.script (take l.counts-index l.regions)
