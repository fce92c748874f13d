use Rattle.std.proofs.Common.{◌≤◌, ◌-◌, map}
use Rattle.hib_order_tries.specs.Amid.{IsAmid}
use Rattle.hib_order_tries.specs.Found.{AreCounted}
use Rattle.hib_order_tries.proofs.trying.search.Given as goal

abbrev pub invariant-loop-progress : goal.invariant-loop-progress
invariant-loop-progress g l = record {
  amid : IsAmid g.P.Player.script g.P.Player.start g.P.Player.judged g.P.Player.ended l.most_kills l.progress.waiting.level (map (λ v. v.items) l.progress.waiting.now.items) l.progress.waiting.beyond l.progress.findings;
  counts : AreCounted l.progress.findings;
  limit : l.progress.findings.tried ≤ l.limit;
  level : l.progress.waiting.level ≤ l.most;
}

abbrev pub decreases-loop-progress : goal.decreases-loop-progress
decreases-loop-progress g l = l.most - l.progress.waiting.level
