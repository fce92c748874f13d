use Rattle.std.proofs.Common.{◌≡◌, ◌+◌, ◌≤◌, length, map}
use Rattle.hib_order_tries.specs.Amid.{IsAmid}
use Rattle.hib_order_tries.specs.Found.{AreCounted}
use Rattle.hib_order_tries.proofs.Unmet.{unmet}
use Rattle.hib_order_tries.proofs.trying.Searching.walk.Given as goal

abbrev pub invariant-loop-begun : goal.invariant-loop-begun
invariant-loop-begun g l = record {
  amid : IsAmid g.P.Player.script g.P.Player.start g.P.Player.judged g.P.Player.ended l.most_kills l.self.waiting.level (map (λ v. v.items) l.self.waiting.now.items) l.self.waiting.beyond l.self.findings;
  counts : AreCounted l.self.findings;
  limit : l.self.findings.tried ≤ l.limit;
  level : l.self.waiting.level ≡ l.fn.self.waiting.level;
}

abbrev pub decreases-loop-begun : goal.decreases-loop-begun
decreases-loop-begun g l = unmet (length g.P.Player.script.sessions) (g.P.Player.most_steps + l.most_kills) (map (λ v. v.items) l.self.waiting.now.items)
