use Rattle.std.proofs.Common.{◌≡◌, ◌≤◌}
use Rattle.hib_journal.specs.Sessions.{Journal}
use Rattle.hib_session.specs.Memory.{Knows}
use Rattle.hib_session.specs.Control.{Stands, weight}
use Rattle.hib_session.proofs.control.Control.settle.Given as goal

abbrev pub invariant-loop-alloc : goal.invariant-loop-alloc
invariant-loop-alloc l = record {
  number : l.self.number ≡ l.fn.self.number;
  stands : (mine : Journal) → Knows l.memory mine → Stands l.script l.fn.self mine → Stands l.script l.self mine;
  weight : weight l.script l.self ≤ weight l.script l.fn.self;
}

abbrev pub decreases-loop-alloc : goal.decreases-loop-alloc
decreases-loop-alloc l = weight l.script l.self
