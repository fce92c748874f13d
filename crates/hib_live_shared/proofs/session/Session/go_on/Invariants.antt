use Rattle.std.proofs.Common.{IfSome}
use Rattle.hib_live_shared.specs.Answers.{IsSaid}
use Rattle.hib_live_shared.proofs.session.Session.go_on.Given as goal

abbrev pub invariant-loop : goal.invariant-loop
invariant-loop g l = IfSome l.answer (IsSaid g.N.Name.script g.N.Name.from l.fn.self.number)
