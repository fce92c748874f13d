use Rattle.std.proofs.Common.{sym, subst}
use Rattle.hib_journal.specs.Kept.{past}
use Rattle.hib_parts.specs.Listed.{WorkerState, IsDueEntry}
use Rattle.hib_parts.proofs.Workers.{worker_more}
use Rattle.hib_parts.proofs.worker.Worker.enter.Goals as goal

pub invariant_of-self-2 : goal.invariant_of-self-2
invariant_of-self-2 g c =
    worker_more c.args.script.now g.N.Name.script c.self.inside.session c.advance.new.self (past c.self.inside.list) (past c.add.new.list) c.self.inside.last c.args.entry c.requires.script c.self.invariant
    (subst (λ (v : WorkerState). IsDueEntry g.N.Name.script v.number v.list c.args.entry) (sym c.self.view_is) c.requires.due) c.add.ensures.past c.advance.ensures.number c.in_ok-advance.ensures.follows
