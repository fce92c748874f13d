use Rattle.std.proofs.Common.{subst, sym, ap, ◌∙◌}
use Rattle.hib_journal.specs.Kept.{past}
use Rattle.hib_session.specs.Sessions.{AreOver}
use Rattle.hib_workers.proofs.workers.work_from.Goals as goal

pub returns-clause-over : goal.returns-clause-over
returns-clause-over g c = λ e. subst (λ f. AreOver g.N.Name.script (past f.journal)) (sym c.close-factory.ensures.same)
    (c.finish.ensures (ap (λ f. f.refused) (sym c.close-factory.ensures.same) ∙ sym c.refused-out_of_memory.ensures ∙ e))
