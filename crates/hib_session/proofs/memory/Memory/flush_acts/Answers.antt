use Rattle.std.proofs.Common.{◌∷◌, [], ◌++◌, ap, sym, ◌∙◌}
use Rattle.hib_journal.specs.Types.{Act}
use Rattle.hib_journal.specs.Next.{tables_in}
use Rattle.hib_session.specs.Memory.{before_in}
use Rattle.hib_session.proofs.Flushed.{write_more}
use Rattle.hib_session.proofs.memory.Memory.flush_acts.Goals as goal

pub loop-change-preserved : goal.loop-change-preserved
loop-change-preserved c =
    c.in_ok-add_write.ensures
    ∙ (ap (λ acts. acts ++ (before_in c.args.script.now c.args.self.now c.in-Some.change ++ Act.Write c.in-Some.change ∷ [])) c.loop-change.invariant
    ∙ ap (λ acts. Act.Pre (tables_in c.args.script.now c.args.changes) ∷ acts) (sym (write_more c.args.script.now c.args.self.now c.loop-change.yielded c.in-Some.change)))
