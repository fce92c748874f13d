use Rattle.std.proofs.Common.{ap, ◌∙◌}
use Rattle.hib_journal.specs.Next.{is_in_tables, tables_of}
use Rattle.hib_flush.specs.Planned.{planned}
use Rattle.hib_session.specs.Memory.{Remembered}
use Rattle.hib_flush.proofs.Pending.{pending_kept}
use Rattle.hib_session.proofs.memory.Memory.must_flush.Goals as goal

pub returns-in-Some : goal.returns-in-Some
returns-in-Some c = λ mine r.
    c.in-Some.ensures ∙ ap (is_in_tables (tables_of c.args.script.now c.args.query)) (pending_kept c.args.self.now.instances mine r.holds r.removals)

pub returns : goal.returns
returns c = λ mine r.
    c.is_touched.ensures ∙ ap (is_in_tables (tables_of c.args.script.now c.args.query))
    (c.as_slice.ensures ∙ (c.in_ok-changes.ensures ∙ (ap planned c.map.ensures ∙ (ap (λ (m : Remembered). planned m.instances) c.self.view_is ∙ pending_kept c.args.self.now.instances mine r.holds r.removals))))
