use Rattle.std.proofs.Common.{rules, ◌≡◌, [], sym, ap, ◌∙◌}
use Rattle.hib_journal.specs.Next.{flush_of}
use Rattle.hib_flush.specs.Planned.{planned}
use Rattle.hib_flush.proofs.Pending.{pending_kept}
use Rattle.hib_session.specs.Memory.{Remembered, flush_in}
use Rattle.hib_session.proofs.Flushed.{flush_kept}
use Rattle.hib_session.proofs.memory.Memory.flush.Goals as goal

pub returns-then-are_untouched : goal.returns-then-are_untouched
returns-then-are_untouched c = λ mine r.
    let none : planned c.self.inside.instances ≡ [] = c.are_untouched.ensures (search rules) in
    c.new.ensures ∙ ap (flush_of c.args.script.now mine) (sym none ∙ (ap (λ (m : Remembered). planned m.instances) c.self.view_is ∙ pending_kept c.args.self.now.instances mine r.holds r.removals))

pub returns : goal.returns
returns c = λ mine r.
    c.in_ok-acts.ensures
    ∙ (ap (flush_in c.args.script.now c.args.self.now) (c.in_ok-changes.ensures ∙ (ap planned c.map.ensures ∙ ap (λ (m : Remembered). planned m.instances) c.self.view_is))
    ∙ flush_kept c.args.script.now c.args.self.now mine r)
