use Rattle.std.proofs.Common.{rules, ◌≡◌, false, Some, None, length, slice_get, refl, sym, ap, ◌∙◌}
use Rattle.std.proofs.lemmas.Option.{IfSome_then}
use Rattle.hib_flush.specs.Planned.{planned}
use Rattle.hib_session.specs.Memory.{Remembered}
use Rattle.hib_session.specs.Queries.{touches, touching_in}
use Rattle.hib_session.proofs.Ranges.{touched_by}
use Rattle.hib_session.proofs.memory.Memory.touches.Goals as goal

pub returns-in-Some : goal.returns-in-Some
returns-in-Some c =
    let script = c.args.script.now in
    let there : slice_get script.queries c.args.query ≡ Some c.in-Some.query.now = search rules in
    let same : touches (length script.mapping) c.in-Some.query.now (planned c.self.inside.instances) ≡ touching_in (length script.mapping) (slice_get script.queries c.args.query) (planned c.args.self.now.instances) =
    rw there (ap (λ (m : Remembered). touches (length script.mapping) c.in-Some.query.now (planned m.instances)) c.self.view_is) in
    IfSome_then c.touch.result (rw c.len.ensures at c.touch.ensures) (λ b h. h ∙ (same ∙ touched_by script (slice_get script.queries c.args.query) (planned c.args.self.now.instances)))

pub returns-in-None : goal.returns-in-None
returns-in-None c =
    let script = c.args.script.now in
    let there : slice_get script.queries c.args.query ≡ None = search rules in
    let same : touching_in (length script.mapping) (slice_get script.queries c.args.query) (planned c.args.self.now.instances) ≡ false = rw there refl in
    sym same ∙ touched_by script (slice_get script.queries c.args.query) (planned c.args.self.now.instances)
