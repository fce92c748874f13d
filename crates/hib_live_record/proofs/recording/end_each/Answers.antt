use Rattle.std.proofs.Common.{◌≡◌, ◌<◌, List, length, map, slice_index_or, slice_set, ap, refl, sym, subst, ◌∙◌, add-one, arith}
use Rattle.hib_journal.specs.Types.{SessionDef}
use Rattle.hib_live_law.specs.Grown.{AreLonger}
use Rattle.hib_live_record.specs.Recorded.{ended}
use Rattle.hib_live_record.proofs.Ends.{part, part_at, part_next, part_done, longer_kept, on_err}
use Rattle.hib_live_record.proofs.recording.end_each.Goals as goal

pub loop-place-init : goal.loop-place-init
loop-place-init c = refl

pub returns-in_err-end_session-clause-err : goal.returns-in_err-end_session-clause-err
returns-in_err-end_session-clause-err c =
    let ds = c.args.sessions.now in
    let n = c.loop-place.place in
    let d = c.index-sessions-place.result in
    let e = c.end_session.new.session in
    let same = c.in_err-end_session.ensures.err ∙ (ap (λ xs. slice_index_or xs n d) c.loop-place.invariant ∙ part_at ds n d) in
    on_err c.from_residual.result
    (subst (λ xs. AreLonger ds (slice_set xs n e)) (sym c.loop-place.invariant) (longer_kept ds n e d c.loop-place-test.true same))

pub loop-place-preserved : goal.loop-place-preserved
loop-place-preserved c =
    let ds = c.args.sessions.now in
    let n = c.loop-place.place in
    let d = c.index-sessions-place.result in
    ap (λ xs. slice_set xs n c.end_session.new.session) c.loop-place.invariant
    ∙ part_next ds n c.end_session.new.session d c.loop-place-test.true
    (c.in_ok-end_session.ensures.ok ∙ ap ended (ap (λ xs. slice_index_or xs n d) c.loop-place.invariant ∙ part_at ds n d))
    ∙ ap (part ds) (sym (add-one n))

pub returns-clause-ok : goal.returns-clause-ok
returns-clause-ok c = c.loop-place.invariant ∙ part_done c.args.sessions.now c.loop-place.place (omega (arith, c.loop-place-test.false))
