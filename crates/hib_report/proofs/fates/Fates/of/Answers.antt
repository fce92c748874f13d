use Rattle.std.proofs.Common.{◌≡◌, ◌∷◌, ◌+◌, ◌∙◌, ap, sym, subst, reverse, take, length, List, arith}
use Rattle.hib_journal.specs.Types.{Entry}
use Rattle.hib_journal.specs.Sessions.{Journal}
use Rattle.hib_report.specs.Fates.{IsFateOf}
use Rattle.std.proofs.Math.Seq.{take-length}
use Rattle.hib_report.proofs.Passed.{reverse_more}
use Rattle.hib_report.proofs.Fated.{fates_more}
use Rattle.hib_report.proofs.fates.Fates.of.Goals as goal

pub loop-place-preserved : goal.loop-place-preserved
loop-place-preserved c =
    let e : Entry = c.index-entries-place.result in
    let past : Journal = reverse (take c.loop-place.place c.args.entries.now) in
    let more : reverse (take (c.loop-place.place + 1) c.args.entries.now) ≡ e ∷ past =
    reverse_more c.args.entries.now c.loop-place.place e c.loop-place-test.true ∙ ap (λ (x : Entry). x ∷ past) (sym c.index-entries-place.is) in
    record {
      all = c.note_own.ensures.all ∙ (c.note_kill.ensures.all ∙ c.loop-place.invariant.all);
      each = λ s f p.
          subst (λ (h : Journal). IsFateOf c.restart_after-restart.result (c.loop-place.place + 1) s f h) (sym more)
          (subst (λ r. IsFateOf r (c.loop-place.place + 1) s f (e ∷ past)) (sym c.restart_after-restart.ensures)
          (fates_more s c.loop-place.restart c.loop-place.place e past _ _ _ (c.note_kill.ensures.each s) (c.note_own.ensures.each s) (c.loop-place.invariant.each s) f p));
    }

pub returns-clause-each : goal.returns-clause-each
returns-clause-each c = λ s f p.
    let n : c.loop-place.place ≡ length c.args.entries.now = omega (arith, c.loop-place-test.false, c.loop-place.auto.place-end) in
    subst (λ (h : List Entry). IsFateOf c.loop-place.restart (length c.args.entries.now) s f (reverse h)) (take-length c.args.entries.now)
    (subst (λ i. IsFateOf c.loop-place.restart i s f (reverse (take i c.args.entries.now))) n (c.loop-place.invariant.each s f p))
