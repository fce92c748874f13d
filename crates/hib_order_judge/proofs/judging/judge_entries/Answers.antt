use Rattle.std.specs.Prelude.{slice_get}
use Rattle.std.proofs.Common.{◌≡◌, ◌+◌, ◌<◌, ℕ, List, [], ◌∷◌, Some, false, take, length, refl, sym, subst, arith}
use Rattle.std.proofs.lemmas.Option.{slice_get_read}
use Rattle.hib_journal.specs.Sessions.{Journal, committed}
use Rattle.hib_journal.specs.Types.{Entry}
use Rattle.hib_order_law.specs.Orders.{onto}
use Rattle.hib_order_judge.specs.Dossiers.{AreDossiers}
use Rattle.hib_order_judge.specs.Verdicts.{verdicts}
use Rattle.hib_order_judge.proofs.Noted.{onto_next}
use Rattle.hib_order_judge.proofs.judging.judge_entries.Goals as goal

pub loop-place-init : goal.loop-place-init
loop-place-init c = record {
  rows = refl;
  ordered = c.requires;
  dossiers = c.new-dossiers.ensures c.args.entries.now;
  verdicts = c.none-verdicts.ensures c.args.script.now c.args.start;
}

pub loop-place-preserved : goal.loop-place-preserved
loop-place-preserved c =
    let es : List Entry = c.args.entries.now in
    let i : ℕ = c.loop-place.place in
    let e : Entry = c.index-entries-place.result in
    let h : Journal = onto (take i es) [] in
    let low : i < length es = omega arith in
    let at : slice_get es i ≡ Some e = slice_get_read es (length es) i e refl low c.index-entries-place.is in
    let next : onto (take (i + 1) es) [] ≡ e ∷ h = onto_next es i e low c.index-entries-place.is in
    record {
      rows = subst (λ k. c.in_ok-rows.rows ≡ committed c.args.start k) (sym next)
          (c.in_ok-rows.ensures.rows c.args.start h es c.loop-place.invariant.dossiers c.loop-place.invariant.rows);
      ordered = c.in_ok-rows.ensures.ordered;
      dossiers = subst (λ k. AreDossiers es k c.note-in-loop-place.new.self.all.items) (sym next) (c.in_ok-note-2.ensures es h at c.loop-place.invariant.dossiers);
      verdicts = subst (λ k. c.note.new.judged ≡ record (verdicts c.args.script.now c.args.start k) { unsound_key = false }) (sym next)
          (c.in_ok-note.ensures c.args.start h c.loop-place.invariant.dossiers c.loop-place.invariant.rows c.loop-place.invariant.verdicts);
    }
