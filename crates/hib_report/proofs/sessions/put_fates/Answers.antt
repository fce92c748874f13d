use Rattle.std.proofs.Common.{◌≡◌, ◌∷◌, ◌++◌, ◌+◌, ◌<◌, ◌∙◌, ℕ, List, ap, sym, length, reverse, drop, drop-cons, slice_get, get_or, Some, add-one, arith}
use Rattle.std.proofs.lemmas.Option.{slice_get-get_or}
use Rattle.hib_journal.specs.Types.{SessionDef}
use Rattle.hib_journal.specs.Sessions.{Journal}
use Rattle.hib_report.specs.declared.fates.Fate.{Fate}
use Rattle.hib_report.specs.Fates.{IsFateOf}
use Rattle.hib_report.specs.Report.{fates_text}
use Rattle.hib_report.proofs.Fated.{fates_step}
use Rattle.hib_report.proofs.sessions.put_fates.Goals as goal

pub loop-session-preserved : goal.loop-session-preserved
loop-session-preserved c =
    let i : ℕ = c.loop-session.session in
    let d : SessionDef = c.index-sessions-session.result in
    let f : Fate = c.index-fate.result.now in
    let past : Journal = reverse c.args.entries.now in
    let l : i < length c.in_ok-ended.ended.fates.items = omega (arith, c.loop-session-test.true, c.in_ok-ended.ensures.all) in
    let p : slice_get c.in_ok-ended.ended.fates.items i ≡ Some f = slice_get-get_or c.in_ok-ended.ended.fates.items i f l ∙ ap (λ (x : Fate). Some x) (sym c.index-fate.ensures) in
    let w : IsFateOf c.in_ok-ended.ended.restart (length c.args.entries.now) i f past = c.in_ok-ended.ensures.each i f p in
    let a : drop i c.args.sessions.now ≡ get_or c.args.sessions.now i d ∷ drop (i + 1) c.args.sessions.now =
    rw add-one (drop-cons c.args.sessions.now i d c.loop-session-test.true) in
    let e : drop i c.args.sessions.now ≡ d ∷ drop (i + 1) c.args.sessions.now =
    a ∙ ap (λ (x : SessionDef). x ∷ drop (i + 1) c.args.sessions.now) (sym c.index-sessions-session.is) in
    fates_step past i d (drop (i + 1) c.args.sessions.now) _ f.outcome _ _ _ (c.is_killed.ensures ∙ w.killed_once) w.last_outcome c.in_ok-put_session.ensures
    (c.loop-session.invariant ∙ ap (λ (ds : List SessionDef). c.loop-session.out.items ++ fates_text past i ds) e)
