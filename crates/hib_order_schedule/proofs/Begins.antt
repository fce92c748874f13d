-- A script whose schedule begins with the runs and kills of a journal plays that journal first.
use Rattle.std.specs.Prelude.{option_and_then}
use Rattle.std.specs.List.{list_all}
use Rattle.std.proofs.Common.{◌≡◌, ℕ, true, List, [], ◌∷◌, ◌++◌, reverse, Some, Option, refl, sym, ap, ◌∙◌, subst, append-nil}
use Rattle.std.proofs.lemmas.Bool.{and_parts, and_from}
use Rattle.hib_base.specs.Tables.{Tables}
use Rattle.hib_journal.specs.Types.{Order, Script, Entry}
use Rattle.hib_journal.specs.Sessions.{Journal}
use Rattle.hib_journal.specs.Legal.{IsLegal}
use Rattle.hib_journal.specs.Runs.{IsNumbered, fault_count}
use Rattle.hib_journal.specs.Played.{Playing, play_order, play_orders, is_played}
use Rattle.hib_order_law.specs.Orders.{IsUndisturbed, onto, steps_in}
use Rattle.hib_order_law.specs.declared.step.Step.{Step}
use Rattle.hib_order_schedule.specs.Schedules.{is_run_or_kill, runs_of, steps_of}
use Rattle.hib_order_schedule.proofs.Plays.{IsLeft, orders}
use Rattle.hib_order_schedule.proofs.Once.{bound, onto_turned, IsPlayed, played, orders_made}
use Rattle.hib_order_schedule.proofs.Plain.{undisturbed}
use Rattle.hib_order_schedule.proofs.Shown.{all_runs, steps_are}

none_left : (es : List Entry) → steps_in es ≡ [] → es ≡ []
none_left [] p = refl
none_left (e ∷ es) p = absurd (no p)
  where
    no : {t : Step} {ts : List Step} → ◌≡◌ {A = List Step} (t ∷ ts) [] → ⊥
    no e = cc

all_both : (os ps : List Order) → list_all is_run_or_kill os ≡ true → list_all is_run_or_kill ps ≡ true → list_all is_run_or_kill (os ++ ps) ≡ true
all_both [] ps a b = b
all_both (o ∷ os) ps a b =
    let x : (is_run_or_kill o ≡ true) × (list_all is_run_or_kill os ≡ true) = and_parts (is_run_or_kill o) (list_all is_run_or_kill os) a in
    and_from (is_run_or_kill o) (list_all is_run_or_kill (os ++ ps)) x.0 (all_both os ps x.1 b)

module _ (script : Script) where
  -- orders are played one part after the other
  parts : (os ps : List Order) (h es : Journal) (p : Playing) → play_orders script (os ++ ps) h es ≡ Some p →
      (x : Playing) × (play_orders script os h es ≡ Some x) × (play_orders script ps x.0 x.1 ≡ Some p)
  parts [] ps h es p q = ((h, es), refl, q)
  parts (o ∷ os) ps h es p q =
      let x = bound (λ p. play_orders script (os ++ ps) p.0 p.1) (play_order script o h es) p q in
      let y = parts os ps x.0.0 x.0.1 p x.2 in
      (y.0, ap (option_and_then (λ p. play_orders script os p.0 p.1)) x.1 ∙ y.1, y.2)

module _ (script : Script) (start : Tables) where
  front : (os more : List Order) (es : List Entry) (h : Journal) → IsUndisturbed script start (onto es []) → IsUndisturbed script start h →
      list_all is_run_or_kill os ≡ true → steps_in es ≡ steps_of os → script.schedule ≡ os ++ more → is_played script h ≡ true →
      (rest : List Entry) × (h ≡ onto rest (onto es []))
  front os more es h u v a o s p =
      let x = played script h p in
      let q : play_orders script (os ++ more) [] (reverse h) ≡ Some x.mid = subst (λ l. play_orders script l [] (reverse h) ≡ Some x.mid) s x.orders in
      let y = parts script os more [] (reverse h) x.mid q in
      let i = orders_made script start os [] (reverse h) y.0 (subst (IsUndisturbed script start) (sym (onto_turned h)) v) y.1 in
      let w = orders script start os [] es [] u a (o ∙ sym (append-nil (steps_of os))) in
      let j = orders_made script start os [] es (w.past, w.rest) u w.at in
      let k : w.past ≡ onto es [] = sym (ap (λ l. onto l w.past) (none_left w.rest w.left)) ∙ w.same in
      (y.0.1, sym (i.same ∙ onto_turned h) ∙ ap (onto y.0.1) (i.made ∙ (sym j.made ∙ k)))

pub begins_so : (script : Script) (start : Tables) (es : List Entry) (more : List Order) (h : Journal) → IsUndisturbed script start (onto es []) →
    script.schedule ≡ runs_of (steps_in es) ++ more → list_all is_run_or_kill more ≡ true → IsLegal script (Some start) h → IsNumbered h → fault_count h ≡ 0 →
    is_played script h ≡ true → (rest : List Entry) × (h ≡ onto rest (onto es []))
begins_so script start es more h u s m l n f p =
    let os : List Order = runs_of (steps_in es) in
    let a : list_all is_run_or_kill script.schedule ≡ true = subst (λ l. list_all is_run_or_kill l ≡ true) (sym s) (all_both os more (all_runs (steps_in es)) m) in
    front script start os more es h u (undisturbed script start h a l n f p) (all_runs (steps_in es)) (sym (steps_are (steps_in es))) s p
