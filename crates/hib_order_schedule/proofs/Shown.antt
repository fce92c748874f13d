-- The runs that are shown are the first steps of an order, and what is left of it rises.
use Rattle.std.specs.Prelude.{replicate}
use Rattle.std.specs.List.{list_all}
use Rattle.std.proofs.Common.{◌≡◌, ℕ, ◌+◌, ◌==◌, inl, inr, true, cond, List, [], ◌∷◌, ◌++◌, Some, refl, sym, ap, ◌∙◌, append-nil, add-one}
use Rattle.std.proofs.lemmas.Bool.{false≢true, eqb-true}
use Rattle.hib_base.proofs.Tables.{Tested, tested}
use Rattle.hib_base.specs.Tables.{Tables}
use Rattle.hib_journal.specs.Types.{Order, Script, Entry}
use Rattle.hib_journal.specs.Sessions.{Journal}
use Rattle.hib_journal.specs.Legal.{IsLegal}
use Rattle.hib_journal.specs.Runs.{IsNumbered, fault_count}
use Rattle.hib_journal.specs.Played.{is_played}
use Rattle.hib_order_law.specs.Orders.{IsRun, onto, steps_in}
use Rattle.hib_order_law.specs.declared.step.Step.{Step}
use Rattle.hib_order_schedule.specs.Schedules.{joined, runs_of, rises, before_tail, shown, steps_of, is_run_or_kill, with_schedule}
use Rattle.hib_order_schedule.proofs.Same.{run_same}
use Rattle.hib_order_schedule.proofs.Plays.{is_all_played}
use Rattle.hib_order_schedule.proofs.Once.{played_once}
use Rattle.hib_order_schedule.proofs.Plain.{undisturbed}

-- ---- runs and kills are their steps

joined_steps : (s : ℕ) (os : List Order) → list_all is_run_or_kill os ≡ true → steps_of (joined s os) ≡ Step.Own s ∷ steps_of os
joined_steps s [] a = refl
joined_steps s (Order.Run t n ∷ os) a = by (tested (t == s))
  where
    by : Tested (t == s) → steps_of (cond (t == s) (Order.Run t (n + 1) ∷ os) (Order.Run s 1 ∷ Order.Run t n ∷ os)) ≡ Step.Own s ∷ (replicate n (Step.Own t) ++ steps_of os)
    by (inl p) = rw (p, add-one n) (ap (λ u. Step.Own u ∷ (replicate n (Step.Own t) ++ steps_of os)) (eqb-true t s p))
    by (inr p) = rw p refl
joined_steps s (Order.Kill t ∷ os) a = refl
joined_steps s (_ ∷ os) a = absurd (false≢true a)

joined_runs : (s : ℕ) (os : List Order) → list_all is_run_or_kill os ≡ true → list_all is_run_or_kill (joined s os) ≡ true
joined_runs s [] a = refl
joined_runs s (Order.Run t n ∷ os) a = by (tested (t == s))
  where
    by : Tested (t == s) → list_all is_run_or_kill (cond (t == s) (Order.Run t (n + 1) ∷ os) (Order.Run s 1 ∷ Order.Run t n ∷ os)) ≡ true
    by (inl p) = rw p a
    by (inr p) = rw p a
joined_runs s (Order.Kill t ∷ os) a = a
joined_runs s (_ ∷ os) a = absurd (false≢true a)

pub all_runs : (ts : List Step) → list_all is_run_or_kill (runs_of ts) ≡ true
all_runs [] = refl
all_runs (Step.Own s ∷ ts) = joined_runs s (runs_of ts) (all_runs ts)
all_runs (Step.Kill s ∷ ts) = all_runs ts

pub steps_are : (ts : List Step) → steps_of (runs_of ts) ≡ ts
steps_are [] = refl
steps_are (Step.Own s ∷ ts) = joined_steps s (runs_of ts) (all_runs ts) ∙ ap (λ us. Step.Own s ∷ us) (steps_are ts)
steps_are (Step.Kill s ∷ ts) = ap (λ us. Step.Kill s ∷ us) (steps_are ts)

-- ---- the tail

pub tail_of : (ts : List Step) → (tail : List Step) × (ts ≡ before_tail ts ++ tail) × (rises tail ≡ true)
tail_of [] = ([], refl, refl)
tail_of (t ∷ ts) = by (tested (rises (t ∷ ts))) (tail_of ts)
  where
    by : Tested (rises (t ∷ ts)) → (tail : List Step) × (ts ≡ before_tail ts ++ tail) × (rises tail ≡ true) →
        (tail : List Step) × (t ∷ ts ≡ before_tail (t ∷ ts) ++ tail) × (rises tail ≡ true)
    by (inl p) x = (t ∷ ts, rw p refl, p)
    by (inr p) x = (x.0, rw p (ap (λ us. t ∷ us) x.1), x.2)

-- ---- a run is played with them

module _ (script : Script) (start : Tables) (most_kills : ℕ) where
  pub plays : (os : List Order) (tail : List Step) (es : List Entry) → IsRun script start most_kills es → list_all is_run_or_kill os ≡ true → steps_in es ≡ steps_of os ++ tail →
      rises tail ≡ true → is_played (with_schedule script os) (onto es []) ≡ true
  plays os tail es r a o t = is_all_played (with_schedule script os) start most_kills es tail (run_same script os start most_kills es r) a o t

  plays_front : (front tail : List Step) (es : List Entry) → IsRun script start most_kills es → steps_in es ≡ front ++ tail → rises tail ≡ true →
      is_played (with_schedule script (runs_of front)) (onto es []) ≡ true
  plays_front front tail es r o t = plays (runs_of front) tail es r (all_runs front) (o ∙ ap (λ ts. ts ++ tail) (sym (steps_are front))) t

  pub plays_whole : (es : List Entry) → IsRun script start most_kills es → is_played (with_schedule script (runs_of (steps_in es))) (onto es []) ≡ true
  plays_whole es r = plays_front (steps_in es) [] es r (sym (append-nil (steps_in es))) refl

  pub plays_shown : (es : List Entry) → IsRun script start most_kills es → is_played (with_schedule script (shown (steps_in es))) (onto es []) ≡ true
  plays_shown es r = let x = tail_of (steps_in es) in plays_front (before_tail (steps_in es)) x.0 es r x.1 x.2

  -- and nothing else is, with the runs and kills of any first steps with which it is played
  front_again : (front : List Step) (es : List Entry) (h : Journal) → IsRun script start most_kills es → is_played (with_schedule script (runs_of front)) (onto es []) ≡ true →
      IsLegal (with_schedule script (runs_of front)) (Some start) h → IsNumbered h → fault_count h ≡ 0 → is_played (with_schedule script (runs_of front)) h ≡ true → h ≡ onto es []
  front_again front es h r p l n f q =
      let other : Script = with_schedule script (runs_of front) in
      played_once other start h (onto es []) (undisturbed other start h (all_runs front) l n f q)
      (run_same script (runs_of front) start most_kills es r).undisturbed q p

  pub whole_again : (es : List Entry) (h : Journal) → IsRun script start most_kills es → IsLegal (with_schedule script (runs_of (steps_in es))) (Some start) h →
      IsNumbered h → fault_count h ≡ 0 → is_played (with_schedule script (runs_of (steps_in es))) h ≡ true → h ≡ onto es []
  whole_again es h r l n f q = front_again (steps_in es) es h r (plays_whole es r) l n f q

  pub comes_again : (es : List Entry) (h : Journal) → IsRun script start most_kills es → IsLegal (with_schedule script (shown (steps_in es))) (Some start) h →
      IsNumbered h → fault_count h ≡ 0 → is_played (with_schedule script (shown (steps_in es))) h ≡ true → h ≡ onto es []
  comes_again es h r l n f q = front_again (before_tail (steps_in es)) es h r (plays_shown es r) l n f q
