-- The runs and kills of an order may be a schedule, if they are few and it is short.
use Rattle.std.specs.List.{list_all}
use Rattle.std.proofs.Common.{◌≡◌, ℕ, suc, ◌+◌, ◌≤◌, ◌==◌, inl, inr, Bool, true, false, cond, ◌&&◌, ltb, leb, List, [], ◌∷◌, length, Option, refl, sym, ap, ◌∙◌, arith}
use Rattle.std.proofs.lemmas.Bool.{false≢true, true≢false, and_parts, and_from, eqb-true, ltb-false, leb-true, le-leb}
use Rattle.hib_base.specs.Tables.{Tables}
use Rattle.hib_base.specs.Valid.{is_order_in, max_orders, max_steps}
use Rattle.hib_base.proofs.Tables.{Tested, tested}
use Rattle.hib_journal.specs.Types.{Order, Script, Act, Entry}
use Rattle.hib_journal.specs.Sessions.{Journal, is_by, is_open, is_session, open_after}
use Rattle.hib_order_law.specs.Orders.{IsUndisturbed, IsRun, onto, step_of, steps_in, whose}
use Rattle.hib_order_law.specs.declared.step.Step.{Step}
use Rattle.hib_order_law.proofs.Made.{IsKilling, IsOwn, Stepped}
use Rattle.hib_order_law.proofs.Later.{base, head_stepped, tail}
use Rattle.hib_order_schedule.specs.Schedules.{joined, runs_of, rises, before_tail, shown, is_run_or_kill, may_be_schedule}
use Rattle.hib_order_schedule.proofs.Plays.{none_unknown}

-- ---- the sessions of an order

-- what another session does opens none
open_other : (s : ℕ) (by : Option ℕ) (a : Act) → is_session s by ≡ false → open_after s by a false ≡ false
open_other s by Act.Begin p = rw p refl
open_other s by Act.End p = rw p refl
open_other s by (Act.Kill n) p = same (n == s)
  where
    same : (b : Bool) → cond b false false ≡ false
    same true = refl
    same false = refl
open_other s by Act.Restart p = refl
open_other s by _ p = refl

module _ (script : Script) (start : Tables) where
  own_known : (e : Entry) (h : Journal) (s : ℕ) → IsOwn script h e s → length script.sessions ≤ s → ⊥
  own_known e h s o l = false≢true (sym (none_unknown script s h l) ∙ rw (o.alive, o.next))

  -- a session that isn't there is never open
  never_open : (s : ℕ) (h : Journal) → IsUndisturbed script start h → length script.sessions ≤ s → is_open s h ≡ false
  never_open s [] u l = refl
  never_open s (e ∷ h) u l = rw (never_open s h (tail script start e h u) l) (open_other s e.session e.act (not_by (tested (is_by s e)) (head_stepped script start e h u)))
    where
      not_by : Tested (is_by s e) → Stepped script h e → is_by s e ≡ false
      not_by (inr t) x = t
      not_by (inl t) (inl x) =
          let o : IsOwn script h e x.0 = x.1 in
          let q : x.0 ≡ s = eqb-true x.0 s (sym (ap (is_session s) o.session) ∙ t) in
          absurd (own_known e h x.0 o (omega (arith, q)))
      not_by (inl t) (inr x) = let k : IsKilling script h e x.0 = x.1 in absurd (false≢true (ap (is_session s) (sym k.session) ∙ t))

  step_known : (e : Entry) (h : Journal) → IsUndisturbed script start (e ∷ h) → length script.sessions ≤ whose (step_of e) → ⊥
  step_known e h u l = by (head_stepped script start e h u)
    where
      by : Stepped script h e → ⊥
      by (inl x) = let o : IsOwn script h e x.0 = x.1 in own_known e h x.0 o (omega (arith, ap whose o.step))
      by (inr x) =
          let k : IsKilling script h e x.0 = x.1 in
          true≢false (sym k.stands ∙ never_open x.0 h (tail script start e h u) (omega (arith, ap whose k.step)))

  all_below : (es : List Entry) (h : Journal) → IsUndisturbed script start (onto es h) → list_all (λ t. ltb (whose t) (length script.sessions)) (steps_in es) ≡ true
  all_below [] h u = refl
  all_below (e ∷ es) h u =
      and_from (ltb (whose (step_of e)) (length script.sessions)) (list_all (λ t. ltb (whose t) (length script.sessions)) (steps_in es))
      (by (tested (ltb (whose (step_of e)) (length script.sessions)))) (all_below es (e ∷ h) u)
    where
      by : Tested (ltb (whose (step_of e)) (length script.sessions)) → ltb (whose (step_of e)) (length script.sessions) ≡ true
      by (inl p) = p
      by (inr p) = absurd (step_known e h (base script start es (e ∷ h) u) (ltb-false (whose (step_of e)) (length script.sessions) p))

front_all : (p : Step → Bool) (ss : List Step) → list_all p ss ≡ true → list_all p (before_tail ss) ≡ true
front_all p [] a = refl
front_all p (s ∷ ss) a = by (tested (rises (s ∷ ss))) (front_all p ss (and_parts (p s) (list_all p ss) a).1)
  where
    by : Tested (rises (s ∷ ss)) → list_all p (before_tail ss) ≡ true → list_all p (before_tail (s ∷ ss)) ≡ true
    by (inl r) f = rw r refl
    by (inr r) f = rw r (and_from (p s) (list_all p (before_tail ss)) (and_parts (p s) (list_all p ss) a).0 f)

front_short : (ss : List Step) → length (before_tail ss) ≤ length ss
front_short [] = omega arith
front_short (s ∷ ss) = by (tested (rises (s ∷ ss))) (front_short ss)
  where
    by : Tested (rises (s ∷ ss)) → length (before_tail ss) ≤ length ss → length (before_tail (s ∷ ss)) ≤ length (s ∷ ss)
    by (inl r) l = rw r (omega arith)
    by (inr r) l = rw r (omega arith)

-- ---- their runs

-- a run of one of n sessions, of b steps at most, or the kill of one
abbrev within : ℕ → ℕ → Order → Bool
within n b (Order.Run s m) = ltb s n && (leb 1 m && leb m b)
within n b (Order.Kill s) = ltb s n
within n b o = false

within_more : (n b c : ℕ) (o : Order) → b ≤ c → within n b o ≡ true → within n c o ≡ true
within_more n b c (Order.Run s m) l p =
    let one : (ltb s n ≡ true) × ((leb 1 m && leb m b) ≡ true) = and_parts (ltb s n) (leb 1 m && leb m b) p in
    let two : (leb 1 m ≡ true) × (leb m b ≡ true) = and_parts (leb 1 m) (leb m b) one.1 in
    let k : m ≤ b = leb-true m b two.1 in
    and_from (ltb s n) (leb 1 m && leb m c) one.0 (and_from (leb 1 m) (leb m c) two.0 (le-leb m c (omega arith)))
within_more n b c (Order.Kill s) l p = p
within_more n b c _ l p = absurd (false≢true p)

all_more : (n b c : ℕ) (os : List Order) → b ≤ c → list_all (within n b) os ≡ true → list_all (within n c) os ≡ true
all_more n b c [] l p = refl
all_more n b c (o ∷ os) l p =
    let both : (within n b o ≡ true) × (list_all (within n b) os ≡ true) = and_parts (within n b o) (list_all (within n b) os) p in
    and_from (within n c o) (list_all (within n c) os) (within_more n b c o l both.0) (all_more n b c os l both.1)

one_step : (n b s : ℕ) → ltb s n ≡ true → within n (suc b) (Order.Run s 1) ≡ true
one_step n b s p = and_from (ltb s n) (leb 1 1 && leb 1 (suc b)) p (and_from (leb 1 1) (leb 1 (suc b)) refl (le-leb 1 (suc b) (omega arith)))

step_more : (n b s m : ℕ) → within n b (Order.Run s m) ≡ true → within n (suc b) (Order.Run s (m + 1)) ≡ true
step_more n b s m p =
    let one : (ltb s n ≡ true) × ((leb 1 m && leb m b) ≡ true) = and_parts (ltb s n) (leb 1 m && leb m b) p in
    let k : m ≤ b = leb-true m b (and_parts (leb 1 m) (leb m b) one.1).1 in
    and_from (ltb s n) (leb 1 (m + 1) && leb (m + 1) (suc b)) one.0 (and_from (leb 1 (m + 1)) (leb (m + 1) (suc b)) (le-leb 1 (m + 1) (omega arith)) (le-leb (m + 1) (suc b) (omega arith)))

joined_within : (n b s : ℕ) (os : List Order) → ltb s n ≡ true → list_all (within n b) os ≡ true → list_all (within n (suc b)) (joined s os) ≡ true
joined_within n b s [] q p = and_from (within n (suc b) (Order.Run s 1)) true (one_step n b s q) refl
joined_within n b s (Order.Run t m ∷ os) q p = by (tested (t == s))
  where
    both : (within n b (Order.Run t m) ≡ true) × (list_all (within n b) os ≡ true)
    both = and_parts (within n b (Order.Run t m)) (list_all (within n b) os) p

    by : Tested (t == s) → list_all (within n (suc b)) (cond (t == s) (Order.Run t (m + 1) ∷ os) (Order.Run s 1 ∷ Order.Run t m ∷ os)) ≡ true
    by (inl e) = rw e (and_from (within n (suc b) (Order.Run t (m + 1))) (list_all (within n (suc b)) os) (step_more n b t m both.0) (all_more n b (suc b) os (omega arith) both.1))
    by (inr e) = rw e (and_from (within n (suc b) (Order.Run s 1)) (list_all (within n (suc b)) (Order.Run t m ∷ os)) (one_step n b s q) (all_more n b (suc b) (Order.Run t m ∷ os) (omega arith) p))
joined_within n b s (Order.Kill t ∷ os) q p =
    and_from (within n (suc b) (Order.Run s 1)) (list_all (within n (suc b)) (Order.Kill t ∷ os)) (one_step n b s q) (all_more n b (suc b) (Order.Kill t ∷ os) (omega arith) p)
joined_within n b s (_ ∷ os) q p = absurd (false≢true p)

runs_within : (n : ℕ) (ts : List Step) → list_all (λ t. ltb (whose t) n) ts ≡ true → list_all (within n (length ts)) (runs_of ts) ≡ true
runs_within n [] p = refl
runs_within n (Step.Own s ∷ ts) p =
    let both : (ltb s n ≡ true) × (list_all (λ t. ltb (whose t) n) ts ≡ true) = and_parts (ltb s n) (list_all (λ t. ltb (whose t) n) ts) p in
    joined_within n (length ts) s (runs_of ts) both.0 (runs_within n ts both.1)
runs_within n (Step.Kill s ∷ ts) p =
    let both : (ltb s n ≡ true) × (list_all (λ t. ltb (whose t) n) ts ≡ true) = and_parts (ltb s n) (list_all (λ t. ltb (whose t) n) ts) p in
    and_from (ltb s n) (list_all (within n (suc (length ts))) (runs_of ts)) both.0 (all_more n (length ts) (suc (length ts)) (runs_of ts) (omega arith) (runs_within n ts both.1))

-- ---- may be a schedule

fits_one : (n : ℕ) (o : Order) → within n max_steps o ≡ true → (is_run_or_kill o && is_order_in n o) ≡ true
fits_one n (Order.Run s m) p = p
fits_one n (Order.Kill s) p = p
fits_one n _ p = p

fits_all : (n : ℕ) (os : List Order) → list_all (within n max_steps) os ≡ true → list_all (λ o. is_run_or_kill o && is_order_in n o) os ≡ true
fits_all n [] p = refl
fits_all n (o ∷ os) p =
    let both : (within n max_steps o ≡ true) × (list_all (within n max_steps) os ≡ true) = and_parts (within n max_steps o) (list_all (within n max_steps) os) p in
    and_from (is_run_or_kill o && is_order_in n o) (list_all (λ o. is_run_or_kill o && is_order_in n o) os) (fits_one n o both.0) (fits_all n os both.1)

steps_of_run : (es : List Entry) → length (steps_in es) ≡ length es
steps_of_run [] = refl
steps_of_run (e ∷ es) = rw (steps_of_run es) refl

pub fitting : (script : Script) (start : Tables) (most_kills : ℕ) (es : List Entry) → IsRun script start most_kills es → length (shown (steps_in es)) ≤ max_orders →
    length es ≤ max_steps → may_be_schedule (length script.sessions) (shown (steps_in es)) ≡ true
fitting script start most_kills es r few short =
    let n : ℕ = length script.sessions in
    let ts : List Step = before_tail (steps_in es) in
    let l : length ts ≤ max_steps = omega (arith, front_short (steps_in es), steps_of_run es) in
    let a = runs_within n ts (front_all (λ t. ltb (whose t) n) (steps_in es) (all_below script start es [] r.undisturbed)) in
    and_from (leb (length (runs_of ts)) max_orders) (list_all (λ o. is_run_or_kill o && is_order_in n o) (runs_of ts)) (le-leb (length (runs_of ts)) max_orders few)
    (fits_all n (runs_of ts) (all_more n (length ts) max_steps (runs_of ts) l a))
