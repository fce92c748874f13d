-- What leaves an order at a place is how another order of its run may begin.
use Rattle.std.specs.Prelude.{length, drop, take, is_some, not, ◌&&◌, ◌||◌, ◌==◌}
use Rattle.std.proofs.Common.{◌≡◌, ◌++◌, ◌+◌, ◌<◌, ◌≤◌, ◌⊎◌, ℕ, zero, suc, inl, inr, Bool, true, false, cond, List, [], ◌∷◌, Some, None, refl, sym, ap, ◌∙◌, subst, arith}
use Rattle.std.proofs.lemmas.Bool.{false≢true, true≢false}
use Rattle.hib_base.specs.Tables.{Tables}
use Rattle.hib_journal.specs.Types.{Script, Act, Entry}
use Rattle.hib_journal.specs.Sessions.{Journal, is_open, open_after, own, was_killed}
use Rattle.hib_journal.specs.Legal.{is_outside}
use Rattle.hib_journal.specs.Next.{next}
use Rattle.hib_journal.specs.Played.{has_next}
use Rattle.hib_order_law.specs.Orders.{IsOther, IsRun, IsUndisturbed, comes, is_due, is_kill_step, is_unkilled, kills, onto, step_of, steps_in, turn_by, turns_in}
use Rattle.hib_order_law.specs.Search.{AreOthers}
use Rattle.hib_order_law.specs.declared.step.Step.{Step}
use Rattle.hib_order_law.specs.declared.step.Turn.{Turn}
use Rattle.hib_order_law.proofs.Begun.{and_both, and_left, and_right}
use Rattle.hib_order_law.proofs.Made.{IsKilling, IsOwn, Stepped}
use Rattle.hib_order_law.proofs.Later.{base, head_stepped, is_free, later}
use Rattle.hib_order_tries.specs.Found.{IsBelow}
use Rattle.hib_order_tries.specs.Left.{AreBeside, IsBeside, first_of, is_at, may_come, open_by, open_with, opens}
use Rattle.hib_order_tries.proofs.Opened.{kills-push}

-- which step may come at a place, if these sessions are open at first
abbrev come_at : (ℕ → Bool) → List Step → List Turn → ℕ → Step → Bool
come_at first order turns at (Step.Own s) = comes s (drop at order)
come_at first order turns at (Step.Kill s) = opens s (take at order) (take at turns) (first s)

-- one step further on
come_next : (first : ℕ → Bool) (now : ℕ → Bool) (t : Step) (u : Turn) (order : List Step) (turns : List Turn) (at : ℕ) (step : Step) → ((s : ℕ) → now s ≡ open_with s t u (first s)) →
    come_at first (t ∷ order) (u ∷ turns) (suc at) step ≡ come_at now order turns at step
come_next first now t u order turns at (Step.Own s) f = refl
come_next first now t u order turns at (Step.Kill s) f = ap (λ b. opens s (take at order) (take at turns) b) (sym (f s))

record Leaves (first : ℕ → Bool) (n : ℕ) (order : List Step) (turns : List Turn) (other : List Step) : Type 0 where
  at : ℕ
  step : Step
  later : n ≤ at
  inside : at ≤ length order
  is : other ≡ first_of order at step
  apart : is_at order at step ≡ false
  due : come_at first order turns at step ≡ true

-- whether a session is open after an act of its own
own_opens : (n s : ℕ) (a : Act) (o : Bool) → is_outside a ≡ false → open_after s (Some n) a o ≡ open_by (n == s) (turn_by a) o
own_opens n s (Act.Kill m) o p = absurd (true≢false p)
own_opens n s Act.Restart o p = absurd (true≢false p)
own_opens n s Act.Begin o p = refl
own_opens n s Act.End o p = refl
own_opens n s _ o p = refl

module _ (script : Script) (start : Tables) where
  open_step : (e : Entry) (h : Journal) (s : ℕ) → IsUndisturbed script start (e ∷ h) → is_open s (e ∷ h) ≡ open_with s (step_of e) (turn_by e.act) (is_open s h)
  open_step e h s u = by (head_stepped script start e h u)
    where
      by : Stepped script h e → is_open s (e ∷ h) ≡ open_with s (step_of e) (turn_by e.act) (is_open s h)
      by (inl x) =
          let o : IsOwn script h e x.0 = x.1 in
          ap (λ b. open_after s b e.act (is_open s h)) o.session ∙ own_opens x.0 s e.act (is_open s h) o.inside ∙ ap (λ t. open_with s t (turn_by e.act) (is_open s h)) (sym o.step)
      by (inr x) =
          let k : IsKilling script h e x.0 = x.1 in
          ap (λ b. open_after s b e.act (is_open s h)) k.session ∙ ap (λ a. open_after s None a (is_open s h)) k.act ∙ ap (λ t. open_with s t (turn_by e.act) (is_open s h)) (sym k.step)

  -- both go on from a journal, and are over
  record Goes (h : Journal) (es : List Entry) : Type 0 where
    whole : IsUndisturbed script start (onto es h)
    over : (s : ℕ) → has_next script (onto es h) s ≡ false

  step_on : (e : Entry) (h : Journal) (es : List Entry) → Goes h (e ∷ es) → Goes (e ∷ h) es
  step_on e h es g = record { whole = g.whole; over = g.over }

  due_own : (h : Journal) (s : ℕ) → is_due script h (Step.Own s) ≡ has_next script h s
  due_own h s = by (was_killed s h)
    where
      by : (b : Bool) → is_some (cond b None (next script s (own s h))) ≡ (not b && is_some (next script s (own s h)))
      by true = refl
      by false = refl

  due_kill : (h : Journal) (s : ℕ) → is_due script h (Step.Kill s) ≡ is_open s h
  due_kill h s = by (is_open s h)
    where
      by : (b : Bool) → is_some (cond b (Some (Act.Kill s)) None) ≡ b
      by true = refl
      by false = refl

  -- what may come first
  due_here : (es : List Entry) (h : Journal) (t : Step) → Goes h es → is_free (steps_in es) ≡ true →
      is_due script h t ≡ come_at (λ s. is_open s h) (steps_in es) (turns_in es) 0 t
  due_here es h (Step.Own s) g f = due_own h s ∙ later script start es h s g.whole f (g.over s)
  due_here es h (Step.Kill s) g f = due_kill h s

  free_on : (n : ℕ) (e : Entry) (es : List Entry) → is_unkilled n (steps_in (e ∷ es)) ≡ true → (n ≡ 0) → is_free (steps_in es) ≡ true
  free_on n e es f z = and_right (not (is_kill_step (step_of e))) (is_free (steps_in es)) (subst (λ k. is_unkilled k (steps_in (e ∷ es)) ≡ true) z f)

  two : {x y : Step} {xs ys : List Step} → x ≡ y → xs ≡ ys → x ∷ xs ≡ y ∷ ys
  two p q = cc

  further : (m n : ℕ) (e : Entry) (h : Journal) (es : List Entry) (t : Step) (ts : List Step) → Goes h (e ∷ es) → step_of e ≡ t → m ≤ suc n →
      Leaves (λ s. is_open s (e ∷ h)) n (steps_in es) (turns_in es) ts → Leaves (λ s. is_open s h) m (steps_in (e ∷ es)) (turns_in (e ∷ es)) (t ∷ ts)
  further m n e h es t ts g p l x = record {
    at = suc x.at;
    step = x.step;
    later = less x.at x.later;
    inside = more x.at (length (steps_in es)) x.inside;
    is = two (sym p) x.is;
    apart = x.apart;
    due = come_next (λ s. is_open s h) (λ s. is_open s (e ∷ h)) (step_of e) (turn_by e.act) (steps_in es) (turns_in es) x.at x.step
        (λ s. open_step e h s (base script start es (e ∷ h) g.whole)) ∙ x.due;
  }
    where
      less : (k : ℕ) → n ≤ k → m ≤ suc k
      less k q = omega arith

      more : (k o : ℕ) → k ≤ o → suc k ≤ suc o
      more k o q = omega arith

  to_leaves : (n : ℕ) (es : List Entry) (h : Journal) (other : List Step) → Goes h es → is_unkilled n (steps_in es) ≡ true → IsOther script h n es other →
      Leaves (λ s. is_open s h) n (steps_in es) (turns_in es) other
  to_leaves n es h [] g f x = absurd x
  to_leaves zero [] h (t ∷ ts) g f x =
      record { at = 0; step = t; later = omega arith; inside = omega arith; is = ap (λ l. t ∷ l) x.0; apart = refl; due = sym (due_here [] h t g f) ∙ x.1 }
  to_leaves (suc n) [] h (t ∷ ts) g f x = absurd x
  to_leaves zero (e ∷ es) h (t ∷ ts) g f (inl x) =
      further zero zero e h es t ts g x.0 (omega arith) (to_leaves zero es (e ∷ h) ts (step_on e h es g) (free_on zero e es f refl) x.1)
  to_leaves zero (e ∷ es) h (t ∷ ts) g f (inr x) =
      record { at = 0; step = t; later = omega arith; inside = omega arith; is = ap (λ l. t ∷ l) x.0; apart = x.1; due = sym (due_here (e ∷ es) h t g f) ∙ x.2 }
  to_leaves (suc n) (e ∷ es) h (t ∷ ts) g f x = further (suc n) n e h es t ts g x.0 (omega arith) (to_leaves n es (e ∷ h) ts (step_on e h es g) f x.1)

  from_leaves : (at n : ℕ) (es : List Entry) (h : Journal) (t : Step) → Goes h es → is_unkilled n (steps_in es) ≡ true → n ≤ at → at ≤ length (steps_in es) →
      is_at (steps_in es) at t ≡ false → come_at (λ s. is_open s h) (steps_in es) (turns_in es) at t ≡ true → IsOther script h n es (first_of (steps_in es) at t)
  from_leaves zero zero [] h t g f l i a d = (refl, due_here [] h t g f ∙ d)
  from_leaves zero zero (e ∷ es) h t g f l i a d = inr (refl, a, due_here (e ∷ es) h t g f ∙ d)
  from_leaves zero (suc n) es h t g f l i a d = absurd (no n l)
    where
      no : (n : ℕ) → suc n ≤ 0 → ⊥
      no n l = omega arith
  from_leaves (suc at) n [] h t g f l i a d = absurd (no at i)
    where
      no : (n : ℕ) → suc n ≤ 0 → ⊥
      no n l = omega arith
  from_leaves (suc at) zero (e ∷ es) h t g f l i a d =
      inl (
        refl,
        from_leaves at zero es (e ∷ h) t (step_on e h es g) (free_on zero e es f refl) (omega arith) (omega arith) a
            (sym (come_next (λ s. is_open s h) (λ s. is_open s (e ∷ h)) (step_of e) (turn_by e.act) (steps_in es) (turns_in es) at t
            (λ s. open_step e h s (base script start es (e ∷ h) g.whole))) ∙ d),
      )
  from_leaves (suc at) (suc n) (e ∷ es) h t g f l i a d = (
    refl,
    from_leaves at n es (e ∷ h) t (step_on e h es g) f (omega arith) (omega arith) a
        (sym (come_next (λ s. is_open s h) (λ s. is_open s (e ∷ h)) (step_of e) (turn_by e.act) (steps_in es) (turns_in es) at t
        (λ s. open_step e h s (base script start es (e ∷ h) g.whole))) ∙ d),
  )

-- with a bound of kills

kills_take : (at : ℕ) (order : List Step) → kills (take at order) ≤ kills order
kills_take zero order = omega arith
kills_take (suc at) [] = omega arith
kills_take (suc at) (t ∷ order) = more (cond (is_kill_step t) 1 0) (kills (take at order)) (kills order) (kills_take at order)
  where
    more : (c a b : ℕ) → a ≤ b → c + a ≤ c + b
    more c a b l = omega arith

free_kills : (order : List Step) → is_free order ≡ true → kills order ≡ 0
free_kills [] f = refl
free_kills (Step.Own s ∷ order) f = zero_more (kills order) (free_kills order f)
  where
    zero_more : (n : ℕ) → n ≡ 0 → 0 + n ≡ 0
    zero_more n p = omega arith
free_kills (Step.Kill s ∷ order) f = absurd (false≢true f)

kills_all : (n at : ℕ) (order : List Step) → is_unkilled n order ≡ true → n ≤ at → kills order ≤ kills (take at order)
kills_all zero at order f l = none (kills order) (kills (take at order)) (free_kills order f)
  where
    none : (a b : ℕ) → a ≡ 0 → a ≤ b
    none a b p = omega arith
kills_all (suc n) zero order f l = absurd (no n l)
  where
    no : (n : ℕ) → suc n ≤ 0 → ⊥
    no n l = omega arith
kills_all (suc n) (suc at) [] f l = omega arith
kills_all (suc n) (suc at) (t ∷ order) f l = more (cond (is_kill_step t) 1 0) (kills order) (kills (take at order)) (kills_all n at order f (omega arith))
  where
    more : (c a b : ℕ) → a ≤ b → c + a ≤ c + b
    more c a b l = omega arith

-- what may come if a kill may, and if none may
may_come_is : (may_kill : Bool) (order : List Step) (turns : List Turn) (at : ℕ) (t : Step) → may_come may_kill order turns at t ≡ true →
    (come_at (λ s. false) order turns at t ≡ true) × (is_kill_step t ≡ true → may_kill ≡ true)
may_come_is may_kill order turns at (Step.Own s) p = (p, λ q. absurd (false≢true q))
may_come_is may_kill order turns at (Step.Kill s) p =
    (and_right may_kill (opens s (take at order) (take at turns) false) p, λ q. and_left may_kill (opens s (take at order) (take at turns) false) p)

is_may_come : (may_kill : Bool) (order : List Step) (turns : List Turn) (at : ℕ) (t : Step) → come_at (λ s. false) order turns at t ≡ true →
    (is_kill_step t ≡ true → may_kill ≡ true) → may_come may_kill order turns at t ≡ true
is_may_come may_kill order turns at (Step.Own s) p k = p
is_may_come may_kill order turns at (Step.Kill s) p k = and_both may_kill (opens s (take at order) (take at turns) false) (k refl) p

module _ (script : Script) (start : Tables) (run_kills most_kills level from : ℕ) (es : List Entry) (there : List (List Step)) (may_kill cut : Bool) (r : IsRun script start run_kills es)
    (f : is_unkilled from (steps_in es) ≡ true) (k : kills (steps_in es) ≤ most_kills) (m : IsBelow (kills (steps_in es)) most_kills may_kill)
    (a : AreBeside may_kill level from (steps_in es) (turns_in es) there cut) where
  g : Goes script start [] es
  g = record { whole = r.undisturbed; over = r.over }

  to_other : (other : List Step) → IsBeside may_kill from (steps_in es) (turns_in es) other → IsOther script [] from es other × (kills other ≤ most_kills)
  to_other other b = (
    subst (λ x. IsOther script [] from es x) (sym b.is)
        (from_leaves script start b.at from es [] b.step g f b.later b.inside b.apart (may_come_is may_kill (steps_in es) (turns_in es) b.at b.step b.due).0),
    subst (λ x. kills x ≤ most_kills) (sym b.is) (few b.step (may_come_is may_kill (steps_in es) (turns_in es) b.at b.step b.due).1),
  )
    where
      none : (n x y : ℕ) → n ≡ x + 0 → x ≤ y → y ≤ most_kills → n ≤ most_kills
      none n x y p q l = omega arith

      one : (n x y : ℕ) → n ≡ x + 1 → x ≤ y → y < most_kills → n ≤ most_kills
      one n x y p q l = omega arith

      few : (t : Step) → (is_kill_step t ≡ true → may_kill ≡ true) → kills (first_of (steps_in es) b.at t) ≤ most_kills
      few (Step.Own s) q =
          none (kills (first_of (steps_in es) b.at (Step.Own s))) (kills (take b.at (steps_in es))) (kills (steps_in es)) (kills-push (take b.at (steps_in es)) (Step.Own s))
          (kills_take b.at (steps_in es)) k
      few (Step.Kill s) q =
          one (kills (first_of (steps_in es) b.at (Step.Kill s))) (kills (take b.at (steps_in es))) (kills (steps_in es)) (kills-push (take b.at (steps_in es)) (Step.Kill s))
          (kills_take b.at (steps_in es)) (m.0 (q refl))

  from_other : (other : List Step) → IsOther script [] from es other → kills other ≤ most_kills → IsBeside may_kill from (steps_in es) (turns_in es) other
  from_other other o l = by (to_leaves script start from es [] other g f o)
    where
      by : Leaves (λ s. is_open s []) from (steps_in es) (turns_in es) other → IsBeside may_kill from (steps_in es) (turns_in es) other
      by x = record {
        at = x.at;
        step = x.step;
        later = x.later;
        inside = x.inside;
        is = x.is;
        apart = x.apart;
        due = is_may_come may_kill (steps_in es) (turns_in es) x.at x.step x.due (may x.step x.is);
      }
        where
          no : (n y z : ℕ) → n ≡ y + 1 → z ≤ y → n ≤ most_kills → most_kills ≤ z → ⊥
          no n y z p q r s = omega arith

          able : (b : Bool) → (b ≡ false → ⊥) → b ≡ true
          able true h = refl
          able false h = absurd (h refl)

          may : (t : Step) → other ≡ first_of (steps_in es) x.at t → is_kill_step t ≡ true → may_kill ≡ true
          may (Step.Own s) e q = absurd (false≢true q)
          may (Step.Kill s) e q =
              able may_kill (λ z. no (kills other) (kills (take x.at (steps_in es))) (kills (steps_in es)) (ap (λ y. kills y) e ∙ kills-push (take x.at (steps_in es)) (Step.Kill s))
              (kills_all from x.at (steps_in es) f x.later) l (m.1 z))

  -- those that leave a run are the others of it
  pub beside_others : AreOthers script most_kills level from es there cut
  beside_others = record {
    each = λ other c. let b = a.each other c in let o = to_other other b.0 in (o.0, o.1, b.1);
    once = a.once;
    all = λ other o l. a.all other (from_other other o l);
    more = λ p. let b = a.more p in let o = to_other b.0 b.1 in (b.0, o.0, o.1, b.2);
  }
