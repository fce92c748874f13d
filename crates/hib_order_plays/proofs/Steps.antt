-- A journal of steps: what a step adds, and what sessions add.
use Rattle.std.specs.Prelude.{not, ◌&&◌, ◌||◌, is_some, option_and_then}
use Rattle.std.specs.List.{list_all}
use Rattle.std.proofs.Common.{◌≡◌, ◌++◌, ◌≤◌, ℕ, inl, inr, Bool, true, false, cond, [], ◌∷◌, Some, None, Option, refl, sym, ap, ◌∙◌, subst, arith}
use Rattle.std.proofs.lemmas.Bool.{false≢true, eqb-true}
use Rattle.hib_base.specs.Tables.{Tables}
use Rattle.hib_base.proofs.Tables.{Tested, tested}
use Rattle.hib_journal.specs.Types.{Order, Script, Act, Entry}
use Rattle.hib_journal.specs.Sessions.{Journal, is_by, is_open, was_killed}
use Rattle.hib_journal.specs.Next.{next}
use Rattle.hib_journal.specs.Runs.{is_fault, fault_count}
use Rattle.hib_journal.specs.Played.{Playing, has_next, is_kill, play_one, play_order, play_steps}
use Rattle.hib_journal.specs.Sessions.{own}
use Rattle.hib_journal.proofs.Sessions.{is_some_session}
use Rattle.hib_core.specs.Bound.{one_if_none, outside_count}
use Rattle.hib_core.specs.Playing.{GoesOn, Leads, played}
use Rattle.hib_order_law.specs.Orders.{IsUndisturbed, is_due, is_kill_step, is_killing, is_plain, step_by, step_of, steps_in}
use Rattle.hib_order_law.specs.declared.step.Step.{Step}
use Rattle.hib_order_law.proofs.Begun.{and_both, and_left, and_right}
use Rattle.hib_order_law.proofs.Made.{IsKilling, IsOwn, Stepped, none_some, some_same}
use Rattle.hib_order_law.proofs.Later.{head_stepped, tail}
use Rattle.hib_order_plays.specs.Starts.{are_steps}

abbrev is_step : Entry → Bool
is_step e = is_some e.session || is_killing e.act

-- steps without faults are plain
pub plain_all : (h : Journal) → are_steps h ≡ true → fault_count h ≡ 0 → list_all is_plain h ≡ true
plain_all [] a q = refl
plain_all (e ∷ h) a q =
    and_both (is_plain e) (list_all is_plain h)
    (and_both (is_step e) (not (is_fault e.reply)) (and_left (is_step e) (are_steps h) a) (no_fault (is_fault e.reply) (omega arith)))
    (plain_all h (and_right (is_step e) (are_steps h) a) (omega arith))
  where
    no_fault : (f : Bool) → ◌≡◌ {A = ℕ} (cond f 1 0) 0 → not f ≡ true
    no_fault true q = absurd (omega (arith, q))
    no_fault false q = refl

-- ---- what sessions add

abbrev pub are_of_sessions : Journal → Bool
are_of_sessions h = list_all (λ (e : Entry). is_some e.session) h

more_outside : (l h : Journal) → outside_count h ≤ outside_count (l ++ h)
more_outside [] h = omega arith
more_outside (e ∷ l) h = let i : outside_count h ≤ outside_count (l ++ h) = more_outside l h in omega (arith, i)

pub of_sessions : (l h : Journal) → outside_count (l ++ h) ≡ outside_count h → are_of_sessions l ≡ true
of_sessions [] h p = refl
of_sessions (e ∷ l) h p =
    let m : outside_count h ≤ outside_count (l ++ h) = more_outside l h in
    let z : one_if_none e.session ≡ 0 = omega (arith, m, p) in
    let r : outside_count (l ++ h) ≡ outside_count h = omega (arith, m, p) in
    and_both (is_some e.session) (are_of_sessions l) (some e.session z) (of_sessions l h r)
  where
    some : (o : Option ℕ) → one_if_none o ≡ 0 → is_some o ≡ true
    some None z = absurd (omega (arith, z))
    some (Some s) z = refl

steps_more : (l h : Journal) → are_of_sessions l ≡ true → are_steps h ≡ true → are_steps (l ++ h) ≡ true
steps_more [] h a b = b
steps_more (e ∷ l) h a b =
    and_both (is_step e) (are_steps (l ++ h)) (some (is_some e.session) (is_killing e.act) (and_left (is_some e.session) (are_of_sessions l) a))
    (steps_more l h (and_right (is_some e.session) (are_of_sessions l) a) b)
  where
    some : (a b : Bool) → a ≡ true → (a || b) ≡ true
    some true b p = refl
    some false b p = absurd (false≢true p)

pub steps_by : (old new : Journal) → GoesOn old new → outside_count new ≡ outside_count old → are_steps old ≡ true → are_steps new ≡ true
steps_by old new g o a =
    subst (λ h. are_steps h ≡ true) (sym g.1)
    (steps_more g.0 old (of_sessions g.0 old (subst (λ h. outside_count h ≡ outside_count old) g.1 o)) a)

-- ---- what a step adds

-- one entry was asked for
one_grown : (test : Entry → Bool) (old new added : Journal) → play_one test old (added ++ []) ≡ Some (new, []) → (e : Entry) × (new ≡ e ∷ old) × (test e ≡ true)
one_grown test old new [] p = none_some p
one_grown test old new (e ∷ added) p = by (tested (test e)) p
  where
    by : Tested (test e) → cond {A = Option Playing} (test e) (Some (e ∷ old, added ++ [])) None ≡ Some (new, []) → (e : Entry) × (new ≡ e ∷ old) × (test e ≡ true)
    by (inl q) p = (e, sym (ap (λ (x : Playing). x.0) (some_same (rw q at p))), q)
    by (inr q) p = none_some (rw q at p)

some_back : (o : Option Playing) (x : Playing) → option_and_then {U = Playing} (λ (p : Playing). Some (p.0, p.1)) o ≡ Some x → o ≡ Some x
some_back None x p = none_some p
some_back (Some y) x p = p

due_has : (script : Script) (s : ℕ) (h : Journal) → is_due script h (Step.Own s) ≡ true → has_next script h s ≡ true
due_has script s h = by (was_killed s h) (next script s (own s h))
  where
    by : (b : Bool) (o : Option Act) → is_some (cond b None o) ≡ true → (not b && is_some o) ≡ true
    by true o p = absurd (false≢true p)
    by false o p = p

due_open : (script : Script) (s : ℕ) (h : Journal) → is_due script h (Step.Kill s) ≡ true → is_open s h ≡ true
due_open script s h = by (is_open s h)
  where
    by : (b : Bool) → is_some (cond b (Some (Act.Kill s)) None) ≡ true → b ≡ true
    by true p = refl
    by false p = p

kill_is : (s : ℕ) (by : Option ℕ) (a : Act) → is_kill s a ≡ true → step_by by a ≡ Step.Kill s
kill_is s by (Act.Kill n) p = ap Step.Kill (eqb-true n s p)
kill_is s by _ p = absurd (false≢true p)

killing_is : (s : ℕ) (a : Act) → is_kill s a ≡ true → is_killing a ≡ true
killing_is s (Act.Kill n) p = refl
killing_is s _ p = absurd (false≢true p)

-- a kill leaves steps
pub kill_steps : (script : Script) (s : ℕ) (old new : Journal) → Leads (play_order script (Order.Kill s)) played old new → are_steps old ≡ true → are_steps new ≡ true
kill_steps script s old new w a = by (tested (is_open s old)) (w.plays [])
  where
    right : (a b : Bool) → b ≡ true → (a || b) ≡ true
    right true b p = refl
    right false b p = p

    by : Tested (is_open s old) → play_order script (Order.Kill s) old (w.added ++ []) ≡ Some (new, []) → are_steps new ≡ true
    by (inl t) p =
        let x : (e : Entry) × (new ≡ e ∷ old) × (is_kill s e.act ≡ true) = one_grown (λ e. is_kill s e.act) old new w.added (rw t at p) in
        subst (λ h. are_steps h ≡ true) (sym x.1)
        (and_both (is_step x.0) (are_steps old) (right (is_some x.0.session) (is_killing x.0.act) (killing_is s x.0.act x.2)) a)
    by (inr t) p = subst (λ h. are_steps h ≡ true) (ap (λ (x : Playing). x.0) (some_same (rw t at p))) a

module _ (script : Script) (start : Tables) where
  by_own : (e : Entry) (h : Journal) (s : ℕ) → IsUndisturbed script start (e ∷ h) → is_by s e ≡ true → step_of e ≡ Step.Own s
  by_own e h s u b = by (head_stepped script start e h u)
    where
      by : Stepped script h e → step_of e ≡ Step.Own s
      by (inl x) = let o : IsOwn script h e x.0 = x.1 in o.step ∙ ap Step.Own (some_same (sym o.session ∙ is_some_session s e.session b))
      by (inr x) = let k : IsKilling script h e x.0 = x.1 in none_some (sym k.session ∙ is_some_session s e.session b)

  -- a step of a session was asked for and due
  pub one_own : (t : Step) (s : ℕ) (old new : Journal) → t ≡ Step.Own s → Leads (play_steps script s 1) played old new → IsUndisturbed script start new →
      is_due script old t ≡ true → steps_in new ≡ t ∷ steps_in old
  one_own t s old new e w u d =
      let has : has_next script old s ≡ true = due_has script s old (subst (λ x. is_due script old x ≡ true) e d) in
      let p : play_steps script s 1 old (w.added ++ []) ≡ Some (new, []) = w.plays [] in
      let q : option_and_then {U = Playing} (λ (p : Playing). Some (p.0, p.1)) (play_one (is_by s) old (w.added ++ [])) ≡ Some (new, []) = rw has at p in
      let x : (e : Entry) × (new ≡ e ∷ old) × (is_by s e ≡ true) = one_grown (is_by s) old new w.added (some_back (play_one (is_by s) old (w.added ++ [])) (new, []) q) in
      ap steps_in x.1 ∙ ap (λ y. y ∷ steps_in old) (by_own x.0 old s (subst (IsUndisturbed script start) x.1 u) x.2 ∙ sym e)

  -- a kill was asked for and due
  pub one_kill : (t : Step) (s : ℕ) (old new : Journal) → t ≡ Step.Kill s → Leads (play_order script (Order.Kill s)) played old new → is_due script old t ≡ true →
      steps_in new ≡ t ∷ steps_in old
  one_kill t s old new e w d =
      let stands : is_open s old ≡ true = due_open script s old (subst (λ x. is_due script old x ≡ true) e d) in
      let p : play_order script (Order.Kill s) old (w.added ++ []) ≡ Some (new, []) = w.plays [] in
      let x : (e : Entry) × (new ≡ e ∷ old) × (is_kill s e.act ≡ true) = one_grown (λ e. is_kill s e.act) old new w.added (rw stands at p) in
      ap steps_in x.1 ∙ ap (λ y. y ∷ steps_in old) (kill_is s x.0.session x.0.act x.2 ∙ sym e)

  -- what sessions add kills none
  pub own_steps : (l h : Journal) → IsUndisturbed script start (l ++ h) → are_of_sessions l ≡ true → list_all (λ t. not (is_kill_step t)) (steps_in l) ≡ true
  own_steps [] h u a = refl
  own_steps (e ∷ l) h u a =
      and_both (not (is_kill_step (step_of e))) (list_all (λ t. not (is_kill_step t)) (steps_in l)) (by (head_stepped script start e (l ++ h) u))
      (own_steps l h (tail script start e (l ++ h) u) (and_right (is_some e.session) (are_of_sessions l) a))
    where
      by : Stepped script (l ++ h) e → not (is_kill_step (step_of e)) ≡ true
      by (inl x) = let o : IsOwn script (l ++ h) e x.0 = x.1 in ap (λ t. not (is_kill_step t)) o.step
      by (inr x) =
          let k : IsKilling script (l ++ h) e x.0 = x.1 in
          absurd (false≢true (ap is_some (sym k.session) ∙ and_left (is_some e.session) (are_of_sessions l) a))
