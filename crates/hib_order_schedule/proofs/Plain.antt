-- What runs and kills alone play without faults is undisturbed.
use Rattle.std.specs.Prelude.{is_some, not, ◌||◌}
use Rattle.std.specs.List.{list_all}
use Rattle.std.proofs.Common.{◌≡◌, ℕ, zero, suc, ◌+◌, inl, inr, Bool, true, false, cond, List, [], ◌∷◌, length, reverse, Some, None, refl, sym, ap, ◌∙◌, subst, arith}
use Rattle.std.proofs.lemmas.Bool.{false≢true, and_parts, and_from}
use Rattle.hib_base.specs.Tables.{Tables}
use Rattle.hib_base.proofs.Tables.{Tested, tested}
use Rattle.hib_journal.specs.Types.{Order, Script, Act, Reply, Entry}
use Rattle.hib_journal.specs.Sessions.{Journal, is_by, is_open}
use Rattle.hib_journal.specs.Legal.{IsLegal}
use Rattle.hib_journal.specs.Runs.{IsNumbered, is_fault, fault_count}
use Rattle.hib_journal.specs.Played.{Playing, has_next, is_kill, play_one, play_steps, play_order, play_orders, play_sessions, is_played}
use Rattle.hib_journal.proofs.Sessions.{is_some_session}
use Rattle.hib_order_law.specs.Orders.{is_killing, is_plain, IsUndisturbed, onto}
use Rattle.hib_order_law.proofs.Made.{none_some, some_same}
use Rattle.hib_order_schedule.specs.Schedules.{is_run_or_kill}
use Rattle.hib_order_schedule.proofs.Once.{bound, onto_turned, played}

-- ---- each entry that is played is a session's, or kills one

abbrev is_step : Entry → Bool
is_step e = is_some e.session || is_killing e.act

some_is : (s : ℕ) (e : Entry) → is_by s e ≡ true → is_step e ≡ true
some_is s e b = rw (is_some_session s e.session b) refl

kill_is : (s : ℕ) (e : Entry) → is_kill s e.act ≡ true → is_step e ≡ true
kill_is s e b = or_true (is_some e.session) (is_killing e.act) (killing e.act b)
  where
    or_true : (a b : Bool) → b ≡ true → (a || b) ≡ true
    or_true true b p = refl
    or_true false b p = p

    killing : (a : Act) → is_kill s a ≡ true → is_killing a ≡ true
    killing (Act.Kill n) p = refl
    killing _ p = absurd (false≢true p)

-- what was played is of steps, and all of the journal if nothing is left
record AreOf (whole : Journal) (p : Playing) : Type 0 where
  of : list_all is_step p.0 ≡ true
  same : onto p.1 p.0 ≡ whole

at_once : (h es : Journal) (p : Playing) → list_all is_step h ≡ true → Some (h, es) ≡ Some p → AreOf (onto es h) p
at_once h es p a q =
    let e : (h, es) ≡ p = some_same q in
    record { of = subst (λ (x : Playing). list_all is_step x.0 ≡ true) e a; same = ap (λ x. onto x.1 x.0) (sym e) }

module _ (script : Script) where
  steps_are_steps : (s n : ℕ) (h es : Journal) (p : Playing) → list_all is_step h ≡ true → play_steps script s n h es ≡ Some p → AreOf (onto es h) p
  steps_are_steps s zero h es p a q = at_once h es p a q
  steps_are_steps s (suc n) h [] p a q = by (tested (has_next script h s)) q
    where
      by : Tested (has_next script h s) → play_steps script s (suc n) h [] ≡ Some p → AreOf h p
      by (inl t) q = none_some (rw t at q)
      by (inr t) q = at_once h [] p a (rw t at q)
  steps_are_steps s (suc n) h (e ∷ es) p a q = by (tested (has_next script h s)) (tested (is_by s e)) (steps_are_steps s n (e ∷ h) es p) q
    where
      by : Tested (has_next script h s) → Tested (is_by s e) →
          (list_all is_step (e ∷ h) ≡ true → play_steps script s n (e ∷ h) es ≡ Some p → AreOf (onto es (e ∷ h)) p) →
          play_steps script s (suc n) h (e ∷ es) ≡ Some p → AreOf (onto es (e ∷ h)) p
      by (inl t) (inl b) f q = f (and_from (is_step e) (list_all is_step h) (some_is s e b) a) (rw (t, b) at q)
      by (inl t) (inr b) f q = none_some (rw (t, b) at q)
      by (inr t) b f q = at_once h (e ∷ es) p a (rw t at q)

  kill_is_step : (s : ℕ) (h es : Journal) (p : Playing) → list_all is_step h ≡ true → play_order script (Order.Kill s) h es ≡ Some p → AreOf (onto es h) p
  kill_is_step s h es p a q = by (tested (is_open s h)) q
    where
      one : (es : Journal) → play_one (λ e. is_kill s e.act) h es ≡ Some p → AreOf (onto es h) p
      one [] q = none_some q
      one (e ∷ es) q = at (tested (is_kill s e.act)) q
        where
          at : Tested (is_kill s e.act) → cond (is_kill s e.act) (Some (e ∷ h, es)) None ≡ Some p → AreOf (onto es (e ∷ h)) p
          at (inl t) q = at_once (e ∷ h) es p (and_from (is_step e) (list_all is_step h) (kill_is s e t) a) (rw t at q)
          at (inr t) q = none_some (rw t at q)

      by : Tested (is_open s h) → cond (is_open s h) (play_one (λ e. is_kill s e.act) h es) (Some (h, es)) ≡ Some p → AreOf (onto es h) p
      by (inl t) q = one es (rw t at q)
      by (inr t) q = at_once h es p a (rw t at q)

  orders_are_steps : (os : List Order) (h es : Journal) (p : Playing) → list_all is_run_or_kill os ≡ true → list_all is_step h ≡ true → play_orders script os h es ≡ Some p → AreOf (onto es h) p
  orders_are_steps [] h es p r a q = at_once h es p a q
  orders_are_steps (Order.Run s n ∷ os) h es p r a q =
      let x = bound (λ p. play_orders script os p.0 p.1) (play_steps script s n h es) p q in
      let i = steps_are_steps s n h es x.0 a x.1 in
      let j = orders_are_steps os x.0.0 x.0.1 p r i.of x.2 in
      record { of = j.of; same = j.same ∙ i.same }
  orders_are_steps (Order.Kill s ∷ os) h es p r a q =
      let x = bound (λ p. play_orders script os p.0 p.1) (play_order script (Order.Kill s) h es) p q in
      let i = kill_is_step s h es x.0 a x.1 in
      let j = orders_are_steps os x.0.0 x.0.1 p r i.of x.2 in
      record { of = j.of; same = j.same ∙ i.same }
  orders_are_steps (_ ∷ os) h es p r a q = absurd (false≢true r)

  sessions_are_steps : (ss : List ℕ) (h es : Journal) (p : Playing) → list_all is_step h ≡ true → play_sessions script ss h es ≡ Some p → AreOf (onto es h) p
  sessions_are_steps [] h es p a q = at_once h es p a q
  sessions_are_steps (s ∷ ss) h es p a q =
      let x = bound (λ p. play_sessions script ss p.0 p.1) (play_steps script s (suc (length es)) h es) p q in
      let i = steps_are_steps s (suc (length es)) h es x.0 a x.1 in
      let j = sessions_are_steps ss x.0.0 x.0.1 p i.of x.2 in
      record { of = j.of; same = j.same ∙ i.same }

  all_are_steps : (h : Journal) → list_all is_run_or_kill script.schedule ≡ true → is_played script h ≡ true → list_all is_step h ≡ true
  all_are_steps h r q =
      let x = played script h q in
      let i = orders_are_steps script.schedule [] (reverse h) x.mid r refl x.orders in
      let j = sessions_are_steps _ x.mid.0 x.mid.1 x.end i.of x.sessions in
      subst (λ l. list_all is_step l ≡ true) (ap (λ l. onto l x.end.0) (sym x.all) ∙ (j.same ∙ (i.same ∙ onto_turned h))) j.of

-- ---- and none is a fault

not_fault : (r : Reply) (n : ℕ) → n + cond (is_fault r) 1 0 ≡ 0 → (n ≡ 0) × (is_fault r ≡ false)
not_fault r n = by (is_fault r)
  where
    by : (b : Bool) → n + cond b 1 0 ≡ 0 → (n ≡ 0) × (b ≡ false)
    by true e = absurd (omega arith)
    by false e = (omega arith, refl)

all_plain : (h : Journal) → list_all is_step h ≡ true → fault_count h ≡ 0 → list_all is_plain h ≡ true
all_plain [] a f = refl
all_plain (e ∷ h) a f =
    let both : (is_step e ≡ true) × (list_all is_step h ≡ true) = and_parts (is_step e) (list_all is_step h) a in
    let n : (fault_count h ≡ 0) × (is_fault e.reply ≡ false) = not_fault e.reply (fault_count h) f in
    and_from (is_plain e) (list_all is_plain h) (and_from (is_step e) (not (is_fault e.reply)) both.0 (ap not n.1)) (all_plain h both.1 n.0)

pub undisturbed : (script : Script) (start : Tables) (h : Journal) → list_all is_run_or_kill script.schedule ≡ true → IsLegal script (Some start) h → IsNumbered h → fault_count h ≡ 0 →
    is_played script h ≡ true → IsUndisturbed script start h
undisturbed script start h r l n f q = record { legal = l; numbered = n; plain = all_plain h (all_are_steps script h r q) f }
