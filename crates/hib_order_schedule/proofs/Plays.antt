-- The runs and kills of an order, and then each session to its end, are the order if what they leave of it rises.
use Rattle.std.specs.Prelude.{not, option_and_then, replicate}
use Rattle.std.specs.Option.{option_map_or}
use Rattle.std.specs.List.{list_all, range_with_len}
use Rattle.std.proofs.Common.{◌≡◌, ℕ, zero, suc, ◌+◌, ◌<◌, ◌≤◌, ◌==◌, inl, inr, Bool, true, false, ◌&&◌, leb, List, [], ◌∷◌, ◌++◌, length, reverse, Some, None, Option, refl, sym, ap, ◌∙◌, subst, append_assoc, append-nil, eq-eqb, arith}
use Rattle.std.proofs.lemmas.Bool.{false≢true, and_parts, and_from, leb-true, le-leb, eqb-true, eqb-false, ne_eqb}
use Rattle.std.proofs.lemmas.Grind.{reverse_onto}
use Rattle.std.proofs.lemmas.List.{reverse-reverse}
use Rattle.std.proofs.lemmas.Option.{slice_get_past}
use Rattle.hib_base.specs.Tables.{Tables}
use Rattle.hib_base.proofs.Tables.{Tested, tested}
use Rattle.hib_journal.specs.Types.{Mode, Order, SessionDef, Script, Entry}
use Rattle.hib_journal.specs.Sessions.{Journal, own, is_by, is_empty, is_open, was_killed}
use Rattle.hib_journal.specs.Plan.{Plan, left_of, first_act}
use Rattle.hib_journal.specs.Next.{next, blocks}
use Rattle.hib_journal.specs.Played.{Playing, has_next, is_kill, play_steps, play_orders, play_sessions, is_played}
use Rattle.hib_order_law.specs.Orders.{IsUndisturbed, IsRun, comes, is_kill_step, onto, step_of, steps_in, whose}
use Rattle.hib_order_law.specs.declared.step.Step.{Step}
use Rattle.hib_order_law.proofs.Made.{IsKilling, IsOwn, Stepped, by_self}
use Rattle.hib_order_law.proofs.Later.{base, has_comes, head_has, head_stepped}
use Rattle.hib_order_schedule.specs.Schedules.{is_run_or_kill, rises, steps_of}
use Rattle.hib_order_schedule.proofs.Rising.{is_false}

-- so much of a journal was played that what is left of it has an order of this kind
pub record IsLeft (whole : Journal) (o : Option Playing) (good : List Step → Type 0) : Type 0 where
  pub past : Journal
  pub rest : Journal
  pub at : o ≡ Some (past, rest)
  pub same : onto rest past ≡ whole
  pub left : good (steps_in rest)

left_then : (whole : Journal) (f : Playing → Option Playing) (o : Option Playing) (mid good : List Step → Type 0) (w : IsLeft whole o mid) →
    IsLeft (onto w.rest w.past) (f (w.past, w.rest)) good → IsLeft whole (option_and_then f o) good
left_then whole f o mid good w x = record { past = x.past; rest = x.rest; at = ap (option_and_then f) w.at ∙ x.at; same = x.same ∙ w.same; left = x.left }

then_all : (whole : Journal) (f : Playing → Option Playing) (o : Option Playing) (mid : List Step → Type 0) (w : IsLeft whole o mid) → f (w.past, w.rest) ≡ Some (onto w.rest w.past, []) →
    option_and_then f o ≡ Some (whole, [])
then_all whole f o mid w x = ap (option_and_then f) w.at ∙ (x ∙ ap (λ j. Some (j, [])) w.same)

-- ---- orders that rise

-- none is a kill, each session is one from k on, and none is followed by one with a smaller number
abbrev rise_from : ℕ → List Step → Bool
rise_from k [] = true
rise_from k (t ∷ ts) = not (is_kill_step t) && (leb k (whose t) && rise_from (whose t) ts)

record Rises (k : ℕ) (t : Step) (ts : List Step) : Type 0 where
  own : not (is_kill_step t) ≡ true
  from : leb k (whose t) ≡ true
  on : rise_from (whose t) ts ≡ true

rises_so : (k : ℕ) (t : Step) (ts : List Step) → rise_from k (t ∷ ts) ≡ true → Rises k t ts
rises_so k t ts p =
    let one : (not (is_kill_step t) ≡ true) × ((leb k (whose t) && rise_from (whose t) ts) ≡ true) = and_parts (not (is_kill_step t)) (leb k (whose t) && rise_from (whose t) ts) p in
    let two : (leb k (whose t) ≡ true) × (rise_from (whose t) ts ≡ true) = and_parts (leb k (whose t)) (rise_from (whose t) ts) one.1 in
    record { own = one.0; from = two.0; on = two.1 }

so_rises : (k : ℕ) (t : Step) (ts : List Step) → Rises k t ts → rise_from k (t ∷ ts) ≡ true
so_rises k t ts r = and_from (not (is_kill_step t)) (leb k (whose t) && rise_from (whose t) ts) r.own (and_from (leb k (whose t)) (rise_from (whose t) ts) r.from r.on)

own_first : (t : Step) (ts : List Step) → rises (t ∷ ts) ≡ true → not (is_kill_step t) ≡ true
own_first (Step.Own s) ts p = refl
own_first (Step.Kill s) ts p = p

rise_on : (t : Step) (ts : List Step) → rises (t ∷ ts) ≡ true → rise_from (whose t) ts ≡ true
rise_on (Step.Kill s) ts p = absurd (false≢true p)
rise_on (Step.Own s) [] p = refl
rise_on (Step.Own s) (t ∷ ts) p =
    let both : (leb s (whose t) ≡ true) × (rises (t ∷ ts) ≡ true) = and_parts (leb s (whose t)) (rises (t ∷ ts)) p in
    so_rises s t ts (record { own = own_first t ts both.1; from = both.0; on = rise_on t ts both.1 })

rise_all : (ts : List Step) → rises ts ≡ true → rise_from 0 ts ≡ true
rise_all [] p = refl
rise_all (t ∷ ts) p = so_rises 0 t ts (record { own = own_first t ts p; from = le-leb 0 (whose t) (omega arith); on = rise_on t ts p })

none_before : (k m : ℕ) (ts : List Step) → k < m → rise_from m ts ≡ true → comes k ts ≡ false
none_before k m [] l p = refl
none_before k m (t ∷ ts) l p =
    let r : Rises m t ts = rises_so m t ts p in
    let n : m ≤ whose t = leb-true m (whose t) r.from in
    let f : (whose t == k) ≡ false = ne_eqb (whose t) k (λ e. omega arith) in
    rw f (none_before k (whose t) ts (omega arith) r.on)

-- ---- what comes in an order

pub onto_is : (es h : List Entry) → onto es h ≡ reverse es ++ h
onto_is [] h = refl
onto_is (e ∷ es) h = onto_is es (e ∷ h) ∙ sym (ap (λ l. l ++ h) (reverse_onto es e []) ∙ append_assoc (reverse es) (e ∷ []) h)

pub turned : (es : List Entry) → reverse (onto es []) ≡ es
turned es = ap reverse (onto_is es [] ∙ append-nil (reverse es)) ∙ reverse-reverse es

over_left : (mine : Journal) → left_of Plan.Over mine ≡ Plan.Over
over_left [] = refl
over_left (e ∷ m) = rw (over_left m) refl

unknown : (script : Script) (s : ℕ) (mine : Journal) → length script.sessions ≤ s → next script s mine ≡ None
unfolding next
unknown script s mine l = ap (λ (o : Option SessionDef). first_act (left_of (blocks script Mode.Normal true (option_map_or (λ d. d.statements) o []) []) mine)) (slice_get_past script.sessions s l) ∙ ap first_act (over_left mine)

pub none_unknown : (script : Script) (s : ℕ) (h : Journal) → length script.sessions ≤ s → has_next script h s ≡ false
none_unknown script s h l = rw (unknown script s (own s h) l) (no (not (was_killed s h)))
  where
    no : (b : Bool) → (b && false) ≡ false
    no true = refl
    no false = refl

own_is : (t : Step) → not (is_kill_step t) ≡ true → t ≡ Step.Own (whose t)
own_is (Step.Own s) p = refl
own_is (Step.Kill s) p = absurd (false≢true p)

not_kill : (t : Step) → not (is_kill_step t) ≡ true → is_kill_step t ≡ false
not_kill (Step.Own s) p = refl
not_kill (Step.Kill s) p = absurd (false≢true p)

own_same : (s n : ℕ) → Step.Own s ≡ Step.Own n → s ≡ n
own_same s n e = ap whose e

kill_same : (s n : ℕ) → Step.Kill s ≡ Step.Kill n → s ≡ n
kill_same s n e = ap whose e

not_both : {P : Type 0} (s n : ℕ) → Step.Own s ≡ Step.Kill n → P
not_both s n e = absurd (false≢true (ap is_kill_step e))

module _ (script : Script) (start : Tables) where
  -- a session's own step: it had a next act
  own_head : (e : Entry) (h : Journal) (s : ℕ) → IsUndisturbed script start (e ∷ h) → step_of e ≡ Step.Own s → (has_next script h s ≡ true) × (is_by s e ≡ true)
  own_head e h s u p = by (head_stepped script start e h u)
    where
      by : Stepped script h e → (has_next script h s ≡ true) × (is_by s e ≡ true)
      by (inl x) =
          let o : IsOwn script h e x.0 = x.1 in
          let q : x.0 ≡ s = own_same x.0 s (sym o.step ∙ p) in
          (subst (λ i. has_next script h i ≡ true) q (rw (o.alive, o.next)), by_self e s (o.session ∙ ap Some q))
      by (inr x) = let k : IsKilling script h e x.0 = x.1 in not_both s x.0 (sym p ∙ k.step)

  -- a kill: the session was open
  kill_head : (e : Entry) (h : Journal) (s : ℕ) → IsUndisturbed script start (e ∷ h) → step_of e ≡ Step.Kill s → (is_open s h ≡ true) × (is_kill s e.act ≡ true)
  kill_head e h s u p = by (head_stepped script start e h u)
    where
      by : Stepped script h e → (is_open s h ≡ true) × (is_kill s e.act ≡ true)
      by (inl x) = let o : IsOwn script h e x.0 = x.1 in not_both x.0 s (sym o.step ∙ p)
      by (inr x) =
          let k : IsKilling script h e x.0 = x.1 in
          let q : x.0 ≡ s = kill_same x.0 s (sym k.step ∙ p) in
          (subst (λ i. is_open i h ≡ true) q k.stands, ap (is_kill s) k.act ∙ eq-eqb x.0 s q)

  -- ---- runs and kills

  steps : (s n : ℕ) (h es : Journal) (more : List Step) → IsUndisturbed script start (onto es h) → steps_in es ≡ replicate n (Step.Own s) ++ more →
      IsLeft (onto es h) (play_steps script s n h es) (λ ts. ts ≡ more)
  steps s zero h es more u o = record { past = h; rest = es; at = refl; same = refl; left = o }
  steps s (suc n) h [] more u o = absurd (no o)
    where
      no : {t : Step} {ts : List Step} → ◌≡◌ {A = List Step} [] (t ∷ ts) → ⊥
      no e = cc
  steps s (suc n) h (e ∷ es) more u o =
      let p : step_of e ≡ Step.Own s = cc in
      let q : steps_in es ≡ replicate n (Step.Own s) ++ more = cc in
      let x : (has_next script h s ≡ true) × (is_by s e ≡ true) = own_head e h s (base script start es (e ∷ h) u) p in
      rw (x.0, x.1) (steps s n (e ∷ h) es more u q)

  pub orders : (os : List Order) (h es : Journal) (more : List Step) → IsUndisturbed script start (onto es h) → list_all is_run_or_kill os ≡ true → steps_in es ≡ steps_of os ++ more →
      IsLeft (onto es h) (play_orders script os h es) (λ ts. ts ≡ more)
  orders [] h es more u a o = record { past = h; rest = es; at = refl; same = refl; left = o }
  orders (Order.Run s n ∷ os) h es more u a o =
      let w : IsLeft (onto es h) (play_steps script s n h es) (λ ts. ts ≡ steps_of os ++ more) =
      steps s n h es (steps_of os ++ more) u (o ∙ append_assoc (replicate n (Step.Own s)) (steps_of os) more) in
      left_then (onto es h) (λ p. play_orders script os p.0 p.1) (play_steps script s n h es) (λ ts. ts ≡ steps_of os ++ more) (λ ts. ts ≡ more) w
      (orders os w.past w.rest more (subst (IsUndisturbed script start) (sym w.same) u) a w.left)
  orders (Order.Kill s ∷ os) h [] more u a o = absurd (no o)
    where
      no : {t : Step} {ts : List Step} → ◌≡◌ {A = List Step} [] (t ∷ ts) → ⊥
      no e = cc
  orders (Order.Kill s ∷ os) h (e ∷ es) more u a o =
      let p : step_of e ≡ Step.Kill s = cc in
      let q : steps_in es ≡ steps_of os ++ more = cc in
      let x : (is_open s h ≡ true) × (is_kill s e.act ≡ true) = kill_head e h s (base script start es (e ∷ h) u) p in
      rw (x.0, x.1) (orders os (e ∷ h) es more u a q)
  orders (_ ∷ os) h es more u a o = absurd (false≢true a)

  -- ---- sessions, each to its end

  session_over : (k n : ℕ) (h es : Journal) → IsUndisturbed script start (onto es h) → ((s : ℕ) → has_next script (onto es h) s ≡ false) → length es < n →
      rise_from k (steps_in es) ≡ true → IsLeft (onto es h) (play_steps script k n h es) (λ ts. rise_from (k + 1) ts ≡ true)
  session_over k zero h es u o l r = absurd (omega arith)
  session_over k (suc n) h [] u o l r = rw (o k) (record { past = h; rest = []; at = refl; same = refl; left = refl })
  session_over k (suc n) h (e ∷ es) u o l r = by (tested (whose (step_of e) == k)) (session_over k n (e ∷ h) es u o (omega arith))
    where
      s : ℕ
      s = whose (step_of e)

      x : Rises k (step_of e) (steps_in es)
      x = rises_so k (step_of e) (steps_in es) r

      by : Tested (s == k) → (rise_from k (steps_in es) ≡ true → IsLeft (onto es (e ∷ h)) (play_steps script k n (e ∷ h) es) (λ ts. rise_from (k + 1) ts ≡ true)) →
          IsLeft (onto es (e ∷ h)) (play_steps script k (suc n) h (e ∷ es)) (λ ts. rise_from (k + 1) ts ≡ true)
      by (inl p) f =
          let q : s ≡ k = eqb-true s k p in
          let y : (has_next script h k ≡ true) × (is_by k e ≡ true) = own_head e h k (base script start es (e ∷ h) u) (own_is (step_of e) x.own ∙ ap Step.Own q) in
          rw (y.0, y.1) (f (subst (λ i. rise_from i (steps_in es) ≡ true) q x.on))
      by (inr p) f =
          let d : s ≡ k → ⊥ = eqb-false s k p in
          let g : k ≤ s = leb-true k s x.from in
          let m : k + 1 ≤ s = omega (arith, d) in
          let t : rise_from (k + 1) (steps_in (e ∷ es)) ≡ true = so_rises (k + 1) (step_of e) (steps_in es) (record { own = x.own; from = le-leb (k + 1) s m; on = x.on }) in
          let none : has_next script h k ≡ false =
          is_false (has_next script h k) (λ y. false≢true (sym (none_before k (k + 1) (steps_in (e ∷ es)) (omega arith) t) ∙ has_comes script start (e ∷ es) h k u (o k) y)) in
          rw none (record { past = h; rest = e ∷ es; at = refl; same = refl; left = t })

  sessions_over : (m k : ℕ) (h es : Journal) → IsUndisturbed script start (onto es h) → ((s : ℕ) → has_next script (onto es h) s ≡ false) → length script.sessions ≤ k + m →
      rise_from k (steps_in es) ≡ true → play_sessions script (range_with_len k m) h es ≡ Some (onto es h, [])
  sessions_over zero k h [] u o l r = refl
  sessions_over zero k h (e ∷ es) u o l r =
      let x : Rises k (step_of e) (steps_in es) = rises_so k (step_of e) (steps_in es) r in
      let g : k ≤ whose (step_of e) = leb-true k (whose (step_of e)) x.from in
      absurd (false≢true (sym (none_unknown script (whose (step_of e)) h (omega arith))
      ∙ head_has script start e h (base script start es (e ∷ h) u) (not_kill (step_of e) x.own)))
  sessions_over (suc m) k h es u o l r =
      let w : IsLeft (onto es h) (play_steps script k (suc (length es)) h es) (λ ts. rise_from (k + 1) ts ≡ true) = session_over k (suc (length es)) h es u o (omega arith) r in
      then_all (onto es h) (λ p. play_sessions script (range_with_len (k + 1) m) p.0 p.1) (play_steps script k (suc (length es)) h es) (λ ts. rise_from (k + 1) ts ≡ true) w
      (sessions_over m (k + 1) w.past w.rest (subst (IsUndisturbed script start) (sym w.same) u) (subst (λ j. (s : ℕ) → has_next script j s ≡ false) (sym w.same) o) (omega arith) w.left)

  -- ---- all of it

  pub is_all_played : (most_kills : ℕ) (es : List Entry) (tail : List Step) → IsRun script start most_kills es → list_all is_run_or_kill script.schedule ≡ true →
      steps_in es ≡ steps_of script.schedule ++ tail → rises tail ≡ true → is_played script (onto es []) ≡ true
  unfolding is_played
  is_all_played most_kills es tail r a o t =
      let w = orders script.schedule [] es tail r.undisturbed a o in
      let x = sessions_over (length script.sessions) 0 w.past w.rest (subst (IsUndisturbed script start) (sym w.same) r.undisturbed)
      (subst (λ j. (s : ℕ) → has_next script j s ≡ false) (sym w.same) r.over) (omega arith) (subst (λ ts. rise_from 0 ts ≡ true) (sym w.left) (rise_all tail t)) in
      ap (λ (o : Option Playing). option_map_or (λ p. is_empty p.1) (option_and_then (λ p. play_sessions script (range_with_len 0 (length script.sessions)) p.0 p.1) o) false)
      (ap (play_orders script script.schedule []) (turned es) ∙ w.at)
      ∙ ap (λ (o : Option Playing). option_map_or (λ p. is_empty p.1) o false) x
