-- What a script plays without faults is decided by its schedule.
use Rattle.std.specs.Prelude.{option_and_then}
use Rattle.std.specs.Option.{option_map_or}
use Rattle.std.specs.List.{range_with_len}
use Rattle.std.proofs.Common.{◌≡◌, ◌⊎◌, ℕ, zero, suc, ◌<◌, ◌≤◌, inl, inr, Bool, true, false, cond, List, [], ◌∷◌, length, reverse, Some, None, Option, refl, sym, ap, ◌∙◌, subst, append-nil, arith}
use Rattle.std.proofs.lemmas.Bool.{false≢true, true≢false, eqb-true, cases_lt}
use Rattle.std.proofs.lemmas.List.{reverse-reverse}
use Rattle.hib_base.specs.Tables.{Tables}
use Rattle.hib_base.proofs.Tables.{Tested, tested}
use Rattle.hib_journal.specs.Types.{Key, Order, Script, Act, Entry}
use Rattle.hib_journal.specs.Sessions.{Journal, is_by, is_empty, is_open, is_restart}
use Rattle.hib_journal.specs.Legal.{is_outside}
use Rattle.hib_journal.specs.Played.{Playing, has_next, play_one, play_steps, play_order, play_orders, play_sessions, is_kill, is_evict, is_played}
use Rattle.hib_journal.proofs.Sessions.{is_some_session}
use Rattle.hib_order_law.specs.Orders.{is_killing, IsUndisturbed, onto, step_by, step_of, with_step}
use Rattle.hib_order_law.specs.declared.step.Step.{Step}
use Rattle.hib_order_law.proofs.Made.{IsKilling, IsOwn, Stepped, entry_is, none_some, some_same}
use Rattle.hib_order_law.proofs.Later.{base, head_stepped, plain_head}
use Rattle.hib_order_schedule.proofs.Plays.{onto_is}

-- ---- what was played

pub bound : {A B : Type 0} (f : A → Option B) (o : Option A) (y : B) → option_and_then f o ≡ Some y → (x : A) × (o ≡ Some x) × (f x ≡ Some y)
bound f None y p = none_some p
bound f (Some x) y p = (x, refl, p)

mapped : {A : Type 0} (f : A → Bool) (o : Option A) → option_map_or f o false ≡ true → (x : A) × (o ≡ Some x) × (f x ≡ true)
mapped f None p = absurd (false≢true p)
mapped f (Some x) p = (x, refl, p)

empty_is : (l : Journal) → is_empty l ≡ true → l ≡ []
empty_is [] p = refl
empty_is (e ∷ l) p = absurd (false≢true p)

pub onto_turned : (h : Journal) → onto (reverse h) [] ≡ h
onto_turned h = onto_is (reverse h) [] ∙ append-nil (reverse (reverse h)) ∙ reverse-reverse h

-- an act that neither a session does nor kills one
abbrev IsForeign : Act → Type 0
IsForeign a = (is_outside a ≡ true) × (is_killing a ≡ false)

evict_foreign : (k : Key) (a : Act) → is_evict k a ≡ true → IsForeign a
evict_foreign k (Act.Evict j) p = (refl, refl)
evict_foreign k _ p = absurd (false≢true p)

restart_foreign : (a : Act) → is_restart a ≡ true → IsForeign a
restart_foreign Act.Restart p = (refl, refl)
restart_foreign _ p = absurd (false≢true p)

kill_is : (s : ℕ) (by : Option ℕ) (a : Act) → is_kill s a ≡ true → step_by by a ≡ Step.Kill s
kill_is s by (Act.Kill n) p = ap Step.Kill (eqb-true n s p)
kill_is s by _ p = absurd (false≢true p)

module _ (script : Script) where
  pub record IsPlayed (h : Journal) : Type 0 where
    pub mid : Playing
    pub end : Playing
    pub orders : play_orders script script.schedule [] (reverse h) ≡ Some mid
    pub sessions : play_sessions script (range_with_len 0 (length script.sessions)) mid.0 mid.1 ≡ Some end
    pub all : end.1 ≡ []

  pub played : (h : Journal) → is_played script h ≡ true → IsPlayed h
  unfolding is_played
  played h p =
      let f : Playing → Option Playing = λ p. play_sessions script (range_with_len 0 (length script.sessions)) p.0 p.1 in
      let x = mapped (λ p. is_empty p.1) (option_and_then f (play_orders script script.schedule [] (reverse h))) p in
      let y = bound f (play_orders script script.schedule [] (reverse h)) x.0 x.1 in
      record { mid = y.0; end = x.0; orders = y.1; sessions = y.2; all = empty_is x.0.1 x.2 }

module _ (script : Script) (start : Tables) where
  -- after these steps of a session, or fewer if it has no further act
  abbrev pub walked : ℕ → ℕ → Journal → Journal
  walked s zero h = h
  walked s (suc n) h = cond (has_next script h s) (walked s n (with_step script start (Step.Own s) h)) h

  abbrev pub ordered : Order → Journal → Journal
  ordered (Order.Run s n) h = walked s n h
  ordered (Order.Kill s) h = with_step script start (Step.Kill s) h
  ordered _ h = h

  abbrev pub all_ordered : List Order → Journal → Journal
  all_ordered [] h = h
  all_ordered (o ∷ os) h = all_ordered os (ordered o h)

  -- some of a journal was played and this is past
  pub record IsMade (whole past : Journal) (p : Playing) : Type 0 where
    pub made : p.0 ≡ past
    pub same : onto p.1 p.0 ≡ whole

  made_at : (h es : Journal) (p : Playing) → Some (h, es) ≡ Some p → IsMade (onto es h) h p
  made_at h es p q = let e : (h, es) ≡ p = some_same q in record { made = ap (λ x. x.0) (sym e); same = ap (λ x. onto x.1 x.0) (sym e) }

  -- none evicts or restarts
  not_foreign : (e : Entry) (h : Journal) → IsUndisturbed script start (e ∷ h) → IsForeign e.act → ⊥
  not_foreign e h u f = by (head_stepped script start e h u)
    where
      by : Stepped script h e → ⊥
      by (inl x) = let o : IsOwn script h e x.0 = x.1 in true≢false (sym f.0 ∙ o.inside)
      by (inr x) = let k : IsKilling script h e x.0 = x.1 in true≢false (sym (ap is_killing k.act) ∙ f.1)

  none_foreign : (test : Entry → Bool) → ((e : Entry) → test e ≡ true → IsForeign e.act) → (h es : Journal) (p : Playing) → IsUndisturbed script start (onto es h) →
      play_one test h es ≡ Some p → ⊥
  none_foreign test f h [] p u q = none_some q
  none_foreign test f h (e ∷ es) p u q = by (tested (test e)) q
    where
      by : Tested (test e) → cond (test e) (Some (e ∷ h, es)) None ≡ Some p → ⊥
      by (inl t) q = not_foreign e h (base script start es (e ∷ h) u) (f e t)
      by (inr t) q = none_some (rw t at q)

  -- an entry is what its step makes
  head_is : (e : Entry) (h : Journal) (t : Step) → IsUndisturbed script start (e ∷ h) → step_of e ≡ t → e ∷ h ≡ with_step script start t h
  head_is e h t u p = subst (λ i. e ∷ h ≡ with_step script start i h) p (entry_is script start h e u.legal.0 u.legal.1 u.numbered.0 (plain_head script start e h u))

  by_own : (e : Entry) (h : Journal) (s : ℕ) → IsUndisturbed script start (e ∷ h) → is_by s e ≡ true → step_of e ≡ Step.Own s
  by_own e h s u b = by (head_stepped script start e h u)
    where
      by : Stepped script h e → step_of e ≡ Step.Own s
      by (inl x) = let o : IsOwn script h e x.0 = x.1 in o.step ∙ ap Step.Own (some_same (sym o.session ∙ is_some_session s e.session b))
      by (inr x) = let k : IsKilling script h e x.0 = x.1 in none_some (sym k.session ∙ is_some_session s e.session b)

  -- ---- the steps of a session

  steps_made : (s n : ℕ) (h es : Journal) (p : Playing) → IsUndisturbed script start (onto es h) → play_steps script s n h es ≡ Some p → IsMade (onto es h) (walked s n h) p
  steps_made s zero h es p u q = made_at h es p q
  steps_made s (suc n) h [] p u q = by (tested (has_next script h s)) q
    where
      by : Tested (has_next script h s) → play_steps script s (suc n) h [] ≡ Some p → IsMade h (walked s (suc n) h) p
      by (inl t) q = none_some (rw t at q)
      by (inr t) q = rw t (made_at h [] p (rw t at q))
  steps_made s (suc n) h (e ∷ es) p u q = by (tested (has_next script h s)) (tested (is_by s e)) (steps_made s n (e ∷ h) es p u) q
    where
      here : IsUndisturbed script start (e ∷ h)
      here = base script start es (e ∷ h) u

      is : is_by s e ≡ true → e ∷ h ≡ with_step script start (Step.Own s) h
      is t = head_is e h (Step.Own s) here (by_own e h s here t)

      by : Tested (has_next script h s) → Tested (is_by s e) → (play_steps script s n (e ∷ h) es ≡ Some p → IsMade (onto es (e ∷ h)) (walked s n (e ∷ h)) p) →
          play_steps script s (suc n) h (e ∷ es) ≡ Some p → IsMade (onto es (e ∷ h)) (walked s (suc n) h) p
      by (inl t) (inl b) f q = rw t (subst (λ j. IsMade (onto es (e ∷ h)) (walked s n j) p) (is b) (f (rw (t, b) at q)))
      by (inl t) (inr b) f q = none_some (rw (t, b) at q)
      by (inr t) b f q = rw t (made_at h (e ∷ es) p (rw t at q))

  steps_over : (s n : ℕ) (h es : Journal) (p : Playing) → length es < n → play_steps script s n h es ≡ Some p → has_next script p.0 s ≡ false
  steps_over s zero h es p l q = absurd (omega arith)
  steps_over s (suc n) h [] p l q = by (tested (has_next script h s)) q
    where
      by : Tested (has_next script h s) → play_steps script s (suc n) h [] ≡ Some p → has_next script p.0 s ≡ false
      by (inl t) q = none_some (rw t at q)
      by (inr t) q = subst (λ (x : Playing). has_next script x.0 s ≡ false) (some_same (rw t at q)) t
  steps_over s (suc n) h (e ∷ es) p l q = by (tested (has_next script h s)) (tested (is_by s e)) (steps_over s n (e ∷ h) es p (omega arith)) q
    where
      by : Tested (has_next script h s) → Tested (is_by s e) → (play_steps script s n (e ∷ h) es ≡ Some p → has_next script p.0 s ≡ false) →
          play_steps script s (suc n) h (e ∷ es) ≡ Some p → has_next script p.0 s ≡ false
      by (inl t) (inl b) f q = f (rw (t, b) at q)
      by (inl t) (inr b) f q = none_some (rw (t, b) at q)
      by (inr t) b f q = subst (λ (x : Playing). has_next script x.0 s ≡ false) (some_same (rw t at q)) t

  -- a session that has come to its end stays there
  walked_on : (s n m : ℕ) (h : Journal) → n ≤ m → has_next script (walked s n h) s ≡ false → walked s m h ≡ walked s n h
  walked_on s zero zero h l f = refl
  walked_on s zero (suc m) h l f = rw f refl
  walked_on s (suc n) zero h l f = absurd (omega arith)
  walked_on s (suc n) (suc m) h l f = by (tested (has_next script h s)) (walked_on s n m (with_step script start (Step.Own s) h) (omega arith)) f
    where
      by : Tested (has_next script h s) →
          (has_next script (walked s n (with_step script start (Step.Own s) h)) s ≡ false → walked s m (with_step script start (Step.Own s) h) ≡ walked s n (with_step script start (Step.Own s) h)) →
          has_next script (walked s (suc n) h) s ≡ false → walked s (suc m) h ≡ walked s (suc n) h
      by (inl t) g f = rw t (g (rw t at f))
      by (inr t) g f = rw t refl

  same_end : (s n m : ℕ) (h : Journal) → has_next script (walked s n h) s ≡ false → has_next script (walked s m h) s ≡ false → walked s n h ≡ walked s m h
  same_end s n m h f g = by (cases_lt n m)
    where
      by : (n < m) ⊎ (m ≤ n) → walked s n h ≡ walked s m h
      by (inl l) = sym (walked_on s n m h (omega arith) f)
      by (inr l) = walked_on s m n h l g

  -- ---- orders

  kill_made : (s : ℕ) (h es : Journal) (p : Playing) → IsUndisturbed script start (onto es h) → play_one (λ e. is_kill s e.act) h es ≡ Some p →
      IsMade (onto es h) (with_step script start (Step.Kill s) h) p
  kill_made s h [] p u q = none_some q
  kill_made s h (e ∷ es) p u q = by (tested (is_kill s e.act)) q
    where
      by : Tested (is_kill s e.act) → cond (is_kill s e.act) (Some (e ∷ h, es)) None ≡ Some p → IsMade (onto es (e ∷ h)) (with_step script start (Step.Kill s) h) p
      by (inl t) q =
          subst (λ j. IsMade (onto es (e ∷ h)) j p) (head_is e h (Step.Kill s) (base script start es (e ∷ h) u) (kill_is s e.session e.act t))
          (made_at (e ∷ h) es p (rw t at q))
      by (inr t) q = none_some (rw t at q)

  order_made : (o : Order) (h es : Journal) (p : Playing) → IsUndisturbed script start (onto es h) → play_order script o h es ≡ Some p → IsMade (onto es h) (ordered o h) p
  order_made (Order.Run s n) h es p u q = steps_made s n h es p u q
  order_made (Order.Kill s) h es p u q = by (tested (is_open s h)) q
    where
      by : Tested (is_open s h) → cond (is_open s h) (play_one (λ e. is_kill s e.act) h es) (Some (h, es)) ≡ Some p → IsMade (onto es h) (with_step script start (Step.Kill s) h) p
      by (inl t) q = kill_made s h es p u (rw t at q)
      by (inr t) q = rw t (made_at h es p (rw t at q))
  order_made (Order.Evict k) h es p u q = absurd (none_foreign (λ e. is_evict k e.act) (λ e. evict_foreign k e.act) h es p u q)
  order_made Order.Restart h es p u q = absurd (none_foreign (λ e. is_restart e.act) (λ e. restart_foreign e.act) h es p u q)

  pub orders_made : (os : List Order) (h es : Journal) (p : Playing) → IsUndisturbed script start (onto es h) → play_orders script os h es ≡ Some p → IsMade (onto es h) (all_ordered os h) p
  orders_made [] h es p u q = made_at h es p q
  orders_made (o ∷ os) h es p u q =
      let x = bound (λ p. play_orders script os p.0 p.1) (play_order script o h es) p q in
      let a = order_made o h es x.0 u x.1 in
      let b = orders_made os x.0.0 x.0.1 p (subst (IsUndisturbed script start) (sym a.same) u) x.2 in
      record { made = b.made ∙ ap (all_ordered os) a.made; same = b.same ∙ a.same }

  -- ---- sessions

  record AreSame (one two : Journal) (p q : Playing) : Type 0 where
    past : p.0 ≡ q.0
    first : onto p.1 p.0 ≡ one
    second : onto q.1 q.0 ≡ two

  sessions_same : (ss : List ℕ) (h g es ds : Journal) (p q : Playing) → h ≡ g → IsUndisturbed script start (onto es h) → IsUndisturbed script start (onto ds g) →
      play_sessions script ss h es ≡ Some p → play_sessions script ss g ds ≡ Some q → AreSame (onto es h) (onto ds g) p q
  sessions_same [] h g es ds p q e u v a b =
      let x = made_at h es p a in
      let y = made_at g ds q b in
      record { past = x.made ∙ (e ∙ sym y.made); first = x.same; second = y.same }
  sessions_same (s ∷ ss) h g es ds p q e u v a b =
      let x = bound (λ p. play_sessions script ss p.0 p.1) (play_steps script s (suc (length es)) h es) p a in
      let y = bound (λ p. play_sessions script ss p.0 p.1) (play_steps script s (suc (length ds)) g ds) q b in
      let i = steps_made s (suc (length es)) h es x.0 u x.1 in
      let j = steps_made s (suc (length ds)) g ds y.0 v y.1 in
      let f : has_next script (walked s (suc (length es)) h) s ≡ false = subst (λ k. has_next script k s ≡ false) i.made (steps_over s (suc (length es)) h es x.0 (omega arith) x.1) in
      let k : has_next script (walked s (suc (length ds)) g) s ≡ false = subst (λ k. has_next script k s ≡ false) j.made (steps_over s (suc (length ds)) g ds y.0 (omega arith) y.1) in
      let m : x.0.0 ≡ y.0.0 = i.made ∙ (same_end s (suc (length es)) (suc (length ds)) h f (subst (λ z. has_next script (walked s (suc (length ds)) z) s ≡ false) (sym e) k)
      ∙ (ap (walked s (suc (length ds))) e ∙ sym j.made)) in
      let z = sessions_same ss x.0.0 y.0.0 x.0.1 y.0.1 p q m (subst (IsUndisturbed script start) (sym i.same) u) (subst (IsUndisturbed script start) (sym j.same) v) x.2 y.2 in
      record { past = z.past; first = z.first ∙ i.same; second = z.second ∙ j.same }

  -- ---- all of it

  pub played_once : (h g : Journal) → IsUndisturbed script start h → IsUndisturbed script start g → is_played script h ≡ true → is_played script g ≡ true → h ≡ g
  played_once h g u v p q =
      let x = played script h p in
      let y = played script g q in
      let i = orders_made script.schedule [] (reverse h) x.mid (subst (IsUndisturbed script start) (sym (onto_turned h)) u) x.orders in
      let j = orders_made script.schedule [] (reverse g) y.mid (subst (IsUndisturbed script start) (sym (onto_turned g)) v) y.orders in
      let z = sessions_same (range_with_len 0 (length script.sessions)) x.mid.0 y.mid.0 x.mid.1 y.mid.1 x.end y.end (i.made ∙ sym j.made)
      (subst (IsUndisturbed script start) (sym (i.same ∙ onto_turned h)) u) (subst (IsUndisturbed script start) (sym (j.same ∙ onto_turned g)) v) x.sessions y.sessions in
      let a : x.end.0 ≡ h = ap (λ l. onto l x.end.0) (sym x.all) ∙ (z.first ∙ (i.same ∙ onto_turned h)) in
      let b : y.end.0 ≡ g = ap (λ l. onto l y.end.0) (sym y.all) ∙ (z.second ∙ (j.same ∙ onto_turned g)) in
      sym a ∙ (z.past ∙ b)
