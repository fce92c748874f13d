-- A holder of a sound key has the id of the lock that is there; so giving it back is answered as it should be.
use Rattle.std.specs.Prelude.{option_and_then, option_to_list, ◌++◌}
use Rattle.std.specs.Option.{option_map_or}
use Rattle.std.proofs.Common.{◌≡◌, ℕ, zero, suc, ◌⊎◌, inl, inr, Bool, true, false, ◌||◌, ◌==◌, List, [], ◌∷◌, length, Some, None, Option, refl, ap, sym, ◌∙◌, subst, eq-eqb}
use Rattle.std.proofs.lemmas.Bool.{true≢false, false≢true}
use Rattle.std.specs.List.{list_any}
use Rattle.hib_journal.specs.Types.{Key, Row, Strategy, Locked, Unlocked, Updated, Script, Act, Reply, Entry}
use Rattle.hib_base.specs.Keys.{same_key}
use Rattle.hib_base.specs.Tables.{Tables, last_on, row_left}
use Rattle.hib_journal.specs.Sessions.{Journal, is_by, is_session, own, changes, is_restart, was_killed}
use Rattle.hib_journal.specs.Slot.{Touch, LockState, Slot, slot, touch}
use Rattle.hib_journal.specs.Regions
use Rattle.hib_journal.specs.Next.{strategy, lock_id, lock_in}
use Rattle.hib_journal.specs.Legal.{IsLegal, IsStep, room_for}
use Rattle.hib_journal.specs.Sound.{is_sound, is_calm}
use Rattle.hib_journal.specs.Coherence.{holders, takes, gives_back, done_in, remove}
use Rattle.hib_law.specs.Prefixes.{AtEachPrefix, AtEachEntry}
use Rattle.hib_law.specs.Locks.{is_holder, IsLockHeld, IsGivenBack, AreLocksKept}
use Rattle.hib_base.proofs.Tables.{Tested, tested, same_key_refl}
use Rattle.hib_journal.proofs.Slots.{touched}
use Rattle.hib_law.specs.Locks.{holder_count}
use Rattle.hib_law.proofs.Guarded.{In, in_remove, in_none, listed_in}
use Rattle.hib_law.proofs.Effects.{Effect, is_remove}
use Rattle.hib_law.proofs.Views.{slot_touched, slot_rests, takes_not_back, to_kept}
use Rattle.hib_law.proofs.Coherent.{WasSound, was_sound, effect_of, rest_of}
use Rattle.hib_law.proofs.Working.{Allowed, holds}
use Rattle.hib_journal.specs.Sessions.{is_begun}
use Rattle.hib_journal.proofs.Steps.{next_act}
use Rattle.hib_law.proofs.Blocks.{allowed_act}
use Rattle.hib_journal.proofs.Open.{begun_open}
use Rattle.hib_law.proofs.Orderly.{removes_none}
use Rattle.hib_law.proofs.Holders.{holds_holder}
use Rattle.hib_law.proofs.Whole.{coherent, is_kept}
use Rattle.hib_law.proofs.Basics.{replied}

-- the other way to say who holds a lock
pub in_holder : (s : ℕ) (xs : List ℕ) → In s xs → list_any (λ t. t == s) xs ≡ true
in_holder s [] i = absurd i
in_holder s (x ∷ xs) (inl p) = rw (eq-eqb x s p) refl
in_holder s (x ∷ xs) (inr i) = by_test (x == s) (in_holder s xs i)
  where
    by_test : (b : Bool) → list_any (λ t. t == s) xs ≡ true → (b || list_any (λ t. t == s) xs) ≡ true
    by_test true p = refl
    by_test false p = p

-- the id of the lock that is there
abbrev pub id_of : Slot → ℕ
id_of Slot.Vacant = 0
id_of (Slot.Item r t) = 0
id_of (Slot.Lock l) = l.id

lock_same : (k : Key) (a : Act) (r : Reply) (i : ℕ) → takes k a ≡ false → lock_in k a r i ≡ i
lock_same k (Act.Lock j v f) (Reply.Locked l) i p = rw p refl
lock_same k _ _ i p = refl

id_same : (k : Key) (t : ℕ) (e : Entry) (h : Journal) → takes k e.act ≡ false → lock_id k (own t (e ∷ h)) ≡ lock_id k (own t h)
id_same k t e h p = by_session (tested (is_by t e))
  where
    by_session : Tested (is_by t e) → lock_id k (own t (e ∷ h)) ≡ lock_id k (own t h)
    by_session (inl b) = rw b (lock_same k e.act e.reply (lock_id k (own t h)) p)
    by_session (inr b) = rw b refl

id_other : (k : Key) (t : ℕ) (e : Entry) (h : Journal) → is_by t e ≡ false → lock_id k (own t (e ∷ h)) ≡ lock_id k (own t h)
id_other k t e h b = rw b refl

in_with : (t : ℕ) (o : Option ℕ) (xs : List ℕ) → In t (option_to_list o ++ xs) → (is_session t o ≡ true) ⊎ In t xs
in_with t None xs i = inr i
in_with t (Some s) xs (inl p) = inl (eq-eqb s t p)
in_with t (Some s) xs (inr i) = inr i

in_without : (t : ℕ) (o : Option ℕ) (xs : List ℕ) → In t (option_map_or (λ s. remove s xs) o xs) → In t xs
in_without t None xs i = i
in_without t (Some s) xs i = in_remove s t xs i

holders_fewer : (k : Key) (t : ℕ) (e : Entry) (h : Journal) → is_restart e.act ≡ false → takes k e.act ≡ false → In t (holders k (e ∷ h)) → In t (holders k h)
holders_fewer k t e h n p i = by_back (tested (gives_back k e.act))
  where
    by_back : Tested (gives_back k e.act) → In t (holders k h)
    by_back (inl b) = let g : In t (option_map_or (λ s. remove s (holders k h)) e.session (holders k h)) = rw (n, p, b) at i in in_without t e.session (holders k h) g
    by_back (inr b) = let g : In t (holders k h) = rw (n, p, b) at i in g

-- what a lock answers is the id of the slot after it
locked_id : (timeout now : ℕ) (v : Option ℕ) (o : Option (Option ℕ)) (z : Slot) → (Regions.lock timeout z o now).id ≡ id_of (touched timeout (Touch.Locks v) now z)
locked_id timeout now v o Slot.Vacant = refl
locked_id timeout now v o (Slot.Item r t) = refl
locked_id timeout now v o (Slot.Lock l) = refl

locks_same : (timeout now : ℕ) (v : Option ℕ) (z : Slot) → (holder_count z ≡ 0 → ⊥) → id_of (touched timeout (Touch.Locks v) now z) ≡ id_of z
locks_same timeout now v Slot.Vacant f = absurd (f refl)
locks_same timeout now v (Slot.Item r t) f = absurd (f refl)
locks_same timeout now v (Slot.Lock l) f = refl

releases_same : (timeout now n : ℕ) (z : Slot) → id_of (touched timeout (Touch.Releases n) now z) ≡ id_of z
releases_same timeout now n Slot.Vacant = refl
releases_same timeout now n (Slot.Item r t) = refl
releases_same timeout now n (Slot.Lock l) = refl

module _ (script : Script) (start : Tables) (k : Key) (rw_k : strategy script k.entity ≡ Strategy.ReadWrite) where
  abbrev Ids : Journal → Type 0
  Ids h = (t : ℕ) → In t (holders k h) → lock_id k (own t h) ≡ id_of (slot script.timeout k h)

  -- a key that somebody holds has a held lock
  held_lock : (h : Journal) → IsLegal script (Some start) h → is_sound k h ≡ true → (t : ℕ) → In t (holders k h) → holder_count (slot script.timeout k h) ≡ 0 → ⊥
  held_lock h l w t i z = in_none t (holders k h) ((coherent script start k rw_k h l w).holding.count ∙ z) i

  ids_next : (h : Journal) (e : Entry) → IsLegal script (Some start) (e ∷ h) → is_restart e.act ≡ false → is_sound k (e ∷ h) ≡ true → WasSound k h e → Ids h → Ids (e ∷ h)
  ids_next h e l n w1 w ids t i = by_touch (touch k e) refl
    where
      removes : (x : Touch) → touch k e ≡ Some x → is_remove e.act ≡ false
      removes x p = removes_none script start k rw_k h e l x p

      nobody : holder_count (slot script.timeout k (e ∷ h)) ≡ 0 → lock_id k (own t (e ∷ h)) ≡ id_of (slot script.timeout k (e ∷ h))
      nobody z = absurd (held_lock (e ∷ h) l w1 t i z)

      slot_now : (x : Touch) → touch k e ≡ Some x → slot script.timeout k (e ∷ h) ≡ touched script.timeout x e.tick (slot script.timeout k h)
      slot_now x p = slot_touched script k e h x n p
          (to_kept script k h e x (effect_of script start k h e rw_k n l.1.reply removes x p), is_kept script start k rw_k h l.0)

      on : takes k e.act ≡ false → id_of (slot script.timeout k (e ∷ h)) ≡ id_of (slot script.timeout k h) → lock_id k (own t (e ∷ h)) ≡ id_of (slot script.timeout k (e ∷ h))
      on p q = id_same k t e h p ∙ (ids t (holders_fewer k t e h n p i) ∙ sym q)

      locks : (v : Option ℕ) (f : ℕ) → e.act ≡ Act.Lock k v f → slot script.timeout k (e ∷ h) ≡ touched script.timeout (Touch.Locks v) e.tick (slot script.timeout k h) →
          lock_id k (own t (e ∷ h)) ≡ id_of (slot script.timeout k (e ∷ h))
      locks v f p q = by_session (tested (is_by t e))
        where
          mine : is_by t e ≡ true → lock_id k (own t (e ∷ h)) ≡ id_of (slot script.timeout k (e ∷ h))
          mine b =
              let r : e.reply ≡ Reply.Locked (Regions.lock script.timeout (slot script.timeout k h) (room_for script h k f) e.tick) =
              replied script start h e (Act.Lock k v f) l.1.reply p (λ cs. refl) in
              let d : lock_id k (own t (e ∷ h)) ≡ (Regions.lock script.timeout (slot script.timeout k h) (room_for script h k f) e.tick).id =
              own_id b p (same_key_refl k) r in
              d ∙ (locked_id script.timeout e.tick v (room_for script h k f) (slot script.timeout k h) ∙ ap id_of (sym q))
            where
              own_id : is_by t e ≡ true → e.act ≡ Act.Lock k v f → same_key k k ≡ true → {x : Locked} → e.reply ≡ Reply.Locked x → lock_id k (own t (e ∷ h)) ≡ x.id
              own_id b p s r = rw (b, p, r, s) refl

          others : is_by t e ≡ false → (is_session t e.session ≡ true) ⊎ In t (holders k h) → lock_id k (own t (e ∷ h)) ≡ id_of (slot script.timeout k (e ∷ h))
          others b (inl x) = absurd (true≢false (sym x ∙ b))
          others b (inr j) =
              id_other k t e h b ∙ (ids t j ∙ (sym (locks_same script.timeout e.tick v (slot script.timeout k h) (held_lock h l.0 w.before t j)) ∙ ap id_of (sym q)))

          by_session : Tested (is_by t e) → lock_id k (own t (e ∷ h)) ≡ id_of (slot script.timeout k (e ∷ h))
          by_session (inl b) = mine b
          by_session (inr b) =
              let g : In t (option_to_list e.session ++ (holders k h)) = rw (n, p, same_key_refl k) at i in others b (in_with t e.session (holders k h) g)

      some : (x : Touch) → touch k e ≡ Some x → is_calm x ≡ true → Effect script.timeout k h e.act x →
          slot script.timeout k (e ∷ h) ≡ touched script.timeout x e.tick (slot script.timeout k h) → lock_id k (own t (e ∷ h)) ≡ id_of (slot script.timeout k (e ∷ h))
      some (Touch.Stores r late) p c f q = nobody (ap holder_count q)
      some (Touch.Locks v) p c f q = locks v f.0 f.1 q
      some (Touch.Releases m) p c f q = on (takes_not_back k e.act f.0) (ap id_of q ∙ releases_same script.timeout e.tick m (slot script.timeout k h))
      some Touch.Evicts p c f q = nobody (ap holder_count q)
      some Touch.Expires p c f q = absurd (false≢true c)
      some Touch.Leaves p c f q = nobody (ap holder_count q)

      by_touch : (o : Option Touch) → touch k e ≡ o → lock_id k (own t (e ∷ h)) ≡ id_of (slot script.timeout k (e ∷ h))
      by_touch None p =
          let r : (takes k e.act ≡ false) × (gives_back k e.act ≡ false) = rest_of script start k h e rw_k n l.1.reply removes p in
          on r.0 (ap id_of (slot_rests script k e h n p))
      by_touch (Some x) p = some x p (w.calm x p) (effect_of script start k h e rw_k n l.1.reply removes x p) (slot_now x p)

  pub ids : (h : Journal) → IsLegal script (Some start) h → is_sound k h ≡ true → Ids h
  ids [] l w = λ t i. absurd i
  ids (e ∷ h) l w = by_restart (tested (is_restart e.act)) (ids h l.0)
    where
      by_restart : Tested (is_restart e.act) → (is_sound k h ≡ true → Ids h) → Ids (e ∷ h)
      by_restart (inl r) f = λ t i. (let g : ⊥ = rw r at i in absurd g)
      by_restart (inr n) f =
          let z : WasSound k h e = was_sound k h e n w in ids_next h e l n w z (f z.before)

  -- a lock that is held is given back under its id, and there is one holder fewer
  unlock_held : (z : Slot) (i : ℕ) → (holder_count z ≡ 0 → ⊥) → i ≡ id_of z → (n : ℕ) × (suc n ≡ holder_count z) × (Regions.unlock z i ≡ Unlocked.Released n)
  unlock_held Slot.Vacant i f p = absurd (f refl)
  unlock_held (Slot.Item r t) i f p = absurd (f refl)
  unlock_held (Slot.Lock l) i f p = by_count l.holders refl
    where
      by_count : (m : ℕ) → l.holders ≡ m → (n : ℕ) × (suc n ≡ l.holders) × (Regions.unlock (Slot.Lock l) i ≡ Unlocked.Released n)
      by_count zero q = absurd (f q)
      by_count (suc m) q = (m, sym q, rw (eq-eqb l.id i (sym p), q) refl)

  update_held : (z : Slot) (i : ℕ) → (holder_count z ≡ 0 → ⊥) → i ≡ id_of z →
      (Regions.after_update z i ≡ Updated.Stored) ⊎ ((n : ℕ) × (suc n ≡ holder_count z) × (Regions.after_update z i ≡ Updated.Shared n))
  update_held Slot.Vacant i f p = absurd (f refl)
  update_held (Slot.Item r t) i f p = absurd (f refl)
  update_held (Slot.Lock l) i f p = by_count l.holders refl l.shared refl
    where
      by_count : (m : ℕ) → l.holders ≡ m → (b : Bool) → l.shared ≡ b →
          (Regions.after_update (Slot.Lock l) i ≡ Updated.Stored) ⊎ ((n : ℕ) × (suc n ≡ l.holders) × (Regions.after_update (Slot.Lock l) i ≡ Updated.Shared n))
      by_count zero q b c = absurd (f q)
      by_count (suc m) q true c = inr (m, sym q, rw (eq-eqb l.id i (sym p), q, c) refl)
      by_count (suc m) q false c = inl (rw (eq-eqb l.id i (sym p), q, c) refl)

  count_is : (h : Journal) → IsLegal script (Some start) h → is_sound k h ≡ true → length (holders k h) ≡ holder_count (slot script.timeout k h)
  count_is h l w = (coherent script start k rw_k h l w).holding.count

  -- the lock that a holder has
  lock_there : (z : Slot) (i : ℕ) → (holder_count z ≡ 0 → ⊥) → i ≡ id_of z → (l : LockState) × (z ≡ Slot.Lock l) × (l.id ≡ i)
  lock_there Slot.Vacant i f p = absurd (f refl)
  lock_there (Slot.Item r t) i f p = absurd (f refl)
  lock_there (Slot.Lock l) i f p = (l, refl, sym p)

  lock_held : (h : Journal) → IsLegal script (Some start) h → is_sound k h ≡ true → IsLockHeld script k h
  lock_held h l w = record {
    count = count_is h l w;
    id = λ s p.
        let i : In s (holders k h) = listed_in s (holders k h) p in
        lock_there (slot script.timeout k h) (lock_id k (own s h)) (held_lock h l w s i) (ids h l w s i);
  }

  given_back : (h : Journal) (e : Entry) → IsLegal script (Some start) h → IsStep script (Some start) h e → is_sound k h ≡ true → IsGivenBack k h e
  given_back h e l st w = record { unlock = unlock; update = update }
    where
      allowed : (s : ℕ) (a : Act) → e.session ≡ Some s → e.act ≡ a → (was_killed s h ≡ false) × Allowed script k (own s h) a
      allowed s a c p =
          let b : is_by s e ≡ true = rw c (eq-eqb s s refl) in
          ((next_act script (Some start) h e s st b).0, subst (λ x. Allowed script k (own s h) x) p (allowed_act script start k s rw_k h e l st b))

      holder : (s : ℕ) → was_killed s h ≡ false → is_begun (own s h) ≡ true → holds k (own s h) ≡ true → In s (holders k h)
      holder s k0 b x = holds_holder script start k rw_k s h l (begun_open s h k0 ∙ b) x

      unlock : (s i : ℕ) → e.session ≡ Some s → e.act ≡ Act.Unlock k i →
          (is_holder s k h ≡ true) × (n : ℕ) × (suc n ≡ length (holders k h)) × (e.reply ≡ Reply.Unlocked (Unlocked.Released n))
      unlock s i c p =
          let a : (was_killed s h ≡ false) × (same_key k k ≡ true → (holds k (own s h) ≡ true) × (is_begun (own s h) ≡ true) × (i ≡ lock_id k (own s h))) = allowed s (Act.Unlock k i) c p in
          let b : (holds k (own s h) ≡ true) × (is_begun (own s h) ≡ true) × (i ≡ lock_id k (own s h)) = a.1 (same_key_refl k) in
          let m : In s (holders k h) = holder s a.0 b.1 b.0 in
          let u : (n : ℕ) × (suc n ≡ holder_count (slot script.timeout k h)) × (Regions.unlock (slot script.timeout k h) i ≡ Unlocked.Released n) =
          unlock_held (slot script.timeout k h) i (held_lock h l w s m) (b.2 ∙ ids h l w s m) in (
            in_holder s (holders k h) m,
            u.0,
            u.1 ∙ sym (count_is h l w),
            replied script start h e (Act.Unlock k i) st.reply p (λ cs. refl) ∙ ap (λ x. Reply.Unlocked x) u.2,
          )

      update : (s i : ℕ) (r : Row) → e.session ≡ Some s → e.act ≡ Act.AfterUpdate k i r →
          (is_holder s k h ≡ true)
          × ((e.reply ≡ Reply.Updated Updated.Stored) ⊎ ((n : ℕ) × (suc n ≡ length (holders k h)) × (e.reply ≡ Reply.Updated (Updated.Shared n))))
      update s i r c p =
          let a : (was_killed s h ≡ false) × (same_key k k ≡ true → (holds k (own s h) ≡ true) × (done_in (own s h) ≡ true)
          × (option_and_then row_left (last_on k (changes s h)) ≡ Some r) × (is_begun (own s h) ≡ true) × (i ≡ lock_id k (own s h))) =
          allowed s (Act.AfterUpdate k i r) c p in
          let b : (holds k (own s h) ≡ true) × (done_in (own s h) ≡ true)
          × (option_and_then row_left (last_on k (changes s h)) ≡ Some r) × (is_begun (own s h) ≡ true) × (i ≡ lock_id k (own s h)) =
          a.1 (same_key_refl k) in
          let m : In s (holders k h) = holder s a.0 b.3 b.0 in
          let v : e.reply ≡ Reply.Updated (Regions.after_update (slot script.timeout k h) i) = replied script start h e (Act.AfterUpdate k i r) st.reply p (λ cs. refl) in (
            in_holder s (holders k h) m,
            elim (update_held (slot script.timeout k h) i (held_lock h l w s m) (b.4 ∙ ids h l w s m)) [
              | inl x ↦ inl (v ∙ ap (λ y. Reply.Updated y) x)
              | inr x ↦ inr (x.0, x.1 ∙ sym (count_is h l w), v ∙ ap (λ y. Reply.Updated y) x.2)
            ],
          )

  -- the locks of a key are held by those who took them, and are given back
  pub locks_kept : (h : Journal) → IsLegal script (Some start) h → AreLocksKept script k h
  locks_kept h l = record { held = held h l; back = back h l }
    where
      held : (h : Journal) → IsLegal script (Some start) h → AtEachPrefix (λ g. is_sound k g ≡ true → IsLockHeld script k g) h
      held [] l = lock_held [] l
      held (e ∷ h) l = (lock_held (e ∷ h) l, held h l.0)

      back : (h : Journal) → IsLegal script (Some start) h → AtEachEntry (λ g e. is_sound k g ≡ true → IsGivenBack k g e) h
      back [] l = tt
      back (e ∷ h) l = (given_back h e l.0 l.1, back h l.0)
