-- What a legal entry that touches a read-write key does to it.
use Rattle.std.specs.Prelude.{option_and_then}
use Rattle.std.proofs.Common.{◌≡◌, ℕ, suc, ◌⊎◌, inl, inr, Bool, true, false, cond, ◌&&◌, nat_le, Some, None, Option, refl, sym, ◌∙◌, subst, nat_lt}
use Rattle.std.proofs.lemmas.Bool.{true≢false}
use Rattle.hib_journal.specs.Types.{Key, Row, Strategy, Script, Act, Reply, Put, Locked, Unlocked, Inserted, Updated, Evicted, Miss}
use Rattle.hib_base.specs.Keys.{same_key}
use Rattle.hib_base.specs.Tables.{Tables}
use Rattle.hib_journal.specs.Sessions.{Journal}
use Rattle.hib_journal.specs.Slot.{Touch, LockState, Slot, slot, history, touch_here, touch_at, key_in, evicted_in}
use Rattle.hib_journal.specs.Room.{may_leave, room, item}
use Rattle.hib_journal.specs.Regions
use Rattle.hib_journal.specs.Next.{strategy, capacity}
use Rattle.hib_journal.specs.Legal.{reply_of, room_for, get_reply}
use Rattle.hib_journal.specs.Coherence.{takes, gives_back}
use Rattle.hib_base.proofs.Tables.{same_key_refl}
use Rattle.hib_law.specs.Locks.{holder_count}
use Rattle.hib_law.proofs.Touches.{here_or_victim, room_leaves, put_victim, insert_victim, lock_victim, insert_vacant, unlock_count, update_count, update_alone, evict_free}
use Rattle.hib_law.proofs.Basics.{none_some, some_same}

-- the floor that an act names
abbrev pub floor_named : Act → Option ℕ
floor_named (Act.Put k r t f) = Some f
floor_named (Act.Lock k v f) = Some f
floor_named (Act.AfterInsert k r f) = Some f
floor_named _ = None

abbrev pub is_remove : Act → Bool
is_remove (Act.RegionRemove k) = true
is_remove _ = false

-- what a touch says of the act and of the slot before it
abbrev pub Effect : ℕ → Key → Journal → Act → Touch → Type 0
Effect timeout k h a (Touch.Stores r late) =
    ((t : ℕ) × (f : ℕ) × (a ≡ Act.Put k r t f) × ((o : Option (Option ℕ)) × (v : Option ℕ) × (Regions.put (slot timeout k h) o t r.version ≡ Put.Stored v late)))
    ⊎ (((f : ℕ) × (a ≡ Act.AfterInsert k r f) × (slot timeout k h ≡ Slot.Vacant))
    ⊎ ((i : ℕ) × (a ≡ Act.AfterUpdate k i r) × ((l : LockState) × (slot timeout k h ≡ Slot.Lock l) × (l.shared ≡ false))))
Effect timeout k h a (Touch.Locks v) = (f : ℕ) × (a ≡ Act.Lock k v f)
Effect timeout k h a (Touch.Releases n) = (gives_back k a ≡ true) × (holder_count (slot timeout k h) ≡ suc n)
Effect timeout k h a Touch.Evicts = (a ≡ Act.Evict k) × (holder_count (slot timeout k h) ≡ 0)
Effect timeout k h a Touch.Expires = gives_back k a ≡ true
Effect timeout k h a Touch.Leaves =
    (f : ℕ) × (floor_named a ≡ Some f) × (may_leave f (slot timeout k h) ≡ true) × (takes k a ≡ false) × (gives_back k a ≡ false)
    × ((j : Key) × (key_in a ≡ Some j) × (j.entity ≡ k.entity))

module _ (timeout : ℕ) (k : Key) (h : Journal) where
  put_here : (r : Row) (t f : ℕ) (o : Option (Option ℕ)) (p : Put) (x : Touch) → Regions.put (slot timeout k h) o t r.version ≡ p →
      touch_here (Act.Put k r t f) (Reply.Put p) ≡ Some x → Effect timeout k h (Act.Put k r t f) x
  put_here r t f o (Put.Stored v late) x e g = subst (λ z. Effect timeout k h (Act.Put k r t f) z) (some_same g) (inl (t, f, refl, (o, v, e)))
  put_here r t f o (Put.Present v) x e g = none_some g
  put_here r t f o (Put.Held n) x e g = none_some g
  put_here r t f o (Put.Early u) x e g = none_some g
  put_here r t f o (Put.Old v) x e g = none_some g
  put_here r t f o Put.Crowded x e g = none_some g

  insert_here : (r : Row) (f : ℕ) (o : Option (Option ℕ)) (p : Inserted) (x : Touch) → Regions.after_insert (slot timeout k h) o ≡ p →
      touch_here (Act.AfterInsert k r f) (Reply.Inserted p) ≡ Some x → Effect timeout k h (Act.AfterInsert k r f) x
  insert_here r f o (Inserted.Stored v) x e g =
      subst (λ z. Effect timeout k h (Act.AfterInsert k r f) z) (some_same g) (inr (inl (f, refl, insert_vacant (slot timeout k h) o v e)))
  insert_here r f o Inserted.Present x e g = none_some g
  insert_here r f o Inserted.Crowded x e g = none_some g

  update_here : (r : Row) (i : ℕ) (p : Updated) (x : Touch) → Regions.after_update (slot timeout k h) i ≡ p →
      touch_here (Act.AfterUpdate k i r) (Reply.Updated p) ≡ Some x → Effect timeout k h (Act.AfterUpdate k i r) x
  update_here r i Updated.Stored x e g =
      subst (λ z. Effect timeout k h (Act.AfterUpdate k i r) z) (some_same g) (inr (inr (i, refl, update_alone (slot timeout k h) i e)))
  update_here r i (Updated.Shared n) x e g =
      subst (λ z. Effect timeout k h (Act.AfterUpdate k i r) z) (some_same g) (same_key_refl k, update_count (slot timeout k h) i n e)
  update_here r i Updated.Expired x e g = subst (λ z. Effect timeout k h (Act.AfterUpdate k i r) z) (some_same g) (same_key_refl k)

  unlock_here : (i : ℕ) (p : Unlocked) (x : Touch) → Regions.unlock (slot timeout k h) i ≡ p →
      touch_here (Act.Unlock k i) (Reply.Unlocked p) ≡ Some x → Effect timeout k h (Act.Unlock k i) x
  unlock_here i (Unlocked.Released n) x e g =
      subst (λ z. Effect timeout k h (Act.Unlock k i) z) (some_same g) (same_key_refl k, unlock_count (slot timeout k h) i n e)
  unlock_here i Unlocked.Expired x e g = subst (λ z. Effect timeout k h (Act.Unlock k i) z) (some_same g) (same_key_refl k)

  lock_here : (v : Option ℕ) (f : ℕ) (p : Locked) (x : Touch) →
      touch_here (Act.Lock k v f) (Reply.Locked p) ≡ Some x → Effect timeout k h (Act.Lock k v f) x
  lock_here v f p x g = subst (λ z. Effect timeout k h (Act.Lock k v f) z) (some_same g) (f, refl)

  evict_here : (p : Evicted) (x : Touch) → Regions.evict (slot timeout k h) ≡ p →
      touch_here (Act.Evict k) (Reply.Evicted p) ≡ Some x → Effect timeout k h (Act.Evict k) x
  evict_here Evicted.Gone x e g = subst (λ z. Effect timeout k h (Act.Evict k) z) (some_same g) (refl, evict_free (slot timeout k h) e)
  evict_here Evicted.Held x e g = none_some g
  evict_here Evicted.Absent x e g = none_some g

none_if : (b : Bool) (p q : Reply) → evicted_in p ≡ None → evicted_in q ≡ None → evicted_in (cond b p q) ≡ None
none_if true p q x y = x
none_if false p q x y = y

got_none : (s : Slot) (t : ℕ) → evicted_in (Regions.got s t) ≡ None
got_none Slot.Vacant t = refl
got_none (Slot.Item r u) t = none_if (nat_lt u t) (Reply.Hit r) (Reply.Miss (Miss.Young u)) refl refl
got_none (Slot.Lock l) t = refl

item_none : (b : Bool) (t : ℕ) (o : Option (Row × ℕ)) → evicted_in (Regions.got_item b t o) ≡ None
item_none b t None = refl
item_none b t (Some p) = none_if (b && nat_le t p.1) (Reply.Miss (Miss.Young p.1)) (Reply.Hit p.0) refl refl

get_none : (script : Script) (h : Journal) (g : Strategy) (j : Key) (t : ℕ) → evicted_in (get_reply g script h j t) ≡ None
get_none script h Strategy.ReadWrite j t = got_none (slot script.timeout j h) t
get_none script h Strategy.ReadOnly j t = item_none true t (item (history j h))
get_none script h Strategy.Nonstrict j t = item_none false t (item (history j h))
get_none script h Strategy.Uncached j t = item_none false t (item (history j h))

module _ (script : Script) (start : Tables) (k : Key) (h : Journal) (rw_k : strategy script k.entity ≡ Strategy.ReadWrite) where
  leaves : (j : Key) (f : ℕ) (a : Act) (x : Touch) → key_in a ≡ Some j → j.entity ≡ k.entity → floor_named a ≡ Some f → x ≡ Touch.Leaves →
      takes k a ≡ false → gives_back k a ≡ false → room_for script h j f ≡ Some (Some k.id) → Effect script.timeout k h a x
  leaves j f a x i q n p y z e =
      rw p (
        f,
        n,
        room_leaves script.timeout (capacity script k.entity) k.entity f h k.id
            (subst (λ z. room script.timeout (capacity script z) z f h ≡ Some (Some k.id)) q e),
        y,
        z,
        (j, i, q),
      )

  effect_put : (s now : ℕ) (j : Key) (r : Row) (t f : ℕ) (x : Touch) →
      touch_at k j (Act.Put j r t f) (reply_of script start h s now (Act.Put j r t f)) ≡ Some x → Effect script.timeout k h (Act.Put j r t f) x
  effect_put s now j r t f x e = by_place (here_or_victim k j (Act.Put j r t f) (reply_of script start h s now (Act.Put j r t f)) x e)
    where
      by_place : ((j ≡ k) × (touch_here (Act.Put j r t f) (reply_of script start h s now (Act.Put j r t f)) ≡ Some x))
          ⊎ ((j.entity ≡ k.entity) × (evicted_in (reply_of script start h s now (Act.Put j r t f)) ≡ Some k.id) × (x ≡ Touch.Leaves) × (same_key j k ≡ false)) →
          Effect script.timeout k h (Act.Put j r t f) x
      by_place (inl p) =
          let g : touch_here (Act.Put k r t f) (reply_of script start h s now (Act.Put k r t f)) ≡ Some x =
          subst (λ z. touch_here (Act.Put z r t f) (reply_of script start h s now (Act.Put z r t f)) ≡ Some x) p.0 p.1 in
          let m : touch_here (Act.Put k r t f) (Reply.Put (Regions.put (slot script.timeout k h) (room_for script h k f) t r.version)) ≡ Some x = rw rw_k at g in
          rw p.0 (put_here script.timeout k h r t f (room_for script h k f) (Regions.put (slot script.timeout k h) (room_for script h k f) t r.version) x refl m)
      by_place (inr p) =
          let sj : strategy script j.entity ≡ Strategy.ReadWrite = subst (λ z. strategy script z ≡ Strategy.ReadWrite) (sym p.0) rw_k in
          let g : evicted_in (Reply.Put (Regions.put (slot script.timeout j h) (room_for script h j f) t r.version)) ≡ Some k.id = rw sj at p.1 in
          leaves j f (Act.Put j r t f) x refl p.0 refl p.2 refl refl (put_victim (slot script.timeout j h) (room_for script h j f) t r.version k.id g)

  effect_insert : (s now : ℕ) (j : Key) (r : Row) (f : ℕ) (x : Touch) →
      touch_at k j (Act.AfterInsert j r f) (reply_of script start h s now (Act.AfterInsert j r f)) ≡ Some x → Effect script.timeout k h (Act.AfterInsert j r f) x
  effect_insert s now j r f x e = by_place (here_or_victim k j (Act.AfterInsert j r f) (reply_of script start h s now (Act.AfterInsert j r f)) x e)
    where
      by_place : ((j ≡ k) × (touch_here (Act.AfterInsert j r f) (reply_of script start h s now (Act.AfterInsert j r f)) ≡ Some x))
          ⊎ ((j.entity ≡ k.entity) × (evicted_in (reply_of script start h s now (Act.AfterInsert j r f)) ≡ Some k.id) × (x ≡ Touch.Leaves) × (same_key j k ≡ false)) →
          Effect script.timeout k h (Act.AfterInsert j r f) x
      by_place (inl p) =
          let g : touch_here (Act.AfterInsert k r f) (reply_of script start h s now (Act.AfterInsert k r f)) ≡ Some x =
          subst (λ z. touch_here (Act.AfterInsert z r f) (reply_of script start h s now (Act.AfterInsert z r f)) ≡ Some x) p.0 p.1 in
          let m : touch_here (Act.AfterInsert k r f) (Reply.Inserted (Regions.after_insert (slot script.timeout k h) (room_for script h k f))) ≡ Some x = rw rw_k at g in
          rw p.0 (insert_here script.timeout k h r f (room_for script h k f) (Regions.after_insert (slot script.timeout k h) (room_for script h k f)) x refl m)
      by_place (inr p) =
          let sj : strategy script j.entity ≡ Strategy.ReadWrite = subst (λ z. strategy script z ≡ Strategy.ReadWrite) (sym p.0) rw_k in
          let g : evicted_in (Reply.Inserted (Regions.after_insert (slot script.timeout j h) (room_for script h j f))) ≡ Some k.id = rw sj at p.1 in
          leaves j f (Act.AfterInsert j r f) x refl p.0 refl p.2 refl refl (insert_victim (slot script.timeout j h) (room_for script h j f) k.id g)

  effect_evict : (s now : ℕ) (j : Key) (x : Touch) →
      touch_at k j (Act.Evict j) (reply_of script start h s now (Act.Evict j)) ≡ Some x → Effect script.timeout k h (Act.Evict j) x
  effect_evict s now j x e = by_place (here_or_victim k j (Act.Evict j) (reply_of script start h s now (Act.Evict j)) x e)
    where
      by_place : ((j ≡ k) × (touch_here (Act.Evict j) (reply_of script start h s now (Act.Evict j)) ≡ Some x))
          ⊎ ((j.entity ≡ k.entity) × (evicted_in (reply_of script start h s now (Act.Evict j)) ≡ Some k.id) × (x ≡ Touch.Leaves) × (same_key j k ≡ false)) →
          Effect script.timeout k h (Act.Evict j) x
      by_place (inl p) =
          let g : touch_here (Act.Evict k) (reply_of script start h s now (Act.Evict k)) ≡ Some x =
          subst (λ z. touch_here (Act.Evict z) (reply_of script start h s now (Act.Evict z)) ≡ Some x) p.0 p.1 in
          let m : touch_here (Act.Evict k) (Reply.Evicted (Regions.evict (slot script.timeout k h))) ≡ Some x = rw rw_k at g in
          rw p.0 (evict_here script.timeout k h (Regions.evict (slot script.timeout k h)) x refl m)
      by_place (inr p) =
          let sj : strategy script j.entity ≡ Strategy.ReadWrite = subst (λ z. strategy script z ≡ Strategy.ReadWrite) (sym p.0) rw_k in
          let g : evicted_in (Reply.Evicted (Regions.evict (slot script.timeout j h))) ≡ Some k.id = rw sj at p.1 in
          none_some g

  effect_lock : (s now : ℕ) (j : Key) (v : Option ℕ) (f : ℕ) (x : Touch) →
      touch_at k j (Act.Lock j v f) (reply_of script start h s now (Act.Lock j v f)) ≡ Some x → Effect script.timeout k h (Act.Lock j v f) x
  effect_lock s now j v f x e = by_place (here_or_victim k j (Act.Lock j v f) (Reply.Locked (Regions.lock script.timeout (slot script.timeout j h) (room_for script h j f) now)) x e)
    where
      by_place : ((j ≡ k) × (touch_here (Act.Lock j v f) (Reply.Locked (Regions.lock script.timeout (slot script.timeout j h) (room_for script h j f) now)) ≡ Some x)) ⊎ ((j.entity ≡ k.entity) × (evicted_in (Reply.Locked (Regions.lock script.timeout (slot script.timeout j h) (room_for script h j f) now)) ≡ Some k.id) × (x ≡ Touch.Leaves) × (same_key j k ≡ false)) →
          Effect script.timeout k h (Act.Lock j v f) x
      by_place (inl p) =
          let m : touch_here (Act.Lock k v f) (Reply.Locked (Regions.lock script.timeout (slot script.timeout k h) (room_for script h k f) now)) ≡ Some x = subst (λ z. touch_here (Act.Lock z v f) (Reply.Locked (Regions.lock script.timeout (slot script.timeout z h) (room_for script h z f) now)) ≡ Some x) p.0 p.1 in
          rw p.0 (lock_here script.timeout k h v f (Regions.lock script.timeout (slot script.timeout k h) (room_for script h k f) now) x m)
      by_place (inr p) = leaves j f (Act.Lock j v f) x refl p.0 refl p.2 p.3 refl (lock_victim script.timeout now (slot script.timeout j h) (room_for script h j f) k.id p.1)

  effect_unlock : (s now : ℕ) (j : Key) (i : ℕ) (x : Touch) →
      touch_at k j (Act.Unlock j i) (reply_of script start h s now (Act.Unlock j i)) ≡ Some x → Effect script.timeout k h (Act.Unlock j i) x
  effect_unlock s now j i x e = by_place (here_or_victim k j (Act.Unlock j i) (Reply.Unlocked (Regions.unlock (slot script.timeout j h) i)) x e)
    where
      by_place : ((j ≡ k) × (touch_here (Act.Unlock j i) (Reply.Unlocked (Regions.unlock (slot script.timeout j h) i)) ≡ Some x)) ⊎ ((j.entity ≡ k.entity) × (evicted_in (Reply.Unlocked (Regions.unlock (slot script.timeout j h) i)) ≡ Some k.id) × (x ≡ Touch.Leaves) × (same_key j k ≡ false)) →
          Effect script.timeout k h (Act.Unlock j i) x
      by_place (inl p) =
          let m : touch_here (Act.Unlock k i) (Reply.Unlocked (Regions.unlock (slot script.timeout k h) i)) ≡ Some x = subst (λ z. touch_here (Act.Unlock z i) (Reply.Unlocked (Regions.unlock (slot script.timeout z h) i)) ≡ Some x) p.0 p.1 in
          rw p.0 (unlock_here script.timeout k h i (Regions.unlock (slot script.timeout k h) i) x refl m)
      by_place (inr p) = none_some p.1

  effect_update : (s now : ℕ) (j : Key) (i : ℕ) (r : Row) (x : Touch) →
      touch_at k j (Act.AfterUpdate j i r) (reply_of script start h s now (Act.AfterUpdate j i r)) ≡ Some x → Effect script.timeout k h (Act.AfterUpdate j i r) x
  effect_update s now j i r x e = by_place (here_or_victim k j (Act.AfterUpdate j i r) (Reply.Updated (Regions.after_update (slot script.timeout j h) i)) x e)
    where
      by_place : ((j ≡ k) × (touch_here (Act.AfterUpdate j i r) (Reply.Updated (Regions.after_update (slot script.timeout j h) i)) ≡ Some x)) ⊎ ((j.entity ≡ k.entity) × (evicted_in (Reply.Updated (Regions.after_update (slot script.timeout j h) i)) ≡ Some k.id) × (x ≡ Touch.Leaves) × (same_key j k ≡ false)) →
          Effect script.timeout k h (Act.AfterUpdate j i r) x
      by_place (inl p) =
          let m : touch_here (Act.AfterUpdate k i r) (Reply.Updated (Regions.after_update (slot script.timeout k h) i)) ≡ Some x = subst (λ z. touch_here (Act.AfterUpdate z i r) (Reply.Updated (Regions.after_update (slot script.timeout z h) i)) ≡ Some x) p.0 p.1 in
          rw p.0 (update_here script.timeout k h r i (Regions.after_update (slot script.timeout k h) i) x refl m)
      by_place (inr p) = none_some p.1

  -- an act that touches k, other than the removal of an item, has its effect
  pub effect : (s now : ℕ) (a : Act) (x : Touch) → is_remove a ≡ false →
      option_and_then (λ j. touch_at k j a (reply_of script start h s now a)) (key_in a) ≡ Some x → Effect script.timeout k h a x
  effect s now (Act.Put j r t f) x n e = effect_put s now j r t f x e
  effect s now (Act.AfterInsert j r f) x n e = effect_insert s now j r f x e
  effect s now (Act.Evict j) x n e = effect_evict s now j x e
  effect s now (Act.Lock j v f) x n e = effect_lock s now j v f x e
  effect s now (Act.Unlock j i) x n e = effect_unlock s now j i x e
  effect s now (Act.AfterUpdate j i r) x n e = effect_update s now j i r x e
  effect s now (Act.RegionRemove j) x n e = absurd (true≢false n)
  effect s now (Act.Get j t) x n e = elim (here_or_victim k j (Act.Get j t) (reply_of script start h s now (Act.Get j t)) x e) [
    | inl p ↦ none_some p.1
    | inr p ↦ none_some (sym (get_none script h (strategy script j.entity) j t) ∙ p.1)
  ]
  effect s now _ x n e = none_some e
