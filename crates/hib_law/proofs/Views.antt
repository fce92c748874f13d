-- A legal journal as seen from one read-write key: each entry is a move of the key's protocol.
use Rattle.std.specs.Prelude.{option_and_then}
use Rattle.std.specs.Option.{option_map_or}
use Rattle.std.proofs.Common.{◌≡◌, ℕ, suc, ◌≤◌, ◌⊎◌, inl, inr, Bool, true, false, ◌∷◌, Some, None, Option, refl, ap, ◌∙◌, arith}
use Rattle.std.proofs.lemmas.Bool.{false≢true}
use Rattle.hib_journal.specs.Types.{Key, Row, Change, Script, Act, Reply, Unlocked, Updated, Entry}
use Rattle.hib_base.specs.Tables.{Tables, row_at, first_on}
use Rattle.hib_law.proofs.Commits.{AreSteps}
use Rattle.hib_journal.specs.Sessions.{Journal, is_open, is_restart, time, changes, committed, committer}
use Rattle.hib_journal.specs.Slot.{Touch, Slot, slot, history, touch, touch_here, key_in, touch_at}
use Rattle.hib_journal.specs.Regions
use Rattle.hib_journal.specs.Legal.{reply_of}
use Rattle.hib_journal.specs.Sound.{is_calm, was_deleted}
use Rattle.hib_journal.specs.Coherence.{holders, takes, gives_back, is_done, last_row, Seen, remove}
use Rattle.hib_base.specs.Keys.{same_key}
use Rattle.hib_base.proofs.Tables.{Tested, tested, same_key_refl, same_key_eq}
use Rattle.hib_journal.proofs.Slots.{touched, IsFor, IsKept, slot_step}
use Rattle.hib_law.specs.Locks.{holder_count}
use Rattle.hib_law.proofs.Guarded.{View, Move, In}
use Rattle.hib_law.proofs.Effects.{Effect, floor_named, is_remove}

abbrev pub view_of : Script → Tables → Key → Journal → View
view_of script start k h = record {
  slot = slot script.timeout k h;
  row = row_at (committed start h) k;
  holders = holders k h;
  deleted = was_deleted k h;
  active = λ s. is_open s h;
  time = λ s. time s h;
  seen = λ s b. Seen start k s b h;
  done = λ s. is_done s h;
  last = λ s. last_row k s h;
}

-- what a session has that is to commit: if its first change on the key is no insert, the lock, and changes that go
-- up by one version
abbrev pub IsReady : Key → Journal → ℕ → Option Change → Type 0
IsReady k h s None = Unit {0}
IsReady k h s (Some (Change.Insert j r)) = Unit {0}
IsReady k h s (Some c) = AreSteps k (changes s h) × In s (holders k h)

-- what the sessions' own rules say of an entry, at one read-write key
pub record IsOrderly (start : Tables) (k : Key) (h : Journal) (e : Entry) : Type 0 where
  -- a put is of a row that its session has seen, at the session's time
  pub puts : (r : Row) (t f : ℕ) → e.act ≡ Act.Put k r t f →
      (s : ℕ) × (is_open s h ≡ true) × Seen start k s r h × (t ≡ time s h)
  pub inserts : (r : Row) (f : ℕ) → e.act ≡ Act.AfterInsert k r f → (s : ℕ) × (is_open s h ≡ true) × Seen start k s r h
  pub updates : (i : ℕ) (r : Row) → e.act ≡ Act.AfterUpdate k i r →
      (s : ℕ) × (e.session ≡ Some s) × In s (holders k h) × (is_done s h ≡ true) × (last_row k s h ≡ Some r)
  pub unlocks : (i : ℕ) → e.act ≡ Act.Unlock k i → (s : ℕ) × (e.session ≡ Some s) × In s (holders k h)
  pub locks : (v : Option ℕ) (f : ℕ) → e.act ≡ Act.Lock k v f →
      (s : ℕ) × (e.session ≡ Some s) × (is_open s h ≡ true) × (is_done s (e ∷ h) ≡ false)
      × ((v ≡ None) ⊎ ((b : Row) × Seen start k s b h × (b.version ≡ v)))
  -- a floor that is named to the region is no later than the time of any open session
  pub floors : (j : Key) (f : ℕ) → key_in e.act ≡ Some j → j.entity ≡ k.entity → floor_named e.act ≡ Some f → (u : ℕ) → is_open u h ≡ true → f ≤ time u h
  -- no item of the key is removed
  pub removes : (x : Touch) → touch k e ≡ Some x → is_remove e.act ≡ false
  -- a holder that has committed writes no more, and begins nothing new
  pub steady : committer e.act e.reply e.session ≡ None → (t : ℕ) → In t (holders k h) →
      (is_done t (e ∷ h) ≡ is_done t h) × (is_done t h ≡ true → last_row k t (e ∷ h) ≡ last_row k t h)
  -- a session commits once, a holder of the key unless its first change inserts it
  pub commits : (s : ℕ) → committer e.act e.reply e.session ≡ Some s → (is_done s h ≡ false) × IsReady k h s (first_on k (changes s h))

pub history_step : (k : Key) (e : Entry) (h : Journal) → is_restart e.act ≡ false → history k (e ∷ h) ≡ option_map_or (λ t. (t, e.tick) ∷ (history k h)) (touch k e) (history k h)
history_step k e h n = rw n

pub slot_touched : (script : Script) (k : Key) (e : Entry) (h : Journal) (x : Touch) → is_restart e.act ≡ false → touch k e ≡ Some x →
    IsKept script.timeout ((x, e.tick) ∷ history k h) → slot script.timeout k (e ∷ h) ≡ touched script.timeout x e.tick (slot script.timeout k h)
slot_touched script k e h x n t w = rw (history_step k e h n, t) (slot_step script.timeout x e.tick (history k h) w)

pub slot_rests : (script : Script) (k : Key) (e : Entry) (h : Journal) → is_restart e.act ≡ false → touch k e ≡ None →
    slot script.timeout k (e ∷ h) ≡ slot script.timeout k h
slot_rests script k e h n t = rw (history_step k e h n, t)

-- the holders after an act
pub holders_same : (k : Key) (e : Entry) (h : Journal) → is_restart e.act ≡ false → takes k e.act ≡ false → gives_back k e.act ≡ false →
    holders k (e ∷ h) ≡ holders k h
holders_same k e h n a b = rw (n, a, b)

pub holders_more : (k : Key) (e : Entry) (h : Journal) (s : ℕ) → is_restart e.act ≡ false → takes k e.act ≡ true → e.session ≡ Some s →
    holders k (e ∷ h) ≡ s ∷ holders k h
holders_more k e h s n a b = rw (n, a, b)

pub holders_less : (k : Key) (e : Entry) (h : Journal) (s : ℕ) → is_restart e.act ≡ false → takes k e.act ≡ false → gives_back k e.act ≡ true →
    e.session ≡ Some s → holders k (e ∷ h) ≡ remove s (holders k h)
holders_less k e h s n a b c = rw (n, a, b, c)

pub gives_back_act : (k : Key) (a : Act) → gives_back k a ≡ true → ((i : ℕ) × (a ≡ Act.Unlock k i)) ⊎ ((i : ℕ) × (r : Row) × (a ≡ Act.AfterUpdate k i r))
gives_back_act k (Act.Unlock j i) e = inl (i, ap (λ z. Act.Unlock z i) (same_key_eq j k e))
gives_back_act k (Act.AfterUpdate j i r) e = inr (i, r, ap (λ z. Act.AfterUpdate z i r) (same_key_eq j k e))
gives_back_act k _ e = absurd (false≢true e)

pub takes_not_back : (k : Key) (a : Act) → gives_back k a ≡ true → takes k a ≡ false
takes_not_back k (Act.Unlock j i) e = refl
takes_not_back k (Act.AfterUpdate j i r) e = refl
takes_not_back k _ e = absurd (false≢true e)

-- an entry that leaves k as it is neither locks it nor gives a lock back
module _ (script : Script) (start : Tables) (k : Key) (h : Journal) where
  some_none : {x : Touch} {P : Type 0} → ◌≡◌ {A = Option Touch} (Some x) None → P
  some_none e = absurd (no e)
    where
      no : {x : Touch} → ◌≡◌ {A = Option Touch} (Some x) None → ⊥
      no e = cc

  lock_none : (s now : ℕ) (j : Key) (v : Option ℕ) (f : ℕ) → option_and_then (λ x. touch_at k x (Act.Lock j v f) (reply_of script start h s now (Act.Lock j v f))) (Some j) ≡ None →
      Tested (same_key j k) → same_key j k ≡ false
  lock_none s now j v f e (inr x) = x
  lock_none s now j v f e (inl x) = let g : Some (Touch.Locks v) ≡ None = rw x at e in some_none g

  unlock_some : (u : Unlocked) (j : Key) (i : ℕ) → touch_here (Act.Unlock j i) (Reply.Unlocked u) ≡ None → ⊥
  unlock_some (Unlocked.Released m) j i e = some_none e
  unlock_some Unlocked.Expired j i e = some_none e

  update_some : (u : Updated) (j : Key) (i : ℕ) (r : Row) → touch_here (Act.AfterUpdate j i r) (Reply.Updated u) ≡ None → ⊥
  update_some Updated.Stored j i r e = some_none e
  update_some (Updated.Shared m) j i r e = some_none e
  update_some Updated.Expired j i r e = some_none e

  unlock_none : (s now : ℕ) (j : Key) (i : ℕ) → option_and_then (λ x. touch_at k x (Act.Unlock j i) (reply_of script start h s now (Act.Unlock j i))) (Some j) ≡ None →
      Tested (same_key j k) → same_key j k ≡ false
  unlock_none s now j i e (inr x) = x
  unlock_none s now j i e (inl x) =
      let g : touch_here (Act.Unlock j i) (Reply.Unlocked (Regions.unlock (slot script.timeout j h) i)) ≡ None = rw x at e in
      absurd (unlock_some (Regions.unlock (slot script.timeout j h) i) j i g)

  update_none : (s now : ℕ) (j : Key) (i : ℕ) (r : Row) → option_and_then (λ x. touch_at k x (Act.AfterUpdate j i r) (reply_of script start h s now (Act.AfterUpdate j i r))) (Some j) ≡ None →
      Tested (same_key j k) → same_key j k ≡ false
  update_none s now j i r e (inr x) = x
  update_none s now j i r e (inl x) =
      let g : touch_here (Act.AfterUpdate j i r) (Reply.Updated (Regions.after_update (slot script.timeout j h) i)) ≡ None = rw x at e in
      absurd (update_some (Regions.after_update (slot script.timeout j h) i) j i r g)

  pub untouched : (s now : ℕ) (a : Act) → option_and_then (λ j. touch_at k j a (reply_of script start h s now a)) (key_in a) ≡ None →
      (takes k a ≡ false) × (gives_back k a ≡ false)
  untouched s now (Act.Lock j v f) e = (lock_none s now j v f e (tested (same_key j k)), refl)
  untouched s now (Act.Unlock j i) e = (refl, unlock_none s now j i e (tested (same_key j k)))
  untouched s now (Act.AfterUpdate j i r) e = (refl, update_none s now j i r e (tested (same_key j k)))
  untouched s now _ e = (refl, refl)

module _ (script : Script) (k : Key) (h : Journal) (e : Entry) where
  -- what a release in the history says of the slot before it
  pub to_kept : (x : Touch) → Effect script.timeout k h e.act x → IsFor x (slot script.timeout k h)
  to_kept (Touch.Releases m) f = by_slot (slot script.timeout k h) f.1
    where
      by_slot : (z : Slot) → holder_count z ≡ suc m → IsFor (Touch.Releases m) z
      by_slot Slot.Vacant g = absurd (omega arith)
      by_slot (Slot.Item r t) g = absurd (omega arith)
      by_slot (Slot.Lock l) g = g
  to_kept (Touch.Stores r late) f = tt
  to_kept (Touch.Locks v) f = tt
  to_kept Touch.Evicts f = tt
  to_kept Touch.Expires f = tt
  to_kept Touch.Leaves f = tt

-- a touch of a calm key is a move
module _ (script : Script) (start : Tables) (k : Key) (h : Journal) (e : Entry) (n : is_restart e.act ≡ false)
    (o : IsOrderly start k h e) where
  abbrev M : Type 0
  M = Move script.timeout e.tick (view_of script start k h) (view_of script start k (e ∷ h))

  stores_late : (r : Row) (late : Bool) → is_calm (Touch.Stores r late) ≡ true → late ≡ false
  stores_late r true c = absurd (false≢true c)
  stores_late r false c = refl

  same_holders : (a : Act) → e.act ≡ a → takes k a ≡ false → gives_back k a ≡ false → holders k (e ∷ h) ≡ holders k h
  same_holders a p t g = holders_same k e h n (rw p t) (rw p g)

  move_stores : (r : Row) (late : Bool) → late ≡ false →
      slot script.timeout k (e ∷ h) ≡ Slot.Item r e.tick → Effect script.timeout k h e.act (Touch.Stores r late) → M
  move_stores r late c w (inl (t, f, p, (q, v, u))) =
      let d : (s : ℕ) × (is_open s h ≡ true) × Seen start k s r h × (t ≡ time s h) = o.puts r t f p in
      Move.Puts d.0 r q v w (same_holders (Act.Put k r t f) p refl refl) d.1 d.2 (rw (← d.3) (rw c at u))
  move_stores r late c w (inr (inl (f, p, u))) =
      let d : (s : ℕ) × (is_open s h ≡ true) × Seen start k s r h = o.inserts r f p in
      Move.Inserts d.0 r w (same_holders (Act.AfterInsert k r f) p refl refl) d.1 d.2 u
  move_stores r late c w (inr (inr (i, p, (l, u, v)))) =
      let d : (s : ℕ) × (e.session ≡ Some s) × In s (holders k h) × (is_done s h ≡ true) × (last_row k s h ≡ Some r) = o.updates i r p in
      Move.Updates d.0 r l w (holders_less k e h d.0 n (rw p refl) (rw p (same_key_refl k)) d.1) u v d.2 d.3 d.4

  holder_of : (a : Act) → e.act ≡ a → gives_back k a ≡ true → (s : ℕ) × (e.session ≡ Some s) × In s (holders k h)
  holder_of a p g = elim (gives_back_act k a g) [
    | inl x ↦ o.unlocks x.0 (p ∙ x.1)
    | inr x ↦ let d : (s : ℕ) × (e.session ≡ Some s) × In s (holders k h) × (is_done s h ≡ true) × (last_row k s h ≡ Some x.1) = o.updates x.0 x.1 (p ∙ x.2) in
        (d.0, d.1, d.2)
  ]

  pub to_move : (x : Touch) → is_calm x ≡ true → slot script.timeout k (e ∷ h) ≡ touched script.timeout x e.tick (slot script.timeout k h) →
      Effect script.timeout k h e.act x → M
  to_move (Touch.Stores r late) c w f = move_stores r late (stores_late r late c) w f
  to_move (Touch.Locks v) c w f =
      let d : (s : ℕ) × (e.session ≡ Some s) × (is_open s h ≡ true) × (is_done s (e ∷ h) ≡ false)
      × ((v ≡ None) ⊎ ((b : Row) × Seen start k s b h × (b.version ≡ v))) = o.locks v f.0 f.1 in
      Move.Locks d.0 v w (holders_more k e h d.0 n (rw f.1 (same_key_refl k)) d.1) d.2 d.3 d.4
  to_move (Touch.Releases m) c w f =
      let d : (s : ℕ) × (e.session ≡ Some s) × In s (holders k h) = holder_of e.act refl f.0 in
      Move.Releases d.0 m w (holders_less k e h d.0 n (takes_not_back k e.act f.0) f.0 d.1) f.1 d.2
  to_move Touch.Evicts c w f = Move.Evicts w (same_holders (Act.Evict k) f.0 refl refl) f.1
  to_move Touch.Expires c w f = absurd (false≢true c)
  to_move Touch.Leaves c w f = Move.Leaves f.0 w (holders_same k e h n f.3 f.4) f.2 (o.floors f.5.0 f.0 f.5.1 f.5.2 f.1)

  pub to_rest : touch k e ≡ None → takes k e.act ≡ false → gives_back k e.act ≡ false → M
  to_rest t a b = Move.Rests (slot_rests script k e h n t) (holders_same k e h n a b)
