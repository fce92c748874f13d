-- What regions answer is well formed, if the entries before it are good.
use Rattle.std.specs.Prelude.{is_some, option_map, option_and_then}
use Rattle.std.specs.Option.{option_map_or}
use Rattle.std.proofs.Common.{◌≡◌, ℕ, zero, suc, ◌≤◌, ◌^◌, Bool, true, false, cond, ◌&&◌, ◌==◌, List, [], ◌∷◌, length, nat_lt, Some, None, Option, IfSome, refl, arith}
use Rattle.std.proofs.lemmas.Bool.{and_parts}
use Rattle.std.specs.List.{AllByRecursion, filter, list_any}
use Rattle.hib_base.specs.Fits.{is_identifier}
use Rattle.hib_base.specs.Keys.{same_key}
use Rattle.hib_journal.specs.Types.{Key, Script, Act, Reply, Entry, Put, Unlocked, Inserted, Updated, Evicted}
use Rattle.hib_journal.specs.Sessions.{Journal, is_restart}
use Rattle.hib_journal.specs.Slot.{Touch, touch_here, key_in, evicted_in, touch, History, history, Base, base, stretch, locks, is_positive, first_lock, last_free, LockState, Slot, bar_end, slot_of, slot_from, slot, touch_at}
use Rattle.hib_journal.specs.Room.{key, add_once, add_key, named, place, may_leave, kept, is_earlier, earlier_of, first_placed, victim, room, item, items, oldest}
use Rattle.hib_entry_fields.specs.Known.{is_key, is_tick, is_version, are_cells, is_row}
use Rattle.hib_entry_texts.specs.WellFormed.{is_act, is_evicted_id}
use Rattle.hib_formed.proofs.Each.{each_filter}
use Rattle.hib_formed.proofs.Goods.{IsGood, AllGood, key_parts}

-- ---- what was done to a key

abbrev pub IsTouch : Touch → Type 0
IsTouch (Touch.Stores r late) = is_row r ≡ true
IsTouch (Touch.Locks v) = is_version v ≡ true
IsTouch _ = Unit {0}

pub record IsMark (x : Touch × ℕ) : Type 0 where
  pub touch : IsTouch x.0
  pub tick : x.1 ≤ 2 ^ 61

abbrev pub AreMarks : History → Type 0
AreMarks s = AllByRecursion IsMark s

module _ (script : Script) where
  here_good : (a : Act) (r : Reply) → is_act script a ≡ true → IfSome (touch_here a r) IsTouch
  here_good (Act.Put k r t f) (Reply.Put (Put.Stored v late)) h =
      (and_parts (is_row r) (is_tick t && is_tick f) (and_parts (is_key script k) (is_row r && (is_tick t && is_tick f)) h).1).0
  here_good (Act.AfterInsert k r f) (Reply.Inserted (Inserted.Stored v)) h = (and_parts (is_row r) (is_tick f) (and_parts (is_key script k) (is_row r && is_tick f) h).1).0
  here_good (Act.AfterUpdate k i r) (Reply.Updated Updated.Stored) h = (and_parts (is_tick i) (is_row r) (and_parts (is_key script k) (is_tick i && is_row r) h).1).1
  here_good (Act.Lock k v f) (Reply.Locked l) h = (and_parts (is_version v) (is_tick f) (and_parts (is_key script k) (is_version v && is_tick f) h).1).0
  here_good (Act.AfterUpdate k i r) (Reply.Updated (Updated.Shared n)) h = tt
  here_good (Act.AfterUpdate k i r) (Reply.Updated Updated.Expired) h = tt
  here_good (Act.Unlock k i) (Reply.Unlocked (Unlocked.Released n)) h = tt
  here_good (Act.Unlock k i) (Reply.Unlocked Unlocked.Expired) h = tt
  here_good (Act.Evict k) (Reply.Evicted Evicted.Gone) h = tt
  here_good (Act.RegionRemove k) Reply.Dropped h = tt
  here_good _ _ h = tt

  touch_good : (k : Key) (e : Entry) → IsGood script e → IfSome (touch k e) IsTouch
  touch_good k e g = by_key (key_in e.act)
    where
      by_victim : (b : Bool) → IfSome (cond b (Some Touch.Leaves) None) IsTouch
      by_victim true = tt
      by_victim false = tt

      by_test : (here : Key) (b : Bool) → IfSome (cond b (touch_here e.act e.reply) (cond ((here.entity == k.entity) && option_map_or (λ v. v == k.id) (evicted_in e.reply) false) (Some Touch.Leaves) None)) IsTouch
      by_test here true = here_good e.act e.reply g.act
      by_test here false = by_victim ((here.entity == k.entity) && option_map_or (λ v. v == k.id) (evicted_in e.reply) false)

      by_key : (o : Option Key) → IfSome (option_and_then (λ j. touch_at k j e.act e.reply) o) IsTouch
      by_key None = tt
      by_key (Some here) = by_test here (same_key here k)

  with_mark : (o : Option Touch) (now : ℕ) (s : History) → IfSome o IsTouch → now ≤ 2 ^ 61 → AreMarks s → AreMarks (option_map_or (λ t. (t, now) ∷ s) o s)
  with_mark None now s h t m = m
  with_mark (Some x) now s h t m = (record { touch = h; tick = t }, m)

  pub history_good : (k : Key) (h : Journal) → AllGood script h → AreMarks (history k h)
  history_good k [] g = tt
  history_good k (e ∷ h) g = by (is_restart e.act) (history_good k h g.1)
    where
      by : (b : Bool) → AreMarks (history k h) → AreMarks (cond b [] (option_map_or (λ t. (t, e.tick) ∷ (history k h)) (touch k e) (history k h)))
      by true m = tt
      by false m = with_mark (touch k e) e.tick (history k h) (touch_good k e g.0) g.0.tick m

with_length : (o : Option Touch) (now : ℕ) (s : History) → length (option_map_or (λ t. (t, now) ∷ s) o s) ≤ suc (length s)
with_length None now s = omega arith
with_length (Some x) now s = omega arith

history_length : (k : Key) (h : Journal) → length (history k h) ≤ length h
history_length k [] = omega arith
history_length k (e ∷ h) = by (is_restart e.act) (history_length k h)
  where
    by : (b : Bool) → length (history k h) ≤ length h → length (cond b [] (option_map_or (λ t. (t, e.tick) ∷ (history k h)) (touch k e) (history k h))) ≤ suc (length h)
    by true i = omega arith
    by false i = omega (arith, with_length (touch k e) e.tick (history k h))

-- ---- what it comes to

abbrev IsBase : Base → Type 0
IsBase Base.Nothing = Unit {0}
IsBase (Base.Stored r t) = (is_row r ≡ true) × (t ≤ 2 ^ 61)
IsBase (Base.Barred t x) = t ≤ 2 ^ 61

base_good : (s : History) → AreMarks s → IsBase (base s)
base_good [] m = tt
base_good ((Touch.Stores r late, now) ∷ s) m = (m.0.touch, m.0.tick)
base_good ((Touch.Evicts, now) ∷ s) m = m.0.tick
base_good ((Touch.Expires, now) ∷ s) m = m.0.tick
base_good ((Touch.Leaves, now) ∷ s) m = tt
base_good ((Touch.Locks v, now) ∷ s) m = base_good s m.1
base_good ((Touch.Releases n, now) ∷ s) m = base_good s m.1

stretch_good : (s : History) → AreMarks s → AreMarks (stretch s)
stretch_good [] m = tt
stretch_good ((Touch.Locks v, now) ∷ s) m = (m.0, stretch_good s m.1)
stretch_good ((Touch.Releases n, now) ∷ s) m = (m.0, stretch_good s m.1)
stretch_good ((_, now) ∷ s) m = tt

locks_few : (s : History) → locks (stretch s) ≤ length s
locks_few [] = omega arith
locks_few ((Touch.Locks v, now) ∷ s) = omega (arith, locks_few s)
locks_few ((Touch.Releases n, now) ∷ s) = omega (arith, locks_few s)
locks_few ((Touch.Stores r late, now) ∷ s) = omega arith
locks_few ((Touch.Evicts, now) ∷ s) = omega arith
locks_few ((Touch.Expires, now) ∷ s) = omega arith
locks_few ((Touch.Leaves, now) ∷ s) = omega arith

pub record IsFirst (x : ℕ × Option ℕ) : Type 0 where
  pub tick : x.0 ≤ 2 ^ 61
  pub version : is_version x.1 ≡ true

first_by : (c : Bool) (a b : ℕ × Option ℕ) → IsFirst a → IsFirst b → IsFirst (cond c b a)
first_by true a b h g = g
first_by false a b h g = h

first_good : (s : History) → AreMarks s → IsFirst (first_lock s)
first_good [] m = record { tick = omega arith; version = refl }
first_good ((Touch.Locks v, now) ∷ s) m = first_by (is_positive (locks s)) (now, v) (first_lock s) (record { tick = m.0.tick; version = m.0.touch }) (first_good s m.1)
first_good ((Touch.Stores r late, now) ∷ s) m = first_good s m.1
first_good ((Touch.Releases n, now) ∷ s) m = first_good s m.1
first_good ((Touch.Evicts, now) ∷ s) m = first_good s m.1
first_good ((Touch.Expires, now) ∷ s) m = first_good s m.1
first_good ((Touch.Leaves, now) ∷ s) m = first_good s m.1

free_early : (s : History) (other : ℕ) → AreMarks s → other ≤ 2 ^ 62 → last_free s other ≤ 2 ^ 62
free_early [] other m h = h
free_early ((Touch.Releases zero, now) ∷ s) other m h = let t : now ≤ 2 ^ 61 = m.0.tick in omega arith
free_early ((Touch.Releases (suc n), now) ∷ s) other m h = free_early s other m.1 h
free_early ((Touch.Stores r late, now) ∷ s) other m h = free_early s other m.1 h
free_early ((Touch.Locks v, now) ∷ s) other m h = free_early s other m.1 h
free_early ((Touch.Evicts, now) ∷ s) other m h = free_early s other m.1 h
free_early ((Touch.Expires, now) ∷ s) other m h = free_early s other m.1 h
free_early ((Touch.Leaves, now) ∷ s) other m h = free_early s other m.1 h

pub record IsLockState (n : ℕ) (l : LockState) : Type 0 where
  pub id : l.id ≤ 2 ^ 61
  pub version : is_version l.version ≡ true
  pub holders : l.holders ≤ n
  pub unlock : l.unlock ≤ 2 ^ 62

-- with at most n holders
abbrev pub IsSlot : ℕ → Slot → Type 0
IsSlot n Slot.Vacant = Unit {0}
IsSlot n (Slot.Item r t) = (is_row r ≡ true) × (t ≤ 2 ^ 61)
IsSlot n (Slot.Lock l) = IsLockState n l

bar_early : (x : Bool) (timeout t : ℕ) → timeout ≤ 1000000 → t ≤ 2 ^ 61 → bar_end x timeout t ≤ 2 ^ 62
bar_early true timeout t h g = omega arith
bar_early false timeout t h g = omega arith

by_base : (timeout n : ℕ) (b : Base) (l : ℕ) (s : History) → timeout ≤ 1000000 → IsBase b → AreMarks s → l ≤ n → IsSlot n (slot_of timeout b l s)
by_base timeout n Base.Nothing zero s h g m c = tt
by_base timeout n (Base.Stored r t) zero s h g m c = g
by_base timeout n (Base.Barred t x) zero s h g m c = record { id = g; version = refl; holders = omega arith; unlock = bar_early x timeout t h g }
by_base timeout n Base.Nothing (suc l) s h g m c =
    let f : IsFirst (first_lock s) = first_good s m in record { id = f.tick; version = f.version; holders = omega arith; unlock = free_early s 0 m (omega arith) }
by_base timeout n (Base.Stored r t) (suc l) s h g m c =
    let f : IsFirst (first_lock s) = first_good s m in
    record { id = f.tick; version = (and_parts (is_version r.version) (are_cells r.cells) g.0).0; holders = omega arith; unlock = free_early s 0 m (omega arith) }
by_base timeout n (Base.Barred t x) (suc l) s h g m c =
    record { id = g; version = refl; holders = omega arith; unlock = free_early s (bar_end x timeout t) m (bar_early x timeout t h g) }

pub slot_good : (script : Script) (k : Key) (h : Journal) → script.timeout ≤ 1000000 → AllGood script h → IsSlot (length h) (slot script.timeout k h)
unfolding slot_from
slot_good script k h t g =
    let m : AreMarks (history k h) = history_good script k h g in
    by_base script.timeout (length h) (base (history k h)) (locks (stretch (history k h))) (stretch (history k h)) t (base_good (history k h) m) (stretch_good (history k h) m)
    (omega (arith, locks_few (history k h), history_length k h))

pub item_good : (s : History) → AreMarks s → IfSome (item s) (λ p. (is_row p.0 ≡ true) × (p.1 ≤ 2 ^ 61))
item_good [] m = tt
item_good ((Touch.Stores r late, now) ∷ s) m = (m.0.touch, m.0.tick)
item_good ((Touch.Leaves, now) ∷ s) m = tt
item_good ((Touch.Evicts, now) ∷ s) m = tt
item_good ((Touch.Locks v, now) ∷ s) m = item_good s m.1
item_good ((Touch.Releases n, now) ∷ s) m = item_good s m.1
item_good ((Touch.Expires, now) ∷ s) m = item_good s m.1

-- ---- who leaves

module _ (script : Script) where
  key_named : (a : Act) → is_act script a ≡ true → IfSome (key_in a) (λ k. is_key script k ≡ true)
  key_named (Act.Get k t) h = (and_parts (is_key script k) (is_tick t) h).0
  key_named (Act.Put k r t f) h = (and_parts (is_key script k) (is_row r && (is_tick t && is_tick f)) h).0
  key_named (Act.AfterInsert k r f) h = (and_parts (is_key script k) (is_row r && is_tick f) h).0
  key_named (Act.AfterUpdate k i r) h = (and_parts (is_key script k) (is_tick i && is_row r) h).0
  key_named (Act.Lock k v f) h = (and_parts (is_key script k) (is_version v && is_tick f) h).0
  key_named (Act.Unlock k i) h = (and_parts (is_key script k) (is_tick i) h).0
  key_named (Act.RegionRemove k) h = h
  key_named (Act.Evict k) h = h
  key_named _ h = tt

  abbrev AreIds : List ℕ → Type 0
  AreIds ids = AllByRecursion (λ i. is_identifier i ≡ true) ids

  named_good : (n : ℕ) (h : Journal) → AllGood script h → AreIds (named n h)
  named_good n [] g = tt
  named_good n (e ∷ h) g = by (key_in e.act) (key_named e.act g.0.act) (named_good n h g.1)
    where
      once : (k : Key) (b : Bool) → is_key script k ≡ true → AreIds (named n h) → AreIds (cond b (named n h) (k.id ∷ named n h))
      once k true p i = i
      once k false p i = ((key_parts script k p).1, i)

      if_here : (k : Key) (b : Bool) → is_key script k ≡ true → AreIds (named n h) → AreIds (cond b (add_once k.id (named n h)) (named n h))
      if_here k true p i = once k (list_any (λ j. j == k.id) (named n h)) p i
      if_here k false p i = i

      by : (o : Option Key) → IfSome o (λ k. is_key script k ≡ true) → AreIds (named n h) → AreIds (add_key n o (named n h))
      by None p i = i
      by (Some k) p i = if_here k (k.entity == n) p i

  placed_good : (at : ℕ → Option ℕ) (ids : List ℕ) → AreIds ids → is_evicted_id (first_placed at ids) ≡ true
  placed_good at [] h = refl
  placed_good at (i ∷ ids) h = by (first_placed at ids) (placed_good at ids h.1)
    where
      which : (j : ℕ) (b : Bool) → is_identifier j ≡ true → is_evicted_id (cond b (Some i) (Some j)) ≡ true
      which j true p = h.0
      which j false p = p

      by : (o : Option ℕ) → is_evicted_id o ≡ true → is_evicted_id (earlier_of at i o) ≡ true
      by None p = h.0
      by (Some j) p = which j (is_earlier (at i) (at j)) p

  pub room_good : (timeout capacity n floor : ℕ) (h : Journal) → AllGood script h → IfSome (room timeout capacity n floor h) (λ v. is_evicted_id v ≡ true)
  unfolding room victim
  room_good timeout capacity n floor h g =
      by (nat_lt (length (kept timeout n h)) capacity)
      (first_placed (λ i. place (history (key n i) h)) (filter (λ i. may_leave floor (slot timeout (key n i) h)) (named n h)))
      (placed_good (λ i. place (history (key n i) h)) (filter (λ i. may_leave floor (slot timeout (key n i) h)) (named n h))
      (each_filter (λ i. is_identifier i ≡ true) (λ i. may_leave floor (slot timeout (key n i) h)) (named n h) (named_good n h g)))
    where
      by : (b : Bool) (v : Option ℕ) → is_evicted_id v ≡ true → IfSome (cond b (Some None) (option_map (λ i. Some i) v)) (λ v. is_evicted_id v ≡ true)
      by true v p = refl
      by false None p = tt
      by false (Some i) p = p

  pub oldest_good : (capacity n : ℕ) (h : Journal) → AllGood script h → is_evicted_id (oldest capacity n h) ≡ true
  unfolding oldest
  oldest_good capacity n h g = by (nat_lt (length (items n h)) capacity)
    where
      by : (b : Bool) → is_evicted_id (cond b None (first_placed (λ i. option_map (λ p. p.1) (item (history (key n i) h))) (items n h))) ≡ true
      by true = refl
      by false = placed_good (λ i. option_map (λ p. p.1) (item (history (key n i) h))) (items n h)
          (each_filter (λ i. is_identifier i ≡ true) (λ i. is_some (item (history (key n i) h))) (named n h) (named_good n h g))
