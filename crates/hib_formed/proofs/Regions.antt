-- What a region answers is well formed, by its slot or its item.
use Rattle.std.specs.Prelude.{is_some}
use Rattle.std.specs.Option.{option_flatten}
use Rattle.std.proofs.Common.{◌≡◌, ℕ, zero, suc, ◌+◌, ◌<◌, ◌≤◌, ◌^◌, Bool, true, false, cond, ◌&&◌, ◌||◌, ◌==◌, nat_lt, nat_le, Some, None, Option, IfSome, refl, arith}
use Rattle.std.proofs.lemmas.Bool.{and_parts, and_from, lt-ltb}
use Rattle.hib_journal.specs.Types.{Row, Reply, Put, Unlocked, Updated, Miss, Inserted}
use Rattle.hib_journal.specs.Slot.{LockState, Slot, is_positive}
use Rattle.hib_journal.specs.Regions
use Rattle.hib_journal.specs.Regions.{is_below}
use Rattle.hib_entry_fields.specs.Known.{is_tick, is_version, are_cells, is_row}
use Rattle.hib_entry_texts.specs.WellFormed.{is_count, is_miss, is_got, is_put, is_lock, is_unlock, is_insert, is_update, is_evicted_id, is_dropped}
use Rattle.hib_formed.proofs.Goods.{early_tick}
use Rattle.hib_formed.proofs.Slots.{IsSlot, IsLockState}

abbrev pub IsItem : Option (Row × ℕ) → Type 0
IsItem o = IfSome o (λ p. (is_row p.0 ≡ true) × (p.1 ≤ 2 ^ 61))

abbrev pub IsRoom : Option (Option ℕ) → Type 0
IsRoom o = IfSome o (λ v. is_evicted_id v ≡ true)

tick_of : (t : ℕ) → t ≤ 2 ^ 61 → is_tick t ≡ true
tick_of t h = early_tick t (omega arith)

row_version : (r : Row) → is_row r ≡ true → is_version r.version ≡ true
row_version r h = (and_parts (is_version r.version) (are_cells r.cells) h).0

module _ (n : ℕ) (few : n < 2 ^ 64) where
  count_of : (m : ℕ) → m ≤ n → is_count m ≡ true
  count_of m h = lt-ltb m (2 ^ 64) (omega arith)

  miss_good : (s : Slot) → IsSlot n s → is_miss (Regions.miss s) ≡ true
  miss_good Slot.Vacant h = refl
  miss_good (Slot.Item r t) h = tick_of t h.1
  miss_good (Slot.Lock l) h = by (is_positive l.holders)
    where
      by : (b : Bool) → is_miss (cond b (Miss.Locked l.holders) (Miss.Released l.unlock)) ≡ true
      by true = count_of l.holders h.holders
      by false = early_tick l.unlock h.unlock

  pub got_good : (s : Slot) (time : ℕ) → IsSlot n s → is_got (Regions.got s time) ≡ true
  got_good Slot.Vacant time h = refl
  got_good (Slot.Item r t) time h = by (nat_lt t time)
    where
      by : (b : Bool) → is_got (cond b (Reply.Hit r) (Reply.Miss (Miss.Young t))) ≡ true
      by true = h.0
      by false = miss_good (Slot.Item r t) h
  got_good (Slot.Lock l) time h = miss_good (Slot.Lock l) h

  unlocked_good : (l : LockState) (time : ℕ) → IsLockState n l → is_put (cond (nat_lt l.unlock time) (Put.Stored None false) (Put.Early l.unlock)) ≡ true
  unlocked_good l time h = by (nat_lt l.unlock time)
    where
      by : (b : Bool) → is_put (cond b (Put.Stored None false) (Put.Early l.unlock)) ≡ true
      by true = refl
      by false = early_tick l.unlock h.unlock

  free_good : (l : LockState) (v : Option ℕ) (b : Bool) (time : ℕ) (w : Option ℕ) → IsLockState n l → is_version v ≡ true → is_put (Regions.free_answer l v b time w) ≡ true
  free_good l (Some v) false time w h p = by (is_below (Some v) w)
    where
      by : (b : Bool) → is_put (cond b (Put.Stored None false) (Put.Old v)) ≡ true
      by true = refl
      by false = p
  free_good l (Some v) true time w h p = unlocked_good l time h
  free_good l None b time w h p = unlocked_good l time h

  lock_good : (l : LockState) (time : ℕ) (w : Option ℕ) → IsLockState n l → is_put (Regions.lock_answer l time w) ≡ true
  lock_good l time w h = by (nat_lt l.timeout time) (is_positive l.holders)
    where
      by : (a b : Bool) → is_put (cond a (Put.Stored None (is_positive l.holders || nat_le time l.unlock)) (cond b (Put.Held l.holders) (Regions.free_answer l l.version l.shared time w))) ≡ true
      by true b = refl
      by false true = count_of l.holders h.holders
      by false false = free_good l l.version l.shared time w h h.version

  pub put_good : (s : Slot) (o : Option (Option ℕ)) (time : ℕ) (w : Option ℕ) → IsSlot n s → IsRoom o → is_put (Regions.put s o time w) ≡ true
  put_good Slot.Vacant None time w h r = refl
  put_good Slot.Vacant (Some v) time w h r = r
  put_good (Slot.Item x t) o time w h r = by (is_below x.version w)
    where
      by : (b : Bool) → is_put (cond b (Put.Stored None false) (Put.Present x.version)) ≡ true
      by true = refl
      by false = row_version x h.0
  put_good (Slot.Lock l) o time w h r = lock_good l time w h

  locked : (id until : ℕ) (v : Option ℕ) → id ≤ 2 ^ 61 → until ≤ 2 ^ 62 → is_evicted_id v ≡ true → is_lock (record { id = id; until = until; evicted = v }) ≡ true
  locked id until v h g r = and_from (is_tick id) (is_tick until && is_evicted_id v) (tick_of id h) (and_from (is_tick until) (is_evicted_id v) (early_tick until g) r)

  evicted_good : (o : Option (Option ℕ)) → IsRoom o → is_evicted_id (option_flatten o) ≡ true
  evicted_good None r = refl
  evicted_good (Some v) r = r

  pub locked_good : (timeout : ℕ) (s : Slot) (o : Option (Option ℕ)) (now : ℕ) → timeout ≤ 1000000 → now ≤ 2 ^ 61 → IsSlot n s → IsRoom o → is_lock (Regions.lock timeout s o now) ≡ true
  locked_good timeout Slot.Vacant o now t e h r = locked now (now + timeout) (option_flatten o) e (omega arith) (evicted_good o r)
  locked_good timeout (Slot.Item x y) o now t e h r = locked now (now + timeout) None e (omega arith) refl
  locked_good timeout (Slot.Lock l) o now t e h r = locked l.id (now + timeout) None h.id (omega arith) refl

  released_good : (m : ℕ) → m ≤ n → is_unlock (Regions.released m) ≡ true
  released_good zero h = refl
  released_good (suc m) h = count_of m (omega arith)

  pub unlock_good : (s : Slot) (i : ℕ) → IsSlot n s → is_unlock (Regions.unlock s i) ≡ true
  unlock_good Slot.Vacant i h = refl
  unlock_good (Slot.Item r t) i h = refl
  unlock_good (Slot.Lock l) i h = by (l.id == i)
    where
      by : (b : Bool) → is_unlock (cond b (Regions.released l.holders) Unlocked.Expired) ≡ true
      by true = released_good l.holders h.holders
      by false = refl

  updated_good : (b : Bool) (m : ℕ) → m ≤ n → is_update (Regions.updated_by b m) ≡ true
  updated_good b zero h = refl
  updated_good true (suc m) h = count_of m (omega arith)
  updated_good false (suc m) h = refl

  pub update_good : (s : Slot) (i : ℕ) → IsSlot n s → is_update (Regions.after_update s i) ≡ true
  update_good Slot.Vacant i h = refl
  update_good (Slot.Item r t) i h = refl
  update_good (Slot.Lock l) i h = by (l.id == i)
    where
      by : (b : Bool) → is_update (cond b (Regions.updated_by l.shared l.holders) Updated.Expired) ≡ true
      by true = updated_good l.shared l.holders h.holders
      by false = refl

pub insert_good : (s : Slot) (o : Option (Option ℕ)) → IsRoom o → is_insert (Regions.after_insert s o) ≡ true
insert_good Slot.Vacant None r = refl
insert_good Slot.Vacant (Some v) r = r
insert_good (Slot.Item x t) o r = refl
insert_good (Slot.Lock l) o r = refl

-- ---- the weaker regions

pub got_item_good : (b : Bool) (time : ℕ) (o : Option (Row × ℕ)) → IsItem o → is_got (Regions.got_item b time o) ≡ true
got_item_good b time None h = refl
got_item_good b time (Some p) h = by (b && nat_le time p.1)
  where
    by : (x : Bool) → is_got (cond x (Reply.Miss (Miss.Young p.1)) (Reply.Hit p.0)) ≡ true
    by true = tick_of p.1 h.1
    by false = h.0

pub put_item_good : (v : Option ℕ) (o : Option (Row × ℕ)) → is_evicted_id v ≡ true → IsItem o → is_put (Regions.put_item v o) ≡ true
put_item_good v None r h = r
put_item_good v (Some p) r h = row_version p.0 h.0

pub insert_item_good : (v : Option ℕ) (o : Option (Row × ℕ)) → is_evicted_id v ≡ true → is_insert (cond (is_some o) Inserted.Present (Inserted.Stored v)) ≡ true
insert_item_good v None r = r
insert_item_good v (Some p) r = refl

pub remove_item_good : (o : Option (Row × ℕ)) → is_dropped (cond (is_some o) Reply.Dropped Reply.Absent) ≡ true
remove_item_good None = refl
remove_item_good (Some p) = refl
