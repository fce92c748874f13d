-- After each call the region stands for the journal with that entry.
use Rattle.std.specs.Option.{option_flatten, option_or, option_map_or}
use Rattle.std.proofs.Common.{◌≡◌, ◌<◌, ℕ, zero, suc, ◌+◌, inl, inr, Bool, true, false, cond, ◌||◌, ◌==◌, nat_eq, nat_lt, nat_le, ◌∷◌, Some, None, Option, is_some, refl, sym, ap, ◌∙◌, subst, arith, eq-eqb}
use Rattle.std.proofs.lemmas.Bool.{eqb-true}
use Rattle.indexmap.specs.IndexMap.{insert_entry}
use Rattle.hib_base.proofs.Tables.{Tested, tested}
use Rattle.hib_journal.specs.Types.{Key, Part, Act, Reply, Entry, Miss, Put, Unlocked, Inserted, Updated, Evicted}
use Rattle.hib_journal.specs.Sessions.{Journal, last_tick, same_part, is_restart}
use Rattle.hib_journal.specs.Slot.{Touch, history, LockState, Slot, slot_from, touch_here, key_in, evicted_in, is_positive}
use Rattle.hib_journal.specs.Room.{key, place, is_earlier}
use Rattle.hib_journal.specs.Regions as Regions
use Rattle.hib_journal.proofs.Slots.{touched, IsFor}
use Rattle.hib_soft_lock.specs.declared.slot.Slot.{Slot as Kept}
use Rattle.hib_soft_lock.specs.Shown.{shown}
use Rattle.hib_soft_lock.specs.Steps.{released}
use Rattle.hib_soft_lock.proofs.Touches.{shown_new_lock, shown_locked, shown_released}
use Rattle.hib_room_laws.specs.Elsewhere.{last_of}
use Rattle.hib_room_laws.proofs.Touched.{touch_by, touched_by, quiet, elsewhere}
use Rattle.hib_rw_region.specs.Region.{RegionState, shown_in, kept_in, slot_in, room_in}
use Rattle.hib_rw_region.specs.Steps.{with_slot, left, without, changed_by, with_release, barred, put_leaves, insert_leaves, locked_by, unlock_leaves, update_leaves, evict_leaves}
use Rattle.hib_rw_region.specs.Stands.{IsRegion, place_of}
use Rattle.hib_rw_region.specs.Laws.{IsNext, GetGrows, PutGrows, LockGrows, UnlockGrows, UpdateGrows, InsertGrows, EvictGrows, Stays, Restarts, Begins, HasFew}
use Rattle.hib_rw_region.proofs.Stands.{Histories, IsStanding, standing_for, standing_later, standing_left, standing_touched, place_there}
use Rattle.hib_rw_region.proofs.Victims.{room_apart}

abbrev hist_of : ℕ → Journal → Histories
hist_of n h i = history (key n i) h

standing : (state : RegionState) (n : ℕ) (h : Journal) → IsRegion state n h → IsStanding state.timeout state.slots (hist_of n h) (last_of n h)
standing state n h s = record { same = s.same; kept = s.held; order = s.order; placed = s.placed; before = s.before; few = s.few }

region : (state : RegionState) (n : ℕ) (h : Journal) → IsStanding state.timeout state.slots (hist_of n h) (last_of n h) → IsRegion state n h
region state n h s = record { same = s.same; held = s.kept; order = s.order; placed = s.placed; before = s.before; few = s.few }

-- an answer that does one thing to its key, after another key may have left
module _ (state : RegionState) (k : Key) (h : Journal) (e : Entry) (a : Act) (r : Reply) (next : IsNext state k h e a r) (names : key_in a ≡ Some k) (goes : is_restart a ≡ false) where
  last_now : last_of k.entity (e ∷ h) ≡ e.tick
  last_now = rw (next.part, eq-eqb k.entity k.entity refl)

  last_before : last_of k.entity h < e.tick
  last_before = subst (λ (p : Part). last_tick (λ d. same_part p d.part) h < e.tick) next.part next.later

  before : IsStanding state.timeout state.slots (hist_of k.entity h) (last_of k.entity h)
  before = standing state k.entity h next.stands

  hist_now : (i : ℕ) → hist_of k.entity (e ∷ h) i ≡ option_map_or (λ t. (t, e.tick) ∷ (hist_of k.entity h i)) (touch_by k.id i a r) (hist_of k.entity h i)
  hist_now = touched_by k h e a r next.act next.reply names goes

  -- nothing happens
  pub same_region : touch_here a r ≡ None → evicted_in r ≡ None → IsRegion state k.entity (e ∷ h)
  same_region p q = region state k.entity (e ∷ h)
      (standing_for state.timeout (last_of k.entity (e ∷ h)) state.slots (hist_of k.entity h) (hist_of k.entity (e ∷ h)) (λ i. hist_now i ∙ ap (λ o. option_map_or (λ t. (t, e.tick) ∷ (hist_of k.entity h i)) o (hist_of k.entity h i)) (quiet k.id i a r p q))
      (subst (IsStanding state.timeout state.slots (hist_of k.entity h)) (sym last_now) (standing_later state.timeout (last_of k.entity h) e.tick state.slots (hist_of k.entity h) (omega (arith, last_before)) before)))

  abbrev left_by : Option ℕ → Histories
  left_by v i = cond (option_map_or (λ x. x == i) v false) ((Touch.Leaves, e.tick) ∷ hist_of k.entity h i) (hist_of k.entity h i)

  after_left : (v : Option ℕ) → IsStanding state.timeout (left v state.slots) (left_by v) (last_of k.entity h)
  after_left None = before
  after_left (Some v) = standing_left state.timeout (last_of k.entity h) state.slots (hist_of k.entity h) before v e.tick

  module _ (v : Option ℕ) (t : Touch) (slot : Kept) (apart : option_map_or (λ x. x == k.id) v false ≡ false) (here : touch_here a r ≡ Some t) (evicted : evicted_in r ≡ v)
      (for : IsFor t (slot_in state k.id)) (is : shown slot ≡ touched state.timeout t e.tick (slot_in state k.id))
      (at_place : place ((t, e.tick) ∷ hist_of k.entity h k.id) ≡ option_or (place (hist_of k.entity h k.id)) (Some e.tick)) where
    -- the key's own history and slot, which the other's leaving does not change
    own : left_by v k.id ≡ hist_of k.entity h k.id
    own = ap (λ b. cond b ((Touch.Leaves, e.tick) ∷ hist_of k.entity h k.id) (hist_of k.entity h k.id)) apart

    own_slot : slot_in state k.id ≡ slot_from state.timeout (left_by v k.id)
    own_slot = next.stands.same k.id ∙ ap (slot_from state.timeout) (sym own)

    abbrev both : Histories
    both i = cond (nat_eq k.id i) ((t, e.tick) ∷ left_by v i) (left_by v i)

    after_both : IsStanding state.timeout (insert_entry nat_eq (left v state.slots) k.id slot) both e.tick
    after_both = standing_touched state.timeout (last_of k.entity h) (left v state.slots) (left_by v) (after_left v) k.id e.tick t slot last_before
        (subst (IsFor t) own_slot for) (is ∙ ap (touched state.timeout t e.tick) own_slot)
        (ap (λ s. place ((t, e.tick) ∷ s)) own ∙ at_place ∙ ap (λ s. option_or (place s) (Some e.tick)) (sym own))

    both_is : (i : ℕ) → hist_of k.entity (e ∷ h) i ≡ both i
    both_is i = hist_now i ∙ rw (here, evicted) (by (tested (nat_eq k.id i)) (tested (option_map_or (λ x. x == i) v false)))
      where
        by : Tested (nat_eq k.id i) → Tested (option_map_or (λ x. x == i) v false)
            → option_map_or (λ x. (x, e.tick) ∷ (hist_of k.entity h i)) (cond (nat_eq k.id i) (Some t) (cond (option_map_or (λ x. x == i) v false) (Some Touch.Leaves) None)) (hist_of k.entity h i) ≡ both i
        by (inl p) q =
            let n : option_map_or (λ x. x == i) v false ≡ false = subst (λ j. option_map_or (λ x. x == j) v false ≡ false) (eqb-true k.id i p) apart in rw (p, n)
        by (inr p) (inl q) = rw (p, q)
        by (inr p) (inr q) = rw (p, q)

    touched_region : IsRegion (with_slot k.id slot (without v state)) k.entity (e ∷ h)
    touched_region = region (with_slot k.id slot (without v state)) k.entity (e ∷ h)
        (standing_for state.timeout (last_of k.entity (e ∷ h)) (insert_entry nat_eq (left v state.slots) k.id slot) both (hist_of k.entity (e ∷ h)) both_is
        (subst (IsStanding state.timeout (insert_entry nat_eq (left v state.slots) k.id slot) both) (sym last_now) after_both))

  -- a key that is there has a place
  there_place : is_some (kept_in state k.id) ≡ true → option_or (place (hist_of k.entity h k.id)) (Some e.tick) ≡ place (hist_of k.entity h k.id)
  there_place there = by (place (hist_of k.entity h k.id)) (place_there (place_of k.entity h) k.id state.slots next.stands.order there)
    where
      by : (p : Option ℕ) → is_earlier p None ≡ true → option_or p (Some e.tick) ≡ p
      by None p = cc
      by (Some t) p = refl

  -- a release of a slot that is held
  pub released_region : (s : Kept) (n : ℕ) → kept_in state k.id ≡ Some s → IsFor (Touch.Releases n) (shown s) → touch_here a r ≡ Some (Touch.Releases n) → evicted_in r ≡ None → IsRegion (with_release k.id e.tick state) k.entity (e ∷ h)
  released_region s n there for here evicted =
      subst (λ o. IsRegion (record state { slots = changed_by k.id (released e.tick) state.slots o }) k.entity (e ∷ h)) (sym there)
      (touched_region None (Touch.Releases n) (released e.tick s) refl here evicted
      (subst (λ o. IsFor (Touch.Releases n) (shown_in o)) (sym there) for)
      (shown_released state.timeout n e.tick s for ∙ ap (λ o. touched state.timeout (Touch.Releases n) e.tick (shown_in o)) (sym there))
      (sym (there_place (ap is_some there))))

  pub expired_region : touch_here a r ≡ Some Touch.Expires → evicted_in r ≡ None → IsRegion (with_slot k.id (barred e.tick (e.tick + state.timeout)) state) k.entity (e ∷ h)
  expired_region here evicted = touched_region None Touch.Expires (barred e.tick (e.tick + state.timeout)) refl here evicted tt refl refl

-- what an answer says of the slot

got_none : (s : Slot) (time : ℕ) → evicted_in (Regions.got s time) ≡ None
got_none Slot.Vacant time = refl
got_none (Slot.Item r t) time = by (nat_lt t time)
  where
    by : (b : Bool) → evicted_in (cond b (Reply.Hit r) (Reply.Miss (Miss.Young t))) ≡ None
    by true = refl
    by false = refl
got_none (Slot.Lock l) time = refl

-- nobody leaves for a row that is stored over a slot
abbrev NoneLeaves : Put → Type 0
NoneLeaves (Put.Stored v late) = v ≡ None
NoneLeaves _ = Unit {0}

cond_leaves : (b : Bool) (x : Bool) (p : Put) → NoneLeaves p → NoneLeaves (cond b (Put.Stored None x) p)
cond_leaves true x p h = refl
cond_leaves false x p h = h

free_leaves : (l : LockState) (o : Option ℕ) (x : Bool) (time : ℕ) (w : Option ℕ) → NoneLeaves (Regions.free_answer l o x time w)
free_leaves l (Some v) false time w = cond_leaves (Regions.is_below (Some v) w) false (Put.Old v) tt
free_leaves l (Some v) true time w = cond_leaves (nat_lt l.unlock time) false (Put.Early l.unlock) tt
free_leaves l None x time w = cond_leaves (nat_lt l.unlock time) false (Put.Early l.unlock) tt

lock_leaves : (l : LockState) (time : ℕ) (w : Option ℕ) → NoneLeaves (Regions.lock_answer l time w)
lock_leaves l time w = cond_leaves (nat_lt l.timeout time) (is_positive l.holders || nat_le time l.unlock)
    (cond (is_positive l.holders) (Put.Held l.holders) (Regions.free_answer l l.version l.shared time w)) (by (is_positive l.holders))
  where
    by : (b : Bool) → NoneLeaves (cond b (Put.Held l.holders) (Regions.free_answer l l.version l.shared time w))
    by true = tt
    by false = free_leaves l l.version l.shared time w

put_over : (s : Kept) (room : Option (Option ℕ)) (time : ℕ) (w : Option ℕ) → NoneLeaves (Regions.put (shown s) room time w)
put_over (Kept.Item r t) room time w = cond_leaves (Regions.is_below r.version w) false (Put.Present r.version) tt
put_over (Kept.Lock i v t n x u) room time w =
    lock_leaves (record { id = i; version = v; timeout = t; holders = n; shared = x; unlock = u }) time w

put_apart : (state : RegionState) (id time floor : ℕ) (w v : Option ℕ) (late : Bool) → Regions.put (slot_in state id) (room_in state floor) time w ≡ Put.Stored v late → option_map_or (λ x. x == id) v false ≡ false
put_apart state id time floor w v late is = by (kept_in state id) refl
  where
    by_room : (room : Option (Option ℕ)) → option_map_or (λ v. v == id) (option_flatten room) false ≡ false → Regions.put Slot.Vacant room time w ≡ Put.Stored v late → option_map_or (λ x. x == id) v false ≡ false
    by_room None a p = cc
    by_room (Some u) a p = let q : u ≡ v = cc in subst (λ o. option_map_or (λ v. v == id) o false ≡ false) q a

    by : (o : Option Kept) → kept_in state id ≡ o → option_map_or (λ x. x == id) v false ≡ false
    by None there = by_room (room_in state floor) (room_apart state floor id there) (subst (λ o. Regions.put (shown_in o) (room_in state floor) time w ≡ Put.Stored v late) there is)
    by (Some s) there =
        let p : Regions.put (shown s) (room_in state floor) time w ≡ Put.Stored v late = subst (λ o. Regions.put (shown_in o) (room_in state floor) time w ≡ Put.Stored v late) there is in
        let n : v ≡ None = subst NoneLeaves p (put_over s (room_in state floor) time w) in
        ap (λ x. option_map_or (λ v. v == id) x false) n

insert_apart : (state : RegionState) (id floor : ℕ) (v : Option ℕ) → Regions.after_insert (slot_in state id) (room_in state floor) ≡ Inserted.Stored v → option_map_or (λ x. x == id) v false ≡ false
insert_apart state id floor v is = by (kept_in state id) refl
  where
    by_room : (room : Option (Option ℕ)) → option_map_or (λ v. v == id) (option_flatten room) false ≡ false → Regions.after_insert Slot.Vacant room ≡ Inserted.Stored v → option_map_or (λ x. x == id) v false ≡ false
    by_room None a p = cc
    by_room (Some u) a p = let q : u ≡ v = cc in subst (λ o. option_map_or (λ v. v == id) o false ≡ false) q a

    by_slot : (s : Kept) → Regions.after_insert (shown s) (room_in state floor) ≡ Inserted.Stored v → option_map_or (λ x. x == id) v false ≡ false
    by_slot (Kept.Item r t) p = cc
    by_slot (Kept.Lock i u t n x w) p = cc

    by : (o : Option Kept) → kept_in state id ≡ o → option_map_or (λ x. x == id) v false ≡ false
    by None there = by_room (room_in state floor) (room_apart state floor id there) (subst (λ o. Regions.after_insert (shown_in o) (room_in state floor) ≡ Inserted.Stored v) there is)
    by (Some s) there = by_slot s (subst (λ o. Regions.after_insert (shown_in o) (room_in state floor) ≡ Inserted.Stored v) there is)

lock_apart : (state : RegionState) (id floor now : ℕ) → option_map_or (λ v. v == id) (Regions.lock state.timeout (slot_in state id) (room_in state floor) now).evicted false ≡ false
lock_apart state id floor now = by (kept_in state id) refl
  where
    by_slot : (s : Kept) → option_map_or (λ v. v == id) (Regions.lock state.timeout (shown s) (room_in state floor) now).evicted false ≡ false
    by_slot (Kept.Item r t) = refl
    by_slot (Kept.Lock i v t n x u) = refl

    by : (o : Option Kept) → kept_in state id ≡ o → option_map_or (λ v. v == id) (Regions.lock state.timeout (slot_in state id) (room_in state floor) now).evicted false ≡ false
    by None there = subst (λ o. option_map_or (λ v. v == id) (Regions.lock state.timeout (shown_in o) (room_in state floor) now).evicted false ≡ false) (sym there) (room_apart state floor id there)
    by (Some s) there = subst (λ o. option_map_or (λ v. v == id) (Regions.lock state.timeout (shown_in o) (room_in state floor) now).evicted false ≡ false) (sym there) (by_slot s)

locked_is : (timeout : ℕ) (v : Option ℕ) (now : ℕ) (o : Option Kept) → shown (locked_by timeout v now o) ≡ touched timeout (Touch.Locks v) now (shown_in o)
locked_is timeout v now None = shown_new_lock timeout v now
locked_is timeout v now (Some s) = shown_locked timeout v now s

-- the calls

pub get_grows : GetGrows
get_grows h e state k time next =
    same_region state k h e (Act.Get k time) (Regions.got (slot_in state k.id) time) next refl refl refl (got_none (slot_in state k.id) time)

pub put_grows : PutGrows
put_grows h e state k row time floor next = by (Regions.put (slot_in state k.id) (room_in state floor) time row.version) refl next
  where
    by : (p : Put) → Regions.put (slot_in state k.id) (room_in state floor) time row.version ≡ p → IsNext state k h e (Act.Put k row time floor) (Reply.Put p) → IsRegion (put_leaves k.id row e.tick p state) k.entity (e ∷ h)
    by (Put.Stored v late) is n = touched_region state k h e (Act.Put k row time floor) (Reply.Put (Put.Stored v late)) n refl refl v (Touch.Stores row late) (Kept.Item row e.tick)
        (put_apart state k.id time floor row.version v late is) refl refl tt refl refl
    by (Put.Present v) is n = same_region state k h e (Act.Put k row time floor) (Reply.Put (Put.Present v)) n refl refl refl refl
    by (Put.Held m) is n = same_region state k h e (Act.Put k row time floor) (Reply.Put (Put.Held m)) n refl refl refl refl
    by (Put.Early u) is n = same_region state k h e (Act.Put k row time floor) (Reply.Put (Put.Early u)) n refl refl refl refl
    by (Put.Old v) is n = same_region state k h e (Act.Put k row time floor) (Reply.Put (Put.Old v)) n refl refl refl refl
    by Put.Crowded is n = same_region state k h e (Act.Put k row time floor) (Reply.Put Put.Crowded) n refl refl refl refl

pub insert_grows : InsertGrows
insert_grows h e state k row floor next = by (Regions.after_insert (slot_in state k.id) (room_in state floor)) refl next
  where
    by : (p : Inserted) → Regions.after_insert (slot_in state k.id) (room_in state floor) ≡ p → IsNext state k h e (Act.AfterInsert k row floor) (Reply.Inserted p) → IsRegion (insert_leaves k.id row e.tick p state) k.entity (e ∷ h)
    by (Inserted.Stored v) is n = touched_region state k h e (Act.AfterInsert k row floor) (Reply.Inserted (Inserted.Stored v)) n refl refl v (Touch.Stores row false) (Kept.Item row e.tick)
        (insert_apart state k.id floor v is) refl refl tt refl refl
    by Inserted.Present is n = same_region state k h e (Act.AfterInsert k row floor) (Reply.Inserted Inserted.Present) n refl refl refl refl
    by Inserted.Crowded is n = same_region state k h e (Act.AfterInsert k row floor) (Reply.Inserted Inserted.Crowded) n refl refl refl refl

pub lock_grows : LockGrows
lock_grows h e state k version floor next =
    let l = Regions.lock state.timeout (slot_in state k.id) (room_in state floor) e.tick in
    touched_region state k h e (Act.Lock k version floor) (Reply.Locked l) next refl refl l.evicted (Touch.Locks version) (locked_by state.timeout version e.tick (kept_in state k.id))
    (lock_apart state k.id floor e.tick) refl refl tt (locked_is state.timeout version e.tick (kept_in state k.id)) refl

-- an answer that releases is of a slot with one holder more

pub unlock_held : (o : Option Kept) (lock n : ℕ) → Regions.unlock (shown_in o) lock ≡ Unlocked.Released n → (s : Kept) × (o ≡ Some s) × IsFor (Touch.Releases n) (shown s)
unlock_held None lock n p = absurd (none p)
  where
    none : Unlocked.Expired ≡ Unlocked.Released n → ⊥
    none q = cc
unlock_held (Some (Kept.Item r t)) lock n p = absurd (none p)
  where
    none : Unlocked.Expired ≡ Unlocked.Released n → ⊥
    none q = cc
unlock_held (Some (Kept.Lock i v t m x u)) lock n p = (Kept.Lock i v t m x u, refl, by (i == lock) m p)
  where
    by : (b : Bool) (m : ℕ) → cond b (Regions.released m) Unlocked.Expired ≡ Unlocked.Released n → m ≡ suc n
    by true zero p = cc
    by true (suc m) p = let q : m ≡ n = cc in ap suc q
    by false m p = cc

update_held : (o : Option Kept) (lock n : ℕ) → Regions.after_update (shown_in o) lock ≡ Updated.Shared n → (s : Kept) × (o ≡ Some s) × IsFor (Touch.Releases n) (shown s)
update_held None lock n p = absurd (none p)
  where
    none : Updated.Expired ≡ Updated.Shared n → ⊥
    none q = cc
update_held (Some (Kept.Item r t)) lock n p = absurd (none p)
  where
    none : Updated.Expired ≡ Updated.Shared n → ⊥
    none q = cc
update_held (Some (Kept.Lock i v t m x u)) lock n p = (Kept.Lock i v t m x u, refl, by (i == lock) x m p)
  where
    by : (b x : Bool) (m : ℕ) → cond b (Regions.updated_by x m) Updated.Expired ≡ Updated.Shared n → m ≡ suc n
    by true true zero p = cc
    by true true (suc m) p = let q : m ≡ n = cc in ap suc q
    by true false zero p = cc
    by true false (suc m) p = cc
    by false x m p = cc

evict_there : (o : Option Kept) → Regions.evict (shown_in o) ≡ Evicted.Gone → is_some o ≡ true
evict_there None p = absurd (none p)
  where
    none : Evicted.Absent ≡ Evicted.Gone → ⊥
    none q = cc
evict_there (Some s) p = refl

pub unlock_grows : UnlockGrows
unlock_grows h e state k lock next = by (Regions.unlock (slot_in state k.id) lock) refl next
  where
    by : (p : Unlocked) → Regions.unlock (slot_in state k.id) lock ≡ p → IsNext state k h e (Act.Unlock k lock) (Reply.Unlocked p) → IsRegion (unlock_leaves k.id e.tick p state) k.entity (e ∷ h)
    by (Unlocked.Released n) is m =
        let s = unlock_held (kept_in state k.id) lock n is in
        released_region state k h e (Act.Unlock k lock) (Reply.Unlocked (Unlocked.Released n)) m refl refl s.0 n s.1 s.2 refl refl
    by Unlocked.Expired is m = expired_region state k h e (Act.Unlock k lock) (Reply.Unlocked Unlocked.Expired) m refl refl refl refl

pub update_grows : UpdateGrows
update_grows h e state k lock row next = by (Regions.after_update (slot_in state k.id) lock) refl next
  where
    by : (p : Updated) → Regions.after_update (slot_in state k.id) lock ≡ p → IsNext state k h e (Act.AfterUpdate k lock row) (Reply.Updated p) → IsRegion (update_leaves k.id row e.tick p state) k.entity (e ∷ h)
    by Updated.Stored is m = touched_region state k h e (Act.AfterUpdate k lock row) (Reply.Updated Updated.Stored) m refl refl None (Touch.Stores row false) (Kept.Item row e.tick) refl refl refl tt refl refl
    by (Updated.Shared n) is m =
        let s = update_held (kept_in state k.id) lock n is in
        released_region state k h e (Act.AfterUpdate k lock row) (Reply.Updated (Updated.Shared n)) m refl refl s.0 n s.1 s.2 refl refl
    by Updated.Expired is m = expired_region state k h e (Act.AfterUpdate k lock row) (Reply.Updated Updated.Expired) m refl refl refl refl

pub evict_grows : EvictGrows
evict_grows h e state k next = by (Regions.evict (slot_in state k.id)) refl next
  where
    by : (p : Evicted) → Regions.evict (slot_in state k.id) ≡ p → IsNext state k h e (Act.Evict k) (Reply.Evicted p) → IsRegion (record state { slots = evict_leaves k.id e.tick p state.slots }) k.entity (e ∷ h)
    by Evicted.Gone is m =
        touched_region state k h e (Act.Evict k) (Reply.Evicted Evicted.Gone) m refl refl None Touch.Evicts (barred e.tick e.tick) refl refl refl tt refl
        (sym (there_place state k h e (Act.Evict k) (Reply.Evicted Evicted.Gone) m refl refl (evict_there (kept_in state k.id) is)))
    by Evicted.Held is m = same_region state k h e (Act.Evict k) (Reply.Evicted Evicted.Held) m refl refl refl refl
    by Evicted.Absent is m = same_region state k h e (Act.Evict k) (Reply.Evicted Evicted.Absent) m refl refl refl refl

pub stays : Stays
stays h e state n apart s = region state n (e ∷ h)
    (standing_for state.timeout (last_of n (e ∷ h)) state.slots (hist_of n h) (hist_of n (e ∷ h)) (λ i. elsewhere n i h e apart)
    (rw apart.part (standing state n h s)))

pub restarts : Restarts
unfolding slot_from
restarts h e state n a = record {
  same = λ i. rw a;
  held = λ i. rw a tt;
  order = tt;
  placed = λ i p. rw a;
  before = λ i. rw a tt;
  few = λ i. omega arith;
}

pub begins : Begins
unfolding slot_from
begins capacity timeout n = record {
  same = λ i. refl;
  held = λ i. tt;
  order = tt;
  placed = λ i p. refl;
  before = λ i. tt;
  few = λ i. omega arith;
}

pub has_few : HasFew
has_few h state n id now s l = omega (arith, s.few id)
