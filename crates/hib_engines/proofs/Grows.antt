-- After an entry each region stands for the journal with it.
use Rattle.std.specs.Prelude.{is_some}
use Rattle.std.proofs.Common.{◌≡◌, ◌⊎◌, ℕ, ◌<◌, Bool, true, false, cond, ◌==◌, List, [], ◌∷◌, refl, sym, ap, ◌∙◌, subst, inl, inr}
use Rattle.std.proofs.lemmas.Bool.{true≢false, false≢true, eq-eqb, ne_eqb}
use Rattle.hib_journal.specs.Types.{Key, Row, Strategy, Script, Part, Act, Reply, Entry, Put, Unlocked, Inserted, Updated}
use Rattle.hib_journal.specs.Sessions.{Journal, last_tick, same_part, is_restart}
use Rattle.hib_journal.specs.Slot.{key_in}
use Rattle.hib_journal.specs.Regions as Regions
use Rattle.hib_journal.specs.Next.{strategy, capacity}
use Rattle.hib_journal.specs.Legal.{part_of}
use Rattle.hib_room_laws.specs.Elsewhere.{IsElsewhere, last_of, is_of}
use Rattle.hib_other_regions.specs.Items.{ItemsState, item_in}
use Rattle.hib_other_regions.specs.Items as Items
use Rattle.hib_other_regions.specs.Laws as ItemLaws
use Rattle.hib_rw_region.specs.Region.{RegionState, slot_in, room_in}
use Rattle.hib_rw_region.specs.Steps as Slots
use Rattle.hib_rw_region.specs.Laws as SlotLaws
use Rattle.hib_engines.specs.declared.region.Region.{Region}
use Rattle.hib_engines.specs.Region.{answer_in, region_after, is_regional, acts_on, empty, emptied, IsPlaced, Suits}
use Rattle.hib_engines.specs.Laws.{Laws}
use Rattle.hib_engines.proofs.Regions.{apart, is_read_write, is_read_only, is_nonstrict}

-- capacities and timeouts stay

put_capacity : (id : ℕ) (row : Row) (now : ℕ) (y : ItemsState) → (Items.after_put id row now y).capacity ≡ y.capacity
put_capacity id row now y = by_test (is_some (item_in y id))
  where
    by_test : (b : Bool) → (cond b y (Items.with_new id row now y)).capacity ≡ y.capacity
    by_test true = refl
    by_test false = refl

pub record IsSized (new old : RegionState) : Type 0 where
  pub capacity : new.capacity ≡ old.capacity
  pub timeout : new.timeout ≡ old.timeout

put_sized : (id : ℕ) (row : Row) (now : ℕ) (p : Put) (y : RegionState) → IsSized (Slots.put_leaves id row now p y) y
put_sized id row now (Put.Stored v late) y = record { capacity = refl; timeout = refl }
put_sized id row now (Put.Present v) y = record { capacity = refl; timeout = refl }
put_sized id row now (Put.Held n) y = record { capacity = refl; timeout = refl }
put_sized id row now (Put.Early t) y = record { capacity = refl; timeout = refl }
put_sized id row now (Put.Old v) y = record { capacity = refl; timeout = refl }
put_sized id row now Put.Crowded y = record { capacity = refl; timeout = refl }

insert_sized : (id : ℕ) (row : Row) (now : ℕ) (p : Inserted) (y : RegionState) → IsSized (Slots.insert_leaves id row now p y) y
insert_sized id row now (Inserted.Stored v) y = record { capacity = refl; timeout = refl }
insert_sized id row now Inserted.Present y = record { capacity = refl; timeout = refl }
insert_sized id row now Inserted.Crowded y = record { capacity = refl; timeout = refl }

unlock_sized : (id now : ℕ) (u : Unlocked) (y : RegionState) → IsSized (Slots.unlock_leaves id now u y) y
unlock_sized id now (Unlocked.Released n) y = record { capacity = refl; timeout = refl }
unlock_sized id now Unlocked.Expired y = record { capacity = refl; timeout = refl }

update_sized : (id : ℕ) (row : Row) (now : ℕ) (u : Updated) (y : RegionState) → IsSized (Slots.update_leaves id row now u y) y
update_sized id row now Updated.Stored y = record { capacity = refl; timeout = refl }
update_sized id row now (Updated.Shared n) y = record { capacity = refl; timeout = refl }
update_sized id row now Updated.Expired y = record { capacity = refl; timeout = refl }

-- an entry of a region: its act, its part and its reply
pub record IsNext (h : List Entry) (e : Entry) (a : Act) (x : Region) : Type 0 where
  pub act : e.act ≡ a
  pub part : e.part ≡ Part.Region (acts_on a)
  pub later : last_of (acts_on a) h < e.tick
  pub reply : e.reply ≡ answer_in x e.tick a

later_in : (h : Journal) (e : Entry) (n : ℕ) → e.part ≡ Part.Region n → last_of n h < e.tick → last_tick (λ d. same_part e.part d.part) h < e.tick
later_in h e n p l = subst (λ q. last_tick (λ d. same_part q d.part) h < e.tick) (sym p) l

items_next : (h : Journal) (e : Entry) (k : Key) (y : ItemsState) (a : Act) (r : Reply) → e.act ≡ a → e.part ≡ Part.Region k.entity → last_of k.entity h < e.tick → e.reply ≡ r →
    Rattle.hib_other_regions.specs.Stands.IsItems y k.entity h → ItemLaws.IsNext y k h e a r
items_next h e k y a r act part later reply stands = record { stands = stands; part = part; later = later_in h e k.entity part later; act = act; reply = reply }

slots_next : (h : Journal) (e : Entry) (k : Key) (y : RegionState) (a : Act) (r : Reply) → e.act ≡ a → e.part ≡ Part.Region k.entity → last_of k.entity h < e.tick → e.reply ≡ r →
    Rattle.hib_rw_region.specs.Stands.IsRegion y k.entity h → SlotLaws.IsNext y k h e a r
slots_next h e k y a r act part later reply stands = record { stands = stands; part = part; later = later_in h e k.entity part later; act = act; reply = reply }

no_insert : (g : Strategy) → g ≡ Strategy.Nonstrict → (g ≡ Strategy.ReadOnly) ⊎ (g ≡ Strategy.ReadWrite) → ⊥
no_insert g p (inl v) = apart is_read_only g Strategy.Nonstrict Strategy.ReadOnly p v refl refl
no_insert g p (inr v) = apart is_read_write g Strategy.Nonstrict Strategy.ReadWrite p v refl refl

no_remove : (g : Strategy) → g ≡ Strategy.ReadWrite → (g ≡ Strategy.ReadOnly) ⊎ (g ≡ Strategy.Nonstrict) → ⊥
no_remove g p (inl v) = apart is_read_only g Strategy.ReadWrite Strategy.ReadOnly p v refl refl
no_remove g p (inr v) = apart is_nonstrict g Strategy.ReadWrite Strategy.Nonstrict p v refl refl

pub grows : Laws → (script : Script) (h : Journal) (e : Entry) (x : Region) (a : Act) → is_regional a ≡ true → IsPlaced script (acts_on a) h x →
    Suits (strategy script (acts_on a)) a → IsNext h e a x → IsPlaced script (acts_on a) (e ∷ h) (region_after x e.tick a)
grows l script h e Region.Uncached (Act.Get k time) r p u s = p
grows l script h e (Region.ReadOnly y) (Act.Get k time) r p u s = record { strategy = p.strategy; capacity = p.capacity; stands = l.get_grows h e y k time true time (items_next h e k y (Act.Get k time) _ s.act s.part s.later s.reply p.stands) }
grows l script h e (Region.Nonstrict y) (Act.Get k time) r p u s = record { strategy = p.strategy; capacity = p.capacity; stands = l.get_grows h e y k time false 0 (items_next h e k y (Act.Get k time) _ s.act s.part s.later s.reply p.stands) }
grows l script h e (Region.ReadWrite y) (Act.Get k time) r p u s = record { strategy = p.strategy; capacity = p.capacity; timeout = p.timeout; stands = l.slot_get_grows h e y k time (slots_next h e k y (Act.Get k time) _ s.act s.part s.later s.reply p.stands) }
grows l script h e Region.Uncached (Act.Put k row time floor) r p u s = p
grows l script h e (Region.ReadOnly y) (Act.Put k row time floor) r p u s = record { strategy = p.strategy; capacity = put_capacity k.id row e.tick y ∙ p.capacity; stands = l.put_grows h e y k row time floor (items_next h e k y (Act.Put k row time floor) _ s.act s.part s.later s.reply p.stands) }
grows l script h e (Region.Nonstrict y) (Act.Put k row time floor) r p u s = record { strategy = p.strategy; capacity = put_capacity k.id row e.tick y ∙ p.capacity; stands = l.put_grows h e y k row time floor (items_next h e k y (Act.Put k row time floor) _ s.act s.part s.later s.reply p.stands) }
grows l script h e (Region.ReadWrite y) (Act.Put k row time floor) r p u s =
    let z : IsSized (Slots.after_put k.id row time floor e.tick y) y = put_sized k.id row e.tick (Regions.put (slot_in y k.id) (room_in y floor) time row.version) y in
    record { strategy = p.strategy; capacity = z.capacity ∙ p.capacity; timeout = z.timeout ∙ p.timeout; stands = l.slot_put_grows h e y k row time floor (slots_next h e k y (Act.Put k row time floor) _ s.act s.part s.later s.reply p.stands) }
grows l script h e Region.Uncached (Act.Lock k version floor) r p u s = p
grows l script h e (Region.ReadOnly y) (Act.Lock k version floor) r p u s = absurd (apart is_read_write (strategy script k.entity) Strategy.ReadOnly Strategy.ReadWrite p.strategy u refl refl)
grows l script h e (Region.Nonstrict y) (Act.Lock k version floor) r p u s = absurd (apart is_read_write (strategy script k.entity) Strategy.Nonstrict Strategy.ReadWrite p.strategy u refl refl)
grows l script h e (Region.ReadWrite y) (Act.Lock k version floor) r p u s = record { strategy = p.strategy; capacity = p.capacity; timeout = p.timeout; stands = l.slot_lock_grows h e y k version floor (slots_next h e k y (Act.Lock k version floor) _ s.act s.part s.later s.reply p.stands) }
grows l script h e Region.Uncached (Act.Unlock k i) r p u s = p
grows l script h e (Region.ReadOnly y) (Act.Unlock k i) r p u s = absurd (apart is_read_write (strategy script k.entity) Strategy.ReadOnly Strategy.ReadWrite p.strategy u refl refl)
grows l script h e (Region.Nonstrict y) (Act.Unlock k i) r p u s = absurd (apart is_read_write (strategy script k.entity) Strategy.Nonstrict Strategy.ReadWrite p.strategy u refl refl)
grows l script h e (Region.ReadWrite y) (Act.Unlock k i) r p u s =
    let z : IsSized (Slots.after_unlock k.id i e.tick y) y = unlock_sized k.id e.tick (Regions.unlock (slot_in y k.id) i) y in
    record { strategy = p.strategy; capacity = z.capacity ∙ p.capacity; timeout = z.timeout ∙ p.timeout; stands = l.slot_unlock_grows h e y k i (slots_next h e k y (Act.Unlock k i) _ s.act s.part s.later s.reply p.stands) }
grows l script h e Region.Uncached (Act.AfterUpdate k i row) r p u s = p
grows l script h e (Region.ReadOnly y) (Act.AfterUpdate k i row) r p u s = absurd (apart is_read_write (strategy script k.entity) Strategy.ReadOnly Strategy.ReadWrite p.strategy u refl refl)
grows l script h e (Region.Nonstrict y) (Act.AfterUpdate k i row) r p u s = absurd (apart is_read_write (strategy script k.entity) Strategy.Nonstrict Strategy.ReadWrite p.strategy u refl refl)
grows l script h e (Region.ReadWrite y) (Act.AfterUpdate k i row) r p u s =
    let z : IsSized (Slots.after_update k.id i row e.tick y) y = update_sized k.id row e.tick (Regions.after_update (slot_in y k.id) i) y in
    record { strategy = p.strategy; capacity = z.capacity ∙ p.capacity; timeout = z.timeout ∙ p.timeout; stands = l.slot_update_grows h e y k i row (slots_next h e k y (Act.AfterUpdate k i row) _ s.act s.part s.later s.reply p.stands) }
grows l script h e Region.Uncached (Act.AfterInsert k row floor) r p u s = p
grows l script h e (Region.ReadOnly y) (Act.AfterInsert k row floor) r p u s = record { strategy = p.strategy; capacity = put_capacity k.id row e.tick y ∙ p.capacity; stands = l.insert_grows h e y k row floor (items_next h e k y (Act.AfterInsert k row floor) _ s.act s.part s.later s.reply p.stands) }
grows l script h e (Region.Nonstrict y) (Act.AfterInsert k row floor) r p u s = absurd (no_insert (strategy script k.entity) p.strategy u)
grows l script h e (Region.ReadWrite y) (Act.AfterInsert k row floor) r p u s =
    let z : IsSized (Slots.after_insert k.id row floor e.tick y) y = insert_sized k.id row e.tick (Regions.after_insert (slot_in y k.id) (room_in y floor)) y in
    record { strategy = p.strategy; capacity = z.capacity ∙ p.capacity; timeout = z.timeout ∙ p.timeout; stands = l.slot_insert_grows h e y k row floor (slots_next h e k y (Act.AfterInsert k row floor) _ s.act s.part s.later s.reply p.stands) }
grows l script h e Region.Uncached (Act.RegionRemove k) r p u s = p
grows l script h e (Region.ReadOnly y) (Act.RegionRemove k) r p u s = record { strategy = p.strategy; capacity = p.capacity; stands = l.remove_grows h e y k (items_next h e k y (Act.RegionRemove k) _ s.act s.part s.later s.reply p.stands) }
grows l script h e (Region.Nonstrict y) (Act.RegionRemove k) r p u s = record { strategy = p.strategy; capacity = p.capacity; stands = l.remove_grows h e y k (items_next h e k y (Act.RegionRemove k) _ s.act s.part s.later s.reply p.stands) }
grows l script h e (Region.ReadWrite y) (Act.RegionRemove k) r p u s = absurd (no_remove (strategy script k.entity) p.strategy u)
grows l script h e Region.Uncached (Act.Evict k) r p u s = p
grows l script h e (Region.ReadOnly y) (Act.Evict k) r p u s = record { strategy = p.strategy; capacity = p.capacity; stands = l.evict_grows h e y k (items_next h e k y (Act.Evict k) _ s.act s.part s.later s.reply p.stands) }
grows l script h e (Region.Nonstrict y) (Act.Evict k) r p u s = record { strategy = p.strategy; capacity = p.capacity; stands = l.evict_grows h e y k (items_next h e k y (Act.Evict k) _ s.act s.part s.later s.reply p.stands) }
grows l script h e (Region.ReadWrite y) (Act.Evict k) r p u s = record { strategy = p.strategy; capacity = p.capacity; timeout = p.timeout; stands = l.slot_evict_grows h e y k (slots_next h e k y (Act.Evict k) _ s.act s.part s.later s.reply p.stands) }
grows l script h e x _ r p u s = absurd (false≢true r)

-- the regions that an entry doesn't touch

pub stays : Laws → (script : Script) (h : Journal) (e : Entry) (n : ℕ) (x : Region) → IsElsewhere n e → IsPlaced script n h x → IsPlaced script n (e ∷ h) x
stays l script h e n Region.Uncached w p = p
stays l script h e n (Region.ReadOnly y) w p = record { strategy = p.strategy; capacity = p.capacity; stands = l.stays h e y n w p.stands }
stays l script h e n (Region.Nonstrict y) w p = record { strategy = p.strategy; capacity = p.capacity; stands = l.stays h e y n w p.stands }
stays l script h e n (Region.ReadWrite y) w p = record { strategy = p.strategy; capacity = p.capacity; timeout = p.timeout; stands = l.slot_stays h e y n w p.stands }

pub restarts : Laws → (script : Script) (h : Journal) (e : Entry) (n : ℕ) (x : Region) → e.act ≡ Act.Restart → IsPlaced script n h x → IsPlaced script n (e ∷ h) (emptied x)
restarts l script h e n Region.Uncached w p = p
restarts l script h e n (Region.ReadOnly y) w p = record { strategy = p.strategy; capacity = p.capacity; stands = l.restarts h e y n w }
restarts l script h e n (Region.Nonstrict y) w p = record { strategy = p.strategy; capacity = p.capacity; stands = l.restarts h e y n w }
restarts l script h e n (Region.ReadWrite y) w p = record { strategy = p.strategy; capacity = p.capacity; timeout = p.timeout; stands = l.slot_restarts h e y n w }

pub begins : Laws → (script : Script) (n : ℕ) (g : Strategy) → strategy script n ≡ g → IsPlaced script n [] (empty g (capacity script n) script.timeout)
begins l script n Strategy.Uncached p = p
begins l script n Strategy.ReadOnly p = record { strategy = p; capacity = refl; stands = l.begins (capacity script n) n }
begins l script n Strategy.Nonstrict p = record { strategy = p; capacity = refl; stands = l.begins (capacity script n) n }
begins l script n Strategy.ReadWrite p = record { strategy = p; capacity = refl; timeout = refl; stands = l.slot_begins (capacity script n) script.timeout n }

-- which those are

other_part : (n m : ℕ) → (m == n) ≡ false → (n == m) ≡ false
other_part n m d = ne_eqb n m (λ e. true≢false (sym (eq-eqb m n (sym e)) ∙ d))

elsewhere_by : (a : Act) (s n : ℕ) → (is_regional a ≡ true → (acts_on a == n) ≡ false) → (same_part (Part.Region n) (part_of a s) ≡ false) × (is_of n (key_in a) ≡ false)
elsewhere_by (Act.Get k time) s n f = (other_part n k.entity (f refl), f refl)
elsewhere_by (Act.Put k row time floor) s n f = (other_part n k.entity (f refl), f refl)
elsewhere_by (Act.Lock k version floor) s n f = (other_part n k.entity (f refl), f refl)
elsewhere_by (Act.Unlock k i) s n f = (other_part n k.entity (f refl), f refl)
elsewhere_by (Act.AfterInsert k row floor) s n f = (other_part n k.entity (f refl), f refl)
elsewhere_by (Act.AfterUpdate k i row) s n f = (other_part n k.entity (f refl), f refl)
elsewhere_by (Act.RegionRemove k) s n f = (other_part n k.entity (f refl), f refl)
elsewhere_by (Act.Evict k) s n f = (other_part n k.entity (f refl), f refl)
elsewhere_by _ s n f = (refl, refl)

pub elsewhere : (a : Act) (s n : ℕ) (e : Entry) → e.act ≡ a → e.part ≡ part_of a s → is_restart a ≡ false → (is_regional a ≡ true → (acts_on a == n) ≡ false) → IsElsewhere n e
elsewhere a s n e p q r f =
    let w : (same_part (Part.Region n) (part_of a s) ≡ false) × (is_of n (key_in a) ≡ false) = elsewhere_by a s n f in
    record { part = ap (same_part (Part.Region n)) q ∙ w.0; key = ap (λ b. is_of n (key_in b)) p ∙ w.1; stays = ap is_restart p ∙ r }

-- an act of a region is of that region's part
pub regional_part : (a : Act) (s : ℕ) → is_regional a ≡ true → part_of a s ≡ Part.Region (acts_on a)
regional_part (Act.Get k time) s r = refl
regional_part (Act.Put k row time floor) s r = refl
regional_part (Act.Lock k version floor) s r = refl
regional_part (Act.Unlock k i) s r = refl
regional_part (Act.AfterInsert k row floor) s r = refl
regional_part (Act.AfterUpdate k i row) s r = refl
regional_part (Act.RegionRemove k) s r = refl
regional_part (Act.Evict k) s r = refl
regional_part _ s r = absurd (false≢true r)
