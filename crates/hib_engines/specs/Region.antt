-- The region of an entity, by its strategy: what it answers, what an act leaves of it, and that it stands for a journal.
use Rattle.std.specs.Prelude.{◌≡◌, ◌⊎◌, ℕ, Bool, true, false, Option, Some, None, is_some, if◌then◌else◌}
use Rattle.std.specs.Option.{option_map}
use Rattle.hib_journal.specs.Types.{Key, Row, Strategy, Script, Act, Reply, Put, Locked, Unlocked, Inserted, Updated, Evicted, Miss}
use Rattle.hib_journal.specs.Sessions.{Journal}
use Rattle.hib_journal.specs.Slot.{key_in}
use Rattle.hib_journal.specs.Room.{has_entry}
use Rattle.hib_journal.specs.Next.{strategy, capacity, is_cached_by}
use Rattle.hib_journal.specs.Regions as Regions
use Rattle.hib_other_regions.specs.Items.{ItemsState, item_in, oldest_in}
use Rattle.hib_other_regions.specs.Items as Items
use Rattle.hib_other_regions.specs.Stands.{IsItems}
use Rattle.hib_rw_region.specs.Region.{RegionState, slot_in, room_in}
use Rattle.hib_rw_region.specs.Steps as Slots
use Rattle.hib_rw_region.specs.Stands.{IsRegion}
use Rattle.hib_engines.specs.declared.region.Region.{Region}

-- ---- each call, by the strategy

abbrev pub got : Region → ℕ → ℕ → Reply
got Region.Uncached id time = Reply.Miss Miss.Absent
got (Region.ReadOnly x) id time = Regions.got_item true time (item_in x id)
got (Region.Nonstrict x) id time = Regions.got_item false 0 (item_in x id)
got (Region.ReadWrite x) id time = Regions.got (slot_in x id) time

abbrev pub put : Region → ℕ → Row → ℕ → ℕ → Put
put Region.Uncached id row time floor = Put.Crowded
put (Region.ReadOnly x) id row time floor = Regions.put_item (oldest_in x) (item_in x id)
put (Region.Nonstrict x) id row time floor = Regions.put_item (oldest_in x) (item_in x id)
put (Region.ReadWrite x) id row time floor = Regions.put (slot_in x id) (room_in x floor) time row.version

abbrev pub after_put : Region → ℕ → Row → ℕ → ℕ → ℕ → Region
after_put Region.Uncached id row time floor now = Region.Uncached
after_put (Region.ReadOnly x) id row time floor now = Region.ReadOnly (Items.after_put id row now x)
after_put (Region.Nonstrict x) id row time floor now = Region.Nonstrict (Items.after_put id row now x)
after_put (Region.ReadWrite x) id row time floor now = Region.ReadWrite (Slots.after_put id row time floor now x)

abbrev pub no_lock : Locked
no_lock = record { id = 0; until = 0; evicted = None }

abbrev pub lock : Region → ℕ → ℕ → ℕ → Locked
lock (Region.ReadWrite x) id floor now = Regions.lock x.timeout (slot_in x id) (room_in x floor) now
lock _ id floor now = no_lock

abbrev pub after_lock : Region → ℕ → Option ℕ → ℕ → ℕ → Region
after_lock (Region.ReadWrite x) id version floor now = Region.ReadWrite (Slots.after_lock id version floor now x)
after_lock x id version floor now = x

abbrev pub unlock : Region → ℕ → ℕ → Unlocked
unlock (Region.ReadWrite x) id lock = Regions.unlock (slot_in x id) lock
unlock _ id lock = Unlocked.Expired

abbrev pub after_unlock : Region → ℕ → ℕ → ℕ → Region
after_unlock (Region.ReadWrite x) id lock now = Region.ReadWrite (Slots.after_unlock id lock now x)
after_unlock x id lock now = x

-- whether a lock is given back without memory: no key of the region has to get a slot for it
abbrev pub has_slot : Region → ℕ → Bool
has_slot (Region.ReadWrite x) id = has_entry (slot_in x id)
has_slot _ id = true

abbrev pub insert : Region → ℕ → ℕ → Inserted
insert (Region.ReadOnly x) id floor = if is_some (item_in x id) then Inserted.Present else Inserted.Stored (oldest_in x)
insert (Region.ReadWrite x) id floor = Regions.after_insert (slot_in x id) (room_in x floor)
insert _ id floor = Inserted.Crowded

abbrev pub after_insert : Region → ℕ → Row → ℕ → ℕ → Region
after_insert (Region.ReadOnly x) id row floor now = Region.ReadOnly (Items.after_put id row now x)
after_insert (Region.ReadWrite x) id row floor now = Region.ReadWrite (Slots.after_insert id row floor now x)
after_insert x id row floor now = x

abbrev pub update : Region → ℕ → ℕ → Updated
update (Region.ReadWrite x) id lock = Regions.after_update (slot_in x id) lock
update _ id lock = Updated.Expired

abbrev pub after_update : Region → ℕ → ℕ → Row → ℕ → Region
after_update (Region.ReadWrite x) id lock row now = Region.ReadWrite (Slots.after_update id lock row now x)
after_update x id lock row now = x

abbrev pub remove : Region → ℕ → Reply
remove (Region.ReadOnly x) id = if is_some (item_in x id) then Reply.Dropped else Reply.Absent
remove (Region.Nonstrict x) id = if is_some (item_in x id) then Reply.Dropped else Reply.Absent
remove _ id = Reply.Absent

abbrev pub after_remove : Region → ℕ → Region
after_remove (Region.ReadOnly x) id = Region.ReadOnly (Items.after_remove id x)
after_remove (Region.Nonstrict x) id = Region.Nonstrict (Items.after_remove id x)
after_remove x id = x

abbrev pub evict : Region → ℕ → Evicted
evict Region.Uncached id = Evicted.Absent
evict (Region.ReadOnly x) id = if is_some (item_in x id) then Evicted.Gone else Evicted.Absent
evict (Region.Nonstrict x) id = if is_some (item_in x id) then Evicted.Gone else Evicted.Absent
evict (Region.ReadWrite x) id = Regions.evict (slot_in x id)

abbrev pub after_evict : Region → ℕ → ℕ → Region
after_evict Region.Uncached id now = Region.Uncached
after_evict (Region.ReadOnly x) id now = Region.ReadOnly (Items.after_remove id x)
after_evict (Region.Nonstrict x) id now = Region.Nonstrict (Items.after_remove id x)
after_evict (Region.ReadWrite x) id now = Region.ReadWrite (Slots.after_evict id now x)

abbrev pub empty : Strategy → ℕ → ℕ → Region
empty Strategy.Uncached capacity timeout = Region.Uncached
empty Strategy.ReadOnly capacity timeout = Region.ReadOnly (Items.empty capacity)
empty Strategy.Nonstrict capacity timeout = Region.Nonstrict (Items.empty capacity)
empty Strategy.ReadWrite capacity timeout = Region.ReadWrite (Slots.empty capacity timeout)

abbrev pub emptied : Region → Region
emptied Region.Uncached = Region.Uncached
emptied (Region.ReadOnly x) = Region.ReadOnly (Items.after_clear x)
emptied (Region.Nonstrict x) = Region.Nonstrict (Items.after_clear x)
emptied (Region.ReadWrite x) = Region.ReadWrite (Slots.after_clear x)

-- ---- each act of a region

-- the answer at a tick; Done to an act that is no region's
abbrev pub answer_in : Region → ℕ → Act → Reply
answer_in x now (Act.Get k time) = got x k.id time
answer_in x now (Act.Put k row time floor) = Reply.Put (put x k.id row time floor)
answer_in x now (Act.Lock k version floor) = Reply.Locked (lock x k.id floor now)
answer_in x now (Act.Unlock k lock) = Reply.Unlocked (unlock x k.id lock)
answer_in x now (Act.AfterInsert k row floor) = Reply.Inserted (insert x k.id floor)
answer_in x now (Act.AfterUpdate k lock row) = Reply.Updated (update x k.id lock)
answer_in x now (Act.RegionRemove k) = remove x k.id
answer_in x now (Act.Evict k) = Reply.Evicted (evict x k.id)
answer_in x now _ = Reply.Done

abbrev pub region_after : Region → ℕ → Act → Region
region_after x now (Act.Put k row time floor) = after_put x k.id row time floor now
region_after x now (Act.Lock k version floor) = after_lock x k.id version floor now
region_after x now (Act.Unlock k lock) = after_unlock x k.id lock now
region_after x now (Act.AfterInsert k row floor) = after_insert x k.id row floor now
region_after x now (Act.AfterUpdate k lock row) = after_update x k.id lock row now
region_after x now (Act.RegionRemove k) = after_remove x k.id
region_after x now (Act.Evict k) = after_evict x k.id now
region_after x now _ = x

-- whether an act is a region's, and of which entity
abbrev pub is_of_key : Option Key → Bool
is_of_key None = false
is_of_key (Some k) = true

abbrev pub is_regional : Act → Bool
is_regional a = is_of_key (key_in a)

abbrev pub entity_of : Option Key → ℕ
entity_of None = 0
entity_of (Some k) = k.entity

-- the entity of the region that an act is on
abbrev pub entity_in : Act → Option ℕ
entity_in a = option_map (λ k. k.entity) (key_in a)

abbrev pub acts_on : Act → ℕ
acts_on a = entity_of (key_in a)

-- ---- and it stands for a journal

pub record IsItemsOf (script : Script) (g : Strategy) (n : ℕ) (x : ItemsState) (h : Journal) : Type 0 where
  pub strategy : strategy script n ≡ g
  pub capacity : x.capacity ≡ capacity script n
  pub stands : IsItems x n h

pub record IsSlotsOf (script : Script) (n : ℕ) (x : RegionState) (h : Journal) : Type 0 where
  pub strategy : strategy script n ≡ Strategy.ReadWrite
  pub capacity : x.capacity ≡ capacity script n
  pub timeout : x.timeout ≡ script.timeout
  pub stands : IsRegion x n h

-- the region of entity n
abbrev pub IsPlaced : Script → ℕ → Journal → Region → Type 0
IsPlaced script n h Region.Uncached = strategy script n ≡ Strategy.Uncached
IsPlaced script n h (Region.ReadOnly x) = IsItemsOf script Strategy.ReadOnly n x h
IsPlaced script n h (Region.Nonstrict x) = IsItemsOf script Strategy.Nonstrict n x h
IsPlaced script n h (Region.ReadWrite x) = IsSlotsOf script n x h

-- an act that may be due on an entity of a strategy
abbrev pub Suits : Strategy → Act → Type 0
Suits g (Act.Get k time) = is_cached_by g ≡ true
Suits g (Act.Put k row time floor) = is_cached_by g ≡ true
Suits g (Act.Lock k version floor) = g ≡ Strategy.ReadWrite
Suits g (Act.Unlock k lock) = g ≡ Strategy.ReadWrite
Suits g (Act.AfterInsert k row floor) = (g ≡ Strategy.ReadOnly) ⊎ (g ≡ Strategy.ReadWrite)
Suits g (Act.AfterUpdate k lock row) = g ≡ Strategy.ReadWrite
Suits g (Act.RegionRemove k) = (g ≡ Strategy.ReadOnly) ⊎ (g ≡ Strategy.Nonstrict)
Suits g (Act.Evict k) = is_cached_by g ≡ true
Suits g _ = Unit {0}
