-- The laws of a read-write region, each in the words of its calls' clauses.
use Rattle.std.specs.Prelude.{◌≡◌, ◌<◌, ℕ, [], ◌∷◌, Option}
use Rattle.hib_base.specs.Tables.{Tables}
use Rattle.hib_journal.specs.Types.{Key, Row, Strategy, Script, Part, Act, Reply, Entry}
use Rattle.hib_journal.specs.Sessions.{Journal, last_tick, same_part}
use Rattle.hib_journal.specs.Regions as Regions
use Rattle.hib_journal.specs.Next.{strategy, capacity}
use Rattle.hib_journal.specs.Legal.{reply_of}
use Rattle.hib_soft_lock.specs.Steps.{holders_in}
use Rattle.hib_room_laws.specs.Elsewhere.{IsElsewhere, last_of}
use Rattle.hib_rw_region.specs.Region.{RegionState, slot_in, room_in}
use Rattle.hib_rw_region.specs.Steps.{empty, after_put, after_insert, after_lock, after_unlock, after_update, after_evict, after_clear}
use Rattle.hib_rw_region.specs.Stands.{IsRegion}

-- the region of a key's entity is the script's, and stands for a journal
pub record IsOfScript (script : Script) (state : RegionState) (k : Key) (h : Journal) : Type 0 where
  pub strategy : strategy script k.entity ≡ Strategy.ReadWrite
  pub capacity : state.capacity ≡ capacity script k.entity
  pub timeout : state.timeout ≡ script.timeout
  pub stands : IsRegion state k.entity h

-- the region of a key's entity stands for a journal, and e is the next entry of that region: with an act and its reply
pub record IsNext (state : RegionState) (k : Key) (h : Journal) (e : Entry) (a : Act) (r : Reply) : Type 0 where
  pub stands : IsRegion state k.entity h
  pub part : e.part ≡ Part.Region k.entity
  pub later : last_tick (λ d. same_part e.part d.part) h < e.tick
  pub act : e.act ≡ a
  pub reply : e.reply ≡ r

-- what the region answers is the reply that is due

abbrev pub Gets : Type 0
Gets = (script : Script) (start : Tables) (h : Journal) (s now : ℕ) (state : RegionState) (k : Key) (time : ℕ)
    → IsOfScript script state k h → Regions.got (slot_in state k.id) time ≡ reply_of script start h s now (Act.Get k time)

abbrev pub Puts : Type 0
Puts = (script : Script) (start : Tables) (h : Journal) (s now : ℕ) (state : RegionState) (k : Key) (row : Row) (time floor : ℕ)
    → IsOfScript script state k h
    → Reply.Put (Regions.put (slot_in state k.id) (room_in state floor) time row.version) ≡ reply_of script start h s now (Act.Put k row time floor)

abbrev pub Locks : Type 0
Locks = (script : Script) (start : Tables) (h : Journal) (s now : ℕ) (state : RegionState) (k : Key) (version : Option ℕ) (floor : ℕ)
    → IsOfScript script state k h
    → Reply.Locked (Regions.lock state.timeout (slot_in state k.id) (room_in state floor) now) ≡ reply_of script start h s now (Act.Lock k version floor)

abbrev pub Unlocks : Type 0
Unlocks = (script : Script) (start : Tables) (h : Journal) (s now : ℕ) (state : RegionState) (k : Key) (lock : ℕ)
    → IsOfScript script state k h → Reply.Unlocked (Regions.unlock (slot_in state k.id) lock) ≡ reply_of script start h s now (Act.Unlock k lock)

abbrev pub Updates : Type 0
Updates = (script : Script) (start : Tables) (h : Journal) (s now : ℕ) (state : RegionState) (k : Key) (lock : ℕ) (row : Row)
    → IsOfScript script state k h
    → Reply.Updated (Regions.after_update (slot_in state k.id) lock) ≡ reply_of script start h s now (Act.AfterUpdate k lock row)

abbrev pub Inserts : Type 0
Inserts = (script : Script) (start : Tables) (h : Journal) (s now : ℕ) (state : RegionState) (k : Key) (row : Row) (floor : ℕ)
    → IsOfScript script state k h
    → Reply.Inserted (Regions.after_insert (slot_in state k.id) (room_in state floor)) ≡ reply_of script start h s now (Act.AfterInsert k row floor)

abbrev pub Evicts : Type 0
Evicts = (script : Script) (start : Tables) (h : Journal) (s now : ℕ) (state : RegionState) (k : Key)
    → IsOfScript script state k h → Reply.Evicted (Regions.evict (slot_in state k.id)) ≡ reply_of script start h s now (Act.Evict k)

-- and after the call the region stands for the journal with that entry

abbrev pub GetGrows : Type 0
GetGrows = (h : Journal) (e : Entry) (state : RegionState) (k : Key) (time : ℕ)
    → IsNext state k h e (Act.Get k time) (Regions.got (slot_in state k.id) time) → IsRegion state k.entity (e ∷ h)

abbrev pub PutGrows : Type 0
PutGrows = (h : Journal) (e : Entry) (state : RegionState) (k : Key) (row : Row) (time floor : ℕ)
    → IsNext state k h e (Act.Put k row time floor) (Reply.Put (Regions.put (slot_in state k.id) (room_in state floor) time row.version))
    → IsRegion (after_put k.id row time floor e.tick state) k.entity (e ∷ h)

abbrev pub LockGrows : Type 0
LockGrows = (h : Journal) (e : Entry) (state : RegionState) (k : Key) (version : Option ℕ) (floor : ℕ)
    → IsNext state k h e (Act.Lock k version floor) (Reply.Locked (Regions.lock state.timeout (slot_in state k.id) (room_in state floor) e.tick))
    → IsRegion (after_lock k.id version floor e.tick state) k.entity (e ∷ h)

abbrev pub UnlockGrows : Type 0
UnlockGrows = (h : Journal) (e : Entry) (state : RegionState) (k : Key) (lock : ℕ)
    → IsNext state k h e (Act.Unlock k lock) (Reply.Unlocked (Regions.unlock (slot_in state k.id) lock))
    → IsRegion (after_unlock k.id lock e.tick state) k.entity (e ∷ h)

abbrev pub UpdateGrows : Type 0
UpdateGrows = (h : Journal) (e : Entry) (state : RegionState) (k : Key) (lock : ℕ) (row : Row)
    → IsNext state k h e (Act.AfterUpdate k lock row) (Reply.Updated (Regions.after_update (slot_in state k.id) lock))
    → IsRegion (after_update k.id lock row e.tick state) k.entity (e ∷ h)

abbrev pub InsertGrows : Type 0
InsertGrows = (h : Journal) (e : Entry) (state : RegionState) (k : Key) (row : Row) (floor : ℕ)
    → IsNext state k h e (Act.AfterInsert k row floor) (Reply.Inserted (Regions.after_insert (slot_in state k.id) (room_in state floor)))
    → IsRegion (after_insert k.id row floor e.tick state) k.entity (e ∷ h)

abbrev pub EvictGrows : Type 0
EvictGrows = (h : Journal) (e : Entry) (state : RegionState) (k : Key)
    → IsNext state k h e (Act.Evict k) (Reply.Evicted (Regions.evict (slot_in state k.id))) → IsRegion (after_evict k.id e.tick state) k.entity (e ∷ h)

-- an entry elsewhere leaves it standing
abbrev pub Stays : Type 0
Stays = (h : Journal) (e : Entry) (state : RegionState) (n : ℕ) → IsElsewhere n e → IsRegion state n h → IsRegion state n (e ∷ h)

-- after a restart the emptied region stands, whatever it held
abbrev pub Restarts : Type 0
Restarts = (h : Journal) (e : Entry) (state : RegionState) (n : ℕ) → e.act ≡ Act.Restart → IsRegion (after_clear state) n (e ∷ h)

-- an empty region stands for the empty journal
abbrev pub Begins : Type 0
Begins = (capacity timeout n : ℕ) → IsRegion (empty capacity timeout) n []

-- what `lock` asks of a lock's holders holds at every tick after the region's last
abbrev pub HasFew : Type 0
HasFew = (h : Journal) (state : RegionState) (n id now : ℕ) → IsRegion state n h → last_of n h < now → holders_in (slot_in state id) < now
