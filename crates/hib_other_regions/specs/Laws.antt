-- The laws of a region of items, each in the words of its calls' clauses.
use Rattle.std.specs.Prelude.{◌≡◌, ◌<◌, ℕ, Bool, true, false, [], ◌∷◌, is_some, if◌then◌else◌}
use Rattle.hib_base.specs.Tables.{Tables}
use Rattle.hib_journal.specs.Types.{Key, Row, Strategy, Script, Part, Act, Reply, Entry, Inserted, Evicted}
use Rattle.hib_journal.specs.Sessions.{Journal, last_tick, same_part}
use Rattle.hib_journal.specs.Regions.{got_item, put_item}
use Rattle.hib_journal.specs.Next.{strategy, capacity}
use Rattle.hib_journal.specs.Legal.{reply_of}
use Rattle.hib_other_regions.specs.Items.{ItemsState, empty, item_in, oldest_in, after_put, after_remove, after_clear}
use Rattle.hib_room_laws.specs.Elsewhere.{IsElsewhere}
use Rattle.hib_other_regions.specs.Stands.{IsItems}

-- the region of a key's entity stands for a journal, and e is the next entry of that region: with an act and its reply
pub record IsNext (state : ItemsState) (k : Key) (h : Journal) (e : Entry) (a : Act) (r : Reply) : Type 0 where
  pub stands : IsItems state k.entity h
  pub part : e.part ≡ Part.Region k.entity
  pub later : last_tick (λ d. same_part e.part d.part) h < e.tick
  pub act : e.act ≡ a
  pub reply : e.reply ≡ r

-- what the region answers is the reply that is due

abbrev pub ReadOnlyGets : Type 0
ReadOnlyGets = (script : Script) (start : Tables) (h : Journal) (s now : ℕ) (state : ItemsState) (k : Key) (time : ℕ)
    → strategy script k.entity ≡ Strategy.ReadOnly → IsItems state k.entity h
    → got_item true time (item_in state k.id) ≡ reply_of script start h s now (Act.Get k time)

abbrev pub NonstrictGets : Type 0
NonstrictGets = (script : Script) (start : Tables) (h : Journal) (s now : ℕ) (state : ItemsState) (k : Key) (time : ℕ)
    → strategy script k.entity ≡ Strategy.Nonstrict → IsItems state k.entity h
    → got_item false 0 (item_in state k.id) ≡ reply_of script start h s now (Act.Get k time)

abbrev pub Puts : Strategy → Type 0
Puts g = (script : Script) (start : Tables) (h : Journal) (s now : ℕ) (state : ItemsState) (k : Key) (row : Row) (time floor : ℕ)
    → strategy script k.entity ≡ g → state.capacity ≡ capacity script k.entity → IsItems state k.entity h
    → Reply.Put (put_item (oldest_in state) (item_in state k.id)) ≡ reply_of script start h s now (Act.Put k row time floor)

abbrev pub Inserts : Strategy → Type 0
Inserts g = (script : Script) (start : Tables) (h : Journal) (s now : ℕ) (state : ItemsState) (k : Key) (row : Row) (floor : ℕ)
    → strategy script k.entity ≡ g → state.capacity ≡ capacity script k.entity → IsItems state k.entity h
    → Reply.Inserted (if is_some (item_in state k.id) then Inserted.Present else Inserted.Stored (oldest_in state)) ≡ reply_of script start h s now (Act.AfterInsert k row floor)

abbrev pub Removes : Type 0
Removes = (script : Script) (start : Tables) (h : Journal) (s now : ℕ) (state : ItemsState) (k : Key)
    → IsItems state k.entity h → (if is_some (item_in state k.id) then Reply.Dropped else Reply.Absent) ≡ reply_of script start h s now (Act.RegionRemove k)

abbrev pub Evicts : Strategy → Type 0
Evicts g = (script : Script) (start : Tables) (h : Journal) (s now : ℕ) (state : ItemsState) (k : Key)
    → strategy script k.entity ≡ g → IsItems state k.entity h
    → Reply.Evicted (if is_some (item_in state k.id) then Evicted.Gone else Evicted.Absent) ≡ reply_of script start h s now (Act.Evict k)

-- and after the call the region stands for the journal with that entry

-- whatever it goes by
abbrev pub GetGrows : Type 0
GetGrows = (h : Journal) (e : Entry) (state : ItemsState) (k : Key) (time : ℕ) (by_time : Bool) (t : ℕ)
    → IsNext state k h e (Act.Get k time) (got_item by_time t (item_in state k.id)) → IsItems state k.entity (e ∷ h)

abbrev pub PutGrows : Type 0
PutGrows = (h : Journal) (e : Entry) (state : ItemsState) (k : Key) (row : Row) (time floor : ℕ)
    → IsNext state k h e (Act.Put k row time floor) (Reply.Put (put_item (oldest_in state) (item_in state k.id)))
    → IsItems (after_put k.id row e.tick state) k.entity (e ∷ h)

abbrev pub InsertGrows : Type 0
InsertGrows = (h : Journal) (e : Entry) (state : ItemsState) (k : Key) (row : Row) (floor : ℕ)
    → IsNext state k h e (Act.AfterInsert k row floor) (Reply.Inserted (if is_some (item_in state k.id) then Inserted.Present else Inserted.Stored (oldest_in state)))
    → IsItems (after_put k.id row e.tick state) k.entity (e ∷ h)

abbrev pub RemoveGrows : Type 0
RemoveGrows = (h : Journal) (e : Entry) (state : ItemsState) (k : Key)
    → IsNext state k h e (Act.RegionRemove k) (if is_some (item_in state k.id) then Reply.Dropped else Reply.Absent) → IsItems (after_remove k.id state) k.entity (e ∷ h)

abbrev pub EvictGrows : Type 0
EvictGrows = (h : Journal) (e : Entry) (state : ItemsState) (k : Key)
    → IsNext state k h e (Act.Evict k) (Reply.Evicted (if is_some (item_in state k.id) then Evicted.Gone else Evicted.Absent)) → IsItems (after_remove k.id state) k.entity (e ∷ h)

-- an entry elsewhere leaves it standing
abbrev pub Stays : Type 0
Stays = (h : Journal) (e : Entry) (state : ItemsState) (n : ℕ) → IsElsewhere n e → IsItems state n h → IsItems state n (e ∷ h)

-- after a restart the emptied region stands, whatever it held
abbrev pub Restarts : Type 0
Restarts = (h : Journal) (e : Entry) (state : ItemsState) (n : ℕ) → e.act ≡ Act.Restart → IsItems (after_clear state) n (e ∷ h)

-- an empty region stands for the empty journal
abbrev pub Begins : Type 0
Begins = (capacity n : ℕ) → IsItems (empty capacity) n []
