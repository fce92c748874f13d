-- The laws of a region that bulk lines may lock, each in the words of its calls' clauses.
use Rattle.std.specs.Prelude.{◌≡◌, ◌<◌, ◌+◌, ◌-◌, ◌==◌, ℕ, Bool, true, false, [], ◌∷◌, List, Option}
use Rattle.hib_base.specs.Tables.{Tables}
use Rattle.hib_journal.specs.Types.{Key, Row, Strategy, Script, Part, Act, Reply}
use Rattle.hib_journal.specs.Sessions.{last_tick, same_part, time, is_restart}
use Rattle.hib_journal.specs.Slot.{key_in}
use Rattle.hib_journal.specs.Regions as Regions
use Rattle.hib_journal.specs.Next.{strategy, capacity}
use Rattle.hib_room_laws.specs.Elsewhere as Room
use Rattle.hib_rw_region.specs.Region.{slot_in, room_in}
use Rattle.hib_bulk_region.specs.Types.{BulkDef, BulkAct, BulkReply, BulkEntry}
use Rattle.hib_bulk_law.specs.Plain.{Bulked, plain}
use Rattle.hib_bulk_law.specs.Wide.{is_old}
use Rattle.hib_bulk_law.specs.Legal.{reply_of}
use Rattle.hib_bulk_region.specs.Region.{BulkState, has_old}
use Rattle.hib_bulk_region.specs.Answers.{put_reply, inserted_reply}
use Rattle.hib_bulk_region.specs.Steps.{unheld, locked_all, unlocked_all, swept, got, put, after_put, inserted, after_insert, updated, after_update, after_lock, after_unlock}
use Rattle.hib_bulk_region.specs.Stands.{IsBulkRegion}

-- the region of a key's entity is the script's, and stands for a journal
pub record IsOfScript (script : Script) (state : BulkState) (k : Key) (h : Bulked) : Type 0 where
  pub strategy : strategy script k.entity ≡ Strategy.ReadWrite
  pub capacity : state.inner.capacity ≡ capacity script k.entity
  pub timeout : state.inner.timeout ≡ script.timeout
  pub stands : IsBulkRegion state k.entity h

-- the region of entity n stands for a journal, and e is the next entry of that region: with an act and its reply
pub record IsNext (state : BulkState) (n : ℕ) (h : Bulked) (e : BulkEntry) (a : BulkAct) (r : BulkReply) : Type 0 where
  pub stands : IsBulkRegion state n h
  pub part : e.part ≡ Part.Region n
  pub later : last_tick (λ d. same_part e.part d.part) (plain h) < e.tick
  pub act : e.act ≡ a
  pub reply : e.reply ≡ r

-- whether an act is one of the region of entity n
abbrev pub is_of : ℕ → BulkAct → Bool
is_of n (BulkAct.Plain a) = Room.is_of n (key_in a)
is_of n (BulkAct.LockAll m) = m == n
is_of n (BulkAct.Bulk b) = false
is_of n (BulkAct.UnlockAll m) = m == n
is_of n (BulkAct.Sweep k) = k.entity == n

abbrev pub restarts : BulkAct → Bool
restarts (BulkAct.Plain a) = is_restart a
restarts _ = false

-- an entry that the region of entity n does not feel
pub record IsElsewhere (n : ℕ) (e : BulkEntry) : Type 0 where
  pub part : same_part (Part.Region n) e.part ≡ false
  pub act : is_of n e.act ≡ false
  pub stays : restarts e.act ≡ false

-- what the region answers is the reply that is due

abbrev pub Gets : Type 0
Gets = (script : Script) (lines : List BulkDef) (rows : Tables) (h : Bulked) (s now : ℕ) (state : BulkState) (k : Key) (time : ℕ)
    → IsOfScript script state k h → got state k.id time ≡ reply_of script lines rows h s now (BulkAct.Plain (Act.Get k time))

abbrev pub Puts : Type 0
Puts = (script : Script) (lines : List BulkDef) (rows : Tables) (h : Bulked) (s now : ℕ) (state : BulkState) (k : Key) (row : Row) (time floor : ℕ)
    → IsOfScript script state k h
    → put_reply (put state k.id row.version time floor) ≡ reply_of script lines rows h s now (BulkAct.Plain (Act.Put k row time floor))

abbrev pub Locks : Type 0
Locks = (script : Script) (lines : List BulkDef) (rows : Tables) (h : Bulked) (s now : ℕ) (state : BulkState) (k : Key) (version : Option ℕ) (floor : ℕ)
    → IsOfScript script state k h
    → BulkReply.Plain (Reply.Locked (Regions.lock state.inner.timeout (slot_in state.inner k.id) (room_in state.inner floor) now))
    ≡ reply_of script lines rows h s now (BulkAct.Plain (Act.Lock k version floor))

abbrev pub Unlocks : Type 0
Unlocks = (script : Script) (lines : List BulkDef) (rows : Tables) (h : Bulked) (s now : ℕ) (state : BulkState) (k : Key) (lock : ℕ)
    → IsOfScript script state k h
    → BulkReply.Plain (Reply.Unlocked (Regions.unlock (slot_in state.inner k.id) lock)) ≡ reply_of script lines rows h s now (BulkAct.Plain (Act.Unlock k lock))

abbrev pub Updates : Type 0
Updates = (script : Script) (lines : List BulkDef) (rows : Tables) (h : Bulked) (s now : ℕ) (state : BulkState) (k : Key) (lock : ℕ) (row : Row)
    → IsOfScript script state k h
    → BulkReply.Plain (Reply.Updated (updated state k.id lock)) ≡ reply_of script lines rows h s now (BulkAct.Plain (Act.AfterUpdate k lock row))

-- a session offers the row of its insert at its own time
abbrev pub Inserts : Type 0
Inserts = (script : Script) (lines : List BulkDef) (rows : Tables) (h : Bulked) (s now : ℕ) (state : BulkState) (k : Key) (row : Row) (floor : ℕ)
    → IsOfScript script state k h
    → inserted_reply (inserted state k.id (time s (plain h)) floor) ≡ reply_of script lines rows h s now (BulkAct.Plain (Act.AfterInsert k row floor))

abbrev pub LocksAll : Type 0
LocksAll = (script : Script) (lines : List BulkDef) (rows : Tables) (h : Bulked) (s now n : ℕ) (state : BulkState)
    → IsBulkRegion state n h → BulkReply.Held (state.holders + 1) ≡ reply_of script lines rows h s now (BulkAct.LockAll n)

abbrev pub UnlocksAll : Type 0
UnlocksAll = (script : Script) (lines : List BulkDef) (rows : Tables) (h : Bulked) (s now n : ℕ) (state : BulkState)
    → IsBulkRegion state n h → BulkReply.Released (state.holders - 1) ≡ reply_of script lines rows h s now (BulkAct.UnlockAll n)

abbrev pub FindsOld : Type 0
FindsOld = (script : Script) (state : BulkState) (k : Key) (h : Bulked) → IsOfScript script state k h → has_old state k.id ≡ is_old script k h

-- and after the call the region stands for the journal with that entry

abbrev pub GetGrows : Type 0
GetGrows = (h : Bulked) (e : BulkEntry) (state : BulkState) (k : Key) (time : ℕ)
    → IsNext state k.entity h e (BulkAct.Plain (Act.Get k time)) (got state k.id time) → IsBulkRegion state k.entity (e ∷ h)

abbrev pub PutGrows : Type 0
PutGrows = (h : Bulked) (e : BulkEntry) (state : BulkState) (k : Key) (row : Row) (time floor : ℕ)
    → IsNext state k.entity h e (BulkAct.Plain (Act.Put k row time floor)) (put_reply (put state k.id row.version time floor))
    → IsBulkRegion (after_put k.id row time floor e.tick state) k.entity (e ∷ h)

abbrev pub LockGrows : Type 0
LockGrows = (h : Bulked) (e : BulkEntry) (state : BulkState) (k : Key) (version : Option ℕ) (floor : ℕ)
    → IsNext state k.entity h e (BulkAct.Plain (Act.Lock k version floor))
    (BulkReply.Plain (Reply.Locked (Regions.lock state.inner.timeout (slot_in state.inner k.id) (room_in state.inner floor) e.tick)))
    → IsBulkRegion (after_lock k.id version floor e.tick state) k.entity (e ∷ h)

abbrev pub UnlockGrows : Type 0
UnlockGrows = (h : Bulked) (e : BulkEntry) (state : BulkState) (k : Key) (lock : ℕ)
    → IsNext state k.entity h e (BulkAct.Plain (Act.Unlock k lock)) (BulkReply.Plain (Reply.Unlocked (Regions.unlock (slot_in state.inner k.id) lock)))
    → IsBulkRegion (after_unlock k.id lock e.tick state) k.entity (e ∷ h)

abbrev pub UpdateGrows : Type 0
UpdateGrows = (h : Bulked) (e : BulkEntry) (state : BulkState) (k : Key) (lock : ℕ) (row : Row)
    → IsNext state k.entity h e (BulkAct.Plain (Act.AfterUpdate k lock row)) (BulkReply.Plain (Reply.Updated (updated state k.id lock)))
    → IsBulkRegion (after_update k.id lock row e.tick state) k.entity (e ∷ h)

abbrev pub InsertGrows : Type 0
InsertGrows = (h : Bulked) (e : BulkEntry) (state : BulkState) (k : Key) (row : Row) (time floor : ℕ)
    → IsNext state k.entity h e (BulkAct.Plain (Act.AfterInsert k row floor)) (inserted_reply (inserted state k.id time floor))
    → IsBulkRegion (after_insert k.id row time floor e.tick state) k.entity (e ∷ h)

-- what is swept is an item
abbrev pub SweepGrows : Type 0
SweepGrows = (h : Bulked) (e : BulkEntry) (state : BulkState) (k : Key)
    → IsNext state k.entity h e (BulkAct.Sweep k) BulkReply.Swept → has_old state k.id ≡ true → IsBulkRegion (swept k.id e.tick state) k.entity (e ∷ h)

abbrev pub LockAllGrows : Type 0
LockAllGrows = (h : Bulked) (e : BulkEntry) (state : BulkState) (n : ℕ)
    → e.act ≡ BulkAct.LockAll n → IsBulkRegion state n h → IsBulkRegion (locked_all state) n (e ∷ h)

abbrev pub UnlockAllGrows : Type 0
UnlockAllGrows = (h : Bulked) (e : BulkEntry) (state : BulkState) (n : ℕ)
    → e.act ≡ BulkAct.UnlockAll n → IsBulkRegion state n h → IsBulkRegion (unlocked_all e.tick state) n (e ∷ h)

-- an entry elsewhere leaves it standing
abbrev pub Stays : Type 0
Stays = (h : Bulked) (e : BulkEntry) (state : BulkState) (n : ℕ) → IsElsewhere n e → IsBulkRegion state n h → IsBulkRegion state n (e ∷ h)

-- an empty region that nobody holds stands for the empty journal
abbrev pub Begins : Type 0
Begins = (capacity timeout n : ℕ) → IsBulkRegion (unheld capacity timeout) n []
