-- What the part of the store keeps.
use Rattle.std.specs.Prelude.{◌≡◌, ◌<◌, ◌≤◌, ℕ, Bool, true, false, [], ◌∷◌, slice_get, Option, MatchOption, unwrap_or, if◌then◌else◌}
use Rattle.hib_base.specs.Tables.{Tables}
use Rattle.hib_journal.specs.Types.{Script, Part, Entry, Act, Reply}
use Rattle.hib_journal.specs.Sessions.{Journal}
use Rattle.hib_journal.specs.Lists.{unsaved, IsStoreReply}
use Rattle.hib_journal.specs.Runs.{asks, is_fault, fault_count}
use Rattle.hib_outside.specs.Causes.{Rose}
use Rattle.hib_store.specs.Stores.{StoreState, IsListed}
use Rattle.hib_store.specs.declared.store.Listed.{Listed}
use Rattle.hib_engines.specs.Counts.{RoseBy, RoseWithin}
use Rattle.hib_engines.specs.Store.{IsStored}
use Rattle.hib_split_law.specs.Apart.{store_ask_count}
use Rattle.hib_engines.specs.Origin.{Origin}
use Rattle.hib_parts.specs.Listed.{WorkerState}

-- the store's part: its entries, the newest first, whether memory ran out in a call, whether no session with changes has come to a commit,
-- what its keeper tells, and whether the index of the rows of the first entities stands, and of how many
pub record StoredState : Type 0 where
  pub list : Journal
  pub refused : Bool
  pub unchanged : Bool
  pub tables : Option Tables
  pub faults : ℕ
  pub asked : ℕ
  pub indexed : Bool
  pub entities : ℕ

-- but for its index the store's part is as before
pub record DiffersInIndex (x y : StoredState) : Type 0 where
  pub list : y.list ≡ x.list
  pub refused : y.refused ≡ x.refused
  pub unchanged : y.unchanged ≡ x.unchanged
  pub tables : y.tables ≡ x.tables
  pub faults : y.faults ≡ x.faults
  pub asked : y.asked ≡ x.asked
  pub entities : y.entities ≡ x.entities

-- the store stands for the part's list, its keeper has failed as often as the list says, and unless memory ran out in a call it was
-- asked no more often than the list says
pub record IsKeeping (from : Origin) (l : Journal) (store : StoreState) (refused : Bool) : Type 0 where
  pub stands : IsStored from.tables l store
  pub faults : RoseBy from.faults (fault_count l) store.faults
  pub asked : refused ≡ false → RoseWithin from.asked (store_ask_count l) store.asked

-- an act of the store was answered, and its entry added to a list and to that of a session
pub record IsStoreEntered (script : Script) (told : Option Tables) (now : ℕ) (l k : Journal) (x y : StoreState) (w v : WorkerState) : Type 0 where
  pub entry : Entry
  pub tick : entry.tick ≡ now
  pub part : entry.part ≡ Part.Store
  pub list : k ≡ entry ∷ l
  pub mine : v.list ≡ entry ∷ w.list
  pub less : v.left < w.left
  pub reply : IsStoreReply script told l entry
  pub stands : IsStored told k y
  pub asked : RoseWithin x.asked (if asks (unsaved (unwrap_or entry.session 0) l) entry.act then 1 else 0) y.asked
  pub faults : x.faults ≤ y.faults
  pub fault : is_fault entry.reply ≡ true → Rose x.faults y.faults

-- an act is a list, and the reply is what its query gives to a session without changes over the committed rows at the start, if the keeper
-- tells these rows
abbrev pub IsStartReply : Script → Option Tables → Act → Reply → Type 0
IsStartReply script told (Act.List q) (Reply.Listed cells) = MatchOption (slice_get script.queries q) ⊥ (λ d. IsListed told [] d (Listed.List cells))
IsStartReply script told _ _ = ⊥

-- a list over the rows at the start: of which query, and the reply that it is
pub record StartListState : Type 0 where
  pub query : ℕ
  pub reply : Reply
