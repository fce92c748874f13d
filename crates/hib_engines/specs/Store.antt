-- A store that stands for a list: its rows are the stored ones, and it defers what the list leaves unsaved.
use Rattle.std.specs.Prelude.{◌≡◌, ◌≤◌, ◌+◌, ℕ, Bool, false, not, if◌then◌else◌, List, ◌∷◌, Some, Option}
use Rattle.std.specs.Option.{option_map}
use Rattle.hib_base.specs.Tables.{Tables}
use Rattle.hib_journal.specs.Types.{Change, Script, Act, Reply}
use Rattle.hib_journal.specs.Sessions.{Journal, is_empty}
use Rattle.hib_journal.specs.Legal.{is_told}
use Rattle.hib_journal.specs.Lists.{entry_at, unsaved, stored, IsStoreReply}
use Rattle.hib_journal.specs.Runs.{asks}
use Rattle.hib_store.specs.Stores.{StoreState, changes_of}
use Rattle.hib_store.specs.declared.asking.Loaded.{Loaded}
use Rattle.hib_store.specs.declared.store.Listed.{Listed}
use Rattle.hib_engines.specs.Counts.{RoseWithin}

pub record IsStored (told : Option Tables) (l : Journal) (store : StoreState) : Type 0 where
  pub rows : store.tables ≡ option_map (λ start. stored start l) told
  pub changes : (n : ℕ) → changes_of store n ≡ unsaved n l

-- an act of session s was answered: with the reply that is due, and the store stands for the list with the entry
pub record IsStoreServed (script : Script) (told : Option Tables) (l : Journal) (now s : ℕ) (a : Act) (r : Reply) (new : StoreState) : Type 0 where
  pub reply : IsStoreReply script told l (entry_at now (Some s) a r)
  pub stands : IsStored told (entry_at now (Some s) a r ∷ l) new

-- rows and changes are as before, and the keeper was asked once at most
pub record IsCounted (old new : StoreState) : Type 0 where
  pub tables : new.tables ≡ old.tables
  pub written : new.written ≡ old.written
  pub faults : old.faults ≤ new.faults
  pub later : old.asked ≤ new.asked
  pub few : new.asked ≤ old.asked + 1

-- an act of a session with these changes has left rows and changes as before: the keeper was asked only if the act asks, and nothing at all
-- has changed if the reply to the act doesn't hang on the committed rows
pub record IsLeft (cs : List Change) (a : Act) (old new : StoreState) : Type 0 where
  pub counted : IsCounted old new
  pub entities : new.entities ≡ old.entities
  pub asked : RoseWithin old.asked (if asks cs a then 1 else 0) new.asked
  pub same : is_told cs a ≡ false → new ≡ old

-- the reply that a loaded row is
abbrev pub reply_of_loaded : Loaded → Reply
reply_of_loaded (Loaded.Row row) = Reply.Row row
reply_of_loaded Loaded.Fault = Reply.Fault

-- the reply that a list is
abbrev pub reply_of_listed : Listed → Reply
reply_of_listed (Listed.List cells) = Reply.Listed cells
reply_of_listed Listed.Fault = Reply.Fault

-- whether an act of a session with these changes may change the committed rows
abbrev pub changes_rows : List Change → Act → Bool
changes_rows cs Act.Commit = not (is_empty cs)
changes_rows cs _ = false
