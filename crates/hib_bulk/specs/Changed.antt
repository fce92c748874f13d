-- What a line's change answers, and what it leaves of the store.
use Rattle.std.specs.Prelude.{◌≡◌, ◌⊎◌, ℕ, Bool, true, false, length, IfSome, Option}
use Rattle.std.specs.Option.{option_map}
use Rattle.hib_base.specs.Tables.{Tables}
use Rattle.hib_journal.specs.Types.{Commit, Reply}
use Rattle.hib_journal.specs.Runs as Runs
use Rattle.hib_store.specs.Stores.{StoreState}
use Rattle.hib_bulk.specs.Types.{BulkDef, BulkAct, BulkReply}
use Rattle.hib_bulk_law.specs.Rows.{found, bulked}
use Rattle.hib_bulk_law.specs.Legal.{is_of_store}

-- a reply that says that the keeper failed
abbrev pub is_fault : BulkReply → Bool
is_fault (BulkReply.Plain r) = Runs.is_fault r
is_fault _ = false

-- what a line answers that changes n rows, by what the store has answered
abbrev pub answer_of : Commit → ℕ → BulkReply
answer_of Commit.Committed n = BulkReply.Changed n
answer_of (Commit.Stale k found) n = BulkReply.Changed 0
answer_of (Commit.Duplicate k) n = BulkReply.Changed 0
answer_of Commit.Fault n = BulkReply.Plain Reply.Fault

-- the committed rows after an answer to a line's change: changed exactly if it isn't a fault
abbrev pub tables_changed : BulkDef → BulkReply → Option Tables → Option Tables
tables_changed d (BulkReply.Changed n) told = option_map (bulked d) told
tables_changed d _ told = told

-- over rows that are told: how many rows the line finds, or a fault
abbrev pub IsCount : BulkDef → Option Tables → BulkReply → Type 0
IsCount d told r = IfSome told (λ m. (r ≡ BulkReply.Changed (length (found d m))) ⊎ (r ≡ BulkReply.Plain Reply.Fault))

pub record IsChanged (d : BulkDef) (r : BulkReply) (old new : StoreState) : Type 0 where
  pub kind : is_of_store (BulkAct.Bulk 0) r ≡ true
  pub count : IsCount d old.tables r
  pub tables : new.tables ≡ tables_changed d r old.tables
  pub written : new.written ≡ old.written
