-- The store: what its keeper tells, and each session's written changes.
use Rattle.std.specs.Prelude.{◌≡◌, ℕ, ◌<◌, ◌==◌, ◌||◌, IfSome, Bool, true, false, List, [], nat_eq, Some, None, Option, Result, Ok, Err}
use Rattle.std.specs.List.{list_any}
use Rattle.std.specs.Map.{lookup}
use Rattle.std.specs.Option.{option_map, option_map_or}
use Rattle.std.specs.declared.alloc.AllocError.{AllocError}
use Rattle.hib_base.specs.Keys.{same_key}
use Rattle.hib_base.specs.Tables.{Tables, row_at, after_changes, commit_answer, in_order, key_of}
use Rattle.hib_journal.specs.Query.{gives, reads, mentions}
use Rattle.hib_store.specs.Types.{Key, Change, Commit, Cond, Query}
use Rattle.hib_store.specs.declared.asking.Loaded.{Loaded}
use Rattle.hib_store.specs.declared.store.Listed.{Listed}
use Rattle.hib_store.specs.declared.store.OpenFault.{OpenFault}

-- the changes that sessions have written, by session
abbrev pub Written : Type 0
Written = List (ℕ × List Change)

-- what contracts see of a store
pub record StoreState : Type 0 where
  -- the committed rows, if the keeper tells them
  pub tables : Option Tables
  -- how often the keeper has failed
  pub faults : ℕ
  -- how often the keeper was asked for rows
  pub asked : ℕ
  pub written : Written
  -- of how many entities an index is made
  pub entities : ℕ
  -- whether the index stands
  pub indexed : Bool

abbrev pub or_none : Option (List Change) → List Change
or_none None = []
or_none (Some cs) = cs

abbrev pub changes_in : Written → ℕ → List Change
changes_in ws s = or_none (lookup (nat_eq s) ws)

-- the changes that a session has written
abbrev pub changes_of : StoreState → ℕ → List Change
changes_of store s = changes_in store.written s

-- whether a change is on the key
abbrev pub is_in : Key → List Change → Bool
is_in k cs = list_any (λ c. same_key (key_of c) k) cs

-- a row that is loaded is what the changes leave of the committed rows, if they are told
abbrev pub IsView : Option Tables → List Change → Key → Loaded → Type 0
IsView None cs k loaded = Unit {0}
IsView (Some m) cs k (Loaded.Row row) = row ≡ row_at (after_changes cs m) k
IsView (Some m) cs k Loaded.Fault = Unit {0}

-- what is listed is what the query gives over what the changes leave of the committed rows, if these are told
abbrev pub IsListed : Option Tables → List Change → Query → Listed → Type 0
IsListed None cs q listed = Unit {0}
IsListed (Some m) cs q (Listed.List cells) = cells ≡ gives q (after_changes cs m)
IsListed (Some m) cs q Listed.Fault = Unit {0}

-- the keeper that is handed back if a store is not opened
abbrev pub handed_back : {K : Type 0} → OpenFault K → K
handed_back (OpenFault.NoMemory k) = k
handed_back (OpenFault.StoreFault k) = k

-- the keeper failed, and not memory
abbrev pub is_store_fault : {K : Type 0} → OpenFault K → Bool
is_store_fault (OpenFault.NoMemory k) = false
is_store_fault (OpenFault.StoreFault k) = true

-- the key that an answer to a commit names is that of a change
abbrev pub names_change : List Change → Commit → Bool
names_change cs Commit.Committed = true
names_change cs (Commit.Stale k found) = is_in k cs
names_change cs (Commit.Duplicate k) = is_in k cs
names_change cs Commit.Fault = true

abbrev pub tables_answered : Commit → List Change → Option Tables → Option Tables
tables_answered Commit.Committed cs told = option_map (after_changes cs) told
tables_answered (Commit.Stale k found) cs told = told
tables_answered (Commit.Duplicate k) cs told = told
tables_answered Commit.Fault cs told = told

-- the committed rows after a commit: changed exactly if it was answered Committed
abbrev pub tables_committed : Result Commit AllocError → List Change → Option Tables → Option Tables
tables_committed (Ok answer) cs told = tables_answered answer cs told
tables_committed (Err e) cs told = told

-- rows are those of the first entities
abbrev pub AreOf : ℕ → Tables → Tables → Type 0
AreOf entities rows m = (k : Key) → k.entity < entities → row_at rows k ≡ row_at m k

-- the rows of an index, if one stands, are those of the first entities, if the keeper tells them
abbrev pub IsIndexed : ℕ → Option Tables → Option Tables → Type 0
IsIndexed entities index told = IfSome index (λ rows. IfSome told (λ m. AreOf entities rows m))

-- a query reads only the first entities
abbrev pub ReadsBelow : ℕ → Query → Type 0
ReadsBelow entities q = (n : ℕ) → reads q n ≡ true → n < entities

-- an entity, and those to which a condition steps, if there is one, are among the first
abbrev pub MeetsBelow : ℕ → ℕ → Option Cond → Type 0
MeetsBelow entities entity c = (n : ℕ) → ((entity == n) || option_map_or (mentions n) c false) ≡ true → n < entities

abbrev pub if_applied : Commit → Tables → Option Tables
if_applied Commit.Committed rows = Some rows
if_applied (Commit.Stale k found) rows = None
if_applied (Commit.Duplicate k) rows = None
if_applied Commit.Fault rows = None

-- the rows of an index after an answer to a commit; none if it is dropped
abbrev pub index_left : Commit → List Change → Tables → Option Tables
index_left Commit.Committed cs rows = if_applied (commit_answer cs rows) (after_changes cs rows)
index_left (Commit.Stale k found) cs rows = Some rows
index_left (Commit.Duplicate k) cs rows = Some rows
index_left Commit.Fault cs rows = None

-- whether the index stands after a commit. After one that was answered Committed it may have been dropped for want of memory
abbrev pub StandsAfter : Commit → Bool → Bool → Type 0
StandsAfter Commit.Committed old new = new ≡ true → old ≡ true
StandsAfter (Commit.Stale k found) old new = new ≡ old
StandsAfter (Commit.Duplicate k) old new = new ≡ old
StandsAfter Commit.Fault old new = new ≡ false

abbrev pub StandsCommitted : Result Commit AllocError → Bool → Bool → Type 0
StandsCommitted (Ok answer) old new = StandsAfter answer old new
StandsCommitted (Err e) old new = new ≡ old

-- what contracts see of a snapshot: the rows, and of how many entities they are
pub record SnapshotState : Type 0 where
  pub rows : Tables
  pub entities : ℕ

-- the rows of a snapshot are those of the first entities, if the keeper tells them
abbrev pub IsSnapshotOf : Option Tables → SnapshotState → Type 0
IsSnapshotOf told s = IfSome told (λ m. (in_order m ≡ true) × AreOf s.entities s.rows m)
