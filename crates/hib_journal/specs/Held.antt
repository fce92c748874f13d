-- What a session holds of a key, by its own entries alone. They are the newest first, as in a journal.
use Rattle.std.specs.Prelude.{ℕ, ◌+◌, Bool, true, false, if◌then◌else◌, not, ◌&&◌, ◌||◌, ◌==◌, List, [], ◌∷◌, ◌++◌, set, Some, None, Option, unwrap_or, option_map, option_and_then}
use Rattle.std.specs.Option.{option_map_or, option_or}
use Rattle.std.specs.List.{filter, list_any, filter_map}
use Rattle.hib_journal.specs.Types.{Key, Row, Cell, Change, Commit, State, Act, Reply, Entry}
use Rattle.hib_base.specs.Keys.{same_key}
pub use Rattle.hib_base.specs.Sets.{with_cells}
use Rattle.hib_journal.specs.Query.{same_cell}
use Rattle.hib_journal.specs.Sessions.{Journal}

-- how an instance of a key arrives: from the store or the cache, or made new
pub data Arrival : Type 0 where
  Read : Key → Row → Arrival
  Made : Key → Row → Arrival

abbrev pub arrival : Act → Reply → Option Arrival
arrival (Act.Get k t) (Reply.Hit r) = Some (Arrival.Read k r)
arrival (Act.Load k) (Reply.Row (Some r)) = Some (Arrival.Read k r)
arrival (Act.Persist k r) Reply.New = Some (Arrival.Made k r)
arrival _ _ = None

abbrev pub arrived_key : Arrival → Key
arrived_key (Arrival.Read k r) = k
arrived_key (Arrival.Made k r) = k

abbrev pub arrived_row : Arrival → Row
arrived_row (Arrival.Read k r) = r
arrived_row (Arrival.Made k r) = r

-- the entries that empty the identity map
abbrev pub is_break : Act → Reply → Bool
is_break Act.Clear r = true
is_break Act.Rollback r = true
is_break Act.Commit (Reply.Commit Commit.Committed) = false
is_break Act.Commit r = true
is_break _ r = false

-- an arrival with the entries that came after it
abbrev pub Stay : Type 0
Stay = Arrival × Journal

abbrev pub longer : Entry → Option Stay → Option Stay
longer e o = option_map (λ s. (s.0, e ∷ s.1)) o

abbrev pub stay_after : Key → Entry → Option Arrival → Option Stay → Option Stay
stay_after k e None s = longer e s
stay_after k e (Some a) s = if same_key (arrived_key a) k then Some (a, []) else longer e s

-- the last arrival of k since the last break, with what came after it
abbrev pub stay : Key → Journal → Option Stay
stay k [] = None
stay k (e ∷ m) = if is_break e.act e.reply then None else stay_after k e (arrival e.act e.reply) (stay k m)

abbrev pub row_written : Key → Act → Option Row
row_written k (Act.Write (Change.Insert j r)) = if same_key j k then Some r else None
row_written k (Act.Write (Change.Update j v r)) = if same_key j k then Some r else None
row_written k _ = None

abbrev pub deletes : Key → Act → Bool
deletes k (Act.Write (Change.Delete j v)) = same_key j k
deletes k _ = false

abbrev pub inserts : Key → Act → Bool
inserts k (Act.Write (Change.Insert j r)) = same_key j k
inserts k _ = false

abbrev pub removes : Key → Act → Reply → Bool
removes k (Act.Remove j) Reply.Removed = same_key j k
removes k _ _ = false

abbrev pub is_inserted : Key → Journal → Bool
is_inserted k m = list_any (λ e. inserts k e.act) m

-- a new instance was removed before it was written
abbrev pub is_undone : Key → Journal → Bool
is_undone k [] = false
is_undone k (e ∷ m) = (removes k e.act e.reply && not (is_inserted k m)) || is_undone k m

abbrev pub has_left : Key → Stay → Bool
has_left k (Arrival.Read j r, m) = list_any (λ e. deletes k e.act) m
has_left k (Arrival.Made j r, m) = list_any (λ e. deletes k e.act) m || is_undone k m

abbrev pub last_written : Key → Journal → Option Row
last_written k [] = None
last_written k (e ∷ m) = option_or (row_written k e.act) (last_written k m)

abbrev pub base_of : Key → Stay → Option Row
base_of k (Arrival.Read j r, m) = option_or (last_written k m) (Some r)
base_of k (Arrival.Made j r, m) = last_written k m

abbrev pub cells_after : Key → Act → Reply → List Cell → List Cell
cells_after k (Act.Set j ps) Reply.Set cs = if same_key j k then with_cells ps cs else cs
cells_after k _ _ cs = cs

-- the arrival's cells with those of all later sets on top
abbrev pub cells_set : Key → Journal → List Cell → List Cell
cells_set k [] cs = cs
cells_set k (e ∷ m) cs = cells_after k e.act e.reply (cells_set k m cs)

abbrev pub state_of : Option Row → Bool → State
state_of None removed = State.New
state_of (Some r) true = State.Removed
state_of (Some r) false = State.Managed

-- an instance in the identity map
pub record Instance : Type 0 where
  pub key : Key
  pub state : State
  pub base : Option Row
  pub row : Row

abbrev pub instance_of : Key → Stay → Instance
instance_of k s = record {
  key = k;
  state = state_of (base_of k s) (list_any (λ e. removes k e.act e.reply) s.1);
  base = base_of k s;
  row = record { version = (unwrap_or (base_of k s) (arrived_row s.0)).version; cells = cells_set k s.1 (arrived_row s.0).cells };
}

-- what the session holds of k, or none
unfoldable pub held : Journal → Key → Option Instance
held m k = option_and_then (λ s. if has_left k s then None else Some (instance_of k s)) (stay k m)

abbrev pub without_key : Key → List Key → List Key
without_key k ks = filter (λ j. not (same_key j k)) ks

-- the keys that arrived, in order of their last arrival
abbrev pub arrived : Journal → List Key
arrived [] = []
arrived (e ∷ m) = option_map_or (λ a. without_key (arrived_key a) (arrived m) ++ arrived_key a ∷ []) (arrival e.act e.reply) (arrived m)

abbrev pub key_removed : Act → Reply → List Key → List Key
key_removed (Act.Remove k) Reply.Removed ks = without_key k ks ++ k ∷ []
key_removed _ _ ks = ks

-- the keys that were removed, in order of their last removal
abbrev pub removed : Journal → List Key
removed [] = []
removed (e ∷ m) = key_removed e.act e.reply (removed m)

abbrev pub same_cells : List Cell → List Cell → Bool
same_cells [] [] = true
same_cells [] (y ∷ ys) = false
same_cells (x ∷ xs) [] = false
same_cells (x ∷ xs) (y ∷ ys) = same_cell x y && same_cells xs ys

-- the version after one more update
abbrev pub next_version : Option ℕ → Option ℕ
next_version version = option_map (λ v. if v == 4294967295 then v else v + 1) version

abbrev pub insert_by : State → Key → Row → Option Change
insert_by State.New k r = Some (Change.Insert k r)
insert_by _ k r = None

abbrev pub update_by : State → Key → Row → Option Row → Option Change
update_by State.Managed k r (Some b) =
    if same_cells r.cells b.cells then None
    else Some (Change.Update k b.version (record { version = next_version b.version; cells = r.cells }))
update_by _ k r b = None

abbrev pub delete_by : State → Key → Option Row → Option Change
delete_by State.Removed k (Some b) = Some (Change.Delete k b.version)
delete_by _ k b = None

-- the changes that a flush would write: inserts, then updates in order of arrival, then deletes in order of removal
unfoldable pub pending : Journal → List Change
pending m =
    filter_map (λ k. option_and_then (λ i. insert_by i.state i.key i.row) (held m k)) (arrived m)
    ++ filter_map (λ k. option_and_then (λ i. update_by i.state i.key i.row i.base) (held m k)) (arrived m)
    ++ filter_map (λ k. option_and_then (λ i. delete_by i.state i.key i.base) (held m k)) (removed m)

-- the entry that gave the base is later than the last Begin
abbrev pub is_begin : Act → Bool
is_begin Act.Begin = true
is_begin _ = false

abbrev pub since_begin : Journal → Journal
since_begin [] = []
since_begin (e ∷ m) = if is_begin e.act then [] else e ∷ since_begin m

abbrev pub gives_row : Key → Option Arrival → Option Row → Bool
gives_row k a (Some r) = true
gives_row k (Some (Arrival.Read j r)) None = same_key j k
gives_row k _ None = false

abbrev pub is_fresh : Key → Journal → Bool
is_fresh k m = list_any (λ e. gives_row k (arrival e.act e.reply) (row_written k e.act)) (since_begin m)
