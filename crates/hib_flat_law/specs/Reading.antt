-- The entry that an object looks like, by the names of its members, and not by their order but for the cells. What looks like nothing
-- gives some value.
use Rattle.std.specs.Prelude.{ℕ, Bool, false, if◌then◌else◌, List, [], ◌∷◌, take, drop, map, codes, bytes_eq, Option, Some, None, option_map, option_and_then}
use Rattle.json.specs.Json as json
use Rattle.hib_journal.specs.Types.{Key, Cell, Row, Change, Part, Act, Commit, Checked, Miss, Put, Locked, Unlocked, Inserted, Updated, Reply, Entry, Script}
use Rattle.hib_entry_fields.specs.Fields.{number_of, signed_of, entity_of, query_of, session_of, column_of}
use Rattle.hib_entry_texts.specs.Replies.{outcome_of, persisted_of, changed_of, removed_of, dropped_reply_of, evicted_of}
use Rattle.hib_entry_texts.specs.WellFormed.{part_of}

-- ---- values

-- the first member of a name
abbrev pub look : List ℕ → json.Members → Option json.Json
look name json.no_members = None
look name (json.member k j ms) = if bytes_eq k name then Some j else look name ms

abbrev pub number_in : Option json.Json → Option ℕ
number_in (Some (json.number s)) = Some (number_of s)
number_in _ = None

abbrev pub word_in : Option json.Json → Option (List ℕ)
word_in (Some (json.string s)) = Some s
word_in _ = None

abbrev pub is_true : Option json.Json → Bool
is_true (Some (json.boolean b)) = b
is_true _ = false

abbrev pub or_zero : Option ℕ → ℕ
or_zero None = 0
or_zero (Some n) = n

abbrev pub or_empty : Option (List ℕ) → List ℕ
or_empty None = []
or_empty (Some w) = w

abbrev pub word_of : json.Json → List ℕ
word_of (json.string s) = s
word_of _ = []

abbrev pub cell_of : json.Json → Cell
cell_of (json.number s) = Cell.Int (signed_of s)
cell_of (json.string s) = Cell.Text s
cell_of (json.boolean b) = Cell.Bool b
cell_of _ = Cell.Bool false

abbrev pub words_of : json.Items → List (List ℕ)
words_of json.no_items = []
words_of (json.item j js) = word_of j ∷ words_of js

abbrev pub cells_of : json.Items → List Cell
cells_of json.no_items = []
cells_of (json.item j js) = cell_of j ∷ cells_of js

abbrev pub words_in : Option json.Json → List (List ℕ)
words_in (Some (json.array js)) = words_of js
words_in _ = []

abbrev pub list_in : Option json.Json → List Cell
list_in (Some (json.array js)) = cells_of js
list_in _ = []

-- ---- members

abbrev pub number_at : List ℕ → json.Members → ℕ
number_at name ms = or_zero (number_in (look name ms))

abbrev pub word_at : List ℕ → json.Members → List ℕ
word_at name ms = or_empty (word_in (look name ms))

abbrev pub version_at : List ℕ → json.Members → Option ℕ
version_at name ms = number_in (look name ms)

abbrev pub key_at : Script → json.Members → Key
key_at script ms = record { entity = entity_of script (word_at (codes "entity") ms); id = number_at (codes "id") ms }

abbrev pub query_at : Script → json.Members → ℕ
query_at script ms = query_of script (word_at (codes "query") ms)

abbrev pub tables_at : Script → json.Members → List ℕ
tables_at script ms = map (entity_of script) (words_in (look (codes "tables") ms))

abbrev pub list_at : json.Members → List Cell
list_at ms = list_in (look (codes "list") ms)

abbrev pub is_cell_name : List ℕ → Bool
is_cell_name name = bytes_eq (take 5 name) (codes "cell_")

-- each member of a cell, with its column's name
abbrev pub cells_at : json.Members → List (List ℕ × Cell)
cells_at json.no_members = []
cells_at (json.member k j ms) = if is_cell_name k then (drop 5 k, cell_of j) ∷ cells_at ms else cells_at ms

abbrev pub row_at : json.Members → Row
row_at ms = record { version = version_at (codes "version") ms; cells = map (λ c. c.1) (cells_at ms) }

abbrev pub sets_at : Script → ℕ → json.Members → List (ℕ × Cell)
sets_at script entity ms = map (λ c. (column_of script entity c.0, c.1)) (cells_at ms)

-- ---- acts, by the words of part and act

abbrev pub registry_act : Script → json.Members → List ℕ → Act
registry_act script ms w =
    if bytes_eq w (codes "end") then Act.End
    else (if bytes_eq w (codes "kill") then Act.Kill (session_of script (word_at (codes "killed") ms))
    else (if bytes_eq w (codes "restart") then Act.Restart else Act.Begin))

abbrev pub own_act : Script → json.Members → List ℕ → Act
own_act script ms w =
    if bytes_eq w (codes "find") then Act.Find (key_at script ms)
    else (if bytes_eq w (codes "persist") then Act.Persist (key_at script ms) (row_at ms)
    else (if bytes_eq w (codes "set") then Act.Set (key_at script ms) (sets_at script (key_at script ms).entity ms)
    else (if bytes_eq w (codes "remove") then Act.Remove (key_at script ms) else Act.Clear)))

abbrev pub store_act : Script → json.Members → List ℕ → Act
store_act script ms w =
    if bytes_eq w (codes "load") then Act.Load (key_at script ms)
    else (if bytes_eq w (codes "list") then Act.List (query_at script ms)
    else (if bytes_eq w (codes "insert") then Act.Write (Change.Insert (key_at script ms) (row_at ms))
    else (if bytes_eq w (codes "update") then Act.Write (Change.Update (key_at script ms) (version_at (codes "expected") ms) (row_at ms))
    else (if bytes_eq w (codes "delete") then Act.Write (Change.Delete (key_at script ms) (version_at (codes "expected") ms))
    else (if bytes_eq w (codes "commit") then Act.Commit else Act.Rollback)))))

abbrev pub stamps_act : Script → json.Members → List ℕ → Act
stamps_act script ms w =
    if bytes_eq w (codes "pre") then Act.Pre (tables_at script ms)
    else (if bytes_eq w (codes "stamp") then Act.Stamp (tables_at script ms) else Act.Check (query_at script ms) (number_at (codes "time") ms))

abbrev pub results_act : Script → json.Members → List ℕ → Act
results_act script ms w =
    if bytes_eq w (codes "look") then Act.Look (query_at script ms) else Act.Keep (query_at script ms) (number_at (codes "time") ms) (list_at ms)

abbrev pub region_act : Script → json.Members → List ℕ → Act
region_act script ms w =
    if bytes_eq w (codes "get") then Act.Get (key_at script ms) (number_at (codes "time") ms)
    else (if bytes_eq w (codes "put") then Act.Put (key_at script ms) (row_at ms) (number_at (codes "time") ms) (number_at (codes "floor") ms)
    else (if bytes_eq w (codes "lock") then Act.Lock (key_at script ms) (version_at (codes "version") ms) (number_at (codes "floor") ms)
    else (if bytes_eq w (codes "unlock") then Act.Unlock (key_at script ms) (number_at (codes "lock") ms)
    else (if bytes_eq w (codes "after-insert") then Act.AfterInsert (key_at script ms) (row_at ms) (number_at (codes "floor") ms)
    else (if bytes_eq w (codes "after-update") then Act.AfterUpdate (key_at script ms) (number_at (codes "lock") ms) (row_at ms)
    else (if bytes_eq w (codes "remove") then Act.RegionRemove (key_at script ms) else Act.Evict (key_at script ms)))))))

abbrev pub act_by : Script → json.Members → List ℕ → List ℕ → Act
act_by script ms part w =
    if bytes_eq part (codes "own") then own_act script ms w
    else (if bytes_eq part (codes "store") then store_act script ms w
    else (if bytes_eq part (codes "stamps") then stamps_act script ms w
    else (if bytes_eq part (codes "results") then results_act script ms w
    else (if bytes_eq part (codes "region") then region_act script ms w else registry_act script ms w))))

abbrev pub act_at : Script → json.Members → Act
act_at script ms = act_by script ms (word_at (codes "part") ms) (word_at (codes "act") ms)

-- ---- replies, by the act and the word of the reply

abbrev pub read_of : json.Members → List ℕ → Reply
read_of ms w = if bytes_eq w (codes "row") then Reply.Row (Some (row_at ms)) else (if bytes_eq w (codes "none") then Reply.Row None else Reply.Fault)

abbrev pub listed_of : json.Members → List ℕ → Reply
listed_of ms w = if bytes_eq w (codes "list") then Reply.Listed (list_at ms) else Reply.Fault

abbrev pub commit_of : Script → json.Members → List ℕ → Commit
commit_of script ms w =
    if bytes_eq w (codes "committed") then Commit.Committed
    else (if bytes_eq w (codes "stale") then Commit.Stale (key_at script ms) (version_at (codes "found") ms)
    else (if bytes_eq w (codes "duplicate") then Commit.Duplicate (key_at script ms) else Commit.Fault))

abbrev pub checked_of : Script → json.Members → List ℕ → Checked
checked_of script ms w =
    if bytes_eq w (codes "fresh") then Checked.Fresh else Checked.Stale (entity_of script (word_at (codes "table") ms)) (number_at (codes "stamp") ms)

abbrev pub looked_of : json.Members → List ℕ → Reply
looked_of ms w = if bytes_eq w (codes "found") then Reply.Found (number_at (codes "time") ms) (list_at ms) else Reply.Absent

abbrev pub miss_of : json.Members → List ℕ → Miss
miss_of ms w =
    if bytes_eq w (codes "locked") then Miss.Locked (number_at (codes "holders") ms)
    else (if bytes_eq w (codes "released") then Miss.Released (number_at (codes "released") ms)
    else (if bytes_eq w (codes "young") then Miss.Young (number_at (codes "stored") ms) else Miss.Absent))

abbrev pub got_of : json.Members → List ℕ → Reply
got_of ms w = if bytes_eq w (codes "hit") then Reply.Hit (row_at ms) else Reply.Miss (miss_of ms (word_at (codes "cause") ms))

abbrev pub put_of : json.Members → List ℕ → Put
put_of ms w =
    if bytes_eq w (codes "stored") then Put.Stored (number_in (look (codes "evicted") ms)) (is_true (look (codes "late") ms))
    else (if bytes_eq w (codes "present") then Put.Present (version_at (codes "found") ms)
    else (if bytes_eq w (codes "held") then Put.Held (number_at (codes "holders") ms)
    else (if bytes_eq w (codes "early") then Put.Early (number_at (codes "released") ms)
    else (if bytes_eq w (codes "old") then Put.Old (number_at (codes "found") ms) else Put.Crowded))))

abbrev pub locked_of : json.Members → Locked
locked_of ms = record { id = number_at (codes "lock") ms; until = number_at (codes "until") ms; evicted = number_in (look (codes "evicted") ms) }

abbrev pub unlocked_of : json.Members → List ℕ → Unlocked
unlocked_of ms w = if bytes_eq w (codes "released") then Unlocked.Released (number_at (codes "holders") ms) else Unlocked.Expired

abbrev pub inserted_of : json.Members → List ℕ → Inserted
inserted_of ms w =
    if bytes_eq w (codes "stored") then Inserted.Stored (number_in (look (codes "evicted") ms))
    else (if bytes_eq w (codes "present") then Inserted.Present else Inserted.Crowded)

abbrev pub updated_of : json.Members → List ℕ → Updated
updated_of ms w =
    if bytes_eq w (codes "stored") then Updated.Stored
    else (if bytes_eq w (codes "shared") then Updated.Shared (number_at (codes "holders") ms) else Updated.Expired)

abbrev pub reply_by : Script → json.Members → Act → List ℕ → Reply
reply_by script ms Act.Begin w = Reply.Began (number_at (codes "floor") ms)
reply_by script ms Act.End w = Reply.Ended (outcome_of w)
reply_by script ms (Act.Kill s) w = Reply.Done
reply_by script ms Act.Restart w = Reply.Done
reply_by script ms (Act.Find k) w = read_of ms w
reply_by script ms (Act.Persist k r) w = persisted_of w
reply_by script ms (Act.Set k xs) w = changed_of w
reply_by script ms (Act.Remove k) w = removed_of w
reply_by script ms Act.Clear w = Reply.Cleared
reply_by script ms (Act.Load k) w = read_of ms w
reply_by script ms (Act.List q) w = listed_of ms w
reply_by script ms (Act.Write c) w = Reply.Written
reply_by script ms Act.Commit w = Reply.Commit (commit_of script ms w)
reply_by script ms Act.Rollback w = Reply.Done
reply_by script ms (Act.Pre ts) w = Reply.Stamped (number_at (codes "stamp") ms)
reply_by script ms (Act.Stamp ts) w = Reply.Stamped (number_at (codes "stamp") ms)
reply_by script ms (Act.Check q t) w = Reply.Check (checked_of script ms w)
reply_by script ms (Act.Look q) w = looked_of ms w
reply_by script ms (Act.Keep q t l) w = Reply.Kept (option_map (query_of script) (word_in (look (codes "dropped") ms)))
reply_by script ms (Act.Get k t) w = got_of ms w
reply_by script ms (Act.Put k r t f) w = Reply.Put (put_of ms w)
reply_by script ms (Act.Lock k v f) w = Reply.Locked (locked_of ms)
reply_by script ms (Act.Unlock k i) w = Reply.Unlocked (unlocked_of ms w)
reply_by script ms (Act.AfterInsert k r f) w = Reply.Inserted (inserted_of ms w)
reply_by script ms (Act.AfterUpdate k i r) w = Reply.Updated (updated_of ms w)
reply_by script ms (Act.RegionRemove k) w = dropped_reply_of w
reply_by script ms (Act.Evict k) w = Reply.Evicted (evicted_of w)

-- ---- entries

abbrev pub session_at : Script → json.Members → Option ℕ
session_at script ms = option_map (session_of script) (word_in (look (codes "session") ms))

abbrev pub entry_with : Script → json.Members → Act → Part → Entry
entry_with script ms act part = record {
  tick = number_at (codes "tick") ms;
  session = session_at script ms;
  part = part;
  act = act;
  reply = reply_by script ms act (word_at (codes "reply") ms);
}

-- the part is that of the act; what is a session's own needs a session
abbrev pub entry_in : Script → json.Members → Act → Option Entry
entry_in script ms act = option_map (λ (p : Part). entry_with script ms act p) (part_of act (session_at script ms))

abbrev pub entry_of : Script → json.Json → Option Entry
entry_of script (json.object ms) = entry_in script ms (act_at script ms)
entry_of script _ = None

-- the entry that a line is
unfoldable pub read_flat : Script → List ℕ → Option Entry
read_flat script line = option_and_then (entry_of script) (json.document line)
