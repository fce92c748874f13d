-- What an act and its reply have, each under one name in all of them.
use Rattle.std.specs.Prelude.{ℕ, Bool, List, Option, Some, None}
use Rattle.std.specs.Option.{option_or}
use Rattle.hib_journal.specs.Types.{Key, Cell, Row, Change, Act, Commit, Checked, Miss, Put, Unlocked, Inserted, Updated, Reply}
use Rattle.hib_base.specs.Tables.{key_of, row_left}

-- ---- keys, rows and queries

-- the session that is killed
abbrev pub killed_in : Act → Option ℕ
killed_in (Act.Kill s) = Some s
killed_in _ = None

abbrev pub act_key : Act → Option Key
act_key (Act.Find k) = Some k
act_key (Act.Persist k r) = Some k
act_key (Act.Set k xs) = Some k
act_key (Act.Remove k) = Some k
act_key (Act.Load k) = Some k
act_key (Act.Write c) = Some (key_of c)
act_key (Act.Get k t) = Some k
act_key (Act.Put k r t f) = Some k
act_key (Act.Lock k v f) = Some k
act_key (Act.Unlock k i) = Some k
act_key (Act.AfterInsert k r f) = Some k
act_key (Act.AfterUpdate k i r) = Some k
act_key (Act.RegionRemove k) = Some k
act_key (Act.Evict k) = Some k
act_key _ = None

-- of the change for which a commit was refused
abbrev pub reply_key : Reply → Option Key
reply_key (Reply.Commit (Commit.Stale k v)) = Some k
reply_key (Reply.Commit (Commit.Duplicate k)) = Some k
reply_key _ = None

abbrev pub key_in : Act → Reply → Option Key
key_in a r = option_or (act_key a) (reply_key r)

abbrev pub act_row : Act → Option Row
act_row (Act.Persist k r) = Some r
act_row (Act.Write c) = row_left c
act_row (Act.Put k r t f) = Some r
act_row (Act.AfterInsert k r f) = Some r
act_row (Act.AfterUpdate k i r) = Some r
act_row _ = None

abbrev pub reply_row : Reply → Option Row
reply_row (Reply.Row r) = r
reply_row (Reply.Hit r) = Some r
reply_row _ = None

abbrev pub row_in : Act → Reply → Option Row
row_in a r = option_or (act_row a) (reply_row r)

abbrev pub row_version : Option Row → Option ℕ
row_version None = None
row_version (Some r) = r.version

-- of the row, or of the copy for which a lock is taken
abbrev pub version_in : Act → Reply → Option ℕ
version_in (Act.Lock k v f) r = v
version_in a r = row_version (row_in a r)

abbrev pub change_expected : Change → Option ℕ
change_expected (Change.Insert k r) = None
change_expected (Change.Update k v r) = v
change_expected (Change.Delete k v) = v

-- the version that the commit will expect
abbrev pub expected_in : Act → Option ℕ
expected_in (Act.Write c) = change_expected c
expected_in _ = None

-- the version that stood in the way
abbrev pub found_in : Reply → Option ℕ
found_in (Reply.Commit (Commit.Stale k v)) = v
found_in (Reply.Put (Put.Present v)) = v
found_in (Reply.Put (Put.Old v)) = Some v
found_in _ = None

abbrev pub query_in : Act → Option ℕ
query_in (Act.List q) = Some q
query_in (Act.Check q t) = Some q
query_in (Act.Look q) = Some q
query_in (Act.Keep q t l) = Some q
query_in _ = None

-- the query whose result has left
abbrev pub dropped_in : Reply → Option ℕ
dropped_in (Reply.Kept q) = q
dropped_in _ = None

-- the table for which a result is stale
abbrev pub table_in : Reply → Option ℕ
table_in (Reply.Check (Checked.Stale n t)) = Some n
table_in _ = None

abbrev pub tables_in : Act → Option (List ℕ)
tables_in (Act.Pre ts) = Some ts
tables_in (Act.Stamp ts) = Some ts
tables_in _ = None

abbrev pub act_list : Act → Option (List Cell)
act_list (Act.Keep q t l) = Some l
act_list _ = None

abbrev pub reply_list : Reply → Option (List Cell)
reply_list (Reply.Listed l) = Some l
reply_list (Reply.Found t l) = Some l
reply_list _ = None

abbrev pub list_in : Act → Reply → Option (List Cell)
list_in a r = option_or (act_list a) (reply_list r)

-- ---- ticks

abbrev pub act_time : Act → Option ℕ
act_time (Act.Check q t) = Some t
act_time (Act.Keep q t l) = Some t
act_time (Act.Get k t) = Some t
act_time (Act.Put k r t f) = Some t
act_time _ = None

abbrev pub reply_time : Reply → Option ℕ
reply_time (Reply.Found t l) = Some t
reply_time _ = None

-- the begin of the session, or of the one that kept a result
abbrev pub time_in : Act → Reply → Option ℕ
time_in a r = option_or (act_time a) (reply_time r)

abbrev pub act_floor : Act → Option ℕ
act_floor (Act.Put k r t f) = Some f
act_floor (Act.Lock k v f) = Some f
act_floor (Act.AfterInsert k r f) = Some f
act_floor _ = None

abbrev pub reply_floor : Reply → Option ℕ
reply_floor (Reply.Began f) = Some f
reply_floor _ = None

abbrev pub floor_in : Act → Reply → Option ℕ
floor_in a r = option_or (act_floor a) (reply_floor r)

abbrev pub act_lock : Act → Option ℕ
act_lock (Act.Unlock k i) = Some i
act_lock (Act.AfterUpdate k i r) = Some i
act_lock _ = None

abbrev pub reply_lock : Reply → Option ℕ
reply_lock (Reply.Locked l) = Some l.id
reply_lock _ = None

-- the lock's identifier, which is a tick
abbrev pub lock_in : Act → Reply → Option ℕ
lock_in a r = option_or (act_lock a) (reply_lock r)

abbrev pub until_in : Reply → Option ℕ
until_in (Reply.Locked l) = Some l.until
until_in _ = None

-- the release of the lock that is there
abbrev pub released_in : Reply → Option ℕ
released_in (Reply.Miss (Miss.Released t)) = Some t
released_in (Reply.Put (Put.Early t)) = Some t
released_in _ = None

-- when the item was stored
abbrev pub stored_in : Reply → Option ℕ
stored_in (Reply.Miss (Miss.Young t)) = Some t
stored_in _ = None

-- of a table
abbrev pub stamp_in : Reply → Option ℕ
stamp_in (Reply.Stamped t) = Some t
stamp_in (Reply.Check (Checked.Stale n t)) = Some t
stamp_in _ = None

-- ---- counts and marks

abbrev pub holders_in : Reply → Option ℕ
holders_in (Reply.Miss (Miss.Locked n)) = Some n
holders_in (Reply.Put (Put.Held n)) = Some n
holders_in (Reply.Unlocked (Unlocked.Released n)) = Some n
holders_in (Reply.Updated (Updated.Shared n)) = Some n
holders_in _ = None

-- the identifier that has left a full region
abbrev pub evicted_in : Reply → Option ℕ
evicted_in (Reply.Put (Put.Stored i late)) = i
evicted_in (Reply.Locked l) = l.evicted
evicted_in (Reply.Inserted (Inserted.Stored i)) = i
evicted_in _ = None

-- whether a row was stored over a lock whose time was over
abbrev pub late_in : Reply → Option Bool
late_in (Reply.Put (Put.Stored i late)) = Some late
late_in _ = None
