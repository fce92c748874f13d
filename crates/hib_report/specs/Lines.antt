-- The texts of acts, replies and entries, as bytes.
use Rattle.std.specs.Prelude.{ℕ, Bool, true, false, List, [], ◌++◌, codes, flat_map, Some, None, Option}
use Rattle.std.specs.Fmt.{decimal}
use Rattle.hib_journal.specs.Types.{Key, Cell, Row, Change, Part, Act, Outcome, Commit, Checked, Miss, Put, Locked, Unlocked, Inserted, Updated, Evicted, Reply, Entry, Script}
use Rattle.hib_texts.specs.Texts.{version_text, row_text, list_text, entity_text, query_text, session_text, key_text, names_text, sets_text}

-- acts

abbrev pub change_text : Script → Change → List ℕ
change_text script (Change.Insert k r) = codes "insert " ++ key_text script k ++ codes " " ++ row_text r
change_text script (Change.Update k v r) = codes "update " ++ key_text script k ++ codes " " ++ version_text v ++ codes " " ++ row_text r
change_text script (Change.Delete k v) = codes "delete " ++ key_text script k ++ codes " " ++ version_text v

abbrev pub put_text : Script → Key → Row → ℕ → ℕ → List ℕ
put_text script k r t f = codes "put " ++ key_text script k ++ codes " " ++ row_text r ++ codes " at " ++ decimal t ++ codes " floor " ++ decimal f

abbrev pub lock_text : Script → Key → Option ℕ → ℕ → List ℕ
lock_text script k v f = codes "lock " ++ key_text script k ++ codes " " ++ version_text v ++ codes " floor " ++ decimal f

abbrev pub after_insert_text : Script → Key → Row → ℕ → List ℕ
after_insert_text script k r f = codes "after-insert " ++ key_text script k ++ codes " " ++ row_text r ++ codes " floor " ++ decimal f

abbrev pub after_update_text : Script → Key → ℕ → Row → List ℕ
after_update_text script k i r = codes "after-update " ++ key_text script k ++ codes " lock " ++ decimal i ++ codes " " ++ row_text r

abbrev pub keep_text : Script → ℕ → ℕ → List Cell → List ℕ
keep_text script q t l = codes "keep " ++ query_text script q ++ codes " at " ++ decimal t ++ codes " " ++ list_text l

abbrev pub act_text : Script → Act → List ℕ
act_text script Act.Begin = codes "begin"
act_text script Act.End = codes "end"
act_text script (Act.Kill s) = codes "kill " ++ session_text script s
act_text script Act.Restart = codes "restart"
act_text script (Act.Find k) = codes "find " ++ key_text script k
act_text script (Act.Persist k r) = codes "persist " ++ key_text script k ++ codes " " ++ row_text r
act_text script (Act.Set k sets) = codes "set " ++ key_text script k ++ sets_text script k.entity sets
act_text script (Act.Remove k) = codes "remove " ++ key_text script k
act_text script Act.Clear = codes "clear"
act_text script (Act.Load k) = codes "load " ++ key_text script k
act_text script (Act.List q) = codes "list " ++ query_text script q
act_text script (Act.Write c) = change_text script c
act_text script Act.Commit = codes "commit"
act_text script Act.Rollback = codes "rollback"
act_text script (Act.Pre ts) = codes "pre" ++ names_text script ts
act_text script (Act.Stamp ts) = codes "stamp" ++ names_text script ts
act_text script (Act.Check q t) = codes "check " ++ query_text script q ++ codes " at " ++ decimal t
act_text script (Act.Look q) = codes "look " ++ query_text script q
act_text script (Act.Keep q t l) = keep_text script q t l
act_text script (Act.Get k t) = codes "get " ++ key_text script k ++ codes " at " ++ decimal t
act_text script (Act.Put k r t f) = put_text script k r t f
act_text script (Act.Lock k v f) = lock_text script k v f
act_text script (Act.Unlock k i) = codes "unlock " ++ key_text script k ++ codes " lock " ++ decimal i
act_text script (Act.AfterInsert k r f) = after_insert_text script k r f
act_text script (Act.AfterUpdate k i r) = after_update_text script k i r
act_text script (Act.RegionRemove k) = codes "remove " ++ key_text script k
act_text script (Act.Evict k) = codes "evict " ++ key_text script k

abbrev pub part_text : Part → List ℕ
part_text Part.Registry = codes "registry"
part_text Part.Store = codes "store"
part_text Part.Stamps = codes "stamps"
part_text Part.Results = codes "results"
part_text (Part.Region n) = codes "region"
part_text (Part.Own s) = codes "own"

-- replies

abbrev pub outcome_text : Outcome → List ℕ
outcome_text Outcome.Committed = codes "committed"
outcome_text Outcome.RolledBack = codes "rolled-back"
outcome_text Outcome.Stale = codes "stale"
outcome_text Outcome.Duplicate = codes "duplicate"
outcome_text Outcome.Fault = codes "fault"

-- the version of the row that a commit found, or none if there is no row
abbrev pub found_text : Option ℕ → List ℕ
found_text None = codes "none"
found_text (Some v) = codes "v" ++ decimal v

abbrev pub commit_text : Script → Commit → List ℕ
commit_text script Commit.Committed = codes "committed"
commit_text script (Commit.Stale k v) = codes "stale " ++ key_text script k ++ codes " found " ++ found_text v
commit_text script (Commit.Duplicate k) = codes "duplicate " ++ key_text script k
commit_text script Commit.Fault = codes "fault"

abbrev pub checked_text : Script → Checked → List ℕ
checked_text script Checked.Fresh = codes "fresh"
checked_text script (Checked.Stale n t) = codes "stale " ++ entity_text script n ++ codes " " ++ decimal t

abbrev pub reason_text : Miss → List ℕ
reason_text Miss.Absent = codes "absent"
reason_text (Miss.Locked n) = codes "locked " ++ decimal n
reason_text (Miss.Released t) = codes "released " ++ decimal t
reason_text (Miss.Young t) = codes "young " ++ decimal t

abbrev pub evicted_id_text : Option ℕ → List ℕ
evicted_id_text None = []
evicted_id_text (Some i) = codes " evicted " ++ decimal i

abbrev pub late_text : Bool → List ℕ
late_text true = codes " late"
late_text false = []

abbrev pub put_reply_text : Put → List ℕ
put_reply_text (Put.Stored i late) = codes "stored" ++ evicted_id_text i ++ late_text late
put_reply_text (Put.Present v) = codes "present " ++ version_text v
put_reply_text (Put.Held n) = codes "held " ++ decimal n
put_reply_text (Put.Early t) = codes "early " ++ decimal t
put_reply_text (Put.Old v) = codes "old v" ++ decimal v
put_reply_text Put.Crowded = codes "crowded"

abbrev pub locked_text : Locked → List ℕ
locked_text l = codes "lock " ++ decimal l.id ++ codes " until " ++ decimal l.until ++ evicted_id_text l.evicted

abbrev pub unlocked_text : Unlocked → List ℕ
unlocked_text (Unlocked.Released n) = codes "released " ++ decimal n
unlocked_text Unlocked.Expired = codes "expired"

abbrev pub inserted_text : Inserted → List ℕ
inserted_text (Inserted.Stored i) = codes "stored" ++ evicted_id_text i
inserted_text Inserted.Present = codes "present"
inserted_text Inserted.Crowded = codes "crowded"

abbrev pub updated_text : Updated → List ℕ
updated_text Updated.Stored = codes "stored"
updated_text (Updated.Shared n) = codes "shared " ++ decimal n
updated_text Updated.Expired = codes "expired"

abbrev pub evicted_text : Evicted → List ℕ
evicted_text Evicted.Gone = codes "evicted"
evicted_text Evicted.Held = codes "held"
evicted_text Evicted.Absent = codes "absent"

abbrev pub read_text : Option Row → List ℕ
read_text None = codes "none"
read_text (Some r) = codes "row " ++ row_text r

abbrev pub dropped_text : Script → Option ℕ → List ℕ
dropped_text script None = []
dropped_text script (Some q) = codes " dropped " ++ query_text script q

abbrev pub reply_text : Script → Reply → List ℕ
reply_text script (Reply.Began f) = codes "floor " ++ decimal f
reply_text script (Reply.Ended o) = outcome_text o
reply_text script Reply.Done = codes "done"
reply_text script (Reply.Row r) = read_text r
reply_text script Reply.New = codes "new"
reply_text script Reply.Known = codes "known"
reply_text script Reply.Set = codes "set"
reply_text script Reply.Unknown = codes "unknown"
reply_text script Reply.ReadOnly = codes "read-only"
reply_text script Reply.Removed = codes "removed"
reply_text script Reply.Cleared = codes "cleared"
reply_text script (Reply.Listed l) = codes "list " ++ list_text l
reply_text script Reply.Fault = codes "fault"
reply_text script Reply.Written = codes "written"
reply_text script (Reply.Commit c) = commit_text script c
reply_text script (Reply.Stamped t) = decimal t
reply_text script (Reply.Check c) = checked_text script c
reply_text script (Reply.Found t l) = codes "found at " ++ decimal t ++ codes " " ++ list_text l
reply_text script Reply.Absent = codes "absent"
reply_text script (Reply.Kept q) = codes "kept" ++ dropped_text script q
reply_text script (Reply.Hit r) = codes "hit " ++ row_text r
reply_text script (Reply.Miss m) = codes "miss " ++ reason_text m
reply_text script (Reply.Put p) = put_reply_text p
reply_text script (Reply.Locked l) = locked_text l
reply_text script (Reply.Unlocked u) = unlocked_text u
reply_text script (Reply.Inserted i) = inserted_text i
reply_text script (Reply.Updated u) = updated_text u
reply_text script Reply.Dropped = codes "dropped"
reply_text script (Reply.Evicted e) = evicted_text e

-- entries

abbrev pub actor_text : Script → Option ℕ → List ℕ
actor_text script None = codes "-"
actor_text script (Some s) = session_text script s

-- the line of an entry, without its end
unfoldable pub line_text : Script → Entry → List ℕ
line_text script e =
    decimal e.tick ++ codes " " ++ actor_text script e.session ++ codes " " ++ part_text e.part ++ codes " "
    ++ act_text script e.act ++ codes " = " ++ reply_text script e.reply

abbrev pub lines_text : Script → List Entry → List ℕ
lines_text script es = flat_map (λ e. line_text script e ++ codes "\n") es
