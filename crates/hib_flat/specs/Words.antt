-- The words of acts and replies.
use Rattle.std.specs.Prelude.{ℕ, List, codes, Option, Some, None}
use Rattle.hib_journal.specs.Types.{Row, Change, Act, Commit, Checked, Miss, Put, Unlocked, Inserted, Updated, Evicted, Reply}
use Rattle.hib_report.specs.Lines.{outcome_text}

abbrev pub change_word : Change → List ℕ
change_word (Change.Insert k r) = codes "insert"
change_word (Change.Update k v r) = codes "update"
change_word (Change.Delete k v) = codes "delete"

-- the first word of its text
abbrev pub act_word : Act → List ℕ
act_word Act.Begin = codes "begin"
act_word Act.End = codes "end"
act_word (Act.Kill s) = codes "kill"
act_word Act.Restart = codes "restart"
act_word (Act.Find k) = codes "find"
act_word (Act.Persist k r) = codes "persist"
act_word (Act.Set k xs) = codes "set"
act_word (Act.Remove k) = codes "remove"
act_word Act.Clear = codes "clear"
act_word (Act.Load k) = codes "load"
act_word (Act.List q) = codes "list"
act_word (Act.Write c) = change_word c
act_word Act.Commit = codes "commit"
act_word Act.Rollback = codes "rollback"
act_word (Act.Pre ts) = codes "pre"
act_word (Act.Stamp ts) = codes "stamp"
act_word (Act.Check q t) = codes "check"
act_word (Act.Look q) = codes "look"
act_word (Act.Keep q t l) = codes "keep"
act_word (Act.Get k t) = codes "get"
act_word (Act.Put k r t f) = codes "put"
act_word (Act.Lock k v f) = codes "lock"
act_word (Act.Unlock k i) = codes "unlock"
act_word (Act.AfterInsert k r f) = codes "after-insert"
act_word (Act.AfterUpdate k i r) = codes "after-update"
act_word (Act.RegionRemove k) = codes "remove"
act_word (Act.Evict k) = codes "evict"

abbrev pub read_word : Option Row → List ℕ
read_word None = codes "none"
read_word (Some r) = codes "row"

abbrev pub commit_word : Commit → List ℕ
commit_word Commit.Committed = codes "committed"
commit_word (Commit.Stale k v) = codes "stale"
commit_word (Commit.Duplicate k) = codes "duplicate"
commit_word Commit.Fault = codes "fault"

abbrev pub check_word : Checked → List ℕ
check_word Checked.Fresh = codes "fresh"
check_word (Checked.Stale n t) = codes "stale"

abbrev pub put_word : Put → List ℕ
put_word (Put.Stored i late) = codes "stored"
put_word (Put.Present v) = codes "present"
put_word (Put.Held n) = codes "held"
put_word (Put.Early t) = codes "early"
put_word (Put.Old v) = codes "old"
put_word Put.Crowded = codes "crowded"

abbrev pub unlock_word : Unlocked → List ℕ
unlock_word (Unlocked.Released n) = codes "released"
unlock_word Unlocked.Expired = codes "expired"

abbrev pub insert_word : Inserted → List ℕ
insert_word (Inserted.Stored i) = codes "stored"
insert_word Inserted.Present = codes "present"
insert_word Inserted.Crowded = codes "crowded"

abbrev pub update_word : Updated → List ℕ
update_word Updated.Stored = codes "stored"
update_word (Updated.Shared n) = codes "shared"
update_word Updated.Expired = codes "expired"

abbrev pub evict_word : Evicted → List ℕ
evict_word Evicted.Gone = codes "evicted"
evict_word Evicted.Held = codes "held"
evict_word Evicted.Absent = codes "absent"

-- the first word of its text, but for a floor and a stamp
abbrev pub reply_word : Reply → List ℕ
reply_word (Reply.Began f) = codes "begun"
reply_word (Reply.Ended o) = outcome_text o
reply_word Reply.Done = codes "done"
reply_word (Reply.Row r) = read_word r
reply_word Reply.New = codes "new"
reply_word Reply.Known = codes "known"
reply_word Reply.Set = codes "set"
reply_word Reply.Unknown = codes "unknown"
reply_word Reply.ReadOnly = codes "read-only"
reply_word Reply.Removed = codes "removed"
reply_word Reply.Cleared = codes "cleared"
reply_word (Reply.Listed l) = codes "list"
reply_word Reply.Fault = codes "fault"
reply_word Reply.Written = codes "written"
reply_word (Reply.Commit c) = commit_word c
reply_word (Reply.Stamped t) = codes "stamped"
reply_word (Reply.Check c) = check_word c
reply_word (Reply.Found t l) = codes "found"
reply_word Reply.Absent = codes "absent"
reply_word (Reply.Kept q) = codes "kept"
reply_word (Reply.Hit r) = codes "hit"
reply_word (Reply.Miss m) = codes "miss"
reply_word (Reply.Put p) = put_word p
reply_word (Reply.Locked l) = codes "lock"
reply_word (Reply.Unlocked u) = unlock_word u
reply_word (Reply.Inserted i) = insert_word i
reply_word (Reply.Updated u) = update_word u
reply_word Reply.Dropped = codes "dropped"
reply_word (Reply.Evicted e) = evict_word e

abbrev pub miss_word : Miss → List ℕ
miss_word Miss.Absent = codes "absent"
miss_word (Miss.Locked n) = codes "locked"
miss_word (Miss.Released t) = codes "released"
miss_word (Miss.Young t) = codes "young"

-- why a region gave no row
abbrev pub cause_word : Reply → Option (List ℕ)
cause_word (Reply.Miss m) = Some (miss_word m)
cause_word _ = None
