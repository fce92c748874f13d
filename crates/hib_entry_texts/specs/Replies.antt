-- The reply that bytes look like, to a given act. Every function here is total; the first argument is the first word.
use Rattle.std.specs.Prelude.{ℕ, ◌^◌, Bool, if◌then◌else◌, List, codes, bytes_eq, drop, Option, Some, None}
use Rattle.hib_journal.specs.Types.{Act, Reply, Commit, Checked, Miss, Put, Locked, Unlocked, Inserted, Updated, Evicted, Outcome, Script}
use Rattle.hib_entry_fields.specs.Fields.{piece, behind, next, after, number_of, version_of, entity_of, query_of, key_at, after_key, cells_at, row_at, small}

-- ---- registry and own

abbrev pub outcome_of : List ℕ → Outcome
outcome_of word =
    if bytes_eq word (codes "committed") then Outcome.Committed
    else (if bytes_eq word (codes "rolled-back") then Outcome.RolledBack
    else (if bytes_eq word (codes "stale") then Outcome.Stale
    else (if bytes_eq word (codes "duplicate") then Outcome.Duplicate else Outcome.Fault)))

-- a row, none, or a fault
abbrev pub read_of : List ℕ → List ℕ → Reply
read_of word bs =
    if bytes_eq word (codes "row") then Reply.Row (Some (row_at bs))
    else (if bytes_eq word (codes "none") then Reply.Row None else Reply.Fault)

abbrev pub persisted_of : List ℕ → Reply
persisted_of word = if bytes_eq word (codes "new") then Reply.New else Reply.Known

abbrev pub changed_of : List ℕ → Reply
changed_of word = if bytes_eq word (codes "set") then Reply.Set else (if bytes_eq word (codes "unknown") then Reply.Unknown else Reply.ReadOnly)

abbrev pub removed_of : List ℕ → Reply
removed_of word = if bytes_eq word (codes "removed") then Reply.Removed else Reply.Unknown

-- ---- store

abbrev pub listed_of : List ℕ → List ℕ → Reply
listed_of word bs = if bytes_eq word (codes "list") then Reply.Listed (cells_at (drop 1 bs)).0 else Reply.Fault

abbrev pub found_of : List ℕ → Option ℕ
found_of word = if bytes_eq word (codes "none") then None else version_of word

abbrev pub commit_of : Script → List ℕ → List ℕ → Commit
commit_of script word bs =
    if bytes_eq word (codes "committed") then Commit.Committed
    else (if bytes_eq word (codes "stale") then Commit.Stale (key_at script bs) (found_of (next (after (after_key bs))))
    else (if bytes_eq word (codes "duplicate") then Commit.Duplicate (key_at script bs) else Commit.Fault))

-- ---- stamps and results

abbrev pub checked_of : Script → List ℕ → List ℕ → Checked
checked_of script word bs = if bytes_eq word (codes "fresh") then Checked.Fresh else Checked.Stale (entity_of script (next bs)) (number_of (next (after bs)))

abbrev pub looked_of : List ℕ → List ℕ → Reply
looked_of word bs =
    if bytes_eq word (codes "found") then Reply.Found (number_of (next (after bs))) (cells_at (drop 1 (after (after bs)))).0 else Reply.Absent

abbrev pub dropped_of : Script → List ℕ → Option ℕ
dropped_of script bs = if bytes_eq (next bs) (codes "dropped") then Some (query_of script (next (after bs))) else None

-- ---- region

abbrev pub miss_of : List ℕ → Miss
miss_of bs =
    if bytes_eq (next bs) (codes "locked") then Miss.Locked (number_of (next (after bs)))
    else (if bytes_eq (next bs) (codes "released") then Miss.Released (number_of (next (after bs)))
    else (if bytes_eq (next bs) (codes "young") then Miss.Young (number_of (next (after bs))) else Miss.Absent))

abbrev pub got_of : List ℕ → List ℕ → Reply
got_of word bs = if bytes_eq word (codes "hit") then Reply.Hit (row_at bs) else Reply.Miss (miss_of bs)

-- after the word evicted, if it is there
abbrev pub evicted_id_of : List ℕ → Option ℕ
evicted_id_of bs = if bytes_eq (next bs) (codes "evicted") then Some (number_of (next (after bs))) else None

abbrev pub late_of : List ℕ → Bool
late_of bs = if bytes_eq (next bs) (codes "evicted") then bytes_eq (next (after (after bs))) (codes "late") else bytes_eq (next bs) (codes "late")

abbrev pub put_reply_of : List ℕ → List ℕ → Put
put_reply_of word bs =
    if bytes_eq word (codes "stored") then Put.Stored (evicted_id_of bs) (late_of bs)
    else (if bytes_eq word (codes "present") then Put.Present (version_of (next bs))
    else (if bytes_eq word (codes "held") then Put.Held (number_of (next bs))
    else (if bytes_eq word (codes "early") then Put.Early (number_of (next bs))
    else (if bytes_eq word (codes "old") then Put.Old (small (2 ^ 32) (number_of (drop 1 (next bs)))) else Put.Crowded))))

abbrev pub locked_of : List ℕ → Locked
locked_of bs = record { id = number_of (next bs); until = number_of (next (after (after bs))); evicted = evicted_id_of (after (after (after bs))) }

abbrev pub unlocked_of : List ℕ → List ℕ → Unlocked
unlocked_of word bs = if bytes_eq word (codes "released") then Unlocked.Released (number_of (next bs)) else Unlocked.Expired

abbrev pub inserted_of : List ℕ → List ℕ → Inserted
inserted_of word bs =
    if bytes_eq word (codes "stored") then Inserted.Stored (evicted_id_of bs)
    else (if bytes_eq word (codes "present") then Inserted.Present else Inserted.Crowded)

abbrev pub updated_of : List ℕ → List ℕ → Updated
updated_of word bs =
    if bytes_eq word (codes "stored") then Updated.Stored
    else (if bytes_eq word (codes "shared") then Updated.Shared (number_of (next bs)) else Updated.Expired)

abbrev pub dropped_reply_of : List ℕ → Reply
dropped_reply_of word = if bytes_eq word (codes "dropped") then Reply.Dropped else Reply.Absent

abbrev pub evicted_of : List ℕ → Evicted
evicted_of word = if bytes_eq word (codes "evicted") then Evicted.Gone else (if bytes_eq word (codes "held") then Evicted.Held else Evicted.Absent)

-- ---- any act

-- by the act that it answers, its first word and what follows
abbrev pub reply_by : Script → Act → List ℕ → List ℕ → Reply
reply_by script Act.Begin word bs = Reply.Began (number_of (next bs))
reply_by script Act.End word bs = Reply.Ended (outcome_of word)
reply_by script (Act.Kill s) word bs = Reply.Done
reply_by script Act.Restart word bs = Reply.Done
reply_by script (Act.Find k) word bs = read_of word bs
reply_by script (Act.Persist k r) word bs = persisted_of word
reply_by script (Act.Set k xs) word bs = changed_of word
reply_by script (Act.Remove k) word bs = removed_of word
reply_by script Act.Clear word bs = Reply.Cleared
reply_by script (Act.Load k) word bs = read_of word bs
reply_by script (Act.List q) word bs = listed_of word bs
reply_by script (Act.Write c) word bs = Reply.Written
reply_by script Act.Commit word bs = Reply.Commit (commit_of script word bs)
reply_by script Act.Rollback word bs = Reply.Done
reply_by script (Act.Pre ts) word bs = Reply.Stamped (number_of word)
reply_by script (Act.Stamp ts) word bs = Reply.Stamped (number_of word)
reply_by script (Act.Check q t) word bs = Reply.Check (checked_of script word bs)
reply_by script (Act.Look q) word bs = looked_of word bs
reply_by script (Act.Keep q t l) word bs = Reply.Kept (dropped_of script bs)
reply_by script (Act.Get k t) word bs = got_of word bs
reply_by script (Act.Put k r t f) word bs = Reply.Put (put_reply_of word bs)
reply_by script (Act.Lock k v f) word bs = Reply.Locked (locked_of bs)
reply_by script (Act.Unlock k i) word bs = Reply.Unlocked (unlocked_of word bs)
reply_by script (Act.AfterInsert k r f) word bs = Reply.Inserted (inserted_of word bs)
reply_by script (Act.AfterUpdate k i r) word bs = Reply.Updated (updated_of word bs)
reply_by script (Act.RegionRemove k) word bs = dropped_reply_of word
reply_by script (Act.Evict k) word bs = Reply.Evicted (evicted_of word)

unfoldable pub reply_of : Script → Act → List ℕ → Reply
reply_of script act bs = reply_by script act (piece bs) (behind bs)
