-- What is counted of a journal: tests of one entry.
use Rattle.std.specs.Prelude.{ℕ, ◌==◌, ◌&&◌, Bool, true, false, not, is_some, Some, None, Option}
use Rattle.hib_journal.specs.Types.{Key, Commit, Act, Checked, Put, Unlocked, Inserted, Updated, Reply, Entry}
use Rattle.hib_journal.specs.Slot.{key_in}
use Rattle.hib_journal.specs.Next.{is_committed_reply}

-- regions: the acts on keys of entity n

abbrev pub is_of : ℕ → Option Key → Bool
is_of n None = false
is_of n (Some k) = k.entity == n

abbrev pub is_in : ℕ → Act → Bool
is_in n a = is_of n (key_in a)

abbrev pub is_get : Act → Bool
is_get (Act.Get k t) = true
is_get _ = false

abbrev pub is_hit_reply : Reply → Bool
is_hit_reply (Reply.Hit r) = true
is_hit_reply _ = false

abbrev pub is_miss_reply : Reply → Bool
is_miss_reply (Reply.Miss m) = true
is_miss_reply _ = false

abbrev pub is_hit : ℕ → Entry → Bool
is_hit n e = is_in n e.act && (is_get e.act && is_hit_reply e.reply)

abbrev pub is_miss : ℕ → Entry → Bool
is_miss n e = is_in n e.act && (is_get e.act && is_miss_reply e.reply)

abbrev pub is_put_stored : Reply → Bool
is_put_stored (Reply.Put (Put.Stored i late)) = true
is_put_stored _ = false

abbrev pub is_insert_stored : Reply → Bool
is_insert_stored (Reply.Inserted (Inserted.Stored i)) = true
is_insert_stored _ = false

abbrev pub is_update_stored : Reply → Bool
is_update_stored (Reply.Updated Updated.Stored) = true
is_update_stored _ = false

-- a Put, AfterInsert or AfterUpdate that answered Stored
abbrev pub stores : Act → Reply → Bool
stores (Act.Put k r t f) reply = is_put_stored reply
stores (Act.AfterInsert k r f) reply = is_insert_stored reply
stores (Act.AfterUpdate k i r) reply = is_update_stored reply
stores _ reply = false

abbrev pub is_store : ℕ → Entry → Bool
is_store n e = is_in n e.act && stores e.act e.reply

-- a Put or AfterInsert that answered anything else
abbrev pub refuses : Act → Reply → Bool
refuses (Act.Put k r t f) reply = not (is_put_stored reply)
refuses (Act.AfterInsert k r f) reply = not (is_insert_stored reply)
refuses _ reply = false

abbrev pub is_refusal : ℕ → Entry → Bool
is_refusal n e = is_in n e.act && refuses e.act e.reply

abbrev pub locks : Act → Bool
locks (Act.Lock k v f) = true
locks _ = false

abbrev pub is_lock : ℕ → Entry → Bool
is_lock n e = is_in n e.act && locks e.act

abbrev pub is_put_evicting : Reply → Bool
is_put_evicting (Reply.Put (Put.Stored (Some i) late)) = true
is_put_evicting _ = false

abbrev pub is_lock_evicting : Reply → Bool
is_lock_evicting (Reply.Locked l) = is_some l.evicted
is_lock_evicting _ = false

abbrev pub is_insert_evicting : Reply → Bool
is_insert_evicting (Reply.Inserted (Inserted.Stored (Some i))) = true
is_insert_evicting _ = false

-- a Put, Lock or AfterInsert that names an evicted identifier
abbrev pub evicts : Act → Reply → Bool
evicts (Act.Put k r t f) reply = is_put_evicting reply
evicts (Act.Lock k v f) reply = is_lock_evicting reply
evicts (Act.AfterInsert k r f) reply = is_insert_evicting reply
evicts _ reply = false

abbrev pub is_eviction : ℕ → Entry → Bool
is_eviction n e = is_in n e.act && evicts e.act e.reply

-- Expired, or Stored with the late mark
abbrev pub is_expired_reply : Reply → Bool
is_expired_reply (Reply.Put (Put.Stored i late)) = late
is_expired_reply (Reply.Unlocked Unlocked.Expired) = true
is_expired_reply (Reply.Updated Updated.Expired) = true
is_expired_reply _ = false

abbrev pub is_expired : ℕ → Entry → Bool
is_expired n e = is_in n e.act && is_expired_reply e.reply

-- the store

abbrev pub loads : Act → Bool
loads (Act.Load k) = true
loads _ = false

abbrev pub is_load : Entry → Bool
is_load e = loads e.act

abbrev pub lists : Act → Bool
lists (Act.List q) = true
lists _ = false

abbrev pub is_list : Entry → Bool
is_list e = lists e.act

abbrev pub writes : Act → Bool
writes (Act.Write c) = true
writes _ = false

abbrev pub is_write : Entry → Bool
is_write e = writes e.act

abbrev pub commits : Act → Bool
commits Act.Commit = true
commits _ = false

abbrev pub is_committed : Entry → Bool
is_committed e = commits e.act && is_committed_reply e.reply

abbrev pub is_fault_reply : Reply → Bool
is_fault_reply Reply.Fault = true
is_fault_reply (Reply.Commit Commit.Fault) = true
is_fault_reply _ = false

abbrev pub is_fault : Entry → Bool
is_fault e = is_fault_reply e.reply

-- queries

abbrev pub is_fresh_reply : Reply → Bool
is_fresh_reply (Reply.Check Checked.Fresh) = true
is_fresh_reply _ = false

abbrev pub is_stale_reply : Reply → Bool
is_stale_reply (Reply.Check (Checked.Stale n t)) = true
is_stale_reply _ = false

abbrev pub is_absent_reply : Reply → Bool
is_absent_reply Reply.Absent = true
is_absent_reply _ = false

abbrev pub checks : Act → Bool
checks (Act.Check q t) = true
checks _ = false

-- a Check with Fresh
abbrev pub is_query_hit : Entry → Bool
is_query_hit e = checks e.act && is_fresh_reply e.reply

-- a Look with Absent, or a Check with Stale
abbrev pub lacks : Act → Reply → Bool
lacks (Act.Look q) reply = is_absent_reply reply
lacks (Act.Check q t) reply = is_stale_reply reply
lacks _ reply = false

abbrev pub is_query_miss : Entry → Bool
is_query_miss e = lacks e.act e.reply

abbrev pub keeps : Act → Bool
keeps (Act.Keep q t l) = true
keeps _ = false

abbrev pub is_keep : Entry → Bool
is_keep e = keeps e.act

abbrev pub is_drop_reply : Reply → Bool
is_drop_reply (Reply.Kept (Some q)) = true
is_drop_reply _ = false

-- a Keep that names a dropped query
abbrev pub is_drop : Entry → Bool
is_drop e = keeps e.act && is_drop_reply e.reply
