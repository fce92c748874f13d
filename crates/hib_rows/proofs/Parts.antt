-- Worked rows of one part alone: its entries, the oldest first, each of which has the reply that is due over those before it.
-- No session is named, and the ticks leave out those of the other parts.
use Rattle.std.specs.Option.{option_map_or}
use Rattle.std.proofs.Common.{◌≡◌, ℕ, true, false, List, [], ◌∷◌, map, reverse, Some, None, Option, refl}
use Rattle.hib_journal.specs.Types.{Row, Strategy, Script, Part, Act, Checked, Miss, Put, Unlocked, Inserted, Updated, Evicted, Reply, Entry}
use Rattle.hib_journal.specs.Sessions.{Journal}
use Rattle.hib_journal.specs.Room.{key}
use Rattle.hib_journal.specs.Stamps.{check}
use Rattle.hib_journal.specs.Results.{result, dropped}
use Rattle.hib_journal.specs.Legal.{reply_of}
use Rattle.hib_rows.proofs.Run.{row, entry, all_open}

-- one cached entity
abbrev pub of_one : Strategy → ℕ → ℕ → Script
of_one strategy capacity timeout = record {
  timeout = timeout;
  results = 100;
  mapping = record { name = []; strategy = strategy; versioned = true; capacity = capacity; columns = [] } ∷ [];
  rows = [];
  queries = [];
  schedule = [];
  sessions = [];
}

abbrev pub at : ℕ → Act → Reply → Entry
at tick act reply = entry tick None (Part.Region 0) act reply

-- a row of a version, and one without
abbrev pub v : ℕ → Row
v n = row (Some n) []

abbrev pub plain : Row
plain = row None []

abbrev pub stored : Reply
stored = Reply.Put (Put.Stored None false)

abbrev pub locked : ℕ → ℕ → Reply
locked id until = Reply.Locked (record { id = id; until = until; evicted = None })

-- what each entry has to be answered, the newest first, and what it was answered
abbrev pub due : Script → Journal → List Reply
due script [] = []
due script (e ∷ h) = reply_of script [] h 0 e.tick e.act ∷ due script h

abbrev pub given : List Entry → List Reply
given es = map (λ e. e.reply) (reverse es)

-- ---- a region that is read and written

-- Two sessions lock one item. The first commits and stores nothing, since the lock is shared; the second lets go.
abbrev pub two_lockers : List Entry
two_lockers =
    at 4 (Act.Put (key 0 1) (v 0) 1 1) stored ∷
    at 6 (Act.Get (key 0 1) 6) (Reply.Hit (v 0)) ∷
    at 10 (Act.Lock (key 0 1) (Some 0) 1) (locked 10 1010) ∷
    at 12 (Act.Lock (key 0 1) (Some 0) 1) (locked 10 1012) ∷
    at 15 (Act.AfterUpdate (key 0 1) 10 (v 1)) (Reply.Updated (Updated.Shared 1)) ∷
    at 20 (Act.Unlock (key 0 1) 10) (Reply.Unlocked (Unlocked.Released 0)) ∷
    []

two_lockers_due : due (of_one Strategy.ReadWrite 100 1000) (reverse two_lockers) ≡ given two_lockers
unfolding all_open
two_lockers_due = refl

-- A shared lock was let go: an older reader is early although its row is newer than the lock's.
abbrev pub released_and_shared : List Entry
released_and_shared =
    at 5 (Act.Lock (key 0 1) (Some 1) 1) (locked 5 1005) ∷
    at 8 (Act.Unlock (key 0 1) 5) (Reply.Unlocked (Unlocked.Released 0)) ∷
    at 15 (Act.Lock (key 0 1) (Some 1) 11) (locked 5 1015) ∷
    at 18 (Act.Unlock (key 0 1) 5) (Reply.Unlocked (Unlocked.Released 0)) ∷
    at 22 (Act.Get (key 0 1) 21) (Reply.Miss (Miss.Released 18)) ∷
    at 28 (Act.Lock (key 0 1) (Some 2) 21) (locked 5 1028) ∷
    at 31 (Act.Unlock (key 0 1) 5) (Reply.Unlocked (Unlocked.Released 0)) ∷
    at 34 (Act.Put (key 0 1) (v 2) 21 21) (Reply.Put (Put.Early 31)) ∷
    []

released_and_shared_due : due (of_one Strategy.ReadWrite 100 1000) (reverse released_and_shared) ≡ given released_and_shared
unfolding all_open
released_and_shared_due = refl

-- Rows without a version go by the time at which the lock was let go.
abbrev pub plain_rows : List Entry
plain_rows =
    at 4 (Act.Put (key 0 1) plain 1 1) stored ∷
    at 10 (Act.Lock (key 0 1) None 1) (locked 10 1010) ∷
    at 12 (Act.Lock (key 0 1) None 1) (locked 10 1012) ∷
    at 15 (Act.AfterUpdate (key 0 1) 10 plain) (Reply.Updated (Updated.Shared 1)) ∷
    at 20 (Act.AfterUpdate (key 0 1) 10 plain) (Reply.Updated (Updated.Shared 0)) ∷
    at 24 (Act.Get (key 0 1) 23) (Reply.Miss (Miss.Released 20)) ∷
    at 26 (Act.Put (key 0 1) plain 23 23) stored ∷
    []

plain_rows_due : due (of_one Strategy.ReadWrite 100 1000) (reverse plain_rows) ≡ given plain_rows
unfolding all_open
plain_rows_due = refl

-- A reader that is slower than a writer meets the writer's row, which is newer.
abbrev pub slow_reader : List Entry
slow_reader =
    at 2 (Act.Get (key 0 1) 1) (Reply.Miss Miss.Absent) ∷
    at 7 (Act.Put (key 0 1) (v 0) 4 1) stored ∷
    at 10 (Act.Lock (key 0 1) (Some 0) 1) (locked 10 1010) ∷
    at 13 (Act.AfterUpdate (key 0 1) 10 (v 1)) (Reply.Updated Updated.Stored) ∷
    at 16 (Act.Put (key 0 1) (v 0) 1 1) (Reply.Put (Put.Present (Some 1))) ∷
    []

slow_reader_due : due (of_one Strategy.ReadWrite 100 1000) (reverse slow_reader) ≡ given slow_reader
unfolding all_open
slow_reader_due = refl

-- A row is deleted under a lock that others meet. The lock that was let go stands for its version.
abbrev pub deleted : List Entry
deleted =
    at 4 (Act.Put (key 0 1) (v 0) 1 1) stored ∷
    at 7 (Act.Lock (key 0 1) (Some 0) 1) (locked 7 1007) ∷
    at 12 (Act.Get (key 0 1) 11) (Reply.Miss (Miss.Locked 1)) ∷
    at 14 (Act.Put (key 0 1) (v 0) 11 1) (Reply.Put (Put.Held 1)) ∷
    at 18 (Act.Unlock (key 0 1) 7) (Reply.Unlocked (Unlocked.Released 0)) ∷
    at 20 (Act.Put (key 0 1) (v 0) 19 19) (Reply.Put (Put.Old 0)) ∷
    []

deleted_due : due (of_one Strategy.ReadWrite 100 1000) (reverse deleted) ≡ given deleted
unfolding all_open
deleted_due = refl

-- A holder is killed. When its lock's time is over, a row is stored over it, late.
abbrev pub killed_holder : List Entry
killed_holder =
    at 5 (Act.Lock (key 0 1) (Some 0) 1) (locked 5 8) ∷
    at 8 (Act.Get (key 0 1) 7) (Reply.Miss (Miss.Locked 1)) ∷
    at 10 (Act.Put (key 0 1) (v 0) 7 7) (Reply.Put (Put.Held 1)) ∷
    at 16 (Act.Put (key 0 1) (v 0) 13 13) (Reply.Put (Put.Stored None true)) ∷
    []

killed_holder_due : due (of_one Strategy.ReadWrite 100 3) (reverse killed_holder) ≡ given killed_holder
unfolding all_open
killed_holder_due = refl

-- A row finds no place while an old session is open, a lock is placed in excess, and later the first key leaves.
abbrev pub full_region : List Entry
full_region =
    at 4 (Act.Put (key 0 1) (v 0) 1 1) stored ∷
    at 8 (Act.Put (key 0 2) (v 0) 5 1) (Reply.Put Put.Crowded) ∷
    at 11 (Act.Lock (key 0 2) (Some 0) 1) (locked 11 1011) ∷
    at 14 (Act.AfterUpdate (key 0 2) 11 (v 1)) (Reply.Updated Updated.Stored) ∷
    at 22 (Act.Put (key 0 3) (v 0) 19 19) (Reply.Put (Put.Stored (Some 1) false)) ∷
    at 24 (Act.Get (key 0 1) 24) (Reply.Miss Miss.Absent) ∷
    at 25 (Act.Get (key 0 2) 24) (Reply.Hit (v 1)) ∷
    []

full_region_due : due (of_one Strategy.ReadWrite 1 1000) (reverse full_region) ≡ given full_region
unfolding all_open
full_region_due = refl

-- An eviction bars what was loaded before it. Nothing, a held lock and a released one are evicted too.
abbrev pub evictions : List Entry
evictions =
    at 6 (Act.Put (key 0 1) (v 0) 1 1) stored ∷
    at 10 (Act.Evict (key 0 1)) (Reply.Evicted Evicted.Gone) ∷
    at 11 (Act.Get (key 0 1) 9) (Reply.Miss (Miss.Released 10)) ∷
    at 13 (Act.Put (key 0 1) (v 0) 9 9) (Reply.Put (Put.Early 10)) ∷
    at 19 (Act.Put (key 0 1) (v 0) 16 16) stored ∷
    at 20 (Act.Evict (key 0 2)) (Reply.Evicted Evicted.Absent) ∷
    at 21 (Act.Lock (key 0 2) None 20) (locked 21 1021) ∷
    at 22 (Act.Evict (key 0 2)) (Reply.Evicted Evicted.Held) ∷
    at 23 (Act.Unlock (key 0 2) 21) (Reply.Unlocked (Unlocked.Released 0)) ∷
    at 24 (Act.Evict (key 0 2)) (Reply.Evicted Evicted.Gone) ∷
    at 31 (Act.Get (key 0 2) 30) (Reply.Miss (Miss.Released 24)) ∷
    []

evictions_due : due (of_one Strategy.ReadWrite 100 1000) (reverse evictions) ≡ given evictions
unfolding all_open
evictions_due = refl

-- An item is young for a session that began before; a lock that isn't there has expired, and bars for the timeout.
abbrev pub young_and_expired : List Entry
young_and_expired =
    at 6 (Act.Put (key 0 1) (v 0) 1 1) stored ∷
    at 7 (Act.Get (key 0 1) 1) (Reply.Miss (Miss.Young 6)) ∷
    at 10 (Act.Put (key 0 1) (v 0) 1 1) (Reply.Put (Put.Present (Some 0))) ∷
    at 12 (Act.Unlock (key 0 1) 7) (Reply.Unlocked Unlocked.Expired) ∷
    at 13 (Act.Get (key 0 1) 13) (Reply.Miss (Miss.Released 1012)) ∷
    at 14 (Act.AfterUpdate (key 0 2) 7 (v 1)) (Reply.Updated Updated.Expired) ∷
    []

young_and_expired_due : due (of_one Strategy.ReadWrite 100 1000) (reverse young_and_expired) ≡ given young_and_expired
unfolding all_open
young_and_expired_due = refl

-- ---- the weaker regions

-- A writer drops the row before and after its commit; a slow reader puts the old one back, and the next one hits it.
abbrev pub stale_read : List Entry
stale_read =
    at 7 (Act.Put (key 0 1) plain 1 1) stored ∷
    at 10 (Act.RegionRemove (key 0 1)) Reply.Dropped ∷
    at 13 (Act.RegionRemove (key 0 1)) Reply.Absent ∷
    at 14 (Act.Get (key 0 1) 14) (Reply.Miss Miss.Absent) ∷
    at 16 (Act.Put (key 0 1) plain 1 1) stored ∷
    at 20 (Act.Get (key 0 1) 19) (Reply.Hit plain) ∷
    []

stale_read_due : due (of_one Strategy.Nonstrict 10 1000) (reverse stale_read) ≡ given stale_read
unfolding all_open
stale_read_due = refl

-- The oldest item leaves a full region for a new key.
abbrev pub full_of_items : List Entry
full_of_items =
    at 4 (Act.AfterInsert (key 0 1) plain 1) (Reply.Inserted (Inserted.Stored None)) ∷
    at 8 (Act.Put (key 0 2) plain 5 5) stored ∷
    at 10 (Act.Put (key 0 3) plain 9 9) (Reply.Put (Put.Stored (Some 1) false)) ∷
    at 11 (Act.Put (key 0 3) plain 9 9) (Reply.Put (Put.Present None)) ∷
    []

full_of_items_due : due (of_one Strategy.ReadOnly 2 1000) (reverse full_of_items) ≡ given full_of_items
unfolding all_open
full_of_items_due = refl

-- An item is young for those that began before it was stored.
abbrev pub young_item : List Entry
young_item =
    at 4 (Act.Put (key 0 1) plain 1 1) stored ∷
    at 5 (Act.Get (key 0 1) 4) (Reply.Miss (Miss.Young 4)) ∷
    at 6 (Act.Get (key 0 1) 5) (Reply.Hit plain) ∷
    []

young_item_due : due (of_one Strategy.ReadOnly 10 1000) (reverse young_item) ≡ given young_item
unfolding all_open
young_item_due = refl

-- ---- the stamps of tables

abbrev pub stamps : List Entry
stamps =
    entry 7 None Part.Stamps (Act.Stamp (0 ∷ [])) (Reply.Stamped 7) ∷
    entry 9 None Part.Stamps (Act.Pre (1 ∷ [])) (Reply.Stamped 1009) ∷
    []

stamps_due : due (of_one Strategy.ReadWrite 100 1000) (reverse stamps) ≡ given stamps
stamps_due = refl

-- A result of the time of a stamp is stale, a later one is fresh; the first table that is stale is named.
stamps_checked : map (λ (p : ℕ × List ℕ). check 1000 p.0 p.1 (reverse stamps))
    ((7, 0 ∷ []) ∷ (8, 0 ∷ []) ∷ (1009, 0 ∷ 1 ∷ []) ∷ (1010, 0 ∷ 1 ∷ []) ∷ (6, 0 ∷ 1 ∷ []) ∷ (1, 2 ∷ []) ∷ (1, []) ∷ [])
    ≡ Checked.Stale 0 7 ∷ Checked.Fresh ∷ Checked.Stale 1 1009 ∷ Checked.Fresh ∷ Checked.Stale 0 7 ∷ Checked.Fresh ∷ Checked.Fresh ∷ []
stamps_checked = refl

-- Nothing is stale after a restart.
stamps_restarted : check 1000 1 (0 ∷ 1 ∷ []) (entry 10 None Part.Registry Act.Restart Reply.Done ∷ reverse stamps) ≡ Checked.Fresh
stamps_restarted = refl

-- ---- the results of queries

abbrev pub keep : ℕ → ℕ → Option ℕ → Entry
keep tick q out = entry tick None Part.Results (Act.Keep q tick []) (Reply.Kept out)

abbrev pub look : ℕ → ℕ → Reply → Entry
look tick q reply = entry tick None Part.Results (Act.Look q) reply

-- With room for one result the other goes; keeping a query's own again drops none.
abbrev pub one_result : List Entry
one_result =
    keep 4 0 None ∷
    keep 5 1 (Some 0) ∷
    look 6 0 Reply.Absent ∷
    look 7 1 (Reply.Found 5 []) ∷
    keep 8 1 None ∷
    []

-- With room for two the least recently used goes. To find a result is to use it.
abbrev pub two_results : List Entry
two_results =
    keep 4 0 None ∷
    keep 5 1 None ∷
    keep 6 2 (Some 0) ∷
    look 7 1 (Reply.Found 5 []) ∷
    keep 8 0 (Some 2) ∷
    []

abbrev pub reply_in : ℕ → Journal → Act → Reply
reply_in capacity h (Act.Look q) = option_map_or (λ r. Reply.Found r.0 r.1) (result capacity q h) Reply.Absent
reply_in capacity h (Act.Keep q t l) = Reply.Kept (dropped capacity 3 q h)
reply_in capacity h _ = Reply.Done

abbrev pub results_due : ℕ → Journal → List Reply
results_due capacity [] = []
results_due capacity (e ∷ h) = reply_in capacity h e.act ∷ results_due capacity h

one_result_due : results_due 1 (reverse one_result) ≡ given one_result
unfolding all_open
one_result_due = refl

two_results_due : results_due 2 (reverse two_results) ≡ given two_results
unfolding all_open
two_results_due = refl

-- Nothing is kept after a restart.
results_restarted : option_map_or (λ r. Reply.Found r.0 r.1) (result 2 1 (entry 9 None Part.Registry Act.Restart Reply.Done ∷ reverse two_results)) Reply.Absent ≡ Reply.Absent
unfolding all_open
results_restarted = refl
