-- What a session does to write what it has changed.
use Rattle.std.proofs.Common.{◌≡◌, true, false, List, [], ◌∷◌, Some, None, refl}
use Rattle.hib_journal.specs.Types.{Strategy, Statement, Mode, Act, Change, Commit, Miss, Put, Unlocked, Inserted, Updated, Outcome, Reply, Script, Entry}
use Rattle.hib_journal.specs.Room.{key}
use Rattle.hib_journal.specs.Held.{held, pending}
use Rattle.hib_journal.specs.Next.{next}
use Rattle.hib_rows.proofs.Run.{row}
use Rattle.hib_rows.proofs.Session.{at, of_one, dune_title, chad, old, new, letter, stock, due, answered, acts_of, replies_of}

-- A persist without a cache.
abbrev pub persist_uncached_script : Script
persist_uncached_script = of_one Strategy.Uncached true 0 [] 100 (
    Statement.Persist (key 0 1) (dune_title ∷ []) ∷
    Statement.Find (key 0 1) ∷
    Statement.Commit ∷
    [])

abbrev pub persist_uncached : List Entry
persist_uncached =
    at 1 Act.Begin (Reply.Began 1) ∷
    at 2 (Act.Persist (key 0 1) (row (Some 0) (dune_title ∷ []))) Reply.New ∷
    at 3 (Act.Find (key 0 1)) (Reply.Row (Some (row (Some 0) (dune_title ∷ [])))) ∷
    at 4 (Act.Pre (0 ∷ [])) (Reply.Stamped 1004) ∷
    at 5 (Act.Write (Change.Insert (key 0 1) (row (Some 0) (dune_title ∷ [])))) Reply.Written ∷
    at 6 Act.Commit (Reply.Commit Commit.Committed) ∷
    at 7 (Act.Stamp (0 ∷ [])) (Reply.Stamped 7) ∷
    at 8 Act.End (Reply.Ended Outcome.Committed) ∷
    []

persist_uncached_acts : due persist_uncached_script [] persist_uncached ≡ acts_of persist_uncached
unfolding next held pending
persist_uncached_acts = refl

persist_uncached_replies : answered persist_uncached_script [] persist_uncached ≡ replies_of persist_uncached
unfolding next held pending
persist_uncached_replies = refl

-- A persist in a read-write region: the row is put in after the commit.
abbrev pub persist_read_write_script : Script
persist_read_write_script = of_one Strategy.ReadWrite true 100 [] 100 (
    Statement.Persist (key 0 1) (dune_title ∷ stock 3 ∷ []) ∷
    Statement.Commit ∷
    [])

abbrev pub persist_read_write : List Entry
persist_read_write =
    at 1 Act.Begin (Reply.Began 1) ∷
    at 2 (Act.Persist (key 0 1) (row (Some 0) (dune_title ∷ stock 3 ∷ []))) Reply.New ∷
    at 3 (Act.Pre (0 ∷ [])) (Reply.Stamped 1003) ∷
    at 4 (Act.Write (Change.Insert (key 0 1) (row (Some 0) (dune_title ∷ stock 3 ∷ [])))) Reply.Written ∷
    at 5 Act.Commit (Reply.Commit Commit.Committed) ∷
    at 6 (Act.AfterInsert (key 0 1) (row (Some 0) (dune_title ∷ stock 3 ∷ [])) 1) (Reply.Inserted (Inserted.Stored None)) ∷
    at 7 (Act.Stamp (0 ∷ [])) (Reply.Stamped 7) ∷
    at 8 Act.End (Reply.Ended Outcome.Committed) ∷
    []

persist_read_write_acts : due persist_read_write_script [] persist_read_write ≡ acts_of persist_read_write
unfolding next held pending
persist_read_write_acts = refl

persist_read_write_replies : answered persist_read_write_script [] persist_read_write ≡ replies_of persist_read_write
unfolding next held pending
persist_read_write_replies = refl

-- A persist in a read-only region: the row is put in after the commit.
abbrev pub persist_read_only_script : Script
persist_read_only_script = of_one Strategy.ReadOnly false 10 [] 100 (
    Statement.Persist (key 0 1) (chad ∷ []) ∷
    Statement.Commit ∷
    [])

abbrev pub persist_read_only : List Entry
persist_read_only =
    at 1 Act.Begin (Reply.Began 1) ∷
    at 2 (Act.Persist (key 0 1) (row None (chad ∷ []))) Reply.New ∷
    at 3 (Act.Pre (0 ∷ [])) (Reply.Stamped 1003) ∷
    at 4 (Act.Write (Change.Insert (key 0 1) (row None (chad ∷ [])))) Reply.Written ∷
    at 5 Act.Commit (Reply.Commit Commit.Committed) ∷
    at 6 (Act.AfterInsert (key 0 1) (row None (chad ∷ [])) 1) (Reply.Inserted (Inserted.Stored None)) ∷
    at 7 (Act.Stamp (0 ∷ [])) (Reply.Stamped 7) ∷
    at 8 Act.End (Reply.Ended Outcome.Committed) ∷
    []

persist_read_only_acts : due persist_read_only_script [] persist_read_only ≡ acts_of persist_read_only
unfolding next held pending
persist_read_only_acts = refl

persist_read_only_replies : answered persist_read_only_script [] persist_read_only ≡ replies_of persist_read_only
unfolding next held pending
persist_read_only_replies = refl

-- A persist in a nonstrict region, which is not told.
abbrev pub persist_nonstrict_script : Script
persist_nonstrict_script = of_one Strategy.Nonstrict false 10 [] 100 (
    Statement.Persist (key 0 1) (new ∷ []) ∷
    Statement.Commit ∷
    [])

abbrev pub persist_nonstrict : List Entry
persist_nonstrict =
    at 1 Act.Begin (Reply.Began 1) ∷
    at 2 (Act.Persist (key 0 1) (row None (new ∷ []))) Reply.New ∷
    at 3 (Act.Pre (0 ∷ [])) (Reply.Stamped 1003) ∷
    at 4 (Act.Write (Change.Insert (key 0 1) (row None (new ∷ [])))) Reply.Written ∷
    at 5 Act.Commit (Reply.Commit Commit.Committed) ∷
    at 6 (Act.Stamp (0 ∷ [])) (Reply.Stamped 6) ∷
    at 7 Act.End (Reply.Ended Outcome.Committed) ∷
    []

persist_nonstrict_acts : due persist_nonstrict_script [] persist_nonstrict ≡ acts_of persist_nonstrict
unfolding next held pending
persist_nonstrict_acts = refl

persist_nonstrict_replies : answered persist_nonstrict_script [] persist_nonstrict ≡ replies_of persist_nonstrict
unfolding next held pending
persist_nonstrict_replies = refl

-- An update in a nonstrict region: the item is removed before the write and after the commit.
abbrev pub nonstrict_update_script : Script
nonstrict_update_script = of_one Strategy.Nonstrict false 10 [] 100 (
    Statement.Find (key 0 1) ∷
    Statement.Set (key 0 1) ((0, new) ∷ []) ∷
    Statement.Commit ∷
    [])

abbrev pub nonstrict_update : List Entry
nonstrict_update =
    at 4 Act.Begin (Reply.Began 1) ∷
    at 5 (Act.Get (key 0 1) 4) (Reply.Miss Miss.Absent) ∷
    at 6 (Act.Load (key 0 1)) (Reply.Row (Some (row None (old ∷ [])))) ∷
    at 7 (Act.Put (key 0 1) (row None (old ∷ [])) 4 1) (Reply.Put (Put.Stored None false)) ∷
    at 8 (Act.Set (key 0 1) ((0, new) ∷ [])) Reply.Set ∷
    at 9 (Act.Pre (0 ∷ [])) (Reply.Stamped 1009) ∷
    at 10 (Act.RegionRemove (key 0 1)) Reply.Dropped ∷
    at 11 (Act.Write (Change.Update (key 0 1) None (row None (new ∷ [])))) Reply.Written ∷
    at 12 Act.Commit (Reply.Commit Commit.Committed) ∷
    at 13 (Act.RegionRemove (key 0 1)) Reply.Absent ∷
    at 14 (Act.Stamp (0 ∷ [])) (Reply.Stamped 14) ∷
    at 15 Act.End (Reply.Ended Outcome.Committed) ∷
    []

nonstrict_update_acts : due nonstrict_update_script [] nonstrict_update ≡ acts_of nonstrict_update
unfolding next held pending
nonstrict_update_acts = refl

nonstrict_update_replies : answered nonstrict_update_script [] nonstrict_update ≡ replies_of nonstrict_update
unfolding next held pending
nonstrict_update_replies = refl

-- An update in a read-write region: a lock before the write, the row after the commit.
abbrev pub read_write_update_script : Script
read_write_update_script = of_one Strategy.ReadWrite true 100 [] 100 (
    Statement.Find (key 0 1) ∷
    Statement.Set (key 0 1) ((1, stock 2) ∷ []) ∷
    Statement.Commit ∷
    [])

abbrev pub read_write_update : List Entry
read_write_update =
    at 4 Act.Begin (Reply.Began 1) ∷
    at 5 (Act.Get (key 0 1) 4) (Reply.Miss Miss.Absent) ∷
    at 6 (Act.Load (key 0 1)) (Reply.Row (Some (row (Some 0) (dune_title ∷ stock 3 ∷ [])))) ∷
    at 7 (Act.Put (key 0 1) (row (Some 0) (dune_title ∷ stock 3 ∷ [])) 4 1) (Reply.Put (Put.Stored None false)) ∷
    at 8 (Act.Set (key 0 1) ((1, stock 2) ∷ [])) Reply.Set ∷
    at 9 (Act.Pre (0 ∷ [])) (Reply.Stamped 1009) ∷
    at 10 (Act.Lock (key 0 1) (Some 0) 1) (Reply.Locked (record { id = 10; until = 1010; evicted = None })) ∷
    at 11 (Act.Write (Change.Update (key 0 1) (Some 0) (row (Some 1) (dune_title ∷ stock 2 ∷ [])))) Reply.Written ∷
    at 12 Act.Commit (Reply.Commit Commit.Committed) ∷
    at 13 (Act.AfterUpdate (key 0 1) 10 (row (Some 1) (dune_title ∷ stock 2 ∷ []))) (Reply.Updated Updated.Stored) ∷
    at 14 (Act.Stamp (0 ∷ [])) (Reply.Stamped 14) ∷
    at 15 Act.End (Reply.Ended Outcome.Committed) ∷
    []

read_write_update_acts : due read_write_update_script [] read_write_update ≡ acts_of read_write_update
unfolding next held pending
read_write_update_acts = refl

read_write_update_replies : answered read_write_update_script [] read_write_update ≡ replies_of read_write_update
unfolding next held pending
read_write_update_replies = refl

-- Inserts in order of persist, updates in order of find, deletes in order of remove; a mode that does not put gives its locks back.
abbrev pub flush_of_all_kinds_script : Script
flush_of_all_kinds_script = of_one Strategy.ReadWrite true 100 [] 100 (
    Statement.Mode Mode.Ignore ∷
    Statement.Find (key 0 1) ∷
    Statement.Find (key 0 2) ∷
    Statement.Find (key 0 3) ∷
    Statement.Find (key 0 4) ∷
    Statement.Set (key 0 2) ((1, stock 20) ∷ []) ∷
    Statement.Set (key 0 1) ((1, stock 10) ∷ []) ∷
    Statement.Remove (key 0 4) ∷
    Statement.Remove (key 0 3) ∷
    Statement.Persist (key 0 6) (letter 70 ∷ stock 6 ∷ []) ∷
    Statement.Persist (key 0 5) (letter 69 ∷ stock 5 ∷ []) ∷
    Statement.Commit ∷
    [])

abbrev pub flush_of_all_kinds : List Entry
flush_of_all_kinds =
    at 1 Act.Begin (Reply.Began 1) ∷
    at 2 (Act.Load (key 0 1)) (Reply.Row (Some (row (Some 0) (letter 65 ∷ stock 1 ∷ [])))) ∷
    at 3 (Act.Load (key 0 2)) (Reply.Row (Some (row (Some 1) (letter 66 ∷ stock 2 ∷ [])))) ∷
    at 4 (Act.Load (key 0 3)) (Reply.Row (Some (row (Some 2) (letter 67 ∷ stock 3 ∷ [])))) ∷
    at 5 (Act.Load (key 0 4)) (Reply.Row (Some (row (Some 3) (letter 68 ∷ stock 4 ∷ [])))) ∷
    at 6 (Act.Set (key 0 2) ((1, stock 20) ∷ [])) Reply.Set ∷
    at 7 (Act.Set (key 0 1) ((1, stock 10) ∷ [])) Reply.Set ∷
    at 8 (Act.Remove (key 0 4)) Reply.Removed ∷
    at 9 (Act.Remove (key 0 3)) Reply.Removed ∷
    at 10 (Act.Persist (key 0 6) (row (Some 0) (letter 70 ∷ stock 6 ∷ []))) Reply.New ∷
    at 11 (Act.Persist (key 0 5) (row (Some 0) (letter 69 ∷ stock 5 ∷ []))) Reply.New ∷
    at 12 (Act.Pre (0 ∷ [])) (Reply.Stamped 1012) ∷
    at 13 (Act.Write (Change.Insert (key 0 6) (row (Some 0) (letter 70 ∷ stock 6 ∷ [])))) Reply.Written ∷
    at 14 (Act.Write (Change.Insert (key 0 5) (row (Some 0) (letter 69 ∷ stock 5 ∷ [])))) Reply.Written ∷
    at 15 (Act.Lock (key 0 1) (Some 0) 1) (Reply.Locked (record { id = 15; until = 1015; evicted = None })) ∷
    at 16 (Act.Write (Change.Update (key 0 1) (Some 0) (row (Some 1) (letter 65 ∷ stock 10 ∷ [])))) Reply.Written ∷
    at 17 (Act.Lock (key 0 2) (Some 1) 1) (Reply.Locked (record { id = 17; until = 1017; evicted = None })) ∷
    at 18 (Act.Write (Change.Update (key 0 2) (Some 1) (row (Some 2) (letter 66 ∷ stock 20 ∷ [])))) Reply.Written ∷
    at 19 (Act.Lock (key 0 4) (Some 3) 1) (Reply.Locked (record { id = 19; until = 1019; evicted = None })) ∷
    at 20 (Act.Write (Change.Delete (key 0 4) (Some 3))) Reply.Written ∷
    at 21 (Act.Lock (key 0 3) (Some 2) 1) (Reply.Locked (record { id = 21; until = 1021; evicted = None })) ∷
    at 22 (Act.Write (Change.Delete (key 0 3) (Some 2))) Reply.Written ∷
    at 23 Act.Commit (Reply.Commit Commit.Committed) ∷
    at 24 (Act.Unlock (key 0 1) 15) (Reply.Unlocked (Unlocked.Released 0)) ∷
    at 25 (Act.Unlock (key 0 2) 17) (Reply.Unlocked (Unlocked.Released 0)) ∷
    at 26 (Act.Unlock (key 0 4) 19) (Reply.Unlocked (Unlocked.Released 0)) ∷
    at 27 (Act.Unlock (key 0 3) 21) (Reply.Unlocked (Unlocked.Released 0)) ∷
    at 28 (Act.Stamp (0 ∷ [])) (Reply.Stamped 28) ∷
    at 29 Act.End (Reply.Ended Outcome.Committed) ∷
    []

flush_of_all_kinds_acts : due flush_of_all_kinds_script [] flush_of_all_kinds ≡ acts_of flush_of_all_kinds
unfolding next held pending
flush_of_all_kinds_acts = refl

flush_of_all_kinds_replies : answered flush_of_all_kinds_script [] flush_of_all_kinds ≡ replies_of flush_of_all_kinds
unfolding next held pending
flush_of_all_kinds_replies = refl

-- A row that was set to what it is is not written.
abbrev pub set_to_the_same_script : Script
set_to_the_same_script = of_one Strategy.ReadWrite true 100 [] 100 (
    Statement.Mode Mode.Ignore ∷
    Statement.Find (key 0 1) ∷
    Statement.Set (key 0 1) ((1, stock 3) ∷ []) ∷
    Statement.Commit ∷
    [])

abbrev pub set_to_the_same : List Entry
set_to_the_same =
    at 1 Act.Begin (Reply.Began 1) ∷
    at 2 (Act.Load (key 0 1)) (Reply.Row (Some (row (Some 0) (dune_title ∷ stock 3 ∷ [])))) ∷
    at 3 (Act.Set (key 0 1) ((1, stock 3) ∷ [])) Reply.Set ∷
    at 4 Act.Commit (Reply.Commit Commit.Committed) ∷
    at 5 Act.End (Reply.Ended Outcome.Committed) ∷
    []

set_to_the_same_acts : due set_to_the_same_script [] set_to_the_same ≡ acts_of set_to_the_same
unfolding next held pending
set_to_the_same_acts = refl

set_to_the_same_replies : answered set_to_the_same_script [] set_to_the_same ≡ replies_of set_to_the_same
unfolding next held pending
set_to_the_same_replies = refl

-- A key that the session has written is not locked again.
abbrev pub one_lock_a_key_script : Script
one_lock_a_key_script = of_one Strategy.ReadWrite true 100 [] 100 (
    Statement.Mode Mode.Ignore ∷
    Statement.Find (key 0 1) ∷
    Statement.Set (key 0 1) ((1, stock 2) ∷ []) ∷
    Statement.Flush ∷
    Statement.Set (key 0 1) ((1, stock 1) ∷ []) ∷
    Statement.Commit ∷
    [])

abbrev pub one_lock_a_key : List Entry
one_lock_a_key =
    at 1 Act.Begin (Reply.Began 1) ∷
    at 2 (Act.Load (key 0 1)) (Reply.Row (Some (row (Some 0) (dune_title ∷ stock 3 ∷ [])))) ∷
    at 3 (Act.Set (key 0 1) ((1, stock 2) ∷ [])) Reply.Set ∷
    at 4 (Act.Pre (0 ∷ [])) (Reply.Stamped 1004) ∷
    at 5 (Act.Lock (key 0 1) (Some 0) 1) (Reply.Locked (record { id = 5; until = 1005; evicted = None })) ∷
    at 6 (Act.Write (Change.Update (key 0 1) (Some 0) (row (Some 1) (dune_title ∷ stock 2 ∷ [])))) Reply.Written ∷
    at 7 (Act.Set (key 0 1) ((1, stock 1) ∷ [])) Reply.Set ∷
    at 8 (Act.Pre (0 ∷ [])) (Reply.Stamped 1008) ∷
    at 9 (Act.Write (Change.Update (key 0 1) (Some 1) (row (Some 2) (dune_title ∷ stock 1 ∷ [])))) Reply.Written ∷
    at 10 Act.Commit (Reply.Commit Commit.Committed) ∷
    at 11 (Act.Unlock (key 0 1) 5) (Reply.Unlocked (Unlocked.Released 0)) ∷
    at 12 (Act.Stamp (0 ∷ [])) (Reply.Stamped 12) ∷
    at 13 Act.End (Reply.Ended Outcome.Committed) ∷
    []

one_lock_a_key_acts : due one_lock_a_key_script [] one_lock_a_key ≡ acts_of one_lock_a_key
unfolding next held pending
one_lock_a_key_acts = refl

one_lock_a_key_replies : answered one_lock_a_key_script [] one_lock_a_key ≡ replies_of one_lock_a_key
unfolding next held pending
one_lock_a_key_replies = refl

-- A row that the session has inserted is deleted without a lock, and nothing is put in after the commit.
abbrev pub delete_after_an_own_insert_script : Script
delete_after_an_own_insert_script = of_one Strategy.ReadWrite true 100 [] 100 (
    Statement.Persist (key 0 1) (dune_title ∷ stock 3 ∷ []) ∷
    Statement.Flush ∷
    Statement.Remove (key 0 1) ∷
    Statement.Commit ∷
    [])

abbrev pub delete_after_an_own_insert : List Entry
delete_after_an_own_insert =
    at 1 Act.Begin (Reply.Began 1) ∷
    at 2 (Act.Persist (key 0 1) (row (Some 0) (dune_title ∷ stock 3 ∷ []))) Reply.New ∷
    at 3 (Act.Pre (0 ∷ [])) (Reply.Stamped 1003) ∷
    at 4 (Act.Write (Change.Insert (key 0 1) (row (Some 0) (dune_title ∷ stock 3 ∷ [])))) Reply.Written ∷
    at 5 (Act.Remove (key 0 1)) Reply.Removed ∷
    at 6 (Act.Pre (0 ∷ [])) (Reply.Stamped 1006) ∷
    at 7 (Act.Write (Change.Delete (key 0 1) (Some 0))) Reply.Written ∷
    at 8 Act.Commit (Reply.Commit Commit.Committed) ∷
    at 9 (Act.Stamp (0 ∷ [])) (Reply.Stamped 9) ∷
    at 10 Act.End (Reply.Ended Outcome.Committed) ∷
    []

delete_after_an_own_insert_acts : due delete_after_an_own_insert_script [] delete_after_an_own_insert ≡ acts_of delete_after_an_own_insert
unfolding next held pending
delete_after_an_own_insert_acts = refl

delete_after_an_own_insert_replies : answered delete_after_an_own_insert_script [] delete_after_an_own_insert ≡ replies_of delete_after_an_own_insert
unfolding next held pending
delete_after_an_own_insert_replies = refl
