-- What a session does to find rows, and what it answers of what it holds.
use Rattle.std.proofs.Common.{◌≡◌, true, false, List, [], ◌∷◌, Some, None, refl}
use Rattle.hib_journal.specs.Types.{Strategy, Statement, Mode, Act, Change, Commit, Miss, Put, Unlocked, Outcome, Reply, Script, Entry}
use Rattle.hib_journal.specs.Room.{key}
use Rattle.hib_journal.specs.Held.{held, pending}
use Rattle.hib_journal.specs.Next.{next}
use Rattle.hib_rows.proofs.Run.{row}
use Rattle.hib_rows.proofs.Session.{at, of_one, dune_title, emma_title, chad, letter, stock, due, answered, acts_of, replies_of}

-- A hit is the answer; nothing is loaded.
abbrev pub hit_script : Script
hit_script = of_one Strategy.ReadWrite true 100 [] 100 (
    Statement.Find (key 0 1) ∷
    Statement.Commit ∷
    [])

abbrev pub hit : List Entry
hit =
    at 9 Act.Begin (Reply.Began 9) ∷
    at 10 (Act.Get (key 0 1) 9) (Reply.Hit (row (Some 0) (dune_title ∷ stock 3 ∷ []))) ∷
    at 11 Act.Commit (Reply.Commit Commit.Committed) ∷
    at 12 Act.End (Reply.Ended Outcome.Committed) ∷
    []

hit_acts : due hit_script [] hit ≡ acts_of hit
unfolding next held pending
hit_acts = refl

hit_replies : answered hit_script [] hit ≡ replies_of hit
unfolding next held pending
hit_replies = refl

-- After a miss the row is loaded and offered to the region, and a second find is answered from what is held.
abbrev pub miss_and_put_script : Script
miss_and_put_script = of_one Strategy.ReadWrite true 100 [] 100 (
    Statement.Find (key 0 1) ∷
    Statement.Find (key 0 1) ∷
    Statement.Commit ∷
    [])

abbrev pub miss_and_put : List Entry
miss_and_put =
    at 1 Act.Begin (Reply.Began 1) ∷
    at 2 (Act.Get (key 0 1) 1) (Reply.Miss Miss.Absent) ∷
    at 3 (Act.Load (key 0 1)) (Reply.Row (Some (row (Some 0) (dune_title ∷ stock 3 ∷ [])))) ∷
    at 4 (Act.Put (key 0 1) (row (Some 0) (dune_title ∷ stock 3 ∷ [])) 1 1) (Reply.Put (Put.Stored None false)) ∷
    at 5 (Act.Find (key 0 1)) (Reply.Row (Some (row (Some 0) (dune_title ∷ stock 3 ∷ [])))) ∷
    at 6 Act.Commit (Reply.Commit Commit.Committed) ∷
    at 7 Act.End (Reply.Ended Outcome.Committed) ∷
    []

miss_and_put_acts : due miss_and_put_script [] miss_and_put ≡ acts_of miss_and_put
unfolding next held pending
miss_and_put_acts = refl

miss_and_put_replies : answered miss_and_put_script [] miss_and_put ≡ replies_of miss_and_put
unfolding next held pending
miss_and_put_replies = refl

-- If there is no row nothing is offered, and nothing is held.
abbrev pub none_script : Script
none_script = of_one Strategy.ReadWrite true 100 [] 100 (
    Statement.Find (key 0 1) ∷
    Statement.Commit ∷
    [])

abbrev pub none : List Entry
none =
    at 10 Act.Begin (Reply.Began 10) ∷
    at 11 (Act.Get (key 0 1) 10) (Reply.Miss Miss.Absent) ∷
    at 12 (Act.Load (key 0 1)) (Reply.Row None) ∷
    at 13 Act.Commit (Reply.Commit Commit.Committed) ∷
    at 14 Act.End (Reply.Ended Outcome.Committed) ∷
    []

none_acts : due none_script [] none ≡ acts_of none
unfolding next held pending
none_acts = refl

none_replies : answered none_script [] none ≡ replies_of none
unfolding next held pending
none_replies = refl

-- A load that fails leaves nothing held: the next find loads again.
abbrev pub fault_script : Script
fault_script = of_one Strategy.ReadWrite true 100 [] 100 (
    Statement.Mode Mode.Ignore ∷
    Statement.Find (key 0 1) ∷
    Statement.Find (key 0 1) ∷
    Statement.Commit ∷
    [])

abbrev pub fault : List Entry
fault =
    at 1 Act.Begin (Reply.Began 1) ∷
    at 2 (Act.Load (key 0 1)) Reply.Fault ∷
    at 3 (Act.Load (key 0 1)) (Reply.Row (Some (row (Some 0) (dune_title ∷ stock 3 ∷ [])))) ∷
    at 4 Act.Commit (Reply.Commit Commit.Committed) ∷
    at 5 Act.End (Reply.Ended Outcome.Committed) ∷
    []

fault_acts : due fault_script [] fault ≡ acts_of fault
unfolding next held pending
fault_acts = refl

fault_replies : answered fault_script [] fault ≡ replies_of fault
unfolding next held pending
fault_replies = refl

-- A read-only row cannot be set, and can be removed.
abbrev pub read_only_script : Script
read_only_script = of_one Strategy.ReadOnly false 10 [] 100 (
    Statement.Find (key 0 1) ∷
    Statement.Set (key 0 1) ((0, letter 88) ∷ []) ∷
    Statement.Remove (key 0 1) ∷
    Statement.Commit ∷
    [])

abbrev pub read_only : List Entry
read_only =
    at 1 Act.Begin (Reply.Began 1) ∷
    at 2 (Act.Get (key 0 1) 1) (Reply.Miss Miss.Absent) ∷
    at 3 (Act.Load (key 0 1)) (Reply.Row (Some (row None (chad ∷ [])))) ∷
    at 4 (Act.Put (key 0 1) (row None (chad ∷ [])) 1 1) (Reply.Put (Put.Stored None false)) ∷
    at 5 (Act.Set (key 0 1) ((0, letter 88) ∷ [])) Reply.ReadOnly ∷
    at 6 (Act.Remove (key 0 1)) Reply.Removed ∷
    at 7 (Act.Pre (0 ∷ [])) (Reply.Stamped 1007) ∷
    at 8 (Act.RegionRemove (key 0 1)) Reply.Dropped ∷
    at 9 (Act.Write (Change.Delete (key 0 1) None)) Reply.Written ∷
    at 10 Act.Commit (Reply.Commit Commit.Committed) ∷
    at 11 (Act.RegionRemove (key 0 1)) Reply.Absent ∷
    at 12 (Act.Stamp (0 ∷ [])) (Reply.Stamped 12) ∷
    at 13 Act.End (Reply.Ended Outcome.Committed) ∷
    []

read_only_acts : due read_only_script [] read_only ≡ acts_of read_only
unfolding next held pending
read_only_acts = refl

read_only_replies : answered read_only_script [] read_only ≡ replies_of read_only
unfolding next held pending
read_only_replies = refl

-- A persist of a known key, a set and a remove of an unknown one change nothing; a row that was persisted and removed is not held.
abbrev pub known_and_unknown_script : Script
known_and_unknown_script = of_one Strategy.ReadWrite true 100 [] 100 (
    Statement.Persist (key 0 1) (dune_title ∷ stock 3 ∷ []) ∷
    Statement.Persist (key 0 1) (emma_title ∷ stock 5 ∷ []) ∷
    Statement.Set (key 0 2) ((1, stock 1) ∷ []) ∷
    Statement.Remove (key 0 2) ∷
    Statement.Remove (key 0 1) ∷
    Statement.Find (key 0 1) ∷
    Statement.Rollback ∷
    [])

abbrev pub known_and_unknown : List Entry
known_and_unknown =
    at 1 Act.Begin (Reply.Began 1) ∷
    at 2 (Act.Persist (key 0 1) (row (Some 0) (dune_title ∷ stock 3 ∷ []))) Reply.New ∷
    at 3 (Act.Persist (key 0 1) (row (Some 0) (emma_title ∷ stock 5 ∷ []))) Reply.Known ∷
    at 4 (Act.Set (key 0 2) ((1, stock 1) ∷ [])) Reply.Unknown ∷
    at 5 (Act.Remove (key 0 2)) Reply.Unknown ∷
    at 6 (Act.Remove (key 0 1)) Reply.Removed ∷
    at 7 (Act.Get (key 0 1) 1) (Reply.Miss Miss.Absent) ∷
    at 8 (Act.Load (key 0 1)) (Reply.Row None) ∷
    at 9 Act.Rollback Reply.Done ∷
    at 10 Act.End (Reply.Ended Outcome.RolledBack) ∷
    []

known_and_unknown_acts : due known_and_unknown_script [] known_and_unknown ≡ acts_of known_and_unknown
unfolding next held pending
known_and_unknown_acts = refl

known_and_unknown_replies : answered known_and_unknown_script [] known_and_unknown ≡ replies_of known_and_unknown
unfolding next held pending
known_and_unknown_replies = refl

-- A row that the session removed is none for it.
abbrev pub removed_is_unknown_script : Script
removed_is_unknown_script = of_one Strategy.ReadWrite true 100 [] 100 (
    Statement.Find (key 0 1) ∷
    Statement.Remove (key 0 1) ∷
    Statement.Set (key 0 1) ((1, stock 4) ∷ []) ∷
    Statement.Find (key 0 1) ∷
    Statement.Remove (key 0 1) ∷
    Statement.Rollback ∷
    [])

abbrev pub removed_is_unknown : List Entry
removed_is_unknown =
    at 1 Act.Begin (Reply.Began 1) ∷
    at 2 (Act.Get (key 0 1) 1) (Reply.Hit (row (Some 0) (dune_title ∷ stock 3 ∷ []))) ∷
    at 3 (Act.Remove (key 0 1)) Reply.Removed ∷
    at 4 (Act.Set (key 0 1) ((1, stock 4) ∷ [])) Reply.Unknown ∷
    at 5 (Act.Find (key 0 1)) (Reply.Row None) ∷
    at 6 (Act.Remove (key 0 1)) Reply.Unknown ∷
    at 7 Act.Rollback Reply.Done ∷
    at 8 Act.End (Reply.Ended Outcome.RolledBack) ∷
    []

removed_is_unknown_acts : due removed_is_unknown_script [] removed_is_unknown ≡ acts_of removed_is_unknown
unfolding next held pending
removed_is_unknown_acts = refl

removed_is_unknown_replies : answered removed_is_unknown_script [] removed_is_unknown ≡ replies_of removed_is_unknown
unfolding next held pending
removed_is_unknown_replies = refl

-- What a session wrote it neither asks a region for nor offers it, whatever it holds.
abbrev pub delete_and_clear_script : Script
delete_and_clear_script = of_one Strategy.ReadWrite true 100 [] 100 (
    Statement.Find (key 0 1) ∷
    Statement.Remove (key 0 1) ∷
    Statement.Flush ∷
    Statement.Clear ∷
    Statement.Find (key 0 1) ∷
    Statement.Commit ∷
    [])

abbrev pub delete_and_clear : List Entry
delete_and_clear =
    at 1 Act.Begin (Reply.Began 1) ∷
    at 2 (Act.Get (key 0 1) 1) (Reply.Miss Miss.Absent) ∷
    at 3 (Act.Load (key 0 1)) (Reply.Row (Some (row (Some 0) (dune_title ∷ stock 3 ∷ [])))) ∷
    at 4 (Act.Put (key 0 1) (row (Some 0) (dune_title ∷ stock 3 ∷ [])) 1 1) (Reply.Put (Put.Stored None false)) ∷
    at 5 (Act.Remove (key 0 1)) Reply.Removed ∷
    at 6 (Act.Pre (0 ∷ [])) (Reply.Stamped 1006) ∷
    at 7 (Act.Lock (key 0 1) (Some 0) 1) (Reply.Locked (record { id = 7; until = 1007; evicted = None })) ∷
    at 8 (Act.Write (Change.Delete (key 0 1) (Some 0))) Reply.Written ∷
    at 9 Act.Clear Reply.Cleared ∷
    at 10 (Act.Load (key 0 1)) (Reply.Row None) ∷
    at 17 Act.Commit (Reply.Commit Commit.Committed) ∷
    at 18 (Act.Unlock (key 0 1) 7) (Reply.Unlocked (Unlocked.Released 0)) ∷
    at 19 (Act.Stamp (0 ∷ [])) (Reply.Stamped 19) ∷
    at 20 Act.End (Reply.Ended Outcome.Committed) ∷
    []

delete_and_clear_acts : due delete_and_clear_script [] delete_and_clear ≡ acts_of delete_and_clear
unfolding next held pending
delete_and_clear_acts = refl

delete_and_clear_replies : answered delete_and_clear_script [] delete_and_clear ≡ replies_of delete_and_clear
unfolding next held pending
delete_and_clear_replies = refl

-- The mode says whether a region is asked, and whether it is offered what was loaded.
abbrev pub modes_get_and_put_script : Script
modes_get_and_put_script = of_one Strategy.ReadWrite true 100 [] 100 (
    Statement.Mode Mode.Get ∷
    Statement.Find (key 0 1) ∷
    Statement.Clear ∷
    Statement.Mode Mode.Put ∷
    Statement.Find (key 0 1) ∷
    Statement.Clear ∷
    Statement.Mode Mode.Normal ∷
    Statement.Find (key 0 1) ∷
    Statement.Commit ∷
    [])

abbrev pub modes_get_and_put : List Entry
modes_get_and_put =
    at 1 Act.Begin (Reply.Began 1) ∷
    at 2 (Act.Get (key 0 1) 1) (Reply.Miss Miss.Absent) ∷
    at 3 (Act.Load (key 0 1)) (Reply.Row (Some (row (Some 0) (dune_title ∷ stock 3 ∷ [])))) ∷
    at 4 Act.Clear Reply.Cleared ∷
    at 5 (Act.Load (key 0 1)) (Reply.Row (Some (row (Some 0) (dune_title ∷ stock 3 ∷ [])))) ∷
    at 6 (Act.Put (key 0 1) (row (Some 0) (dune_title ∷ stock 3 ∷ [])) 1 1) (Reply.Put (Put.Stored None false)) ∷
    at 7 Act.Clear Reply.Cleared ∷
    at 8 (Act.Get (key 0 1) 1) (Reply.Miss (Miss.Young 6)) ∷
    at 9 (Act.Load (key 0 1)) (Reply.Row (Some (row (Some 0) (dune_title ∷ stock 3 ∷ [])))) ∷
    at 10 (Act.Put (key 0 1) (row (Some 0) (dune_title ∷ stock 3 ∷ [])) 1 1) (Reply.Put (Put.Present (Some 0))) ∷
    at 11 Act.Commit (Reply.Commit Commit.Committed) ∷
    at 12 Act.End (Reply.Ended Outcome.Committed) ∷
    []

modes_get_and_put_acts : due modes_get_and_put_script [] modes_get_and_put ≡ acts_of modes_get_and_put
unfolding next held pending
modes_get_and_put_acts = refl

modes_get_and_put_replies : answered modes_get_and_put_script [] modes_get_and_put ≡ replies_of modes_get_and_put
unfolding next held pending
modes_get_and_put_replies = refl
