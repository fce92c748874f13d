-- Worked journals of writes, commits and rollbacks, line by line.
use Rattle.std.proofs.Common.{◌≡◌, length, slice_get, true, [], ◌∷◌, reverse, Some, None, refl, pos}
use Rattle.hib_journal.specs.Types.{Cell, Change, Strategy, Statement, Script, Part, Act, Outcome, Commit, Miss, Updated, Reply, Order}
use Rattle.hib_journal.specs.Sessions.{Journal}
use Rattle.hib_journal.specs.Room.{key}
use Rattle.hib_rows.proofs.Run.{row, dune, emma, entry, run, all_open}

-- A row is inserted whose key the store has: the commit answers duplicate.
abbrev pub duplicate_insert_script : Script
duplicate_insert_script = record {
  timeout = 1000;
  results = 100;
  mapping = record { name = []; strategy = Strategy.ReadWrite; versioned = true; capacity = 100; columns = [] } ∷ [];
  rows = ((key 0 1), dune 0 3) ∷ [];
  queries = [];
  schedule = [];
  sessions =
      record { name = []; statements = Statement.Persist (key 0 1) (Cell.Text (69 ∷ 109 ∷ 109 ∷ 97 ∷ []) ∷ Cell.Int (pos 5) ∷ []) ∷ Statement.Commit ∷ [] }
      ∷ [];
}

abbrev pub duplicate_insert : Journal
duplicate_insert = run duplicate_insert_script duplicate_insert_script.rows (Order.Run 0 20 ∷ []) []

duplicate_insert_length : length duplicate_insert ≡ 7
unfolding all_open
duplicate_insert_length = refl

duplicate_insert_line_5 : slice_get (reverse duplicate_insert) 4 ≡ Some (entry 5 (Some 0) Part.Store Act.Commit (Reply.Commit (Commit.Duplicate (key 0 1))))
unfolding all_open
duplicate_insert_line_5 = refl

duplicate_insert_line_6 : slice_get (reverse duplicate_insert) 5 ≡ Some (entry 6 (Some 0) Part.Stamps (Act.Stamp (0 ∷ [])) (Reply.Stamped 6))
unfolding all_open
duplicate_insert_line_6 = refl

duplicate_insert_line_7 : slice_get (reverse duplicate_insert) 6 ≡ Some (entry 7 (Some 0) Part.Registry Act.End (Reply.Ended Outcome.Duplicate))
unfolding all_open
duplicate_insert_line_7 = refl

-- What a session changed is written in the order of inserts, updates, deletes.
abbrev pub order_of_writes_script : Script
order_of_writes_script = record {
  timeout = 1000;
  results = 100;
  mapping = record { name = []; strategy = Strategy.Uncached; versioned = true; capacity = 0; columns = [] } ∷ [];
  rows = ((key 0 1), dune 0 3) ∷ ((key 0 2), emma 0 5) ∷ [];
  queries = [];
  schedule = [];
  sessions =
      record { name = []; statements = Statement.Find (key 0 1) ∷ Statement.Remove (key 0 1) ∷ Statement.Find (key 0 2) ∷ Statement.Set (key 0 2) ((1, Cell.Int (pos 4)) ∷ []) ∷ Statement.Persist (key 0 3) (Cell.Text (85 ∷ 108 ∷ 121 ∷ 115 ∷ 115 ∷ 101 ∷ 115 ∷ []) ∷ Cell.Int (pos 1) ∷ []) ∷ Statement.Commit ∷ [] }
      ∷ [];
}

abbrev pub order_of_writes : Journal
order_of_writes = run order_of_writes_script order_of_writes_script.rows (Order.Run 0 13 ∷ []) []

order_of_writes_length : length order_of_writes ≡ 13
unfolding all_open
order_of_writes_length = refl

order_of_writes_line_7 : slice_get (reverse order_of_writes) 6 ≡ Some (entry 7 (Some 0) Part.Stamps (Act.Pre (0 ∷ [])) (Reply.Stamped 1007))
unfolding all_open
order_of_writes_line_7 = refl

order_of_writes_line_8 : slice_get (reverse order_of_writes) 7 ≡ Some (entry 8 (Some 0) Part.Store (Act.Write (Change.Insert (key 0 3) (row (Some 0) ((Cell.Text (85 ∷ 108 ∷ 121 ∷ 115 ∷ 115 ∷ 101 ∷ 115 ∷ [])) ∷ (Cell.Int (pos 1)) ∷ [])))) Reply.Written)
unfolding all_open
order_of_writes_line_8 = refl

order_of_writes_line_9 : slice_get (reverse order_of_writes) 8 ≡ Some (entry 9 (Some 0) Part.Store (Act.Write (Change.Update (key 0 2) (Some 0) (emma 1 4))) Reply.Written)
unfolding all_open
order_of_writes_line_9 = refl

order_of_writes_line_10 : slice_get (reverse order_of_writes) 9 ≡ Some (entry 10 (Some 0) Part.Store (Act.Write (Change.Delete (key 0 1) (Some 0))) Reply.Written)
unfolding all_open
order_of_writes_line_10 = refl

order_of_writes_line_11 : slice_get (reverse order_of_writes) 10 ≡ Some (entry 11 (Some 0) Part.Store Act.Commit (Reply.Commit Commit.Committed))
unfolding all_open
order_of_writes_line_11 = refl

order_of_writes_line_13 : slice_get (reverse order_of_writes) 12 ≡ Some (entry 13 (Some 0) Part.Registry Act.End (Reply.Ended Outcome.Committed))
unfolding all_open
order_of_writes_line_13 = refl

-- Two writers of one version of a row: the second is stale, also without a cache.
abbrev pub uncached_writers_script : Script
uncached_writers_script = record {
  timeout = 1000;
  results = 100;
  mapping = record { name = []; strategy = Strategy.Uncached; versioned = true; capacity = 0; columns = [] } ∷ [];
  rows = ((key 0 1), dune 0 3) ∷ [];
  queries = [];
  schedule = [];
  sessions =
      record { name = []; statements = Statement.Find (key 0 1) ∷ Statement.Set (key 0 1) ((1, Cell.Int (pos 2)) ∷ []) ∷ Statement.Commit ∷ [] }
      ∷ record { name = []; statements = Statement.Find (key 0 1) ∷ Statement.Set (key 0 1) ((1, Cell.Int (pos 1)) ∷ []) ∷ Statement.Commit ∷ [] }
      ∷ [];
}

abbrev pub uncached_writers : Journal
uncached_writers = run uncached_writers_script uncached_writers_script.rows (Order.Run 0 3 ∷ Order.Run 1 3 ∷ Order.Run 0 5 ∷ Order.Run 1 5 ∷ []) []

uncached_writers_length : length uncached_writers ≡ 16
unfolding all_open
uncached_writers_length = refl

uncached_writers_line_7 : slice_get (reverse uncached_writers) 6 ≡ Some (entry 7 (Some 0) Part.Stamps (Act.Pre (0 ∷ [])) (Reply.Stamped 1007))
unfolding all_open
uncached_writers_line_7 = refl

uncached_writers_line_8 : slice_get (reverse uncached_writers) 7 ≡ Some (entry 8 (Some 0) Part.Store (Act.Write (Change.Update (key 0 1) (Some 0) (dune 1 2))) Reply.Written)
unfolding all_open
uncached_writers_line_8 = refl

uncached_writers_line_9 : slice_get (reverse uncached_writers) 8 ≡ Some (entry 9 (Some 0) Part.Store Act.Commit (Reply.Commit Commit.Committed))
unfolding all_open
uncached_writers_line_9 = refl

uncached_writers_line_13 : slice_get (reverse uncached_writers) 12 ≡ Some (entry 13 (Some 1) Part.Store (Act.Write (Change.Update (key 0 1) (Some 0) (dune 1 1))) Reply.Written)
unfolding all_open
uncached_writers_line_13 = refl

uncached_writers_line_14 : slice_get (reverse uncached_writers) 13 ≡ Some (entry 14 (Some 1) Part.Store Act.Commit (Reply.Commit (Commit.Stale (key 0 1) (Some 1))))
unfolding all_open
uncached_writers_line_14 = refl

uncached_writers_line_15 : slice_get (reverse uncached_writers) 14 ≡ Some (entry 15 (Some 1) Part.Stamps (Act.Stamp (0 ∷ [])) (Reply.Stamped 15))
unfolding all_open
uncached_writers_line_15 = refl

uncached_writers_line_16 : slice_get (reverse uncached_writers) 15 ≡ Some (entry 16 (Some 1) Part.Registry Act.End (Reply.Ended Outcome.Stale))
unfolding all_open
uncached_writers_line_16 = refl

-- A session goes on after its commit: its second transaction begins anew, holds the row, and locks its key without a version.
abbrev pub two_commits_script : Script
two_commits_script = record {
  timeout = 1000;
  results = 100;
  mapping = record { name = []; strategy = Strategy.ReadWrite; versioned = true; capacity = 100; columns = [] } ∷ [];
  rows = ((key 0 1), dune 0 3) ∷ [];
  queries = [];
  schedule = [];
  sessions =
      record { name = []; statements = Statement.Find (key 0 1) ∷ Statement.Set (key 0 1) ((1, Cell.Int (pos 2)) ∷ []) ∷ Statement.Commit ∷ Statement.Find (key 0 1) ∷ Statement.Set (key 0 1) ((1, Cell.Int (pos 1)) ∷ []) ∷ Statement.Commit ∷ [] }
      ∷ [];
}

abbrev pub two_commits : Journal
two_commits = run two_commits_script two_commits_script.rows (Order.Run 0 22 ∷ []) []

two_commits_length : length two_commits ≡ 22
unfolding all_open
two_commits_length = refl

two_commits_line_7 : slice_get (reverse two_commits) 6 ≡ Some (entry 7 (Some 0) (Part.Region 0) (Act.Lock (key 0 1) (Some 0) 1) (Reply.Locked (record { id = 7; until = 1007; evicted = None })))
unfolding all_open
two_commits_line_7 = refl

two_commits_line_10 : slice_get (reverse two_commits) 9 ≡ Some (entry 10 (Some 0) (Part.Region 0) (Act.AfterUpdate (key 0 1) 7 (dune 1 2)) (Reply.Updated Updated.Stored))
unfolding all_open
two_commits_line_10 = refl

two_commits_line_12 : slice_get (reverse two_commits) 11 ≡ Some (entry 12 (Some 0) Part.Registry Act.End (Reply.Ended Outcome.Committed))
unfolding all_open
two_commits_line_12 = refl

two_commits_line_13 : slice_get (reverse two_commits) 12 ≡ Some (entry 13 (Some 0) Part.Registry Act.Begin (Reply.Began 13))
unfolding all_open
two_commits_line_13 = refl

two_commits_line_14 : slice_get (reverse two_commits) 13 ≡ Some (entry 14 (Some 0) (Part.Own 0) (Act.Find (key 0 1)) (Reply.Row (Some (dune 1 2))))
unfolding all_open
two_commits_line_14 = refl

two_commits_line_16 : slice_get (reverse two_commits) 15 ≡ Some (entry 16 (Some 0) Part.Stamps (Act.Pre (0 ∷ [])) (Reply.Stamped 1016))
unfolding all_open
two_commits_line_16 = refl

two_commits_line_17 : slice_get (reverse two_commits) 16 ≡ Some (entry 17 (Some 0) (Part.Region 0) (Act.Lock (key 0 1) None 13) (Reply.Locked (record { id = 17; until = 1017; evicted = None })))
unfolding all_open
two_commits_line_17 = refl

two_commits_line_18 : slice_get (reverse two_commits) 17 ≡ Some (entry 18 (Some 0) Part.Store (Act.Write (Change.Update (key 0 1) (Some 1) (dune 2 1))) Reply.Written)
unfolding all_open
two_commits_line_18 = refl

two_commits_line_20 : slice_get (reverse two_commits) 19 ≡ Some (entry 20 (Some 0) (Part.Region 0) (Act.AfterUpdate (key 0 1) 17 (dune 2 1)) (Reply.Updated Updated.Stored))
unfolding all_open
two_commits_line_20 = refl

two_commits_line_22 : slice_get (reverse two_commits) 21 ≡ Some (entry 22 (Some 0) Part.Registry Act.End (Reply.Ended Outcome.Committed))
unfolding all_open
two_commits_line_22 = refl

-- After a rollback the session holds nothing more of what it persisted.
abbrev pub rollback_then_find_script : Script
rollback_then_find_script = record {
  timeout = 1000;
  results = 100;
  mapping = record { name = []; strategy = Strategy.ReadWrite; versioned = true; capacity = 100; columns = [] } ∷ [];
  rows = [];
  queries = [];
  schedule = [];
  sessions =
      record { name = []; statements = Statement.Persist (key 0 1) (Cell.Text (68 ∷ 117 ∷ 110 ∷ 101 ∷ []) ∷ Cell.Int (pos 3) ∷ []) ∷ Statement.Rollback ∷ Statement.Find (key 0 1) ∷ Statement.Commit ∷ [] }
      ∷ [];
}

abbrev pub rollback_then_find : Journal
rollback_then_find = run rollback_then_find_script rollback_then_find_script.rows (Order.Run 0 9 ∷ []) []

rollback_then_find_length : length rollback_then_find ≡ 9
unfolding all_open
rollback_then_find_length = refl

rollback_then_find_line_3 : slice_get (reverse rollback_then_find) 2 ≡ Some (entry 3 (Some 0) Part.Store Act.Rollback Reply.Done)
unfolding all_open
rollback_then_find_line_3 = refl

rollback_then_find_line_4 : slice_get (reverse rollback_then_find) 3 ≡ Some (entry 4 (Some 0) Part.Registry Act.End (Reply.Ended Outcome.RolledBack))
unfolding all_open
rollback_then_find_line_4 = refl

rollback_then_find_line_5 : slice_get (reverse rollback_then_find) 4 ≡ Some (entry 5 (Some 0) Part.Registry Act.Begin (Reply.Began 5))
unfolding all_open
rollback_then_find_line_5 = refl

rollback_then_find_line_6 : slice_get (reverse rollback_then_find) 5 ≡ Some (entry 6 (Some 0) (Part.Region 0) (Act.Get (key 0 1) 5) (Reply.Miss Miss.Absent))
unfolding all_open
rollback_then_find_line_6 = refl

rollback_then_find_line_7 : slice_get (reverse rollback_then_find) 6 ≡ Some (entry 7 (Some 0) Part.Store (Act.Load (key 0 1)) (Reply.Row None))
unfolding all_open
rollback_then_find_line_7 = refl

rollback_then_find_line_9 : slice_get (reverse rollback_then_find) 8 ≡ Some (entry 9 (Some 0) Part.Registry Act.End (Reply.Ended Outcome.Committed))
unfolding all_open
rollback_then_find_line_9 = refl
