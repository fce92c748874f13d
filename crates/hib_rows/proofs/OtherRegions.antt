-- Worked journals of evictions, cache modes, and nonstrict and read-only regions, line by line.
use Rattle.std.proofs.Common.{◌≡◌, length, slice_get, true, false, [], ◌∷◌, reverse, Some, None, refl, pos}
use Rattle.hib_journal.specs.Types.{Cell, Change, Strategy, Mode, Statement, Script, Part, Act, Outcome, Commit, Miss, Put, Inserted, Evicted, Reply, Order}
use Rattle.hib_journal.specs.Sessions.{Journal}
use Rattle.hib_journal.specs.Room.{key}
use Rattle.hib_rows.proofs.Run.{row, dune, entry, run, all_open}

-- An evicted key is released: a put of a session that began before the eviction is too early, a later one is stored.
abbrev pub evicted_key_script : Script
evicted_key_script = record {
  timeout = 1000;
  results = 100;
  mapping = record { name = []; strategy = Strategy.ReadWrite; versioned = true; capacity = 100; columns = [] } ∷ [];
  rows = [];
  queries = [];
  schedule = [];
  sessions =
      record { name = []; statements = Statement.Persist (key 0 1) (Cell.Text (68 ∷ 117 ∷ 110 ∷ 101 ∷ []) ∷ Cell.Int (pos 3) ∷ []) ∷ Statement.Commit ∷ [] }
      ∷ record { name = []; statements = Statement.Find (key 0 1) ∷ Statement.Commit ∷ [] }
      ∷ record { name = []; statements = Statement.Find (key 0 1) ∷ Statement.Commit ∷ [] }
      ∷ [];
}

abbrev pub evicted_key : Journal
evicted_key = run evicted_key_script evicted_key_script.rows (Order.Run 0 8 ∷ Order.Run 1 1 ∷ Order.Evict (key 0 1) ∷ Order.Run 1 9 ∷ Order.Run 2 9 ∷ []) []

evicted_key_length : length evicted_key ≡ 21
unfolding all_open
evicted_key_length = refl

evicted_key_line_10 : slice_get (reverse evicted_key) 9 ≡ Some (entry 10 None (Part.Region 0) (Act.Evict (key 0 1)) (Reply.Evicted Evicted.Gone))
unfolding all_open
evicted_key_line_10 = refl

evicted_key_line_11 : slice_get (reverse evicted_key) 10 ≡ Some (entry 11 (Some 1) (Part.Region 0) (Act.Get (key 0 1) 9) (Reply.Miss (Miss.Released 10)))
unfolding all_open
evicted_key_line_11 = refl

evicted_key_line_13 : slice_get (reverse evicted_key) 12 ≡ Some (entry 13 (Some 1) (Part.Region 0) (Act.Put (key 0 1) (dune 0 3) 9 9) (Reply.Put (Put.Early 10)))
unfolding all_open
evicted_key_line_13 = refl

evicted_key_line_17 : slice_get (reverse evicted_key) 16 ≡ Some (entry 17 (Some 2) (Part.Region 0) (Act.Get (key 0 1) 16) (Reply.Miss (Miss.Released 10)))
unfolding all_open
evicted_key_line_17 = refl

evicted_key_line_19 : slice_get (reverse evicted_key) 18 ≡ Some (entry 19 (Some 2) (Part.Region 0) (Act.Put (key 0 1) (dune 0 3) 16 16) (Reply.Put (Put.Stored None false)))
unfolding all_open
evicted_key_line_19 = refl

-- In the mode that only reads the cache a session puts nothing, and in the mode that only fills it, it gets nothing.
abbrev pub cache_modes_script : Script
cache_modes_script = record {
  timeout = 1000;
  results = 100;
  mapping = record { name = []; strategy = Strategy.ReadWrite; versioned = true; capacity = 100; columns = [] } ∷ [];
  rows = ((key 0 1), dune 0 3) ∷ [];
  queries = [];
  schedule = [];
  sessions =
      record { name = []; statements = Statement.Mode Mode.Get ∷ Statement.Find (key 0 1) ∷ Statement.Clear ∷ Statement.Mode Mode.Put ∷ Statement.Find (key 0 1) ∷ Statement.Clear ∷ Statement.Mode Mode.Normal ∷ Statement.Find (key 0 1) ∷ Statement.Commit ∷ [] }
      ∷ [];
}

abbrev pub cache_modes : Journal
cache_modes = run cache_modes_script cache_modes_script.rows (Order.Run 0 20 ∷ []) []

cache_modes_length : length cache_modes ≡ 12
unfolding all_open
cache_modes_length = refl

cache_modes_line_2 : slice_get (reverse cache_modes) 1 ≡ Some (entry 2 (Some 0) (Part.Region 0) (Act.Get (key 0 1) 1) (Reply.Miss Miss.Absent))
unfolding all_open
cache_modes_line_2 = refl

cache_modes_line_3 : slice_get (reverse cache_modes) 2 ≡ Some (entry 3 (Some 0) Part.Store (Act.Load (key 0 1)) (Reply.Row (Some (dune 0 3))))
unfolding all_open
cache_modes_line_3 = refl

cache_modes_line_4 : slice_get (reverse cache_modes) 3 ≡ Some (entry 4 (Some 0) (Part.Own 0) Act.Clear Reply.Cleared)
unfolding all_open
cache_modes_line_4 = refl

cache_modes_line_5 : slice_get (reverse cache_modes) 4 ≡ Some (entry 5 (Some 0) Part.Store (Act.Load (key 0 1)) (Reply.Row (Some (dune 0 3))))
unfolding all_open
cache_modes_line_5 = refl

cache_modes_line_6 : slice_get (reverse cache_modes) 5 ≡ Some (entry 6 (Some 0) (Part.Region 0) (Act.Put (key 0 1) (dune 0 3) 1 1) (Reply.Put (Put.Stored None false)))
unfolding all_open
cache_modes_line_6 = refl

cache_modes_line_7 : slice_get (reverse cache_modes) 6 ≡ Some (entry 7 (Some 0) (Part.Own 0) Act.Clear Reply.Cleared)
unfolding all_open
cache_modes_line_7 = refl

cache_modes_line_8 : slice_get (reverse cache_modes) 7 ≡ Some (entry 8 (Some 0) (Part.Region 0) (Act.Get (key 0 1) 1) (Reply.Miss (Miss.Young 6)))
unfolding all_open
cache_modes_line_8 = refl

cache_modes_line_9 : slice_get (reverse cache_modes) 8 ≡ Some (entry 9 (Some 0) Part.Store (Act.Load (key 0 1)) (Reply.Row (Some (dune 0 3))))
unfolding all_open
cache_modes_line_9 = refl

cache_modes_line_10 : slice_get (reverse cache_modes) 9 ≡ Some (entry 10 (Some 0) (Part.Region 0) (Act.Put (key 0 1) (dune 0 3) 1 1) (Reply.Put (Put.Present (Some 0))))
unfolding all_open
cache_modes_line_10 = refl

cache_modes_line_12 : slice_get (reverse cache_modes) 11 ≡ Some (entry 12 (Some 0) Part.Registry Act.End (Reply.Ended Outcome.Committed))
unfolding all_open
cache_modes_line_12 = refl

-- A nonstrict region keeps no locks: a session may read what another one has replaced.
abbrev pub stale_read_script : Script
stale_read_script = record {
  timeout = 1000;
  results = 100;
  mapping = record { name = []; strategy = Strategy.Nonstrict; versioned = false; capacity = 10; columns = [] } ∷ [];
  rows = ((key 0 1), row None (Cell.Text (111 ∷ 108 ∷ 100 ∷ []) ∷ [])) ∷ [];
  queries = [];
  schedule = [];
  sessions =
      record { name = []; statements = Statement.Find (key 0 1) ∷ Statement.Commit ∷ [] }
      ∷ record { name = []; statements = Statement.Find (key 0 1) ∷ Statement.Set (key 0 1) ((0, Cell.Text (110 ∷ 101 ∷ 119 ∷ [])) ∷ []) ∷ Statement.Commit ∷ [] }
      ∷ record { name = []; statements = Statement.Find (key 0 1) ∷ Statement.Commit ∷ [] }
      ∷ [];
}

abbrev pub stale_read : Journal
stale_read = run stale_read_script stale_read_script.rows (Order.Run 0 3 ∷ Order.Run 1 12 ∷ Order.Run 0 9 ∷ Order.Run 2 9 ∷ []) []

stale_read_length : length stale_read ≡ 22
unfolding all_open
stale_read_length = refl

stale_read_line_12 : slice_get (reverse stale_read) 11 ≡ Some (entry 12 (Some 1) Part.Store Act.Commit (Reply.Commit Commit.Committed))
unfolding all_open
stale_read_line_12 = refl

stale_read_line_16 : slice_get (reverse stale_read) 15 ≡ Some (entry 16 (Some 0) (Part.Region 0) (Act.Put (key 0 1) (row None ((Cell.Text (111 ∷ 108 ∷ 100 ∷ [])) ∷ [])) 1 1) (Reply.Put (Put.Stored None false)))
unfolding all_open
stale_read_line_16 = refl

stale_read_line_20 : slice_get (reverse stale_read) 19 ≡ Some (entry 20 (Some 2) (Part.Region 0) (Act.Get (key 0 1) 19) (Reply.Hit (row None ((Cell.Text (111 ∷ 108 ∷ 100 ∷ [])) ∷ []))))
unfolding all_open
stale_read_line_20 = refl

-- A read-only region for one key: each new item evicts the last.
abbrev pub read_only_region_script : Script
read_only_region_script = record {
  timeout = 1000;
  results = 100;
  mapping = record { name = []; strategy = Strategy.ReadOnly; versioned = false; capacity = 1; columns = [] } ∷ [];
  rows = [];
  queries = [];
  schedule = [];
  sessions =
      record { name = []; statements = Statement.Persist (key 0 1) (Cell.Text (67 ∷ 104 ∷ 97 ∷ 100 ∷ []) ∷ []) ∷ Statement.Persist (key 0 2) (Cell.Text (80 ∷ 101 ∷ 114 ∷ 117 ∷ []) ∷ []) ∷ Statement.Commit ∷ [] }
      ∷ record { name = []; statements = Statement.Find (key 0 1) ∷ Statement.Clear ∷ Statement.Find (key 0 1) ∷ Statement.Commit ∷ [] }
      ∷ [];
}

abbrev pub read_only_region : Journal
read_only_region = run read_only_region_script read_only_region_script.rows (Order.Run 0 11 ∷ Order.Run 1 12 ∷ []) []

read_only_region_length : length read_only_region ≡ 21
unfolding all_open
read_only_region_length = refl

read_only_region_line_8 : slice_get (reverse read_only_region) 7 ≡ Some (entry 8 (Some 0) (Part.Region 0) (Act.AfterInsert (key 0 1) (row None ((Cell.Text (67 ∷ 104 ∷ 97 ∷ 100 ∷ [])) ∷ [])) 1) (Reply.Inserted (Inserted.Stored None)))
unfolding all_open
read_only_region_line_8 = refl

read_only_region_line_9 : slice_get (reverse read_only_region) 8 ≡ Some (entry 9 (Some 0) (Part.Region 0) (Act.AfterInsert (key 0 2) (row None ((Cell.Text (80 ∷ 101 ∷ 114 ∷ 117 ∷ [])) ∷ [])) 1) (Reply.Inserted (Inserted.Stored (Some 1))))
unfolding all_open
read_only_region_line_9 = refl

read_only_region_line_12 : slice_get (reverse read_only_region) 11 ≡ Some (entry 12 (Some 1) Part.Registry Act.Begin (Reply.Began 12))
unfolding all_open
read_only_region_line_12 = refl

read_only_region_line_13 : slice_get (reverse read_only_region) 12 ≡ Some (entry 13 (Some 1) (Part.Region 0) (Act.Get (key 0 1) 12) (Reply.Miss Miss.Absent))
unfolding all_open
read_only_region_line_13 = refl

read_only_region_line_15 : slice_get (reverse read_only_region) 14 ≡ Some (entry 15 (Some 1) (Part.Region 0) (Act.Put (key 0 1) (row None ((Cell.Text (67 ∷ 104 ∷ 97 ∷ 100 ∷ [])) ∷ [])) 12 12) (Reply.Put (Put.Stored (Some 2) false)))
unfolding all_open
read_only_region_line_15 = refl

read_only_region_line_17 : slice_get (reverse read_only_region) 16 ≡ Some (entry 17 (Some 1) (Part.Region 0) (Act.Get (key 0 1) 12) (Reply.Miss (Miss.Young 15)))
unfolding all_open
read_only_region_line_17 = refl

read_only_region_line_19 : slice_get (reverse read_only_region) 18 ≡ Some (entry 19 (Some 1) (Part.Region 0) (Act.Put (key 0 1) (row None ((Cell.Text (67 ∷ 104 ∷ 97 ∷ 100 ∷ [])) ∷ [])) 12 12) (Reply.Put (Put.Present None)))
unfolding all_open
read_only_region_line_19 = refl

read_only_region_line_21 : slice_get (reverse read_only_region) 20 ≡ Some (entry 21 (Some 1) Part.Registry Act.End (Reply.Ended Outcome.Committed))
unfolding all_open
read_only_region_line_21 = refl

-- A row of a read-only entity is not set, but it is removed.
abbrev pub read_only_row_script : Script
read_only_row_script = record {
  timeout = 1000;
  results = 100;
  mapping = record { name = []; strategy = Strategy.ReadOnly; versioned = false; capacity = 10; columns = [] } ∷ [];
  rows = ((key 0 1), row None (Cell.Text (67 ∷ 104 ∷ 97 ∷ 100 ∷ []) ∷ [])) ∷ [];
  queries = [];
  schedule = [];
  sessions =
      record { name = []; statements = Statement.Find (key 0 1) ∷ Statement.Set (key 0 1) ((0, Cell.Text (88 ∷ [])) ∷ []) ∷ Statement.Remove (key 0 1) ∷ Statement.Commit ∷ [] }
      ∷ [];
}

abbrev pub read_only_row : Journal
read_only_row = run read_only_row_script read_only_row_script.rows (Order.Run 0 13 ∷ []) []

read_only_row_length : length read_only_row ≡ 13
unfolding all_open
read_only_row_length = refl

read_only_row_line_4 : slice_get (reverse read_only_row) 3 ≡ Some (entry 4 (Some 0) (Part.Region 0) (Act.Put (key 0 1) (row None ((Cell.Text (67 ∷ 104 ∷ 97 ∷ 100 ∷ [])) ∷ [])) 1 1) (Reply.Put (Put.Stored None false)))
unfolding all_open
read_only_row_line_4 = refl

read_only_row_line_5 : slice_get (reverse read_only_row) 4 ≡ Some (entry 5 (Some 0) (Part.Own 0) (Act.Set (key 0 1) ((0, (Cell.Text (88 ∷ []))) ∷ [])) Reply.ReadOnly)
unfolding all_open
read_only_row_line_5 = refl

read_only_row_line_6 : slice_get (reverse read_only_row) 5 ≡ Some (entry 6 (Some 0) (Part.Own 0) (Act.Remove (key 0 1)) Reply.Removed)
unfolding all_open
read_only_row_line_6 = refl

read_only_row_line_9 : slice_get (reverse read_only_row) 8 ≡ Some (entry 9 (Some 0) Part.Store (Act.Write (Change.Delete (key 0 1) None)) Reply.Written)
unfolding all_open
read_only_row_line_9 = refl

read_only_row_line_13 : slice_get (reverse read_only_row) 12 ≡ Some (entry 13 (Some 0) Part.Registry Act.End (Reply.Ended Outcome.Committed))
unfolding all_open
read_only_row_line_13 = refl
