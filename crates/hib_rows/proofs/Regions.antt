-- Worked journals of a region that is read and written, line by line.
use Rattle.std.proofs.Common.{◌≡◌, length, slice_get, true, false, [], ◌∷◌, reverse, Some, None, refl, pos}
use Rattle.hib_journal.specs.Types.{Cell, Change, Strategy, Mode, Statement, Script, Part, Act, Outcome, Commit, Miss, Put, Unlocked, Inserted, Updated, Reply, Order}
use Rattle.hib_journal.specs.Sessions.{Journal}
use Rattle.hib_journal.specs.Room.{key}
use Rattle.hib_journal.specs.Sound.{is_sound}
use Rattle.hib_rows.proofs.Run.{row, dune, entry, run, all_open}

-- A row that a session inserted is a hit for the next one.
abbrev pub inserted_then_read_script : Script
inserted_then_read_script = record {
  timeout = 1000;
  results = 100;
  mapping = record { name = []; strategy = Strategy.ReadWrite; versioned = true; capacity = 100; columns = [] } ∷ [];
  rows = [];
  queries = [];
  schedule = [];
  sessions =
      record { name = []; statements = Statement.Persist (key 0 1) (Cell.Text (68 ∷ 117 ∷ 110 ∷ 101 ∷ []) ∷ Cell.Int (pos 3) ∷ []) ∷ Statement.Commit ∷ [] }
      ∷ record { name = []; statements = Statement.Find (key 0 1) ∷ Statement.Commit ∷ [] }
      ∷ [];
}

abbrev pub inserted_then_read : Journal
inserted_then_read = run inserted_then_read_script inserted_then_read_script.rows (Order.Run 0 9 ∷ Order.Run 1 9 ∷ []) []

inserted_then_read_length : length inserted_then_read ≡ 12
unfolding all_open
inserted_then_read_length = refl

inserted_then_read_line_1 : slice_get (reverse inserted_then_read) 0 ≡ Some (entry 1 (Some 0) Part.Registry Act.Begin (Reply.Began 1))
unfolding all_open
inserted_then_read_line_1 = refl

inserted_then_read_line_2 : slice_get (reverse inserted_then_read) 1 ≡ Some (entry 2 (Some 0) (Part.Own 0) (Act.Persist (key 0 1) (dune 0 3)) Reply.New)
unfolding all_open
inserted_then_read_line_2 = refl

inserted_then_read_line_3 : slice_get (reverse inserted_then_read) 2 ≡ Some (entry 3 (Some 0) Part.Stamps (Act.Pre (0 ∷ [])) (Reply.Stamped 1003))
unfolding all_open
inserted_then_read_line_3 = refl

inserted_then_read_line_4 : slice_get (reverse inserted_then_read) 3 ≡ Some (entry 4 (Some 0) Part.Store (Act.Write (Change.Insert (key 0 1) (dune 0 3))) Reply.Written)
unfolding all_open
inserted_then_read_line_4 = refl

inserted_then_read_line_5 : slice_get (reverse inserted_then_read) 4 ≡ Some (entry 5 (Some 0) Part.Store Act.Commit (Reply.Commit Commit.Committed))
unfolding all_open
inserted_then_read_line_5 = refl

inserted_then_read_line_6 : slice_get (reverse inserted_then_read) 5 ≡ Some (entry 6 (Some 0) (Part.Region 0) (Act.AfterInsert (key 0 1) (dune 0 3) 1) (Reply.Inserted (Inserted.Stored None)))
unfolding all_open
inserted_then_read_line_6 = refl

inserted_then_read_line_7 : slice_get (reverse inserted_then_read) 6 ≡ Some (entry 7 (Some 0) Part.Stamps (Act.Stamp (0 ∷ [])) (Reply.Stamped 7))
unfolding all_open
inserted_then_read_line_7 = refl

inserted_then_read_line_8 : slice_get (reverse inserted_then_read) 7 ≡ Some (entry 8 (Some 0) Part.Registry Act.End (Reply.Ended Outcome.Committed))
unfolding all_open
inserted_then_read_line_8 = refl

inserted_then_read_line_9 : slice_get (reverse inserted_then_read) 8 ≡ Some (entry 9 (Some 1) Part.Registry Act.Begin (Reply.Began 9))
unfolding all_open
inserted_then_read_line_9 = refl

inserted_then_read_line_10 : slice_get (reverse inserted_then_read) 9 ≡ Some (entry 10 (Some 1) (Part.Region 0) (Act.Get (key 0 1) 9) (Reply.Hit (dune 0 3)))
unfolding all_open
inserted_then_read_line_10 = refl

inserted_then_read_line_11 : slice_get (reverse inserted_then_read) 10 ≡ Some (entry 11 (Some 1) Part.Store Act.Commit (Reply.Commit Commit.Committed))
unfolding all_open
inserted_then_read_line_11 = refl

inserted_then_read_line_12 : slice_get (reverse inserted_then_read) 11 ≡ Some (entry 12 (Some 1) Part.Registry Act.End (Reply.Ended Outcome.Committed))
unfolding all_open
inserted_then_read_line_12 = refl

-- An item is too young for a session that began before it was stored.
abbrev pub young_item_script : Script
young_item_script = record {
  timeout = 1000;
  results = 100;
  mapping = record { name = []; strategy = Strategy.ReadWrite; versioned = true; capacity = 100; columns = [] } ∷ [];
  rows = [];
  queries = [];
  schedule = [];
  sessions =
      record { name = []; statements = Statement.Persist (key 0 1) (Cell.Text (68 ∷ 117 ∷ 110 ∷ 101 ∷ []) ∷ Cell.Int (pos 3) ∷ []) ∷ Statement.Commit ∷ [] }
      ∷ record { name = []; statements = Statement.Find (key 0 1) ∷ Statement.Commit ∷ [] }
      ∷ [];
}

abbrev pub young_item : Journal
young_item = run young_item_script young_item_script.rows (Order.Run 0 5 ∷ Order.Run 1 1 ∷ Order.Run 0 3 ∷ Order.Run 1 9 ∷ []) []

young_item_length : length young_item ≡ 14
unfolding all_open
young_item_length = refl

young_item_line_6 : slice_get (reverse young_item) 5 ≡ Some (entry 6 (Some 1) Part.Registry Act.Begin (Reply.Began 1))
unfolding all_open
young_item_line_6 = refl

young_item_line_7 : slice_get (reverse young_item) 6 ≡ Some (entry 7 (Some 0) (Part.Region 0) (Act.AfterInsert (key 0 1) (dune 0 3) 1) (Reply.Inserted (Inserted.Stored None)))
unfolding all_open
young_item_line_7 = refl

young_item_line_8 : slice_get (reverse young_item) 7 ≡ Some (entry 8 (Some 0) Part.Stamps (Act.Stamp (0 ∷ [])) (Reply.Stamped 8))
unfolding all_open
young_item_line_8 = refl

young_item_line_10 : slice_get (reverse young_item) 9 ≡ Some (entry 10 (Some 1) (Part.Region 0) (Act.Get (key 0 1) 6) (Reply.Miss (Miss.Young 7)))
unfolding all_open
young_item_line_10 = refl

young_item_line_11 : slice_get (reverse young_item) 10 ≡ Some (entry 11 (Some 1) Part.Store (Act.Load (key 0 1)) (Reply.Row (Some (dune 0 3))))
unfolding all_open
young_item_line_11 = refl

young_item_line_12 : slice_get (reverse young_item) 11 ≡ Some (entry 12 (Some 1) (Part.Region 0) (Act.Put (key 0 1) (dune 0 3) 6 1) (Reply.Put (Put.Present (Some 0))))
unfolding all_open
young_item_line_12 = refl

-- Two writers of one row without a version both commit, and neither stores its row under the lock that they shared.
abbrev pub unversioned_writers_script : Script
unversioned_writers_script = record {
  timeout = 1000;
  results = 100;
  mapping = record { name = []; strategy = Strategy.ReadWrite; versioned = false; capacity = 100; columns = [] } ∷ [];
  rows = ((key 0 1), row None (Cell.Text (120 ∷ []) ∷ [])) ∷ [];
  queries = [];
  schedule = [];
  sessions =
      record { name = []; statements = Statement.Find (key 0 1) ∷ Statement.Set (key 0 1) ((0, Cell.Text (97 ∷ [])) ∷ []) ∷ Statement.Commit ∷ [] }
      ∷ record { name = []; statements = Statement.Find (key 0 1) ∷ Statement.Set (key 0 1) ((0, Cell.Text (98 ∷ [])) ∷ []) ∷ Statement.Commit ∷ [] }
      ∷ record { name = []; statements = Statement.Find (key 0 1) ∷ Statement.Commit ∷ [] }
      ∷ [];
}

abbrev pub unversioned_writers : Journal
unversioned_writers = run unversioned_writers_script unversioned_writers_script.rows (Order.Run 0 5 ∷ Order.Run 1 3 ∷ Order.Run 0 2 ∷ Order.Run 1 2 ∷ Order.Run 0 5 ∷ Order.Run 1 5 ∷ Order.Run 2 9 ∷ []) []

unversioned_writers_length : length unversioned_writers ≡ 28
unfolding all_open
unversioned_writers_length = refl

unversioned_writers_line_14 : slice_get (reverse unversioned_writers) 13 ≡ Some (entry 14 (Some 0) Part.Store Act.Commit (Reply.Commit Commit.Committed))
unfolding all_open
unversioned_writers_line_14 = refl

unversioned_writers_line_15 : slice_get (reverse unversioned_writers) 14 ≡ Some (entry 15 (Some 0) (Part.Region 0) (Act.AfterUpdate (key 0 1) 10 (row None ((Cell.Text (97 ∷ [])) ∷ []))) (Reply.Updated (Updated.Shared 1)))
unfolding all_open
unversioned_writers_line_15 = refl

unversioned_writers_line_19 : slice_get (reverse unversioned_writers) 18 ≡ Some (entry 19 (Some 1) Part.Store Act.Commit (Reply.Commit Commit.Committed))
unfolding all_open
unversioned_writers_line_19 = refl

unversioned_writers_line_20 : slice_get (reverse unversioned_writers) 19 ≡ Some (entry 20 (Some 1) (Part.Region 0) (Act.AfterUpdate (key 0 1) 10 (row None ((Cell.Text (98 ∷ [])) ∷ []))) (Reply.Updated (Updated.Shared 0)))
unfolding all_open
unversioned_writers_line_20 = refl

unversioned_writers_line_23 : slice_get (reverse unversioned_writers) 22 ≡ Some (entry 23 (Some 2) Part.Registry Act.Begin (Reply.Began 23))
unfolding all_open
unversioned_writers_line_23 = refl

unversioned_writers_line_24 : slice_get (reverse unversioned_writers) 23 ≡ Some (entry 24 (Some 2) (Part.Region 0) (Act.Get (key 0 1) 23) (Reply.Miss (Miss.Released 20)))
unfolding all_open
unversioned_writers_line_24 = refl

unversioned_writers_line_25 : slice_get (reverse unversioned_writers) 24 ≡ Some (entry 25 (Some 2) Part.Store (Act.Load (key 0 1)) (Reply.Row (Some (row None ((Cell.Text (98 ∷ [])) ∷ [])))))
unfolding all_open
unversioned_writers_line_25 = refl

unversioned_writers_line_26 : slice_get (reverse unversioned_writers) 25 ≡ Some (entry 26 (Some 2) (Part.Region 0) (Act.Put (key 0 1) (row None ((Cell.Text (98 ∷ [])) ∷ [])) 23 23) (Reply.Put (Put.Stored None false)))
unfolding all_open
unversioned_writers_line_26 = refl

-- A session loads a row, another one updates it, and the put of the first finds the newer row present.
abbrev pub overtaken_put_script : Script
overtaken_put_script = record {
  timeout = 1000;
  results = 100;
  mapping = record { name = []; strategy = Strategy.ReadWrite; versioned = true; capacity = 100; columns = [] } ∷ [];
  rows = ((key 0 1), dune 0 3) ∷ [];
  queries = [];
  schedule = [];
  sessions =
      record { name = []; statements = Statement.Find (key 0 1) ∷ Statement.Commit ∷ [] }
      ∷ record { name = []; statements = Statement.Find (key 0 1) ∷ Statement.Set (key 0 1) ((1, Cell.Int (pos 2)) ∷ []) ∷ Statement.Commit ∷ [] }
      ∷ [];
}

abbrev pub overtaken_put : Journal
overtaken_put = run overtaken_put_script overtaken_put_script.rows (Order.Run 0 3 ∷ Order.Run 1 12 ∷ Order.Run 0 9 ∷ []) []

overtaken_put_length : length overtaken_put ≡ 18
unfolding all_open
overtaken_put_length = refl

overtaken_put_line_3 : slice_get (reverse overtaken_put) 2 ≡ Some (entry 3 (Some 0) Part.Store (Act.Load (key 0 1)) (Reply.Row (Some (dune 0 3))))
unfolding all_open
overtaken_put_line_3 = refl

overtaken_put_line_7 : slice_get (reverse overtaken_put) 6 ≡ Some (entry 7 (Some 1) (Part.Region 0) (Act.Put (key 0 1) (dune 0 3) 4 1) (Reply.Put (Put.Stored None false)))
unfolding all_open
overtaken_put_line_7 = refl

overtaken_put_line_10 : slice_get (reverse overtaken_put) 9 ≡ Some (entry 10 (Some 1) (Part.Region 0) (Act.Lock (key 0 1) (Some 0) 1) (Reply.Locked (record { id = 10; until = 1010; evicted = None })))
unfolding all_open
overtaken_put_line_10 = refl

overtaken_put_line_12 : slice_get (reverse overtaken_put) 11 ≡ Some (entry 12 (Some 1) Part.Store Act.Commit (Reply.Commit Commit.Committed))
unfolding all_open
overtaken_put_line_12 = refl

overtaken_put_line_13 : slice_get (reverse overtaken_put) 12 ≡ Some (entry 13 (Some 1) (Part.Region 0) (Act.AfterUpdate (key 0 1) 10 (dune 1 2)) (Reply.Updated Updated.Stored))
unfolding all_open
overtaken_put_line_13 = refl

overtaken_put_line_16 : slice_get (reverse overtaken_put) 15 ≡ Some (entry 16 (Some 0) (Part.Region 0) (Act.Put (key 0 1) (dune 0 3) 1 1) (Reply.Put (Put.Present (Some 1))))
unfolding all_open
overtaken_put_line_16 = refl

-- A session that wrote a key loads it past the region, and a rollback leaves nothing to load.
abbrev pub rolled_back_insert_script : Script
rolled_back_insert_script = record {
  timeout = 1000;
  results = 100;
  mapping = record { name = []; strategy = Strategy.ReadWrite; versioned = true; capacity = 100; columns = [] } ∷ [];
  rows = [];
  queries = [];
  schedule = [];
  sessions =
      record { name = []; statements = Statement.Persist (key 0 1) (Cell.Text (68 ∷ 117 ∷ 110 ∷ 101 ∷ []) ∷ Cell.Int (pos 3) ∷ []) ∷ Statement.Flush ∷ Statement.Clear ∷ Statement.Find (key 0 1) ∷ Statement.Rollback ∷ [] }
      ∷ record { name = []; statements = Statement.Find (key 0 1) ∷ Statement.Commit ∷ [] }
      ∷ [];
}

abbrev pub rolled_back_insert : Journal
rolled_back_insert = run rolled_back_insert_script rolled_back_insert_script.rows (Order.Run 0 20 ∷ Order.Run 1 9 ∷ []) []

rolled_back_insert_length : length rolled_back_insert ≡ 14
unfolding all_open
rolled_back_insert_length = refl

rolled_back_insert_line_5 : slice_get (reverse rolled_back_insert) 4 ≡ Some (entry 5 (Some 0) (Part.Own 0) Act.Clear Reply.Cleared)
unfolding all_open
rolled_back_insert_line_5 = refl

rolled_back_insert_line_6 : slice_get (reverse rolled_back_insert) 5 ≡ Some (entry 6 (Some 0) Part.Store (Act.Load (key 0 1)) (Reply.Row (Some (dune 0 3))))
unfolding all_open
rolled_back_insert_line_6 = refl

rolled_back_insert_line_7 : slice_get (reverse rolled_back_insert) 6 ≡ Some (entry 7 (Some 0) Part.Store Act.Rollback Reply.Done)
unfolding all_open
rolled_back_insert_line_7 = refl

rolled_back_insert_line_8 : slice_get (reverse rolled_back_insert) 7 ≡ Some (entry 8 (Some 0) Part.Stamps (Act.Stamp (0 ∷ [])) (Reply.Stamped 8))
unfolding all_open
rolled_back_insert_line_8 = refl

rolled_back_insert_line_9 : slice_get (reverse rolled_back_insert) 8 ≡ Some (entry 9 (Some 0) Part.Registry Act.End (Reply.Ended Outcome.RolledBack))
unfolding all_open
rolled_back_insert_line_9 = refl

rolled_back_insert_line_11 : slice_get (reverse rolled_back_insert) 10 ≡ Some (entry 11 (Some 1) (Part.Region 0) (Act.Get (key 0 1) 10) (Reply.Miss Miss.Absent))
unfolding all_open
rolled_back_insert_line_11 = refl

rolled_back_insert_line_12 : slice_get (reverse rolled_back_insert) 11 ≡ Some (entry 12 (Some 1) Part.Store (Act.Load (key 0 1)) (Reply.Row None))
unfolding all_open
rolled_back_insert_line_12 = refl

-- A key is deleted and inserted again with a lower version, and an old session puts the deleted row: the key is not sound.
abbrev pub reinserted_key_script : Script
reinserted_key_script = record {
  timeout = 3;
  results = 100;
  mapping = record { name = []; strategy = Strategy.ReadWrite; versioned = true; capacity = 100; columns = [] } ∷ [];
  rows = ((key 0 1), dune 5 3) ∷ [];
  queries = [];
  schedule = [];
  sessions =
      record { name = []; statements = Statement.Find (key 0 1) ∷ Statement.Commit ∷ [] }
      ∷ record { name = []; statements = Statement.Mode Mode.Ignore ∷ Statement.Find (key 0 1) ∷ Statement.Remove (key 0 1) ∷ Statement.Commit ∷ [] }
      ∷ record { name = []; statements = Statement.Mode Mode.Ignore ∷ Statement.Persist (key 0 1) (Cell.Text (68 ∷ 117 ∷ 110 ∷ 101 ∷ []) ∷ Cell.Int (pos 1) ∷ []) ∷ Statement.Commit ∷ [] }
      ∷ record { name = []; statements = Statement.Find (key 0 1) ∷ Statement.Commit ∷ [] }
      ∷ [];
}

abbrev pub reinserted_key : Journal
reinserted_key = run reinserted_key_script reinserted_key_script.rows (Order.Run 0 3 ∷ Order.Run 1 10 ∷ Order.Run 2 7 ∷ Order.Run 3 6 ∷ Order.Run 0 9 ∷ []) []

reinserted_key_length : length reinserted_key ≡ 29
unfolding all_open
reinserted_key_length = refl

reinserted_key_line_3 : slice_get (reverse reinserted_key) 2 ≡ Some (entry 3 (Some 0) Part.Store (Act.Load (key 0 1)) (Reply.Row (Some (dune 5 3))))
unfolding all_open
reinserted_key_line_3 = refl

reinserted_key_line_8 : slice_get (reverse reinserted_key) 7 ≡ Some (entry 8 (Some 1) (Part.Region 0) (Act.Lock (key 0 1) (Some 5) 1) (Reply.Locked (record { id = 8; until = 11; evicted = None })))
unfolding all_open
reinserted_key_line_8 = refl

reinserted_key_line_9 : slice_get (reverse reinserted_key) 8 ≡ Some (entry 9 (Some 1) Part.Store (Act.Write (Change.Delete (key 0 1) (Some 5))) Reply.Written)
unfolding all_open
reinserted_key_line_9 = refl

reinserted_key_line_10 : slice_get (reverse reinserted_key) 9 ≡ Some (entry 10 (Some 1) Part.Store Act.Commit (Reply.Commit Commit.Committed))
unfolding all_open
reinserted_key_line_10 = refl

reinserted_key_line_11 : slice_get (reverse reinserted_key) 10 ≡ Some (entry 11 (Some 1) (Part.Region 0) (Act.Unlock (key 0 1) 8) (Reply.Unlocked (Unlocked.Released 0)))
unfolding all_open
reinserted_key_line_11 = refl

reinserted_key_line_18 : slice_get (reverse reinserted_key) 17 ≡ Some (entry 18 (Some 2) Part.Store Act.Commit (Reply.Commit Commit.Committed))
unfolding all_open
reinserted_key_line_18 = refl

reinserted_key_line_21 : slice_get (reverse reinserted_key) 20 ≡ Some (entry 21 (Some 3) Part.Registry Act.Begin (Reply.Began 1))
unfolding all_open
reinserted_key_line_21 = refl

reinserted_key_line_22 : slice_get (reverse reinserted_key) 21 ≡ Some (entry 22 (Some 3) (Part.Region 0) (Act.Get (key 0 1) 21) (Reply.Miss (Miss.Released 11)))
unfolding all_open
reinserted_key_line_22 = refl

reinserted_key_line_23 : slice_get (reverse reinserted_key) 22 ≡ Some (entry 23 (Some 3) Part.Store (Act.Load (key 0 1)) (Reply.Row (Some (dune 0 1))))
unfolding all_open
reinserted_key_line_23 = refl

reinserted_key_line_24 : slice_get (reverse reinserted_key) 23 ≡ Some (entry 24 (Some 3) (Part.Region 0) (Act.Put (key 0 1) (dune 0 1) 21 1) (Reply.Put (Put.Stored None false)))
unfolding all_open
reinserted_key_line_24 = refl

reinserted_key_line_27 : slice_get (reverse reinserted_key) 26 ≡ Some (entry 27 (Some 0) (Part.Region 0) (Act.Put (key 0 1) (dune 5 3) 1 1) (Reply.Put (Put.Stored None false)))
unfolding all_open
reinserted_key_line_27 = refl

reinserted_key_line_29 : slice_get (reverse reinserted_key) 28 ≡ Some (entry 29 (Some 0) Part.Registry Act.End (Reply.Ended Outcome.Committed))
unfolding all_open
reinserted_key_line_29 = refl

reinserted_key_unsound : is_sound (key 0 1) reinserted_key ≡ false
unfolding all_open
reinserted_key_unsound = refl
