-- Worked journals of queries and kept results, line by line.
use Rattle.std.proofs.Common.{◌≡◌, length, slice_get, true, [], ◌∷◌, reverse, Some, None, refl, pos}
use Rattle.hib_journal.specs.Types.{Cell, Change, Strategy, Select, Statement, Script, Part, Act, Outcome, Commit, Inserted, Reply, Order}
use Rattle.hib_journal.specs.Sessions.{Journal}
use Rattle.hib_journal.specs.Room.{key}
use Rattle.hib_rows.proofs.Run.{dune, entry, run, all_open}

-- A list writes what is pending first, and a session that has written the table does not look among the results.
abbrev pub listed_own_insert_script : Script
listed_own_insert_script = record {
  timeout = 1000;
  results = 100;
  mapping = record { name = []; strategy = Strategy.ReadWrite; versioned = true; capacity = 100; columns = [] } ∷ [];
  rows = [];
  queries = record { name = []; cached = true; entity = 0; condition = None; order = []; offset = 0; limit = 200; select = Select.Count } ∷ [];
  schedule = [];
  sessions =
      record { name = []; statements = Statement.Persist (key 0 1) (Cell.Text (68 ∷ 117 ∷ 110 ∷ 101 ∷ []) ∷ Cell.Int (pos 3) ∷ []) ∷ Statement.List 0 ∷ Statement.Commit ∷ [] }
      ∷ [];
}

abbrev pub listed_own_insert : Journal
listed_own_insert = run listed_own_insert_script listed_own_insert_script.rows (Order.Run 0 20 ∷ []) []

listed_own_insert_length : length listed_own_insert ≡ 9
unfolding all_open
listed_own_insert_length = refl

listed_own_insert_line_3 : slice_get (reverse listed_own_insert) 2 ≡ Some (entry 3 (Some 0) Part.Stamps (Act.Pre (0 ∷ [])) (Reply.Stamped 1003))
unfolding all_open
listed_own_insert_line_3 = refl

listed_own_insert_line_4 : slice_get (reverse listed_own_insert) 3 ≡ Some (entry 4 (Some 0) Part.Store (Act.Write (Change.Insert (key 0 1) (dune 0 3))) Reply.Written)
unfolding all_open
listed_own_insert_line_4 = refl

listed_own_insert_line_5 : slice_get (reverse listed_own_insert) 4 ≡ Some (entry 5 (Some 0) Part.Store (Act.List 0) (Reply.Listed ((Cell.Int (pos 1)) ∷ [])))
unfolding all_open
listed_own_insert_line_5 = refl

listed_own_insert_line_6 : slice_get (reverse listed_own_insert) 5 ≡ Some (entry 6 (Some 0) Part.Store Act.Commit (Reply.Commit Commit.Committed))
unfolding all_open
listed_own_insert_line_6 = refl

listed_own_insert_line_7 : slice_get (reverse listed_own_insert) 6 ≡ Some (entry 7 (Some 0) (Part.Region 0) (Act.AfterInsert (key 0 1) (dune 0 3) 1) (Reply.Inserted (Inserted.Stored None)))
unfolding all_open
listed_own_insert_line_7 = refl

listed_own_insert_line_8 : slice_get (reverse listed_own_insert) 7 ≡ Some (entry 8 (Some 0) Part.Stamps (Act.Stamp (0 ∷ [])) (Reply.Stamped 8))
unfolding all_open
listed_own_insert_line_8 = refl

listed_own_insert_line_9 : slice_get (reverse listed_own_insert) 8 ≡ Some (entry 9 (Some 0) Part.Registry Act.End (Reply.Ended Outcome.Committed))
unfolding all_open
listed_own_insert_line_9 = refl

-- Room for one result: to keep a second drops the first.
abbrev pub one_result_script : Script
one_result_script = record {
  timeout = 1000;
  results = 1;
  mapping = record { name = []; strategy = Strategy.ReadWrite; versioned = true; capacity = 100; columns = [] } ∷ [];
  rows = [];
  queries = record { name = []; cached = true; entity = 0; condition = None; order = []; offset = 0; limit = 200; select = Select.Count } ∷ record { name = []; cached = true; entity = 0; condition = None; order = []; offset = 0; limit = 200; select = Select.Ids } ∷ [];
  schedule = [];
  sessions =
      record { name = []; statements = Statement.List 0 ∷ Statement.List 1 ∷ Statement.List 0 ∷ Statement.Commit ∷ [] }
      ∷ [];
}

abbrev pub one_result : Journal
one_result = run one_result_script one_result_script.rows (Order.Run 0 20 ∷ []) []

one_result_length : length one_result ≡ 12
unfolding all_open
one_result_length = refl

one_result_line_3 : slice_get (reverse one_result) 2 ≡ Some (entry 3 (Some 0) Part.Store (Act.List 0) (Reply.Listed ((Cell.Int (pos 0)) ∷ [])))
unfolding all_open
one_result_line_3 = refl

one_result_line_4 : slice_get (reverse one_result) 3 ≡ Some (entry 4 (Some 0) Part.Results (Act.Keep 0 1 ((Cell.Int (pos 0)) ∷ [])) (Reply.Kept None))
unfolding all_open
one_result_line_4 = refl

one_result_line_7 : slice_get (reverse one_result) 6 ≡ Some (entry 7 (Some 0) Part.Results (Act.Keep 1 1 []) (Reply.Kept (Some 0)))
unfolding all_open
one_result_line_7 = refl

one_result_line_8 : slice_get (reverse one_result) 7 ≡ Some (entry 8 (Some 0) Part.Results (Act.Look 0) Reply.Absent)
unfolding all_open
one_result_line_8 = refl

one_result_line_10 : slice_get (reverse one_result) 9 ≡ Some (entry 10 (Some 0) Part.Results (Act.Keep 0 1 ((Cell.Int (pos 0)) ∷ [])) (Reply.Kept (Some 1)))
unfolding all_open
one_result_line_10 = refl

one_result_line_12 : slice_get (reverse one_result) 11 ≡ Some (entry 12 (Some 0) Part.Registry Act.End (Reply.Ended Outcome.Committed))
unfolding all_open
one_result_line_12 = refl
