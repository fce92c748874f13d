-- Two writers stamp a table ahead of their writes. The one that ends first sets the stamp back, so a result that is kept then
-- is fresh even after the other has committed. It is stale from the other's own stamp on.
use Rattle.std.proofs.Common.{◌≡◌, length, slice_get, true, [], ◌∷◌, reverse, Some, None, refl, inl, pos, lit≤, lit<}
use Rattle.hib_journal.specs.Types.{Cell, Strategy, Mode, Select, Statement, Script, Part, Act, Outcome, Commit, Checked, Reply, Order}
use Rattle.hib_journal.specs.Sessions.{Journal}
use Rattle.hib_journal.specs.Room.{key}
use Rattle.hib_journal.specs.Legal.{IsLegal}
use Rattle.hib_rows.proofs.Run.{dune, emma, entry, run, ◌▷◌, all_open}

abbrev pub two_stamps_ahead_script : Script
two_stamps_ahead_script = record {
  timeout = 1000;
  results = 100;
  mapping = record { name = []; strategy = Strategy.ReadWrite; versioned = true; capacity = 100; columns = [] } ∷ [];
  rows = ((key 0 1), dune 0 3) ∷ ((key 0 2), emma 0 5) ∷ [];
  queries = record { name = []; cached = true; entity = 0; condition = None; order = []; offset = 0; limit = 200; select = Select.Column 1 } ∷ [];
  schedule = [];
  sessions =
      record { name = []; statements = Statement.Mode Mode.Ignore ∷ Statement.Find (key 0 1) ∷ Statement.Set (key 0 1) ((1, Cell.Int (pos 2)) ∷ []) ∷ Statement.Commit ∷ [] }
      ∷ record { name = []; statements = Statement.Mode Mode.Ignore ∷ Statement.Find (key 0 2) ∷ Statement.Set (key 0 2) ((1, Cell.Int (pos 4)) ∷ []) ∷ Statement.Commit ∷ [] }
      ∷ record { name = []; statements = Statement.List 0 ∷ Statement.Commit ∷ [] }
      ∷ record { name = []; statements = Statement.List 0 ∷ Statement.Commit ∷ [] }
      ∷ record { name = []; statements = Statement.List 0 ∷ Statement.Commit ∷ [] }
      ∷ [];
}

abbrev pub two_stamps_ahead : Journal
two_stamps_ahead = run two_stamps_ahead_script two_stamps_ahead_script.rows (Order.Run 0 3 ∷ Order.Run 1 3 ∷ Order.Run 0 1 ∷ Order.Run 1 1 ∷ Order.Run 0 6 ∷ Order.Run 2 6 ∷ Order.Run 1 3 ∷ Order.Run 3 5 ∷ Order.Run 1 3 ∷ Order.Run 4 7 ∷ []) []

two_stamps_ahead_length : length two_stamps_ahead ≡ 38
unfolding all_open
two_stamps_ahead_length = refl

two_stamps_ahead_line_7 : slice_get (reverse two_stamps_ahead) 6 ≡ Some (entry 7 (Some 0) Part.Stamps (Act.Pre (0 ∷ [])) (Reply.Stamped 1007))
unfolding all_open
two_stamps_ahead_line_7 = refl

two_stamps_ahead_line_8 : slice_get (reverse two_stamps_ahead) 7 ≡ Some (entry 8 (Some 1) Part.Stamps (Act.Pre (0 ∷ [])) (Reply.Stamped 1008))
unfolding all_open
two_stamps_ahead_line_8 = refl

two_stamps_ahead_line_11 : slice_get (reverse two_stamps_ahead) 10 ≡ Some (entry 11 (Some 0) Part.Store Act.Commit (Reply.Commit Commit.Committed))
unfolding all_open
two_stamps_ahead_line_11 = refl

two_stamps_ahead_line_13 : slice_get (reverse two_stamps_ahead) 12 ≡ Some (entry 13 (Some 0) Part.Stamps (Act.Stamp (0 ∷ [])) (Reply.Stamped 13))
unfolding all_open
two_stamps_ahead_line_13 = refl

two_stamps_ahead_line_14 : slice_get (reverse two_stamps_ahead) 13 ≡ Some (entry 14 (Some 0) Part.Registry Act.End (Reply.Ended Outcome.Committed))
unfolding all_open
two_stamps_ahead_line_14 = refl

two_stamps_ahead_line_15 : slice_get (reverse two_stamps_ahead) 14 ≡ Some (entry 15 (Some 2) Part.Registry Act.Begin (Reply.Began 4))
unfolding all_open
two_stamps_ahead_line_15 = refl

two_stamps_ahead_line_16 : slice_get (reverse two_stamps_ahead) 15 ≡ Some (entry 16 (Some 2) Part.Results (Act.Look 0) Reply.Absent)
unfolding all_open
two_stamps_ahead_line_16 = refl

two_stamps_ahead_line_17 : slice_get (reverse two_stamps_ahead) 16 ≡ Some (entry 17 (Some 2) Part.Store (Act.List 0) (Reply.Listed ((Cell.Int (pos 2)) ∷ (Cell.Int (pos 5)) ∷ [])))
unfolding all_open
two_stamps_ahead_line_17 = refl

two_stamps_ahead_line_18 : slice_get (reverse two_stamps_ahead) 17 ≡ Some (entry 18 (Some 2) Part.Results (Act.Keep 0 15 ((Cell.Int (pos 2)) ∷ (Cell.Int (pos 5)) ∷ [])) (Reply.Kept None))
unfolding all_open
two_stamps_ahead_line_18 = refl

two_stamps_ahead_line_20 : slice_get (reverse two_stamps_ahead) 19 ≡ Some (entry 20 (Some 2) Part.Registry Act.End (Reply.Ended Outcome.Committed))
unfolding all_open
two_stamps_ahead_line_20 = refl

two_stamps_ahead_line_21 : slice_get (reverse two_stamps_ahead) 20 ≡ Some (entry 21 (Some 1) (Part.Region 0) (Act.Lock (key 0 2) (Some 0) 1) (Reply.Locked (record { id = 21; until = 1021; evicted = None })))
unfolding all_open
two_stamps_ahead_line_21 = refl

two_stamps_ahead_line_23 : slice_get (reverse two_stamps_ahead) 22 ≡ Some (entry 23 (Some 1) Part.Store Act.Commit (Reply.Commit Commit.Committed))
unfolding all_open
two_stamps_ahead_line_23 = refl

two_stamps_ahead_line_24 : slice_get (reverse two_stamps_ahead) 23 ≡ Some (entry 24 (Some 3) Part.Registry Act.Begin (Reply.Began 4))
unfolding all_open
two_stamps_ahead_line_24 = refl

two_stamps_ahead_line_25 : slice_get (reverse two_stamps_ahead) 24 ≡ Some (entry 25 (Some 3) Part.Results (Act.Look 0) (Reply.Found 15 ((Cell.Int (pos 2)) ∷ (Cell.Int (pos 5)) ∷ [])))
unfolding all_open
two_stamps_ahead_line_25 = refl

two_stamps_ahead_line_26 : slice_get (reverse two_stamps_ahead) 25 ≡ Some (entry 26 (Some 3) Part.Stamps (Act.Check 0 15) (Reply.Check Checked.Fresh))
unfolding all_open
two_stamps_ahead_line_26 = refl

two_stamps_ahead_line_28 : slice_get (reverse two_stamps_ahead) 27 ≡ Some (entry 28 (Some 3) Part.Registry Act.End (Reply.Ended Outcome.Committed))
unfolding all_open
two_stamps_ahead_line_28 = refl

two_stamps_ahead_line_30 : slice_get (reverse two_stamps_ahead) 29 ≡ Some (entry 30 (Some 1) Part.Stamps (Act.Stamp (0 ∷ [])) (Reply.Stamped 30))
unfolding all_open
two_stamps_ahead_line_30 = refl

two_stamps_ahead_line_32 : slice_get (reverse two_stamps_ahead) 31 ≡ Some (entry 32 (Some 4) Part.Registry Act.Begin (Reply.Began 32))
unfolding all_open
two_stamps_ahead_line_32 = refl

two_stamps_ahead_line_33 : slice_get (reverse two_stamps_ahead) 32 ≡ Some (entry 33 (Some 4) Part.Results (Act.Look 0) (Reply.Found 15 ((Cell.Int (pos 2)) ∷ (Cell.Int (pos 5)) ∷ [])))
unfolding all_open
two_stamps_ahead_line_33 = refl

two_stamps_ahead_line_34 : slice_get (reverse two_stamps_ahead) 33 ≡ Some (entry 34 (Some 4) Part.Stamps (Act.Check 0 15) (Reply.Check (Checked.Stale 0 30)))
unfolding all_open
two_stamps_ahead_line_34 = refl

two_stamps_ahead_line_35 : slice_get (reverse two_stamps_ahead) 34 ≡ Some (entry 35 (Some 4) Part.Store (Act.List 0) (Reply.Listed ((Cell.Int (pos 2)) ∷ (Cell.Int (pos 4)) ∷ [])))
unfolding all_open
two_stamps_ahead_line_35 = refl

two_stamps_ahead_line_36 : slice_get (reverse two_stamps_ahead) 35 ≡ Some (entry 36 (Some 4) Part.Results (Act.Keep 0 32 ((Cell.Int (pos 2)) ∷ (Cell.Int (pos 4)) ∷ [])) (Reply.Kept None))
unfolding all_open
two_stamps_ahead_line_36 = refl

two_stamps_ahead_line_38 : slice_get (reverse two_stamps_ahead) 37 ≡ Some (entry 38 (Some 4) Part.Registry Act.End (Reply.Ended Outcome.Committed))
unfolding all_open
two_stamps_ahead_line_38 = refl

two_stamps_ahead_legal : IsLegal two_stamps_ahead_script (Some two_stamps_ahead_script.rows) two_stamps_ahead
unfolding all_open
two_stamps_ahead_legal = tt
    ▷ record { tick = record { positive = lit≤ tt; bounded = lit≤ tt; ordered = lit≤ tt; in_part = lit< tt; in_session = lit< tt }; session = refl; part = refl; act = refl; reply = inl refl }
    ▷ record { tick = record { positive = lit≤ tt; bounded = lit≤ tt; ordered = lit≤ tt; in_part = lit< tt; in_session = lit< tt }; session = refl; part = refl; act = refl; reply = inl refl }
    ▷ record { tick = record { positive = lit≤ tt; bounded = lit≤ tt; ordered = lit≤ tt; in_part = lit< tt; in_session = lit< tt }; session = refl; part = refl; act = refl; reply = inl refl }
    ▷ record { tick = record { positive = lit≤ tt; bounded = lit≤ tt; ordered = lit≤ tt; in_part = lit< tt; in_session = lit< tt }; session = refl; part = refl; act = refl; reply = inl refl }
    ▷ record { tick = record { positive = lit≤ tt; bounded = lit≤ tt; ordered = lit≤ tt; in_part = lit< tt; in_session = lit< tt }; session = refl; part = refl; act = refl; reply = inl refl }
    ▷ record { tick = record { positive = lit≤ tt; bounded = lit≤ tt; ordered = lit≤ tt; in_part = lit< tt; in_session = lit< tt }; session = refl; part = refl; act = refl; reply = inl refl }
    ▷ record { tick = record { positive = lit≤ tt; bounded = lit≤ tt; ordered = lit≤ tt; in_part = lit< tt; in_session = lit< tt }; session = refl; part = refl; act = refl; reply = inl refl }
    ▷ record { tick = record { positive = lit≤ tt; bounded = lit≤ tt; ordered = lit≤ tt; in_part = lit< tt; in_session = lit< tt }; session = refl; part = refl; act = refl; reply = inl refl }
    ▷ record { tick = record { positive = lit≤ tt; bounded = lit≤ tt; ordered = lit≤ tt; in_part = lit< tt; in_session = lit< tt }; session = refl; part = refl; act = refl; reply = inl refl }
    ▷ record { tick = record { positive = lit≤ tt; bounded = lit≤ tt; ordered = lit≤ tt; in_part = lit< tt; in_session = lit< tt }; session = refl; part = refl; act = refl; reply = inl refl }
    ▷ record { tick = record { positive = lit≤ tt; bounded = lit≤ tt; ordered = lit≤ tt; in_part = lit< tt; in_session = lit< tt }; session = refl; part = refl; act = refl; reply = inl refl }
    ▷ record { tick = record { positive = lit≤ tt; bounded = lit≤ tt; ordered = lit≤ tt; in_part = lit< tt; in_session = lit< tt }; session = refl; part = refl; act = refl; reply = inl refl }
    ▷ record { tick = record { positive = lit≤ tt; bounded = lit≤ tt; ordered = lit≤ tt; in_part = lit< tt; in_session = lit< tt }; session = refl; part = refl; act = refl; reply = inl refl }
    ▷ record { tick = record { positive = lit≤ tt; bounded = lit≤ tt; ordered = lit≤ tt; in_part = lit< tt; in_session = lit< tt }; session = refl; part = refl; act = refl; reply = inl refl }
    ▷ record { tick = record { positive = lit≤ tt; bounded = lit≤ tt; ordered = lit≤ tt; in_part = lit< tt; in_session = lit< tt }; session = refl; part = refl; act = refl; reply = inl refl }
    ▷ record { tick = record { positive = lit≤ tt; bounded = lit≤ tt; ordered = lit≤ tt; in_part = lit< tt; in_session = lit< tt }; session = refl; part = refl; act = refl; reply = inl refl }
    ▷ record { tick = record { positive = lit≤ tt; bounded = lit≤ tt; ordered = lit≤ tt; in_part = lit< tt; in_session = lit< tt }; session = refl; part = refl; act = refl; reply = inl refl }
    ▷ record { tick = record { positive = lit≤ tt; bounded = lit≤ tt; ordered = lit≤ tt; in_part = lit< tt; in_session = lit< tt }; session = refl; part = refl; act = refl; reply = inl refl }
    ▷ record { tick = record { positive = lit≤ tt; bounded = lit≤ tt; ordered = lit≤ tt; in_part = lit< tt; in_session = lit< tt }; session = refl; part = refl; act = refl; reply = inl refl }
    ▷ record { tick = record { positive = lit≤ tt; bounded = lit≤ tt; ordered = lit≤ tt; in_part = lit< tt; in_session = lit< tt }; session = refl; part = refl; act = refl; reply = inl refl }
    ▷ record { tick = record { positive = lit≤ tt; bounded = lit≤ tt; ordered = lit≤ tt; in_part = lit< tt; in_session = lit< tt }; session = refl; part = refl; act = refl; reply = inl refl }
    ▷ record { tick = record { positive = lit≤ tt; bounded = lit≤ tt; ordered = lit≤ tt; in_part = lit< tt; in_session = lit< tt }; session = refl; part = refl; act = refl; reply = inl refl }
    ▷ record { tick = record { positive = lit≤ tt; bounded = lit≤ tt; ordered = lit≤ tt; in_part = lit< tt; in_session = lit< tt }; session = refl; part = refl; act = refl; reply = inl refl }
    ▷ record { tick = record { positive = lit≤ tt; bounded = lit≤ tt; ordered = lit≤ tt; in_part = lit< tt; in_session = lit< tt }; session = refl; part = refl; act = refl; reply = inl refl }
    ▷ record { tick = record { positive = lit≤ tt; bounded = lit≤ tt; ordered = lit≤ tt; in_part = lit< tt; in_session = lit< tt }; session = refl; part = refl; act = refl; reply = inl refl }
    ▷ record { tick = record { positive = lit≤ tt; bounded = lit≤ tt; ordered = lit≤ tt; in_part = lit< tt; in_session = lit< tt }; session = refl; part = refl; act = refl; reply = inl refl }
    ▷ record { tick = record { positive = lit≤ tt; bounded = lit≤ tt; ordered = lit≤ tt; in_part = lit< tt; in_session = lit< tt }; session = refl; part = refl; act = refl; reply = inl refl }
    ▷ record { tick = record { positive = lit≤ tt; bounded = lit≤ tt; ordered = lit≤ tt; in_part = lit< tt; in_session = lit< tt }; session = refl; part = refl; act = refl; reply = inl refl }
    ▷ record { tick = record { positive = lit≤ tt; bounded = lit≤ tt; ordered = lit≤ tt; in_part = lit< tt; in_session = lit< tt }; session = refl; part = refl; act = refl; reply = inl refl }
    ▷ record { tick = record { positive = lit≤ tt; bounded = lit≤ tt; ordered = lit≤ tt; in_part = lit< tt; in_session = lit< tt }; session = refl; part = refl; act = refl; reply = inl refl }
    ▷ record { tick = record { positive = lit≤ tt; bounded = lit≤ tt; ordered = lit≤ tt; in_part = lit< tt; in_session = lit< tt }; session = refl; part = refl; act = refl; reply = inl refl }
    ▷ record { tick = record { positive = lit≤ tt; bounded = lit≤ tt; ordered = lit≤ tt; in_part = lit< tt; in_session = lit< tt }; session = refl; part = refl; act = refl; reply = inl refl }
    ▷ record { tick = record { positive = lit≤ tt; bounded = lit≤ tt; ordered = lit≤ tt; in_part = lit< tt; in_session = lit< tt }; session = refl; part = refl; act = refl; reply = inl refl }
    ▷ record { tick = record { positive = lit≤ tt; bounded = lit≤ tt; ordered = lit≤ tt; in_part = lit< tt; in_session = lit< tt }; session = refl; part = refl; act = refl; reply = inl refl }
    ▷ record { tick = record { positive = lit≤ tt; bounded = lit≤ tt; ordered = lit≤ tt; in_part = lit< tt; in_session = lit< tt }; session = refl; part = refl; act = refl; reply = inl refl }
    ▷ record { tick = record { positive = lit≤ tt; bounded = lit≤ tt; ordered = lit≤ tt; in_part = lit< tt; in_session = lit< tt }; session = refl; part = refl; act = refl; reply = inl refl }
    ▷ record { tick = record { positive = lit≤ tt; bounded = lit≤ tt; ordered = lit≤ tt; in_part = lit< tt; in_session = lit< tt }; session = refl; part = refl; act = refl; reply = inl refl }
    ▷ record { tick = record { positive = lit≤ tt; bounded = lit≤ tt; ordered = lit≤ tt; in_part = lit< tt; in_session = lit< tt }; session = refl; part = refl; act = refl; reply = inl refl }
