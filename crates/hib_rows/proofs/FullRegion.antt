-- A region for one key, while a session is open that began before its item was stored: a second key is crowded out, but its lock is let in.
-- When the old session has ended, a third key evicts the first.
use Rattle.std.proofs.Common.{◌≡◌, length, slice_get, true, false, [], ◌∷◌, reverse, Some, None, refl, inl, pos, lit≤, lit<}
use Rattle.hib_journal.specs.Types.{Cell, Strategy, Statement, Script, Part, Act, Outcome, Commit, Put, Updated, Reply, Order}
use Rattle.hib_journal.specs.Sessions.{Journal}
use Rattle.hib_journal.specs.Room.{key}
use Rattle.hib_journal.specs.Legal.{IsLegal}
use Rattle.hib_rows.proofs.Run.{dune, emma, ulysses, entry, run, ◌▷◌, all_open}

abbrev pub full_region_script : Script
full_region_script = record {
  timeout = 1000;
  results = 100;
  mapping = record { name = []; strategy = Strategy.ReadWrite; versioned = true; capacity = 1; columns = [] } ∷ [];
  rows = ((key 0 1), dune 0 3) ∷ ((key 0 2), emma 0 5) ∷ ((key 0 3), ulysses 0 1) ∷ [];
  queries = [];
  schedule = [];
  sessions =
      record { name = []; statements = Statement.Find (key 0 1) ∷ Statement.Commit ∷ [] }
      ∷ record { name = []; statements = Statement.Find (key 0 2) ∷ Statement.Set (key 0 2) ((1, Cell.Int (pos 4)) ∷ []) ∷ Statement.Commit ∷ [] }
      ∷ record { name = []; statements = Statement.Find (key 0 3) ∷ Statement.Commit ∷ [] }
      ∷ [];
}

abbrev pub full_region : Journal
full_region = run full_region_script full_region_script.rows (Order.Run 0 4 ∷ Order.Run 1 12 ∷ Order.Run 0 2 ∷ Order.Run 2 6 ∷ []) []

full_region_length : length full_region ≡ 24
unfolding all_open
full_region_length = refl

full_region_line_4 : slice_get (reverse full_region) 3 ≡ Some (entry 4 (Some 0) (Part.Region 0) (Act.Put (key 0 1) (dune 0 3) 1 1) (Reply.Put (Put.Stored None false)))
unfolding all_open
full_region_line_4 = refl

full_region_line_5 : slice_get (reverse full_region) 4 ≡ Some (entry 5 (Some 1) Part.Registry Act.Begin (Reply.Began 1))
unfolding all_open
full_region_line_5 = refl

full_region_line_8 : slice_get (reverse full_region) 7 ≡ Some (entry 8 (Some 1) (Part.Region 0) (Act.Put (key 0 2) (emma 0 5) 5 1) (Reply.Put Put.Crowded))
unfolding all_open
full_region_line_8 = refl

full_region_line_11 : slice_get (reverse full_region) 10 ≡ Some (entry 11 (Some 1) (Part.Region 0) (Act.Lock (key 0 2) (Some 0) 1) (Reply.Locked (record { id = 11; until = 1011; evicted = None })))
unfolding all_open
full_region_line_11 = refl

full_region_line_13 : slice_get (reverse full_region) 12 ≡ Some (entry 13 (Some 1) Part.Store Act.Commit (Reply.Commit Commit.Committed))
unfolding all_open
full_region_line_13 = refl

full_region_line_14 : slice_get (reverse full_region) 13 ≡ Some (entry 14 (Some 1) (Part.Region 0) (Act.AfterUpdate (key 0 2) 11 (emma 1 4)) (Reply.Updated Updated.Stored))
unfolding all_open
full_region_line_14 = refl

full_region_line_18 : slice_get (reverse full_region) 17 ≡ Some (entry 18 (Some 0) Part.Registry Act.End (Reply.Ended Outcome.Committed))
unfolding all_open
full_region_line_18 = refl

full_region_line_19 : slice_get (reverse full_region) 18 ≡ Some (entry 19 (Some 2) Part.Registry Act.Begin (Reply.Began 19))
unfolding all_open
full_region_line_19 = refl

full_region_line_22 : slice_get (reverse full_region) 21 ≡ Some (entry 22 (Some 2) (Part.Region 0) (Act.Put (key 0 3) (ulysses 0 1) 19 19) (Reply.Put (Put.Stored (Some 1) false)))
unfolding all_open
full_region_line_22 = refl

full_region_line_24 : slice_get (reverse full_region) 23 ≡ Some (entry 24 (Some 2) Part.Registry Act.End (Reply.Ended Outcome.Committed))
unfolding all_open
full_region_line_24 = refl

full_region_legal : IsLegal full_region_script (Some full_region_script.rows) full_region
unfolding all_open
full_region_legal = tt
    ▷ record { tick = record { positive = lit≤ tt; bounded = lit≤ tt; ordered = lit≤ tt; in_part = lit< tt; in_session = lit< tt }; session = refl; part = refl; act = refl; reply = inl refl }
    ▷ record { tick = record { positive = lit≤ tt; bounded = lit≤ tt; ordered = lit≤ tt; in_part = lit< tt; in_session = lit< tt }; session = refl; part = refl; act = refl; reply = inl refl }
    ▷ record { tick = record { positive = lit≤ tt; bounded = lit≤ tt; ordered = lit≤ tt; in_part = lit< tt; in_session = lit< tt }; session = refl; part = refl; act = refl; reply = inl refl }
    ▷ record { tick = record { positive = lit≤ tt; bounded = lit≤ tt; ordered = lit≤ tt; in_part = lit< tt; in_session = lit< tt }; session = refl; part = refl; act = refl; reply = inl refl }
    ▷ record { tick = record { positive = lit≤ tt; bounded = lit≤ tt; ordered = lit≤ tt; in_part = lit< tt; in_session = lit< tt }; session = refl; part = refl; act = refl; reply = inl refl }
    ▷ record { tick = record { positive = lit≤ tt; bounded = lit≤ tt; ordered = lit≤ tt; in_part = lit< tt; in_session = lit< tt }; session = refl; part = refl; act = refl; reply = inl refl }
    ▷ record { tick = record { positive = lit≤ tt; bounded = lit≤ tt; ordered = lit≤ tt; in_part = lit< tt; in_session = lit< tt }; session = refl; part = refl; act = refl; reply = inl refl }
    ▷ record { tick = record { positive = lit≤ tt; bounded = lit≤ tt; ordered = lit≤ tt; in_part = lit< tt; in_session = lit< tt }; session = refl; part = refl; act = refl; reply = inl refl }
    ▷ record { tick = record { positive = lit≤ tt; bounded = lit≤ tt; ordered = lit≤ tt; in_part = lit< tt; in_session = lit< tt }; session = refl; part = refl; act = refl; reply = inl refl }
    ▷ record { tick = record { positive = lit≤ tt; bounded = lit≤ tt; ordered = lit≤ tt; in_part = lit< tt; in_session = lit< tt }; session = refl; part = refl; act = refl; reply = inl refl }
    ▷ record { tick = record { positive = lit≤ tt; bounded = lit≤ tt; ordered = lit≤ tt; in_part = lit< tt; in_session = lit< tt }; session = refl; part = refl; act = refl; reply = inl refl }
    ▷ record { tick = record { positive = lit≤ tt; bounded = lit≤ tt; ordered = lit≤ tt; in_part = lit< tt; in_session = lit< tt }; session = refl; part = refl; act = refl; reply = inl refl }
    ▷ record { tick = record { positive = lit≤ tt; bounded = lit≤ tt; ordered = lit≤ tt; in_part = lit< tt; in_session = lit< tt }; session = refl; part = refl; act = refl; reply = inl refl }
    ▷ record { tick = record { positive = lit≤ tt; bounded = lit≤ tt; ordered = lit≤ tt; in_part = lit< tt; in_session = lit< tt }; session = refl; part = refl; act = refl; reply = inl refl }
    ▷ record { tick = record { positive = lit≤ tt; bounded = lit≤ tt; ordered = lit≤ tt; in_part = lit< tt; in_session = lit< tt }; session = refl; part = refl; act = refl; reply = inl refl }
    ▷ record { tick = record { positive = lit≤ tt; bounded = lit≤ tt; ordered = lit≤ tt; in_part = lit< tt; in_session = lit< tt }; session = refl; part = refl; act = refl; reply = inl refl }
    ▷ record { tick = record { positive = lit≤ tt; bounded = lit≤ tt; ordered = lit≤ tt; in_part = lit< tt; in_session = lit< tt }; session = refl; part = refl; act = refl; reply = inl refl }
    ▷ record { tick = record { positive = lit≤ tt; bounded = lit≤ tt; ordered = lit≤ tt; in_part = lit< tt; in_session = lit< tt }; session = refl; part = refl; act = refl; reply = inl refl }
    ▷ record { tick = record { positive = lit≤ tt; bounded = lit≤ tt; ordered = lit≤ tt; in_part = lit< tt; in_session = lit< tt }; session = refl; part = refl; act = refl; reply = inl refl }
    ▷ record { tick = record { positive = lit≤ tt; bounded = lit≤ tt; ordered = lit≤ tt; in_part = lit< tt; in_session = lit< tt }; session = refl; part = refl; act = refl; reply = inl refl }
    ▷ record { tick = record { positive = lit≤ tt; bounded = lit≤ tt; ordered = lit≤ tt; in_part = lit< tt; in_session = lit< tt }; session = refl; part = refl; act = refl; reply = inl refl }
    ▷ record { tick = record { positive = lit≤ tt; bounded = lit≤ tt; ordered = lit≤ tt; in_part = lit< tt; in_session = lit< tt }; session = refl; part = refl; act = refl; reply = inl refl }
    ▷ record { tick = record { positive = lit≤ tt; bounded = lit≤ tt; ordered = lit≤ tt; in_part = lit< tt; in_session = lit< tt }; session = refl; part = refl; act = refl; reply = inl refl }
    ▷ record { tick = record { positive = lit≤ tt; bounded = lit≤ tt; ordered = lit≤ tt; in_part = lit< tt; in_session = lit< tt }; session = refl; part = refl; act = refl; reply = inl refl }
