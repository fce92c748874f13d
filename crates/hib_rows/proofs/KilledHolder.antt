-- A session is killed while it holds a lock. A session that begins before the lock's time is up puts in vain, and the put of a later one
-- is stored late. After a restart the region is empty.
use Rattle.std.proofs.Common.{◌≡◌, length, drop, slice_get, true, false, [], ◌∷◌, reverse, Some, None, refl, inl, pos, lit≤, lit<}
use Rattle.hib_journal.specs.Types.{Cell, Strategy, Mode, Statement, Script, Part, Act, Outcome, Miss, Put, Reply, Order}
use Rattle.hib_journal.specs.Sessions.{Journal}
use Rattle.hib_journal.specs.Room.{key}
use Rattle.hib_journal.specs.Legal.{IsLegal}
use Rattle.hib_journal.specs.Sound.{is_sound}
use Rattle.hib_rows.proofs.Run.{dune, entry, run, ◌▷◌, all_open}

abbrev pub killed_holder_script : Script
killed_holder_script = record {
  timeout = 3;
  results = 100;
  mapping = record { name = []; strategy = Strategy.ReadWrite; versioned = true; capacity = 100; columns = [] } ∷ [];
  rows = ((key 0 1), dune 0 3) ∷ [];
  queries = [];
  schedule = [];
  sessions =
      record { name = []; statements = Statement.Mode Mode.Ignore ∷ Statement.Find (key 0 1) ∷ Statement.Set (key 0 1) ((1, Cell.Int (pos 2)) ∷ []) ∷ Statement.Commit ∷ [] }
      ∷ record { name = []; statements = Statement.Find (key 0 1) ∷ Statement.Commit ∷ [] }
      ∷ record { name = []; statements = Statement.Find (key 0 1) ∷ Statement.Commit ∷ [] }
      ∷ record { name = []; statements = Statement.Find (key 0 1) ∷ Statement.Commit ∷ [] }
      ∷ [];
}

abbrev pub killed_holder : Journal
killed_holder = run killed_holder_script killed_holder_script.rows (Order.Run 0 5 ∷ Order.Kill 0 ∷ Order.Run 1 6 ∷ Order.Run 2 6 ∷ Order.Restart ∷ Order.Run 3 6 ∷ []) []

killed_holder_length : length killed_holder ≡ 25
unfolding all_open
killed_holder_length = refl

killed_holder_line_5 : slice_get (reverse killed_holder) 4 ≡ Some (entry 5 (Some 0) (Part.Region 0) (Act.Lock (key 0 1) (Some 0) 1) (Reply.Locked (record { id = 5; until = 8; evicted = None })))
unfolding all_open
killed_holder_line_5 = refl

killed_holder_line_6 : slice_get (reverse killed_holder) 5 ≡ Some (entry 6 None Part.Registry (Act.Kill 0) Reply.Done)
unfolding all_open
killed_holder_line_6 = refl

killed_holder_line_7 : slice_get (reverse killed_holder) 6 ≡ Some (entry 7 (Some 1) Part.Registry Act.Begin (Reply.Began 7))
unfolding all_open
killed_holder_line_7 = refl

killed_holder_line_8 : slice_get (reverse killed_holder) 7 ≡ Some (entry 8 (Some 1) (Part.Region 0) (Act.Get (key 0 1) 7) (Reply.Miss (Miss.Locked 1)))
unfolding all_open
killed_holder_line_8 = refl

killed_holder_line_10 : slice_get (reverse killed_holder) 9 ≡ Some (entry 10 (Some 1) (Part.Region 0) (Act.Put (key 0 1) (dune 0 3) 7 7) (Reply.Put (Put.Held 1)))
unfolding all_open
killed_holder_line_10 = refl

killed_holder_line_13 : slice_get (reverse killed_holder) 12 ≡ Some (entry 13 (Some 2) Part.Registry Act.Begin (Reply.Began 13))
unfolding all_open
killed_holder_line_13 = refl

killed_holder_line_14 : slice_get (reverse killed_holder) 13 ≡ Some (entry 14 (Some 2) (Part.Region 0) (Act.Get (key 0 1) 13) (Reply.Miss (Miss.Locked 1)))
unfolding all_open
killed_holder_line_14 = refl

killed_holder_line_16 : slice_get (reverse killed_holder) 15 ≡ Some (entry 16 (Some 2) (Part.Region 0) (Act.Put (key 0 1) (dune 0 3) 13 13) (Reply.Put (Put.Stored None true)))
unfolding all_open
killed_holder_line_16 = refl

killed_holder_line_19 : slice_get (reverse killed_holder) 18 ≡ Some (entry 19 None Part.Registry Act.Restart Reply.Done)
unfolding all_open
killed_holder_line_19 = refl

killed_holder_line_21 : slice_get (reverse killed_holder) 20 ≡ Some (entry 21 (Some 3) (Part.Region 0) (Act.Get (key 0 1) 20) (Reply.Miss Miss.Absent))
unfolding all_open
killed_holder_line_21 = refl

killed_holder_line_23 : slice_get (reverse killed_holder) 22 ≡ Some (entry 23 (Some 3) (Part.Region 0) (Act.Put (key 0 1) (dune 0 3) 20 20) (Reply.Put (Put.Stored None false)))
unfolding all_open
killed_holder_line_23 = refl

killed_holder_line_25 : slice_get (reverse killed_holder) 24 ≡ Some (entry 25 (Some 3) Part.Registry Act.End (Reply.Ended Outcome.Committed))
unfolding all_open
killed_holder_line_25 = refl

killed_holder_legal : IsLegal killed_holder_script (Some killed_holder_script.rows) killed_holder
unfolding all_open
killed_holder_legal = tt
    ▷ record { tick = record { positive = lit≤ tt; bounded = lit≤ tt; ordered = lit≤ tt; in_part = lit< tt; in_session = lit< tt }; session = refl; part = refl; act = refl; reply = inl refl }
    ▷ record { tick = record { positive = lit≤ tt; bounded = lit≤ tt; ordered = lit≤ tt; in_part = lit< tt; in_session = lit< tt }; session = refl; part = refl; act = refl; reply = inl refl }
    ▷ record { tick = record { positive = lit≤ tt; bounded = lit≤ tt; ordered = lit≤ tt; in_part = lit< tt; in_session = lit< tt }; session = refl; part = refl; act = refl; reply = inl refl }
    ▷ record { tick = record { positive = lit≤ tt; bounded = lit≤ tt; ordered = lit≤ tt; in_part = lit< tt; in_session = lit< tt }; session = refl; part = refl; act = refl; reply = inl refl }
    ▷ record { tick = record { positive = lit≤ tt; bounded = lit≤ tt; ordered = lit≤ tt; in_part = lit< tt; in_session = lit< tt }; session = refl; part = refl; act = refl; reply = inl refl }
    ▷ record { tick = record { positive = lit≤ tt; bounded = lit≤ tt; ordered = lit≤ tt; in_part = lit< tt; in_session = lit< tt }; session = refl; part = refl; act = refl; reply = inl refl }
    ▷ record { tick = record { positive = lit≤ tt; bounded = lit≤ tt; ordered = lit≤ tt; in_part = lit< tt; in_session = lit< tt }; session = refl; part = refl; act = refl; reply = inl refl }
    ▷ record { tick = record { positive = lit≤ tt; bounded = lit≤ tt; ordered = lit≤ tt; in_part = lit< tt; in_session = lit< tt }; session = refl; part = refl; act = refl; reply = inl refl }
    ▷ record { tick = record { positive = lit≤ tt; bounded = lit≤ tt; ordered = lit≤ tt; in_part = lit< tt; in_session = lit< tt }; session = refl; part = refl; act = refl; reply = inl refl }
    ▷ record { tick = record { positive = lit≤ tt; bounded = lit≤ tt; ordered = lit≤ tt; in_part = lit< tt; in_session = lit< tt }; session = refl; part = refl; act = refl; reply = inl refl }
    ▷ record { tick = record { positive = lit≤ tt; bounded = lit≤ tt; ordered = lit≤ tt; in_part = lit< tt; in_session = lit< tt }; session = refl; part = refl; act = refl; reply = inl refl }
    ▷ record { tick = record { positive = lit≤ tt; bounded = lit≤ tt; ordered = lit≤ tt; in_part = lit< tt; in_session = lit< tt }; session = refl; part = refl; act = refl; reply = inl refl }
    ▷ record { tick = record { positive = lit≤ tt; bounded = lit≤ tt; ordered = lit≤ tt; in_part = lit< tt; in_session = lit< tt }; session = refl; part = refl; act = refl; reply = inl refl }
    ▷ record { tick = record { positive = lit≤ tt; bounded = lit≤ tt; ordered = lit≤ tt; in_part = lit< tt; in_session = lit< tt }; session = refl; part = refl; act = refl; reply = inl refl }
    ▷ record { tick = record { positive = lit≤ tt; bounded = lit≤ tt; ordered = lit≤ tt; in_part = lit< tt; in_session = lit< tt }; session = refl; part = refl; act = refl; reply = inl refl }
    ▷ record { tick = record { positive = lit≤ tt; bounded = lit≤ tt; ordered = lit≤ tt; in_part = lit< tt; in_session = lit< tt }; session = refl; part = refl; act = refl; reply = inl refl }
    ▷ record { tick = record { positive = lit≤ tt; bounded = lit≤ tt; ordered = lit≤ tt; in_part = lit< tt; in_session = lit< tt }; session = refl; part = refl; act = refl; reply = inl refl }
    ▷ record { tick = record { positive = lit≤ tt; bounded = lit≤ tt; ordered = lit≤ tt; in_part = lit< tt; in_session = lit< tt }; session = refl; part = refl; act = refl; reply = inl refl }
    ▷ record { tick = record { positive = lit≤ tt; bounded = lit≤ tt; ordered = lit≤ tt; in_part = lit< tt; in_session = lit< tt }; session = refl; part = refl; act = refl; reply = inl refl }
    ▷ record { tick = record { positive = lit≤ tt; bounded = lit≤ tt; ordered = lit≤ tt; in_part = lit< tt; in_session = lit< tt }; session = refl; part = refl; act = refl; reply = inl refl }
    ▷ record { tick = record { positive = lit≤ tt; bounded = lit≤ tt; ordered = lit≤ tt; in_part = lit< tt; in_session = lit< tt }; session = refl; part = refl; act = refl; reply = inl refl }
    ▷ record { tick = record { positive = lit≤ tt; bounded = lit≤ tt; ordered = lit≤ tt; in_part = lit< tt; in_session = lit< tt }; session = refl; part = refl; act = refl; reply = inl refl }
    ▷ record { tick = record { positive = lit≤ tt; bounded = lit≤ tt; ordered = lit≤ tt; in_part = lit< tt; in_session = lit< tt }; session = refl; part = refl; act = refl; reply = inl refl }
    ▷ record { tick = record { positive = lit≤ tt; bounded = lit≤ tt; ordered = lit≤ tt; in_part = lit< tt; in_session = lit< tt }; session = refl; part = refl; act = refl; reply = inl refl }
    ▷ record { tick = record { positive = lit≤ tt; bounded = lit≤ tt; ordered = lit≤ tt; in_part = lit< tt; in_session = lit< tt }; session = refl; part = refl; act = refl; reply = inl refl }

-- before the restart the key is not sound, and at the end it is
killed_holder_unsound : is_sound (key 0 1) (drop 7 killed_holder) ≡ false
unfolding all_open
killed_holder_unsound = refl

killed_holder_sound : is_sound (key 0 1) killed_holder ≡ true
unfolding all_open
killed_holder_sound = refl
