-- Two sessions lock one key before the first of them commits. They share the lock: the first stores nothing, the second is stale.
use Rattle.std.proofs.Common.{◌≡◌, true, false, [], ◌∷◌, reverse, Some, None, refl, inl, pos, lit≤, lit<}
use Rattle.hib_journal.specs.Types.{Cell, Change, Strategy, Statement, Script, Part, Act, Outcome, Commit, Miss, Put, Unlocked, Updated, Reply, Order}
use Rattle.hib_journal.specs.Sessions.{Journal}
use Rattle.hib_journal.specs.Room.{key}
use Rattle.hib_journal.specs.Legal.{IsLegal}
use Rattle.hib_rows.proofs.Run.{dune, entry, run, ◌▷◌, all_open}

abbrev pub two_lockers_script : Script
two_lockers_script = record {
  timeout = 1000;
  results = 100;
  mapping = record { name = []; strategy = Strategy.ReadWrite; versioned = true; capacity = 100; columns = [] } ∷ [];
  rows = ((key 0 1), dune 0 3) ∷ [];
  queries = [];
  schedule = [];
  sessions =
      record { name = []; statements = Statement.Find (key 0 1) ∷ Statement.Set (key 0 1) ((1, Cell.Int (pos 2)) ∷ []) ∷ Statement.Commit ∷ [] }
      ∷ record { name = []; statements = Statement.Find (key 0 1) ∷ Statement.Set (key 0 1) ((1, Cell.Int (pos 1)) ∷ []) ∷ Statement.Commit ∷ [] }
      ∷ [];
}

abbrev pub two_lockers : Journal
two_lockers = reverse (
    entry 1 (Some 0) Part.Registry Act.Begin (Reply.Began 1)
    ∷ entry 2 (Some 0) (Part.Region 0) (Act.Get (key 0 1) 1) (Reply.Miss Miss.Absent)
    ∷ entry 3 (Some 0) Part.Store (Act.Load (key 0 1)) (Reply.Row (Some (dune 0 3)))
    ∷ entry 4 (Some 0) (Part.Region 0) (Act.Put (key 0 1) (dune 0 3) 1 1) (Reply.Put (Put.Stored None false))
    ∷ entry 5 (Some 0) (Part.Own 0) (Act.Set (key 0 1) ((1, (Cell.Int (pos 2))) ∷ [])) Reply.Set
    ∷ entry 6 (Some 1) Part.Registry Act.Begin (Reply.Began 1)
    ∷ entry 7 (Some 1) (Part.Region 0) (Act.Get (key 0 1) 6) (Reply.Hit (dune 0 3))
    ∷ entry 8 (Some 1) (Part.Own 1) (Act.Set (key 0 1) ((1, (Cell.Int (pos 1))) ∷ [])) Reply.Set
    ∷ entry 9 (Some 0) Part.Stamps (Act.Pre (0 ∷ [])) (Reply.Stamped 1009)
    ∷ entry 10 (Some 0) (Part.Region 0) (Act.Lock (key 0 1) (Some 0) 1) (Reply.Locked (record { id = 10; until = 1010; evicted = None }))
    ∷ entry 11 (Some 1) Part.Stamps (Act.Pre (0 ∷ [])) (Reply.Stamped 1011)
    ∷ entry 12 (Some 1) (Part.Region 0) (Act.Lock (key 0 1) (Some 0) 1) (Reply.Locked (record { id = 10; until = 1012; evicted = None }))
    ∷ entry 13 (Some 0) Part.Store (Act.Write (Change.Update (key 0 1) (Some 0) (dune 1 2))) Reply.Written
    ∷ entry 14 (Some 0) Part.Store Act.Commit (Reply.Commit Commit.Committed)
    ∷ entry 15 (Some 0) (Part.Region 0) (Act.AfterUpdate (key 0 1) 10 (dune 1 2)) (Reply.Updated (Updated.Shared 1))
    ∷ entry 16 (Some 0) Part.Stamps (Act.Stamp (0 ∷ [])) (Reply.Stamped 16)
    ∷ entry 17 (Some 0) Part.Registry Act.End (Reply.Ended Outcome.Committed)
    ∷ entry 18 (Some 1) Part.Store (Act.Write (Change.Update (key 0 1) (Some 0) (dune 1 1))) Reply.Written
    ∷ entry 19 (Some 1) Part.Store Act.Commit (Reply.Commit (Commit.Stale (key 0 1) (Some 1)))
    ∷ entry 20 (Some 1) (Part.Region 0) (Act.Unlock (key 0 1) 10) (Reply.Unlocked (Unlocked.Released 0))
    ∷ entry 21 (Some 1) Part.Stamps (Act.Stamp (0 ∷ [])) (Reply.Stamped 21)
    ∷ entry 22 (Some 1) Part.Registry Act.End (Reply.Ended Outcome.Stale)
    ∷ [])

two_lockers_computed : run two_lockers_script two_lockers_script.rows (Order.Run 0 5 ∷ Order.Run 1 3 ∷ Order.Run 0 2 ∷ Order.Run 1 2 ∷ Order.Run 0 5 ∷ Order.Run 1 5 ∷ []) [] ≡ two_lockers
unfolding all_open
two_lockers_computed = refl

two_lockers_legal : IsLegal two_lockers_script (Some two_lockers_script.rows) two_lockers
unfolding all_open
two_lockers_legal = tt
    ▷ record { tick = record { positive = lit≤ tt; bounded = lit≤ tt; ordered = lit≤ tt; in_part = lit< tt; in_session = lit< tt }; session = refl; part = refl; act = refl; reply = inl refl }
    ▷ record { tick = record { positive = lit≤ tt; bounded = lit≤ tt; ordered = lit≤ tt; in_part = lit< tt; in_session = lit< tt }; session = refl; part = refl; act = refl; reply = inl refl }
    ▷ record { tick = record { positive = lit≤ tt; bounded = lit≤ tt; ordered = lit≤ tt; in_part = lit< tt; in_session = lit< tt }; session = refl; part = refl; act = refl; reply = inl refl }
    ▷ record { tick = record { positive = lit≤ tt; bounded = lit≤ tt; ordered = lit≤ tt; in_part = lit< tt; in_session = lit< tt }; session = refl; part = refl; act = refl; reply = inl refl }
    ▷ record { tick = record { positive = lit≤ tt; bounded = lit≤ tt; ordered = lit≤ tt; in_part = lit< tt; in_session = lit< tt }; session = refl; part = refl; act = refl; reply = inl refl }
    ▷ record { tick = record { positive = lit≤ tt; bounded = lit≤ tt; ordered = lit≤ tt; in_part = lit< tt; in_session = lit< tt }; session = refl; part = refl; act = refl; reply = inl refl }
    ▷ record { tick = record { positive = lit≤ tt; bounded = lit≤ tt; ordered = lit≤ tt; in_part = lit< tt; in_session = lit< tt }; session = refl; part = refl; act = refl; reply = inl refl }
    ▷ record { tick = record { positive = lit≤ tt; bounded = lit≤ tt; ordered = lit≤ tt; in_part = lit< tt; in_session = lit< tt }; session = refl; part = refl; act = refl; reply = inl refl }
    ▷ record { tick = record { positive = lit≤ tt; bounded = lit≤ tt; ordered = lit≤ tt; in_part = lit< tt; in_session = lit< tt }; session = refl; part = refl; act = refl; reply = inl refl }
    ▷ record { tick = record { positive = lit≤ tt; bounded = lit≤ tt; ordered = lit≤ tt; in_part = lit< tt; in_session = lit< tt }; session = refl; part = refl; act = refl; reply = inl refl }
    ▷ record { tick = record { positive = lit≤ tt; bounded = lit≤ tt; ordered = lit≤ tt; in_part = lit< tt; in_session = lit< tt }; session = refl; part = refl; act = refl; reply = inl refl }
    ▷ record { tick = record { positive = lit≤ tt; bounded = lit≤ tt; ordered = lit≤ tt; in_part = lit< tt; in_session = lit< tt }; session = refl; part = refl; act = refl; reply = inl refl }
    ▷ record { tick = record { positive = lit≤ tt; bounded = lit≤ tt; ordered = lit≤ tt; in_part = lit< tt; in_session = lit< tt }; session = refl; part = refl; act = refl; reply = inl refl }
    ▷ record { tick = record { positive = lit≤ tt; bounded = lit≤ tt; ordered = lit≤ tt; in_part = lit< tt; in_session = lit< tt }; session = refl; part = refl; act = refl; reply = inl refl }
    ▷ record { tick = record { positive = lit≤ tt; bounded = lit≤ tt; ordered = lit≤ tt; in_part = lit< tt; in_session = lit< tt }; session = refl; part = refl; act = refl; reply = inl refl }
    ▷ record { tick = record { positive = lit≤ tt; bounded = lit≤ tt; ordered = lit≤ tt; in_part = lit< tt; in_session = lit< tt }; session = refl; part = refl; act = refl; reply = inl refl }
    ▷ record { tick = record { positive = lit≤ tt; bounded = lit≤ tt; ordered = lit≤ tt; in_part = lit< tt; in_session = lit< tt }; session = refl; part = refl; act = refl; reply = inl refl }
    ▷ record { tick = record { positive = lit≤ tt; bounded = lit≤ tt; ordered = lit≤ tt; in_part = lit< tt; in_session = lit< tt }; session = refl; part = refl; act = refl; reply = inl refl }
    ▷ record { tick = record { positive = lit≤ tt; bounded = lit≤ tt; ordered = lit≤ tt; in_part = lit< tt; in_session = lit< tt }; session = refl; part = refl; act = refl; reply = inl refl }
    ▷ record { tick = record { positive = lit≤ tt; bounded = lit≤ tt; ordered = lit≤ tt; in_part = lit< tt; in_session = lit< tt }; session = refl; part = refl; act = refl; reply = inl refl }
    ▷ record { tick = record { positive = lit≤ tt; bounded = lit≤ tt; ordered = lit≤ tt; in_part = lit< tt; in_session = lit< tt }; session = refl; part = refl; act = refl; reply = inl refl }
    ▷ record { tick = record { positive = lit≤ tt; bounded = lit≤ tt; ordered = lit≤ tt; in_part = lit< tt; in_session = lit< tt }; session = refl; part = refl; act = refl; reply = inl refl }
