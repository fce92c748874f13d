-- Three writers lock one key in turn and release it. Between the last two a reader has loaded the row, which a third version replaces
-- before the reader puts it: the put is too early, since the lock was released after the reader began.
use Rattle.std.proofs.Common.{◌≡◌, drop, true, false, [], ◌∷◌, reverse, Some, None, Option, refl, inl, inr, pos, lit≤, lit<}
use Rattle.hib_journal.specs.Types.{Cell, Change, Strategy, Mode, Statement, Script, Part, Act, Outcome, Commit, Miss, Put, Unlocked, Reply, Order}
use Rattle.hib_journal.specs.Sessions.{Journal}
use Rattle.hib_journal.specs.Room.{key}
use Rattle.hib_journal.specs.Legal.{IsLegal}
use Rattle.hib_rows.proofs.Run.{dune, entry, run, ◌▷◌, all_open}

abbrev pub released_shared_lock_script : Script
released_shared_lock_script = record {
  timeout = 1000;
  results = 100;
  mapping = record { name = []; strategy = Strategy.ReadWrite; versioned = true; capacity = 100; columns = [] } ∷ [];
  rows = ((key 0 1), dune 1 9) ∷ [];
  queries = [];
  schedule = [];
  sessions =
      record { name = []; statements = Statement.Mode Mode.Ignore ∷ Statement.Find (key 0 1) ∷ Statement.Set (key 0 1) ((1, Cell.Int (pos 8)) ∷ []) ∷ Statement.Flush ∷ Statement.Rollback ∷ [] }
      ∷ record { name = []; statements = Statement.Mode Mode.Ignore ∷ Statement.Find (key 0 1) ∷ Statement.Set (key 0 1) ((1, Cell.Int (pos 7)) ∷ []) ∷ Statement.Commit ∷ [] }
      ∷ record { name = []; statements = Statement.Find (key 0 1) ∷ Statement.Commit ∷ [] }
      ∷ record { name = []; statements = Statement.Mode Mode.Ignore ∷ Statement.Find (key 0 1) ∷ Statement.Set (key 0 1) ((1, Cell.Int (pos 6)) ∷ []) ∷ Statement.Commit ∷ [] }
      ∷ [];
}

abbrev pub released_shared_lock : Journal
released_shared_lock = reverse (
    entry 1 (Some 0) Part.Registry Act.Begin (Reply.Began 1)
    ∷ entry 2 (Some 0) Part.Store (Act.Load (key 0 1)) (Reply.Row (Some (dune 1 9)))
    ∷ entry 3 (Some 0) (Part.Own 0) (Act.Set (key 0 1) ((1, (Cell.Int (pos 8))) ∷ [])) Reply.Set
    ∷ entry 4 (Some 0) Part.Stamps (Act.Pre (0 ∷ [])) (Reply.Stamped 1004)
    ∷ entry 5 (Some 0) (Part.Region 0) (Act.Lock (key 0 1) (Some 1) 1) (Reply.Locked (record { id = 5; until = 1005; evicted = None }))
    ∷ entry 6 (Some 0) Part.Store (Act.Write (Change.Update (key 0 1) (Some 1) (dune 2 8))) Reply.Written
    ∷ entry 7 (Some 0) Part.Store Act.Rollback Reply.Done
    ∷ entry 8 (Some 0) (Part.Region 0) (Act.Unlock (key 0 1) 5) (Reply.Unlocked (Unlocked.Released 0))
    ∷ entry 9 (Some 0) Part.Stamps (Act.Stamp (0 ∷ [])) (Reply.Stamped 9)
    ∷ entry 10 (Some 0) Part.Registry Act.End (Reply.Ended Outcome.RolledBack)
    ∷ entry 11 (Some 1) Part.Registry Act.Begin (Reply.Began 11)
    ∷ entry 12 (Some 1) Part.Store (Act.Load (key 0 1)) (Reply.Row (Some (dune 1 9)))
    ∷ entry 13 (Some 1) (Part.Own 1) (Act.Set (key 0 1) ((1, (Cell.Int (pos 7))) ∷ [])) Reply.Set
    ∷ entry 14 (Some 1) Part.Stamps (Act.Pre (0 ∷ [])) (Reply.Stamped 1014)
    ∷ entry 15 (Some 1) (Part.Region 0) (Act.Lock (key 0 1) (Some 1) 11) (Reply.Locked (record { id = 5; until = 1015; evicted = None }))
    ∷ entry 16 (Some 1) Part.Store (Act.Write (Change.Update (key 0 1) (Some 1) (dune 2 7))) Reply.Written
    ∷ entry 17 (Some 1) Part.Store Act.Commit (Reply.Commit Commit.Committed)
    ∷ entry 18 (Some 1) (Part.Region 0) (Act.Unlock (key 0 1) 5) (Reply.Unlocked (Unlocked.Released 0))
    ∷ entry 19 (Some 1) Part.Stamps (Act.Stamp (0 ∷ [])) (Reply.Stamped 19)
    ∷ entry 20 (Some 1) Part.Registry Act.End (Reply.Ended Outcome.Committed)
    ∷ entry 21 (Some 2) Part.Registry Act.Begin (Reply.Began 21)
    ∷ entry 22 (Some 2) (Part.Region 0) (Act.Get (key 0 1) 21) (Reply.Miss (Miss.Released 18))
    ∷ entry 23 (Some 2) Part.Store (Act.Load (key 0 1)) (Reply.Row (Some (dune 2 7)))
    ∷ entry 24 (Some 3) Part.Registry Act.Begin (Reply.Began 21)
    ∷ entry 25 (Some 3) Part.Store (Act.Load (key 0 1)) (Reply.Row (Some (dune 2 7)))
    ∷ entry 26 (Some 3) (Part.Own 3) (Act.Set (key 0 1) ((1, (Cell.Int (pos 6))) ∷ [])) Reply.Set
    ∷ entry 27 (Some 3) Part.Stamps (Act.Pre (0 ∷ [])) (Reply.Stamped 1027)
    ∷ entry 28 (Some 3) (Part.Region 0) (Act.Lock (key 0 1) (Some 2) 21) (Reply.Locked (record { id = 5; until = 1028; evicted = None }))
    ∷ entry 29 (Some 3) Part.Store (Act.Write (Change.Update (key 0 1) (Some 2) (dune 3 6))) Reply.Written
    ∷ entry 30 (Some 3) Part.Store Act.Commit (Reply.Commit Commit.Committed)
    ∷ entry 31 (Some 3) (Part.Region 0) (Act.Unlock (key 0 1) 5) (Reply.Unlocked (Unlocked.Released 0))
    ∷ entry 32 (Some 3) Part.Stamps (Act.Stamp (0 ∷ [])) (Reply.Stamped 32)
    ∷ entry 33 (Some 3) Part.Registry Act.End (Reply.Ended Outcome.Committed)
    ∷ entry 34 (Some 2) (Part.Region 0) (Act.Put (key 0 1) (dune 2 7) 21 21) (Reply.Put (Put.Early 31))
    ∷ entry 35 (Some 2) Part.Store Act.Commit (Reply.Commit Commit.Committed)
    ∷ entry 36 (Some 2) Part.Registry Act.End (Reply.Ended Outcome.Committed)
    ∷ [])

released_shared_lock_computed : run released_shared_lock_script released_shared_lock_script.rows (Order.Run 0 10 ∷ Order.Run 1 10 ∷ Order.Run 2 3 ∷ Order.Run 3 10 ∷ Order.Run 2 10 ∷ []) [] ≡ released_shared_lock
unfolding all_open
released_shared_lock_computed = refl

released_shared_lock_legal : IsLegal released_shared_lock_script (Some released_shared_lock_script.rows) released_shared_lock
unfolding all_open
released_shared_lock_legal = tt
    ▷ record { tick = record { positive = lit≤ tt; bounded = lit≤ tt; ordered = lit≤ tt; in_part = lit< tt; in_session = lit< tt }; session = refl; part = refl; act = refl; reply = inl refl }
    ▷ record { tick = record { positive = lit≤ tt; bounded = lit≤ tt; ordered = lit≤ tt; in_part = lit< tt; in_session = lit< tt }; session = refl; part = refl; act = refl; reply = inl refl }
    ▷ record { tick = record { positive = lit≤ tt; bounded = lit≤ tt; ordered = lit≤ tt; in_part = lit< tt; in_session = lit< tt }; session = refl; part = refl; act = refl; reply = inl refl }
    ▷ record { tick = record { positive = lit≤ tt; bounded = lit≤ tt; ordered = lit≤ tt; in_part = lit< tt; in_session = lit< tt }; session = refl; part = refl; act = refl; reply = inl refl }
    ▷ record { tick = record { positive = lit≤ tt; bounded = lit≤ tt; ordered = lit≤ tt; in_part = lit< tt; in_session = lit< tt }; session = refl; part = refl; act = refl; reply = inl refl }
    ▷ record { tick = record { positive = lit≤ tt; bounded = lit≤ tt; ordered = lit≤ tt; in_part = lit< tt; in_session = lit< tt }; session = refl; part = refl; act = refl; reply = inl refl }
    ▷ record { tick = record { positive = lit≤ tt; bounded = lit≤ tt; ordered = lit≤ tt; in_part = lit< tt; in_session = lit< tt }; session = refl; part = refl; act = refl; reply = inl refl }
    ▷ record { tick = record { positive = lit≤ tt; bounded = lit≤ tt; ordered = lit≤ tt; in_part = lit< tt; in_session = lit< tt }; session = refl; part = refl; act = refl; reply = inl refl }
    ▷ record { tick = record { positive = lit≤ tt; bounded = lit≤ tt; ordered = lit≤ tt; in_part = lit< tt; in_session = lit< tt }; session = refl; part = refl; act = refl; reply = inl refl }
    ▷ record { tick = record { positive = lit≤ tt; bounded = lit≤ tt; ordered = lit≤ tt; in_part = lit< tt; in_session = lit< tt }; session = refl; part = refl; act = refl; reply = inl refl }
    ▷ record { tick = record { positive = lit≤ tt; bounded = lit≤ tt; ordered = lit≤ tt; in_part = lit< tt; in_session = lit< tt }; session = refl; part = refl; act = refl; reply = inl refl }
    ▷ record { tick = record { positive = lit≤ tt; bounded = lit≤ tt; ordered = lit≤ tt; in_part = lit< tt; in_session = lit< tt }; session = refl; part = refl; act = refl; reply = inl refl }
    ▷ record { tick = record { positive = lit≤ tt; bounded = lit≤ tt; ordered = lit≤ tt; in_part = lit< tt; in_session = lit< tt }; session = refl; part = refl; act = refl; reply = inl refl }
    ▷ record { tick = record { positive = lit≤ tt; bounded = lit≤ tt; ordered = lit≤ tt; in_part = lit< tt; in_session = lit< tt }; session = refl; part = refl; act = refl; reply = inl refl }
    ▷ record { tick = record { positive = lit≤ tt; bounded = lit≤ tt; ordered = lit≤ tt; in_part = lit< tt; in_session = lit< tt }; session = refl; part = refl; act = refl; reply = inl refl }
    ▷ record { tick = record { positive = lit≤ tt; bounded = lit≤ tt; ordered = lit≤ tt; in_part = lit< tt; in_session = lit< tt }; session = refl; part = refl; act = refl; reply = inl refl }
    ▷ record { tick = record { positive = lit≤ tt; bounded = lit≤ tt; ordered = lit≤ tt; in_part = lit< tt; in_session = lit< tt }; session = refl; part = refl; act = refl; reply = inl refl }
    ▷ record { tick = record { positive = lit≤ tt; bounded = lit≤ tt; ordered = lit≤ tt; in_part = lit< tt; in_session = lit< tt }; session = refl; part = refl; act = refl; reply = inl refl }
    ▷ record { tick = record { positive = lit≤ tt; bounded = lit≤ tt; ordered = lit≤ tt; in_part = lit< tt; in_session = lit< tt }; session = refl; part = refl; act = refl; reply = inl refl }
    ▷ record { tick = record { positive = lit≤ tt; bounded = lit≤ tt; ordered = lit≤ tt; in_part = lit< tt; in_session = lit< tt }; session = refl; part = refl; act = refl; reply = inl refl }
    ▷ record { tick = record { positive = lit≤ tt; bounded = lit≤ tt; ordered = lit≤ tt; in_part = lit< tt; in_session = lit< tt }; session = refl; part = refl; act = refl; reply = inl refl }
    ▷ record { tick = record { positive = lit≤ tt; bounded = lit≤ tt; ordered = lit≤ tt; in_part = lit< tt; in_session = lit< tt }; session = refl; part = refl; act = refl; reply = inl refl }
    ▷ record { tick = record { positive = lit≤ tt; bounded = lit≤ tt; ordered = lit≤ tt; in_part = lit< tt; in_session = lit< tt }; session = refl; part = refl; act = refl; reply = inl refl }
    ▷ record { tick = record { positive = lit≤ tt; bounded = lit≤ tt; ordered = lit≤ tt; in_part = lit< tt; in_session = lit< tt }; session = refl; part = refl; act = refl; reply = inl refl }
    ▷ record { tick = record { positive = lit≤ tt; bounded = lit≤ tt; ordered = lit≤ tt; in_part = lit< tt; in_session = lit< tt }; session = refl; part = refl; act = refl; reply = inl refl }
    ▷ record { tick = record { positive = lit≤ tt; bounded = lit≤ tt; ordered = lit≤ tt; in_part = lit< tt; in_session = lit< tt }; session = refl; part = refl; act = refl; reply = inl refl }
    ▷ record { tick = record { positive = lit≤ tt; bounded = lit≤ tt; ordered = lit≤ tt; in_part = lit< tt; in_session = lit< tt }; session = refl; part = refl; act = refl; reply = inl refl }
    ▷ record { tick = record { positive = lit≤ tt; bounded = lit≤ tt; ordered = lit≤ tt; in_part = lit< tt; in_session = lit< tt }; session = refl; part = refl; act = refl; reply = inl refl }
    ▷ record { tick = record { positive = lit≤ tt; bounded = lit≤ tt; ordered = lit≤ tt; in_part = lit< tt; in_session = lit< tt }; session = refl; part = refl; act = refl; reply = inl refl }
    ▷ record { tick = record { positive = lit≤ tt; bounded = lit≤ tt; ordered = lit≤ tt; in_part = lit< tt; in_session = lit< tt }; session = refl; part = refl; act = refl; reply = inl refl }
    ▷ record { tick = record { positive = lit≤ tt; bounded = lit≤ tt; ordered = lit≤ tt; in_part = lit< tt; in_session = lit< tt }; session = refl; part = refl; act = refl; reply = inl refl }
    ▷ record { tick = record { positive = lit≤ tt; bounded = lit≤ tt; ordered = lit≤ tt; in_part = lit< tt; in_session = lit< tt }; session = refl; part = refl; act = refl; reply = inl refl }
    ▷ record { tick = record { positive = lit≤ tt; bounded = lit≤ tt; ordered = lit≤ tt; in_part = lit< tt; in_session = lit< tt }; session = refl; part = refl; act = refl; reply = inl refl }
    ▷ record { tick = record { positive = lit≤ tt; bounded = lit≤ tt; ordered = lit≤ tt; in_part = lit< tt; in_session = lit< tt }; session = refl; part = refl; act = refl; reply = inl refl }
    ▷ record { tick = record { positive = lit≤ tt; bounded = lit≤ tt; ordered = lit≤ tt; in_part = lit< tt; in_session = lit< tt }; session = refl; part = refl; act = refl; reply = inl refl }
    ▷ record { tick = record { positive = lit≤ tt; bounded = lit≤ tt; ordered = lit≤ tt; in_part = lit< tt; in_session = lit< tt }; session = refl; part = refl; act = refl; reply = inl refl }

-- The same, but the region stores the old row, as it would by the versions alone.
abbrev pub stored_too_early : Journal
stored_too_early =
    entry 36 (Some 2) Part.Registry Act.End (Reply.Ended Outcome.Committed)
    ∷ entry 35 (Some 2) Part.Store Act.Commit (Reply.Commit Commit.Committed)
    ∷ entry 34 (Some 2) (Part.Region 0) (Act.Put (key 0 1) (dune 2 7) 21 21) (Reply.Put (Put.Stored None false))
    ∷ drop 3 released_shared_lock

stored_too_early_not_due : Reply.Put (Put.Stored None false) ≡ Reply.Put (Put.Early 31) → ⊥
stored_too_early_not_due e = cc

stored_too_early_no_fault : ◌≡◌ {A = Option Reply} None (Some (Reply.Put (Put.Stored None false))) → ⊥
stored_too_early_no_fault e = cc

stored_too_early_not_legal : IsLegal released_shared_lock_script (Some released_shared_lock_script.rows) stored_too_early → ⊥
unfolding all_open
stored_too_early_not_legal h = elim h.0.0.1.reply [
  | inl e ↦ let f : Reply.Put (Put.Stored None false) ≡ Reply.Put (Put.Early 31) = e in stored_too_early_not_due f
  | inr e ↦ let f : ◌≡◌ {A = Option Reply} None (Some (Reply.Put (Put.Stored None false))) = e in stored_too_early_no_fault f
]
