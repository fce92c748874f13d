-- A session deletes a row, and before it commits another one loads the row from the store: its put finds the lock held.
use Rattle.std.proofs.Common.{◌≡◌, length, drop, slice_get, true, false, [], ◌∷◌, reverse, Some, None, Option, refl, inl, inr, lit≤, lit<}
use Rattle.hib_journal.specs.Types.{Change, Strategy, Statement, Script, Part, Act, Commit, Miss, Put, Unlocked, Reply, Order}
use Rattle.hib_journal.specs.Sessions.{Journal}
use Rattle.hib_journal.specs.Room.{key}
use Rattle.hib_journal.specs.Legal.{IsLegal}
use Rattle.hib_rows.proofs.Run.{dune, entry, run, ◌▷◌, all_open}

abbrev pub deleted_under_lock_script : Script
deleted_under_lock_script = record {
  timeout = 1000;
  results = 100;
  mapping = record { name = []; strategy = Strategy.ReadWrite; versioned = true; capacity = 100; columns = [] } ∷ [];
  rows = ((key 0 1), dune 0 3) ∷ [];
  queries = [];
  schedule = [];
  sessions =
      record { name = []; statements = Statement.Find (key 0 1) ∷ Statement.Remove (key 0 1) ∷ Statement.Flush ∷ Statement.Clear ∷ Statement.Find (key 0 1) ∷ Statement.Commit ∷ [] }
      ∷ record { name = []; statements = Statement.Find (key 0 1) ∷ Statement.Commit ∷ [] }
      ∷ [];
}

abbrev pub deleted_under_lock : Journal
deleted_under_lock = run deleted_under_lock_script deleted_under_lock_script.rows (Order.Run 0 10 ∷ Order.Run 1 6 ∷ Order.Run 0 10 ∷ []) []

deleted_under_lock_length : length deleted_under_lock ≡ 20
unfolding all_open
deleted_under_lock_length = refl

deleted_under_lock_line_7 : slice_get (reverse deleted_under_lock) 6 ≡ Some (entry 7 (Some 0) (Part.Region 0) (Act.Lock (key 0 1) (Some 0) 1) (Reply.Locked (record { id = 7; until = 1007; evicted = None })))
unfolding all_open
deleted_under_lock_line_7 = refl

deleted_under_lock_line_8 : slice_get (reverse deleted_under_lock) 7 ≡ Some (entry 8 (Some 0) Part.Store (Act.Write (Change.Delete (key 0 1) (Some 0))) Reply.Written)
unfolding all_open
deleted_under_lock_line_8 = refl

deleted_under_lock_line_10 : slice_get (reverse deleted_under_lock) 9 ≡ Some (entry 10 (Some 0) Part.Store (Act.Load (key 0 1)) (Reply.Row None))
unfolding all_open
deleted_under_lock_line_10 = refl

deleted_under_lock_line_12 : slice_get (reverse deleted_under_lock) 11 ≡ Some (entry 12 (Some 1) (Part.Region 0) (Act.Get (key 0 1) 11) (Reply.Miss (Miss.Locked 1)))
unfolding all_open
deleted_under_lock_line_12 = refl

deleted_under_lock_line_13 : slice_get (reverse deleted_under_lock) 12 ≡ Some (entry 13 (Some 1) Part.Store (Act.Load (key 0 1)) (Reply.Row (Some (dune 0 3))))
unfolding all_open
deleted_under_lock_line_13 = refl

deleted_under_lock_line_14 : slice_get (reverse deleted_under_lock) 13 ≡ Some (entry 14 (Some 1) (Part.Region 0) (Act.Put (key 0 1) (dune 0 3) 11 1) (Reply.Put (Put.Held 1)))
unfolding all_open
deleted_under_lock_line_14 = refl

deleted_under_lock_line_17 : slice_get (reverse deleted_under_lock) 16 ≡ Some (entry 17 (Some 0) Part.Store Act.Commit (Reply.Commit Commit.Committed))
unfolding all_open
deleted_under_lock_line_17 = refl

deleted_under_lock_line_18 : slice_get (reverse deleted_under_lock) 17 ≡ Some (entry 18 (Some 0) (Part.Region 0) (Act.Unlock (key 0 1) 7) (Reply.Unlocked (Unlocked.Released 0)))
unfolding all_open
deleted_under_lock_line_18 = refl

deleted_under_lock_legal : IsLegal deleted_under_lock_script (Some deleted_under_lock_script.rows) deleted_under_lock
unfolding all_open
deleted_under_lock_legal = tt
    ▷ record { tick = record { positive = lit≤ tt; bounded = lit≤ tt; ordered = lit≤ tt; in_part = lit< tt; in_session = lit< tt }; session = refl; part = refl; act = refl; reply = inl refl }
    ▷ record { tick = record { positive = lit≤ tt; bounded = lit≤ tt; ordered = lit≤ tt; in_part = lit< tt; in_session = lit< tt }; session = refl; part = refl; act = refl; reply = inl refl }
    ▷ record { tick = record { positive = lit≤ tt; bounded = lit≤ tt; ordered = lit≤ tt; in_part = lit< tt; in_session = lit< tt }; session = refl; part = refl; act = refl; reply = inl refl }
    ▷ record { tick = record { positive = lit≤ tt; bounded = lit≤ tt; ordered = lit≤ tt; in_part = lit< tt; in_session = lit< tt }; session = refl; part = refl; act = refl; reply = inl refl }
    ▷ record { tick = record { positive = lit≤ tt; bounded = lit≤ tt; ordered = lit≤ tt; in_part = lit< tt; in_session = lit< tt }; session = refl; part = refl; act = refl; reply = inl refl }
    ▷ record { tick = record { positive = lit≤ tt; bounded = lit≤ tt; ordered = lit≤ tt; in_part = lit< tt; in_session = lit< tt }; session = refl; part = refl; act = refl; reply = inl refl }
    ▷ record { tick = record { positive = lit≤ tt; bounded = lit≤ tt; ordered = lit≤ tt; in_part = lit< tt; in_session = lit< tt }; session = refl; part = refl; act = refl; reply = inl refl }
    ▷ record { tick = record { positive = lit≤ tt; bounded = lit≤ tt; ordered = lit≤ tt; in_part = lit< tt; in_session = lit< tt }; session = refl; part = refl; act = refl; reply = inl refl }
    ▷ record { tick = record { positive = lit≤ tt; bounded = lit≤ tt; ordered = lit≤ tt; in_part = lit< tt; in_session = lit< tt }; session = refl; part = refl; act = refl; reply = inl refl }
    ▷ record { tick = record { positive = lit≤ tt; bounded = lit≤ tt; ordered = lit≤ tt; in_part = lit< tt; in_session = lit< tt }; session = refl; part = refl; act = refl; reply = inl refl }
    ▷ record { tick = record { positive = lit≤ tt; bounded = lit≤ tt; ordered = lit≤ tt; in_part = lit< tt; in_session = lit< tt }; session = refl; part = refl; act = refl; reply = inl refl }
    ▷ record { tick = record { positive = lit≤ tt; bounded = lit≤ tt; ordered = lit≤ tt; in_part = lit< tt; in_session = lit< tt }; session = refl; part = refl; act = refl; reply = inl refl }
    ▷ record { tick = record { positive = lit≤ tt; bounded = lit≤ tt; ordered = lit≤ tt; in_part = lit< tt; in_session = lit< tt }; session = refl; part = refl; act = refl; reply = inl refl }
    ▷ record { tick = record { positive = lit≤ tt; bounded = lit≤ tt; ordered = lit≤ tt; in_part = lit< tt; in_session = lit< tt }; session = refl; part = refl; act = refl; reply = inl refl }
    ▷ record { tick = record { positive = lit≤ tt; bounded = lit≤ tt; ordered = lit≤ tt; in_part = lit< tt; in_session = lit< tt }; session = refl; part = refl; act = refl; reply = inl refl }
    ▷ record { tick = record { positive = lit≤ tt; bounded = lit≤ tt; ordered = lit≤ tt; in_part = lit< tt; in_session = lit< tt }; session = refl; part = refl; act = refl; reply = inl refl }
    ▷ record { tick = record { positive = lit≤ tt; bounded = lit≤ tt; ordered = lit≤ tt; in_part = lit< tt; in_session = lit< tt }; session = refl; part = refl; act = refl; reply = inl refl }
    ▷ record { tick = record { positive = lit≤ tt; bounded = lit≤ tt; ordered = lit≤ tt; in_part = lit< tt; in_session = lit< tt }; session = refl; part = refl; act = refl; reply = inl refl }
    ▷ record { tick = record { positive = lit≤ tt; bounded = lit≤ tt; ordered = lit≤ tt; in_part = lit< tt; in_session = lit< tt }; session = refl; part = refl; act = refl; reply = inl refl }
    ▷ record { tick = record { positive = lit≤ tt; bounded = lit≤ tt; ordered = lit≤ tt; in_part = lit< tt; in_session = lit< tt }; session = refl; part = refl; act = refl; reply = inl refl }

-- The same up to the put, but the put over a held lock is stored.
abbrev pub stored_over_lock : Journal
stored_over_lock =
    entry 14 (Some 1) (Part.Region 0) (Act.Put (key 0 1) (dune 0 3) 11 1) (Reply.Put (Put.Stored None false))
    ∷ drop 7 deleted_under_lock

stored_over_lock_not_due : Reply.Put (Put.Stored None false) ≡ Reply.Put (Put.Held 1) → ⊥
stored_over_lock_not_due e = cc

stored_over_lock_no_fault : ◌≡◌ {A = Option Reply} None (Some (Reply.Put (Put.Stored None false))) → ⊥
stored_over_lock_no_fault e = cc

stored_over_lock_not_legal : IsLegal deleted_under_lock_script (Some deleted_under_lock_script.rows) stored_over_lock → ⊥
unfolding all_open
stored_over_lock_not_legal h = elim h.1.reply [
  | inl e ↦ let f : Reply.Put (Put.Stored None false) ≡ Reply.Put (Put.Held 1) = e in stored_over_lock_not_due f
  | inr e ↦ let f : ◌≡◌ {A = Option Reply} None (Some (Reply.Put (Put.Stored None false))) = e in stored_over_lock_no_fault f
]
