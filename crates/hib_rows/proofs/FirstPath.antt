-- A session persists a row of an entity without a cache, finds it again, and commits.
-- Its journal of eight entries is legal. It is not if one entry is turned: in its tick, its session, its part, its act or its reply.
use Rattle.std.proofs.Common.{◌≡◌, ◌<◌, drop, true, [], ◌∷◌, reverse, Some, None, Option, refl, inl, inr, lit≤, lit<}
use Rattle.std.specs.Prelude.{IsSome}
use Rattle.std.proofs.Math.Nat.{lt_irrefl}
use Rattle.hib_journal.specs.Types.{Cell, Row, Change, Strategy, ColumnType, Statement, Script, Part, Act, Outcome, Commit, Reply, Order}
use Rattle.hib_journal.specs.Sessions.{Journal}
use Rattle.hib_journal.specs.Room.{key}
use Rattle.hib_journal.specs.Legal.{IsLegal}
use Rattle.hib_rows.proofs.Run.{row, entry, run, ◌▷◌, all_open}

-- the row that the session persists: its version and its title
abbrev pub dune_new : Row
dune_new = row (Some 0) (Cell.Text (68 ∷ 117 ∷ 110 ∷ 101 ∷ []) ∷ [])

abbrev pub first_path_script : Script
first_path_script = record {
  timeout = 1000;
  results = 100;
  mapping = record { name = (66 ∷ 111 ∷ 111 ∷ 107 ∷ []); strategy = Strategy.Uncached; versioned = true; capacity = 0; columns = record { name = (116 ∷ 105 ∷ 116 ∷ 108 ∷ 101 ∷ []); kind = ColumnType.Text; default = None } ∷ [] } ∷ [];
  rows = [];
  queries = [];
  schedule = [];
  sessions =
      record { name = (97 ∷ []); statements = Statement.Persist (key 0 1) (Cell.Text (68 ∷ 117 ∷ 110 ∷ 101 ∷ []) ∷ []) ∷ Statement.Find (key 0 1) ∷ Statement.Commit ∷ [] }
      ∷ [];
}

abbrev pub first_path : Journal
first_path = reverse (
    entry 1 (Some 0) Part.Registry Act.Begin (Reply.Began 1)
    ∷ entry 2 (Some 0) (Part.Own 0) (Act.Persist (key 0 1) dune_new) Reply.New
    ∷ entry 3 (Some 0) (Part.Own 0) (Act.Find (key 0 1)) (Reply.Row (Some dune_new))
    ∷ entry 4 (Some 0) Part.Stamps (Act.Pre (0 ∷ [])) (Reply.Stamped 1004)
    ∷ entry 5 (Some 0) Part.Store (Act.Write (Change.Insert (key 0 1) dune_new)) Reply.Written
    ∷ entry 6 (Some 0) Part.Store Act.Commit (Reply.Commit Commit.Committed)
    ∷ entry 7 (Some 0) Part.Stamps (Act.Stamp (0 ∷ [])) (Reply.Stamped 7)
    ∷ entry 8 (Some 0) Part.Registry Act.End (Reply.Ended Outcome.Committed)
    ∷ [])

first_path_computed : run first_path_script first_path_script.rows (Order.Run 0 9 ∷ []) [] ≡ first_path
unfolding all_open
first_path_computed = refl

first_path_legal : IsLegal first_path_script (Some first_path_script.rows) first_path
unfolding all_open
first_path_legal = tt
    ▷ record { tick = record { positive = lit≤ tt; bounded = lit≤ tt; ordered = lit≤ tt; in_part = lit< tt; in_session = lit< tt }; session = refl; part = refl; act = refl; reply = inl refl }
    ▷ record { tick = record { positive = lit≤ tt; bounded = lit≤ tt; ordered = lit≤ tt; in_part = lit< tt; in_session = lit< tt }; session = refl; part = refl; act = refl; reply = inl refl }
    ▷ record { tick = record { positive = lit≤ tt; bounded = lit≤ tt; ordered = lit≤ tt; in_part = lit< tt; in_session = lit< tt }; session = refl; part = refl; act = refl; reply = inl refl }
    ▷ record { tick = record { positive = lit≤ tt; bounded = lit≤ tt; ordered = lit≤ tt; in_part = lit< tt; in_session = lit< tt }; session = refl; part = refl; act = refl; reply = inl refl }
    ▷ record { tick = record { positive = lit≤ tt; bounded = lit≤ tt; ordered = lit≤ tt; in_part = lit< tt; in_session = lit< tt }; session = refl; part = refl; act = refl; reply = inl refl }
    ▷ record { tick = record { positive = lit≤ tt; bounded = lit≤ tt; ordered = lit≤ tt; in_part = lit< tt; in_session = lit< tt }; session = refl; part = refl; act = refl; reply = inl refl }
    ▷ record { tick = record { positive = lit≤ tt; bounded = lit≤ tt; ordered = lit≤ tt; in_part = lit< tt; in_session = lit< tt }; session = refl; part = refl; act = refl; reply = inl refl }
    ▷ record { tick = record { positive = lit≤ tt; bounded = lit≤ tt; ordered = lit≤ tt; in_part = lit< tt; in_session = lit< tt }; session = refl; part = refl; act = refl; reply = inl refl }

-- The same, but the session does not find the row that it persisted.
abbrev pub first_path_lost_row : Journal
first_path_lost_row =
    entry 8 (Some 0) Part.Registry Act.End (Reply.Ended Outcome.Committed)
    ∷ entry 7 (Some 0) Part.Stamps (Act.Stamp (0 ∷ [])) (Reply.Stamped 7)
    ∷ entry 6 (Some 0) Part.Store Act.Commit (Reply.Commit Commit.Committed)
    ∷ entry 5 (Some 0) Part.Store (Act.Write (Change.Insert (key 0 1) dune_new)) Reply.Written
    ∷ entry 4 (Some 0) Part.Stamps (Act.Pre (0 ∷ [])) (Reply.Stamped 1004)
    ∷ entry 3 (Some 0) (Part.Own 0) (Act.Find (key 0 1)) (Reply.Row None)
    ∷ drop 6 first_path

first_path_lost_row_not_due : Reply.Row None ≡ Reply.Row (Some dune_new) → ⊥
first_path_lost_row_not_due e = cc

first_path_lost_row_no_fault : ◌≡◌ {A = Option Reply} None (Some (Reply.Row None)) → ⊥
first_path_lost_row_no_fault e = cc

first_path_lost_row_not_legal : IsLegal first_path_script (Some first_path_script.rows) first_path_lost_row → ⊥
unfolding all_open
first_path_lost_row_not_legal h = elim h.0.0.0.0.0.1.reply [
  | inl e ↦ let f : Reply.Row None ≡ Reply.Row (Some dune_new) = e in first_path_lost_row_not_due f
  | inr e ↦ let f : ◌≡◌ {A = Option Reply} None (Some (Reply.Row None)) = e in first_path_lost_row_no_fault f
]

-- The same, but the last entry has the tick of the one before, of its own session.
abbrev pub first_path_same_tick : Journal
first_path_same_tick =
    entry 7 (Some 0) Part.Registry Act.End (Reply.Ended Outcome.Committed)
    ∷ drop 1 first_path

first_path_same_tick_not_legal : IsLegal first_path_script (Some first_path_script.rows) first_path_same_tick → ⊥
unfolding all_open
first_path_same_tick_not_legal h = let f : 7 < 7 = h.1.tick.in_session in lt_irrefl 7 f

-- The same, and then the session begins again, though it has no statement left.
abbrev pub first_path_again : Journal
first_path_again = entry 9 (Some 0) Part.Registry Act.Begin (Reply.Began 9) ∷ first_path

first_path_again_not_due : IsSome {T = Act} None → ⊥
first_path_again_not_due e = cc

first_path_again_not_legal : IsLegal first_path_script (Some first_path_script.rows) first_path_again → ⊥
unfolding all_open
first_path_again_not_legal h = let f : IsSome {T = Act} None = h.1.session in first_path_again_not_due f

-- The same up to the stamp, but the stamp stands in the part of the store.
abbrev pub first_path_other_part : Journal
first_path_other_part =
    entry 7 (Some 0) Part.Store (Act.Stamp (0 ∷ [])) (Reply.Stamped 7)
    ∷ drop 2 first_path

first_path_other_part_not_due : ◌≡◌ {A = Option Part} (Some Part.Stamps) (Some Part.Store) → ⊥
first_path_other_part_not_due e = cc

first_path_other_part_not_legal : IsLegal first_path_script (Some first_path_script.rows) first_path_other_part → ⊥
unfolding all_open
first_path_other_part_not_legal h = let f : ◌≡◌ {A = Option Part} (Some Part.Stamps) (Some Part.Store) = h.1.part in first_path_other_part_not_due f

-- The same up to the commit, but the session ends without a stamp.
abbrev pub first_path_no_stamp : Journal
first_path_no_stamp =
    entry 7 (Some 0) Part.Registry Act.End (Reply.Ended Outcome.Committed)
    ∷ drop 2 first_path

first_path_no_stamp_not_due : ◌≡◌ {A = Option Act} (Some (Act.Stamp (0 ∷ []))) (Some Act.End) → ⊥
first_path_no_stamp_not_due e = cc

first_path_no_stamp_not_legal : IsLegal first_path_script (Some first_path_script.rows) first_path_no_stamp → ⊥
unfolding all_open
first_path_no_stamp_not_legal h = let f : ◌≡◌ {A = Option Act} (Some (Act.Stamp (0 ∷ []))) (Some Act.End) = h.1.act in first_path_no_stamp_not_due f
