-- A node hits its old item until the fence of the other node's commit: the first worked row.
use Rattle.std.proofs.Common.{◌≡◌, lit≤, inl, length, drop, true, false, [], ◌∷◌, reverse, Some, None, refl, pos}
use Rattle.hib_journal.specs.Types.{Cell, Change, Strategy, Statement, Script, Part, Act, Outcome, Commit, Miss, Put, Unlocked, Updated, Reply}
use Rattle.hib_journal.specs.Room.{key}
use Rattle.hib_journal.specs.Slot.{Slot, slot}
use Rattle.hib_nodes_law.specs.declared.nodes.NodeOrder.{NodeOrder}
use Rattle.hib_nodes_law.specs.Types.{Noded, Nodings}
use Rattle.hib_nodes_law.specs.Nodes.{of_node, behind, queue, since, is_sound_at}
use Rattle.hib_nodes_law.specs.Legal.{AreNodesLegal}
use Rattle.hib_nodes_rows.proofs.Run.{dune, entry, run, ◌▷◌, all_open}

abbrev pub script : Script
script = record {
  timeout = 1000;
  results = 100;
  mapping = record { name = []; strategy = Strategy.ReadWrite; versioned = true; capacity = 100; columns = [] } ∷ [];
  rows = (key 0 1, dune 0 3) ∷ [];
  queries = [];
  schedule = [];
  sessions =
      record { name = []; statements = Statement.Find (key 0 1) ∷ Statement.Set (key 0 1) ((1, Cell.Int (pos 2)) ∷ []) ∷ Statement.Commit ∷ [] }
      ∷ record { name = []; statements = Statement.Find (key 0 1) ∷ Statement.Commit ∷ [] }
      ∷ record { name = []; statements = Statement.Find (key 0 1) ∷ Statement.Commit ∷ [] }
      ∷ record { name = []; statements = Statement.Find (key 0 1) ∷ Statement.Commit ∷ [] }
      ∷ [];
}

abbrev pub places : Nodings
places = (1, 2) ∷ (2, 2) ∷ (3, 2) ∷ []

abbrev pub journal : Noded
journal = reverse (
    entry 1 2 (Some 1) Part.Registry Act.Begin (Reply.Began 1)
    ∷ entry 2 2 (Some 1) (Part.Region 0) (Act.Get (key 0 1) 1) (Reply.Miss Miss.Absent)
    ∷ entry 3 2 (Some 1) Part.Store (Act.Load (key 0 1)) (Reply.Row (Some (dune 0 3)))
    ∷ entry 4 2 (Some 1) (Part.Region 0) (Act.Put (key 0 1) (dune 0 3) 1 1) (Reply.Put (Put.Stored None false))
    ∷ entry 5 2 (Some 1) Part.Store Act.Commit (Reply.Commit Commit.Committed)
    ∷ entry 6 2 (Some 1) Part.Registry Act.End (Reply.Ended Outcome.Committed)
    ∷ entry 7 1 (Some 0) Part.Registry Act.Begin (Reply.Began 7)
    ∷ entry 8 1 (Some 0) (Part.Region 0) (Act.Get (key 0 1) 7) (Reply.Miss Miss.Absent)
    ∷ entry 9 1 (Some 0) Part.Store (Act.Load (key 0 1)) (Reply.Row (Some (dune 0 3)))
    ∷ entry 10 1 (Some 0) (Part.Region 0) (Act.Put (key 0 1) (dune 0 3) 7 7) (Reply.Put (Put.Stored None false))
    ∷ entry 11 1 (Some 0) (Part.Own 0) (Act.Set (key 0 1) ((1, Cell.Int (pos 2)) ∷ [])) Reply.Set
    ∷ entry 12 1 (Some 0) Part.Stamps (Act.Pre (0 ∷ [])) (Reply.Stamped 1012)
    ∷ entry 13 1 (Some 0) (Part.Region 0) (Act.Lock (key 0 1) (Some 0) 7) (Reply.Locked (record { id = 13; until = 1013; evicted = None }))
    ∷ entry 14 1 (Some 0) Part.Store (Act.Write (Change.Update (key 0 1) (Some 0) (dune 1 2))) Reply.Written
    ∷ entry 15 1 (Some 0) Part.Store Act.Commit (Reply.Commit Commit.Committed)
    ∷ entry 16 1 (Some 0) (Part.Region 0) (Act.AfterUpdate (key 0 1) 13 (dune 1 2)) (Reply.Updated Updated.Stored)
    ∷ entry 17 1 (Some 0) Part.Stamps (Act.Stamp (0 ∷ [])) (Reply.Stamped 17)
    ∷ entry 18 1 (Some 0) Part.Registry Act.End (Reply.Ended Outcome.Committed)
    ∷ entry 19 2 (Some 2) Part.Registry Act.Begin (Reply.Began 19)
    ∷ entry 20 2 (Some 2) (Part.Region 0) (Act.Get (key 0 1) 19) (Reply.Hit (dune 0 3))
    ∷ entry 21 2 (Some 2) Part.Store Act.Commit (Reply.Commit Commit.Committed)
    ∷ entry 22 2 (Some 2) Part.Registry Act.End (Reply.Ended Outcome.Committed)
    ∷ entry 23 2 None (Part.Region 0) (Act.Lock (key 0 1) None 23) (Reply.Locked (record { id = 23; until = 1023; evicted = None }))
    ∷ entry 24 2 None (Part.Region 0) (Act.Unlock (key 0 1) 23) (Reply.Unlocked (Unlocked.Released 0))
    ∷ entry 25 2 (Some 3) Part.Registry Act.Begin (Reply.Began 25)
    ∷ entry 26 2 (Some 3) (Part.Region 0) (Act.Get (key 0 1) 25) (Reply.Miss (Miss.Released 24))
    ∷ entry 27 2 (Some 3) Part.Store (Act.Load (key 0 1)) (Reply.Row (Some (dune 1 2)))
    ∷ entry 28 2 (Some 3) (Part.Region 0) (Act.Put (key 0 1) (dune 1 2) 25 25) (Reply.Put (Put.Stored None false))
    ∷ entry 29 2 (Some 3) Part.Store Act.Commit (Reply.Commit Commit.Committed)
    ∷ entry 30 2 (Some 3) Part.Registry Act.End (Reply.Ended Outcome.Committed)
    ∷ [])

computed : run script script.rows places (NodeOrder.Run 1 6 ∷ NodeOrder.Run 0 12 ∷ NodeOrder.Run 2 4 ∷ NodeOrder.Deliver 2 ∷ NodeOrder.Run 3 6 ∷ NodeOrder.Run 0 60 ∷ NodeOrder.Run 1 60 ∷ NodeOrder.Run 2 60 ∷ NodeOrder.Run 3 60 ∷ NodeOrder.Deliver 1 ∷ NodeOrder.Deliver 2 ∷ NodeOrder.Deliver 2 ∷ []) [] ≡ journal
unfolding all_open
computed = refl

legal : AreNodesLegal script (Some script.rows) places journal
unfolding all_open
legal = tt
    ▷ record { tick = refl; bounded = lit≤ tt; act = refl; part = refl; reply = inl refl }
    ▷ record { tick = refl; bounded = lit≤ tt; act = refl; part = refl; reply = inl refl }
    ▷ record { tick = refl; bounded = lit≤ tt; act = refl; part = refl; reply = inl refl }
    ▷ record { tick = refl; bounded = lit≤ tt; act = refl; part = refl; reply = inl refl }
    ▷ record { tick = refl; bounded = lit≤ tt; act = refl; part = refl; reply = inl refl }
    ▷ record { tick = refl; bounded = lit≤ tt; act = refl; part = refl; reply = inl refl }
    ▷ record { tick = refl; bounded = lit≤ tt; act = refl; part = refl; reply = inl refl }
    ▷ record { tick = refl; bounded = lit≤ tt; act = refl; part = refl; reply = inl refl }
    ▷ record { tick = refl; bounded = lit≤ tt; act = refl; part = refl; reply = inl refl }
    ▷ record { tick = refl; bounded = lit≤ tt; act = refl; part = refl; reply = inl refl }
    ▷ record { tick = refl; bounded = lit≤ tt; act = refl; part = refl; reply = inl refl }
    ▷ record { tick = refl; bounded = lit≤ tt; act = refl; part = refl; reply = inl refl }
    ▷ record { tick = refl; bounded = lit≤ tt; act = refl; part = refl; reply = inl refl }
    ▷ record { tick = refl; bounded = lit≤ tt; act = refl; part = refl; reply = inl refl }
    ▷ record { tick = refl; bounded = lit≤ tt; act = refl; part = refl; reply = inl refl }
    ▷ record { tick = refl; bounded = lit≤ tt; act = refl; part = refl; reply = inl refl }
    ▷ record { tick = refl; bounded = lit≤ tt; act = refl; part = refl; reply = inl refl }
    ▷ record { tick = refl; bounded = lit≤ tt; act = refl; part = refl; reply = inl refl }
    ▷ record { tick = refl; bounded = lit≤ tt; act = refl; part = refl; reply = inl refl }
    ▷ record { tick = refl; bounded = lit≤ tt; act = refl; part = refl; reply = inl refl }
    ▷ record { tick = refl; bounded = lit≤ tt; act = refl; part = refl; reply = inl refl }
    ▷ record { tick = refl; bounded = lit≤ tt; act = refl; part = refl; reply = inl refl }
    ▷ record { tick = refl; bounded = lit≤ tt; act = refl; part = refl; reply = inl refl }
    ▷ record { tick = refl; bounded = lit≤ tt; act = refl; part = refl; reply = inl refl }
    ▷ record { tick = refl; bounded = lit≤ tt; act = refl; part = refl; reply = inl refl }
    ▷ record { tick = refl; bounded = lit≤ tt; act = refl; part = refl; reply = inl refl }
    ▷ record { tick = refl; bounded = lit≤ tt; act = refl; part = refl; reply = inl refl }
    ▷ record { tick = refl; bounded = lit≤ tt; act = refl; part = refl; reply = inl refl }
    ▷ record { tick = refl; bounded = lit≤ tt; act = refl; part = refl; reply = inl refl }
    ▷ record { tick = refl; bounded = lit≤ tt; act = refl; part = refl; reply = inl refl }

-- after 20 entries node 2 still has the item that it stored at tick 4: its row was loaded at 3, and the commit at 15 is behind
before : Noded
before = drop 10 journal

old_item : slot 1000 (key 0 1) (of_node 2 before) ≡ Slot.Item (dune 0 3) 4
unfolding before all_open
old_item = refl

is_sound_there : is_sound_at 2 (key 0 1) before ≡ true
unfolding before all_open
is_sound_there = refl

since_load : length (since 2 (key 0 1) before) ≡ 3
unfolding before
since_load = refl

one_behind : behind 2 (key 0 1) before ≡ entry 15 1 (Some 0) Part.Store Act.Commit (Reply.Commit Commit.Committed) ∷ []
unfolding before
one_behind = refl

one_queued : queue script 2 before ≡ key 0 1 ∷ []
unfolding before
one_queued = refl

-- the fence has taken the pair: nothing is behind
none_behind : behind 2 (key 0 1) journal ≡ []
none_behind = refl

-- the item that is stored afterwards was loaded after the commit
since_later : length (since 2 (key 0 1) journal) ≡ 27
since_later = refl
