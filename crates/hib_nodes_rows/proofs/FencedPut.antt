-- A fence turns away a put of a row that was loaded before the other node's commit: the second worked row.
use Rattle.std.proofs.Common.{◌≡◌, lit≤, inl, drop, true, false, [], ◌∷◌, reverse, Some, None, refl, pos}
use Rattle.hib_journal.specs.Types.{Cell, Change, Strategy, Statement, Script, Part, Act, Outcome, Commit, Miss, Put, Unlocked, Updated, Evicted, Reply}
use Rattle.hib_journal.specs.Room.{key}
use Rattle.hib_nodes_law.specs.declared.nodes.NodeOrder.{NodeOrder}
use Rattle.hib_nodes_law.specs.Types.{Noded, Nodings}
use Rattle.hib_nodes_law.specs.Legal.{IsNodeStep, AreNodesLegal}
use Rattle.hib_nodes_rows.proofs.Run.{dune, entry, run, ◌▷◌, all_open}

abbrev pub script : Script
script = record {
  timeout = 1000;
  results = 100;
  mapping = record { name = []; strategy = Strategy.ReadWrite; versioned = true; capacity = 100; columns = [] } ∷ [];
  rows = (key 0 1, dune 0 3) ∷ [];
  queries = [];
  schedule = [];
  sessions =
      record { name = []; statements = Statement.Find (key 0 1) ∷ Statement.Set (key 0 1) ((1, Cell.Int (pos 2)) ∷ []) ∷ Statement.Commit ∷ [] }
      ∷ record { name = []; statements = Statement.Find (key 0 1) ∷ Statement.Commit ∷ [] }
      ∷ [];
}

abbrev pub places : Nodings
places = (1, 2) ∷ []

abbrev pub journal : Noded
journal = reverse (
    entry 1 2 (Some 1) Part.Registry Act.Begin (Reply.Began 1)
    ∷ entry 2 2 (Some 1) (Part.Region 0) (Act.Get (key 0 1) 1) (Reply.Miss Miss.Absent)
    ∷ entry 3 2 (Some 1) Part.Store (Act.Load (key 0 1)) (Reply.Row (Some (dune 0 3)))
    ∷ entry 4 1 (Some 0) Part.Registry Act.Begin (Reply.Began 4)
    ∷ entry 5 1 (Some 0) (Part.Region 0) (Act.Get (key 0 1) 4) (Reply.Miss Miss.Absent)
    ∷ entry 6 1 (Some 0) Part.Store (Act.Load (key 0 1)) (Reply.Row (Some (dune 0 3)))
    ∷ entry 7 1 (Some 0) (Part.Region 0) (Act.Put (key 0 1) (dune 0 3) 4 4) (Reply.Put (Put.Stored None false))
    ∷ entry 8 1 (Some 0) (Part.Own 0) (Act.Set (key 0 1) ((1, Cell.Int (pos 2)) ∷ [])) Reply.Set
    ∷ entry 9 1 (Some 0) Part.Stamps (Act.Pre (0 ∷ [])) (Reply.Stamped 1009)
    ∷ entry 10 1 (Some 0) (Part.Region 0) (Act.Lock (key 0 1) (Some 0) 4) (Reply.Locked (record { id = 10; until = 1010; evicted = None }))
    ∷ entry 11 1 (Some 0) Part.Store (Act.Write (Change.Update (key 0 1) (Some 0) (dune 1 2))) Reply.Written
    ∷ entry 12 1 (Some 0) Part.Store Act.Commit (Reply.Commit Commit.Committed)
    ∷ entry 13 1 (Some 0) (Part.Region 0) (Act.AfterUpdate (key 0 1) 10 (dune 1 2)) (Reply.Updated Updated.Stored)
    ∷ entry 14 1 (Some 0) Part.Stamps (Act.Stamp (0 ∷ [])) (Reply.Stamped 14)
    ∷ entry 15 1 (Some 0) Part.Registry Act.End (Reply.Ended Outcome.Committed)
    ∷ entry 16 2 None (Part.Region 0) (Act.Lock (key 0 1) None 1) (Reply.Locked (record { id = 16; until = 1016; evicted = None }))
    ∷ entry 17 2 None (Part.Region 0) (Act.Unlock (key 0 1) 16) (Reply.Unlocked (Unlocked.Released 0))
    ∷ entry 18 2 (Some 1) (Part.Region 0) (Act.Put (key 0 1) (dune 0 3) 1 1) (Reply.Put (Put.Early 17))
    ∷ entry 19 2 (Some 1) Part.Store Act.Commit (Reply.Commit Commit.Committed)
    ∷ entry 20 2 (Some 1) Part.Registry Act.End (Reply.Ended Outcome.Committed)
    ∷ [])

computed : run script script.rows places (NodeOrder.Run 1 3 ∷ NodeOrder.Run 0 12 ∷ NodeOrder.Deliver 2 ∷ NodeOrder.Run 1 3 ∷ NodeOrder.Run 0 60 ∷ NodeOrder.Run 1 60 ∷ NodeOrder.Deliver 1 ∷ NodeOrder.Deliver 2 ∷ NodeOrder.Deliver 2 ∷ []) [] ≡ journal
unfolding all_open
computed = refl

legal : AreNodesLegal script (Some script.rows) places journal
unfolding all_open
legal = tt
    ▷ record { tick = refl; bounded = lit≤ tt; act = refl; part = refl; reply = inl refl }
    ▷ record { tick = refl; bounded = lit≤ tt; act = refl; part = refl; reply = inl refl }
    ▷ record { tick = refl; bounded = lit≤ tt; act = refl; part = refl; reply = inl refl }
    ▷ record { tick = refl; bounded = lit≤ tt; act = refl; part = refl; reply = inl refl }
    ▷ record { tick = refl; bounded = lit≤ tt; act = refl; part = refl; reply = inl refl }
    ▷ record { tick = refl; bounded = lit≤ tt; act = refl; part = refl; reply = inl refl }
    ▷ record { tick = refl; bounded = lit≤ tt; act = refl; part = refl; reply = inl refl }
    ▷ record { tick = refl; bounded = lit≤ tt; act = refl; part = refl; reply = inl refl }
    ▷ record { tick = refl; bounded = lit≤ tt; act = refl; part = refl; reply = inl refl }
    ▷ record { tick = refl; bounded = lit≤ tt; act = refl; part = refl; reply = inl refl }
    ▷ record { tick = refl; bounded = lit≤ tt; act = refl; part = refl; reply = inl refl }
    ▷ record { tick = refl; bounded = lit≤ tt; act = refl; part = refl; reply = inl refl }
    ▷ record { tick = refl; bounded = lit≤ tt; act = refl; part = refl; reply = inl refl }
    ▷ record { tick = refl; bounded = lit≤ tt; act = refl; part = refl; reply = inl refl }
    ▷ record { tick = refl; bounded = lit≤ tt; act = refl; part = refl; reply = inl refl }
    ▷ record { tick = refl; bounded = lit≤ tt; act = refl; part = refl; reply = inl refl }
    ▷ record { tick = refl; bounded = lit≤ tt; act = refl; part = refl; reply = inl refl }
    ▷ record { tick = refl; bounded = lit≤ tt; act = refl; part = refl; reply = inl refl }
    ▷ record { tick = refl; bounded = lit≤ tt; act = refl; part = refl; reply = inl refl }
    ▷ record { tick = refl; bounded = lit≤ tt; act = refl; part = refl; reply = inl refl }

-- at the delivery the fence is due, so an eviction in its place is not legal
at_delivery : Noded
at_delivery = drop 5 journal

evicted : (s : IsNodeStep script (Some script.rows) places at_delivery (entry 16 2 None (Part.Region 0) (Act.Evict (key 0 1)) (Reply.Evicted Evicted.Absent))) → ⊥
unfolding at_delivery all_open
evicted s = absurd (cc (s.act))
