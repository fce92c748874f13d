-- How a worked journal of two nodes is computed from its script: the next act of each session, or a fence, in turn, by the orders.
use Rattle.std.specs.Prelude.{unwrap_or}
use Rattle.std.proofs.Common.{ℕ, zero, suc, pos, length, List, [], ◌∷◌, Some, None, Option}
use Rattle.hib_base.specs.Tables.{Tables}
use Rattle.hib_journal.specs.Types.{Cell, Row, Script, Part, Act, Reply}
use Rattle.hib_journal.specs.Sessions.{changes, committed}
use Rattle.hib_journal.specs.Slot.{slot_from}
use Rattle.hib_journal.specs.Room.{victim, room, oldest}
use Rattle.hib_journal.specs.Results.{result, dropped}
use Rattle.hib_journal.specs.Query.{gives}
use Rattle.hib_journal.specs.Held.{held, pending}
use Rattle.hib_journal.specs.Next.{next}
use Rattle.hib_journal.specs.Legal.{reply_by, part_of}
use Rattle.hib_nodes_law.specs.declared.nodes.NodeEntry.{NodeEntry}
use Rattle.hib_nodes_law.specs.declared.nodes.NodeOrder.{NodeOrder}
use Rattle.hib_nodes_law.specs.Types.{Noded, Nodings}
use Rattle.hib_nodes_law.specs.Nodes.{entries, is_sound_at}
use Rattle.hib_nodes_law.specs.Legal.{node_of, second_half, due_of, seen_at}

-- a row of this version with the text "Dune" and a number
abbrev pub dune : ℕ → ℕ → Row
dune v n = record { version = Some v; cells = Cell.Text (68 ∷ 117 ∷ 110 ∷ 101 ∷ []) ∷ Cell.Int (pos n) ∷ [] }

abbrev pub entry : ℕ → ℕ → Option ℕ → Part → Act → Reply → NodeEntry
entry t n s p a r = record { node = n; entry = record { tick = t; session = s; part = p; act = a; reply = r } }

abbrev pub step_of : Script → Tables → Noded → ℕ → Option ℕ → Option Act → Noded
step_of script start h n by None = h
step_of script start h n by (Some a) =
    entry (suc (length h)) n by (part_of a (unwrap_or by 0)) a
    (reply_by script (changes (unwrap_or by 0) (entries h)) (committed start (entries h)) (seen_at (part_of a (unwrap_or by 0)) n h)
    (unwrap_or by 0) (suc (length h)) a) ∷ h

abbrev pub step : Script → Tables → Nodings → Noded → ℕ → Option ℕ → Noded
step script start places h n by = step_of script start h n by (due_of script places h n (suc (length h)) by (second_half h))

abbrev pub steps : Script → Tables → Nodings → ℕ → ℕ → Noded → Noded
steps script start places s zero h = h
steps script start places s (suc m) h = steps script start places s m (step script start places h (node_of places s) (Some s))

-- a fence has two entries
abbrev pub deliver : Script → Tables → Nodings → ℕ → Noded → Option ℕ → Noded
deliver script start places n h by = step script start places (step script start places h n by) n by

abbrev pub order_of : Script → Tables → Nodings → NodeOrder → Noded → Noded
order_of script start places (NodeOrder.Run s m) h = steps script start places s m h
order_of script start places (NodeOrder.Deliver n) h = deliver script start places n h None

abbrev pub run : Script → Tables → Nodings → List NodeOrder → Noded → Noded
run script start places [] h = h
run script start places (o ∷ os) h = run script start places os (order_of script start places o h)

unfoldable pub all_open : ℕ
unfolding slot_from victim room oldest result dropped gives held pending next is_sound_at
all_open = 0

-- the journal so far is legal, and its next entry is due
infixl 10 ◌▷◌
pub ◌▷◌ : {A : Type 0} {B : Type 0} → A → B → A × B
a ▷ b = (a, b)
