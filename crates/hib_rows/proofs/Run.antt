-- How a worked journal is computed from its script: the next act of each session in turn, by the orders, with its reply.
-- In a worked script names are empty and columns are left out if no definition asks for them, and the schedule stands in the orders.
use Rattle.std.specs.Prelude.{unwrap_or}
use Rattle.std.proofs.Common.{ℕ, zero, suc, length, List, [], ◌∷◌, Some, None, Option, cond, pos}
use Rattle.hib_base.specs.Tables.{Tables}
use Rattle.hib_journal.specs.Types.{Cell, Row, Script, Part, Act, Reply, Order, Entry}
use Rattle.hib_journal.specs.Sessions.{Journal, own, is_open, was_killed}
use Rattle.hib_journal.specs.Slot.{slot_from}
use Rattle.hib_journal.specs.Room.{victim, room, oldest}
use Rattle.hib_journal.specs.Results.{result, dropped}
use Rattle.hib_journal.specs.Query.{gives}
use Rattle.hib_journal.specs.Held.{held, pending}
use Rattle.hib_journal.specs.Next.{next}
use Rattle.hib_journal.specs.Legal.{reply_of, part_of}
use Rattle.hib_journal.specs.Sound.{is_sound}

abbrev pub row : Option ℕ → List Cell → Row
row v cs = record { version = v; cells = cs }

-- rows of books: the version, the title and the stock
abbrev pub dune : ℕ → ℕ → Row
dune version stock = row (Some version) (Cell.Text (68 ∷ 117 ∷ 110 ∷ 101 ∷ []) ∷ Cell.Int (pos stock) ∷ [])

abbrev pub emma : ℕ → ℕ → Row
emma version stock = row (Some version) (Cell.Text (69 ∷ 109 ∷ 109 ∷ 97 ∷ []) ∷ Cell.Int (pos stock) ∷ [])

abbrev pub ulysses : ℕ → ℕ → Row
ulysses version stock = row (Some version) (Cell.Text (85 ∷ []) ∷ Cell.Int (pos stock) ∷ [])

abbrev pub entry : ℕ → Option ℕ → Part → Act → Reply → Entry
entry t s p a r = record { tick = t; session = s; part = p; act = a; reply = r }

-- one entry more, if an act is due: in its part, with the reply that is due, at the next tick
abbrev pub step_of : Script → Tables → Journal → Option ℕ → Option Act → Journal
step_of script start h by None = h
step_of script start h by (Some a) =
    entry (suc (length h)) by (part_of a (unwrap_or by 0)) a (reply_of script start h (unwrap_or by 0) (suc (length h)) a) ∷ h

abbrev pub next_of : Script → Journal → ℕ → Option Act
next_of script h s = cond (was_killed s h) None (next script s (own s h))

-- a session's next acts, up to a number of them
abbrev pub steps : Script → Tables → ℕ → ℕ → Journal → Journal
steps script start s zero h = h
steps script start s (suc n) h = steps script start s n (step_of script start h (Some s) (next_of script h s))

abbrev pub order_of : Script → Tables → Order → Journal → Journal
order_of script start (Order.Run s n) h = steps script start s n h
order_of script start (Order.Kill s) h = step_of script start h None (cond (is_open s h) (Some (Act.Kill s)) None)
order_of script start (Order.Evict k) h = step_of script start h None (Some (Act.Evict k))
order_of script start Order.Restart h = step_of script start h None (Some Act.Restart)

-- the journal after some orders
abbrev pub run : Script → Tables → List Order → Journal → Journal
run script start [] h = h
run script start (o ∷ os) h = run script start os (order_of script start o h)

-- the journal so far is legal, and its next entry is due
infixl 10 ◌▷◌
pub ◌▷◌ : {A : Type 0} {B : Type 0} → A → B → A × B
a ▷ b = (a, b)

-- opens what a computation of a journal needs
unfoldable pub all_open : ℕ
unfolding slot_from victim room oldest result dropped gives held pending next is_sound
all_open = 0
