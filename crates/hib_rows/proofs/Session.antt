-- How a row of one session is computed: the acts that are due one after the other, if these are the entries, and what is
-- answered to the session's own acts. Others give the replies to the acts of the parts, so they are taken from the entries.
use Rattle.std.proofs.Common.{ℕ, Bool, true, List, [], ◌∷◌, ◌++◌, map, Some, None, Option, pos}
use Rattle.hib_journal.specs.Types.{Cell, Strategy, Select, Query, Statement, Script, Act, Reply, Entry}
use Rattle.hib_journal.specs.Sessions.{Journal}
use Rattle.hib_journal.specs.Next.{next}
use Rattle.hib_journal.specs.Legal.{reply_of, part_of}
use Rattle.hib_rows.proofs.Run.{entry}

-- an entry of the session, in the part of its act
abbrev pub at : ℕ → Act → Reply → Entry
at tick a r = entry tick (Some 0) (part_of a 0) a r

-- cells
abbrev pub dune_title : Cell
dune_title = Cell.Text (68 ∷ 117 ∷ 110 ∷ 101 ∷ [])

abbrev pub emma_title : Cell
emma_title = Cell.Text (69 ∷ 109 ∷ 109 ∷ 97 ∷ [])

abbrev pub chad : Cell
chad = Cell.Text (67 ∷ 104 ∷ 97 ∷ 100 ∷ [])

abbrev pub old : Cell
old = Cell.Text (111 ∷ 108 ∷ 100 ∷ [])

abbrev pub new : Cell
new = Cell.Text (110 ∷ 101 ∷ 119 ∷ [])

abbrev pub letter : ℕ → Cell
letter byte = Cell.Text (byte ∷ [])

abbrev pub stock : ℕ → Cell
stock n = Cell.Int (pos n)

-- a cached query of all rows
abbrev pub query : Select → Query
query select = record { name = []; cached = true; entity = 0; condition = None; order = []; offset = 0; limit = 200; select = select }

-- the script of one entity and one session
abbrev pub of_one : Strategy → Bool → ℕ → List Query → ℕ → List Statement → Script
of_one strategy versioned capacity queries results statements = record {
  timeout = 1000;
  results = results;
  mapping = record { name = []; strategy = strategy; versioned = versioned; capacity = capacity; columns = [] } ∷ [];
  rows = [];
  queries = queries;
  schedule = [];
  sessions = record { name = []; statements = statements } ∷ [];
}

-- the act that is due before each of these entries, and after the last one
abbrev pub due : Script → Journal → List Entry → List (Option Act)
due script past [] = next script 0 past ∷ []
due script past (e ∷ es) = next script 0 past ∷ due script (e ∷ past) es

abbrev pub acts_of : List Entry → List (Option Act)
acts_of es = map (λ e. Some e.act) es ++ None ∷ []

-- the answer of the session itself, if it has one
abbrev pub answer : Act → Reply → Reply → Reply
answer Act.End own given = own
answer (Act.Find k) own given = own
answer (Act.Persist k r) own given = own
answer (Act.Set k cells) own given = own
answer (Act.Remove k) own given = own
answer Act.Clear own given = own
answer _ own given = given

abbrev pub answered : Script → Journal → List Entry → List Reply
answered script past [] = []
answered script past (e ∷ es) = answer e.act (reply_of script [] past 0 e.tick e.act) e.reply ∷ answered script (e ∷ past) es

abbrev pub replies_of : List Entry → List Reply
replies_of es = map (λ e. e.reply) es
