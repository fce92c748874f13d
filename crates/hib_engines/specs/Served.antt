-- What an engine owes for an act that it answers.
use Rattle.std.specs.Prelude.{◌<◌, ℕ, Bool, true, false, ◌∷◌, length, Option}
use Rattle.std.specs.List.{All}
use Rattle.hib_journal.specs.Types.{Script, Part, Act, Reply}
use Rattle.hib_journal.specs.Sessions.{Journal, same_part}
use Rattle.hib_journal.specs.Legal.{part_of}
use Rattle.hib_journal.specs.Lists.{entry_at, IsReplyOf}

-- an act of session s is asked of this part
abbrev pub is_for : Part → Act → ℕ → Bool
is_for p a s = same_part p (part_of a s)

-- the reply is the one that the definitions give over the list, and the engine stands for the list with the entry
pub record IsServed (Stands : Journal → Type 0) (script : Script) (l : Journal) (by : Option ℕ) (now : ℕ) (a : Act) (r : Reply) : Type 0 where
  pub reply : IsReplyOf script l by now a r
  pub stands : Stands (entry_at now by a r ∷ l)

-- the acts that read a part and leave it as it is
abbrev pub reads : Act → Bool
reads (Act.Load k) = true
reads (Act.List q) = true
reads (Act.Get k t) = true
reads _ = false

-- the tables that an act names are below a number
abbrev pub AreWithin : ℕ → Act → Type 0
AreWithin n (Act.Pre ts) = All (λ t. t < n) ts
AreWithin n (Act.Stamp ts) = All (λ t. t < n) ts
AreWithin n _ = Unit {0}

-- the query that an act names is there
abbrev pub HasQuery : Script → Act → Type 0
HasQuery script (Act.List q) = q < length script.queries
HasQuery script (Act.Look q) = q < length script.queries
HasQuery script (Act.Check q t) = q < length script.queries
HasQuery script (Act.Keep q t l) = q < length script.queries
HasQuery script _ = Unit {0}
