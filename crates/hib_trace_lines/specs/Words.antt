-- The words of a trace.
use Rattle.std.specs.Prelude.{ℕ, List, [], ◌∷◌, codes, Option, Some, None, bytes_eq, if◌then◌else◌}
use Rattle.std.specs.Option.{option_or}
use Rattle.hib_trace_lines.specs.declared.events.Operation.{Operation}
use Rattle.hib_trace_lines.specs.declared.events.Outcome.{Outcome}
use Rattle.hib_trace_lines.specs.declared.faults.Member.{Member}

abbrev pub word_of : {A : Type 0} → List (List ℕ × A) → List ℕ → Option A
word_of [] w = None
word_of (x ∷ xs) w = if bytes_eq w x.0 then Some x.1 else word_of xs w

abbrev pub cache_operations : List (List ℕ × Operation)
cache_operations =
    (codes "hit", Operation.Hit) ∷ (codes "miss", Operation.Miss) ∷ (codes "put", Operation.Put) ∷ (codes "update", Operation.Update) ∷
    (codes "drop", Operation.Evict) ∷ (codes "lock", Operation.Lock) ∷ (codes "unlock", Operation.Unlock) ∷ []

abbrev pub database_operations : List (List ℕ × Operation)
database_operations =
    (codes "load", Operation.Load) ∷ (codes "write", Operation.Write) ∷ (codes "commit", Operation.Commit) ∷
    (codes "rollback", Operation.Rollback) ∷ []

abbrev pub list_operations : List (List ℕ × Operation)
list_operations =
    (codes "list-hit", Operation.ListHit) ∷ (codes "list-miss", Operation.ListMiss) ∷ (codes "list-put", Operation.ListPut) ∷
    (codes "list-load", Operation.ListLoad) ∷ []

abbrev pub operation_of : List ℕ → Option Operation
operation_of w = option_or (option_or (word_of cache_operations w) (word_of database_operations w)) (word_of list_operations w)

abbrev pub outcomes : List (List ℕ × Outcome)
outcomes =
    (codes "committed", Outcome.Committed) ∷ (codes "unknown", Outcome.Unknown) ∷ (codes "stored", Outcome.Stored) ∷
    (codes "refused", Outcome.Refused) ∷ (codes "done", Outcome.Done) ∷ []

-- the names of the members
abbrev pub members : List (List ℕ × Member)
members =
    (codes "session", Member.Session) ∷ (codes "tx", Member.Transaction) ∷ (codes "op", Member.Operation) ∷
    (codes "key", Member.Key) ∷ (codes "value", Member.Value) ∷ (codes "version", Member.Version) ∷ (codes "base", Member.Base) ∷
    (codes "outcome", Member.Outcome) ∷ (codes "tables", Member.Tables) ∷ (codes "writes", Member.Writes) ∷
    (codes "begin", Member.Begin) ∷ (codes "end", Member.End) ∷ []
