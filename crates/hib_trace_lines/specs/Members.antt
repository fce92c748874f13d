-- The members of a line's object, and the event that they are.
use Rattle.std.specs.Prelude.{ℕ, List, [], ◌∷◌, codes, Option, Some, None}
use Rattle.std.specs.Option.{option_and_then}
use Rattle.serde_json.specs.Data.{Data, null, array, Items, no_items, item}
use Rattle.serde_json.specs.Find.{get, at, as_str, as_number, as_u64}
use Rattle.hib_trace_lines.specs.Events.{EventText, RowText}
use Rattle.hib_trace_lines.specs.Words.{word_of, operation_of, outcomes}
use Rattle.hib_trace_lines.specs.declared.events.Operation.{Operation}
use Rattle.hib_trace_lines.specs.declared.events.Outcome.{Outcome}
use Rattle.hib_trace_lines.specs.declared.faults.Member.{Member}

abbrev pub member_name : Member → List ℕ
member_name Member.Session = codes "session"
member_name Member.Transaction = codes "tx"
member_name Member.Operation = codes "op"
member_name Member.Key = codes "key"
member_name Member.Value = codes "value"
member_name Member.Version = codes "version"
member_name Member.Base = codes "base"
member_name Member.Outcome = codes "outcome"
member_name Member.Tables = codes "tables"
member_name Member.Writes = codes "writes"
member_name Member.Begin = codes "begin"
member_name Member.End = codes "end"

-- a member that is a text, and one that is a whole number of 64 bits
abbrev pub text_at : Member → Data → Option (List ℕ)
text_at m d = option_and_then as_str (get (member_name m) d)

abbrev pub whole_at : Member → Data → Option ℕ
whole_at m d = option_and_then as_u64 (option_and_then as_number (get (member_name m) d))

abbrev pub operation_at : Data → Option Operation
operation_at d = option_and_then operation_of (text_at Member.Operation d)

abbrev pub outcome_at : Data → Option Outcome
outcome_at d = option_and_then (word_of outcomes) (text_at Member.Outcome d)

-- ---- the rows that a commit says it made

abbrev pub row_with : Option (List ℕ) → Option ℕ → Option Data → Option RowText
row_with (Some key) (Some version) None = Some (record { key = key; version = version })
row_with _ _ _ = None

-- a pair of a key and a version
abbrev pub row_in : Data → Option RowText
row_in d = row_with (option_and_then as_str (at 0 d)) (option_and_then as_u64 (option_and_then as_number (at 1 d))) (at 2 d)

abbrev pub cons_if : {A : Type 0} → Option A → Option (List A) → Option (List A)
cons_if (Some x) (Some xs) = Some (x ∷ xs)
cons_if _ _ = None

-- what each of these is, if each is something
abbrev pub each_in : {A : Type 0} → (Data → Option A) → Items → Option (List A)
each_in of no_items = Some []
each_in of (item d ds) = cons_if (of d) (each_in of ds)

-- of nothing, of null, and of an array
abbrev pub each_of : {A : Type 0} → (Data → Option A) → Option Data → Option (List A)
each_of of None = Some []
each_of of (Some null) = Some []
each_of of (Some (array ds)) = each_in of ds
each_of of (Some _) = None

abbrev pub rows_at : Data → Option (List RowText)
rows_at d = each_of row_in (get (member_name Member.Writes) d)

-- the tables that a list is of: texts
abbrev pub tables_at : Data → Option (List (List ℕ))
tables_at d = each_of as_str (get (member_name Member.Tables) d)

-- ---- the event

abbrev pub event_with : Option Operation → Option (List RowText) → Option (List (List ℕ)) → Option ℕ → Option ℕ → Data → Option EventText
event_with (Some operation) (Some writes) (Some tables) (Some begin) (Some end) d = Some (record {
  operation = operation;
  session = text_at Member.Session d;
  transaction = text_at Member.Transaction d;
  key = text_at Member.Key d;
  value = text_at Member.Value d;
  version = whole_at Member.Version d;
  base = text_at Member.Base d;
  outcome = outcome_at d;
  writes = writes;
  tables = tables;
  begin = begin;
  end = end;
})
event_with _ _ _ _ _ d = None

abbrev pub event_of : Data → Option EventText
event_of d = event_with (operation_at d) (rows_at d) (tables_at d) (whole_at Member.Begin d) (whole_at Member.End d) d
