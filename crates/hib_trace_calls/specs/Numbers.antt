-- Numbers that stand for the texts of a trace.
use Rattle.std.specs.Prelude.{◌≡◌, ◌<◌, ℕ, List, Option, Some, None, IfSome}
use Rattle.std.specs.List.{AllZip}
use Rattle.std.specs.Option.{option_map}
use Rattle.hib_trace_lines.specs.Events.{EventText, RowText}
use Rattle.hib_trace_numbers.specs.Texts.{texts, IsNamed, IsApart, Keeps}
use Rattle.hib_trace_calls.specs.Rows.{row_told, table_told, value_told, version_told}
use Rattle.hib_trace_calls.specs.declared.calls.Call.{Call}
use Rattle.hib_trace_calls.specs.declared.calls.Made.{Made}
use Rattle.hib_trace_calls.specs.declared.calls.Texts.{Texts}

-- a number stands for a text, if there is one
abbrev pub IsNamedIf : List (List ℕ) → Option ℕ → Option (List ℕ) → Type 0
IsNamedIf ts None None = Unit {0}
IsNamedIf ts None (Some t) = ⊥
IsNamedIf ts (Some n) None = ⊥
IsNamedIf ts (Some n) (Some t) = IsNamed ts n t

-- a row that a commit's line says it made
pub record IsMade (t : Texts) (w : RowText) (m : Made) : Type 0 where
  pub key : IsNamed (texts t.keys) m.key w.key
  pub table : IsNamed (texts t.tables) m.table (table_told w.key)
  pub row : IsNamed (texts t.rows) m.row (version_told w.version)
  pub version : m.version ≡ w.version

-- a call is what an event says, with numbers for its texts
pub record IsCall (t : Texts) (e : EventText) (c : Call) : Type 0 where
  pub operation : c.operation ≡ e.operation
  pub session : IsNamedIf (texts t.sessions) c.session e.session
  pub transaction : IsNamedIf (texts t.transactions) c.transaction e.transaction
  pub key : IsNamedIf (texts t.keys) c.key e.key
  pub table : IsNamedIf (texts t.tables) c.table (option_map table_told e.key)
  pub row : IsNamed (texts t.rows) c.row (row_told e)
  pub version : c.version ≡ e.version
  pub base : IsNamedIf (texts t.rows) c.base (option_map value_told e.base)
  pub outcome : c.outcome ≡ e.outcome
  pub made : AllZip (IsMade t) e.writes c.made.items
  pub tables : AllZip (λ x n. IsNamed (texts t.tables) n x) e.tables c.tables.items
  pub begin : c.begin ≡ e.begin
  pub end : c.end ≡ e.end

-- the same number exactly if the text is the same
pub record AreApart (t : Texts) : Type 0 where
  pub tables : IsApart (texts t.tables)
  pub sessions : IsApart (texts t.sessions)
  pub keys : IsApart (texts t.keys)
  pub transactions : IsApart (texts t.transactions)
  pub rows : IsApart (texts t.rows)

-- what had a number still has it, and texts that were apart still are
pub record Grows (old new : List (List ℕ)) : Type 0 where
  pub keeps : Keeps old new
  pub apart : IsApart old → IsApart new

pub record AllGrow (old new : Texts) : Type 0 where
  pub tables : Grows (texts old.tables) (texts new.tables)
  pub sessions : Grows (texts old.sessions) (texts new.sessions)
  pub keys : Grows (texts old.keys) (texts new.keys)
  pub transactions : Grows (texts old.transactions) (texts new.transactions)
  pub rows : Grows (texts old.rows) (texts new.rows)

-- a number is below a count, if there is one
abbrev pub IsBelow : ℕ → Option ℕ → Type 0
IsBelow count n = IfSome n (λ k. k < count)
