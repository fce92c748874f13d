-- Which writes a trace tells, and what became of each.
use Rattle.std.specs.Prelude.{ℕ, Bool, false, List, [], ◌∷◌, Option, Some, None, nat_eq, map, if◌then◌else◌}
use Rattle.std.specs.Option.{option_to_list}
use Rattle.std.specs.List.{filter_map, flat_map}
use Rattle.hib_trace_lines.specs.declared.events.Operation.{Operation}
use Rattle.hib_trace_lines.specs.declared.events.Outcome.{Outcome}
use Rattle.hib_trace_calls.specs.declared.calls.Call.{Call}
use Rattle.hib_trace_calls.specs.declared.calls.Fate.{Fate}
use Rattle.hib_trace_calls.specs.declared.calls.Span.{Span}
use Rattle.hib_trace_calls.specs.declared.calls.Write.{Write}
use Rattle.hib_trace_calls.specs.declared.calls.Made.{Made}

abbrev pub span_of : Call → Span
span_of c = record { begin = c.begin; end = c.end }

-- a commit was made, if its line doesn't tell another outcome
abbrev pub fate_by : Option Outcome → Span → Fate
fate_by None s = Fate.Committed s
fate_by (Some Outcome.Committed) s = Fate.Committed s
fate_by (Some _) s = Fate.Open

-- how a line says that its transaction ended
abbrev pub end_by : Operation → Option Outcome → Span → Option Fate
end_by Operation.Commit o s = Some (fate_by o s)
end_by Operation.Rollback o s = Some Fate.RolledBack
end_by _ o s = None

abbrev pub end_told : Call → Option Fate
end_told c = end_by c.operation c.outcome (span_of c)

abbrev pub is_of : ℕ → Option ℕ → Bool
is_of t None = false
is_of t (Some u) = nat_eq u t

abbrev pub end_of : ℕ → Call → Option Fate
end_of t c = if is_of t c.transaction then end_told c else None

-- the fate of a transaction: what the only line says that tells its end. If none tells it, or several do, it is open
abbrev pub only : List Fate → Fate
only [] = Fate.Open
only (f ∷ []) = f
only (f ∷ g ∷ fs) = Fate.Open

abbrev pub fate_of : List Call → Option ℕ → Fate
fate_of cs None = Fate.Open
fate_of cs (Some t) = only (filter_map (end_of t) cs)

-- the write of a row that a commit names
abbrev pub made_write : Call → Made → Write
made_write c m =
    record {
      transaction = c.transaction;
      key = m.key;
      table = m.table;
      row = m.row;
      version = Some m.version;
      begin = c.begin;
      end = c.end;
      fate = fate_by c.outcome (span_of c);
    }

abbrev pub row_write : Fate → Call → ℕ → ℕ → Write
row_write f c k t = record {
  transaction = c.transaction;
  key = k;
  table = t;
  row = c.row;
  version = c.version;
  begin = c.begin;
  end = c.end;
  fate = f;
}

abbrev pub row_write_if : Fate → Call → Option ℕ → Option ℕ → Option Write
row_write_if f c (Some k) (Some t) = Some (row_write f c k t)
row_write_if f c _ _ = None

-- the writes of a line: of a write its row, which ends as its transaction does, and of a commit the rows that it names,
-- which end as it does
abbrev pub writes_by : Operation → Fate → Call → List Write
writes_by Operation.Write f c = option_to_list (row_write_if f c c.key c.table)
writes_by Operation.Commit f c = map (made_write c) c.made.items
writes_by _ f c = []

abbrev pub writes_with : Fate → Call → List Write
writes_with f c = writes_by c.operation f c

-- the writes of a trace
abbrev pub writes_of : List Call → List Write
writes_of cs = flat_map (λ c. writes_with (fate_of cs c.transaction) c) cs
