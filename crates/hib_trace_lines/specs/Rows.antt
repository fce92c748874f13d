-- The rows that a commit says it made, with their keys as bytes.
use Rattle.std.specs.Prelude.{string_bytes}
use Rattle.hib_trace_lines.specs.Events.{RowText}
use Rattle.hib_trace_lines.specs.declared.events.WrittenRow.{WrittenRow}

abbrev pub row_text : WrittenRow → RowText
row_text w = record { key = string_bytes w.key; version = w.version }
