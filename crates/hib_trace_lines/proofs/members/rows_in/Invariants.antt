use Rattle.std.proofs.Common.{◌≡◌, map, drop}
use Rattle.serde_json.specs.View.{items_view}
use Rattle.hib_trace_lines.specs.Members.{each_in, row_in}
use Rattle.hib_trace_lines.specs.Rows.{row_text}
use Rattle.hib_trace_lines.proofs.Rows.{after}
use Rattle.hib_trace_lines.proofs.members.rows_in.Given as goal

abbrev pub invariant-loop-value : goal.invariant-loop-value
invariant-loop-value l = each_in row_in (items_view l.values.items) ≡ after (map row_text l.rows.items) (each_in row_in (items_view (drop l.value-index l.values.items)))
