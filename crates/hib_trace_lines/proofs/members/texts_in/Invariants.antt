use Rattle.std.proofs.Common.{◌≡◌, map, drop, string_bytes}
use Rattle.serde_json.specs.View.{items_view}
use Rattle.hib_trace_lines.specs.Members.{each_in}
use Rattle.serde_json.specs.Find.{as_str}
use Rattle.hib_trace_lines.proofs.Rows.{after}
use Rattle.hib_trace_lines.proofs.members.texts_in.Given as goal

abbrev pub invariant-loop-value : goal.invariant-loop-value
invariant-loop-value l = each_in as_str (items_view l.values.items) ≡ after (map string_bytes l.texts.items) (each_in as_str (items_view (drop l.value-index l.values.items)))
