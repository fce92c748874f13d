use Rattle.std.proofs.Common.{sym, ◌∙◌}
use Rattle.serde_json.specs.View.{view}
use Rattle.hib_trace_lines.proofs.Right.{right_is_event}
use Rattle.hib_trace_lines.proofs.lines.right_event.Goals as goal

pub unreachable-requires : goal.unreachable-requires
unreachable-requires c = right_is_event (view c.args.value.now) c.requires (sym c.in_ok-event.ensures ∙ c.in-None.is)
