use Rattle.std.proofs.Common.{◌+◌, ◌-◌, ◌/◌, ◌∙◌, sym, arith}
use Rattle.std.specs.Prelude.{None}
use Rattle.hib_traces.proofs.Searches.{all_before, all_behind}
use Rattle.hib_traces.proofs.Stood.{ready_before, late_behind}
use Rattle.hib_traces.specs.Making.{is_ready}
use Rattle.hib_traces.proofs.standing.count_ready.Goals as goal

pub loop-low-preserved-then-is_ready : goal.loop-low-preserved-then-is_ready
loop-low-preserved-then-is_ready c = record {
  low = omega arith;
  high = omega arith;
  ready = all_before (is_ready c.args.row c.args.end) (ready_before c.args.row c.args.end) c.args.places.now
      (c.loop-low.low + (c.loop-low.high - c.loop-low.low) / 2) (record { row = 0; ready = 0; gone = None }) c.requires (omega arith)
      (sym c.is_ready.ensures ∙ c.if-is_ready.true);
  late = c.loop-low.invariant.late;
}

pub loop-low-preserved : goal.loop-low-preserved
loop-low-preserved c = record {
  low = omega arith;
  high = omega arith;
  ready = c.loop-low.invariant.ready;
  late = all_behind (is_ready c.args.row c.args.end) (late_behind c.args.row c.args.end) c.args.places.now
      (c.loop-low.low + (c.loop-low.high - c.loop-low.low) / 2) (record { row = 0; ready = 0; gone = None }) c.requires
      (sym c.is_ready.ensures ∙ c.if-is_ready.false);
}
