use Rattle.std.proofs.Common.{◌+◌, ◌-◌, ◌/◌, ◌∙◌, sym, arith}
use Rattle.std.specs.Prelude.{None}
use Rattle.hib_traces.proofs.Searches.{all_before, all_behind}
use Rattle.hib_traces.proofs.Stood.{behind_before, within_behind}
use Rattle.hib_traces.specs.Making.{is_behind}
use Rattle.hib_traces.proofs.standing.count_behind.Goals as goal

pub loop-low-preserved-then-is_behind : goal.loop-low-preserved-then-is_behind
loop-low-preserved-then-is_behind c = record {
  low = omega arith;
  high = omega arith;
  behind = all_before (is_behind c.args.row c.args.instant) (behind_before c.args.row c.args.instant) c.args.places.now
      (c.loop-low.low + (c.loop-low.high - c.loop-low.low) / 2) (record { row = 0; ready = 0; gone = None }) c.requires (omega arith)
      (sym c.is_behind.ensures ∙ c.if-is_behind.true);
  within = c.loop-low.invariant.within;
}

pub loop-low-preserved : goal.loop-low-preserved
loop-low-preserved c = record {
  low = omega arith;
  high = omega arith;
  behind = c.loop-low.invariant.behind;
  within = all_behind (is_behind c.args.row c.args.instant) (within_behind c.args.row c.args.instant) c.args.places.now
      (c.loop-low.low + (c.loop-low.high - c.loop-low.low) / 2) (record { row = 0; ready = 0; gone = None }) c.requires
      (sym c.is_behind.ensures ∙ c.if-is_behind.false);
}
