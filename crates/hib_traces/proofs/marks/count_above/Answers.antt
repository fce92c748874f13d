use Rattle.std.proofs.Common.{◌+◌, ◌-◌, ◌/◌, arith}
use Rattle.hib_traces.proofs.Steps.{high_enough, low_enough}
use Rattle.hib_traces.proofs.marks.count_above.Goals as goal

pub loop-low-preserved-then-limit-steps : goal.loop-low-preserved-then-limit-steps
loop-low-preserved-then-limit-steps c = record {
  low = omega arith;
  high = omega arith;
  above = λ k d l. high_enough c.args.steps.now (c.loop-low.low + (c.loop-low.high - c.loop-low.low) / 2) k d (record { at = 0; value = 0 }) c.args.limit
      c.requires.falls (omega arith) c.if-limit-steps.true l;
  below = c.loop-low.invariant.below;
}

pub loop-low-preserved : goal.loop-low-preserved
loop-low-preserved c = record {
  low = omega arith;
  high = omega arith;
  above = c.loop-low.invariant.above;
  below = λ k d l m. low_enough c.args.steps.now (c.loop-low.low + (c.loop-low.high - c.loop-low.low) / 2) k d (record { at = 0; value = 0 }) c.args.limit
      c.requires.falls c.if-limit-steps.false l m;
}
