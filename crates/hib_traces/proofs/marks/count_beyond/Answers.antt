use Rattle.std.proofs.Common.{◌+◌, ◌-◌, ◌/◌, arith}
use Rattle.hib_traces.proofs.Steps.{far_enough, near_enough}
use Rattle.hib_traces.proofs.marks.count_beyond.Goals as goal

pub loop-low-preserved-then-limit-steps : goal.loop-low-preserved-then-limit-steps
loop-low-preserved-then-limit-steps c = record {
  low = omega arith;
  high = omega arith;
  beyond = λ k d l. far_enough c.args.steps.now (c.loop-low.low + (c.loop-low.high - c.loop-low.low) / 2) k d (record { at = 0; value = 0 }) c.args.limit
      c.requires.falls (omega arith) c.if-limit-steps.true l;
  within = c.loop-low.invariant.within;
}

pub loop-low-preserved : goal.loop-low-preserved
loop-low-preserved c = record {
  low = omega arith;
  high = omega arith;
  beyond = c.loop-low.invariant.beyond;
  within = λ k d l m. near_enough c.args.steps.now (c.loop-low.low + (c.loop-low.high - c.loop-low.low) / 2) k d (record { at = 0; value = 0 }) c.args.limit
      c.requires.falls c.if-limit-steps.false l m;
}
