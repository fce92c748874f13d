use Rattle.std.proofs.Common.{None}
use Rattle.hib_traces.proofs.Told.{told_step}
use Rattle.hib_traces.proofs.places.each_place.Goals as goal

pub loop-commit-preserved : goal.loop-commit-preserved
loop-commit-preserved c =
    told_step c.args.order.now.commits.items c.args.sources.now c.loop-commit.commit-index (record { row = 0; begin = 0; end = None; version = None })
    c.loop-commit.places.items c.push.new.self.items c.place_of.result c.loop-commit-test.true c.loop-commit.invariant c.place_of.ensures
    c.in_ok-push.ensures.items
