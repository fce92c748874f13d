use Rattle.std.proofs.Common.{◌≡◌, get_or, false, true, None, sym, ◌∙◌}
use Rattle.std.specs.Prelude.{nat_lt}
use Rattle.hib_update_stamps.proofs.Grown.{unstamped_here, stamped_here}
use Rattle.hib_update_stamps.proofs.stamps.Stamps.check.Goals as goal
use Rattle.hib_update_stamps.proofs.stamps.Stamps.check.Goals.{in_default-via-in-None-1, in_default-via-in-Some+else-not-is_before}

pub returns-in-loop-table : goal.returns-in-loop-table
returns-in-loop-table c =
    let at : c.index.result.now ≡ get_or c.args.self.now c.table.inside.0 c.index.result.now = cc in
    let is : c.table.inside.0 ≡ get_or c.args.tables.now c.loop-table.table-index c.table.inside.0 = cc in
    let late : nat_lt c.in-Some.stamp c.args.time ≡ false = cc in
    sym (c.loop-table.invariant
    ∙ stamped_here c.args.time c.args.tables.now c.args.self.now c.loop-table.table-index c.table.inside.0 c.in-Some.stamp c.index.result.now
    c.requires c.loop-table-test.true is at c.in-Some.is false late)

pub loop-table-preserved : goal.loop-table-preserved
loop-table-preserved c =
    let at : c.index.result.now ≡ get_or c.args.self.now c.table-item.result c.index.result.now = cc in
    elim c.in_default.branch [
      | in_default-via-in-None-1 w ↦
          let none : c.index.result.now ≡ None = cc in
          c.loop-table.invariant
          ∙ unstamped_here c.args.time c.args.tables.now c.args.self.now c.loop-table.table-index c.table-item.result c.index.result.now
          c.requires c.loop-table-test.true c.table-item.is at none
      | in_default-via-in-Some+else-not-is_before w ↦
          let early : nat_lt w.in-Some.stamp c.args.time ≡ true = cc in
          c.loop-table.invariant
          ∙ stamped_here c.args.time c.args.tables.now c.args.self.now c.loop-table.table-index c.table-item.result w.in-Some.stamp c.index.result.now
          c.requires c.loop-table-test.true c.table-item.is at w.in-Some.is true early
    ]
