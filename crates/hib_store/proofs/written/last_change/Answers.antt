use Rattle.std.proofs.Common.{◌≡◌, true, false, sym, arith}
use Rattle.hib_base.specs.Keys.{same_key}
use Rattle.hib_base.specs.Tables.{key_of}
use Rattle.hib_outside.proofs.Commits.{last_on_found, row_after_next}
use Rattle.hib_store.proofs.written.last_change.Goals as goal

pub returns-then-is_same : goal.returns-then-is_same
returns-then-is_same c =
    let same : same_key (key_of c.index-changes-at.result) c.args.key.now ≡ true = cc in
    sym (last_on_found c.args.changes.now c.args.key.now c.loop-at.at c.index-changes-at.result c.loop-at-test.true
    c.loop-at.invariant.within c.index-changes-at.is c.loop-at.invariant.none same)

pub loop-at-preserved : goal.loop-at-preserved
loop-at-preserved c =
    let other : same_key (key_of c.index-changes-at.result) c.args.key.now ≡ false = cc in
    record {
      within = omega (arith, c.loop-at.invariant.within);
      none = row_after_next c.args.changes.now c.args.key.now c.loop-at.at c.index-changes-at.result c.loop-at-test.true
          c.loop-at.invariant.within c.index-changes-at.is c.loop-at.invariant.none other;
    }
