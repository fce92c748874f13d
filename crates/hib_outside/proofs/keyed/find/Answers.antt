use Rattle.std.proofs.Common.{◌+◌, ◌-◌, ◌/◌, ◌<◌, length, sym, ◌∙◌, arith}
use Rattle.hib_outside.proofs.Searches.{place_found, place_after, place_ahead, place_between, comes_after}
use Rattle.hib_outside.proofs.keyed.find.Goals as goal

pub returns-then-is_same-clause-place : goal.returns-then-is_same-clause-place
returns-then-is_same-clause-place c =
    let within : c.loop-low.low + (c.loop-low.high - c.loop-low.low) / 2 < length c.args.rows.now = omega (arith, c.loop-low.invariant.within) in
    sym (place_found c.args.rows.now c.args.key.now _ _ c.requires within (sym c.is_same.ensures ∙ c.if-is_same.true))

pub loop-low-preserved-then-comes_before : goal.loop-low-preserved-then-comes_before
loop-low-preserved-then-comes_before c =
    let within : c.loop-low.low + (c.loop-low.high - c.loop-low.low) / 2 < length c.args.rows.now = omega (arith, c.loop-low.invariant.within) in
    record {
      order = omega arith;
      within = c.loop-low.invariant.within;
      behind = place_after c.args.rows.now c.args.key.now _ _ c.requires within (sym c.comes_before.ensures ∙ c.if-comes_before.true);
      ahead = c.loop-low.invariant.ahead;
    }

pub loop-low-preserved : goal.loop-low-preserved
loop-low-preserved c =
    let within : c.loop-low.low + (c.loop-low.high - c.loop-low.low) / 2 < length c.args.rows.now = omega (arith, c.loop-low.invariant.within) in
    record {
      order = omega arith;
      within = omega (arith, within);
      behind = c.loop-low.invariant.behind;
      ahead = place_ahead c.args.rows.now c.args.key.now _ _ within
          (comes_after _ c.args.key.now (sym c.is_same.ensures ∙ c.if-is_same.false) (sym c.comes_before.ensures ∙ c.if-comes_before.false));
    }

pub returns-clause-place : goal.returns-clause-place
returns-clause-place c =
    place_between c.args.rows.now c.args.key.now c.loop-low.low c.loop-low.high (omega arith) c.loop-low.invariant.order
    c.loop-low.invariant.behind c.loop-low.invariant.ahead
