use Rattle.std.proofs.Common.{◌≡◌, ◌<◌, length, arith}
use Rattle.std.proofs.lemmas.Option.{slice_get_within}
use Rattle.hib_merge.proofs.Placed.{same_next, part_shorter}
use Rattle.hib_merge.proofs.differences.difference.Goals as goal

pub loop-place-preserved : goal.loop-place-preserved
loop-place-preserved c =
    let place = c.loop-place.place in
    let other = c.in-Some.other.now in
    let within : place < length c.args.others.now = slice_get_within c.args.others.now place other c.in-Some.ensures.entry in
    record {
      same = same_next c.args.entries.now c.args.others.now place c.index-entries-place.result other c.loop-place.invariant.same c.loop-place-test.true c.index-entries-place.is c.in-Some.ensures.entry
          (c.is_same.ensures.0 c.if-not-is_same.false);
      within = omega (arith, within);
    }

pub returns-then-entries-len : goal.returns-then-entries-len
returns-then-entries-len c =
    let all : c.loop-place.place ≡ length c.args.entries.now = omega arith in
    part_shorter c.args.entries.now c.args.others.now c.loop-place.place all c.loop-place.invariant.same (omega (arith, c.if-entries-len.true, c.len.ensures))
