use Rattle.std.proofs.Common.{◌<◌, ◌≤◌, length, map, reverse, arith}
use Rattle.hib_journal.specs.Kept.{past}
use Rattle.hib_split_law.specs.Merged.{of_part_in}
use Rattle.hib_split.proofs.Gathered.{own_added, own_each, own_done}
use Rattle.hib_split.proofs.Shared.{own_shared}
use Rattle.hib_split.proofs.gathering.add_own_lists.Goals as goal

pub loop-number-preserved : goal.loop-number-preserved
loop-number-preserved g c =
    let n = c.loop-number.number in
    let there : n < length c.args.mine.now = omega arith in
    record {
      gathered = own_added g.N.Name.script g.N.Name.from.tables n c.args.mine.now c.loop-number.lists.items c.push.new.self.items c.index-mine-number.result c.in_ok-own.own c.as_slice.result.now there c.index-mine-number.is c.requires.mine
          c.as_slice.ensures c.in_ok-own.ensures c.in_ok-push.ensures.items c.loop-number.invariant.gathered;
      shared = own_shared n c.loop-number.lists.items c.push.new.self.items c.in_ok-own.own (reverse c.as_slice.result.now) (λ p. of_part_in p (map past c.args.lists.now.items)) c.in_ok-own.ensures c.in_ok-push.ensures.items
          c.loop-number.invariant.shared;
      own = own_each g.N.Name.script g.N.Name.from.tables n c.args.mine.now c.loop-number.lists.items c.push.new.self.items c.index-mine-number.result c.in_ok-own.own c.as_slice.result.now there c.index-mine-number.is c.as_slice.ensures
          c.in_ok-own.ensures c.in_ok-push.ensures.items c.loop-number.invariant.gathered c.loop-number.invariant.own;
    }

pub returns-clause-own : goal.returns-clause-own
returns-clause-own g c =
    let n = c.loop-number.number in
    let all : length c.args.mine.now ≤ n = omega arith in
    own_done g.N.Name.script g.N.Name.from.tables n c.args.mine.now (map past c.loop-number.lists.items) all c.loop-number.invariant.gathered c.loop-number.invariant.own
