use Rattle.std.proofs.Common.{◌≡◌, ◌<◌, length, sym, ◌∙◌, below_more, arith}
use Rattle.hib_journal.specs.Sessions.{own}
use Rattle.hib_merge.specs.Tearing.{list_at}
use Rattle.hib_merge.proofs.Placed.{list_is, entries_are}
use Rattle.hib_merge.proofs.agreeing.parted.Goals as goal

pub loop-s-preserved : goal.loop-s-preserved
loop-s-preserved c =
    let s = c.loop-s.s in
    let there : s < length c.args.mine.now = omega arith in
    let placed : s < length c.in_ok-owns.owns.items = omega (arith, there, c.in_ok-owns.ensures.all) in
    let listed : list_at s c.args.mine.now ≡ c.as_slice-listed.result.now = list_is c.args.mine.now s c.index-mine-s.result there c.index-mine-s.is ∙ sym c.as_slice-listed.ensures in
    let owned : c.index-own.result.now ≡ own s c.args.entries.now =
    sym (entries_are c.in_ok-owns.owns.items s c.index-own.result.now placed c.index-own.ensures) ∙ c.in_ok-owns.ensures.lists s there in
    below_more _ _ c.loop-s.invariant (listed ∙ (c.in_default.ensures ∙ owned))
