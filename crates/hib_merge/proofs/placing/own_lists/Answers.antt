use Rattle.std.proofs.Common.{◌≡◌, ◌<◌, ◌+◌, ◌∷◌, ◌++◌, [], length, take, sym, ap, ◌∙◌, arith}
use Rattle.hib_journal.specs.Types.{Entry}
use Rattle.hib_journal.specs.Sessions.{own}
use Rattle.hib_split_law.specs.Merged.{list_of}
use Rattle.hib_merge.proofs.Placed.{take_next, own_more}
use Rattle.hib_merge.proofs.placing.own_lists.Goals as goal

pub loop-entry-preserved : goal.loop-entry-preserved
loop-entry-preserved c =
    let xs = c.args.entries.now in
    let i = c.loop-entry.entry-index in
    let e : Entry = c.entry-item.result in
    let more : take (i + 1) xs ≡ take i xs ++ e ∷ [] = take_next xs i e c.loop-entry-test.true c.entry-item.is in
    record {
      all = c.in_ok-place.ensures.all ∙ c.loop-entry.invariant.all;
      lists = λ s b.
          let there : s < length c.loop-entry.lists.items = omega (arith, b, c.loop-entry.invariant.all) in
          own_more s (take i xs) e (list_of s c.loop-entry.lists.items) (list_of s c.place.new.lists.items) (c.loop-entry.invariant.lists s b) (c.in_ok-place.ensures.placed s there) ∙ ap (own s) (sym more);
    }
