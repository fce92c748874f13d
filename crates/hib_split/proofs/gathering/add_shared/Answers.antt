use Rattle.std.proofs.Common.{◌≡◌, map, reverse, sym, subst}
use Rattle.hib_journal.specs.Types.{Part}
use Rattle.hib_journal.specs.Sessions.{Journal}
use Rattle.hib_journal.specs.Kept.{past}
use Rattle.hib_engines.specs.Counts.{RoseWithin}
use Rattle.hib_split_law.specs.Apart.{store_ask_count}
use Rattle.hib_split_law.specs.Merged.{of_part_in}
use Rattle.hib_split.specs.Alone.{IsToldBy}
use Rattle.hib_split.proofs.Shared.{shared_on, store_listed}
use Rattle.hib_split.proofs.gathering.add_shared.Goals as goal

pub returns-clause-parts : goal.returns-clause-parts
returns-clause-parts g c = shared_on c.args.parts.registry c.args.parts.store.list c.args.parts.stamps c.args.parts.results (past c.close.result) (past c.close-keeper.result.1) (past c.close-2.result) (past c.close-3.result) c.args.parts.regions.items
    c.reverse.new.self.items (map past c.add_four.new.lists.items) (map past c.add_regions.new.lists.items) c.close.ensures.list c.close-keeper.ensures.list c.close-2.ensures.list c.close-3.ensures.list c.reverse.ensures.items
    c.add_four.ensures.parts c.add_regions.ensures.parts

pub returns-clause-told : goal.returns-clause-told
returns-clause-told g c =
    let e : of_part_in Part.Store (map past c.add_regions.new.lists.items) ≡ past c.close-keeper.result.1 =
    store_listed (past c.close.result) (past c.close-keeper.result.1) (past c.close-2.result) (past c.close-3.result) (reverse c.reverse.new.self.items) (map past c.add_four.new.lists.items) (map past c.add_regions.new.lists.items)
    c.add_four.ensures.parts c.add_regions.ensures.parts in
    subst (λ (l : Journal). IsToldBy g.N.Name.from l (g.K.Keeper.tables c.close-keeper.result.0) (g.K.Keeper.faults c.close-keeper.result.0)) (sym e) (record { rows = c.close-keeper.ensures.rows; faults = c.close-keeper.ensures.faults })

pub returns-clause-asked : goal.returns-clause-asked
returns-clause-asked g c = λ r.
    let e : of_part_in Part.Store (map past c.add_regions.new.lists.items) ≡ past c.close-keeper.result.1 =
    store_listed (past c.close.result) (past c.close-keeper.result.1) (past c.close-2.result) (past c.close-3.result) (reverse c.reverse.new.self.items) (map past c.add_four.new.lists.items) (map past c.add_regions.new.lists.items)
    c.add_four.ensures.parts c.add_regions.ensures.parts in
    subst (λ (l : Journal). RoseWithin g.N.Name.from.asked (store_ask_count l) (g.K.Keeper.asked c.close-keeper.result.0)) (sym e) (c.close-keeper.ensures.asked r)
