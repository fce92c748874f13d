use Rattle.std.proofs.Common.{List, sym, subst, ap, ◌∙◌}
use Rattle.hib_journal.specs.Types.{Part}
use Rattle.hib_journal.specs.Sessions.{Journal}
use Rattle.hib_journal.specs.Kept.{past}
use Rattle.hib_split_law.specs.Merged.{of_part_in}
use Rattle.hib_split.specs.Gathered.{IsGathered}
use Rattle.hib_split.proofs.Gathered.{four_items, gather_four}
use Rattle.hib_split.proofs.Shared.{four_parts}
use Rattle.hib_split.proofs.gathering.add_four.Goals as goal

pub returns-clause-gathered : goal.returns-clause-gathered
returns-clause-gathered g c =
    let script = g.N.Name.script in
    let told = g.N.Name.from.tables in
    subst (λ (ls : List Journal). IsGathered script told (Part.Region 0) ls)
    (sym (four_items c.args.lists.now.items c.push_reserved.new.self.items c.push_reserved-2.new.self.items c.push_reserved-3.new.self.items c.push_reserved-4.new.self.items c.args.registry c.args.store c.args.stamps c.args.results
    c.requires.empty c.push_reserved.ensures.items c.push_reserved-2.ensures.items c.push_reserved-3.ensures.items c.push_reserved-4.ensures.items))
    (gather_four script told (past c.args.registry) (past c.args.store) (past c.args.stamps) (past c.args.results) c.requires.registry c.requires.store c.requires.stamps c.requires.results
    c.requires.legal_registry c.requires.legal_store c.requires.legal_stamps c.requires.legal_results)

pub returns-clause-parts : goal.returns-clause-parts
returns-clause-parts g c = λ p o.
    ap (of_part_in p) (four_items c.args.lists.now.items c.push_reserved.new.self.items c.push_reserved-2.new.self.items c.push_reserved-3.new.self.items c.push_reserved-4.new.self.items c.args.registry c.args.store c.args.stamps c.args.results
    c.requires.empty c.push_reserved.ensures.items c.push_reserved-2.ensures.items c.push_reserved-3.ensures.items c.push_reserved-4.ensures.items)
    ∙ four_parts (past c.args.registry) (past c.args.store) (past c.args.stamps) (past c.args.results) c.requires.registry c.requires.store c.requires.stamps c.requires.results p o
