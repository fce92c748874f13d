use Rattle.hib_engines.proofs.Outcomes.{both_ok}
use Rattle.hib_collections.proofs.Regions.{answered_by}
use Rattle.hib_collections.proofs.at_owners.answer_at.Goals as goal

pub returns-clause-answered : goal.returns-clause-answered
returns-clause-answered c = both_ok c.serve_region.result _ _ _ c.serve_region.ensures.answered c.serve_region.ensures.others
    (λ r f at. λ script defs told g s x l d e t a.
    answered_by script defs g c.laws.ensures told s c.args.tick c.entity-entity.result c.args.place x c.args.act.now r c.args.regions.now.items c.serve_region.new.regions.items c.entity-entity.ensures
    l d e t a f at)
