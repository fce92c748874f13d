use Rattle.std.proofs.Common.{refl, sym, subst}
use Rattle.hib_journal.specs.Types.{Act, Reply}
use Rattle.hib_bulk.specs.Types.{BulkAct, BulkReply}
use Rattle.hib_bulk.specs.Standing.{BulkPartsState, IsAnswered}
use Rattle.hib_bulk.specs.Run.{IsLineTurn, outcome_of}
use Rattle.hib_bulk.proofs.Lined.{line_ends}
use Rattle.hib_bulk.proofs.parts.BulkParts.end_line.Goals as goal

pub returns-clause-answered : goal.returns-clause-answered
returns-clause-answered g c script lines told h d m e w =
    let s = c.args.number in
    let b = c.args.failed in
    let x : BulkPartsState = record { store = c.self.inside.store; registry = c.self.inside.registry; stamps = c.self.inside.stamps; regions = c.self.inside.regions.items; results = c.self.inside.results } in
    let y : BulkPartsState = record { store = c.self.inside.store; registry = c.end.new.self; stamps = c.self.inside.stamps; regions = c.self.inside.regions.items; results = c.self.inside.results } in
    let k : IsLineTurn script lines told h s d m b (BulkAct.Plain Act.End) x = subst (λ v. IsLineTurn script lines told h s d m b (BulkAct.Plain Act.End) v) (sym c.self.view_is) w in
    subst (λ o. IsAnswered script lines told h s c.args.now (BulkAct.Plain Act.End) (BulkReply.Plain (Reply.Ended o)) y) (sym c.outcome.ensures)
    (subst (λ n. IsAnswered script lines told h s n (BulkAct.Plain Act.End) (BulkReply.Plain (Reply.Ended (outcome_of b))) y) (sym e)
    (line_ends script lines told h s d m b (BulkAct.Plain Act.End) x k c.laws.ensures c.stays.ensures.elsewhere refl y c.end.ensures.stands refl refl refl refl))
