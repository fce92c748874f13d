use Rattle.std.proofs.Common.{Some, refl, sym, subst}
use Rattle.hib_journal.specs.Types.{Part, Act}
use Rattle.hib_journal.specs.Lists as Lists
use Rattle.hib_engines.specs.Registry.{IsRegistry}
use Rattle.hib_engines.specs.Served.{IsServed}
use Rattle.hib_bulk.specs.Types.{BulkAct, BulkReply}
use Rattle.hib_bulk.specs.Standing.{BulkPartsState, IsAnswered}
use Rattle.hib_bulk.specs.Run.{IsLineTurn}
use Rattle.hib_bulk.proofs.Lined.{line_begins}
use Rattle.hib_bulk.proofs.parts.BulkParts.begin_line.Goals as goal

pub returns-clause-answered : goal.returns-clause-answered
returns-clause-answered g c script lines told h d m b e w =
    let s = c.args.number in
    let r = c.in_ok-reply.reply in
    let x : BulkPartsState = record { store = c.self.inside.store; registry = c.self.inside.registry; stamps = c.self.inside.stamps; regions = c.self.inside.regions.items; results = c.self.inside.results } in
    let y : BulkPartsState = record { store = c.self.inside.store; registry = c.serve.new.self; stamps = c.self.inside.stamps; regions = c.self.inside.regions.items; results = c.self.inside.results } in
    let k : IsLineTurn script lines told h s d m b (BulkAct.Plain Act.Begin) x = subst (λ v. IsLineTurn script lines told h s d m b (BulkAct.Plain Act.Begin) v) (sym c.self.view_is) w in
    subst (λ n. IsAnswered script lines told h s n (BulkAct.Plain Act.Begin) (BulkReply.Plain r) y) (sym e)
    (line_begins script lines told h s d m b (BulkAct.Plain Act.Begin) x k c.laws.ensures c.stays.ensures.elsewhere refl r y
    (λ l u o f. subst (λ n. IsServed (λ z. IsRegistry y.registry z) script l (Some s) n Act.Begin r) e
    (c.in_ok-reply.ensures.answered script l u (subst (λ n. Lists.IsLate Part.Registry n l) (sym e) o) f)) refl refl refl refl)
