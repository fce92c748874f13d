use Rattle.std.proofs.Common.{◌≡◌, refl, sym, subst}
use Rattle.hib_journal.specs.Types.{Act}
use Rattle.hib_bulk.specs.Types.{BulkAct}
use Rattle.hib_bulk.specs.Standing.{IsAnswered}
use Rattle.hib_bulk.specs.Run.{IsLineTurn}
use Rattle.hib_engines.proofs.Outcomes.{map_ok}
use Rattle.hib_bulk.proofs.Lined.{own_else}
use Rattle.hib_bulk.proofs.parts.BulkParts.own_line.Goals as goal

pub returns-in-Begin-clause-answered : goal.returns-in-Begin-clause-answered
returns-in-Begin-clause-answered g c = map_ok c.begin_line.result _ _ c.begin_line.ensures.answered (λ r p script lines told h d m e w.
    let s = c.args.number in
    let b = c.args.failed in
    let x = c.args.self.now in
    let y = c.begin_line.new.self in
    let q : c.args.act.now ≡ Act.Begin = c.in-Begin.is in
    subst (λ a. IsAnswered script lines told h s c.args.now (BulkAct.Plain a) r y) (sym q)
    (p script lines told h d m b e (subst (λ a. IsLineTurn script lines told h s d m b (BulkAct.Plain a) x) q w)))

pub returns-in-End-clause-answered : goal.returns-in-End-clause-answered
returns-in-End-clause-answered g c script lines told h d m e w =
    let s = c.args.number in
    let b = c.args.failed in
    let x = c.args.self.now in
    let y = c.end_line.new.self in
    let q : c.args.act.now ≡ Act.End = c.in-End.is in
    subst (λ a. IsAnswered script lines told h s c.args.now (BulkAct.Plain a) c.end_line.result y) (sym q)
    (c.end_line.ensures.answered script lines told h d m e (subst (λ a. IsLineTurn script lines told h s d m b (BulkAct.Plain a) x) q w))

pub returns-in_default-clause-answered : goal.returns-in_default-clause-answered
returns-in_default-clause-answered g c script lines told h d m e w =
    absurd (own_else script lines told h c.args.number d m c.args.failed (BulkAct.Plain c.args.act.now) c.args.self.now w c.args.act.now refl c.in_default.not-Begin c.in_default.not-End)
