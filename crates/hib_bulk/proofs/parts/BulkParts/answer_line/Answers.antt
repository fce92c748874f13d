use Rattle.std.proofs.Common.{◌≡◌, sym, ◌∙◌, subst}
use Rattle.hib_bulk.specs.Types.{BulkAct}
use Rattle.hib_bulk.specs.Standing.{IsAnswered}
use Rattle.hib_bulk.specs.Run.{IsLineTurn}
use Rattle.hib_engines.proofs.Outcomes.{map_ok}
use Rattle.hib_bulk.proofs.Lined.{bulk_same, no_sweep}
use Rattle.hib_bulk.proofs.parts.BulkParts.answer_line.Goals as goal

pub returns-in-Plain-clause-answered : goal.returns-in-Plain-clause-answered
returns-in-Plain-clause-answered g c = map_ok c.own_line.result _ _ c.own_line.ensures.answered (λ r p script lines told h m e w.
    let s = c.args.number in
    let b = c.args.failed in
    let x = c.args.self.now in
    let y = c.own_line.new.self in
    let q : c.args.act.now ≡ BulkAct.Plain c.in-Plain.own = c.in-Plain.is in
    subst (λ a. IsAnswered script lines told h s c.args.now a r y) (sym q)
    (p script lines told h c.args.line.now m e (subst (λ a. IsLineTurn script lines told h s c.args.line.now m b a x) q w)))

pub returns-in-LockAll-clause-answered : goal.returns-in-LockAll-clause-answered
returns-in-LockAll-clause-answered g c script lines told h m e w =
    let s = c.args.number in
    let b = c.args.failed in
    let x = c.args.self.now in
    let y = c.lock_line.new.self in
    let q : c.args.act.now ≡ BulkAct.LockAll c.in-LockAll.entity = c.in-LockAll.is in
    subst (λ a. IsAnswered script lines told h s c.args.now a c.lock_line.result y) (sym q)
    (c.lock_line.ensures.answered script lines told h c.args.line.now m b e (subst (λ a. IsLineTurn script lines told h s c.args.line.now m b a x) q w))

pub returns-in-UnlockAll-clause-answered : goal.returns-in-UnlockAll-clause-answered
returns-in-UnlockAll-clause-answered g c script lines told h m e w =
    let s = c.args.number in
    let b = c.args.failed in
    let x = c.args.self.now in
    let y = c.unlock_line.new.self in
    let q : c.args.act.now ≡ BulkAct.UnlockAll c.in-UnlockAll.entity = c.in-UnlockAll.is in
    subst (λ a. IsAnswered script lines told h s c.args.now a c.unlock_line.result y) (sym q)
    (c.unlock_line.ensures.answered script lines told h c.args.line.now m b e (subst (λ a. IsLineTurn script lines told h s c.args.line.now m b a x) q w))

pub returns-in-Bulk-clause-answered : goal.returns-in-Bulk-clause-answered
returns-in-Bulk-clause-answered g c = map_ok c.change_line.result _ _ c.change_line.ensures.answered (λ r p script lines told h m e w.
    let s = c.args.number in
    let b = c.args.failed in
    let x = c.args.self.now in
    let y = c.change_line.new.self in
    let q : c.args.act.now ≡ BulkAct.Bulk s = c.in-Bulk.is ∙ bulk_same script lines told h s c.args.line.now m b c.args.act.now x w c.in-Bulk.line c.in-Bulk.is in
    subst (λ a. IsAnswered script lines told h s c.args.now a r y) (sym q)
    (p script lines told h m b e (subst (λ a. IsLineTurn script lines told h s c.args.line.now m b a x) q w)))

pub returns-in-Sweep-clause-answered : goal.returns-in-Sweep-clause-answered
returns-in-Sweep-clause-answered g c script lines told h m e w =
    absurd (no_sweep script lines told h c.args.number c.args.line.now m c.args.failed c.args.act.now c.args.self.now w c.in-Sweep.key c.in-Sweep.is)
