use Rattle.std.proofs.Common.{◌≡◌, ◌+◌, ◌∷◌, ◌||◌, slice_get, length, sym, ap, ◌∙◌, subst}
use Rattle.hib_base.specs.declared.scripts.Script.{Script}
use Rattle.hib_bulk.specs.Types.{BulkEntry}
use Rattle.hib_bulk_law.specs.Plain.{Bulked}
use Rattle.hib_bulk_law.specs.Acts.{acts_of}
use Rattle.hib_bulk.specs.Kept.{past}
use Rattle.hib_bulk.specs.Standing.{IsAnswered}
use Rattle.hib_bulk.specs.Run.{IsLineTurn, LineMoves, entry_of}
use Rattle.hib_bulk.proofs.LineTurn.{turn_of_line, due_of_line, few_hold, one_holds, entry_by, line_moves}
use Rattle.hib_bulk.proofs.lines.line_turn.Goals as goal

pub returns-in_default-clause-done : goal.returns-in_default-clause-done
returns-in_default-clause-done g c i =
    let h = past c.args.journal.now in
    due_of_line g.N.Name.script g.N.Name.lines h c.args.number c.args.line.now c.args.progress.now.steps c.args.progress.now.failed c.requires.known c.requires.line c.requires.stands
    ∙ (ap (λ (s : Script). slice_get (acts_of s c.args.number c.args.line.now) c.args.progress.now.steps) (sym c.requires.script) ∙ sym c.in_default.ensures.act)

pub answer_line-requires-clause-locks : goal.answer_line-requires-clause-locks
answer_line-requires-clause-locks g c n e =
    few_hold g.N.Name.script g.N.Name.lines g.N.Name.from.tables (past c.args.journal.now) c.args.number c.args.line.now c.args.progress.now.steps c.args.progress.now.failed c.in-Some.act c.args.parts.now
    (turn_of_line c.args.script.now g.N.Name.script g.N.Name.lines g.N.Name.from (past c.args.journal.now) c.args.number c.args.line.now c.args.progress.now.steps c.args.progress.now.failed c.in-Some.act
    c.args.parts.now c.requires.script c.requires.run c.requires.known c.requires.line c.in-Some.ensures.act c.requires.stands c.in_ok-tick.ensures.few) n e

pub answer_line-requires-clause-unlocks : goal.answer_line-requires-clause-unlocks
answer_line-requires-clause-unlocks g c n e =
    one_holds g.N.Name.script g.N.Name.lines g.N.Name.from.tables (past c.args.journal.now) c.args.number c.args.line.now c.args.progress.now.steps c.args.progress.now.failed c.in-Some.act c.args.parts.now
    (turn_of_line c.args.script.now g.N.Name.script g.N.Name.lines g.N.Name.from (past c.args.journal.now) c.args.number c.args.line.now c.args.progress.now.steps c.args.progress.now.failed c.in-Some.act
    c.args.parts.now c.requires.script c.requires.run c.requires.known c.requires.line c.in-Some.ensures.act c.requires.stands c.in_ok-tick.ensures.few) c.regions_are_given_back.ensures.back n e

pub returns-clause-did : goal.returns-clause-did
returns-clause-did g c i =
    let script = g.N.Name.script in
    let lines = g.N.Name.lines in
    let from = g.N.Name.from in
    let h = past c.args.journal.now in
    let s = c.args.number in
    let d = c.args.line.now in
    let m = c.args.progress.now.steps in
    let b = c.args.progress.now.failed in
    let a = c.in-Some.act in
    let r = c.in_ok-reply.reply in
    let x = c.args.parts.now in
    let w = c.answer_line.new.self in
    let t = c.in_ok-tick.ensures.tick in
    let k : IsLineTurn script lines from.tables h s d m b a x = turn_of_line c.args.script.now g.N.Name.script g.N.Name.lines g.N.Name.from (past c.args.journal.now) c.args.number c.args.line.now c.args.progress.now.steps c.args.progress.now.failed c.in-Some.act
    c.args.parts.now c.requires.script c.requires.run c.requires.known c.requires.line c.in-Some.ensures.act c.requires.stands c.in_ok-tick.ensures.few in
    let v : IsAnswered script lines from.tables h s (length h + 1) a r w = subst (λ n. IsAnswered script lines from.tables h s n a r w) t (c.in_ok-reply.ensures.answered script lines from.tables h m t k) in
    let grown : past c.push.new.self ≡ entry_of h s a r ∷ h = c.push.ensures
    ∙ (ap (λ (j : Bulked). record { tick = c.in_ok-tick.tick; session = s; part = c.part_of-part.result; act = a; reply = r } ∷ j) c.in_ok-tick.ensures.same
    ∙ ap (λ (e : BulkEntry). e ∷ h) (entry_by h s c.in_ok-tick.tick a r c.part_of-part.result t (c.part_of-part.ensures d script s m k.act))) in
    subst (λ z. LineMoves script lines from s d h (past c.push.new.self) x w (m + 1) (b || z)) (sym c.has_failed.ensures)
    (line_moves script lines from h (past c.push.new.self) s d m b a r x w c.requires.run k v c.in_ok-reply.ensures.fault c.answer_line.ensures.faults c.answer_line.ensures.entities grown)
