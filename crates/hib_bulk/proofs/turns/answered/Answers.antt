use Rattle.std.proofs.Common.{sym, subst}
use Rattle.hib_session.specs.Session.{number_of}
use Rattle.hib_bulk.specs.Kept.{past}
use Rattle.hib_bulk.specs.Standing.{IsReady, IsTold}
use Rattle.hib_bulk.specs.Run.{IsRun, IsTurn, IsSwept, Answers}
use Rattle.hib_bulk.proofs.Moved.{ready_of, answers_of}
use Rattle.hib_bulk.proofs.turns.answered.Goals as goal

pub returns-clause-answers : goal.returns-clause-answers
returns-clause-answers g c =
    let h = past c.args.journal.now in
    let from = g.N.Name.from in
    let lines = g.N.Name.lines in
    let script = c.args.script.now in
    let y = c.args.session.now in
    let a = c.args.act.now in
    let x = c.args.parts.now in
    let r = c.in_ok-reply.reply in
    let q = sym c.requires.script in
    let run = subst (λ s. IsRun s lines from h x) q c.requires.run in
    let turn = subst (λ s. IsTurn s h y a) q c.requires.turn in
    let swept = subst (λ s. IsSwept s h a) q c.requires.swept in
    let ready = subst (λ t. IsReady script lines from.tables h (number_of y) t a x) (sym c.in_ok-tick.ensures.tick) (ready_of script lines from h y a x run turn swept) in
    let told = subst (λ t. IsTold script lines from.tables h (number_of y) t a r x c.answer.new.self) c.in_ok-tick.ensures.tick (c.in_ok-reply.ensures.answered lines from.tables h turn.follows ready) in
    subst (λ s. Answers s lines from (number_of y) a r h x c.answer.new.self) c.requires.script
    (answers_of script lines from y a r h x c.answer.new.self run turn swept told c.in_ok-tick.ensures.few c.in_ok-reply.ensures.faults c.in_ok-reply.ensures.entities)
