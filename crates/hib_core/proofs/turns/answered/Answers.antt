use Rattle.std.proofs.Common.{sym, subst, refl}
use Rattle.hib_journal.specs.Kept.{past}
use Rattle.hib_session.specs.Session.{number_of}
use Rattle.hib_core.specs.Standing.{entry_of}
use Rattle.hib_core.specs.Factory.{IsRun, IsTurn, Answers}
use Rattle.hib_engines.proofs.Left.{refused_same}
use Rattle.hib_engines.proofs.Outcomes.{err_all}
use Rattle.hib_core.proofs.Going.{answers_of, ready}
use Rattle.hib_core.proofs.turns.answered.Goals as goal

pub returns-clause-answers : goal.returns-clause-answers
returns-clause-answers g c =
    let h = past c.args.journal.now in
    let from = g.N.Name.from in
    let script = c.args.script.now in
    let y = c.args.session.now in
    let a = c.args.act.now in
    let r = c.in_ok-reply.reply in
    let now = c.in_ok-tick.tick in
    let q = sym c.requires.script in
    let run = subst (λ s. IsRun s from h c.args.engines.now) q c.requires.run in
    let turn = subst (λ s. IsTurn s h y a) q c.requires.turn in
    subst (λ s. Answers s from (number_of y) a h (entry_of h (number_of y) a r) c.args.engines.now c.answer.new.self) c.requires.script
    (answers_of c.law.ensures.obeyed script from y a r h now (entry_of h (number_of y) a r) c.args.engines.now c.answer.new.self run turn c.in_ok-tick.ensures.tick
    (c.in_ok-reply.ensures.answered from.tables h turn.follows (ready script from h now y a c.args.engines.now run turn c.in_ok-tick.ensures.tick))
    c.answer.ensures.faults c.answer.ensures.entities c.in_ok-tick.ensures.few refl)

pub returns-clause-passed : goal.returns-clause-passed
returns-clause-passed g c = λ b.
    let h = past c.args.journal.now in
    let from = g.N.Name.from in
    let script = c.args.script.now in
    let y = c.args.session.now in
    let a = c.args.act.now in
    let q = sym c.requires.script in
    let run = subst (λ s. IsRun s from h c.args.engines.now) q c.requires.run in
    let turn = subst (λ s. IsTurn s h y a) q c.requires.turn in
    c.in_ok-reply.ensures.passed b from.tables h (ready script from h c.in_ok-tick.tick y a c.args.engines.now run turn c.in_ok-tick.ensures.tick)

pub returns-in_err-tick-clause-err : goal.returns-in_err-tick-clause-err
returns-in_err-tick-clause-err g c = err_all c.from_residual.result _ (refused_same (past c.args.journal.now) (number_of c.args.session.now) c.args.act.now c.args.engines.now c.args.engines.now refl)

pub returns-in_err-reply-clause-err : goal.returns-in_err-reply-clause-err
returns-in_err-reply-clause-err g c =
    let h = past c.args.journal.now in
    let from = g.N.Name.from in
    let script = c.args.script.now in
    let y = c.args.session.now in
    let a = c.args.act.now in
    let q = sym c.requires.script in
    let run = subst (λ s. IsRun s from h c.args.engines.now) q c.requires.run in
    let turn = subst (λ s. IsTurn s h y a) q c.requires.turn in
    err_all c.from_residual-in_err-reply.result _ (c.in_err-reply.ensures.refused from.tables h (ready script from h c.in_ok-tick.tick y a c.args.engines.now run turn c.in_ok-tick.ensures.tick))
