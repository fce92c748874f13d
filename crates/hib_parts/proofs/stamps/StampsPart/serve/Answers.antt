use Rattle.std.proofs.lemmas.Bool.{false≢true}
use Rattle.hib_journal.specs.Kept.{past}
use Rattle.hib_parts.proofs.Steps.{stamps_on, stamps_after, fits_kept, entry_here}
use Rattle.hib_parts.proofs.stamps.StampsPart.serve.Goals as goal

pub enter_answer-requires-clause-due : goal.enter_answer-requires-clause-due
enter_answer-requires-clause-due g c =
    let script = g.N.Name.script in
    let s = stamps_on c.args.script.now script g.N.Name.from.tables (past c.self.inside.list) c.args.self.now c.self.inside.last c.self.inside.stamps c.serve.new.self c.args.worker.now c.in_ok-acts.acts.act c.args.now c.in_ok-reply.reply
    c.requires.script c.self.view_is c.self.invariant.1 c.self.invariant.2 c.requires.due c.in_ok-acts.ensures.due c.requires.later c.in_ok-reply.ensures.answered in
    fits_kept script c.args.worker.now c.prepared.new.worker c.in_ok-acts.acts.act c.args.now c.in_ok-reply.reply c.prepared.ensures.kept s.step.fits

pub invariant_of-self-in_err-enter_answer : goal.invariant_of-self-in_err-enter_answer
invariant_of-self-in_err-enter_answer g c =
    let script = g.N.Name.script in
    let s = stamps_on c.args.script.now script g.N.Name.from.tables (past c.self.inside.list) c.args.self.now c.self.inside.last c.self.inside.stamps c.serve.new.self c.args.worker.now c.in_ok-acts.acts.act c.args.now c.in_ok-reply.reply
    c.requires.script c.self.view_is c.self.invariant.1 c.self.invariant.2 c.requires.due c.in_ok-acts.ensures.due c.requires.later c.in_ok-reply.ensures.answered in
    absurd (false≢true (c.in_err-enter_answer.ensures.brings c.in_ok-acts.ensures.ready s.small s.quiet))

pub invariant_of-self-2 : goal.invariant_of-self-2
invariant_of-self-2 g c =
    let script = g.N.Name.script in
    let s = stamps_on c.args.script.now script g.N.Name.from.tables (past c.self.inside.list) c.args.self.now c.self.inside.last c.self.inside.stamps c.serve.new.self c.args.worker.now c.in_ok-acts.acts.act c.args.now c.in_ok-reply.reply
    c.requires.script c.self.view_is c.self.invariant.1 c.self.invariant.2 c.requires.due c.in_ok-acts.ensures.due c.requires.later c.in_ok-reply.ensures.answered in
    stamps_after script g.N.Name.from.tables (past c.self.inside.list) (past c.enter_answer.new.list) c.serve.new.self c.args.worker.now c.in_ok-acts.acts.act c.args.now c.in_ok-reply.reply c.self.invariant.0 s
    (entry_here c.args.worker.now c.prepared.new.worker (past c.self.inside.list) (past c.prepared.new.list) (past c.enter_answer.new.list) c.in_ok-acts.acts.act c.args.now c.in_ok-reply.reply c.prepared.ensures.kept c.prepared.ensures.list
    c.in_ok-enter_answer.ensures.list)
