use Rattle.std.proofs.lemmas.Bool.{false≢true}
use Rattle.hib_journal.specs.Kept.{past}
use Rattle.hib_parts.proofs.Steps.{fits_kept, entry_here}
use Rattle.hib_parts.proofs.ResultSteps.{results_on, results_after}
use Rattle.hib_parts.proofs.results.ResultsPart.serve.Goals as goal

pub enter_both-requires-clause-due : goal.enter_both-requires-clause-due
enter_both-requires-clause-due g c =
    let script = g.N.Name.script in
    let s = results_on script g.N.Name.from.tables (past c.self.inside.list) c.args.self.now c.self.inside.last c.self.inside.results c.answer_twice.new.results c.args.worker.now c.in_ok-acts.acts.act c.args.now c.in_ok-replies.replies.0
    c.self.view_is c.self.invariant.0 c.self.invariant.1 c.self.invariant.2 c.requires.due c.in_ok-acts.ensures.due c.requires.later c.in_ok-replies.ensures.answered in
    fits_kept script c.args.worker.now c.prepared.new.worker c.in_ok-acts.acts.act c.args.now c.in_ok-replies.replies.0 c.prepared.ensures.kept s.step.fits

pub invariant_of-self-in_err-enter_both : goal.invariant_of-self-in_err-enter_both
invariant_of-self-in_err-enter_both g c =
    let script = g.N.Name.script in
    let s = results_on script g.N.Name.from.tables (past c.self.inside.list) c.args.self.now c.self.inside.last c.self.inside.results c.answer_twice.new.results c.args.worker.now c.in_ok-acts.acts.act c.args.now c.in_ok-replies.replies.0
    c.self.view_is c.self.invariant.0 c.self.invariant.1 c.self.invariant.2 c.requires.due c.in_ok-acts.ensures.due c.requires.later c.in_ok-replies.ensures.answered in
    absurd (false≢true (c.in_err-enter_both.ensures.brings c.in_ok-acts.ensures.ready s.quiet))

pub invariant_of-self-2 : goal.invariant_of-self-2
invariant_of-self-2 g c =
    let script = g.N.Name.script in
    let s = results_on script g.N.Name.from.tables (past c.self.inside.list) c.args.self.now c.self.inside.last c.self.inside.results c.answer_twice.new.results c.args.worker.now c.in_ok-acts.acts.act c.args.now c.in_ok-replies.replies.0
    c.self.view_is c.self.invariant.0 c.self.invariant.1 c.self.invariant.2 c.requires.due c.in_ok-acts.ensures.due c.requires.later c.in_ok-replies.ensures.answered in
    results_after script g.N.Name.from.tables (past c.self.inside.list) (past c.enter_both.new.list) c.answer_twice.new.results c.args.worker.now c.in_ok-acts.acts.act c.args.now c.in_ok-replies.replies.0 c.self.invariant.0 s
    (entry_here c.args.worker.now c.prepared.new.worker (past c.self.inside.list) (past c.prepared.new.list) (past c.enter_both.new.list) c.in_ok-acts.acts.act c.args.now c.in_ok-replies.replies.0 c.prepared.ensures.kept c.prepared.ensures.list
    c.in_ok-enter_both.ensures.list)
