use Rattle.std.proofs.Common.{sym, subst, ◌∙◌}
use Rattle.std.proofs.lemmas.Bool.{false≢true}
use Rattle.hib_journal.specs.Types.{Part}
use Rattle.hib_journal.specs.Kept.{past}
use Rattle.hib_parts.specs.Listed.{RegionState, IsDueOn}
use Rattle.hib_parts.proofs.Steps.{region_on, region_after, region_left, part_on, fits_kept, entry_here}
use Rattle.hib_parts.proofs.region.RegionPart.serve.Goals as goal

pub enter_answer-requires-clause-due : goal.enter_answer-requires-clause-due
enter_answer-requires-clause-due g c =
    let script = g.N.Name.script in
    let s = region_on script g.N.Name.from.tables (past c.self.inside.list) c.self.inside.last c.self.inside.entity c.args.self.now c.self.inside.region c.serve.new.self c.args.worker.now c.in_ok-acts.acts.act c.args.now c.in_ok-reply.reply
    c.self.view_is c.self.invariant.0 c.self.invariant.1 c.self.invariant.2 c.requires.due c.in_ok-acts.ensures.due c.requires.later c.in_ok-reply.ensures.answered in
    fits_kept script c.args.worker.now c.prepared.new.worker c.in_ok-acts.acts.act c.args.now c.in_ok-reply.reply c.prepared.ensures.kept s.step.fits

pub invariant_of-self-in_err-enter_answer : goal.invariant_of-self-in_err-enter_answer
invariant_of-self-in_err-enter_answer g c =
    let script = g.N.Name.script in
    let s = region_on script g.N.Name.from.tables (past c.self.inside.list) c.self.inside.last c.self.inside.entity c.args.self.now c.self.inside.region c.serve.new.self c.args.worker.now c.in_ok-acts.acts.act c.args.now c.in_ok-reply.reply
    c.self.view_is c.self.invariant.0 c.self.invariant.1 c.self.invariant.2 c.requires.due c.in_ok-acts.ensures.due c.requires.later c.in_ok-reply.ensures.answered in
    region_left script g.N.Name.from.tables c.self.inside.entity (past c.self.inside.list) (past c.enter_answer.new.list) c.self.inside.last c.self.inside.region c.serve.new.self c.in_ok-acts.acts.act c.args.worker.now.number c.self.invariant
    (c.in_err-enter_answer.ensures.same ∙ c.prepared.ensures.list)
    (part_on script (Part.Region c.self.inside.entity) c.args.worker.now c.in_ok-acts.acts.act (subst (λ (v : RegionState). IsDueOn script (Part.Region v.entity) c.args.worker.now) (sym c.self.view_is) c.requires.due) c.in_ok-acts.ensures.due)
    c.in_ok-reply.ensures.still (λ b. false≢true (c.in_err-enter_answer.ensures.brings c.in_ok-acts.ensures.ready (s.small b) b))

pub invariant_of-self-2 : goal.invariant_of-self-2
invariant_of-self-2 g c =
    let script = g.N.Name.script in
    let s = region_on script g.N.Name.from.tables (past c.self.inside.list) c.self.inside.last c.self.inside.entity c.args.self.now c.self.inside.region c.serve.new.self c.args.worker.now c.in_ok-acts.acts.act c.args.now c.in_ok-reply.reply
    c.self.view_is c.self.invariant.0 c.self.invariant.1 c.self.invariant.2 c.requires.due c.in_ok-acts.ensures.due c.requires.later c.in_ok-reply.ensures.answered in
    region_after script g.N.Name.from.tables c.self.inside.entity (past c.self.inside.list) (past c.enter_answer.new.list) c.serve.new.self c.args.worker.now c.in_ok-acts.acts.act c.args.now c.in_ok-reply.reply c.self.invariant.0 s
    (entry_here c.args.worker.now c.prepared.new.worker (past c.self.inside.list) (past c.prepared.new.list) (past c.enter_answer.new.list) c.in_ok-acts.acts.act c.args.now c.in_ok-reply.reply c.prepared.ensures.kept c.prepared.ensures.list
    c.in_ok-enter_answer.ensures.list)
