use Rattle.std.proofs.Common.{◌≤◌, ℕ, ◌+◌, Ok, ap, subst, ◌∙◌}
use Rattle.hib_engines.proofs.Outcomes.{err_all}
use Rattle.hib_playing.specs.Playing.{play_steps}
use Rattle.hib_playing.proofs.Playing.{goes_by, goes_then, none_leads, steps_done, steps_more, steps_over}
use Rattle.hib_bulk.specs.Kept.{past}
use Rattle.hib_bulk.specs.Played.{has_next, is_by, number_count}
use Rattle.hib_bulk.proofs.Due.{added_by, due_in, not_due, rests}
use Rattle.hib_bulk.proofs.factory.BulkFactory.run_steps.Goals as goal

pub returns-in-Done-clause-played : goal.returns-in-Done-clause-played
returns-in-Done-clause-played g c =
    let script = g.N.Name.script in
    let lines = g.N.Name.lines in
    let mid = past c.loop-step.self.journal in
    let new = past c.step.new.self.journal in
    let done = c.in_ok-step.was ∙ ap (λ z. Ok z) c.in-Done.is in
    steps_over (has_next script lines) is_by c.args.number c.loop-step.step c.args.steps (past c.args.self.now.journal) mid new
    c.loop-step.auto.step-end c.loop-step.invariant (rests c.step.result mid new done c.step.ensures.same) (not_due script lines c.args.number new (c.step.ensures.done done))

pub loop-step-preserved : goal.loop-step-preserved
loop-step-preserved g c =
    let script = g.N.Name.script in
    let lines = g.N.Name.lines in
    let s = c.args.number in
    let mid = past c.loop-step.self.journal in
    let new = past c.step.new.self.journal in
    let did = c.step.ensures.did (c.in_ok-step.was ∙ ap (λ z. Ok z) c.in-Did.is) in
    steps_more (has_next script lines) is_by s c.loop-step.step (past c.args.self.now.journal) mid new did.entry c.loop-step.invariant did.grown (due_in script lines s mid new did) (added_by script lines s mid new did)

pub returns-clause-played : goal.returns-clause-played
returns-clause-played g c =
    steps_done (has_next g.N.Name.script g.N.Name.lines) is_by c.args.number c.loop-step.step c.args.steps (past c.args.self.now.journal) (past c.loop-step.self.journal)
    c.loop-step.auto.step-end c.loop-step-test.false c.loop-step.invariant

pub returns-then-number-numbers-clause-played : goal.returns-then-number-numbers-clause-played
returns-then-number-numbers-clause-played g c =
    none_leads (has_next g.N.Name.script g.N.Name.lines) is_by c.args.number c.args.steps (past c.args.self.now.journal)
    (c.numbers.ensures.unknown c.args.number
    (subst (λ (m : ℕ). number_count g.N.Name.script g.N.Name.lines ≤ m) c.number.view_is (subst (λ (m : ℕ). m ≤ c.number.inside.0) c.numbers.ensures.count c.if-number-numbers.true)))

pub returns-in_err-step-clause-stands : goal.returns-in_err-step-clause-stands
returns-in_err-step-clause-stands g c =
    let due = has_next g.N.Name.script g.N.Name.lines in
    let old = past c.args.self.now.journal in
    let mid = past c.loop-step.self.journal in
    err_all c.from_residual.result _ (goes_then old mid (past c.step.new.self.journal)
    (goes_by (play_steps due is_by c.args.number (c.loop-step.step + 0)) (play_steps due is_by c.args.number 0) old mid (c.loop-step.invariant 0)) c.step.ensures.stands)
