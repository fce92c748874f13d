use Rattle.std.proofs.Common.{◌≤◌, ℕ, ◌+◌, length, Ok, ap, subst, ◌∙◌}
use Rattle.hib_engines.proofs.Outcomes.{err_all}
use Rattle.hib_playing.specs.Playing.{play_steps}
use Rattle.hib_playing.proofs.Playing.{goes_by, none_leads, steps_done, steps_more, steps_over}
use Rattle.hib_nodes.specs.Kept.{past}
use Rattle.hib_nodes.specs.Played.{has_next, is_by}
use Rattle.hib_nodes.proofs.Playing.{added_by, due_in, not_due, stopped_after, stopped_at}
use Rattle.hib_nodes.proofs.nodes.Nodes.run_steps.Goals as goal

pub returns-in-Done-clause-played : goal.returns-in-Done-clause-played
returns-in-Done-clause-played g c =
    let script = g.N.Name.script in
    let places = g.N.Name.places in
    let mid = past c.loop-step.self.journal in
    let new = past c.step.new.self.journal in
    let done = c.step.ensures.done (c.in_ok-step.was ∙ ap (λ z. Ok z) c.in-Done.is) in
    steps_over (has_next script) is_by c.args.number c.loop-step.step c.args.steps (past c.args.self.now.journal) mid new
    c.loop-step.auto.step-end c.loop-step.invariant.played done.same (not_due script places c.args.number mid new done)

pub loop-step-preserved : goal.loop-step-preserved
loop-step-preserved g c =
    let script = g.N.Name.script in
    let places = g.N.Name.places in
    let s = c.args.number in
    let mid = past c.loop-step.self.journal in
    let new = past c.step.new.self.journal in
    let did = c.step.ensures.did (c.in_ok-step.was ∙ ap (λ z. Ok z) c.in-Did.is) in
    record {
      played = steps_more (has_next script) is_by s c.loop-step.step (past c.args.self.now.journal) mid new did.entry c.loop-step.invariant.played did.grown
          (due_in script places s mid new did) (added_by script places s mid new did);
      going = c.in_ok-step.ensures.going ∙ c.loop-step.invariant.going;
    }

pub returns-clause-played : goal.returns-clause-played
returns-clause-played g c =
    steps_done (has_next g.N.Name.script) is_by c.args.number c.loop-step.step c.args.steps (past c.args.self.now.journal) (past c.loop-step.self.journal)
    c.loop-step.auto.step-end c.loop-step-test.false c.loop-step.invariant.played

pub returns-then-number-sessions-clause-played : goal.returns-then-number-sessions-clause-played
returns-then-number-sessions-clause-played g c =
    none_leads (has_next g.N.Name.script) is_by c.args.number c.args.steps (past c.args.self.now.journal)
    (c.sessions.ensures.unknown c.args.number
    (subst (λ (m : ℕ). length g.N.Name.script.sessions ≤ m) c.number.view_is (subst (λ (m : ℕ). m ≤ c.number.inside.0) c.sessions.ensures.count c.if-number-sessions.true)))

pub returns-in_err-step-clause-stopped : goal.returns-in_err-step-clause-stopped
returns-in_err-step-clause-stopped g c =
    let due = has_next g.N.Name.script in
    let old = c.args.self.now in
    let mid = c.loop-step.self in
    let new = c.step.new.self in
    let failed = c.in_err-step.ensures in
    err_all c.from_residual.result _ (stopped_after g.N.Name.from old mid new
    (goes_by (play_steps due is_by c.args.number (c.loop-step.step + 0)) (play_steps due is_by c.args.number 0) (past old.journal) (past mid.journal) (c.loop-step.invariant.played 0)) c.loop-step.invariant.going
    (stopped_at g.N.Name.from mid new failed.same failed.asked failed.refused))
