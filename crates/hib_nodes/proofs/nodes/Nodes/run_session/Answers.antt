use Rattle.std.proofs.Common.{length, Ok, ap, arith, ◌∙◌}
use Rattle.hib_engines.proofs.Outcomes.{err_all}
use Rattle.hib_playing.specs.Playing.{play_all}
use Rattle.hib_playing.proofs.Playing.{all_more, all_over, goes_by}
use Rattle.hib_nodes.specs.Kept.{past}
use Rattle.hib_nodes.specs.Played.{has_next, is_by}
use Rattle.hib_nodes.proofs.Playing.{added_by, due_in, not_due, stay_more, stopped_after, stopped_at}
use Rattle.hib_nodes.proofs.nodes.Nodes.run_session.Goals as goal

pub steps-preserved : goal.steps-preserved
steps-preserved g c =
    let script = g.N.Name.script in
    let places = g.N.Name.places in
    let s = c.args.number in
    let old = past c.args.self.now.journal in
    let mid = past c.steps.self.journal in
    let new = past c.step.new.self.journal in
    let did = c.step.ensures.did (c.in_ok-step.was ∙ ap (λ z. Ok z) c.in-Did.is) in
    record {
      played = all_more (has_next script) is_by s old mid new did.entry c.steps.invariant.played did.grown (due_in script places s mid new did) (added_by script places s mid new did);
      stay = stay_more script places s old mid new did c.steps.invariant.stay;
      going = c.in_ok-step.ensures.going ∙ c.steps.invariant.going;
    }

pub steps-smaller : goal.steps-smaller
steps-smaller g c =
    let did = c.step.ensures.did (c.in_ok-step.was ∙ ap (λ z. Ok z) c.in-Did.is) in
    let e = ap length did.grown in
    let l = c.short.ensures in
    omega (arith, e, l)

pub returns-in-Done-clause-played : goal.returns-in-Done-clause-played
returns-in-Done-clause-played g c =
    let mid = past c.steps.self.journal in
    let new = past c.step.new.self.journal in
    let done = c.step.ensures.done (c.in_ok-step.was ∙ ap (λ z. Ok z) c.in-Done.is) in
    all_over (has_next g.N.Name.script) is_by c.args.number (past c.args.self.now.journal) mid new c.steps.invariant.played done.same (not_due g.N.Name.script g.N.Name.places c.args.number mid new done)

pub returns-in-Done-clause-over : goal.returns-in-Done-clause-over
returns-in-Done-clause-over g c =
    not_due g.N.Name.script g.N.Name.places c.args.number (past c.steps.self.journal) (past c.step.new.self.journal) (c.step.ensures.done (c.in_ok-step.was ∙ ap (λ z. Ok z) c.in-Done.is))

pub returns-in-Done-clause-stay : goal.returns-in-Done-clause-stay
returns-in-Done-clause-stay g c = λ s q.
    let done = c.step.ensures.done (c.in_ok-step.was ∙ ap (λ z. Ok z) c.in-Done.is) in
    ap (λ h. has_next g.N.Name.script h s) done.same ∙ c.steps.invariant.stay s q

pub returns-in_err-step-clause-stopped : goal.returns-in_err-step-clause-stopped
returns-in_err-step-clause-stopped g c =
    let all = play_all (has_next g.N.Name.script) is_by c.args.number in
    let old = c.args.self.now in
    let mid = c.steps.self in
    let new = c.step.new.self in
    let failed = c.in_err-step.ensures in
    err_all c.from_residual.result _ (stopped_after g.N.Name.from old mid new (goes_by all all (past old.journal) (past mid.journal) c.steps.invariant.played) c.steps.invariant.going
    (stopped_at g.N.Name.from mid new failed.same failed.asked failed.refused))
