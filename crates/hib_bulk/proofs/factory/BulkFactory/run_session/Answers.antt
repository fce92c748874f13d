use Rattle.std.proofs.Common.{length, Ok, ap, arith, ◌∙◌}
use Rattle.hib_engines.proofs.Outcomes.{err_all}
use Rattle.hib_playing.specs.Playing.{play_all}
use Rattle.hib_playing.proofs.Playing.{all_more, all_over, goes_by, goes_then}
use Rattle.hib_bulk.specs.Kept.{past}
use Rattle.hib_bulk.specs.Played.{has_next, is_by}
use Rattle.hib_bulk.proofs.Due.{added_by, due_in, not_due, rests, stay_more}
use Rattle.hib_bulk.proofs.factory.BulkFactory.run_session.Goals as goal

pub steps-preserved : goal.steps-preserved
steps-preserved g c =
    let script = g.N.Name.script in
    let lines = g.N.Name.lines in
    let s = c.args.number in
    let old = past c.args.self.now.journal in
    let mid = past c.steps.self.journal in
    let new = past c.step.new.self.journal in
    let did = c.step.ensures.did (c.in_ok-step.was ∙ ap (λ z. Ok z) c.in-Did.is) in
    record {
      played = all_more (has_next script lines) is_by s old mid new did.entry c.steps.invariant.played did.grown (due_in script lines s mid new did) (added_by script lines s mid new did);
      stay = stay_more script lines s old mid new did c.steps.invariant.stay;
    }

pub steps-smaller : goal.steps-smaller
steps-smaller g c =
    let did = c.step.ensures.did (c.in_ok-step.was ∙ ap (λ z. Ok z) c.in-Did.is) in
    let e = ap length did.grown in
    let l = c.short.ensures in
    omega (arith, e, l)

pub returns-in-Done-clause-played : goal.returns-in-Done-clause-played
returns-in-Done-clause-played g c =
    let script = g.N.Name.script in
    let lines = g.N.Name.lines in
    let mid = past c.steps.self.journal in
    let new = past c.step.new.self.journal in
    let done = c.in_ok-step.was ∙ ap (λ z. Ok z) c.in-Done.is in
    all_over (has_next script lines) is_by c.args.number (past c.args.self.now.journal) mid new c.steps.invariant.played (rests c.step.result mid new done c.step.ensures.same)
    (not_due script lines c.args.number new (c.step.ensures.done done))

pub returns-in_err-step-clause-stands : goal.returns-in_err-step-clause-stands
returns-in_err-step-clause-stands g c =
    let all = play_all (has_next g.N.Name.script g.N.Name.lines) is_by c.args.number in
    let old = past c.args.self.now.journal in
    let mid = past c.steps.self.journal in
    err_all c.from_residual.result _ (goes_then old mid (past c.step.new.self.journal) (goes_by all all old mid c.steps.invariant.played) c.step.ensures.stands)
