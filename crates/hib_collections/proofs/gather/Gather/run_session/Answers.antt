use Rattle.std.proofs.Common.{length, Ok, ap, arith, ◌∙◌}
use Rattle.hib_engines.proofs.Outcomes.{err_all}
use Rattle.hib_playing.specs.Playing.{play_all}
use Rattle.hib_playing.proofs.Playing.{all_more, all_over, goes_by}
use Rattle.hib_collections_law.specs.Gathered.{is_by}
use Rattle.hib_collections.specs.Kept.{past}
use Rattle.hib_collections.specs.Played.{has_next}
use Rattle.hib_collections.proofs.Playing.{stay_more, stopped_after}
use Rattle.hib_collections.proofs.gather.Gather.run_session.Goals as goal

pub steps-preserved : goal.steps-preserved
steps-preserved g c =
    let did = c.step.ensures.did (c.in_ok-step.was ∙ ap (λ z. Ok z) c.in-Did.is) in
    record {
      played = all_more (has_next g.N.Name.script g.N.Name.defs) is_by c.args.number (past c.args.self.now.journal) (past c.steps.self.journal) (past c.step.new.self.journal) did.entry
          c.steps.invariant.played did.grown did.due did.by;
      stay = stay_more g.N.Name.script g.N.Name.defs c.args.number (past c.args.self.now.journal) (past c.steps.self.journal) (past c.step.new.self.journal) did.entry did.grown did.by
          c.steps.invariant.stay;
      going = c.in_ok-step.ensures.going ∙ c.steps.invariant.going;
    }

pub steps-smaller : goal.steps-smaller
steps-smaller g c =
    let did = c.step.ensures.did (c.in_ok-step.was ∙ ap (λ z. Ok z) c.in-Did.is) in
    let e = ap length did.grown in
    let l = c.short.ensures in
    omega (arith, e, l)

pub returns-in-Done-clause-played : goal.returns-in-Done-clause-played
returns-in-Done-clause-played g c =
    let over = c.step.ensures.done (c.in_ok-step.was ∙ ap (λ z. Ok z) c.in-Done.is) in
    all_over (has_next g.N.Name.script g.N.Name.defs) is_by c.args.number (past c.args.self.now.journal) (past c.steps.self.journal) (past c.step.new.self.journal) c.steps.invariant.played over.same over.over

pub returns-in_err-step-clause-stopped : goal.returns-in_err-step-clause-stopped
returns-in_err-step-clause-stopped g c =
    let all = play_all (has_next g.N.Name.script g.N.Name.defs) is_by c.args.number in
    let failed = c.in_err-step.ensures in
    err_all c.from_residual.result _ (stopped_after g.N.Name.script g.N.Name.from c.args.self.now c.steps.self c.step.new.self
    (goes_by all all (past c.args.self.now.journal) (past c.steps.self.journal) c.steps.invariant.played) c.steps.invariant.going (record { stands = failed.stands; asked = failed.asked; refused = failed.refused }))
