use Rattle.std.proofs.Common.{◌≤◌, ℕ, ◌+◌, length, Ok, ap, subst, ◌∙◌}
use Rattle.hib_engines.proofs.Outcomes.{err_all}
use Rattle.hib_playing.specs.Playing.{play_steps}
use Rattle.hib_playing.proofs.Playing.{goes_by, none_leads, steps_done, steps_more, steps_over}
use Rattle.hib_collections_law.specs.Gathered.{is_by}
use Rattle.hib_collections.specs.Kept.{past}
use Rattle.hib_collections.specs.Played.{has_next}
use Rattle.hib_collections.proofs.Playing.{stopped_after}
use Rattle.hib_collections.proofs.gather.Gather.run_steps.Goals as goal

pub returns-in-Done-clause-played : goal.returns-in-Done-clause-played
returns-in-Done-clause-played g c =
    let over = c.step.ensures.done (c.in_ok-step.was ∙ ap (λ z. Ok z) c.in-Done.is) in
    steps_over (has_next g.N.Name.script g.N.Name.defs) is_by c.args.number c.loop-step.step c.args.steps (past c.args.self.now.journal) (past c.loop-step.self.journal) (past c.step.new.self.journal)
    c.loop-step.auto.step-end c.loop-step.invariant.played over.same over.over

pub loop-step-preserved : goal.loop-step-preserved
loop-step-preserved g c =
    let did = c.step.ensures.did (c.in_ok-step.was ∙ ap (λ z. Ok z) c.in-Did.is) in
    record {
      played = steps_more (has_next g.N.Name.script g.N.Name.defs) is_by c.args.number c.loop-step.step (past c.args.self.now.journal) (past c.loop-step.self.journal) (past c.step.new.self.journal)
          did.entry c.loop-step.invariant.played did.grown did.due did.by;
      going = c.in_ok-step.ensures.going ∙ c.loop-step.invariant.going;
    }

pub returns-clause-played : goal.returns-clause-played
returns-clause-played g c =
    steps_done (has_next g.N.Name.script g.N.Name.defs) is_by c.args.number c.loop-step.step c.args.steps (past c.args.self.now.journal) (past c.loop-step.self.journal)
    c.loop-step.auto.step-end c.loop-step-test.false c.loop-step.invariant.played

pub returns-then-number-sessions-clause-played : goal.returns-then-number-sessions-clause-played
returns-then-number-sessions-clause-played g c =
    none_leads (has_next g.N.Name.script g.N.Name.defs) is_by c.args.number c.args.steps (past c.args.self.now.journal)
    (c.sessions.ensures.unknown c.args.number
    (subst (λ (m : ℕ). length g.N.Name.script.sessions ≤ m) c.number.view_is (subst (λ (m : ℕ). m ≤ c.number.inside.0) c.sessions.ensures.count c.if-number-sessions.true)))

pub returns-in_err-step-clause-stopped : goal.returns-in_err-step-clause-stopped
returns-in_err-step-clause-stopped g c =
    let steps = λ (n : ℕ). play_steps (has_next g.N.Name.script g.N.Name.defs) is_by c.args.number n in
    let failed = c.in_err-step.ensures in
    err_all c.from_residual.result _ (stopped_after g.N.Name.script g.N.Name.from c.args.self.now c.loop-step.self c.step.new.self
    (goes_by (steps (c.loop-step.step + 0)) (steps 0) (past c.args.self.now.journal) (past c.loop-step.self.journal) (c.loop-step.invariant.played 0)) c.loop-step.invariant.going
    (record { stands = failed.stands; asked = failed.asked; refused = failed.refused }))
