use Rattle.std.proofs.Common.{◌<◌, ◌≤◌, length, ℕ, ◌∙◌, ◌-◌, subst}
use Rattle.std.specs.List.{range_with_len}
use Rattle.hib_engines.proofs.Outcomes.{err_all}
use Rattle.hib_playing.specs.Playing.{play_all, play_each}
use Rattle.hib_playing.proofs.Playing.{goes_by, numbers_done, numbers_more, over_more}
use Rattle.hib_collections_law.specs.Gathered.{is_by}
use Rattle.hib_collections.specs.Kept.{past}
use Rattle.hib_collections.specs.Played.{has_next, play_sessions}
use Rattle.hib_collections.proofs.Playing.{stopped_after}
use Rattle.hib_collections.proofs.gather.Gather.finish.Goals as goal

pub loop-number-preserved : goal.loop-number-preserved
loop-number-preserved g c =
    let script = g.N.Name.script in
    let defs = g.N.Name.defs in
    let n = c.loop-number.number in
    record {
      played = numbers_more (play_all (has_next script defs) is_by) n (length script.sessions) (play_sessions script defs) (past c.args.self.now.journal) (past c.loop-number.self.journal) (past c.run_session.new.self.journal)
          (subst (λ (m : ℕ). n < m) c.sessions-number-end.ensures.count c.loop-number-test.true) c.loop-number.invariant.played c.in_ok-run_session.ensures.played;
      over = over_more (has_next script defs) is_by n (past c.loop-number.self.journal) (past c.run_session.new.self.journal) c.loop-number.invariant.over c.in_ok-run_session.ensures.over c.in_ok-run_session.ensures.stay;
      going = c.in_ok-run_session.ensures.going ∙ c.loop-number.invariant.going;
    }

pub returns-clause-played : goal.returns-clause-played
returns-clause-played g c =
    let script = g.N.Name.script in
    let due = has_next script g.N.Name.defs in
    numbers_done (play_all due is_by) c.loop-number.number (length script.sessions) (play_sessions script g.N.Name.defs) (past c.args.self.now.journal) (past c.loop-number.self.journal)
    (subst (λ (m : ℕ). m ≤ c.loop-number.number) c.sessions-number-end.ensures.count c.loop-number-test.false) c.loop-number.invariant.played

pub returns-in_err-run_session-clause-stopped : goal.returns-in_err-run_session-clause-stopped
returns-in_err-run_session-clause-stopped g c =
    let script = g.N.Name.script in
    let due = has_next script g.N.Name.defs in
    let left = play_each (play_all due is_by) (range_with_len c.loop-number.number (length script.sessions - c.loop-number.number)) in
    err_all c.from_residual.result _ (stopped_after script g.N.Name.from c.args.self.now c.loop-number.self c.run_session.new.self
    (goes_by (play_sessions script g.N.Name.defs) left (past c.args.self.now.journal) (past c.loop-number.self.journal) c.loop-number.invariant.played) c.loop-number.invariant.going c.in_err-run_session.ensures.stopped)
