use Rattle.std.proofs.Common.{◌<◌, ◌≤◌, ◌-◌, ℕ, length, subst, ◌∙◌}
use Rattle.std.specs.List.{range_with_len}
use Rattle.hib_engines.proofs.Outcomes.{err_all}
use Rattle.hib_playing.specs.Playing.{play_all, play_each}
use Rattle.hib_playing.proofs.Playing.{goes_by, numbers_done, numbers_more, over_more}
use Rattle.hib_nodes.specs.Kept.{past}
use Rattle.hib_nodes.specs.Played.{has_next, is_by, play_sessions}
use Rattle.hib_nodes.proofs.Playing.{stopped_after}
use Rattle.hib_nodes.proofs.nodes.Nodes.finish.Goals as goal

pub loop-number-preserved : goal.loop-number-preserved
loop-number-preserved g c =
    let script = g.N.Name.script in
    let n = c.loop-number.number in
    let mid = past c.loop-number.self.journal in
    let new = past c.run_session.new.self.journal in
    record {
      played = numbers_more (play_all (has_next script) is_by) n (length script.sessions) (play_sessions script) (past c.args.self.now.journal) mid new
          (subst (λ (m : ℕ). n < m) c.sessions-number-end.ensures.count c.loop-number-test.true) c.loop-number.invariant.played c.in_ok-run_session.ensures.played;
      over = over_more (has_next script) is_by n mid new c.loop-number.invariant.over c.in_ok-run_session.ensures.over c.in_ok-run_session.ensures.stay;
      going = c.in_ok-run_session.ensures.going ∙ c.loop-number.invariant.going;
    }

pub returns-clause-played : goal.returns-clause-played
returns-clause-played g c =
    let script = g.N.Name.script in
    numbers_done (play_all (has_next script) is_by) c.loop-number.number (length script.sessions) (play_sessions script) (past c.args.self.now.journal) (past c.loop-number.self.journal)
    (subst (λ (m : ℕ). m ≤ c.loop-number.number) c.sessions-number-end.ensures.count c.loop-number-test.false) c.loop-number.invariant.played

pub returns-in_err-run_session-clause-stopped : goal.returns-in_err-run_session-clause-stopped
returns-in_err-run_session-clause-stopped g c =
    let script = g.N.Name.script in
    let old = c.args.self.now in
    let mid = c.loop-number.self in
    let left = play_each (play_all (has_next script) is_by) (range_with_len c.loop-number.number (length script.sessions - c.loop-number.number)) in
    err_all c.from_residual.result _ (stopped_after g.N.Name.from old mid c.run_session.new.self
    (goes_by (play_sessions script) left (past old.journal) (past mid.journal) c.loop-number.invariant.played) c.loop-number.invariant.going c.in_err-run_session.ensures.stopped)
