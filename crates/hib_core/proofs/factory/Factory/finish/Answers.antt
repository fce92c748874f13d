use Rattle.std.proofs.Common.{◌<◌, ◌≤◌, length, ℕ, ◌∙◌, ◌-◌, subst}
use Rattle.hib_journal.specs.Kept.{past}
use Rattle.hib_journal.specs.Played.{play_sessions}
use Rattle.std.specs.List.{range_with_len}
use Rattle.hib_core.specs.Playing.{Play}
use Rattle.hib_core.proofs.Playing.{goes_by, sessions_more, sessions_done, over_more}
use Rattle.hib_core.proofs.Obeyed.{runs_then}
use Rattle.hib_core.proofs.factory.Factory.finish.Goals as goal

pub loop-number-preserved : goal.loop-number-preserved
loop-number-preserved g c =
    let script = g.N.Name.script in
    let n = c.loop-number.number in
    let all : Play = play_sessions script (range_with_len 0 (length script.sessions)) in
    record {
      played = sessions_more script n (length script.sessions) all (past c.args.self.now.journal) (past c.loop-number.self.journal) (past c.run_session.new.self.journal)
          (subst (λ (m : ℕ). n < m) c.sessions-number-end.ensures.count c.loop-number-test.true) c.loop-number.invariant.played c.in_ok-run_session.ensures.played;
      over = over_more script n (past c.loop-number.self.journal) (past c.run_session.new.self.journal) c.loop-number.invariant.over c.in_ok-run_session.ensures.over c.in_ok-run_session.ensures.stay;
      going = c.in_ok-run_session.ensures.ran.going ∙ c.loop-number.invariant.going;
      inside = c.in_ok-run_session.ensures.inside ∙ c.loop-number.invariant.inside;
    }

pub returns-clause-played : goal.returns-clause-played
returns-clause-played g c =
    let script = g.N.Name.script in
    let all : Play = play_sessions script (range_with_len 0 (length script.sessions)) in
    sessions_done script c.loop-number.number (length script.sessions) all (past c.args.self.now.journal) (past c.loop-number.self.journal)
    (subst (λ (m : ℕ). m ≤ c.loop-number.number) c.sessions-number-end.ensures.count c.loop-number-test.false) c.loop-number.invariant.played

pub returns-in_err-run_session-clause-ran : goal.returns-in_err-run_session-clause-ran
returns-in_err-run_session-clause-ran g c =
    let script = g.N.Name.script in
    let all : Play = play_sessions script (range_with_len 0 (length script.sessions)) in
    let left : Play = play_sessions script (range_with_len c.loop-number.number (length script.sessions - c.loop-number.number)) in
    runs_then g.N.Name.script g.N.Name.from c.from_residual.result _ c.args.self.now c.loop-number.self c.run_session.new.self c.from_residual.ensures.0
    (goes_by all left (past c.args.self.now.journal) (past c.loop-number.self.journal) c.loop-number.invariant.played)
    c.loop-number.invariant.going c.in_err-run_session.ensures.ran
