use Rattle.std.specs.List.{range_with_len}
use Rattle.std.proofs.Common.{length, ◌∙◌}
use Rattle.std.proofs.lemmas.Result.{on_ok_weaker}
use Rattle.hib_core.proofs.Playing.{goes_by, goes_then}
use Rattle.hib_core.specs.Playing.{GoesOn, played}
use Rattle.hib_journal.specs.Kept.{past}
use Rattle.hib_journal.specs.Played.{play_sessions}
use Rattle.hib_journal.specs.Sessions.{Journal}
use Rattle.hib_order_plays.proofs.Due.{begun, unkilled}
use Rattle.hib_order_plays.proofs.Steps.{steps_by}
use Rattle.hib_order_plays.proofs.playing.follow.Goals as goal

pub returns-clause-steps : goal.returns-clause-steps
returns-clause-steps g c =
    on_ok_weaker c.finish.result
    (λ w a.
    let first : Journal = past c.begin.new.factory.journal in
    let second : Journal = past c.run_last.new.factory.journal in
    let third : Journal = past c.finish.new.self.journal in
    steps_by second third (goes_by (play_sessions g.N.Name.script (range_with_len 0 (length g.N.Name.script.sessions))) played second third w) c.finish.ensures.inside
    (steps_by first second c.in_ok-run_last.ensures.goes c.in_ok-run_last.ensures.inside (c.in_ok-begin.ensures.steps a)))
    c.finish.ensures.played

pub returns-clause-begins : goal.returns-clause-begins
returns-clause-begins g c =
    on_ok_weaker c.finish.result
    (λ w start p q u.
    let first : Journal = past c.begin.new.factory.journal in
    let second : Journal = past c.run_last.new.factory.journal in
    let third : Journal = past c.finish.new.self.journal in
    let on : GoesOn first third = goes_then first second third c.in_ok-run_last.ensures.goes
    (goes_by (play_sessions g.N.Name.script (range_with_len 0 (length g.N.Name.script.sessions))) played second third w) in
    begun g.N.Name.script start c.args.steps.now first c.finish.new.self.journal on u (c.in_ok-begin.ensures.made start p q))
    c.finish.ensures.played

pub returns-clause-unkilled : goal.returns-clause-unkilled
returns-clause-unkilled g c =
    on_ok_weaker c.finish.result
    (λ w start p q u.
    let first : Journal = past c.begin.new.factory.journal in
    let second : Journal = past c.run_last.new.factory.journal in
    let third : Journal = past c.finish.new.self.journal in
    let on : GoesOn first third = goes_then first second third c.in_ok-run_last.ensures.goes
    (goes_by (play_sessions g.N.Name.script (range_with_len 0 (length g.N.Name.script.sessions))) played second third w) in
    unkilled g.N.Name.script start c.args.steps.now first c.finish.new.self.journal on (c.finish.ensures.inside ∙ c.in_ok-run_last.ensures.inside) u
    (c.in_ok-begin.ensures.made start p q))
    c.finish.ensures.played
