use Rattle.std.proofs.Common.{◌∙◌}
use Rattle.hib_engines.proofs.Outcomes.{map_err, map_on}
use Rattle.hib_playing.specs.Playing.{played}
use Rattle.hib_playing.proofs.Playing.{goes_by, then_leads}
use Rattle.hib_nodes.specs.Kept.{past}
use Rattle.hib_nodes.specs.Played.{play_queue}
use Rattle.hib_nodes.proofs.Playing.{both_empty, both_on, stopped_after}
use Rattle.hib_nodes.proofs.nodes.Nodes.deliver_rest.Goals as goal

pub returns-clause-played : goal.returns-clause-played
returns-clause-played g c = map_on c.deliver_all-2.result _ _ c.deliver_all-2.ensures.played (λ p.
    then_leads (play_queue g.N.Name.script 1) (play_queue g.N.Name.script 2) (past c.args.self.now.journal) (past c.deliver_all.new.self.journal) (past c.deliver_all-2.new.self.journal)
    c.in_ok-deliver_all.ensures.played p)

pub returns-clause-empty : goal.returns-clause-empty
returns-clause-empty g c = both_on c.deliver_all-2.result _ _ _ c.deliver_all-2.ensures.empty c.deliver_all-2.ensures.others (λ e o.
    both_empty g.N.Name.script (past c.deliver_all.new.self.journal) (past c.deliver_all-2.new.self.journal) c.in_ok-deliver_all.ensures.empty e o)

pub returns-clause-stay : goal.returns-clause-stay
returns-clause-stay g c = map_on c.deliver_all-2.result _ _ c.deliver_all-2.ensures.stay (λ f s. f s ∙ c.in_ok-deliver_all.ensures.stay s)

pub returns-clause-going : goal.returns-clause-going
returns-clause-going g c = map_on c.deliver_all-2.result _ _ c.deliver_all-2.ensures.going (λ p. p ∙ c.in_ok-deliver_all.ensures.going)

pub returns-clause-stopped : goal.returns-clause-stopped
returns-clause-stopped g c = map_err c.deliver_all-2.result _ _ c.deliver_all-2.ensures.stopped (λ p.
    let old = c.args.self.now in
    let mid = c.deliver_all.new.self in
    stopped_after g.N.Name.from old mid c.deliver_all-2.new.self
    (goes_by (play_queue g.N.Name.script 1) played (past old.journal) (past mid.journal) c.in_ok-deliver_all.ensures.played) c.in_ok-deliver_all.ensures.going p)
