use Rattle.std.proofs.Common.{Ok, ap, ◌∙◌}
use Rattle.hib_nodes.specs.Kept.{past}
use Rattle.hib_engines.proofs.Outcomes.{err_all}
use Rattle.hib_playing.proofs.Playing.{goes_by}
use Rattle.hib_nodes.specs.Played.{play_queue}
use Rattle.hib_nodes.proofs.Playing.{fence_stays, queue_more, queue_rests, stopped_after, stopped_at}
use Rattle.hib_nodes.proofs.nodes.Nodes.deliver_all.Goals as goal

pub pairs-preserved : goal.pairs-preserved
pairs-preserved g c =
    let script = g.N.Name.script in
    let n = c.args.node in
    let mid = past c.pairs.self.journal in
    let new = past c.deliver.new.self.journal in
    let did = c.deliver.ensures.delivered (c.in_ok-deliver.was ∙ ap (λ z. Ok z) c.if-not-branch.false) in
    record {
      played = queue_more script n mid new did (past c.args.self.now.journal) c.pairs.invariant.played;
      others = λ m q. queue_rests script n mid new did m q ∙ c.pairs.invariant.others m q;
      stay = λ s. fence_stays script n mid new did s ∙ c.pairs.invariant.stay s;
      going = c.in_ok-deliver.ensures.going ∙ c.pairs.invariant.going;
    }

pub returns-in_err-deliver-clause-stopped : goal.returns-in_err-deliver-clause-stopped
returns-in_err-deliver-clause-stopped g c =
    let old = c.args.self.now in
    let mid = c.pairs.self in
    let new = c.deliver.new.self in
    let failed = c.in_err-deliver.ensures in
    let all = play_queue g.N.Name.script c.args.node in
    err_all c.from_residual.result _ (stopped_after g.N.Name.from old mid new (goes_by all all (past old.journal) (past mid.journal) c.pairs.invariant.played) c.pairs.invariant.going
    (stopped_at g.N.Name.from mid new failed.same failed.asked failed.refused))
