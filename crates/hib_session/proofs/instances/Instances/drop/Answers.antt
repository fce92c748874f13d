use Rattle.hib_session.proofs.Covered.{covers_dropped, kept_all, left}
use Rattle.hib_session.proofs.instances.Instances.drop.Goals as goal

pub invariant_of-self : goal.invariant_of-self
invariant_of-self c = λ s.
    let k = c.args.key.now in
    let m = c.self.inside.map in
    rw c.drop.ensures (covers_dropped c.self.inside.touched.keys c.swap_remove.new.self.keys m.removals m.removals m.held k (c.self.invariant s)
    (left k c.self.inside.touched.keys c.swap_remove.new.self.keys c.swap_remove.ensures.updates.2) (kept_all k m.removals))
