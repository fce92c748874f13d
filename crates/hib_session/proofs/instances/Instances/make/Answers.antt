use Rattle.hib_base.specs.Keys.{same_key}
use Rattle.indexmap.specs.IndexSet.{insert_key}
use Rattle.hib_session.proofs.Covered.{covers_arrived, covers_touched, grown, is_there}
use Rattle.hib_session.proofs.instances.Instances.make.Goals as goal

pub invariant_of-self-in_err-arrive : goal.invariant_of-self-in_err-arrive
invariant_of-self-in_err-arrive c = λ s.
    let ks = c.self.inside.touched.keys in
    let k = c.args.key.now in
    let m = c.self.inside.map in
    rw (c.in_err-arrive.ensures.err, c.in_ok-insert.ensures.keys) (covers_touched ks (insert_key same_key ks k) m.removals m.held (c.self.invariant s) (grown k ks))

pub invariant_of-self-2 : goal.invariant_of-self-2
invariant_of-self-2 c = λ s.
    let ks = c.self.inside.touched.keys in
    let k = c.args.key.now in
    let m = c.self.inside.map in
    rw (c.in_ok-arrive.ensures.ok, c.in_ok-insert.ensures.keys)
    (covers_arrived ks (insert_key same_key ks k) m.removals m.held k c.args.held (c.self.invariant s) (λ q d e. grown k ks q e) (λ e. is_there k ks) c.requires)
