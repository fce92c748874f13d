use Rattle.hib_base.specs.Keys.{same_key}
use Rattle.indexmap.specs.IndexSet.{insert_key}
use Rattle.hib_identity_map.specs.Identity.{with_sets}
use Rattle.hib_session.proofs.Covered.{covers_changed, covers_touched, gone_before, grown, is_there, kept_all}
use Rattle.hib_session.proofs.instances.Instances.set_cells.Goals as goal

pub invariant_of-self-in_err-set_cells : goal.invariant_of-self-in_err-set_cells
invariant_of-self-in_err-set_cells c = λ s.
    let ks = c.self.inside.touched.keys in
    let k = c.args.key.now in
    let m = c.self.inside.map in
    rw (c.in_err-set_cells.ensures.err, c.in_ok-insert.ensures.keys) (covers_touched ks (insert_key same_key ks k) m.removals m.held (c.self.invariant s) (grown k ks))

pub invariant_of-self-2 : goal.invariant_of-self-2
invariant_of-self-2 c = λ s.
    let ks = c.self.inside.touched.keys in
    let k = c.args.key.now in
    let m = c.self.inside.map in
    rw (c.in_ok-set_cells.ensures.ok, c.in_ok-insert.ensures.keys)
    (covers_changed ks (insert_key same_key ks k) m.removals m.removals m.held k (with_sets c.args.sets) (c.self.invariant s) (λ q d e. grown k ks q e) (kept_all k m.removals) (λ e. is_there k ks)
    (λ e. (c.self.invariant s).gone k (gone_before m.held k (with_sets c.args.sets) (λ h x. x) e)))
