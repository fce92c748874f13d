use Rattle.hib_base.specs.Keys.{same_key}
use Rattle.indexmap.specs.IndexSet.{insert_key}
use Rattle.hib_identity_map.specs.Identity.{as_removed, remove_last}
use Rattle.hib_session.proofs.Covered.{covers_changed, covers_dropped, grown, is_there, removal_keeps, removal_there}
use Rattle.hib_session.proofs.instances.Instances.remove.Goals as goal

pub invariant_of-self-then-unwritten : goal.invariant_of-self-then-unwritten
invariant_of-self-then-unwritten c = λ s.
    let ks = c.self.inside.touched.keys in
    let k = c.args.key.now in
    let m = c.self.inside.map in
    rw (c.drop.ensures, c.in_ok-note_removal.ensures.ok, c.in_ok-insert.ensures.keys)
    (covers_dropped ks (insert_key same_key ks k) m.removals (remove_last k m.removals) m.held k (c.self.invariant s) (λ q d e. grown k ks q e) (removal_keeps k m.removals))

pub invariant_of-self-else-unwritten : goal.invariant_of-self-else-unwritten
invariant_of-self-else-unwritten c = λ s.
    let ks = c.self.inside.touched.keys in
    let k = c.args.key.now in
    let m = c.self.inside.map in
    rw (c.mark.ensures, c.in_ok-note_removal.ensures.ok, c.in_ok-insert.ensures.keys)
    (covers_changed ks (insert_key same_key ks k) m.removals (remove_last k m.removals) m.held k as_removed (c.self.invariant s) (λ q d e. grown k ks q e) (removal_keeps k m.removals)
    (λ e. is_there k ks) (λ e. removal_there k m.removals))
