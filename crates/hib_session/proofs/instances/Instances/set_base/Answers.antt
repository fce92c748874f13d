use Rattle.std.proofs.Common.{rules, ◌≡◌, true, false, sym, ◌∙◌}
use Rattle.std.proofs.lemmas.Bool.{true≢false}
use Rattle.hib_identity_map.specs.Identity.{look_in, change_in, written}
use Rattle.hib_completion.specs.Completed.{is_key_in}
use Rattle.hib_session.specs.Instances.{is_pending}
use Rattle.hib_session.proofs.Covered.{covers_changed, gone_before, kept_all, left, written_stays}
use Rattle.hib_session.proofs.instances.Instances.set_base.Goals as goal

pub invariant_of-self-else-is_dirty_at : goal.invariant_of-self-else-is_dirty_at
invariant_of-self-else-is_dirty_at c = λ s.
    let ks = c.self.inside.touched.keys in
    let k = c.args.key.now in
    let m = c.self.inside.map in
    let f = written c.args.base in
    let clean : is_pending (look_in c.set_base.new.self.held k) ≡ false = search rules in
    let now : is_pending (look_in (change_in k f m.held) k) ≡ false = rw c.set_base.ensures at clean in
    rw (c.set_base.ensures, c.give_back.ensures) (covers_changed ks c.swap_remove.new.self.keys m.removals m.removals m.held k f (c.self.invariant s)
    (left k ks c.swap_remove.new.self.keys c.swap_remove.ensures.updates.2) (kept_all k m.removals) (λ e. absurd (true≢false (sym e ∙ now)))
    (λ e. (c.self.invariant s).gone k (gone_before m.held k f (written_stays c.args.base) e)))

pub invariant_of-self-else-not-is_among : goal.invariant_of-self-else-not-is_among
invariant_of-self-else-not-is_among c = λ s.
    let ks = c.self.inside.touched.keys in
    let k = c.args.key.now in
    let m = c.self.inside.map in
    let f = written c.args.base in
    let there : is_key_in k ks ≡ true = search rules in
    rw c.set_base.ensures (covers_changed ks ks m.removals m.removals m.held k f (c.self.invariant s) (kept_all k ks) (kept_all k m.removals) (λ e. there)
    (λ e. (c.self.invariant s).gone k (gone_before m.held k f (written_stays c.args.base) e)))
