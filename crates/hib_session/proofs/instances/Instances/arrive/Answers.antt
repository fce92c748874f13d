use Rattle.std.proofs.Common.{sym, ◌∙◌}
use Rattle.std.proofs.lemmas.Bool.{true≢false}
use Rattle.hib_session.proofs.Covered.{covers_arrived, kept_all}
use Rattle.hib_session.proofs.instances.Instances.arrive.Goals as goal

pub invariant_of-self-2 : goal.invariant_of-self-2
invariant_of-self-2 c = λ s.
    let ks = c.self.inside.touched.keys in
    let m = c.self.inside.map in
    rw c.in_ok-arrive.ensures.ok (covers_arrived ks ks m.removals m.held c.args.key.now c.args.held (c.self.invariant s) (kept_all c.args.key.now ks)
    (λ e. absurd (true≢false (sym e ∙ c.requires.clean))) c.requires.there)
