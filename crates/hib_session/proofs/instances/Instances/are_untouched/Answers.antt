use Rattle.std.proofs.Common.{rules, ◌≡◌, true, length, ap, sym, ◌∙◌}
use Rattle.hib_flush.specs.Planned.{planned}
use Rattle.hib_session.proofs.Covered.{none_planned}
use Rattle.hib_session.proofs.instances.Instances.are_untouched.Goals as goal

pub returns-then-self : goal.returns-then-self
returns-then-self c = λ e.
    let s : c.self.inside.sure ≡ true = search rules in
    let n : length c.self.inside.touched.keys ≡ 0 = search rules in
    ap planned (sym c.self.view_is) ∙ none_planned c.self.inside.map c.self.inside.touched.keys n (c.self.invariant s)
