use Rattle.std.proofs.Common.{◌<◌, ◌++◌, ◌∷◌, [], sym, ap, ◌∙◌, subst}
use Rattle.hib_engines.specs.Registry.{Each, without}
use Rattle.hib_engines.proofs.Indexed.{fresh, again}
use Rattle.hib_engines.proofs.registry.Registry.open_at.Goals as goal

pub invariant_of-self-in-Some : goal.invariant_of-self-in-Some
invariant_of-self-in-Some c = (again c.self.inside.begun.entries c.self.inside.times.entries c.reserve.new.self.entries c.insert.new.self.entries c.remove.new.self.entries c.insert-2.new.self.entries
    c.args.session c.args.now c.now.inside.0 c.in-Some.before c.before-in-Some.inside.0 c.self.invariant c.in_ok-reserve.ensures.entries (sym c.in_ok-before.ensures.old ∙ c.in-Some.is) c.now.view_is c.before-in-Some.view_is
    (subst (Each (λ t. t < c.args.now)) (sym c.self.view_is) c.requires) c.in_ok-insert.ensures.entries c.remove.ensures.entries c.in_ok-before.ensures.updates.0).1

pub invariant_of-self-in_default : goal.invariant_of-self-in_default
invariant_of-self-in_default c = (fresh c.self.inside.begun.entries c.self.inside.times.entries c.reserve.new.self.entries c.insert.new.self.entries c.insert-2.new.self.entries
    c.args.session c.args.now c.now.inside.0 c.self.invariant c.in_ok-reserve.ensures.entries (sym c.in_ok-before.ensures.old ∙ c.in_default.is) c.now.view_is
    (subst (Each (λ t. t < c.args.now)) (sym c.self.view_is) c.requires) c.in_ok-insert.ensures.entries c.in_ok-before.ensures.updates.0).1

pub returns-in-Some-clause-ok : goal.returns-in-Some-clause-ok
returns-in-Some-clause-ok c = (again c.self.inside.begun.entries c.self.inside.times.entries c.reserve.new.self.entries c.insert.new.self.entries c.remove.new.self.entries c.insert-2.new.self.entries
    c.args.session c.args.now c.now.inside.0 c.in-Some.before c.before-in-Some.inside.0 c.self.invariant c.in_ok-reserve.ensures.entries (sym c.in_ok-before.ensures.old ∙ c.in-Some.is) c.now.view_is c.before-in-Some.view_is
    (subst (Each (λ t. t < c.args.now)) (sym c.self.view_is) c.requires) c.in_ok-insert.ensures.entries c.remove.ensures.entries c.in_ok-before.ensures.updates.0).0
    ∙ ap (λ ps. without c.args.session ps ++ (c.args.session, c.args.now) ∷ []) c.self.view_is

pub returns-in_default-clause-ok : goal.returns-in_default-clause-ok
returns-in_default-clause-ok c = (fresh c.self.inside.begun.entries c.self.inside.times.entries c.reserve.new.self.entries c.insert.new.self.entries c.insert-2.new.self.entries
    c.args.session c.args.now c.now.inside.0 c.self.invariant c.in_ok-reserve.ensures.entries (sym c.in_ok-before.ensures.old ∙ c.in_default.is) c.now.view_is
    (subst (Each (λ t. t < c.args.now)) (sym c.self.view_is) c.requires) c.in_ok-insert.ensures.entries c.in_ok-before.ensures.updates.0).0
    ∙ ap (λ ps. without c.args.session ps ++ (c.args.session, c.args.now) ∷ []) c.self.view_is
