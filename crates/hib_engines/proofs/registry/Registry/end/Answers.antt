use Rattle.std.proofs.Common.{sym, ap, ◌∙◌}
use Rattle.hib_engines.specs.Registry.{by_session, without}
use Rattle.hib_engines.proofs.Indexed.{left, stays_out}
use Rattle.hib_engines.proofs.RegistryServed.{end_stands}
use Rattle.hib_engines.proofs.registry.Registry.end.Goals as goal

pub invariant_of-self : goal.invariant_of-self
invariant_of-self c = (left c.self.inside.begun.entries c.self.inside.times.entries c.remove.new.self.entries c.swap_remove.new.self.entries c.args.session c.in-Some.time c.time.inside.0
    c.self.invariant (sym c.swap_remove.ensures.value ∙ c.in-Some.is) c.time.view_is c.remove.ensures.entries c.swap_remove.ensures.updates.0).1

pub returns-in-Some-clause-gone : goal.returns-in-Some-clause-gone
returns-in-Some-clause-gone c = (left c.self.inside.begun.entries c.self.inside.times.entries c.remove.new.self.entries c.swap_remove.new.self.entries c.args.session c.in-Some.time c.time.inside.0
    c.self.invariant (sym c.swap_remove.ensures.value ∙ c.in-Some.is) c.time.view_is c.remove.ensures.entries c.swap_remove.ensures.updates.0).0
    ∙ ap (without c.args.session) c.self.view_is

pub returns-in-Some-clause-stands : goal.returns-in-Some-clause-stands
returns-in-Some-clause-stands c = λ l now r k late. end_stands l c.args.session now r c.args.self.now (by_session c.remove.new.self.entries) k late (returns-in-Some-clause-gone c)

pub returns-in_default-clause-gone : goal.returns-in_default-clause-gone
returns-in_default-clause-gone c = sym (stays_out c.self.inside.begun.entries c.self.inside.times.entries c.args.session c.self.invariant (sym c.swap_remove.ensures.value ∙ c.in_default.is))
    ∙ ap (without c.args.session) c.self.view_is

pub returns-in_default-clause-stands : goal.returns-in_default-clause-stands
returns-in_default-clause-stands c = λ l now r k late. end_stands l c.args.session now r c.args.self.now (by_session c.self.inside.begun.entries) k late (returns-in_default-clause-gone c)
