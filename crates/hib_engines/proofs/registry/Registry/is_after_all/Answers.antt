use Rattle.std.proofs.Common.{◌↔◌, ◌<◌, IsTrue, nat_lt, subst}
use Rattle.hib_engines.specs.Registry.{Each}
use Rattle.hib_engines.proofs.Indexed.{last_decides}
use Rattle.hib_engines.proofs.registry.Registry.is_after_all.Goals as goal

pub returns-in-Some : goal.returns-in-Some
returns-in-Some c = subst (λ n. IsTrue (nat_lt c.in-Some.newest.now c.now.inside.0) ↔ Each (λ t. t < n) c.args.self.now) c.now.view_is
    (subst (λ ps. IsTrue (nat_lt c.in-Some.newest.now c.now.inside.0) ↔ Each (λ t. t < c.now.inside.0) ps) c.self.view_is
    (last_decides c.self.inside.begun.entries c.now.inside.0 _ c.in-Some.newest.now _ c.in-Some.ensures.last c.in-Some.ensures.all_up_to))
