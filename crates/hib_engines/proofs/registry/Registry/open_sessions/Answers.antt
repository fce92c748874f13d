use Rattle.std.proofs.Common.{◌==◌, nat_eq, sym, ap, ◌∙◌, subst}
use Rattle.std.specs.List.{list_any, IsDistinct}
use Rattle.hib_engines.specs.Registry.{holds}
use Rattle.hib_engines.proofs.Indexed.{is_held, keys_held}
use Rattle.hib_engines.proofs.registry.Registry.open_sessions.Goals as goal

pub returns-clause-which : goal.returns-clause-which
returns-clause-which c = λ s. ap (list_any (λ n. n == s)) (c.as_slice.ensures ∙ c.keys.ensures.rest)
    ∙ (keys_held c.self.inside.times.entries s ∙ (is_held c.self.inside.begun.entries c.self.inside.times.entries s c.self.invariant ∙ ap (holds s) c.self.view_is))

pub returns-clause-once : goal.returns-clause-once
returns-clause-once c = subst (IsDistinct nat_eq) (sym (c.as_slice.ensures ∙ c.keys.ensures.rest)) c.keys.ensures.unique
