use Rattle.std.proofs.Common.{position, bytes_eq, ap, ◌∙◌}
use Rattle.hib_statements.proofs.named.NamedSessions.place.Goals as goal

pub returns : goal.returns
returns c = c.copied.ensures ∙ (c.get.ensures.value ∙ (c.self.invariant c.args.name.now ∙ ap (position (λ s. bytes_eq s.name c.args.name.now)) c.self.view_is))
