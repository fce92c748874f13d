use Rattle.std.proofs.Common.{is_some, bytes_eq, ap, ◌∙◌}
use Rattle.hib_statements.proofs.SessionPlaces.{position_any}
use Rattle.hib_statements.proofs.named.NamedSessions.has.Goals as goal

pub returns : goal.returns
returns c = c.is_some.ensures ∙ (ap is_some c.place.ensures ∙ position_any (λ s. bytes_eq s.name c.args.name.now) c.args.self.now)
