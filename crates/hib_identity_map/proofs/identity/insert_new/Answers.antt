use Rattle.std.proofs.Common.{◌∙◌}
use Rattle.hib_identity_map.proofs.Entries.{add_same}
use Rattle.hib_identity_map.proofs.identity.insert_new.Goals as goal

pub returns-clause-ok : goal.returns-clause-ok
returns-clause-ok c = c.in_ok-insert.ensures.entries ∙ add_same c.args.key c.args.held c.args.entries.now.entries c.requires
