use Rattle.std.proofs.Common.{ap, ◌∙◌}
use Rattle.hib_identity_map.specs.Identity.{faced}
use Rattle.hib_identity_map.proofs.Faced.{drop_faced}
use Rattle.hib_identity_map.proofs.identity.remove_key.Goals as goal

pub returns : goal.returns
returns c =
    ap (faced c.args.turned) c.shift_remove.ensures.entries
    ∙ drop_faced c.args.turned c.args.key c.args.entries.now.entries c.len-distinct.ensures.unique
