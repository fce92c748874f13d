use Rattle.std.proofs.Common.{◌∙◌, ap}
use Rattle.std.specs.Set.{remove_key}
use Rattle.hib_base.specs.Keys.{same_key}
use Rattle.hib_identity_map.proofs.Removals.{moved_last}
use Rattle.hib_identity_map.proofs.identity.move_last.Goals as goal

pub returns-clause-ok : goal.returns-clause-ok
returns-clause-ok c =
    c.in_ok-insert.ensures.keys
    ∙ moved_last c.args.key c.args.keys.now.keys c.shift_remove.new.self.keys (c.shift_remove.ensures.keys ∙ ap (remove_key (same_key c.args.key)) c.in_ok-reserve.ensures.keys) c.shift_remove.ensures.updates.1
