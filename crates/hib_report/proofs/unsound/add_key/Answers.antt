use Rattle.std.proofs.Common.{◌∙◌}
use Rattle.hib_report.proofs.Keys.{inserts}
use Rattle.hib_report.proofs.unsound.add_key.Goals as goal

pub returns : goal.returns
returns c = c.in_ok-insert.ensures.keys ∙ inserts c.args.key c.args.keys.now.keys
