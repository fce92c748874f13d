use Rattle.hib_json_lines.proofs.AsWritten.{ends_so}
use Rattle.hib_json_lines.proofs.straight.before.Goals as goal

pub returns : goal.returns
returns c = ends_so c.args.bytes.now c.args.end.now c.strip_suffix.result c.strip_suffix.ensures.cases
