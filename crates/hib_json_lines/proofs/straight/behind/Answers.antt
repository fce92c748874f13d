use Rattle.hib_json_lines.proofs.AsWritten.{goes_on}
use Rattle.hib_json_lines.proofs.straight.behind.Goals as goal

pub returns : goal.returns
returns c = goes_on c.args.bytes.now c.args.front.now c.strip_prefix.result c.strip_prefix.ensures.cases
