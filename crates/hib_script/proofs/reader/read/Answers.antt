use Rattle.hib_script.proofs.Whole.{valid_if}
use Rattle.hib_script.proofs.reader.read.Goals as goal

pub returns-clause-valid : goal.returns-clause-valid
returns-clause-valid c = valid_if c.args.text.now c.script_of_text.result c.script_of_text.ensures.script
