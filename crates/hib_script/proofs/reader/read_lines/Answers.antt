use Rattle.hib_script.proofs.Whole.{read_valid}
use Rattle.hib_script.proofs.reader.read_lines.Goals as goal

pub returns-clause-valid : goal.returns-clause-valid
returns-clause-valid c = λ before text e. read_valid before text c.args.lines.now c.script_said.result e c.script_said.ensures.script
