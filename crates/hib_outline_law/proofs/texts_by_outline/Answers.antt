use Rattle.hib_outline_law.proofs.Whole.{same_report, same_summary, same_lines}
use Rattle.hib_outline_law.proofs.texts_by_outline.Goals as goal

pub returns : goal.returns
returns c = record { report = same_report; summary = same_summary; lines = same_lines }
