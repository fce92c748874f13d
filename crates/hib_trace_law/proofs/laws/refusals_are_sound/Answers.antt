use Rattle.hib_trace_law.proofs.Explained.{sound}
use Rattle.hib_trace_law.proofs.laws.refusals_are_sound.Goals as goal

pub returns : goal.returns
returns c = record { sound = sound }
