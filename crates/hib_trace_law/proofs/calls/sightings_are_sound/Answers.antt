use Rattle.hib_trace_law.proofs.Placed.{sound}
use Rattle.hib_trace_law.proofs.calls.sightings_are_sound.Goals as goal

pub returns : goal.returns
returns c = record { sound = sound }
