use Rattle.hib_law.proofs.Answered.{key_coherent}
use Rattle.hib_law.proofs.rows_cohere.Goals as goal

pub returns : goal.returns
returns c = record { rows = key_coherent }
