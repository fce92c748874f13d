use Rattle.hib_law.proofs.Joined.{seen_safe}
use Rattle.hib_law.proofs.seen_rows_are_safe.Goals as goal

pub returns : goal.returns
returns c = record { safe = seen_safe }
