use Rattle.hib_formed.proofs.Rows.{start_fits}
use Rattle.hib_formed.proofs.starts_fit.Goals as goal

pub returns : goal.returns
returns c = record { start = start_fits }
