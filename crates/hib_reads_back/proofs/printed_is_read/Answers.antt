use Rattle.hib_reads_back.proofs.Whole.{printed_back}
use Rattle.hib_reads_back.proofs.printed_is_read.Goals as goal

pub returns : goal.returns
returns c = printed_back
