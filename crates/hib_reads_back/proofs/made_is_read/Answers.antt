use Rattle.hib_make.specs.Made.{made}
use Rattle.hib_reads_back.proofs.MadeReads.{made_readable}
use Rattle.hib_reads_back.proofs.Whole.{printed_back}
use Rattle.hib_reads_back.proofs.made_is_read.Goals as goal

pub returns : goal.returns
returns c = record { readable = made_readable; read = λ seed. printed_back (made seed) (made_readable seed) }
