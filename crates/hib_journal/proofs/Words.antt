-- Parts of definitions that proofs name.
use Rattle.std.specs.Prelude.{Bool}
use Rattle.std.specs.List.{list_any}
use Rattle.hib_journal.specs.Types.{Key, Entry}
use Rattle.hib_journal.specs.Sessions.{Journal}
use Rattle.hib_journal.specs.Held.{arrival, row_written, gives_row, removes}

-- an entry gives the base of k
abbrev pub gives_base : Key → Entry → Bool
gives_base k e = gives_row k (arrival e.act e.reply) (row_written k e.act)

-- k was removed
abbrev pub is_removed : Key → Journal → Bool
is_removed k m = list_any (λ e. removes k e.act e.reply) m
