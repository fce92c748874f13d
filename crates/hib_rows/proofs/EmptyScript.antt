-- A script without entities and sessions: the journal without entries is legal, and it is the one that the script gives.
use Rattle.std.proofs.Common.{◌≡◌, [], Some, refl}
use Rattle.hib_journal.specs.Types.{Script}
use Rattle.hib_journal.specs.Legal.{IsLegal}
use Rattle.hib_rows.proofs.Run.{run}

abbrev pub empty_script : Script
empty_script = record { timeout = 1000; results = 100; mapping = []; rows = []; queries = []; sessions = []; schedule = [] }

empty_legal : IsLegal empty_script (Some empty_script.rows) []
empty_legal = tt

empty_computed : run empty_script empty_script.rows empty_script.schedule [] ≡ []
empty_computed = refl
