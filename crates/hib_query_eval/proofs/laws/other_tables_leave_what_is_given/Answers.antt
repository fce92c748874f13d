use Rattle.hib_journal.proofs.Untouched.{gives_after}
use Rattle.hib_query_eval.proofs.laws.other_tables_leave_what_is_given.Goals as goal

pub returns : goal.returns
returns c q changes t untouched = gives_after q changes t untouched
