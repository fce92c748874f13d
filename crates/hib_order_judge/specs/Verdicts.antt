-- What is judged of a journal.
use Rattle.std.specs.Prelude.{not, List, []}
use Rattle.hib_base.specs.Tables.{Tables}
use Rattle.hib_journal.specs.Types.{Script, Entry}
use Rattle.hib_journal.specs.Sessions.{Journal, is_empty}
use Rattle.hib_order_law.specs.Judged.{has_entry, is_stale_hit, is_old_list, is_lost_update, is_refused_commit}
use Rattle.hib_order_law.specs.Orders.{onto}
use Rattle.hib_order_law.specs.declared.verdicts.Verdicts.{Verdicts}
use Rattle.hib_report.specs.Unsound.{unsound}

-- whether an entry of a journal has each, and whether one of the journal's keys is unsound
abbrev pub verdicts : Script → Tables → Journal → Verdicts
verdicts script start h = record {
  stale_hit = has_entry (is_stale_hit start) h;
  old_list = has_entry (is_old_list script start) h;
  lost_update = has_entry (is_lost_update start) h;
  refused_commit = has_entry (λ _. is_refused_commit) h;
  unsound_key = not (is_empty (unsound script h));
}

-- so of entries, the oldest first
abbrev pub verdicts_of : Script → Tables → List Entry → Verdicts
verdicts_of script start es = verdicts script start (onto es [])
