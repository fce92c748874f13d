use Rattle.std.proofs.Common.{◌≡◌, ℕ, ◌-◌, ◌<◌, false}
use Rattle.std.specs.List.{range_with_len}
use Rattle.hib_playing.specs.Playing.{Leads, play_all, play_each}
use Rattle.hib_bulk.specs.Kept.{past}
use Rattle.hib_bulk.specs.Played.{has_next, is_by, number_count, play_numbers}
use Rattle.hib_bulk.proofs.factory.BulkFactory.finish.Given as goal

-- those so far are at their end
abbrev pub invariant-loop-number : goal.invariant-loop-number
invariant-loop-number g l = record {
  played : Leads (play_numbers g.N.Name.script g.N.Name.lines)
      (play_each (play_all (has_next g.N.Name.script g.N.Name.lines) is_by) (range_with_len l.number (number_count g.N.Name.script g.N.Name.lines - l.number))) (past l.fn.self.journal) (past l.self.journal);
  over : (s : ℕ) → s < l.number → has_next g.N.Name.script g.N.Name.lines (past l.self.journal) s ≡ false;
}
