use Rattle.std.proofs.Common.{◌≡◌, ℕ, ◌-◌, ◌<◌, length, false}
use Rattle.std.specs.List.{range_with_len}
use Rattle.hib_playing.specs.Playing.{Leads, play_all, play_each}
use Rattle.hib_collections_law.specs.Gathered.{is_by}
use Rattle.hib_collections.specs.Kept.{past}
use Rattle.hib_collections.specs.Played.{has_next, play_sessions}
use Rattle.hib_collections.proofs.gather.Gather.finish.Given as goal

-- the sessions so far are at their end, and whether memory ran out in a call is said as before
abbrev pub invariant-loop-number : goal.invariant-loop-number
invariant-loop-number g l = record {
  played : Leads (play_sessions g.N.Name.script g.N.Name.defs)
      (play_each (play_all (has_next g.N.Name.script g.N.Name.defs) is_by) (range_with_len l.number (length g.N.Name.script.sessions - l.number))) (past l.fn.self.journal) (past l.self.journal);
  over : (s : ℕ) → s < l.number → has_next g.N.Name.script g.N.Name.defs (past l.self.journal) s ≡ false;
  going : l.self.refused ≡ l.fn.self.refused;
}
