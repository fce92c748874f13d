use Rattle.std.proofs.Common.{◌≡◌, ℕ, ◌==◌, ◌-◌, ◌^◌, length, false}
use Rattle.hib_playing.specs.Playing.{Leads, play_all}
use Rattle.hib_collections_law.specs.Gathered.{is_by}
use Rattle.hib_collections.specs.Kept.{past}
use Rattle.hib_collections.specs.Played.{has_next}
use Rattle.hib_collections.proofs.gather.Gather.run_session.Given as goal

abbrev pub invariant-steps : goal.invariant-steps
invariant-steps g l = record {
  played : Leads (play_all (has_next g.N.Name.script g.N.Name.defs) is_by l.number) (play_all (has_next g.N.Name.script g.N.Name.defs) is_by l.number) (past l.fn.self.journal) (past l.self.journal);
  stay : (s : ℕ) → (l.number == s) ≡ false → has_next g.N.Name.script g.N.Name.defs (past l.self.journal) s ≡ has_next g.N.Name.script g.N.Name.defs (past l.fn.self.journal) s;
  going : l.self.refused ≡ l.fn.self.refused;
}

-- a journal has room for so many entries
abbrev pub decreases-steps : goal.decreases-steps
decreases-steps g l = 2 ^ 62 - length (past l.self.journal)
