use Rattle.std.proofs.Common.{◌==◌, take}
use Rattle.std.specs.List.{list_any}
use Rattle.hib_session.specs.Killed.{AreKilled}
use Rattle.hib_session.proofs.killing.kill_all.Given as goal

-- those of the numbers so far are killed
abbrev pub invariant-loop-number : goal.invariant-loop-number
invariant-loop-number l = AreKilled (λ s. list_any (λ n. n == s) (take l.number-index l.numbers)) l.fn.sessions.items l.sessions.items
