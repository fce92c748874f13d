use Rattle.std.proofs.Common.{◌≡◌, ◌∷◌}
use Rattle.hib_journal.specs.Types.{Act}
use Rattle.hib_journal.specs.Next.{tables_in}
use Rattle.hib_session.specs.Memory.{writes_in}
use Rattle.hib_session.proofs.memory.Memory.flush_acts.Given as goal

abbrev pub invariant-loop-change : goal.invariant-loop-change
invariant-loop-change l = l.acts ≡ Act.Pre (tables_in l.script l.fn.changes) ∷ writes_in l.script l.self l.yielded
