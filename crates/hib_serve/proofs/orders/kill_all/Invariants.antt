use Rattle.std.proofs.Common.{◌≡◌, ◌<◌, ℕ, false}
use Rattle.hib_journal.specs.Kept.{past}
use Rattle.hib_journal.specs.Sessions.{is_open}
use Rattle.hib_serve.specs.Sessions.{HasOnlyKilled}
use Rattle.hib_serve.proofs.orders.kill_all.Given as goal

abbrev pub invariant-loop-place : goal.invariant-loop-place
invariant-loop-place g l = record {
  killed : HasOnlyKilled l.fn.core l.core;
  closed : (n : ℕ) → n < l.place → is_open n (past l.core.journal) ≡ false;
}
