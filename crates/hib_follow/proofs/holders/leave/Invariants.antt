use Rattle.std.proofs.Common.{◌≡◌, ◌++◌, take, drop}
use Rattle.hib_journal.specs.Coherence.{remove}
use Rattle.hib_follow.proofs.holders.leave.Given as goal

abbrev pub invariant-loop-place : goal.invariant-loop-place
invariant-loop-place l = record {
  same : l.sessions.items ≡ l.fn.sessions.items;
  rest : remove l.session l.fn.sessions.items ≡ take l.place l.fn.sessions.items ++ remove l.session (drop l.place l.fn.sessions.items);
}
