use Rattle.std.proofs.Common.{◌≡◌, ℕ, take, vec_len}
use Rattle.std.specs.Prelude.{List}
use Rattle.hib_trace_law.specs.declared.commits.Commit.{Commit}
use Rattle.hib_trace_lists.specs.Loads.{TellChanges, TellLoads}
use Rattle.hib_trace_lists.proofs.loads.loads_in.Given as goal

abbrev pub invariant-loop-call : goal.invariant-loop-call
invariant-loop-call l = record {
  count : vec_len l.files ≡ l.keys;
  tell : (of : ℕ → List Commit) → TellChanges of l.tables → TellLoads l.clock of (take l.call-index l.calls) l.files.items;
}
