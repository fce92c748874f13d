-- The writes by which a trace is judged.
use Rattle.std.specs.Prelude.{ℕ, List, ◌++◌}
use Rattle.hib_trace_calls.specs.Writes.{writes_of}
use Rattle.hib_trace_calls.specs.declared.calls.Call.{Call}
use Rattle.hib_trace_calls.specs.declared.calls.Write.{Write}
use Rattle.hib_trace_before.specs.Before.{before_of}

-- those that the trace tells, and the rows that its keys, which are so many, had before them
abbrev pub told_writes : ℕ → ℕ → List Call → List Write
told_writes clock keys cs = writes_of cs ++ before_of clock cs (writes_of cs) keys
