-- What is said of a line of a trace.
use Rattle.std.specs.Prelude.{◌≡◌, ℕ, List, Option, Some, None}
use Rattle.hib_trace_lines.specs.declared.events.Operation.{Operation}
use Rattle.hib_trace_findings.specs.declared.kinds.Judgement.{Judgement}
use Rattle.hib_trace_calls.specs.declared.calls.Call.{Call}
use Rattle.hib_trace_calls.specs.declared.calls.Write.{Write}
use Rattle.hib_trace_filed.specs.declared.limits.Limits.{Limits}
use Rattle.hib_trace_filed.specs.Keys.{earlier, table_commits}
use Rattle.hib_trace_lists.specs.Lists.{IsListJudged}
use Rattle.hib_trace_judge.specs.Hits.{IsKeyJudged}
use Rattle.hib_trace_judge.specs.Updates.{IsWriteJudged}

abbrev pub IsListLineJudged : Limits → List Call → List Write → Option ℕ → Call → Option Judgement → Type 0
IsListLineJudged m cs ws None c None = Unit {0}
IsListLineJudged m cs ws None c (Some j) = ⊥
IsListLineJudged m cs ws (Some k) c None = ⊥
IsListLineJudged m cs ws (Some k) c (Some j) = IsListJudged m.clock (table_commits m ws) cs k c.row (earlier c.begin m.allow) c.end j

-- nothing, unless the cache answered a row or a list, or a row was written
abbrev pub IsOperationJudged : Operation → Limits → ℕ → List Call → List Write → Call → Option Judgement → Type 0
IsOperationJudged Operation.Hit m none cs ws c j = IsKeyJudged m none ws c.key c j
IsOperationJudged Operation.ListHit m none cs ws c j = IsListLineJudged m cs ws c.key c j
IsOperationJudged Operation.Write m none cs ws c j = IsWriteJudged m cs ws c j
IsOperationJudged _ m none cs ws c j = j ≡ None

abbrev pub IsCallJudged : Limits → ℕ → List Call → List Write → Call → Option Judgement → Type 0
IsCallJudged m none cs ws c j = IsOperationJudged c.operation m none cs ws c j
