-- What is said of a write.
use Rattle.std.specs.Prelude.{◌≡◌, ℕ, Bool, true, false, List, Option, Some, None}
use Rattle.hib_trace_law.specs.declared.commits.Commit.{Commit}
use Rattle.hib_traces.specs.Verdicts.{is_contradicted}
use Rattle.hib_trace_findings.specs.Updates.{IsLost}
use Rattle.hib_trace_findings.specs.declared.kinds.Judgement.{Judgement}
use Rattle.hib_trace_calls.specs.Writes.{fate_of, row_write_if}
use Rattle.hib_trace_calls.specs.declared.calls.Call.{Call}
use Rattle.hib_trace_calls.specs.declared.calls.Write.{Write}
use Rattle.hib_trace_filed.specs.Keys.{commit_of, commits_of}
use Rattle.hib_trace_filed.specs.declared.limits.Limits.{Limits}

-- by when the row that a commit rests on had been replaced, if that is told
abbrev pub IsLostIf : List Commit → Commit → Option ℕ → Option ℕ → Type 0
IsLostIf cs c None o = o ≡ None
IsLostIf cs c (Some row) o = IsLost cs c row o

-- its update was lost; or the order says that a commit came after it which had ended before
abbrev pub update_told : Option ℕ → Bool → Option Judgement
update_told (Some t) b = Some Judgement.LostUpdate
update_told None true = Some Judgement.Contradicted
update_told None false = None

-- of a write that came to this commit, if it was made or may have been
abbrev pub IsUpdateJudged : List Commit → Option Commit → Option ℕ → Option Judgement → Type 0
IsUpdateJudged cs None base j = j ≡ None
IsUpdateJudged cs (Some c) base j = (o : Option ℕ) × IsLostIf cs c base o × (j ≡ update_told o (is_contradicted cs c.version c.begin))

-- of a write, if these are the writes of the trace
abbrev pub IsWriteToldAs : Limits → List Write → Option Write → Option ℕ → Option Judgement → Type 0
IsWriteToldAs m ws None base j = j ≡ None
IsWriteToldAs m ws (Some w) base j = IsUpdateJudged (commits_of m ws w.key) (commit_of m w) base j

-- of a line that tells a write, if these are the lines of the trace
abbrev pub IsWriteJudged : Limits → List Call → List Write → Call → Option Judgement → Type 0
IsWriteJudged m cs ws c j = IsWriteToldAs m ws (row_write_if (fate_of cs c.transaction) c c.key c.table) c.base j
