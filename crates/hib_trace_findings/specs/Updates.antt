-- What is said of a commit that rests on a row.
use Rattle.std.specs.Prelude.{◌≡◌, ℕ, List, Option, Some, None}
use Rattle.hib_trace_law.specs.declared.commits.Commit.{Commit}
use Rattle.hib_trace_law.specs.declared.commits.Answer.{Answer}
use Rattle.hib_traces.specs.Verdicts.{IsVerdict}
use Rattle.hib_traces.specs.declared.kinds.Verdict.{Verdict}

-- if its update isn't lost, the row that a commit rests on is the committed one at an instant of its call
abbrev pub rests_in : Commit → ℕ → ℕ → Answer
rests_in c row e = record { row = row; since = c.begin; end = e }

abbrev pub replaced_by : Verdict → Option ℕ
replaced_by (Verdict.Old t) = Some t
replaced_by _ = None

-- by when the row had been replaced for certain, if the call ended then, or never
abbrev pub IsLostUntil : List Commit → Commit → ℕ → Option ℕ → Option ℕ → Type 0
IsLostUntil cs c row None o = o ≡ None
IsLostUntil cs c row (Some e) o = (v : Verdict) × IsVerdict cs (rests_in c row e) cs v × (o ≡ replaced_by v)

abbrev pub IsLost : List Commit → Commit → ℕ → Option ℕ → Type 0
IsLost cs c row o = IsLostUntil cs c row c.end o
