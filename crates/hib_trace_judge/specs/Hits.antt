-- What is said of an answer of the cache.
use Rattle.std.specs.Prelude.{◌≡◌, ℕ, Bool, true, List, Option, Some, None}
use Rattle.hib_trace_law.specs.declared.commits.Answer.{Answer}
use Rattle.hib_trace_law.specs.declared.commits.Commit.{Commit}
use Rattle.hib_trace_findings.specs.Judged.{IsJudged}
use Rattle.hib_trace_findings.specs.declared.kinds.Judgement.{Judgement}
use Rattle.hib_trace_calls.specs.declared.calls.Call.{Call}
use Rattle.hib_trace_calls.specs.declared.calls.Write.{Write}
use Rattle.hib_trace_filed.specs.Keys.{earlier, commits_of, undone_writes}
use Rattle.hib_trace_filed.specs.Own.{own_written}
use Rattle.hib_trace_filed.specs.declared.limits.Limits.{Limits}

abbrev pub answer_of : Limits → Call → Answer
answer_of m c = record { row = c.row; since = earlier c.begin m.allow; end = c.end }

-- a transaction may see what it wrote itself before it commits
abbrev pub told_as : Bool → Judgement → Judgement
told_as true Judgement.Dirty = Judgement.Possible
told_as true Judgement.RolledBack = Judgement.Possible
told_as own j = j

-- what is told of an answer, if these are the commits of its key, these its writes that were rolled back, and its own
-- transaction wrote its row or not
pub record IsHitFound (none : ℕ) (cs us : List Commit) (own : Bool) (a : Answer) (j : Judgement) : Type 0 where
  pub found : Judgement
  pub judged : IsJudged none cs us a found
  pub told : j ≡ told_as own found

-- what is told of an answer about a key, if these are the writes of the trace
abbrev pub IsHitJudged : Limits → ℕ → List Write → ℕ → Call → Judgement → Type 0
IsHitJudged m none ws k c j =
    IsHitFound none (commits_of m ws k) (undone_writes m ws k) (own_written ws c.transaction k c.row) (answer_of m c) j

abbrev pub IsKeyJudged : Limits → ℕ → List Write → Option ℕ → Call → Option Judgement → Type 0
IsKeyJudged m none ws None c None = Unit {0}
IsKeyJudged m none ws None c (Some j) = ⊥
IsKeyJudged m none ws (Some k) c None = ⊥
IsKeyJudged m none ws (Some k) c (Some j) = IsHitJudged m none ws k c j
