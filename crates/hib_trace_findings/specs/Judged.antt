-- What is said of an answer, if these are the commits of its key and these its writes that were rolled back.
use Rattle.std.specs.Prelude.{◌≡◌, ℕ, Bool, true, false, not, Option, None, Some, List, nat_eq, if◌then◌else◌}
use Rattle.std.specs.List.{filter_map}
use Rattle.hib_trace_law.specs.declared.commits.Commit.{Commit}
use Rattle.hib_trace_law.specs.declared.commits.Answer.{Answer}
use Rattle.hib_trace_law.specs.Certain.{is_old}
use Rattle.hib_traces.specs.Verdicts.{IsVerdict, may_stand}
use Rattle.hib_traces.specs.declared.kinds.Verdict.{Verdict}
use Rattle.hib_trace_findings.specs.declared.kinds.Judgement.{Judgement}

-- the row from before the trace, as if it had been committed at the clock's 0, was replaced before an instant for certain
abbrev pub is_over : List Commit → ℕ → Bool
is_over cs t = is_old cs (record { row = 0; begin = 0; end = Some 0; version = None }) t

-- the commits that made a row, each as if it had made the row 0
abbrev pub living : ℕ → Commit → Option Commit
living none c = if nat_eq c.row none then None else Some (record { row = 0; begin = c.begin; end = c.end; version = c.version })

abbrev pub lives_of : ℕ → List Commit → List Commit
lives_of none cs = filter_map (living none) cs

-- for certain there was no row in an answer's window: each of those had been replaced, or came later
abbrev pub is_gone : ℕ → List Commit → Answer → Bool
is_gone none cs a = not (may_stand cs (record { row = 0; since = a.since; end = a.end }) a.since (lives_of none cs))

abbrev pub stale : ℕ → Bool → Judgement
stale t false = Judgement.Stale t
stale t true = Judgement.Resurrected t

-- what the verdicts over the commits and over the writes that were rolled back come to, if the row from before the trace is over or not, and if
-- there was no row any more or not
--   stale: each commit that made its row was replaced by then, in every explanation; resurrected if there was no row any more
--   dirty: each commit that made its row came after the answer, in every explanation, and the row from before the trace is over, so it
--   isn't that one, come again
--   rolled back: no commit made its row, a write that was rolled back did and had begun, and the row from before the trace is over
abbrev pub judgement_of : Verdict → Verdict → Bool → Bool → Judgement
judgement_of Verdict.Possible w over gone = Judgement.Possible
judgement_of (Verdict.Old t) w over gone = stale t gone
judgement_of Verdict.New w true gone = Judgement.Dirty
judgement_of Verdict.New w false gone = Judgement.Possible
judgement_of Verdict.Unknown Verdict.Possible true gone = Judgement.RolledBack
judgement_of Verdict.Unknown w over gone = Judgement.Unknown

-- the judgement of an answer, if this is the number of the row that is told if there is none
pub record IsJudged (none : ℕ) (cs us : List Commit) (a : Answer) (j : Judgement) : Type 0 where
  pub committed : Verdict
  pub undone : Verdict
  pub by_commits : IsVerdict cs a cs committed
  pub by_undone : IsVerdict us a us undone
  pub judged : j ≡ judgement_of committed undone (is_over cs a.since) (is_gone none cs a)
