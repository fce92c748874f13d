-- Lists that a cache answered, and commits that they don't have.
use Rattle.std.specs.Prelude.{◌≡◌, ◌+◌, ◌<◌, ◌⊎◌, ◌&&◌, ℕ, Bool, true, false, not, List, Option, Some, None, nat_eq, nat_lt, nat_le}
use Rattle.std.specs.List.{list_any}
use Rattle.hib_trace_law.specs.declared.commits.Commit.{Commit}
use Rattle.hib_trace_law.specs.Certain.{ended_before}
use Rattle.hib_trace_lines.specs.declared.events.Operation.{Operation}
use Rattle.hib_trace_calls.specs.declared.calls.Call.{Call}
use Rattle.hib_trace_filed.specs.Keys.{earlier}
use Rattle.hib_trace_findings.specs.declared.kinds.Judgement.{Judgement}

-- a commit on one of these tables began after an instant, and had ended before another one
abbrev pub changed_on : List Commit → ℕ → ℕ → Bool
changed_on cs s t = list_any (λ d. nat_lt s d.begin && ended_before d.end t) cs

abbrev pub changed : (ℕ → List Commit) → List ℕ → ℕ → ℕ → Bool
changed of ks s t = list_any (λ k. changed_on (of k) s t) ks

abbrev pub is_list_load : Operation → Bool
is_list_load Operation.ListLoad = true
is_list_load _ = false

abbrev pub is_key : ℕ → Option ℕ → Bool
is_key k None = false
is_key k (Some l) = nat_eq l k

-- the database gave this list of a query to a call that had begun by an instant, by clocks that differ by so much
abbrev pub gives : ℕ → ℕ → ℕ → ℕ → Call → Bool
gives clock k r e l = is_list_load l.operation && (is_key k l.key && (nat_eq l.row r && nat_le (earlier l.begin clock) e))

-- a load that gave the list had ended when, by t, no commit on its tables had begun and ended since
abbrev pub may_be_fresh : ℕ → (ℕ → List Commit) → List Call → ℕ → ℕ → ℕ → ℕ → Bool
may_be_fresh clock of cs k r e t = list_any (λ l. gives clock k r e l && not (changed of l.tables.items l.end t)) cs

-- a list that was asked for at `since`, and answered by e: each load that gave it came before a commit on its tables that had ended by an
-- instant, at the latest, and one did so until then
pub record IsOldList (clock : ℕ) (of : ℕ → List Commit) (cs : List Call) (k r since e gone_by : ℕ) : Type 0 where
  pub before : gone_by < since
  pub until : may_be_fresh clock of cs k r e gone_by ≡ true
  pub gone : may_be_fresh clock of cs k r e (gone_by + 1) ≡ false

-- it may be fresh, or no load is known that gave it: by the clock's 0 no commit had ended
abbrev pub IsOpenList : ℕ → (ℕ → List Commit) → List Call → ℕ → ℕ → ℕ → ℕ → Type 0
IsOpenList clock of cs k r since e = (may_be_fresh clock of cs k r e since ≡ true) ⊎ (may_be_fresh clock of cs k r e 0 ≡ false)

abbrev pub IsListJudged : ℕ → (ℕ → List Commit) → List Call → ℕ → ℕ → ℕ → ℕ → Judgement → Type 0
IsListJudged clock of cs k r since e (Judgement.OldList t) = IsOldList clock of cs k r since e t
IsListJudged clock of cs k r since e Judgement.OpenList = IsOpenList clock of cs k r since e
IsListJudged clock of cs k r since e _ = ⊥
