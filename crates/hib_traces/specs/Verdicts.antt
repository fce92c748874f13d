-- What a judge says of an answer.
use Rattle.std.specs.Prelude.{◌≡◌, ◌<◌, ◌+◌, ◌&&◌, ℕ, Bool, true, false, not, Option, None, Some, List, nat_eq}
use Rattle.std.specs.List.{list_any}
use Rattle.hib_trace_law.specs.declared.commits.Commit.{Commit}
use Rattle.hib_trace_law.specs.declared.commits.Answer.{Answer}
use Rattle.hib_trace_law.specs.Certain.{ended_before, is_lower, is_old, is_new}
use Rattle.hib_traces.specs.declared.kinds.Verdict.{Verdict}
use Rattle.hib_traces.specs.declared.kinds.Verdict.TheVariants.{Unknown, Possible, Old, New}

-- a commit made the answer's row
abbrev pub makes_row : Answer → Commit → Bool
makes_row a c = nat_eq c.row a.row

-- one of these commits made the answer's row, not too late for it, and the row may have been the committed one at t: at the begin of the answer's
-- window this is `may_pass`
abbrev pub may_stand : List Commit → Answer → ℕ → List Commit → Bool
may_stand cs a t ps = list_any (λ c. nat_eq c.row a.row && not (is_old cs c t) && not (is_new cs c a.end)) ps

-- what a verdict says, if these are the commits that the answer's row may be of: the row is unknown; it may be right; it had been replaced by an
-- instant, at the latest, before the answer's window began, and may have stood until then; or it was made after the answer had ended
pub record IsOld (cs : List Commit) (a : Answer) (gone_by : ℕ) (ps : List Commit) : Type 0 where
  pub before : gone_by < a.since
  pub until : may_stand cs a gone_by ps ≡ true
  pub gone : may_stand cs a (gone_by + 1) ps ≡ false

pub record IsNew (cs : List Commit) (a : Answer) (ps : List Commit) : Type 0 where
  pub made : list_any (makes_row a) ps ≡ true
  pub late : may_stand cs a 0 ps ≡ false

abbrev pub IsVerdict : List Commit → Answer → List Commit → Verdict → Type 0
IsVerdict cs a ps Unknown = list_any (makes_row a) ps ≡ false
IsVerdict cs a ps Possible = may_stand cs a a.since ps ≡ true
IsVerdict cs a ps (Old gone_by) = IsOld cs a gone_by ps
IsVerdict cs a ps New = IsNew cs a ps

-- the versions and the clock say opposite things of a commit of this version that began then: one of a higher version had ended before
abbrev pub is_contradicted : List Commit → Option ℕ → ℕ → Bool
is_contradicted cs None t = false
is_contradicted cs (Some v) t = list_any (λ d. is_lower (Some v) d.version && ended_before d.end t) cs
