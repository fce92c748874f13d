-- What a trace of a key can mean if the order of its commits is known in part, and what the judge looks at. What it refuses is certain: false
-- in every explanation.
use Rattle.std.specs.Prelude.{◌≡◌, ◌≤◌, ◌&&◌, ◌||◌, ◌⊎◌, ℕ, Bool, true, false, not, Option, None, Some, List, [], ◌∷◌, map, is_some, nat_eq, nat_lt}
use Rattle.std.specs.List.{list_any}
use Rattle.hib_trace_law.specs.declared.commits.Commit.{Commit}
use Rattle.hib_trace_law.specs.declared.commits.Answer.{Answer}

-- a commit in one explanation, with the instant at which it took effect
pub record Placed : Type 0 where
  pub commit : Commit
  pub at : ℕ

abbrev pub IsAmong : {X : Type 0} → X → List X → Type 0
IsAmong x [] = ⊥
IsAmong x (y ∷ ys) = (x ≡ y) ⊎ IsAmong x ys

-- an instant isn't after an end, if there is one
abbrev pub IsUntil : Option ℕ → ℕ → Type 0
IsUntil None t = Unit {0}
IsUntil (Some e) t = t ≤ e

-- there is an end, and it was before an instant
abbrev pub ended_before : Option ℕ → ℕ → Bool
ended_before None t = false
ended_before (Some e) t = nat_lt e t

abbrev pub is_lower : Option ℕ → Option ℕ → Bool
is_lower None n = false
is_lower (Some m) None = false
is_lower (Some m) (Some n) = nat_lt m n

-- the versions say that c was made before d; of a commit whose outcome is unknown they say nothing
abbrev pub is_before : Commit → Commit → Bool
is_before c d = is_some c.end && is_some d.end && is_lower c.version d.version

-- an explanation: an instant for each commit, within its call, and in the order of the versions
pub record IsPlaced (cs : List Commit) (xs : List Placed) : Type 0 where
  pub each : map (λ x. x.commit) xs ≡ cs
  pub since : (x : Placed) → IsAmong x xs → x.commit.begin ≤ x.at
  pub until : (x : Placed) → IsAmong x xs → IsUntil x.commit.end x.at
  pub ordered : (x y : Placed) → IsAmong x xs → IsAmong y xs → is_before x.commit y.commit ≡ true → x.at ≤ y.at

-- the row of a commit is the committed one at an instant: from its own instant to that of the next one, both counted. So each other commit
-- either comes then at the earliest, or had come by the time of this one
pub record IsCommittedAt (xs : List Placed) (x : Placed) (t : ℕ) : Type 0 where
  pub among : IsAmong x xs
  pub made : x.at ≤ t
  pub last : (y : Placed) → IsAmong y xs → (t ≤ y.at) ⊎ ((y.at ≤ x.at) × (is_before x.commit y.commit ≡ false))

-- an answer is explained: its row was the committed one at an instant of its own
pub record IsExplained (xs : List Placed) (a : Answer) : Type 0 where
  pub source : Placed
  pub row : source.commit.row ≡ a.row
  pub at : ℕ
  pub since : a.since ≤ at
  pub until : at ≤ a.end
  pub committed : IsCommittedAt xs source at

-- d certainly came after c
abbrev pub is_after : Commit → Commit → Bool
is_after c d = is_before c d || ended_before c.end d.begin

-- what the judge looks at: the row of c is too old for an answer if a commit that certainly came after it had ended before the answer's window
-- began; it is too new if it, or a commit before it, began after the answer had ended
abbrev pub is_old : List Commit → Commit → ℕ → Bool
is_old cs c t = list_any (λ d. is_after c d && ended_before d.end t) cs

abbrev pub is_new : List Commit → Commit → ℕ → Bool
is_new cs c t = nat_lt t c.begin || list_any (λ d. is_before d c && nat_lt t d.begin) cs

-- an answer may be the row that a commit made
abbrev pub may_be : List Commit → Answer → Commit → Bool
may_be cs a c = nat_eq c.row a.row && not (is_old cs c a.since) && not (is_new cs c a.end)

-- it passes if it may be that of one of them: a row that comes again has several
abbrev pub may_pass : List Commit → Answer → Bool
may_pass cs a = list_any (may_be cs a) cs

-- the calls are calls, and nothing is known of the order but what they say
abbrev pub is_free : Commit → Bool
is_free c = not (is_some c.version) && not (ended_before c.end c.begin)
