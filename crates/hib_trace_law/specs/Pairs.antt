-- What two answers, or two commits, say together.
use Rattle.std.specs.Prelude.{◌≡◌, ◌≤◌, ◌&&◌, ◌||◌, ◌⊎◌, ℕ, Bool, false, not, List, nat_eq, nat_lt}
use Rattle.std.specs.List.{list_any}
use Rattle.hib_trace_law.specs.declared.commits.Commit.{Commit}
use Rattle.hib_trace_law.specs.declared.commits.Answer.{Answer}
use Rattle.hib_trace_law.specs.Certain.{Placed, IsAmong, is_before, is_after, may_be}

-- an answer may come after another one: their calls overlap, or they may be rows of which the later one isn't certainly the older
abbrev pub may_follow : List Commit → Answer → Answer → Bool
may_follow cs a b = not (nat_lt a.end b.since) || list_any (λ c. may_be cs a c && list_any (λ d. may_be cs b d && not (is_after d c)) cs) cs

-- a commit took effect on a row: on that of the commit right before it
pub record RestsOn (xs : List Placed) (x : Placed) (row : ℕ) : Type 0 where
  pub source : Placed
  pub among : IsAmong source xs
  pub is : source.commit.row ≡ row
  pub made : source.at ≤ x.at
  pub earlier : is_before x.commit source.commit ≡ false
  pub last : (y : Placed) → IsAmong y xs →
      ((x.at ≤ y.at) × (is_before y.commit x.commit ≡ false)) ⊎ ((y.at ≤ source.at) × (is_before source.commit y.commit ≡ false))

-- what the judge looks at: the row that a commit names as its base is lost if each commit that made it certainly came later, or if another commit
-- certainly came between
abbrev pub may_rest_on : List Commit → Commit → Commit → Bool
may_rest_on cs c d = not (is_after c d) && not (list_any (λ e. is_after d e && is_after e c) cs)

abbrev pub may_rest : List Commit → Commit → ℕ → Bool
may_rest cs c row = list_any (λ d. nat_eq d.row row && may_rest_on cs c d) cs
