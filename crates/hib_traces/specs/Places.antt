-- When an answer may be the row of a commit.
use Rattle.std.specs.Prelude.{◌≡◌, ◌≤◌, ◌<◌, ◌&&◌, ℕ, Bool, true, false, not, Option, None, Some, List, nat_eq, nat_le, length}
use Rattle.std.specs.List.{list_any, slice_index_or}
use Rattle.hib_trace_law.specs.declared.commits.Commit.{Commit}
use Rattle.hib_trace_law.specs.Certain.{ended_before, is_old, is_new}
use Rattle.hib_traces.specs.declared.places.Place.{Place}

-- a row that was answered by e may be that of one of these places, and may have been the committed one at t
abbrev pub stands_at : ℕ → ℕ → ℕ → List Place → Bool
stands_at r e t ps = list_any (λ p. nat_eq p.row r && nat_le p.ready e && not (ended_before p.gone t)) ps

-- the same of a row that was gone by an instant, if it ever was, and of one that has no place
abbrev pub stands_by : Option (Option ℕ) → ℕ → Bool
stands_by None t = false
stands_by (Some g) t = not (ended_before g t)

-- an instant isn't before another one, if there is one
abbrev pub is_at_least : Option ℕ → ℕ → Bool
is_at_least None e = false
is_at_least (Some n) e = nat_le n e

abbrev pub has_row : ℕ → List Place → Bool
has_row r ps = list_any (λ p. nat_eq p.row r) ps

-- places answer each question as their commits do
pub record Tell (cs ss : List Commit) (ps : List Place) : Type 0 where
  pub stands : (r e t : ℕ) → stands_at r e t ps ≡ list_any (λ c. nat_eq c.row r && not (is_old cs c t) && not (is_new cs c e)) ss
  pub rows : (r : ℕ) → has_row r ps ≡ list_any (λ c. nat_eq c.row r) ss

-- a number is no greater than another one, if none is the greatest
abbrev pub is_within : Option ℕ → Option ℕ → Bool
is_within g None = true
is_within None (Some n) = false
is_within (Some m) (Some n) = nat_le m n

-- the order of two places: by their rows, and then by the instants at which they are ready
pub record IsNoLater (p q : Place) : Type 0 where
  pub row : p.row ≤ q.row
  pub ready : p.row ≡ q.row → p.ready ≤ q.ready

-- the same, and the later one of a row is ready the later it is gone
pub record IsUpTo (p q : Place) : Type 0 where
  pub later : IsNoLater p q
  pub gone : p.row ≡ q.row → is_within p.gone q.gone ≡ true

pub record AreInOrder (ps : List Place) : Type 0 where
  pub each : (i j : ℕ) (d : Place) → i ≤ j → j < length ps → IsUpTo (slice_index_or ps i d) (slice_index_or ps j d)

-- the places of the sources ss, of which the commits cs are known
pub record ArePlaces (cs ss : List Commit) (ps : List Place) : Type 0 where
  pub tell : Tell cs ss ps
  pub order : AreInOrder ps
