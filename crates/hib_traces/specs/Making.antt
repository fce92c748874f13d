-- How places are made of commits, and read.
use Rattle.std.specs.Prelude.{◌≡◌, ◌≤◌, ◌<◌, ◌-◌, ◌&&◌, ◌||◌, ◌==◌, ℕ, Bool, not, None, List, nat_eq, nat_lt, nat_le, length, if◌then◌else◌}
use Rattle.std.specs.List.{slice_index_or}
use Rattle.hib_trace_law.specs.declared.commits.Commit.{Commit}
use Rattle.hib_trace_law.specs.Certain.{ended_before, is_old, is_new}
use Rattle.hib_traces.specs.declared.places.Place.{Place}
use Rattle.hib_traces.specs.Places.{stands_at, has_row, is_within, IsNoLater}

-- the place of a commit of which these commits are known
pub record IsPlaceOf (cs : List Commit) (c : Commit) (p : Place) : Type 0 where
  pub row : p.row ≡ c.row
  pub ready : (e : ℕ) → is_new cs c e ≡ nat_lt e p.ready
  pub gone : (t : ℕ) → is_old cs c t ≡ ended_before p.gone t

-- places answer each question as other places do
pub record AreAlike (ps qs : List Place) : Type 0 where
  pub stands : (r e t : ℕ) → stands_at r e t ps ≡ stands_at r e t qs
  pub rows : (r : ℕ) → has_row r ps ≡ has_row r qs

-- places stand in that order
pub record AreSorted (ps : List Place) : Type 0 where
  pub each : (i j : ℕ) (d : Place) → i ≤ j → j < length ps → IsNoLater (slice_index_or ps i d) (slice_index_or ps j d)

-- the last of some places has the row of another one, and is gone no earlier
abbrev pub covers_next : List Place → Place → Bool
covers_next ps p =
    not (length ps == 0) && nat_eq (slice_index_or ps (length ps - 1) (record { row = 0; ready = 0; gone = None })).row p.row
    && is_within p.gone (slice_index_or ps (length ps - 1) (record { row = 0; ready = 0; gone = None })).gone

-- a place lies before a row that is answered at an instant, or at it
abbrev pub is_ready : ℕ → ℕ → Place → Bool
is_ready r e p = nat_lt p.row r || (nat_eq p.row r && nat_le p.ready e)

-- a place lies before those of a row, or is one that was gone before an instant
abbrev pub is_behind : ℕ → ℕ → Place → Bool
is_behind r t p = if nat_eq p.row r then ended_before p.gone t else nat_lt p.row r
