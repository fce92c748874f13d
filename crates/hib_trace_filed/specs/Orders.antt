-- Keys whose commits are ready for a judge.
use Rattle.std.specs.Prelude.{◌≡◌, ◌<◌, ℕ, List, length}
use Rattle.std.specs.Prelude.{Vec}
use Rattle.std.specs.List.{All, AllZip, slice_index_or}
use Rattle.std.specs.declared.alloc.Global.{Global}
use Rattle.hib_trace_findings.specs.Judged.{lives_of}
use Rattle.hib_traces.specs.Places.{ArePlaces}
use Rattle.hib_traces.specs.declared.places.Place.{Place}
use Rattle.hib_trace_law.specs.declared.commits.Commit.{Commit}
use Rattle.hib_traces.specs.declared.order.Order.{Order}
use Rattle.hib_traces.specs.Stands.{Stands}

-- these commits, ready for a judge
pub record IsOrderOf (cs : List Commit) (o : Order) : Type 0 where
  pub same : o.commits.items ≡ cs
  pub stands : Stands o

-- one for each of so many keys, of the commits that a key has
pub record AreOrders (of : ℕ → List Commit) (n : ℕ) (os : List Order) : Type 0 where
  pub count : length os ≡ n
  pub each : (k : ℕ) (d : Order) → k < length os → IsOrderOf (of k) (slice_index_or os k d)

-- each is ready
abbrev pub AreReady : List Order → Type 0
AreReady os = All Stands os

-- of each of these when it had a row
abbrev pub AreLives : ℕ → List Order → List (Vec Place Global) → Type 0
AreLives none os vs = AllZip (λ o v. ArePlaces o.commits.items (lives_of none o.commits.items) v.items) os vs
