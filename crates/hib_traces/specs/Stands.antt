-- What the judge remembers of the commits of a key.
use Rattle.std.specs.Prelude.{◌≡◌, ◌&&◌, ℕ, Some, nat_lt}
use Rattle.std.specs.List.{list_any}
use Rattle.hib_trace_law.specs.Certain.{ended_before, is_lower}
use Rattle.hib_traces.specs.declared.order.Order.{Order}
use Rattle.hib_traces.specs.Marks.{asks, IsStairs, known_version}
use Rattle.hib_traces.specs.Places.{ArePlaces}

-- the judge knows the least end of the commits that began after an instant, and of those with a higher version, and the greatest begin of those
-- with a lower version
pub record Remembers (o : Order) : Type 0 where
  pub calls : (k t : ℕ) → asks k t o.calls.items ≡ list_any (λ d. nat_lt k d.begin && ended_before d.end t) o.commits.items
  pub versions : (k t : ℕ) → asks k t o.versions.items ≡ list_any (λ d. is_lower (Some k) d.version && ended_before d.end t) o.commits.items
  pub begins : (k t : ℕ) → asks k t o.begins.items ≡ list_any (λ d. nat_lt k d.begin && ended_before (known_version d.end d.version) t) o.commits.items
  pub calls_fall : IsStairs o.calls.items
  pub versions_fall : IsStairs o.versions.items
  pub begins_fall : IsStairs o.begins.items

-- it stands for its commits: it remembers them, and has their places
pub record Stands (o : Order) : Type 0 where
  pub remembers : Remembers o
  pub places : ArePlaces o.commits.items o.commits.items o.places.items
