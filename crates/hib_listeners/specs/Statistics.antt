-- What is counted of a journal, as numbers of its entries.
use Rattle.std.specs.Prelude.{ℕ, ◌+◌, ◌<◌, Bool, if◌then◌else◌, List, [], ◌∷◌, ◌++◌, map, count_by}
use Rattle.std.specs.List.{All}
use Rattle.hib_journal.specs.Types.{Entry, EntityDef, Script}
use Rattle.hib_journal.specs.Next.{is_cached_by}
use Rattle.hib_listeners.specs.Counts.{is_hit, is_miss, is_store, is_refusal, is_lock, is_eviction, is_expired, is_load, is_list, is_write, is_committed, is_fault, is_query_hit, is_query_miss, is_keep, is_drop}
use Rattle.hib_listeners.specs.declared.counts.RegionCounts.{RegionCounts}
use Rattle.hib_listeners.specs.declared.counts.StoreCounts.{StoreCounts}
use Rattle.hib_listeners.specs.declared.counts.QueryCounts.{QueryCounts}
use Rattle.hib_listeners.specs.declared.statistics.Statistics.{Statistics}

-- the counts of a journal: how many entries pass each test

abbrev pub region_counts : ℕ → List Entry → RegionCounts
region_counts n es = record {
  entity = n;
  hits = count_by (is_hit n) es;
  misses = count_by (is_miss n) es;
  puts = count_by (is_store n) es;
  refused = count_by (is_refusal n) es;
  locks = count_by (is_lock n) es;
  evicted = count_by (is_eviction n) es;
  expired = count_by (is_expired n) es;
}

-- one for each cached entity of these, the first of which has number n
abbrev pub regions_counts : List Entry → ℕ → List EntityDef → List RegionCounts
regions_counts es n [] = []
regions_counts es n (d ∷ ds) = (if is_cached_by d.strategy then region_counts n es ∷ [] else []) ++ regions_counts es (n + 1) ds

abbrev pub store_counts : List Entry → StoreCounts
store_counts es = record {
  loads = count_by is_load es;
  lists = count_by is_list es;
  writes = count_by is_write es;
  commits = count_by is_committed es;
  faults = count_by is_fault es;
}

abbrev pub query_counts : List Entry → QueryCounts
query_counts es = record {
  hits = count_by is_query_hit es;
  misses = count_by is_query_miss es;
  kept = count_by is_keep es;
  dropped = count_by is_drop es;
}

abbrev pub counted : Script → List Entry → Statistics
counted script es = record {
  regions = regions_counts es 0 script.mapping;
  store = store_counts es;
  queries = query_counts es;
}

-- the counts after one entry more

abbrev pub one_if : Bool → ℕ
one_if passes = if passes then 1 else 0

abbrev pub noted_region : Entry → RegionCounts → RegionCounts
noted_region e c = record {
  entity = c.entity;
  hits = c.hits + one_if (is_hit c.entity e);
  misses = c.misses + one_if (is_miss c.entity e);
  puts = c.puts + one_if (is_store c.entity e);
  refused = c.refused + one_if (is_refusal c.entity e);
  locks = c.locks + one_if (is_lock c.entity e);
  evicted = c.evicted + one_if (is_eviction c.entity e);
  expired = c.expired + one_if (is_expired c.entity e);
}

abbrev pub noted_store : Entry → StoreCounts → StoreCounts
noted_store e c = record {
  loads = c.loads + one_if (is_load e);
  lists = c.lists + one_if (is_list e);
  writes = c.writes + one_if (is_write e);
  commits = c.commits + one_if (is_committed e);
  faults = c.faults + one_if (is_fault e);
}

abbrev pub noted_queries : Entry → QueryCounts → QueryCounts
noted_queries e c = record {
  hits = c.hits + one_if (is_query_hit e);
  misses = c.misses + one_if (is_query_miss e);
  kept = c.kept + one_if (is_keep e);
  dropped = c.dropped + one_if (is_drop e);
}

abbrev pub noted : Entry → Statistics → Statistics
noted e s = record {
  regions = map (noted_region e) s.regions;
  store = noted_store e s.store;
  queries = noted_queries e s.queries;
}

-- each count is below a bound

abbrev pub IsRegionBelow : ℕ → RegionCounts → Type 0
IsRegionBelow m c = (c.hits < m) × (c.misses < m) × (c.puts < m) × (c.refused < m) × (c.locks < m) × (c.evicted < m) × (c.expired < m)

abbrev pub IsStoreBelow : ℕ → StoreCounts → Type 0
IsStoreBelow m c = (c.loads < m) × (c.lists < m) × (c.writes < m) × (c.commits < m) × (c.faults < m)

abbrev pub AreQueriesBelow : ℕ → QueryCounts → Type 0
AreQueriesBelow m c = (c.hits < m) × (c.misses < m) × (c.kept < m) × (c.dropped < m)

pub record AreBelow (m : ℕ) (s : Statistics) : Type 0 where
  pub regions : All (IsRegionBelow m) s.regions
  pub store : IsStoreBelow m s.store
  pub queries : AreQueriesBelow m s.queries
