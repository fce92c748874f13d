-- What entries come to on the region of a collection, as numbers of them.
use Rattle.std.specs.Prelude.{ℕ, ◌+◌, ◌<◌, ◌++◌, List, codes, count_by}
use Rattle.hib_listeners.specs.Statistics.{one_if}
use Rattle.hib_collections.specs.declared.counting.Counts.{Counts}
use Rattle.hib_collections_law.specs.declared.entries.Def.{Def}
use Rattle.hib_collections_law.specs.declared.entries.GatherEntry.{GatherEntry}
use Rattle.hib_collections_law.specs.declared.entries.MemberEntry.{MemberEntry}
use Rattle.hib_collections.specs.Text.{is_hit, is_locked, is_miss, is_on, is_stored, numbers_text}

abbrev pub counts_on : ℕ → List GatherEntry → Counts
counts_on c es = record {
  hits = count_by (is_on c is_hit) es;
  misses = count_by (is_on c is_miss) es;
  puts = count_by (is_on c is_stored) es;
  locks = count_by (is_on c is_locked) es;
}

-- the counts after one entry more

abbrev pub noted : MemberEntry → Counts → Counts
noted m k = record {
  hits = k.hits + one_if (is_hit m);
  misses = k.misses + one_if (is_miss m);
  puts = k.puts + one_if (is_stored m);
  locks = k.locks + one_if (is_locked m);
}

-- of the collection c; an entry on another, or on none, changes nothing
abbrev pub noted_on : ℕ → GatherEntry → Counts → Counts
noted_on c e k = record {
  hits = k.hits + one_if (is_on c is_hit e);
  misses = k.misses + one_if (is_on c is_miss e);
  puts = k.puts + one_if (is_on c is_stored e);
  locks = k.locks + one_if (is_on c is_locked e);
}

abbrev pub AreBelow : ℕ → Counts → Type 0
AreBelow m k = (k.hits < m) × (k.misses < m) × (k.puts < m) × (k.locks < m)

-- the line of a collection
abbrev pub total_text : Def → Counts → List ℕ
total_text d k = codes "collection " ++ d.name ++ numbers_text k.hits k.misses k.puts k.locks
