-- The report of a journal, as bytes.
use Rattle.std.specs.Prelude.{ℕ, ◌+◌, Bool, true, false, List, [], ◌∷◌, ◌++◌, length, reverse, codes, flat_map}
use Rattle.std.specs.Fmt.{decimal}
use Rattle.hib_journal.specs.Types.{Outcome, Entry, SessionDef, Script}
use Rattle.hib_journal.specs.Sessions.{Journal, own, was_killed}
use Rattle.hib_journal.specs.Legal.{outcome}
use Rattle.hib_report.specs.Lines.{outcome_text, lines_text}
use Rattle.hib_texts.specs.Texts.{entity_text}
use Rattle.hib_report.specs.Unsound.{unsound_text}
use Rattle.hib_listeners.specs.Statistics.{counted}
use Rattle.hib_listeners.specs.declared.counts.RegionCounts.{RegionCounts}
use Rattle.hib_listeners.specs.declared.counts.StoreCounts.{StoreCounts}
use Rattle.hib_listeners.specs.declared.counts.QueryCounts.{QueryCounts}
use Rattle.hib_listeners.specs.declared.statistics.Statistics.{Statistics}

abbrev pub journal_text : List Entry → List ℕ
journal_text es = codes "journal " ++ decimal (length es) ++ codes "\n"

-- sessions

abbrev pub end_text : Bool → Outcome → List ℕ
end_text true o = codes "killed"
end_text false o = outcome_text o

-- how session s ended: it was killed, or its own entries have an outcome
abbrev pub fate_text : ℕ → Journal → List ℕ
fate_text s past = end_text (was_killed s past) (outcome (own s past))

abbrev pub fates_text : Journal → ℕ → List SessionDef → List ℕ
fates_text past s [] = []
fates_text past s (d ∷ ds) = (d.name ++ codes " " ++ fate_text s past ++ codes "\n") ++ fates_text past (s + 1) ds

abbrev pub sessions_text : Script → Journal → List ℕ
sessions_text script past = codes "sessions " ++ decimal (length script.sessions) ++ codes "\n" ++ fates_text past 0 script.sessions

-- regions

abbrev pub reads_text : RegionCounts → List ℕ
reads_text c = codes " hits " ++ decimal c.hits ++ codes " misses " ++ decimal c.misses

abbrev pub puts_text : RegionCounts → List ℕ
puts_text c = codes " puts " ++ decimal c.puts ++ codes " refused " ++ decimal c.refused

abbrev pub locks_text : RegionCounts → List ℕ
locks_text c = codes " locks " ++ decimal c.locks ++ codes " evicted " ++ decimal c.evicted ++ codes " expired " ++ decimal c.expired

abbrev pub region_text : Script → RegionCounts → List ℕ
region_text script c = codes "region " ++ entity_text script c.entity ++ reads_text c ++ puts_text c ++ locks_text c ++ codes "\n"

-- a line for each cached entity
abbrev pub regions_text : Script → List RegionCounts → List ℕ
regions_text script cs = flat_map (λ c. region_text script c) cs

-- the store and the queries

abbrev pub asked_text : StoreCounts → List ℕ
asked_text c = codes " loads " ++ decimal c.loads ++ codes " lists " ++ decimal c.lists ++ codes " writes " ++ decimal c.writes

abbrev pub ends_text : StoreCounts → List ℕ
ends_text c = codes " commits " ++ decimal c.commits ++ codes " faults " ++ decimal c.faults

abbrev pub store_text : StoreCounts → List ℕ
store_text c = codes "store" ++ asked_text c ++ ends_text c ++ codes "\n"

abbrev pub looks_text : QueryCounts → List ℕ
looks_text c = codes " hits " ++ decimal c.hits ++ codes " misses " ++ decimal c.misses

abbrev pub keeps_text : QueryCounts → List ℕ
keeps_text c = codes " kept " ++ decimal c.kept ++ codes " dropped " ++ decimal c.dropped

abbrev pub queries_text : QueryCounts → List ℕ
queries_text c = codes "queries" ++ looks_text c ++ keeps_text c ++ codes "\n"

abbrev pub counts_text : Script → Statistics → List ℕ
counts_text script s = regions_text script s.regions ++ store_text s.store ++ queries_text s.queries ++ codes "end\n"

-- the report: the entries as lines, how the sessions ended, the unsound keys, and what is counted of the entries
abbrev pub report : Script → List Entry → List ℕ
report script es =
    journal_text es ++ lines_text script es ++ sessions_text script (reverse es) ++ unsound_text script (reverse es) ++ counts_text script (counted script es)

-- the report without the lines of the entries and of the sessions
abbrev pub summary : Script → List Entry → List ℕ
summary script es = journal_text es ++ unsound_text script (reverse es) ++ counts_text script (counted script es)
