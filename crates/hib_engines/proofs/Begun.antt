-- What engines begin with stands for no entries.
use Rattle.std.proofs.Common.{◌≡◌, ◌<◌, [], length, map, Some, None, Option, refl, sym, ap, ◌∙◌, subst}
use Rattle.std.proofs.lemmas.List.{length-map, length-replicate}
use Rattle.std.specs.Option.{option_map}
use Rattle.hib_base.specs.Tables.{Tables}
use Rattle.hib_journal.specs.Lists.{stored}
use Rattle.hib_journal.specs.Types.{Script}
use Rattle.hib_update_stamps.specs.Stamped.{unstamped}
use Rattle.hib_update_stamps.specs.Standing.{IsStamps}
use Rattle.hib_query_cache.specs.Standing.{IsResults}
use Rattle.hib_engines.specs.Region.{empty}
use Rattle.hib_engines.specs.Registry.{IsRegistry}
use Rattle.hib_engines.specs.Laws.{Laws}
use Rattle.hib_engines.proofs.Opened.{registry_begins}
use Rattle.hib_engines.specs.Engines.{EnginesState, AreStanding}
use Rattle.hib_engines.proofs.Bridge.{bridged_begins}
use Rattle.hib_engines.proofs.RegionList.{regions_begin}

told_same : (told : Option Tables) → told ≡ option_map (λ start. stored start []) told
told_same None = refl
told_same (Some start) = refl

pub engines_begin : Laws → (script : Script) (told : Option Tables) (x : EnginesState) → x.store.tables ≡ told → x.store.written ≡ [] → x.registry ≡ [] → x.stamps ≡ unstamped (length script.mapping) →
    x.regions ≡ map (λ d. empty d.strategy d.capacity script.timeout) script.mapping → x.results ≡ record { capacity = script.results; kept = [] } → 0 < script.results → AreStanding script told [] x
engines_begin l script told x t w r s g u c = record {
  store = record { rows = t ∙ told_same told; changes = λ n. ap (λ v. Rattle.hib_store.specs.Stores.changes_in v n) w };
  bridged = bridged_begins;
  registry = subst (λ v. IsRegistry v []) (sym r) registry_begins;
  stamps = record {
    stands = subst (λ v. IsStamps script.timeout v []) (sym s) (l.stamps_begin script.timeout (length script.mapping));
    tables = ap length s ∙ length-replicate (length script.mapping) None;
  };
  regions = λ n. subst (λ v. Rattle.hib_engines.specs.Region.IsPlaced script n [] (Rattle.hib_engines.specs.Regions.region_of v n)) (sym g) (regions_begin l script n);
  entities = ap length g ∙ length-map script.mapping (λ d. empty d.strategy d.capacity script.timeout);
  results = record {
    stands = subst (λ v. IsResults (length script.queries) v []) (sym u) (l.results_begin (length script.queries) script.results c);
    capacity = ap (λ v. v.capacity) u;
  };
}
