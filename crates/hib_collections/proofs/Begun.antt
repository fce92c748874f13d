-- What a run with collections is opened with stands for the empty journal.
use Rattle.std.proofs.Common.{◌≡◌, ℕ, ◌≤◌, true, List, [], ◌∷◌, map, Some, None, Option, IfSome, refl, ap, sym, ◌∙◌, subst, arith}
use Rattle.hib_base.specs.Tables.{Tables, in_order}
use Rattle.hib_outside.proofs.Orders.{in_order_with_absent, in_order_widened}
use Rattle.hib_law.proofs.Basics.{none_some, some_same}
use Rattle.hib_engines.specs.Engines.{EnginesState, AreStanding}
use Rattle.hib_engines.specs.Origin.{Origin, told_start}
use Rattle.hib_engines.proofs.Ready.{ready}
use Rattle.hib_collections_law.specs.Types.{Gathered}
use Rattle.hib_collections.specs.Run.{AreSet, IsAsked, IsRun}
use Rattle.hib_journal.specs.Types.{Script, Strategy}
use Rattle.hib_engines.specs.declared.region.Region.{Region}
use Rattle.hib_engines.specs.Laws.{Laws}
use Rattle.hib_engines.specs.Region.{empty, IsPlaced}
use Rattle.hib_engines.specs.Regions.{region_of}
use Rattle.hib_engines.proofs.RegionList.{regions_begin}
use Rattle.hib_collections_law.specs.declared.entries.Def.{Def}
use Rattle.hib_collections_law.specs.Gathered.{region_def, region_script}
use Rattle.hib_collections.specs.Collected.{AreCollected}

regions_of : (timeout : ℕ) (defs : List Def) → map (λ d. empty d.strategy d.capacity timeout) (map region_def defs) ≡ map (λ d. empty Strategy.ReadWrite d.capacity timeout) defs
regions_of timeout [] = refl
regions_of timeout (d ∷ ds) = ap (λ rs. empty Strategy.ReadWrite d.capacity timeout ∷ rs) (regions_of timeout ds)

pub collected_begin : Laws → (script : Script) (defs : List Def) (rs : List Region) → rs ≡ map (λ d. empty Strategy.ReadWrite d.capacity script.timeout) defs → AreCollected script defs [] rs
collected_begin l script defs rs e n =
    subst (λ xs. IsPlaced (region_script script defs) n [] (region_of xs n)) (regions_of script.timeout defs ∙ sym e) (regions_begin l (region_script script defs) n)

-- rows that are told at the start are in order, if those that were kept are
pub start_ordered : (script : Script) (kept : Option Tables) → IfSome kept (λ m. in_order m ≡ true) → (start : Tables) → told_start script kept ≡ Some start → in_order start ≡ true
start_ordered script None o start e = none_some e
start_ordered script (Some m) o start e =
    subst (λ t. in_order t ≡ true) (some_same e) (in_order_with_absent (Rattle.hib_base.specs.Start.widened script.mapping m) script.rows (in_order_widened script.mapping m o))

pub run_begins : (script : Script) (defs : List Def) (from : Origin) (g : Gathered) (x : EnginesState) (rs : List Region) → g ≡ [] → AreSet script defs → AreStanding script from.tables [] x →
    AreCollected script defs [] rs → ((start : Tables) → from.tables ≡ Some start → in_order start ≡ true) → from.faults ≤ x.store.faults → IsRun script defs from g x rs
run_begins script defs from g x rs e set w c o f = subst (λ (h : Gathered). IsRun script defs from h x rs) (sym e) (record {
  gathered = tt;
  few = omega arith;
  live = λ s. refl;
  engines = w;
  regions = c;
  ordered = o;
  faults = omega (arith, f);
  built = ready script set.valid;
  set = set;
})

pub asked_begins : (script : Script) (from : Origin) (g : Gathered) (x : EnginesState) → g ≡ [] → x.store.asked ≡ from.asked → IsAsked script from g x
asked_begins script from g x e a = subst (λ (h : Gathered). IsAsked script from h x) (sym e) (record { later = omega (arith, a); few = omega (arith, a) })
