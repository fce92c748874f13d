-- The engines stand for the entries with one more from outside.
use Rattle.std.proofs.Common.{◌≡◌, ℕ, true, ◌∷◌, length, Some, None, Option, refl, sym, ap, ◌∙◌, subst}
use Rattle.std.proofs.lemmas.Bool.{false≢true}
use Rattle.hib_base.specs.Tables.{Tables}
use Rattle.hib_journal.specs.Types.{Key, Script, Part, Act, Reply}
use Rattle.hib_journal.specs.Sessions.{Journal}
use Rattle.hib_journal.specs.Next.{is_cached, strategy}
use Rattle.hib_journal.specs.Lists.{entry_at, IsLate}
use Rattle.hib_engines.specs.Registry.{IsRegistry}
use Rattle.hib_engines.specs.Region.{entity_in, IsPlaced, Suits}
use Rattle.hib_engines.specs.Laws.{Laws}
use Rattle.hib_engines.specs.Served.{IsServed}
use Rattle.hib_engines.specs.Stamps.{AreStamps}
use Rattle.hib_engines.specs.Results.{AreResults}
use Rattle.hib_engines.specs.Store.{IsStored}
use Rattle.hib_engines.proofs.StampsServed.{stamps_stay}
use Rattle.hib_engines.proofs.ResultsServed.{results_stay}
use Rattle.hib_engines.proofs.RegionServed.{restart_placed}
use Rattle.hib_engines.proofs.Stored.{store_stays}
use Rattle.hib_engines.proofs.Elsewhere.{registry_kept, region_kept}
use Rattle.hib_engines.specs.Regions.{region_of, IsAtRegion, AreEmptied}
use Rattle.hib_engines.specs.Engines.{EnginesState, AreStanding, IsAnswered}
use Rattle.hib_engines.proofs.Bridge.{bridged_kill, bridged_restart, bridged_evict}
use Rattle.hib_engines.proofs.Replies.{reply_any}
use Rattle.hib_engines.proofs.RegionList.{regions_at}

pub engines_killed : Laws → (script : Script) (told : Option Tables) (h : Journal) (n now : ℕ) (x y : EnginesState) → AreStanding script told h x → IsLate Part.Registry now h →
    ((l : Journal) (now : ℕ) → IsRegistry x.registry l → IsLate Part.Registry now l → IsRegistry y.registry (entry_at now None (Act.Kill n) Reply.Done ∷ l)) →
    ((kept : Option Tables) (l : Journal) (now : ℕ) → IsStored kept l x.store → IsStored kept (entry_at now None (Act.Kill n) Reply.Done ∷ l) y.store) →
    y.stamps ≡ x.stamps → y.regions ≡ x.regions → y.results ≡ x.results → IsAnswered script told h None now (Act.Kill n) Reply.Done y
engines_killed l script told h n now x y k late registry store b c d = record {
  reply = reply_any script told h None now (Act.Kill n) Reply.Done (λ start. refl) refl;
  standing = record {
    store = store told h now k.store;
    bridged = bridged_kill h n now Reply.Done k.bridged;
    registry = registry h now k.registry late;
    stamps = subst (λ z. AreStamps script (entry_at now None (Act.Kill n) Reply.Done ∷ h) z) (sym b) (stamps_stay l script h None now (Act.Kill n) Reply.Done x.stamps k.stamps refl refl);
    regions = λ i. subst (λ zs. IsPlaced script i (entry_at now None (Act.Kill n) Reply.Done ∷ h) (region_of zs i)) (sym c)
        (region_kept l script h i None now (Act.Kill n) Reply.Done (region_of x.regions i) (k.regions i) (λ t. absurd (false≢true t)) refl);
    entities = ap length c ∙ k.entities;
    results = subst (λ z. AreResults script (entry_at now None (Act.Kill n) Reply.Done ∷ h) z) (sym d) (results_stay l script h None now (Act.Kill n) Reply.Done x.results k.results refl refl);
  };
}

pub engines_restarted : Laws → (script : Script) (told : Option Tables) (h : Journal) (now : ℕ) (x y : EnginesState) → AreStanding script told h x → IsLate Part.Registry now h →
    ((l : Journal) (now : ℕ) → IsRegistry x.registry l → IsLate Part.Registry now l → IsRegistry y.registry (entry_at now None Act.Restart Reply.Done ∷ l)) →
    ((kept : Option Tables) (l : Journal) (now : ℕ) → IsStored kept l x.store → IsStored kept (entry_at now None Act.Restart Reply.Done ∷ l) y.store) →
    ((s : Script) (l : Journal) (now : ℕ) → AreStamps s l x.stamps → AreStamps s (entry_at now None Act.Restart Reply.Done ∷ l) y.stamps) → AreEmptied x.regions y.regions →
    ((s : Script) (l : Journal) (now : ℕ) → AreResults s l x.results → AreResults s (entry_at now None Act.Restart Reply.Done ∷ l) y.results) →
    IsAnswered script told h None now Act.Restart Reply.Done y
engines_restarted l script told h now x y k late registry store stamps rs results = record {
  reply = reply_any script told h None now Act.Restart Reply.Done (λ start. refl) refl;
  standing = record {
    store = store told h now k.store;
    bridged = bridged_restart h now Reply.Done k.bridged;
    registry = registry h now k.registry late;
    stamps = stamps script h now k.stamps;
    regions = λ n. restart_placed l script h n now (region_of x.regions n) (region_of y.regions n) (k.regions n) (rs.each n);
    entities = rs.all ∙ k.entities;
    results = results script h now k.results;
  };
}

pub engines_evicted : Laws → (script : Script) (told : Option Tables) (h : Journal) (k : Key) (now : ℕ) (r : Reply) (x y : EnginesState) → AreStanding script told h x →
    is_cached script k.entity ≡ true → IsLate (Part.Region k.entity) now h →
    ((s : Script) (l : Journal) (by : Option ℕ) → IsPlaced s k.entity l (region_of x.regions k.entity) → IsLate (Part.Region k.entity) now l → entity_in (Act.Evict k) ≡ Some k.entity →
    Suits (strategy s k.entity) (Act.Evict k) → IsServed (λ m. IsPlaced s k.entity m (region_of y.regions k.entity)) s l by now (Act.Evict k) r) → IsAtRegion k.entity x.regions y.regions →
    y.store ≡ x.store → y.registry ≡ x.registry → y.stamps ≡ x.stamps → y.results ≡ x.results → IsAnswered script told h None now (Act.Evict k) r y
engines_evicted l script told h k now r x y w cached late served at b c d e = record {
  reply = reply_any script told h None now (Act.Evict k) r v.reply refl;
  standing = record {
    store = subst (λ z. IsStored told (entry_at now None (Act.Evict k) r ∷ h) z) (sym b) (store_stays told h None now (Act.Evict k) r x.store w.store refl refl);
    bridged = bridged_evict h k now r w.bridged;
    registry = subst (λ z. IsRegistry z (entry_at now None (Act.Evict k) r ∷ h)) (sym c) (registry_kept h None now (Act.Evict k) r x.registry w.registry refl);
    stamps = subst (λ z. AreStamps script (entry_at now None (Act.Evict k) r ∷ h) z) (sym d) (stamps_stay l script h None now (Act.Evict k) r x.stamps w.stamps refl refl);
    regions = regions_at script (entry_at now None (Act.Evict k) r ∷ h) k.entity x.regions y.regions at v.stands
        (λ i q. region_kept l script h i None now (Act.Evict k) r (region_of x.regions i) (w.regions i) (λ t. q) refl);
    entities = at.all ∙ w.entities;
    results = subst (λ z. AreResults script (entry_at now None (Act.Evict k) r ∷ h) z) (sym e) (results_stay l script h None now (Act.Evict k) r x.results w.results refl refl);
  };
}
  where
    v : IsServed (λ m. IsPlaced script k.entity m (region_of y.regions k.entity)) script h None now (Act.Evict k) r
    v = served script h None (w.regions k.entity) late refl cached
