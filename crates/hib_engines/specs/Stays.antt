-- What an entry of another part leaves: each engine goes on standing.
use Rattle.std.specs.Prelude.{◌≡◌, ◌==◌, ℕ, true, false, ◌∷◌, Some, Option, unwrap_or}
use Rattle.hib_base.specs.Tables.{Tables}
use Rattle.hib_journal.specs.Types.{Script, Part, Act, Reply}
use Rattle.hib_journal.specs.Sessions.{Journal, is_restart}
use Rattle.hib_journal.specs.Lists.{entry_at, stops}
use Rattle.hib_store.specs.Stores.{StoreState}
use Rattle.hib_update_stamps.specs.Stamped.{Stamped}
use Rattle.hib_query_cache.specs.Ranked.{Ranked}
use Rattle.hib_engines.specs.declared.region.Region.{Region}
use Rattle.hib_engines.specs.Registry.{Opened, IsRegistry}
use Rattle.hib_engines.specs.Region.{is_regional, acts_on, IsPlaced}
use Rattle.hib_engines.specs.Served.{is_for}
use Rattle.hib_engines.specs.Stamps.{AreStamps}
use Rattle.hib_engines.specs.Results.{AreResults}
use Rattle.hib_engines.specs.Store.{IsStored}
use Rattle.hib_engines.specs.Engines.{EnginesState, AreStanding, IsReady}

abbrev pub RegistryStays : Type 0
RegistryStays = (l : Journal) (by : Option ℕ) (now : ℕ) (a : Act) (r : Reply) (x : Opened) → IsRegistry x l
    → is_for Part.Registry a (unwrap_or by 0) ≡ false → IsRegistry x (entry_at now by a r ∷ l)

-- a kill and a restart the store hears of
abbrev pub StoreStays : Type 0
StoreStays = (told : Option Tables) (l : Journal) (by : Option ℕ) (now : ℕ) (a : Act) (r : Reply) (x : StoreState) → IsStored told l x
    → is_for Part.Store a (unwrap_or by 0) ≡ false → stops a ≡ false → IsStored told (entry_at now by a r ∷ l) x

abbrev pub StampsStay : Type 0
StampsStay = (script : Script) (l : Journal) (by : Option ℕ) (now : ℕ) (a : Act) (r : Reply) (x : Stamped) → AreStamps script l x
    → is_for Part.Stamps a (unwrap_or by 0) ≡ false → is_restart a ≡ false → AreStamps script (entry_at now by a r ∷ l) x

abbrev pub ResultsStay : Type 0
ResultsStay = (script : Script) (l : Journal) (by : Option ℕ) (now : ℕ) (a : Act) (r : Reply) (x : Ranked) → AreResults script l x
    → is_for Part.Results a (unwrap_or by 0) ≡ false → is_restart a ≡ false → AreResults script (entry_at now by a r ∷ l) x

abbrev pub RegionStays : Type 0
RegionStays = (script : Script) (l : Journal) (n : ℕ) (by : Option ℕ) (now : ℕ) (a : Act) (r : Reply) (x : Region) → IsPlaced script n l x
    → (is_regional a ≡ true → (acts_on a == n) ≡ false) → is_restart a ≡ false → IsPlaced script n (entry_at now by a r ∷ l) x

-- a list is answered by the store, which stays as it is
abbrev pub ListsLeave : Type 0
ListsLeave = (script : Script) (told : Option Tables) (h : Journal) (s now q : ℕ) (r : Reply) (x : EnginesState)
    → IsReady script told h s now (Act.List q) x → AreStanding script told (entry_at now (Some s) (Act.List q) r ∷ h) x
