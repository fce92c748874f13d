-- An entry of another part leaves a registry and a region standing.
use Rattle.std.specs.Prelude.{unwrap_or}
use Rattle.std.proofs.Common.{◌≡◌, ℕ, true, false, ◌==◌, ◌∷◌, Option, refl}
use Rattle.hib_journal.specs.Types.{Part, Script, Act, Reply}
use Rattle.hib_journal.specs.Sessions.{Journal, is_restart}
use Rattle.hib_journal.specs.Lists.{entry_at}
use Rattle.hib_engines.specs.declared.region.Region.{Region}
use Rattle.hib_engines.specs.Registry.{Opened, IsRegistry}
use Rattle.hib_engines.specs.Region.{is_regional, acts_on, IsPlaced}
use Rattle.hib_engines.specs.Laws.{Laws}
use Rattle.hib_engines.specs.Served.{is_for}
use Rattle.hib_engines.proofs.Opened.{registry_stays}
use Rattle.hib_engines.proofs.Grows.{stays, elsewhere}

pub registry_kept : (l : Journal) (by : Option ℕ) (now : ℕ) (a : Act) (r : Reply) (x : Opened) → IsRegistry x l → is_for Part.Registry a (unwrap_or by 0) ≡ false → IsRegistry x (entry_at now by a r ∷ l)
registry_kept l by now a r x k p = registry_stays x (entry_at now by a r) l (unwrap_or by 0) k refl p

pub region_kept : Laws → (script : Script) (l : Journal) (n : ℕ) (by : Option ℕ) (now : ℕ) (a : Act) (r : Reply) (x : Region) → IsPlaced script n l x →
    (is_regional a ≡ true → (acts_on a == n) ≡ false) → is_restart a ≡ false → IsPlaced script n (entry_at now by a r ∷ l) x
region_kept w script l n by now a r x k d q = stays w script l (entry_at now by a r) n x (elsewhere a (unwrap_or by 0) n (entry_at now by a r) refl refl q d) k
