-- A turn that ran out of memory leaves all as it was, but for the keeper's counts.
use Rattle.std.proofs.Common.{◌≡◌, ◌∙◌, ℕ, refl, sym, List, Option, Some, None, subst}
use Rattle.hib_journal.specs.Types.{Script, Act}
use Rattle.hib_journal.specs.Sessions.{Journal}
use Rattle.hib_session.specs.Session.{Follows, number_of}
use Rattle.hib_engines.specs.declared.region.Region.{Region}
use Rattle.hib_engines.specs.Engines.{EnginesState, IsRefused, IsStill}
use Rattle.hib_engines.proofs.Left.{refused_same}
use Rattle.hib_engines.proofs.Still.{still_same}
use Rattle.hib_collections_law.specs.declared.entries.Def.{Def}
use Rattle.hib_collections_law.specs.Types.{Gathered}
use Rattle.hib_collections_law.specs.Gathered.{Due, due, plain}
use Rattle.hib_collections.specs.declared.members.Gatherer.{Gatherer}
use Rattle.hib_collections.specs.Run.{IsKept, IsRefusedAt, IsStepRefused, Leaves}

-- nothing has changed, whatever was due
refused_any : (h : Journal) (s : ℕ) (x : EnginesState) (o : Option Due) → IsRefusedAt h s x x o
refused_any h s x (Some (Due.Plain a)) = refused_same h s a x x refl
refused_any h s x (Some (Due.Member p z)) = refl
refused_any h s x None = refl

pub refused_none : (script : Script) (defs : List Def) (g : Gathered) (s : ℕ) (x : EnginesState) → IsStepRefused script defs g s x x
refused_none script defs g s x = refused_any (plain script g) s x (due script defs s g)

still_at : (h : Journal) (s : ℕ) (x y : EnginesState) (o : Option Due) → IsRefusedAt h s x y o → IsStill x y
still_at h s x y (Some (Due.Plain a)) r = r.still
still_at h s x y (Some (Due.Member p z)) e = still_same x y e
still_at h s x y None e = still_same x y e

pub still_of : (script : Script) (defs : List Def) (g : Gathered) (s : ℕ) (x y : EnginesState) → IsStepRefused script defs g s x y → IsStill x y
still_of script defs g s x y r = still_at (plain script g) s x y (due script defs s g) r

pub kept_same : (script : Script) (u : Gatherer) → IsKept script u u
kept_same script u = record { number = refl; follows = λ m f. f; locks = refl; missed = refl; listed = refl }

-- one that only its session was asked of
pub kept_by : (told script : Script) (u v : Gatherer) → told ≡ script → number_of v.session ≡ number_of u.session → ((m : Journal) → Follows told u.session m → Follows told v.session m) →
    v.notes.locks ≡ u.notes.locks → v.notes.missed ≡ u.notes.missed → v.notes.listed ≡ u.notes.listed → IsKept script u v
kept_by told script u v q n f a b d = record {
  number = n;
  follows = subst (λ (z : Script). (m : Journal) → Follows z u.session m → Follows z v.session m) q f;
  locks = a;
  missed = b;
  listed = d;
}

pub leaves_same : (script : Script) (defs : List Def) (g new : Gathered) (x : EnginesState) (rs qs : List Region) (u v : Gatherer) → new ≡ g → qs ≡ rs → IsKept script u v → Leaves script defs g new x x rs qs u v
leaves_same script defs g new x rs qs u v e q k = record { same = e; engines = refused_none script defs g (number_of u.session) x; regions = q; kept = k }

-- an act of the plan was refused
pub leaves_plain : (script : Script) (defs : List Def) (g new : Gathered) (x y : EnginesState) (rs : List Region) (u v : Gatherer) (a : Act) → new ≡ g → due script defs (number_of u.session) g ≡ Some (Due.Plain a) →
    IsRefused (plain script g) (number_of u.session) a x y → IsKept script u v → Leaves script defs g new x y rs rs u v
leaves_plain script defs g new x y rs u v a e d r k = record {
  same = e;
  engines = subst (λ o. IsRefusedAt (plain script g) (number_of u.session) x y o) (sym d) r;
  regions = refl;
  kept = k;
}

pub kept_then : (script : Script) (u v w : Gatherer) → IsKept script u v → IsKept script v w → IsKept script u w
kept_then script u v w a b = record {
  number = b.number ∙ a.number;
  follows = λ m f. b.follows m (a.follows m f);
  locks = b.locks ∙ a.locks;
  missed = b.missed ∙ a.missed;
  listed = b.listed ∙ a.listed;
}
