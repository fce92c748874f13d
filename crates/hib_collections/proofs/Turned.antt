-- A turn of a session among all sessions.
use Rattle.std.specs.Prelude.{slice_get, slice_set}
use Rattle.std.proofs.Common.{◌≡◌, ℕ, ◌<◌, ◌==◌, inl, inr, true, false, List, ◌∷◌, length, get_or, Some, None, Option, Result, Ok, Err, OnErr, IfOk, refl, ap, sym, ◌∙◌, subst, arith}
use Rattle.std.proofs.lemmas.Bool.{eqb-true, true≢false}
use Rattle.std.proofs.lemmas.List.{get_or-set_same, get_or-set_other, length-set}
use Rattle.std.proofs.lemmas.Option.{slice_get_within, slice_get-get_or, get_or_from_slice_get}
use Rattle.hib_base.proofs.Tables.{Tested, tested}
use Rattle.hib_journal.specs.Types.{Script}
use Rattle.hib_journal.specs.Sessions.{own, is_session}
use Rattle.hib_law.proofs.Basics.{some_same}
use Rattle.hib_session.specs.Session.{Follows, number_of}
use Rattle.hib_engines.specs.declared.region.Region.{Region}
use Rattle.hib_engines.specs.Engines.{EnginesState, IsStill}
use Rattle.hib_engines.specs.Origin.{Origin}
use Rattle.hib_engines.proofs.Bridge.{self_by}
use Rattle.hib_engines.proofs.Rose.{rose_on}
use Rattle.hib_engines.proofs.Still.{still_same, still_standing}
use Rattle.hib_collections_law.specs.declared.entries.Def.{Def}
use Rattle.hib_collections_law.specs.declared.entries.GatherEntry.{GatherEntry}
use Rattle.hib_collections_law.specs.Types.{Gathered}
use Rattle.hib_collections_law.specs.Gathered
use Rattle.hib_collections_law.specs.Gathered.{is_by, mine, plain}
use Rattle.hib_collections.specs.declared.members.Gatherer.{Gatherer}
use Rattle.hib_collections.specs.declared.turns.Turned.{Turned}
use Rattle.hib_collections.specs.Collected.{AreCollected}
use Rattle.hib_collections.specs.Gatherers.{IsGatherer, AreGatherers}
use Rattle.hib_collections.specs.Notes.{AreNoted}
use Rattle.hib_collections.specs.Run.{Does, HasMoved, IsKept, IsRun, IsStepRefused, Leaves, Serves, Turns}
use Rattle.hib_collections.proofs.Entries.{own_other, mine_other}
use Rattle.hib_collections.proofs.Left.{still_of}

-- an entry of one session is of no other
pub by_other : (s t : ℕ) (x : GatherEntry) → is_by s x ≡ true → (s == t) ≡ false → is_by t x ≡ false
by_other s t (GatherEntry.Plain e) p d = by_session e.session p
  where
    by_session : (o : Option ℕ) → is_session s o ≡ true → is_session t o ≡ false
    by_session None q = refl
    by_session (Some n) q = subst (λ z. (z == t) ≡ false) (sym (eqb-true n s q)) d
by_other s t (GatherEntry.Member m) p d = subst (λ z. (z == t) ≡ false) (sym (eqb-true m.session s p)) d

-- what is noted of a session that was kept
pub noted_kept : (script : Script) (u v : Gatherer) (m : Gathered) → IsKept script u v → AreNoted u.notes m → AreNoted v.notes m
noted_kept script u v m k n = record { locks = k.locks ∙ n.locks; missed = k.missed ∙ n.missed; listed = k.listed ∙ n.listed }

pub kept_member : (script : Script) (g : Gathered) (s : ℕ) (u v : Gatherer) → IsKept script u v → IsGatherer script g s u → IsGatherer script g s v
kept_member script g s u v k w = record {
  number = k.number ∙ w.number;
  follows = k.follows (own s (plain script g)) w.follows;
  noted = noted_kept script u v (mine s g) k w.noted;
}

pub kept_run : (script : Script) (defs : List Def) (from : Origin) (g new : Gathered) (x y : EnginesState) (rs qs : List Region) → new ≡ g → IsStill x y → qs ≡ rs → IsRun script defs from g x rs →
    IsRun script defs from new y qs
kept_run script defs from g new x y rs qs e w q run =
    subst (λ (h : Gathered). IsRun script defs from h y qs) (sym e) (record {
      gathered = run.gathered;
      few = run.few;
      live = run.live;
      engines = still_standing script from.tables (plain script g) x y w run.engines;
      regions = subst (λ zs. AreCollected script defs g zs) (sym q) run.regions;
      ordered = run.ordered;
      faults = rose_on from.faults (Rattle.hib_journal.specs.Runs.fault_count (plain script g)) x.store.faults y.store.faults run.faults w.store.faults;
      built = run.built;
      set = run.set;
    })

module _ (script : Script) (ys : List Gatherer) (s : ℕ) (u v : Gatherer) (at : slice_get ys s ≡ Some u) where
  l : s < length ys
  l = slice_get_within ys s u at

  here : (z : Gatherer) → slice_get (slice_set ys s v) s ≡ Some z → v ≡ z
  here z f = some_same (sym (slice_get-get_or (slice_set ys s v) s v (omega (arith, length-set ys s v, l)) ∙ ap Some (get_or-set_same ys s v v l)) ∙ f)

  there : (t : ℕ) (z : Gatherer) → (s == t) ≡ false → slice_get (slice_set ys s v) t ≡ Some z → slice_get ys t ≡ Some z
  there t z d f =
      let i : t < length (slice_set ys s v) = slice_get_within (slice_set ys s v) t z f in
      let j : t < length ys = omega (arith, length-set ys s v, i) in
      slice_get-get_or ys t z j
      ∙ ap Some (sym (get_or-set_other ys s t v z (λ e. true≢false (sym (self_by s) ∙ subst (λ n. (s == n) ≡ false) e d))) ∙ get_or_from_slice_get (slice_set ys s v) t z z f)

  -- with one entry more, of the session at a place, which is now v
  pub gatherers_step : (g : Gathered) (x : GatherEntry) → AreGatherers script g ys → is_by s x ≡ true → IsGatherer script (x ∷ g) s v → AreGatherers script (x ∷ g) (slice_set ys s v)
  gatherers_step g x w b m = record { all = length-set ys s v ∙ w.all; each = λ t z p. by_test t z p (tested (s == t)) }
    where
      by_test : (t : ℕ) (z : Gatherer) → slice_get (slice_set ys s v) t ≡ Some z → Tested (s == t) → IsGatherer script (x ∷ g) t z
      by_test t z p (inl q) =
          let e : s ≡ t = eqb-true s t q in
          subst (λ (c : Gatherer). IsGatherer script (x ∷ g) t c) (here z (subst (λ n. slice_get (slice_set ys s v) n ≡ Some z) (sym e) p)) (subst (λ n. IsGatherer script (x ∷ g) n v) e m)
      by_test t z p (inr q) =
          let o : IsGatherer script g t z = w.each t z (there t z q p) in
          let b : is_by t x ≡ false = by_other s t x b q in
          record {
            number = o.number;
            follows = subst (λ h. Follows script z.session h) (sym (own_other script g t x b)) o.follows;
            noted = subst (λ h. AreNoted z.notes h) (sym (mine_other script g t x b)) o.noted;
          }

  -- and with none
  pub gatherers_kept : (g : Gathered) → AreGatherers script g ys → IsKept script u v → AreGatherers script g (slice_set ys s v)
  gatherers_kept g w k = record { all = length-set ys s v ∙ w.all; each = λ t z p. by_test t z p (tested (s == t)) }
    where
      by_test : (t : ℕ) (z : Gatherer) → slice_get (slice_set ys s v) t ≡ Some z → Tested (s == t) → IsGatherer script g t z
      by_test t z p (inl q) =
          let e : s ≡ t = eqb-true s t q in
          subst (λ (c : Gatherer). IsGatherer script g t c) (here z (subst (λ n. slice_get (slice_set ys s v) n ≡ Some z) (sym e) p))
          (subst (λ n. IsGatherer script g n v) e (kept_member script g s u v k (w.each s u at)))
      by_test t z p (inr q) = w.each t z (there t z q p)

-- a session that was read at a place
pub at_place : (script : Script) (g : Gathered) (ys : List Gatherer) (i s : ℕ) (y : Gatherer) → AreGatherers script g ys → i ≡ s → s < length script.sessions → y ≡ get_or ys i y → slice_get ys s ≡ Some y
at_place script g ys i s y w e l v =
    slice_get-get_or ys s y (subst (λ n. s < n) (sym w.all) l) ∙ ap Some (sym (subst (λ n. y ≡ get_or ys n y) e v))

-- what a turn comes to among all sessions
pub record HasTurned {E : Type 0} (script : Script) (defs : List Def) (from : Origin) (s : ℕ) (r : Result Turned E) (g new : Gathered) (x y : EnginesState) (qs : List Region) (zs : List Gatherer) : Type 0 where
  pub run : IsRun script defs from new y qs
  pub sessions : AreGatherers script new zs
  pub does : IfOk r (Does script defs s g new x y)
  pub same : OnErr r (new ≡ g)
  pub err : OnErr r (IsStill x y)
  pub counts : OnErr r (IsStepRefused script defs g s x y)

pub turned : {E : Type 0} (script : Script) (defs : List Def) (from : Origin) (s : ℕ) (r : Result Turned E) (g new : Gathered) (x y : EnginesState) (rs qs : List Region) (ys : List Gatherer) (u v : Gatherer) →
    IsRun script defs from g x rs → AreGatherers script g ys → slice_get ys s ≡ Some u → IfOk r (Turns script defs from (number_of u.session) g new x y rs qs u v) →
    OnErr r (Leaves script defs g new x y rs qs u v) → HasTurned script defs from s r g new x y qs (slice_set ys s v)
turned {E} script defs from s (Err e) g new x y rs qs ys u v run all at ok err = record {
  run = kept_run script defs from g new x y rs qs err.same (still_of script defs g (number_of u.session) x y err.engines) err.regions run;
  sessions = subst (λ (h : Gathered). AreGatherers script h (slice_set ys s v)) (sym err.same) (gatherers_kept script ys s u v at g all err.kept);
  does = tt;
  same = err.same;
  err = still_of script defs g (number_of u.session) x y err.engines;
  counts = subst (λ n. IsStepRefused script defs g n x y) (all.each s u at).number err.engines;
}
turned {E} script defs from s (Ok t) g new x y rs qs ys u v run all at ok err = by_turn t (subst (λ n. Turns script defs from n g new x y rs qs u v t) (all.each s u at).number ok)
  where
    served : (t : Turned) → Serves script defs from s g new x y qs v t → HasMoved script defs s g new x y t → Does script defs s g new x y t → HasTurned {E = E} script defs from s (Ok t) g new x y qs (slice_set ys s v)
    served t w m d = record {
      run = w.run;
      sessions = subst (λ (h : Gathered). AreGatherers script h (slice_set ys s v)) (sym w.grown)
          (gatherers_step script ys s u v at g w.entry all w.by (subst (λ (h : Gathered). IsGatherer script h s v) w.grown w.member));
      does = d;
      same = tt;
      err = tt;
      counts = tt;
    }

    moved : (t : Turned) → Serves script defs from s g new x y qs v t → HasMoved script defs s g new x y t
    moved t w = record { entry = w.entry; grown = w.grown; by = w.by; due = w.due; asked = w.asked; fault = w.fault; told = w.told }

    by_turn : (t : Turned) → Turns script defs from s g new x y rs qs u v t → HasTurned {E = E} script defs from s (Ok t) g new x y qs (slice_set ys s v)
    by_turn Turned.Done w = record {
      run = kept_run script defs from g new x y rs qs w.leaves.same (still_same x y w.still) w.leaves.regions run;
      sessions = subst (λ (h : Gathered). AreGatherers script h (slice_set ys s v)) (sym w.leaves.same) (gatherers_kept script ys s u v at g all w.leaves.kept);
      does = record { same = w.leaves.same; over = subst (λ (h : Gathered). Gathered.due script defs s h ≡ None) (sym w.leaves.same) w.over; still = w.still };
      same = tt;
      err = tt;
      counts = tt;
    }
    by_turn Turned.Did w = served Turned.Did w (moved Turned.Did w) (moved Turned.Did w)
    by_turn (Turned.Hit e) w = served (Turned.Hit e) w (moved (Turned.Hit e) w) (moved (Turned.Hit e) w)
