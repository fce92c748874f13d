-- The regions of the collections answer as is due, and stand for the journal with one more entry.
use Rattle.std.specs.Prelude.{slice_get}
use Rattle.std.proofs.Common.{◌≡◌, ℕ, zero, suc, ◌+◌, ◌<◌, ◌==◌, false, List, [], ◌∷◌, length, Some, Option, refl, ap, sym, ◌∙◌, subst, arith}
use Rattle.hib_base.specs.Tables.{Tables}
use Rattle.hib_journal.specs.Types.{Key, Part, Script, Strategy, Act, Reply}
use Rattle.hib_journal.specs.Sessions.{Journal, is_restart, same_part}
use Rattle.hib_journal.specs.Next.{strategy}
use Rattle.hib_journal.specs.Lists.{IsLate}
use Rattle.hib_journal.specs.Room.{key}
use Rattle.hib_engines.specs.declared.region.Region.{Region}
use Rattle.hib_engines.specs.Laws.{Laws}
use Rattle.hib_engines.specs.Region.{acts_on, entity_in, IsPlaced, Suits}
use Rattle.hib_engines.specs.Regions.{region_of, IsAtRegion}
use Rattle.hib_engines.specs.Served.{IsServed}
use Rattle.hib_engines.proofs.Elsewhere.{region_kept}
use Rattle.hib_engines.proofs.RegionList.{regions_at}
use Rattle.hib_collections_law.specs.declared.entries.Def.{Def}
use Rattle.hib_collections_law.specs.declared.entries.MemberAct.{MemberAct}
use Rattle.hib_collections_law.specs.declared.entries.MemberEntry.{MemberEntry}
use Rattle.hib_collections_law.specs.Types.{Gathered}
use Rattle.hib_collections_law.specs.Gathered
use Rattle.hib_collections_law.specs.Gathered.{Due, IsGathered, region_act, region_script, regions}
use Rattle.hib_collections_law.proofs.There.{is_there, is_region, regions_below}
use Rattle.hib_collections.specs.Collected.{AreCollected}
use Rattle.hib_collections.specs.Run.{IsAnsweredAt}

-- an act at a key of a region is on that region, and no restart

on_region : (k : Key) (x : MemberAct) → acts_on (region_act k x) ≡ k.entity
on_region k (MemberAct.Get t) = refl
on_region k (MemberAct.Put l t f) = refl
on_region k (MemberAct.Lock f) = refl
on_region k (MemberAct.Unlock i) = refl

entity_is : (k : Key) (x : MemberAct) → entity_in (region_act k x) ≡ Some k.entity
entity_is k (MemberAct.Get t) = refl
entity_is k (MemberAct.Put l t f) = refl
entity_is k (MemberAct.Lock f) = refl
entity_is k (MemberAct.Unlock i) = refl

no_restart : (k : Key) (x : MemberAct) → is_restart (region_act k x) ≡ false
no_restart k (MemberAct.Get t) = refl
no_restart k (MemberAct.Put l t f) = refl
no_restart k (MemberAct.Lock f) = refl
no_restart k (MemberAct.Unlock i) = refl

suits : (k : Key) (x : MemberAct) → Suits Strategy.ReadWrite (region_act k x)
suits k (MemberAct.Get t) = refl
suits k (MemberAct.Put l t f) = refl
suits k (MemberAct.Lock f) = refl
suits k (MemberAct.Unlock i) = refl

some_at : {A : Type 0} (xs : List A) (n : ℕ) → n < length xs → (x : A) × (slice_get xs n ≡ Some x)
some_at [] n l = absurd (omega arith)
some_at (x ∷ xs) zero l = (x, refl)
some_at (x ∷ xs) (suc n) l = some_at xs n (omega arith)

module _ (script : Script) (defs : List Def) (g : Gathered) where
  -- the region of a collection has answered an act that is due
  pub answered_at : Laws → (told : Option Tables) (s now : ℕ) (p : ℕ × ℕ) (x : MemberAct) (a : Act) (r : Reply) (rs qs : List Region) → IsGathered script defs told g →
      Gathered.due script defs s g ≡ Some (Due.Member p x) → a ≡ region_act (key p.0 p.1) x → now ≡ length g + 1 → AreCollected script defs g rs →
      ((v : Script) (l : Journal) (by : Option ℕ) → IsPlaced v p.0 l (region_of rs p.0) → IsLate (Part.Region p.0) now l → entity_in a ≡ Some p.0 → Suits (strategy v p.0) a →
      IsServed (λ m. IsPlaced v p.0 m (region_of qs p.0)) v l by now a r) → IsAtRegion p.0 rs qs → IsAnsweredAt script defs g s now p x r qs
  answered_at w told s now p x a r rs qs l d e n c f at = record {
    reply = v.reply [];
    regions = regions_at (region_script script defs) (Gathered.region_entry m ∷ regions g) p.0 rs qs at v.stands
        (λ i q. region_kept w (region_script script defs) (regions g) i (Some s) now (region_act (key p.0 p.1) x) r (region_of rs i) (c i)
        (λ t. ap (λ z. z == i) (on_region (key p.0 p.1) x) ∙ q) (no_restart (key p.0 p.1) x));
  }
    where
      m : MemberEntry
      m = record { tick = now; session = s; collection = p.0; owner = p.1; act = x; reply = r }

      def : (d : Def) × (slice_get defs p.0 ≡ Some d)
      def = some_at defs p.0 (is_there script defs told g s p x l d)

      late : IsLate (Part.Region p.0) now (regions g)
      late = omega (arith, regions_below script defs told g l (λ d. same_part (Part.Region p.0) d.part), n)

      v : IsServed (λ m. IsPlaced (region_script script defs) p.0 m (region_of qs p.0)) (region_script script defs) (regions g) (Some s) now (region_act (key p.0 p.1) x) r
      v = subst (λ z. IsServed (λ m. IsPlaced (region_script script defs) p.0 m (region_of qs p.0)) (region_script script defs) (regions g) (Some s) now z r) e
          (f (region_script script defs) (regions g) (Some s) (c p.0) late (ap entity_in e ∙ entity_is (key p.0 p.1) x)
          (subst (λ z. Suits z a) (sym (is_region script defs p.0 def.0 def.1).strategy) (subst (λ z. Suits Strategy.ReadWrite z) (sym e) (suits (key p.0 p.1) x))))

  -- the same, of a region by a number that is the collection's
  pub answered_by : Laws → (told : Option Tables) (s now n : ℕ) (p : ℕ × ℕ) (x : MemberAct) (a : Act) (r : Reply) (rs qs : List Region) → n ≡ p.0 → IsGathered script defs told g →
      Gathered.due script defs s g ≡ Some (Due.Member p x) → a ≡ region_act (key p.0 p.1) x → now ≡ length g + 1 → AreCollected script defs g rs →
      ((v : Script) (l : Journal) (by : Option ℕ) → IsPlaced v n l (region_of rs n) → IsLate (Part.Region n) now l → entity_in a ≡ Some n → Suits (strategy v n) a →
      IsServed (λ m. IsPlaced v n m (region_of qs n)) v l by now a r) → IsAtRegion n rs qs → IsAnsweredAt script defs g s now p x r qs
  answered_by w told s now n p x a r rs qs e l d f t c =
      subst (λ (i : ℕ). ((v : Script) (l : Journal) (by : Option ℕ) → IsPlaced v i l (region_of rs i) → IsLate (Part.Region i) now l → entity_in a ≡ Some i → Suits (strategy v i) a →
      IsServed (λ m. IsPlaced v i m (region_of qs i)) v l by now a r) → IsAtRegion i rs qs → IsAnsweredAt script defs g s now p x r qs) (sym e)
      (λ h at. answered_at w told s now p x a r rs qs l d f t c h at)
