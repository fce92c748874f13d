-- The item of one owner is the row of the members at every entry of a journal at which it is sound.
use Rattle.std.specs.Option.{option_map_or}
use Rattle.std.proofs.Common.{◌≡◌, ℕ, suc, ◌≤◌, true, false, ◌&&◌, List, [], ◌∷◌, length, slice_get, Some, None, Option, refl, sym, ◌∙◌, subst, arith}
use Rattle.std.proofs.lemmas.Bool.{and_parts}
use Rattle.std.specs.List.{list_all}
use Rattle.hib_base.specs.Tables.{Tables}
use Rattle.hib_journal.specs.Types.{Key, Script, Act}
use Rattle.hib_journal.specs.Sessions.{Journal}
use Rattle.hib_journal.specs.Slot.{Touch, Slot, slot_from, history, touch}
use Rattle.hib_journal.specs.Room.{key}
use Rattle.hib_journal.specs.Legal.{reply_of}
use Rattle.hib_journal.specs.Lists.{entry_at}
use Rattle.hib_journal.specs.Sound.{is_calm, was_reused}
use Rattle.hib_law.proofs.Guarded.{View, IsCoherent}
use Rattle.hib_law.proofs.Views.{history_step}
use Rattle.hib_law.proofs.Basics.{none_some, some_same}
use Rattle.hib_collections_law.specs.Types.{Def, GatherEntry, Gathered}
use Rattle.hib_collections_law.specs.Gathered.{mended, due_in, regions, region_entry, IsGathered}
use Rattle.hib_collections_law.proofs.Mended.{are_mended, Hits, hits, due_same}
use Rattle.hib_collections_law.proofs.Untouched.{IsFit, IsOnce}
use Rattle.hib_collections_law.proofs.Versions.{inside_restart, reused_before}
use Rattle.hib_collections_law.proofs.Cohere

module _ (script : Script) (defs : List Def) (start : Tables) (place : ℕ) (d : Def) (at : slice_get defs place ≡ Some d) (o : ℕ) (f : IsFit script start d) where
  abbrev K : Key
  K = key place (suc o)

  abbrev H : Gathered → Journal
  H g = mended script start g

  abbrev view_of : Gathered → View
  view_of g = Cohere.view_of script defs start place d at o f g

  pub record IsSoundIn (g : Gathered) : Type 0 where
    pub calm : list_all (λ t. is_calm t.0) (history K (regions g)) ≡ true
    pub once : IsOnce d (H g)

  vacant_at_first : (timeout : ℕ) → slot_from timeout [] ≡ Slot.Vacant
  unfolding slot_from
  vacant_at_first timeout = refl

  once_before : (x : GatherEntry) (g : Gathered) → IsGathered script defs (Some start) (x ∷ g) → length g ≤ 4611686018427387903 → IsOnce d (H (x ∷ g)) → IsOnce d (H g)
  once_before (GatherEntry.Plain e) g l n c k m = reused_before k e (H g) (inside_restart e.act (are_mended script defs start (GatherEntry.Plain e ∷ g) l (omega arith)).inside.0) (c k m)
  once_before (GatherEntry.Member m) g l n c k j = by_hit (hits script defs m g l.1)
    where
      by_hit : Hits script defs m g → was_reused k (H g) ≡ false
      by_hit (Hits.No q) = rw q at c k j
      by_hit (Hits.Yes y t r q z u i) =
          let h : due_in script m.session (H g) ≡ Some (Act.List r) = sym (due_same script defs start g (are_mended script defs start g l.0 (omega arith)) m.session) ∙ u in
          let b : was_reused k (entry_at m.tick (Some m.session) (Act.List r) (reply_of script start (H g) m.session m.tick (Act.List r)) ∷ H g) ≡ false = rw (q, h) at c k j in
          reused_before k (entry_at m.tick (Some m.session) (Act.List r) (reply_of script start (H g) m.session m.tick (Act.List r))) (H g) refl b

  pub coherent : (g : Gathered) → IsGathered script defs (Some start) g → length g ≤ 4611686018427387903 → IsSoundIn g → IsCoherent (view_of g)
  coherent [] l n c = record {
    holding = rw (vacant_at_first script.timeout) (record { item = tt; count = refl; single = tt; lone = tt });
    grown = λ s b a z. absurd z;
    safe = λ s b a z. absurd z;
  }
  coherent (GatherEntry.Plain e ∷ g) l n c =
      let once : IsOnce d (H g) = once_before (GatherEntry.Plain e) g l (omega arith) c.once in
      Cohere.plain_next script defs start place d at o f e g l (omega arith) once (coherent g l.0 (omega arith) (record { calm = c.calm; once = once }))
  coherent (GatherEntry.Member m ∷ g) l n c =
      let once : IsOnce d (H g) = once_before (GatherEntry.Member m) g l (omega arith) c.once in
      let q : (list_all (λ t. is_calm t.0) (history K (regions g)) ≡ true) × ((x : Touch) → touch K (region_entry m) ≡ Some x → is_calm x ≡ true) = by_touch (touch K (region_entry m)) refl in
      Cohere.member_next script defs start place d at o f m g l (omega arith) q.1 (coherent g l.0 (omega arith) (record { calm = q.0; once = once }))
    where
      calm_step : list_all (λ t. is_calm t.0) (option_map_or (λ t. (t, m.tick) ∷ history K (regions g)) (touch K (region_entry m)) (history K (regions g))) ≡ true
      calm_step = rw (history_step K (region_entry m) (regions g) (Cohere.region_inside script defs start place d at o f (key m.collection m.owner) m.act)) at c.calm

      by_touch : (t : Option Touch) → touch K (region_entry m) ≡ t → (list_all (λ t. is_calm t.0) (history K (regions g)) ≡ true) × ((x : Touch) → touch K (region_entry m) ≡ Some x → is_calm x ≡ true)
      by_touch None p = (rw p at calm_step, λ x q. none_some (sym p ∙ q))
      by_touch (Some y) p =
          let z : (is_calm y && list_all (λ t. is_calm t.0) (history K (regions g))) ≡ true = rw p at calm_step in
          let v : (is_calm y ≡ true) × (list_all (λ t. is_calm t.0) (history K (regions g)) ≡ true) = and_parts (is_calm y) (list_all (λ t. is_calm t.0) (history K (regions g))) z in
          (v.1, λ x q. subst (λ b. is_calm b ≡ true) (some_same (sym p ∙ q)) v.0)
