-- The list of a region with a fence is legal by itself.
use Rattle.std.proofs.Common.{◌≡◌, ◌<◌, ◌≤◌, ◌^◌, ◌+◌, ℕ, [], ◌∷◌, Some, None, Option, refl, ap, ◌∙◌, arith, inl}
use Rattle.hib_base.specs.Tables.{Tables}
use Rattle.hib_journal.specs.Types.{Key, Strategy, Script, Act, Reply, Part, Locked, Unlocked}
use Rattle.hib_journal.specs.Sessions.{Journal}
use Rattle.hib_journal.specs.Next.{strategy}
use Rattle.hib_journal.specs.Lists.{entry_at, IsLate, IsReplyOf, IsStoreReply}
use Rattle.hib_engines.specs.declared.region.Region.{Region}
use Rattle.hib_engines.specs.Region.{IsPlaced}
use Rattle.hib_engines.specs.Built.{IsBuilt}
use Rattle.hib_engines.specs.Fenced.{fence_lock, fence_unlock, with_fence, IsFenced}
use Rattle.hib_parts.specs.Listed.{IsPartList, last_of}
use Rattle.hib_parts.proofs.Lists.{late_in, part_more}

lock_reply : (script : Script) (told : Option Tables) (l : Journal) (now : ℕ) (k : Key) (f : ℕ) (r : Reply) → IsReplyOf script l None now (Act.Lock k None f) r →
    IsStoreReply script told l (entry_at now None (Act.Lock k None f) r)
lock_reply script None l now k f r g = (refl, λ q. inl (g []))
lock_reply script (Some start) l now k f r g = inl (g start)

unlock_reply : (script : Script) (told : Option Tables) (l : Journal) (now : ℕ) (k : Key) (i : ℕ) (r : Reply) → IsReplyOf script l None now (Act.Unlock k i) r →
    IsStoreReply script told l (entry_at now None (Act.Unlock k i) r)
unlock_reply script None l now k i r g = (refl, λ q. inl (g []))
unlock_reply script (Some start) l now k i r g = inl (g start)

-- what a region's type keeps, with the fence
abbrev pub IsKept : Script → Option Tables → ℕ → Journal → ℕ → Region → Type 0
IsKept script told n l last x = IsBuilt script × IsPartList script told (Part.Region n) l last × IsPlaced script n l x

pub fence_kept : (script : Script) (told : Option Tables) (l : Journal) (last now : ℕ) (k : Key) (f : ℕ) (p : Locked) (q : Unlocked) (x z : Region) →
    IsKept script told k.entity l last x → strategy script k.entity ≡ Strategy.ReadWrite → last_of l < now → now < 2 ^ 62 →
    ((given : Script) (j : Journal) → IsPlaced given k.entity j x → IsLate (Part.Region k.entity) now j → strategy given k.entity ≡ Strategy.ReadWrite →
    IsFenced (λ m. IsPlaced given k.entity m z) given j now k f p q) →
    IsKept script told k.entity (with_fence now k f p q l) (now + 1) z
fence_kept script told l last now k f p q x z h g late few served =
    let w : IsFenced (λ m. IsPlaced script k.entity m z) script l now k f p q = served script l h.2 (late_in (Part.Region k.entity) l now h.1.of_part late) g in
    let first : IsPartList script told (Part.Region k.entity) (fence_lock now k f p ∷ l) now =
    part_more script told (Part.Region k.entity) l last (fence_lock now k f p) h.1 refl late (omega arith) (λ o. lock_reply script told l now k f (Reply.Locked p) w.lock) in
    let both : IsPartList script told (Part.Region k.entity) (with_fence now k f p q l) (now + 1) =
    part_more script told (Part.Region k.entity) (fence_lock now k f p ∷ l) now (fence_unlock now k p q) first refl (omega arith) (omega arith)
    (λ o. unlock_reply script told (fence_lock now k f p ∷ l) (now + 1) k p.id (Reply.Unlocked q) w.unlock) in
    (h.0, both, w.stands)

-- the list after both entries
pub fence_listed : (now : ℕ) (k : Key) (f : ℕ) (p : Locked) (q : Unlocked) (l a b c : Journal) (d e : Rattle.hib_journal.specs.Types.Entry) → a ≡ l → b ≡ d ∷ a → c ≡ e ∷ b → d ≡ fence_lock now k f p →
    e ≡ fence_unlock now k p q → c ≡ with_fence now k f p q l
fence_listed now k f p q l a b c d e s t u v w = u ∙ (ap (λ (x : Rattle.hib_journal.specs.Types.Entry). x ∷ b) w ∙ ap (λ (m : Journal). fence_unlock now k p q ∷ m)
    (t ∙ (ap (λ (x : Rattle.hib_journal.specs.Types.Entry). x ∷ a) v ∙ ap (λ (m : Journal). fence_lock now k f p ∷ m) s)))
