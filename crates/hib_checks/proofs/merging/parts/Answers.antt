use Rattle.std.proofs.Common.{◌≡◌, ◌++◌, inl, inr, List, [], ◌∷◌, map, refl, sym, ap, ◌∙◌, subst, append-nil}
use Rattle.hib_journal.specs.Types.{Part}
use Rattle.hib_journal.specs.Sessions.{Journal}
use Rattle.hib_journal.specs.Kept.{Kept, past}
use Rattle.hib_journal.specs.Lists.{of_part}
use Rattle.hib_merge.specs.Merging.{IsInOne}
use Rattle.hib_parts.specs.Listed.{AreOf}
use Rattle.hib_parts.proofs.Lists.{none_of}
use Rattle.hib_checks.proofs.merging.parts.Goals as goal

both : (v w x : List Kept) (r s : Kept) → v ≡ [] → w ≡ v ++ r ∷ [] → x ≡ w ++ s ∷ [] → map past x ≡ past r ∷ past s ∷ []
both v w x r s a b c = ap (map past) (c ∙ ap (λ k. k ++ s ∷ []) (b ∙ ap (λ k. k ++ r ∷ []) a))

apart : (r s : Journal) → AreOf Part.Registry r → AreOf Part.Store s → (p : Part) → IsInOne p (r ∷ s ∷ [])
apart r s a b Part.Registry = inr (append-nil (of_part Part.Registry s) ∙ none_of Part.Store Part.Registry s b refl)
apart r s a b Part.Store = inl (none_of Part.Registry Part.Store r a refl, inr refl)
apart r s a b Part.Stamps = inl (none_of Part.Registry Part.Stamps r a refl, inr refl)
apart r s a b Part.Results = inl (none_of Part.Registry Part.Results r a refl, inr refl)
apart r s a b (Part.Region n) = inl (none_of Part.Registry (Part.Region n) r a refl, inr refl)
apart r s a b (Part.Own n) = inl (none_of Part.Registry (Part.Own n) r a refl, inr refl)

pub returns-clause-apart : goal.returns-clause-apart
returns-clause-apart c =
    subst (λ (ls : List Journal). (p : Part) → IsInOne p ls)
    (sym (both c.new-lists.result c.push.new.self c.push-2.new.self c.in_ok-registry.field-0 c.in_ok-store.field-0 c.new-lists.ensures c.in_ok-push.ensures.ok c.in_ok-push-2.ensures.ok))
    (apart (past c.in_ok-registry.field-0) (past c.in_ok-store.field-0) c.in_ok-registry.ensures.part c.in_ok-store.ensures.part)
