-- What a region answers is due, and afterwards it stands for the list with the entry.
use Rattle.std.specs.Prelude.{unwrap_or}
use Rattle.std.proofs.Common.{◌≡◌, ℕ, true, ◌∷◌, Some, None, Option, refl, sym, ◌∙◌, subst}
use Rattle.std.specs.Option.{option_map}
use Rattle.hib_journal.specs.Types.{Key, Part, Script, Act, Reply}
use Rattle.hib_journal.specs.Sessions.{Journal}
use Rattle.hib_journal.specs.Slot.{key_in}
use Rattle.hib_journal.specs.Next.{strategy}
use Rattle.hib_journal.specs.Lists.{entry_at, IsLate}
use Rattle.hib_engines.specs.declared.region.Region.{Region}
use Rattle.hib_engines.specs.Region.{answer_in, region_after, emptied, is_of_key, is_regional, entity_of, entity_in, acts_on, IsPlaced, Suits}
use Rattle.hib_engines.specs.Laws.{Laws}
use Rattle.hib_engines.specs.Served.{IsServed}
use Rattle.hib_engines.proofs.Regions.{answers}
use Rattle.hib_engines.proofs.Grows.{grows, restarts, regional_part}

pub named : (o : Option Key) (n : ℕ) → option_map (λ k. k.entity) o ≡ Some n → (is_of_key o ≡ true) × (entity_of o ≡ n)
named None n e = absurd (no e)
  where
    no : ◌≡◌ {A = Option ℕ} None (Some n) → ⊥
    no x = cc
named (Some k) n e = (refl, same e)
  where
    same : Some k.entity ≡ Some n → k.entity ≡ n
    same x = cc

at_region : Laws → (script : Script) (l : Journal) (by : Option ℕ) (now : ℕ) (a : Act) (r : Reply) (x y : Region) → is_regional a ≡ true → IsPlaced script (acts_on a) l x →
    IsLate (Part.Region (acts_on a)) now l → Suits (strategy script (acts_on a)) a → r ≡ answer_in x now a → y ≡ region_after x now a →
    IsServed (λ m. IsPlaced script (acts_on a) m y) script l by now a r
at_region w script l by now a r x y t k late u p q = record {
  reply = λ start. p ∙ answers w script start l (unwrap_or by 0) now x a t k u;
  stands = subst (λ z. IsPlaced script (acts_on a) (entry_at now by a r ∷ l) z) (sym q)
      (grows w script l (entry_at now by a r) x a t k u (record { act = refl; part = regional_part a (unwrap_or by 0) t; later = late; reply = p }));
}

pub region_served : Laws → (script : Script) (l : Journal) (n : ℕ) (by : Option ℕ) (now : ℕ) (a : Act) (r : Reply) (x y : Region) → IsPlaced script n l x →
    IsLate (Part.Region n) now l → entity_in a ≡ Some n → Suits (strategy script n) a → r ≡ answer_in x now a → y ≡ region_after x now a →
    IsServed (λ m. IsPlaced script n m y) script l by now a r
region_served w script l n by now a r x y k late e u p q =
    let t : (is_regional a ≡ true) × (acts_on a ≡ n) = named (key_in a) n e in
    subst (λ i. IsServed (λ m. IsPlaced script i m y) script l by now a r) t.1
    (at_region w script l by now a r x y t.0 (subst (λ i. IsPlaced script i l x) (sym t.1) k) (subst (λ i. IsLate (Part.Region i) now l) (sym t.1) late)
    (subst (λ i. Suits (strategy script i) a) (sym t.1) u) p q)

pub restart_placed : Laws → (script : Script) (l : Journal) (n now : ℕ) (x y : Region) → IsPlaced script n l x → y ≡ emptied x → IsPlaced script n (entry_at now None Act.Restart Reply.Done ∷ l) y
restart_placed w script l n now x y k q = subst (λ z. IsPlaced script n (entry_at now None Act.Restart Reply.Done ∷ l) z) (sym q)
    (restarts w script l (entry_at now None Act.Restart Reply.Done) n x refl k)
