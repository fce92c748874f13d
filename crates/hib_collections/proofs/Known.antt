-- The owners that a session is to lock, by what it holds of the row that it is to change.
use Rattle.std.specs.Prelude.{not}
use Rattle.std.specs.List.{find}
use Rattle.std.proofs.Common.{◌≡◌, ℕ, suc, ◌==◌, cond, List, [], ◌∷◌, ◌++◌, map, Some, Option, refl, ap, sym, ◌∙◌}
use Rattle.hib_base.specs.Tables.{Tables, key_of}
use Rattle.hib_journal.specs.Types.{Key, Row, Change, Script, Act}
use Rattle.hib_journal.specs.Sessions.{Journal, own}
use Rattle.hib_collections_law.specs.declared.entries.Def.{Def}
use Rattle.hib_collections_law.specs.Types.{Gathered}
use Rattle.hib_collections_law.specs.Gathered.{Held, IsGathered, due_in, is_locked, known, locks_in, owners, owners_from, plain, to_lock}
use Rattle.hib_collections_law.proofs.Knows.{update_known, delete_known}
use Rattle.hib_collections.specs.Before.{IsKnown, base_in}

-- an insert changes members of its own owner alone, whatever was there
insert_owners : (n : ℕ) (defs : List Def) (o p : Option Row) (k : Key) (r : Row) → owners_from n defs o (Change.Insert k r) ≡ owners_from n defs p (Change.Insert k r)
insert_owners n [] o p k r = refl
insert_owners n (d ∷ ds) o p k r =
    ap (λ z. cond (k.entity == d.entity) (map (λ i. (n, i)) (owners d o (Change.Insert k r))) [] ++ z) (insert_owners (suc n) ds o p k r)

owners_known : (defs : List Def) (c : Change) (mine : Journal) (o : Option Row) → o ≡ base_in mine (key_of c) → IsKnown mine (Act.Write c) →
    owners_from 0 defs o c ≡ owners_from 0 defs (known (key_of c) mine) c
owners_known defs (Change.Insert k r) mine o e w = insert_owners 0 defs o (known k mine) k r
owners_known defs (Change.Update k v r) mine o e w = ap (λ z. owners_from 0 defs z (Change.Update k v r)) (e ∙ w)
owners_known defs (Change.Delete k v) mine o e w = ap (λ z. owners_from 0 defs z (Change.Delete k v)) (e ∙ w)

-- the owner that is to be locked first
pub lock_known : (defs : List Def) (c : Change) (mine : Journal) (o : Option Row) (hs ls : List Held) (g : Gathered) (p : Option (ℕ × ℕ)) →
    p ≡ find (λ p. not (is_locked ls p)) (owners_from 0 defs o c) → o ≡ base_in mine (key_of c) → ls ≡ hs → hs ≡ locks_in g → IsKnown mine (Act.Write c) →
    to_lock defs c mine (locks_in g) ≡ p
lock_known defs c mine o hs ls g p q e a b w =
    sym (q ∙ (ap (λ (z : List Held). find (λ p. not (is_locked z p)) (owners_from 0 defs o c)) (a ∙ b)
    ∙ ap (λ z. find (λ p. not (is_locked (locks_in g) p)) z) (owners_known defs c mine o e w)))

-- and what is known of an act that is due
pub known_due : (script : Script) (defs : List Def) (told : Option Tables) (g : Gathered) (s : ℕ) (a : Act) → IsGathered script defs told g → due_in script s (plain script g) ≡ Some a →
    IsKnown (own s (plain script g)) a
known_due script defs told g s (Act.Write (Change.Insert k r)) l d = tt
known_due script defs told g s (Act.Write (Change.Update k v r)) l d = update_known script defs told g s k v r l d
known_due script defs told g s (Act.Write (Change.Delete k v)) l d = delete_known script defs told g s k v l d
known_due script defs told g s _ l d = tt
