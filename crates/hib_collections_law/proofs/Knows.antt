-- A row that a session is to update or delete is held by it, and what it holds of it is the last that its entries tell.
use Rattle.std.specs.Prelude.{is_some, option_and_then}
use Rattle.std.proofs.Common.{◌≡◌, ℕ, inl, inr, true, false, ◌||◌, List, [], ◌∷◌, Some, Option, refl, ap, sym, ◌∙◌, subst}
use Rattle.std.proofs.lemmas.Bool.{or_parts}
use Rattle.hib_base.specs.Tables.{Tables}
use Rattle.hib_base.proofs.Tables.{Tested, tested, same_key_eq, same_key_refl}
use Rattle.hib_journal.specs.Types.{Key, Row, Change, Script, Act, Entry}
use Rattle.hib_journal.specs.Sessions.{Journal, own, is_by, changes_in}
use Rattle.hib_journal.specs.Held.{held}
use Rattle.hib_journal.specs.Legal.{reply_of}
use Rattle.hib_journal.specs.Next.{is_in}
use Rattle.hib_journal.proofs.Plans.{AllRight}
use Rattle.hib_law.proofs.Blocks.{IsMade, made_by, persist_new}
use Rattle.hib_law.proofs.Working.{Right}
use Rattle.hib_split_law.specs.Apart.{IsOwnLegal, IsOwnStep, is_of_session}
use Rattle.hib_collections_law.specs.Types.{Def, Gathered}
use Rattle.hib_collections_law.specs.Gathered.{IsGathered, due_in, known, plain}
use Rattle.hib_collections_law.proofs.Apart.{are_plain}
use Rattle.hib_collections_law.proofs.Bases.{known_base}
use Rattle.hib_collections_law.proofs.Done.{order_of}
use Rattle.hib_collections_law.proofs.HeldKeys.{Holds}
use Rattle.hib_collections_law.proofs.WriteRules.{AllowedWrite, allowed_mine}

-- entries of one session
abbrev AreOf : ℕ → Journal → Type 0
AreOf s [] = Unit {0}
AreOf s (e ∷ m) = (is_by s e ≡ true) × AreOf s m

own_of : (s : ℕ) (h : Journal) → AreOf s (own s h)
own_of s [] = tt
own_of s (e ∷ h) = by_test (tested (is_by s e)) (own_of s h)
  where
    by_test : Tested (is_by s e) → AreOf s (own s h) → AreOf s (own s (e ∷ h))
    by_test (inl p) a = rw p (p, a)
    by_test (inr p) a = rw p a

own_same : (s : ℕ) (m : Journal) → AreOf s m → own s m ≡ m
own_same s [] a = refl
own_same s (e ∷ m) (p, a) = rw p (ap (λ z. e ∷ z) (own_same s m a))

module _ (script : Script) (k : Key) (s : ℕ) where
  right_here : (m : Journal) (e : Entry) → AreOf s m → IsOwnStep script s m e → Right k m e
  right_here m e a t j x q w =
      let d : IsMade e.act e.reply j x = made_by e.act e.reply j x q in
      let g : e.reply ≡ reply_of script [] m s e.tick (Act.Persist j x) =
      subst (λ z. e.reply ≡ reply_of script [] m s e.tick z) d.act (t.reply (ap is_of_session d.act)) in
      let b : (is_some (held (own s m) j) || is_in j (changes_in (own s m))) ≡ false =
      persist_new (is_some (held (own s m) j) || is_in j (changes_in (own s m))) (sym d.reply ∙ g) in
      subst (λ z. is_in z (changes_in m) ≡ false) (same_key_eq j k w)
      (subst (λ z. is_in j (changes_in z) ≡ false) (own_same s m a)
      (or_parts (is_some (held (own s m) j)) (is_in j (changes_in (own s m))) b).1)

  all_right : (m : Journal) → AreOf s m → IsOwnLegal script s m → AllRight (AllowedWrite script k) (Right k) m
  all_right [] a l = tt
  all_right (e ∷ m) a l = (all_right m a.1 l.0, right_here m e a.1 l.1)

  pub allowed_due : (defs : List Def) (told : Option Tables) (g : Gathered) (a : Act) → IsGathered script defs told g → due_in script s (plain script g) ≡ Some a →
      AllowedWrite script k (own s (plain script g)) a
  allowed_due defs told g a l d =
      let w : IsOwnLegal script s (own s (plain script g)) = (are_plain script defs told g l).sessions s in
      allowed_mine script k s (own s (plain script g)) a (order_of script s (own s (plain script g)) w) (all_right (own s (plain script g)) (own_of s (plain script g)) w) d

-- the row of a key that a session has read or written last, if it holds the key
abbrev pub base_in : Journal → Key → Option Row
base_in mine k = option_and_then (λ i. i.base) (held mine k)

base_known : (k : Key) (b : Row) (m : Journal) → Holds k b m → base_in m k ≡ known k m
unfolding held
base_known k b m (a, l, s, w, q) = rw (s, w) q ∙ sym (known_base k b m (a, l, s, w, q))

module _ (script : Script) (defs : List Def) (told : Option Tables) (g : Gathered) (s : ℕ) where
  pub update_known : (k : Key) (v : Option ℕ) (r : Row) → IsGathered script defs told g → due_in script s (plain script g) ≡ Some (Act.Write (Change.Update k v r)) →
      base_in (own s (plain script g)) k ≡ known k (own s (plain script g))
  update_known k v r l d =
      let b = (allowed_due script k s defs told g (Act.Write (Change.Update k v r)) l d).1 (same_key_refl k) in
      base_known k b.0.0 (own s (plain script g)) b.0.1

  pub delete_known : (k : Key) (v : Option ℕ) → IsGathered script defs told g → due_in script s (plain script g) ≡ Some (Act.Write (Change.Delete k v)) →
      base_in (own s (plain script g)) k ≡ known k (own s (plain script g))
  delete_known k v l d =
      let b = (allowed_due script k s defs told g (Act.Write (Change.Delete k v)) l d).1 (same_key_refl k) in
      base_known k b.0 (own s (plain script g)) b.1
