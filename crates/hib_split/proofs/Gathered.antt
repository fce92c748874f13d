-- The lists of parts are gathered in the order of parts.
use Rattle.std.proofs.Common.{◌≡◌, ◌<◌, ◌≤◌, ◌+◌, ◌==◌, ◌⊎◌, inl, inr, ℕ, zero, suc, Bool, true, false, cond, ◌&&◌, ◌||◌, nat_lt, List, [], ◌∷◌, ◌++◌, length, map, reverse, take, get_or, None, Option, refl, sym, ap, ◌∙◌, subst, append-nil, arith}
use Rattle.std.proofs.lemmas.Bool.{true≢false}
use Rattle.std.proofs.lemmas.Bool.Decides.{nat_tests}
use Rattle.std.proofs.lemmas.Grind.{flat_map-append}
use Rattle.std.proofs.lemmas.List.{map-append, reverse-append, length-map, get_or-map}
use Rattle.std.specs.List.{filter, range_with_len}
use Rattle.hib_base.specs.Tables.{Tables}
use Rattle.hib_base.proofs.Tables.{Tested, tested}
use Rattle.hib_journal.specs.Types.{Script, Part, Entry}
use Rattle.hib_journal.specs.Sessions.{Journal, last_tick, same_part}
use Rattle.hib_journal.specs.Kept.{Kept, past}
use Rattle.hib_journal.specs.Lists.{of_part}
use Rattle.hib_split_law.specs.Apart.{is_own, IsPartLegal, IsOwnLegal}
use Rattle.hib_split_law.specs.Merged.{of_part_in, list_of, part_kind, part_number, is_part_before, AreOwnLegal, ArePartsLegal}
use Rattle.hib_journal.specs.Next.{next}
use Rattle.hib_split_law.proofs.Apart.{same_self, same_is}
use Rattle.hib_merge.specs.Merging.{Rises, IsRising, AreRising, IsInOne}
use Rattle.hib_merge.proofs.Placed.{take_next}
use Rattle.hib_merge.proofs.Reversed.{rising_part}
use Rattle.hib_split.specs.Alone.{AreAtEnds, AreListed}
use Rattle.hib_split.specs.Gathered.{IsGathered, AscendFrom}
use Rattle.hib_parts.specs.Listed.{AreOf}
use Rattle.hib_parts.proofs.Lists.{none_of, all_of}

-- the order of parts

abbrev comes : ℕ → ℕ → ℕ → ℕ → Bool
comes a b c d = nat_lt a c || ((a == c) && nat_lt b d)

comes_trans : (a b c d e f : ℕ) → comes a b c d ≡ true → comes c d e f ≡ true → comes a b e f ≡ true
comes_trans a b c d e f p q = grind (arith, nat_tests)

comes_not : (a b : ℕ) → comes a b a b ≡ false
comes_not a b = grind (arith, nat_tests)

pub region_before : (n m : ℕ) → n < m → is_part_before (Part.Region n) (Part.Region m) ≡ true
region_before n m l = grind (arith, nat_tests)

pub own_before : (n m : ℕ) → n < m → is_part_before (Part.Own n) (Part.Own m) ≡ true
own_before n m l = grind (arith, nat_tests)

-- what isn't before a later part isn't before an earlier one
not_before : (p q r : Part) → is_part_before q r ≡ true → is_part_before p r ≡ false → is_part_before p q ≡ false
not_before p q r t f = by (tested (is_part_before p q))
  where
    by : Tested (is_part_before p q) → is_part_before p q ≡ false
    by (inl b) = absurd (true≢false (sym (comes_trans (part_kind p) (part_number p) (part_kind q) (part_number q) (part_kind r) (part_number r) b t) ∙ f))
    by (inr b) = b

-- and isn't that one
not_that : (p q r : Part) → is_part_before q r ≡ true → is_part_before p r ≡ false → same_part p q ≡ false
not_that p q r t f = by (tested (same_part p q))
  where
    by : Tested (same_part p q) → same_part p q ≡ false
    by (inl b) = absurd (true≢false (sym t ∙ (ap (λ x. is_part_before x r) (sym (same_is p q b)) ∙ f)))
    by (inr b) = b

-- ticks

pub part_rising : (script : Script) (told : Option Tables) (l : Journal) → IsPartLegal script told l → IsRising l
part_rising script told [] k = tt
part_rising script told (e ∷ l) k = (part_rising script told l k.0, by l k.1.tick)
  where
    by : (l : Journal) → last_tick (λ _. true) l < e.tick → Rises e l
    by [] t = tt
    by (d ∷ l) t = t

pub own_rising : (script : Script) (s : ℕ) (m : Journal) → IsOwnLegal script s m → IsRising m
own_rising script s [] k = tt
own_rising script s (e ∷ m) k = (own_rising script s m k.0, by m k.1.tick)
  where
    by : (l : Journal) → last_tick (λ _. true) l < e.tick → Rises e l
    by [] t = tt
    by (d ∷ l) t = t

-- one list more

nil_left : (xs ys : Journal) → xs ++ ys ≡ [] → xs ≡ []
nil_left [] ys e = refl
nil_left (x ∷ xs) ys e = absurd (cc)

nil_right : (xs ys : Journal) → xs ++ ys ≡ [] → ys ≡ []
nil_right [] ys e = e
nil_right (x ∷ xs) ys e = absurd (cc)

pub part_more : (p : Part) (ls : List Journal) (l : Journal) → of_part_in p (ls ++ l ∷ []) ≡ of_part_in p ls ++ of_part p l
part_more p ls l = flat_map-append (of_part p) ls (l ∷ []) ∙ ap (λ k. of_part_in p ls ++ k) (append-nil (of_part p l))

-- of a part of which the new list has nothing
pub part_same : (p : Part) (ls : List Journal) (l : Journal) → of_part p l ≡ [] → of_part_in p (ls ++ l ∷ []) ≡ of_part_in p ls
part_same p ls l e = part_more p ls l ∙ (ap (λ k. of_part_in p ls ++ k) e ∙ append-nil (of_part_in p ls))

in_more : (p : Part) (ls : List Journal) (l : Journal) → IsInOne p ls → (of_part p l ≡ []) ⊎ (of_part_in p ls ≡ []) → IsInOne p (ls ++ l ∷ [])
in_more p [] l h c = inr refl
in_more p (x ∷ ls) l (inl h) (inl e) = inl (h.0, in_more p ls l h.1 (inl e))
in_more p (x ∷ ls) l (inl h) (inr e) = inl (h.0, in_more p ls l h.1 (inr (nil_right (of_part p x) (of_part_in p ls) e)))
in_more p (x ∷ ls) l (inr h) (inl e) = inr (part_same p ls l e ∙ h)
in_more p (x ∷ ls) l (inr h) (inr e) = inl (nil_left (of_part p x) (of_part_in p ls) e, in_none p ls l (nil_right (of_part p x) (of_part_in p ls) e))
  where
    in_none : (p : Part) (ls : List Journal) (l : Journal) → of_part_in p ls ≡ [] → IsInOne p (ls ++ l ∷ [])
    in_none p [] l e = inr refl
    in_none p (x ∷ ls) l e = inl (nil_left (of_part p x) (of_part_in p ls) e, in_none p ls l (nil_right (of_part p x) (of_part_in p ls) e))

rising_more : (ls : List Journal) (l : Journal) → AreRising ls → IsRising l → AreRising (ls ++ l ∷ [])
rising_more [] l r k = (k, tt)
rising_more (x ∷ ls) l r k = (r.0, rising_more ls l r.1 k)

pub gather_begins : (script : Script) (told : Option Tables) → IsGathered script told Part.Registry []
gather_begins script told = record { apart = λ p. tt; rising = tt; legal = λ p o. tt; free = λ p f. refl }

-- the list of part q comes, and the next is of r or later
pub gather_more : (script : Script) (told : Option Tables) (q r : Part) (ls : List Journal) (l : Journal) → is_part_before q r ≡ true → AreOf q l → IsRising l → (is_own q ≡ false → IsPartLegal script told l) → IsGathered script told q ls →
    IsGathered script told r (ls ++ l ∷ [])
gather_more script told q r ls l t o k v g = record {
  apart = λ p. in_more p ls l (g.apart p) (one p (tested (same_part p q)));
  rising = rising_more ls l g.rising k;
  legal = λ p n. legal p n (tested (same_part p q));
  free = λ p f. part_same p ls l (none_of q p l o (not_that p q r t f)) ∙ g.free p (not_before p q r t f);
}
  where
    clear : (p : Part) → p ≡ q → of_part_in p ls ≡ []
    clear p e = g.free p (ap (λ x. is_part_before x q) e ∙ comes_not (part_kind q) (part_number q))

    one : (p : Part) → Tested (same_part p q) → (of_part p l ≡ []) ⊎ (of_part_in p ls ≡ [])
    one p (inl b) = inr (clear p (same_is p q b))
    one p (inr b) = inl (none_of q p l o b)

    legal : (p : Part) → is_own p ≡ false → Tested (same_part p q) → IsPartLegal script told (of_part_in p (ls ++ l ∷ []))
    legal p n (inl b) =
        let e : p ≡ q = same_is p q b in
        subst (λ j. IsPartLegal script told j) (sym (part_more p ls l ∙ (ap (λ k. k ++ of_part p l) (clear p e) ∙ (ap (λ x. of_part x l) e ∙ all_of q l o)))) (v (ap is_own (sym e) ∙ n))
    legal p n (inr b) = subst (λ j. IsPartLegal script told j) (sym (part_same p ls l (none_of q p l o b))) (g.legal p n)

-- the next is later yet
pub gather_skip : (script : Script) (told : Option Tables) (q r : Part) (ls : List Journal) → is_part_before q r ≡ true → IsGathered script told q ls → IsGathered script told r ls
gather_skip script told q r ls t g = record { apart = g.apart; rising = g.rising; legal = g.legal; free = λ p f. g.free p (not_before p q r t f) }

-- the four parts that no entity has

pub gather_four : (script : Script) (told : Option Tables) (r s m q : Journal) → AreOf Part.Registry r → AreOf Part.Store s → AreOf Part.Stamps m → AreOf Part.Results q →
    IsPartLegal script told r → IsPartLegal script told s → IsPartLegal script told m → IsPartLegal script told q → IsGathered script told (Part.Region 0) (r ∷ s ∷ m ∷ q ∷ [])
gather_four script told r s m q a b c d e f g h =
    gather_more script told Part.Results (Part.Region 0) (r ∷ s ∷ m ∷ []) q refl d (part_rising script told q h) (λ _. h)
    (gather_more script told Part.Stamps Part.Results (r ∷ s ∷ []) m refl c (part_rising script told m g) (λ _. g)
    (gather_more script told Part.Store Part.Stamps (r ∷ []) s refl b (part_rising script told s f) (λ _. f)
    (gather_more script told Part.Registry Part.Store [] r refl a (part_rising script told r e) (λ _. e) (gather_begins script told))))

pub four_items : (v w x y z : List Kept) (r s m q : Kept) → v ≡ [] → w ≡ v ++ r ∷ [] → x ≡ w ++ s ∷ [] → y ≡ x ++ m ∷ [] → z ≡ y ++ q ∷ [] → map past z ≡ past r ∷ past s ∷ past m ∷ past q ∷ []
four_items v w x y z r s m q a b c d e = ap (map past) (e ∙ ap (λ k. k ++ q ∷ []) (d ∙ ap (λ k. k ++ m ∷ []) (c ∙ ap (λ k. k ++ s ∷ []) (b ∙ ap (λ k. k ++ r ∷ []) a))))

-- numbers of a range that are picked rise

pub ascend_less : (n m : ℕ) (ms : List ℕ) → n ≤ m → AscendFrom m ms → AscendFrom n ms
ascend_less n m [] l a = tt
ascend_less n m (x ∷ ms) l a = let b : m ≤ x = a.0 in (omega arith, a.1)

pub ascend_picked : (p : ℕ → Bool) (a n : ℕ) → AscendFrom a (filter p (range_with_len a n))
ascend_picked p a zero = tt
ascend_picked p a (suc n) = by (p a) (ascend_picked p (a + 1) n)
  where
    by : (b : Bool) → AscendFrom (a + 1) (filter p (range_with_len (a + 1) n)) → AscendFrom a (cond b (a ∷ filter p (range_with_len (a + 1) n)) (filter p (range_with_len (a + 1) n)))
    by true i = (omega arith, i)
    by false i = ascend_less a (a + 1) (filter p (range_with_len (a + 1) n)) (omega arith) i

-- the regions of entities that rise: those that are left, and the lists so far
pub record IsAdding (script : Script) (told : Option Tables) (es : List ℕ) (ls : List Journal) : Type 0 where
  pub bound : ℕ
  pub gathered : IsGathered script told (Part.Region bound) ls
  pub rest : AscendFrom bound es

adding_more : (script : Script) (told : Option Tables) (n : ℕ) (es : List ℕ) (ls : List Journal) (l : Journal) → AreOf (Part.Region n) l → IsPartLegal script told l → IsAdding script told (n ∷ es) ls → IsAdding script told es (ls ++ l ∷ [])
adding_more script told n es ls l o k a = record {
  bound = n + 1;
  gathered = gather_more script told (Part.Region n) (Part.Region (n + 1)) ls l (region_before n (n + 1) (omega arith)) o (part_rising script told l k) (λ _. k) (here (tested (nat_lt a.bound n)));
  rest = a.rest.1;
}
  where
    same : a.bound ≤ n → nat_lt a.bound n ≡ false → a.bound ≡ n
    same p q = grind (arith, nat_tests)

    less : nat_lt a.bound n ≡ true → a.bound < n
    less q = grind (arith, nat_tests)

    here : Tested (nat_lt a.bound n) → IsGathered script told (Part.Region n) ls
    here (inl b) = gather_skip script told (Part.Region a.bound) (Part.Region n) ls (region_before a.bound n (less b)) a.gathered
    here (inr b) = subst (λ m. IsGathered script told (Part.Region m) ls) (same a.rest.0 b) a.gathered

pub adding_region : {R : Type 0} (script : Script) (told : Option Tables) (f : R → ℕ) (old new : List R) (x : R) (ks ls : List Kept) (j : Kept) → old ≡ new ++ x ∷ [] → ls ≡ ks ++ j ∷ [] → AreOf (Part.Region (f x)) (past j) → IsPartLegal script told (past j) →
    IsAdding script told (map f (reverse old)) (map past ks) → IsAdding script told (map f (reverse new)) (map past ls)
adding_region script told f old new x ks ls j e h o k a =
    subst (λ z. IsAdding script told (map f (reverse new)) z) (sym (ap (map past) h ∙ map-append past ks (j ∷ [])))
    (adding_more script told (f x) (map f (reverse new)) (map past ks) (past j) o k
    (subst (λ es. IsAdding script told es (map past ks)) (ap (λ z. map f (reverse z)) e ∙ ap (map f) (reverse-append new (x ∷ []))) a))

pub adding_done : {R : Type 0} (script : Script) (told : Option Tables) (f : R → ℕ) (rest : List R) (ls : List Journal) → IsAdding script told (map f (reverse rest)) ls → IsGathered script told (Part.Own 0) ls
adding_done script told f rest ls a = gather_skip script told (Part.Region a.bound) (Part.Own 0) ls refl a.gathered

-- ---- a session's own entries

pub all_own : (p : Part) (l : Journal) → AreOf p (of_part p l)
all_own p [] = tt
all_own p (e ∷ l) = by (same_part p e.part) refl (all_own p l)
  where
    by : (b : Bool) → same_part p e.part ≡ b → AreOf p (of_part p l) → AreOf p (cond b (e ∷ of_part p l) (of_part p l))
    by true q i = (i, sym (same_is p e.part q))
    by false q i = i

past_is : (k : Kept) → past k ≡ reverse k.list
unfolding past
past_is k = refl

pub own_entry : (p : Part) (xs : List Entry) (i : ℕ) (e : Entry) (old new : Journal) → i < length xs → e ≡ get_or xs i e → old ≡ of_part p (reverse (take i xs)) → new ≡ cond (same_part p e.part) (e ∷ old) old → new ≡ of_part p (reverse (take (i + 1) xs))
own_entry p xs i e old new h r o n =
    n ∙ (ap (λ l. cond (same_part p e.part) (e ∷ l) l) o ∙ sym (ap (λ l. of_part p (reverse l)) (take_next xs i e h r) ∙ ap (of_part p) (reverse-append (take i xs) (e ∷ []))))

pub own_added : (script : Script) (told : Option Tables) (n : ℕ) (mine ks ls : List Kept) (k own : Kept) (entries : List Entry) → n < length mine → k ≡ get_or mine n k → AreOwnLegal script (map past mine) → entries ≡ k.list → past own ≡ of_part (Part.Own n) (reverse entries) →
    ls ≡ ks ++ own ∷ [] → IsGathered script told (Part.Own n) (map past ks) → IsGathered script told (Part.Own (n + 1)) (map past ls)
own_added script told n mine ks ls k own entries h r legal s e q g =
    subst (λ z. IsGathered script told (Part.Own (n + 1)) z) (sym (ap (map past) q ∙ map-append past ks (own ∷ [])))
    (gather_more script told (Part.Own n) (Part.Own (n + 1)) (map past ks) (past own) (own_before n (n + 1) (omega arith))
    (subst (λ l. AreOf (Part.Own n) l) (sym here) (all_own (Part.Own n) (past k)))
    (subst IsRising (sym here) (rising_part (Part.Own n) (past k) (own_rising script n (past k) (subst (IsOwnLegal script n) listed (legal n)))))
    (λ o. absurd (true≢false o)) g)
  where
    here : past own ≡ of_part (Part.Own n) (past k)
    here = e ∙ ap (of_part (Part.Own n)) (ap reverse s ∙ sym (past_is k))

    listed : list_of n (map past mine) ≡ past k
    listed = get_or-map past mine n k [] h ∙ ap past (sym r)

same_own : (s n : ℕ) → same_part (Part.Own s) (Part.Own n) ≡ true → s ≡ n
same_own s n e = numbers (same_is (Part.Own s) (Part.Own n) e)
  where
    numbers : Part.Own s ≡ Part.Own n → s ≡ n
    numbers p = cc

-- each list so far is that of its session's own entries
pub own_each : (script : Script) (told : Option Tables) (n : ℕ) (mine ks ls : List Kept) (k own : Kept) (entries : List Entry) → n < length mine → k ≡ get_or mine n k → entries ≡ k.list → past own ≡ of_part (Part.Own n) (reverse entries) → ls ≡ ks ++ own ∷ [] →
    IsGathered script told (Part.Own n) (map past ks) → ((s : ℕ) → s < n → of_part_in (Part.Own s) (map past ks) ≡ of_part (Part.Own s) (list_of s (map past mine))) →
    (s : ℕ) → s < n + 1 → of_part_in (Part.Own s) (map past ls) ≡ of_part (Part.Own s) (list_of s (map past mine))
own_each script told n mine ks ls k own entries h r w e q g f s t =
    ap (of_part_in (Part.Own s)) (ap (map past) q ∙ map-append past ks (own ∷ [])) ∙ by (tested (same_part (Part.Own s) (Part.Own n)))
  where
    listed : list_of n (map past mine) ≡ past k
    listed = get_or-map past mine n k [] h ∙ ap past (sym r)

    here : past own ≡ of_part (Part.Own n) (list_of n (map past mine))
    here = e ∙ ap (of_part (Part.Own n)) (ap reverse w ∙ (sym (past_is k) ∙ sym listed))

    less : (s ≡ n → ⊥) → s < n
    less x = omega (arith, x)

    by : Tested (same_part (Part.Own s) (Part.Own n)) → of_part_in (Part.Own s) (map past ks ++ past own ∷ []) ≡ of_part (Part.Own s) (list_of s (map past mine))
    by (inl b) =
        let i : s ≡ n = same_own s n b in
        subst (λ m. of_part_in (Part.Own m) (map past ks ++ past own ∷ []) ≡ of_part (Part.Own m) (list_of m (map past mine))) (sym i)
        (part_more (Part.Own n) (map past ks) (past own) ∙ (ap (λ l. l ++ of_part (Part.Own n) (past own)) (g.free (Part.Own n) (comes_not 5 n))
        ∙ (ap (of_part (Part.Own n)) here ∙ all_of (Part.Own n) (of_part (Part.Own n) (list_of n (map past mine))) (all_own (Part.Own n) (list_of n (map past mine))))))
    by (inr b) =
        part_same (Part.Own s) (map past ks) (past own) (ap (of_part (Part.Own s)) here ∙ none_of (Part.Own n) (Part.Own s) (of_part (Part.Own n) (list_of n (map past mine))) (all_own (Part.Own n) (list_of n (map past mine))) b)
        ∙ f s (less (λ i. true≢false (sym (ap (λ m. same_part (Part.Own m) (Part.Own n)) i ∙ same_self (Part.Own n)) ∙ b)))

pub list_past : (s : ℕ) (ls : List Journal) → length ls ≤ s → list_of s ls ≡ []
list_past zero [] h = refl
list_past (suc s) [] h = refl
list_past zero (x ∷ ls) h = absurd (omega arith)
list_past (suc s) (x ∷ ls) h = list_past s ls (omega arith)

pub own_done : (script : Script) (told : Option Tables) (n : ℕ) (mine : List Kept) (ls : List Journal) → length mine ≤ n → IsGathered script told (Part.Own n) ls →
    ((s : ℕ) → s < n → of_part_in (Part.Own s) ls ≡ of_part (Part.Own s) (list_of s (map past mine))) → (s : ℕ) → of_part_in (Part.Own s) ls ≡ of_part (Part.Own s) (list_of s (map past mine))
own_done script told n mine ls h g f s = by (tested (nat_lt s n))
  where
    less : nat_lt s n ≡ true → s < n
    less p = grind (arith, nat_tests)

    more : nat_lt s n ≡ false → n ≤ s
    more p = grind (arith, nat_tests)

    after : nat_lt s n ≡ false → is_part_before (Part.Own s) (Part.Own n) ≡ false
    after p = grind (arith, nat_tests)

    by : Tested (nat_lt s n) → of_part_in (Part.Own s) ls ≡ of_part (Part.Own s) (list_of s (map past mine))
    by (inl b) = f s (less b)
    by (inr b) =
        let far : n ≤ s = more b in
        let all : length (map past mine) ≡ length mine = length-map mine past in
        g.free (Part.Own s) (after b) ∙ sym (ap (of_part (Part.Own s)) (list_past s (map past mine) (omega (arith, far, all, h))))

-- ---- the lists of sessions

pub list_below : (s : ℕ) (ls : List Journal) (l : Journal) → s < length ls → list_of s (ls ++ l ∷ []) ≡ list_of s ls
list_below s [] l h = absurd (omega arith)
list_below zero (x ∷ ls) l h = refl
list_below (suc s) (x ∷ ls) l h = list_below s ls l (omega arith)

pub list_here : (ls : List Journal) (l : Journal) → list_of (length ls) (ls ++ l ∷ []) ≡ l
list_here [] l = refl
list_here (x ∷ ls) l = list_here ls l

pub list_beyond : (s : ℕ) (ls : List Journal) (l : Journal) → length ls < s → list_of s (ls ++ l ∷ []) ≡ []
list_beyond zero [] l h = absurd (omega arith)
list_beyond (suc s) [] l h = refl
list_beyond zero (x ∷ ls) l h = absurd (omega arith)
list_beyond (suc s) (x ∷ ls) l h = list_beyond s ls l (omega arith)

pub mine_legal : (script : Script) (n : ℕ) (ks ls : List Kept) (j : Kept) → n ≡ length ks → ls ≡ ks ++ j ∷ [] → IsOwnLegal script n (past j) → AreOwnLegal script (map past ks) → AreOwnLegal script (map past ls)
mine_legal script n ks ls j e q k h s = subst (λ z. IsOwnLegal script s (list_of s z)) (sym (ap (map past) q ∙ map-append past ks (j ∷ []))) (by (tested (nat_lt s n)) (tested (nat_lt n s)))
  where
    all : length (map past ks) ≡ n
    all = length-map ks past ∙ sym e

    less : (a b : ℕ) → nat_lt a b ≡ true → a < b
    less a b p = grind (arith, nat_tests)

    same : nat_lt s n ≡ false → nat_lt n s ≡ false → s ≡ n
    same p r = grind (arith, nat_tests)

    by : Tested (nat_lt s n) → Tested (nat_lt n s) → IsOwnLegal script s (list_of s (map past ks ++ past j ∷ []))
    by (inl b) t = subst (IsOwnLegal script s) (sym (list_below s (map past ks) (past j) (subst (λ m. s < m) (sym all) (less s n b)))) (h s)
    by (inr b) (inl c) = subst (IsOwnLegal script s) (sym (list_beyond s (map past ks) (past j) (subst (λ m. m < s) (sym all) (less n s c)))) tt
    by (inr b) (inr c) =
        let i : s ≡ n = same b c in
        subst (λ m. IsOwnLegal script m (list_of m (map past ks ++ past j ∷ []))) (sym i)
        (subst (IsOwnLegal script n) (sym (ap (λ m. list_of m (map past ks ++ past j ∷ [])) (sym all) ∙ list_here (map past ks) (past j))) k)

pub mine_over : (script : Script) (n : ℕ) (ks ls : List Kept) (j : Kept) → n ≡ length ks → ls ≡ ks ++ j ∷ [] → next script n (past j) ≡ None → AreAtEnds script n (map past ks) → AreAtEnds script (n + 1) (map past ls)
mine_over script n ks ls j e q k h s t = subst (λ z. next script s (list_of s z) ≡ None) (sym (ap (map past) q ∙ map-append past ks (j ∷ []))) (by (tested (nat_lt s n)))
  where
    all : length (map past ks) ≡ n
    all = length-map ks past ∙ sym e

    less : (a b : ℕ) → nat_lt a b ≡ true → a < b
    less a b p = grind (arith, nat_tests)

    same : nat_lt s n ≡ false → s < n + 1 → s ≡ n
    same p r = grind (arith, nat_tests)

    by : Tested (nat_lt s n) → next script s (list_of s (map past ks ++ past j ∷ [])) ≡ None
    by (inl b) = ap (next script s) (list_below s (map past ks) (past j) (subst (λ m. s < m) (sym all) (less s n b))) ∙ h s (less s n b)
    by (inr b) =
        let i : s ≡ n = same b t in
        subst (λ m. next script m (list_of m (map past ks ++ past j ∷ [])) ≡ None) (sym i)
        (ap (next script n) (ap (λ m. list_of m (map past ks ++ past j ∷ [])) (sym all) ∙ list_here (map past ks) (past j)) ∙ k)

-- ---- what comes of a run

pub listed : (script : Script) (told : Option Tables) (ls ks ms js : List Kept) (n : ℕ) → ls ≡ ks → ms ≡ js → IsGathered script told (Part.Own n) (map past ks) → AreOwnLegal script (map past js) → AreListed script told (map past ls) (map past ms)
listed script told ls ks ms js n e q g h = record {
  parts = subst (λ z. ArePartsLegal script told (map past z)) (sym e) g.legal;
  sessions = subst (λ z. AreOwnLegal script (map past z)) (sym q) h;
  apart = subst (λ z. (p : Part) → IsInOne p (map past z)) (sym e) g.apart;
  rising = subst (λ z. AreRising (map past z)) (sym e) g.rising;
}

pub listed_none : (script : Script) (told : Option Tables) (ls ms : List Kept) → ls ≡ [] → ms ≡ [] → AreListed script told (map past ls) (map past ms)
listed_none script told ls ms e q = listed script told ls [] ms [] 0 e q (gather_skip script told Part.Registry (Part.Own 0) [] refl (gather_begins script told)) (λ s. tt)
