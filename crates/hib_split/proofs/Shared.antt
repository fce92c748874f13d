-- The lists of the parts that sessions share, in the lists that are gathered.
use Rattle.std.proofs.Common.{◌≡◌, ◌≤◌, ◌+◌, ℕ, false, cond, ◌==◌, inl, inr, List, [], ◌∷◌, ◌++◌, length, map, reverse, Option, refl, sym, ap, ◌∙◌, subst, append-nil, eqb-true, arith}
use Rattle.std.proofs.lemmas.Bool.{true≢false}
use Rattle.std.proofs.lemmas.Bool.Decides.{nat_tests}
use Rattle.std.proofs.lemmas.List.{map-append, reverse-append, reverse-reverse}
use Rattle.hib_base.specs.Tables.{Tables}
use Rattle.hib_base.proofs.Tables.{Tested, tested}
use Rattle.hib_journal.specs.Types.{Script, Part}
use Rattle.hib_journal.specs.Sessions.{Journal, same_part}
use Rattle.hib_journal.specs.Kept.{Kept, past}
use Rattle.hib_journal.specs.Lists.{of_part}
use Rattle.hib_split_law.specs.Apart.{is_own}
use Rattle.hib_split_law.specs.Merged.{of_part_in}
use Rattle.hib_parts.specs.Listed.{AreOf, RegionState}
use Rattle.hib_parts.specs.Run.{list_in, list_on}
use Rattle.hib_parts.proofs.Lists.{none_of, all_of}
use Rattle.hib_parts.proofs.Placing.{flip}
use Rattle.hib_split.specs.Gathered.{AscendFrom}
use Rattle.hib_split.proofs.Gathered.{IsAdding, part_more, part_same, all_own}

-- the four parts that no entity has

four_same : (a b c d w x y z : Journal) → a ≡ w → b ≡ x → c ≡ y → d ≡ z → a ++ (b ++ (c ++ (d ++ []))) ≡ w ++ (x ++ (y ++ (z ++ [])))
four_same a b c d w x y z p q r s = cc

pub four_parts : (r s m q : Journal) → AreOf Part.Registry r → AreOf Part.Store s → AreOf Part.Stamps m → AreOf Part.Results q → (p : Part) → is_own p ≡ false → of_part_in p (r ∷ s ∷ m ∷ q ∷ []) ≡ list_on r s m q [] p
four_parts r s m q a b c d Part.Registry o =
    four_same _ _ _ _ r [] [] [] (all_of Part.Registry r a) (none_of Part.Store Part.Registry s b refl) (none_of Part.Stamps Part.Registry m c refl) (none_of Part.Results Part.Registry q d refl) ∙ append-nil r
four_parts r s m q a b c d Part.Store o =
    four_same _ _ _ _ [] s [] [] (none_of Part.Registry Part.Store r a refl) (all_of Part.Store s b) (none_of Part.Stamps Part.Store m c refl) (none_of Part.Results Part.Store q d refl) ∙ append-nil s
four_parts r s m q a b c d Part.Stamps o =
    four_same _ _ _ _ [] [] m [] (none_of Part.Registry Part.Stamps r a refl) (none_of Part.Store Part.Stamps s b refl) (all_of Part.Stamps m c) (none_of Part.Results Part.Stamps q d refl) ∙ append-nil m
four_parts r s m q a b c d Part.Results o =
    four_same _ _ _ _ [] [] [] q (none_of Part.Registry Part.Results r a refl) (none_of Part.Store Part.Results s b refl) (none_of Part.Stamps Part.Results m c refl) (all_of Part.Results q d) ∙ append-nil q
four_parts r s m q a b c d (Part.Region n) o =
    four_same _ _ _ _ [] [] [] [] (none_of Part.Registry (Part.Region n) r a refl) (none_of Part.Store (Part.Region n) s b refl) (none_of Part.Stamps (Part.Region n) m c refl) (none_of Part.Results (Part.Region n) q d refl)
four_parts r s m q a b c d (Part.Own t) o = absurd (true≢false o)

-- regions, one after the other

none_later : (n m : ℕ) (rs : List RegionState) → AscendFrom m (map (λ r. r.entity) rs) → n + 1 ≤ m → list_in n rs ≡ []
none_later n m [] a l = refl
none_later n m (r ∷ rs) a l =
    let k : m ≤ r.entity = a.0 in
    ap (λ b. cond b r.list (list_in n rs)) (by r.entity n (omega arith)) ∙ none_later n (r.entity + 1) rs a.1 (omega arith)
  where
    by : (x y : ℕ) → y + 1 ≤ x → (x == y) ≡ false
    by x y h = grind (arith, nat_tests)

abbrev on_regions : List RegionState → Part → Journal
on_regions rs p = list_on [] [] [] [] rs p

pub no_regions : (p : Part) → list_on [] [] [] [] [] p ≡ []
no_regions Part.Registry = refl
no_regions _ = refl

-- the first region of those that are left comes to the lists
region_comes : (r : RegionState) (rs : List RegionState) (bound : ℕ) (ls : List Journal) (l : Journal) → AreOf (Part.Region r.entity) l → l ≡ r.list → AscendFrom bound (map (λ x. x.entity) (r ∷ rs)) → (p : Part) →
    of_part_in p (ls ++ l ∷ []) ++ on_regions rs p ≡ of_part_in p ls ++ on_regions (r ∷ rs) p
region_comes r rs bound ls l o e a (Part.Region n) = by (tested (r.entity == n))
  where
    by : Tested (r.entity == n) → of_part_in (Part.Region n) (ls ++ l ∷ []) ++ list_in n rs ≡ of_part_in (Part.Region n) ls ++ list_in n (r ∷ rs)
    by (inl b) =
        let s : r.entity ≡ n = eqb-true r.entity n b in
        ap (λ k. k ++ list_in n rs) (part_more (Part.Region n) ls l ∙ ap (λ k. of_part_in (Part.Region n) ls ++ k) (subst (λ m. of_part (Part.Region m) l ≡ l) s (all_of (Part.Region r.entity) l o)))
        ∙ (ap (λ k. (of_part_in (Part.Region n) ls ++ l) ++ k) (subst (λ m. list_in m rs ≡ []) s (none_later r.entity (r.entity + 1) rs a.1 (omega arith)))
        ∙ (append-nil (of_part_in (Part.Region n) ls ++ l) ∙ (ap (λ k. of_part_in (Part.Region n) ls ++ k) e ∙ ap (λ b. of_part_in (Part.Region n) ls ++ cond b r.list (list_in n rs)) (sym b))))
    by (inr b) =
        ap (λ k. k ++ list_in n rs) (part_same (Part.Region n) ls l (none_of (Part.Region r.entity) (Part.Region n) l o (flip r.entity n b)))
        ∙ ap (λ b. of_part_in (Part.Region n) ls ++ cond b r.list (list_in n rs)) (sym b)
region_comes r rs bound ls l o e a p = ap (λ k. k ++ on_regions rs p) (part_same p ls l (none_of (Part.Region r.entity) p l o refl))

pub region_added : (script : Script) (told : Option Tables) (old new : List RegionState) (x : RegionState) (ks ls : List Kept) (j : Kept) (whole : Part → Journal) → old ≡ new ++ x ∷ [] → ls ≡ ks ++ j ∷ [] → AreOf (Part.Region x.entity) (past j) → past j ≡ x.list →
    IsAdding script told (map (λ r. r.entity) (reverse old)) (map past ks) → ((p : Part) → of_part_in p (map past ks) ++ list_on [] [] [] [] (reverse old) p ≡ whole p) →
    (p : Part) → of_part_in p (map past ls) ++ list_on [] [] [] [] (reverse new) p ≡ whole p
region_added script told old new x ks ls j whole e q o s a f p =
    let back : reverse old ≡ x ∷ reverse new = ap reverse e ∙ reverse-append new (x ∷ []) in
    ap (λ z. of_part_in p z ++ list_on [] [] [] [] (reverse new) p) (ap (map past) q ∙ map-append past ks (j ∷ []))
    ∙ (region_comes x (reverse new) a.bound (map past ks) (past j) o s (subst (λ z. AscendFrom a.bound (map (λ r. r.entity) z)) back a.rest) p
    ∙ (ap (λ z. of_part_in p (map past ks) ++ list_on [] [] [] [] z p) (sym back) ∙ f p))

none_left : (rest : List RegionState) → length rest ≡ 0 → rest ≡ []
none_left [] e = refl
none_left (r ∷ rest) e = absurd (omega arith)

pub regions_done : (rest : List RegionState) (ls : List Journal) (whole : Part → Journal) → length rest ≡ 0 → ((p : Part) → of_part_in p ls ++ list_on [] [] [] [] (reverse rest) p ≡ whole p) → (p : Part) → of_part_in p ls ≡ whole p
regions_done rest ls whole e f p =
    sym (append-nil (of_part_in p ls)) ∙ (ap (λ k. of_part_in p ls ++ k) (sym (no_regions p)) ∙ (ap (λ z. of_part_in p ls ++ list_on [] [] [] [] z p) (sym (ap reverse (none_left rest e))) ∙ f p))

-- all shared parts

both_on : (r s m q : Journal) (rs : List RegionState) (p : Part) → list_on r s m q [] p ++ list_on [] [] [] [] rs p ≡ list_on r s m q rs p
both_on r s m q rs Part.Registry = append-nil r
both_on r s m q rs Part.Store = append-nil s
both_on r s m q rs Part.Stamps = append-nil m
both_on r s m q rs Part.Results = append-nil q
both_on r s m q rs (Part.Region n) = refl
both_on r s m q rs (Part.Own t) = refl

pub shared_on : (r s m q x y z w : Journal) (regions rs : List RegionState) (ks ls : List Journal) → x ≡ r → y ≡ s → z ≡ m → w ≡ q → rs ≡ reverse regions → ((p : Part) → is_own p ≡ false → of_part_in p ks ≡ list_on x y z w [] p) →
    ((p : Part) → of_part_in p ls ≡ of_part_in p ks ++ list_on [] [] [] [] (reverse rs) p) → (p : Part) → is_own p ≡ false → of_part_in p ls ≡ list_on r s m q regions p
shared_on r s m q x y z w regions rs ks ls a b c d e f g p o =
    g p ∙ (ap (λ l. l ++ list_on [] [] [] [] (reverse rs) p) (f p o)
    ∙ (ap (λ u. list_on x y z w [] p ++ list_on [] [] [] [] u p) (ap reverse e ∙ reverse-reverse regions)
    ∙ (both_on x y z w regions p ∙ same)))
  where
    same : list_on x y z w regions p ≡ list_on r s m q regions p
    same = ap (λ k. list_on k y z w regions p) a ∙ (ap (λ k. list_on r k z w regions p) b ∙ (ap (λ k. list_on r s k w regions p) c ∙ ap (λ k. list_on r s m k regions p) d))

-- the store's among them
pub store_listed : (x y z w : Journal) (rs : List RegionState) (ks ls : List Journal) → ((p : Part) → is_own p ≡ false → of_part_in p ks ≡ list_on x y z w [] p) → ((p : Part) → of_part_in p ls ≡ of_part_in p ks ++ list_on [] [] [] [] rs p) →
    of_part_in Part.Store ls ≡ y
store_listed x y z w rs ks ls f g = g Part.Store ∙ (append-nil (of_part_in Part.Store ks) ∙ f Part.Store refl)

-- a session's own entries are of no shared part

apart_own : (p : Part) (n : ℕ) → is_own p ≡ false → same_part p (Part.Own n) ≡ false
apart_own (Part.Own s) n o = absurd (true≢false o)
apart_own _ n o = refl

pub own_shared : (n : ℕ) (ks ls : List Kept) (own : Kept) (l : Journal) (whole : Part → Journal) → past own ≡ of_part (Part.Own n) l → ls ≡ ks ++ own ∷ [] → ((p : Part) → is_own p ≡ false → of_part_in p (map past ks) ≡ whole p) →
    (p : Part) → is_own p ≡ false → of_part_in p (map past ls) ≡ whole p
own_shared n ks ls own l whole e q h p o =
    ap (of_part_in p) (ap (map past) q ∙ map-append past ks (own ∷ []))
    ∙ (part_same p (map past ks) (past own) (ap (of_part p) e ∙ none_of (Part.Own n) p (of_part (Part.Own n) l) (all_own (Part.Own n) l) (apart_own p n o)) ∙ h p o)
