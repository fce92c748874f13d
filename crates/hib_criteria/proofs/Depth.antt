-- How deeply the parts of a condition are nested, part by part.
use Rattle.std.proofs.Common.{◌≡◌, ℕ, zero, suc, ◌+◌, ◌<◌, Bool, true, ◌&&◌, nat_lt, List, [], ◌∷◌, ◌++◌, length, Option, Some, None, refl, sym, ◌∙◌, ap, subst, arith}
use Rattle.std.proofs.lemmas.List.{append_assoc, append-nil}
use Rattle.std.proofs.lemmas.Bool.{and_parts, and_from, ltb-true}
use Rattle.hib_base.specs.Queries.{parts_of, parts_in}
use Rattle.hib_base.specs.Valid.{is_nested, is_nested_in}
use Rattle.hib_base.specs.declared.scripts.Cond.{Cond}
use Rattle.hib_base.specs.declared.scripts.Node.{Node}
use Rattle.hib_criteria.specs.Query.{arity}

-- ---- how many conditions each open joint still awaits, the innermost first
-- without those that await none
abbrev pub rid : List ℕ → List ℕ
rid [] = []
rid (zero ∷ ns) = rid ns
rid (suc n ∷ ns) = suc n ∷ ns

-- with one condition less for the innermost
abbrev pub used : List ℕ → List ℕ
used [] = []
used (zero ∷ ns) = used ns
used (suc n ∷ ns) = n ∷ ns

abbrev pub go : List ℕ → Node → List ℕ
go st x = arity x ∷ used st

abbrev pub after : List ℕ → List Node → List ℕ
after st [] = st
after st (x ∷ xs) = after (go st x) xs

-- no part stands deeper than the sixteenth level
abbrev pub are_shallow : List ℕ → List Node → Bool
are_shallow st [] = true
are_shallow st (x ∷ xs) = nat_lt (length (rid st)) 16 && are_shallow (go st x) xs

pub used_rid : (st : List ℕ) → used (rid st) ≡ used st
used_rid [] = refl
used_rid (zero ∷ ns) = used_rid ns
used_rid (suc n ∷ ns) = refl

pub used_same : (a b : List ℕ) → rid a ≡ rid b → used a ≡ used b
used_same a b e = sym (used_rid a) ∙ ap used e ∙ used_rid b

used_length : (st : List ℕ) → length (used st) ≡ length (rid st)
used_length [] = refl
used_length (zero ∷ ns) = used_length ns
used_length (suc n ∷ ns) = refl

-- ---- one part more
pub after_more : (st : List ℕ) (xs : List Node) (x : Node) → after st (xs ++ x ∷ []) ≡ go (after st xs) x
after_more st [] x = refl
after_more st (y ∷ ys) x = after_more (go st y) ys x

pub shallow_more : (st : List ℕ) (xs : List Node) (x : Node) → are_shallow st xs ≡ true → nat_lt (length (rid (after st xs))) 16 ≡ true → are_shallow st (xs ++ x ∷ []) ≡ true
shallow_more st [] x h l = and_from (nat_lt (length (rid st)) 16) true l refl
shallow_more st (y ∷ ys) x h l =
    let both : (nat_lt (length (rid st)) 16 ≡ true) × (are_shallow (go st y) ys ≡ true) = and_parts (nat_lt (length (rid st)) 16) (are_shallow (go st y) ys) h in
    and_from (nat_lt (length (rid st)) 16) (are_shallow (go st y) (ys ++ x ∷ [])) both.0 (shallow_more (go st y) ys x both.1 l)

-- ---- a condition of such parts
-- what stands after a condition
record Behind (st : List ℕ) (rest : List Node) : Type 0 where
  left : List ℕ
  same : rid left ≡ rid (used st)
  shallow : are_shallow left rest ≡ true

abbrev Passed : ℕ → List ℕ → Cond → List Node → Type 0
Passed n st c rest = (is_nested n c ≡ true) × Behind st rest

too_deep : (st : List ℕ) (b : Bool) → 0 + length (rid st) ≡ 16 → (nat_lt (length (rid st)) 16 && b) ≡ true → ⊥
too_deep st b e h = let both : (nat_lt (length (rid st)) 16 ≡ true) × (b ≡ true) = and_parts (nat_lt (length (rid st)) 16) b h in let l : length (rid st) < 16 = ltb-true (length (rid st)) 16 both.0 in omega (arith, l, e)

leaf : (st : List ℕ) (rest : List Node) → (nat_lt (length (rid st)) 16 && are_shallow (0 ∷ used st) rest) ≡ true → Behind st rest
leaf st rest h =
    let both : (nat_lt (length (rid st)) 16 ≡ true) × (are_shallow (0 ∷ used st) rest ≡ true) = and_parts (nat_lt (length (rid st)) 16) (are_shallow (0 ∷ used st) rest) h in
    record { left = 0 ∷ used st; same = refl; shallow = both.1 }

-- one level further, after a joint
further : (n k : ℕ) (st : List ℕ) → suc n + length (rid st) ≡ 16 → n + length (rid (suc k ∷ used st)) ≡ 16
further n k st e = let l : length (used st) ≡ length (rid st) = used_length st in omega (arith, l, e)

-- what is had of one condition, wherever it stands
abbrev Passes : ℕ → Cond → Type 0
Passes n c = (st : List ℕ) (rest : List Node) → n + length (rid st) ≡ 16 → are_shallow st (parts_of c ++ rest) ≡ true → Passed n st c rest

two_passed : (n : ℕ) (st : List ℕ) (a b : Cond) (rest : List Node) → Passes n a → Passes n b → suc n + length (rid st) ≡ 16 → (nat_lt (length (rid st)) 16 && are_shallow (2 ∷ used st) ((parts_of a ++ parts_of b) ++ rest)) ≡ true →
    ((is_nested n a && is_nested n b) ≡ true) × Behind st rest
two_passed n st a b rest f g e h =
    let both : (nat_lt (length (rid st)) 16 ≡ true) × (are_shallow (2 ∷ used st) ((parts_of a ++ parts_of b) ++ rest) ≡ true) =
    and_parts (nat_lt (length (rid st)) 16) (are_shallow (2 ∷ used st) ((parts_of a ++ parts_of b) ++ rest)) h in
    let first : Passed n (2 ∷ used st) a (parts_of b ++ rest) =
    f (2 ∷ used st) (parts_of b ++ rest) (further n 1 st e) (subst (λ xs. are_shallow (2 ∷ used st) xs ≡ true) (append_assoc (parts_of a) (parts_of b) rest) both.1) in
    let second : Passed n first.1.left b rest =
    g first.1.left rest (subst (λ (ns : List ℕ). n + length ns ≡ 16) (sym first.1.same) (further n 0 st e)) first.1.shallow in (
      and_from (is_nested n a) (is_nested n b) first.0 second.0,
      record { left = second.1.left; same = second.1.same ∙ ap rid (used_same first.1.left (1 ∷ used st) first.1.same); shallow = second.1.shallow },
    )

passed : (n : ℕ) (st : List ℕ) (c : Cond) (rest : List Node) → n + length (rid st) ≡ 16 → are_shallow st (parts_of c ++ rest) ≡ true → Passed n st c rest
passed zero st (Cond.And' p a q b) rest e h = absurd (too_deep st _ e h)
passed zero st (Cond.Or' p a q b) rest e h = absurd (too_deep st _ e h)
passed zero st (Cond.Not' p a) rest e h = absurd (too_deep st _ e h)
passed zero st (Cond.Test op p c) rest e h = absurd (too_deep st _ e h)
passed zero st (Cond.Among p cs) rest e h = absurd (too_deep st _ e h)
passed (suc n) st (Cond.And' p a q b) rest e h = two_passed n st a b rest (λ s r. passed n s a r) (λ s r. passed n s b r) e h
passed (suc n) st (Cond.Or' p a q b) rest e h = two_passed n st a b rest (λ s r. passed n s a r) (λ s r. passed n s b r) e h
passed (suc n) st (Cond.Not' p a) rest e h =
    let both : (nat_lt (length (rid st)) 16 ≡ true) × (are_shallow (1 ∷ used st) (parts_of a ++ rest) ≡ true) = and_parts (nat_lt (length (rid st)) 16) (are_shallow (1 ∷ used st) (parts_of a ++ rest)) h in
    let first : Passed n (1 ∷ used st) a rest = passed n (1 ∷ used st) a rest (further n 0 st e) both.1 in
    (first.0, record { left = first.1.left; same = first.1.same; shallow = first.1.shallow })
passed (suc n) st (Cond.Test op p c) rest e h = (refl, leaf st rest h)
passed (suc n) st (Cond.Among p cs) rest e h = (refl, leaf st rest h)

whole : (c : Cond) → are_shallow [] (parts_of c) ≡ true → is_nested 16 c ≡ true
whole c h = let p : Passed 16 [] c [] = passed 16 [] c [] refl (subst (λ xs. are_shallow [] xs ≡ true) (sym (append-nil (parts_of c))) h) in p.0

pub nested_in : (o : Option Cond) → are_shallow [] (parts_in o) ≡ true → is_nested_in o ≡ true
nested_in None h = refl
nested_in (Some c) h = whole c h
