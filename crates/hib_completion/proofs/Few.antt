-- The keys of changes, gathered one after another.
use Rattle.std.proofs.Common.{◌≡◌, inl, inr, Bool, true, false, cond, ◌||◌, List, [], ◌∷◌, ◌++◌, append-nil, append_assoc, refl, sym, ap, ◌∙◌, subst}
use Rattle.std.specs.List.{flat_map, list_any}
use Rattle.hib_base.specs.Keys.{same_key}
use Rattle.hib_base.specs.Tables.{key_of}
use Rattle.hib_base.proofs.Tables.{same_key_eq, Tested, tested}
use Rattle.hib_journal.specs.Types.{Key, Change, Act}
use Rattle.hib_journal.specs.Next.{keys_of}
use Rattle.hib_completion.specs.Completed.{is_key_in}
use Rattle.hib_completion.specs.Touched.{with_key}
use Rattle.hib_completion.proofs.Keys.{less, less_none, in_more}
use Rattle.hib_completion.proofs.Noted.{keys_more}

-- the keys so far, with those of more changes
abbrev pub gathered : List Key → List Change → List Key
gathered ks [] = ks
gathered ks (c ∷ cs) = gathered (with_key (key_of c) ks) cs

gathered_more : (ks : List Key) (cs : List Change) → gathered ks cs ≡ ks ++ less ks (keys_of cs)
gathered_more ks [] = sym (append-nil ks)
gathered_more ks (c ∷ cs) = gathered_more (with_key (key_of c) ks) cs ∙ keys_more ks (key_of c) (keys_of cs) (ks ++ less ks (keys_of (c ∷ cs))) refl

pub gathered_all : (cs : List Change) → gathered [] cs ≡ keys_of cs
gathered_all cs = gathered_more [] cs ∙ less_none (keys_of cs)

pub gathered_push : (ks : List Key) (cs : List Change) (c : Change) → gathered ks (cs ++ c ∷ []) ≡ with_key (key_of c) (gathered ks cs)
gathered_push ks [] c = refl
gathered_push ks (d ∷ cs) c = gathered_push (with_key (key_of d) ks) cs c

among_with : (j k : Key) (ks : List Key) → is_key_in j (with_key k ks) ≡ (is_key_in j ks || same_key k j)
among_with j k ks = by (tested (is_key_in k ks)) (tested (same_key k j))
  where
    or_false : (b : Bool) → b ≡ (b || false)
    or_false true = refl
    or_false false = refl

    or_true : (b : Bool) → true ≡ (b || true)
    or_true true = refl
    or_true false = refl

    by : Tested (is_key_in k ks) → Tested (same_key k j) → is_key_in j (cond (is_key_in k ks) ks (ks ++ k ∷ [])) ≡ (is_key_in j ks || same_key k j)
    by (inr n) s = rw n (in_more j ks k)
    by (inl t) (inr s) = rw (t, s) (or_false (is_key_in j ks))
    by (inl t) (inl s) =
        let there : is_key_in j ks ≡ true = subst (λ x. is_key_in x ks ≡ true) (same_key_eq k j s) t in
        rw (t, s) (there ∙ or_true (is_key_in j ks))

pub among_gathered : (k : Key) (ks : List Key) (cs : List Change) → is_key_in k (gathered ks cs) ≡ (is_key_in k ks || list_any (λ c. same_key (key_of c) k) cs)
among_gathered k ks [] = or_false (is_key_in k ks)
  where
    or_false : (b : Bool) → b ≡ (b || false)
    or_false true = refl
    or_false false = refl
among_gathered k ks (c ∷ cs) =
    among_gathered k (with_key (key_of c) ks) cs
    ∙ ap (λ b. b || list_any (λ d. same_key (key_of d) k) cs) (among_with k (key_of c) ks)
    ∙ regroup (is_key_in k ks) (same_key (key_of c) k) (list_any (λ d. same_key (key_of d) k) cs)
  where
    regroup : (a b d : Bool) → ((a || b) || d) ≡ (a || (b || d))
    regroup true b d = refl
    regroup false b d = refl

flat_more : (f : Key → List Act) (ks : List Key) (k : Key) → flat_map f (ks ++ k ∷ []) ≡ flat_map f ks ++ f k
flat_more f [] k = append-nil (f k)
flat_more f (j ∷ ks) k = ap (λ x. f j ++ x) (flat_more f ks k) ∙ sym (append_assoc (f j) (flat_map f ks) (f k))

-- what completes the keys so far, and one more if it is new
pub few_more : (f : Key → List Act) (cs : List Change) (c : Change) (more : List Act) → more ≡ cond (list_any (λ d. same_key (key_of d) (key_of c)) cs) [] (f (key_of c))
    → flat_map f (gathered [] cs) ++ more ≡ flat_map f (gathered [] (cs ++ c ∷ []))
few_more f cs c more h = ap (λ x. flat_map f (gathered [] cs) ++ x) h ∙ by (tested (list_any (λ d. same_key (key_of d) (key_of c)) cs)) ∙ ap (flat_map f) (sym (gathered_push [] cs c))
  where
    by : Tested (list_any (λ d. same_key (key_of d) (key_of c)) cs)
        → flat_map f (gathered [] cs) ++ cond (list_any (λ d. same_key (key_of d) (key_of c)) cs) [] (f (key_of c)) ≡ flat_map f (with_key (key_of c) (gathered [] cs))
    by (inl t) =
        let a : is_key_in (key_of c) (gathered [] cs) ≡ true = among_gathered (key_of c) [] cs ∙ t in
        rw (t, a) (append-nil (flat_map f (gathered [] cs)))
    by (inr n) =
        let a : is_key_in (key_of c) (gathered [] cs) ≡ false = among_gathered (key_of c) [] cs ∙ n in
        rw (n, a) (sym (flat_more f (gathered [] cs) (key_of c)))
