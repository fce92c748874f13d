-- Conditions and their parts.
use Rattle.std.proofs.Common.{◌≡◌, ℕ, suc, ◌+◌, ◌-◌, false, cond, nat_le, List, [], ◌∷◌, ◌++◌, length, Option, Some, None, option_and_then, option_map, refl, ap, ◌∙◌, arith, append_assoc}
use Rattle.std.proofs.lemmas.List.{append-nil}
use Rattle.std.proofs.lemmas.Bool.Decides.{nat_tests}
use Rattle.hib_base.specs.declared.scripts.Cond.{Cond}
use Rattle.hib_base.specs.declared.scripts.Node.{Node}
use Rattle.hib_criteria.specs.Query.{parts_of, parts_all, arity, joined, count_of, is_one, IsOnly, IsBuilt}

-- one condition more at the end
pub parts_more : (cs : List Cond) (c : Cond) → parts_all (cs ++ c ∷ []) ≡ parts_of c ++ parts_all cs
parts_more [] c = rw append-nil refl
parts_more (d ∷ cs) c = rw (parts_more cs c) (rw append_assoc refl)

-- two conditions taken from the end, and one that joins them put there
pub join_two : (n : Node) (cs rest less ds : List Cond) (a b x : Cond) → cs ≡ rest ++ a ∷ [] → rest ≡ less ++ b ∷ [] → ds ≡ less ++ x ∷ [] → parts_of x ≡ n ∷ (parts_of a ++ parts_of b) → parts_all ds ≡ n ∷ parts_all cs
join_two n cs rest less ds a b x e f g h =
    rw g (rw (parts_more less x) (rw h (rw e (rw (parts_more rest a) (rw f (rw (parts_more less b) (rw append_assoc refl)))))))

pub both : (n : Node) (a b d e : Cond) → a ≡ b → d ≡ e → n ∷ (parts_of a ++ parts_of d) ≡ n ∷ (parts_of b ++ parts_of e)
both n a b d e h k = rw (h, k) refl

-- ---- how many conditions some parts come to
fewer_none : (n : Node) (k : ℕ) → nat_le (arity n) k ≡ false → joined n k ≡ None
fewer_none n k h = rw h refl

joined_two : (k : ℕ) → cond (nat_le 2 (suc (suc k))) (Some (suc (suc (suc k) - 2))) None ≡ Some (suc k)
joined_two k = grind (arith, nat_tests)

joined_one : (k : ℕ) → cond (nat_le 1 (suc k)) (Some (suc (suc k - 1))) None ≡ Some (suc k)
joined_one k = grind (arith, nat_tests)

joined_none : (k : ℕ) → cond (nat_le 0 k) (Some (suc (k - 0))) None ≡ Some (suc k)
joined_none k = grind (arith, nat_tests)

two_up : (n : Node) → arity n ≡ 2 → (o : Option ℕ) → option_and_then (λ k. joined n k) (option_map (λ k. suc k) (option_map (λ k. suc k) o)) ≡ option_map (λ k. suc k) o
two_up n h None = refl
two_up n h (Some k) = rw h (joined_two k)

one_up : (n : Node) → arity n ≡ 1 → (o : Option ℕ) → option_and_then (λ k. joined n k) (option_map (λ k. suc k) o) ≡ option_map (λ k. suc k) o
one_up n h None = refl
one_up n h (Some k) = rw h (joined_one k)

leaf_up : (n : Node) → arity n ≡ 0 → (o : Option ℕ) → option_and_then (λ k. joined n k) o ≡ option_map (λ k. suc k) o
leaf_up n h None = refl
leaf_up n h (Some k) = rw h (joined_none k)

counted_two : (n : Node) (xs ys ns : List Node) → arity n ≡ 2 → count_of (xs ++ (ys ++ ns)) ≡ option_map (λ k. suc k) (count_of (ys ++ ns)) → count_of (ys ++ ns) ≡ option_map (λ k. suc k) (count_of ns) → option_and_then (λ k. joined n k) (count_of ((xs ++ ys) ++ ns)) ≡ option_map (λ k. suc k) (count_of ns)
counted_two n xs ys ns h e f = rw append_assoc (rw e (rw f (two_up n h (count_of ns))))

counted_one : (c : Cond) (ns : List Node) → count_of (parts_of c ++ ns) ≡ option_map (λ k. suc k) (count_of ns)
counted_one (Cond.And' p a q b) ns = counted_two Node.And (parts_of a) (parts_of b) ns refl (counted_one a (parts_of b ++ ns)) (counted_one b ns)
counted_one (Cond.Or' p a q b) ns = counted_two Node.Or (parts_of a) (parts_of b) ns refl (counted_one a (parts_of b ++ ns)) (counted_one b ns)
counted_one (Cond.Not' p a) ns = rw (counted_one a ns) (one_up Node.Not refl (count_of ns))
counted_one (Cond.Test op path cell) ns = leaf_up (Node.Test op path cell) refl (count_of ns)
counted_one (Cond.Among path cells) ns = leaf_up (Node.Among path cells) refl (count_of ns)

up_none : (o : Option ℕ) → o ≡ option_map (λ k. k + 0) o
up_none None = refl
up_none (Some k) = ap Some (omega arith)

up_more : (o : Option ℕ) (n : ℕ) → option_map (λ k. k + n) (option_map (λ k. suc k) o) ≡ option_map (λ k. k + suc n) o
up_more None n = refl
up_more (Some k) n = ap Some (omega arith)

counted_all : (cs : List Cond) (ns : List Node) → count_of (parts_all cs ++ ns) ≡ option_map (λ k. k + length cs) (count_of ns)
counted_all [] ns = up_none (count_of ns)
counted_all (c ∷ cs) ns = rw append_assoc (rw (counted_all cs (parts_of c ++ ns)) (rw (counted_one c ns) (up_more (count_of ns) (length cs))))

counted : (cs : List Cond) → count_of (parts_all cs) ≡ Some (length cs)
counted cs =
    let all : count_of (parts_all cs ++ []) ≡ Some (0 + length cs) = counted_all cs [] in
    rw append-nil at all ∙ ap Some (omega arith)

none_behind : (ms ns : List Node) → count_of ns ≡ None → count_of (ms ++ ns) ≡ None
none_behind [] ns h = h
none_behind (m ∷ ms) ns h = rw (none_behind ms ns h) refl

-- ---- the parts from the last one on
pub parts_torn : (nodes rest less : List Node) (cs : List Cond) (n : Node) → rest ++ parts_all cs ≡ nodes → rest ≡ less ++ n ∷ [] → nat_le (arity n) (length cs) ≡ false → is_one (count_of nodes) ≡ false
parts_torn nodes rest less cs n e f h =
    let here : count_of (n ∷ parts_all cs) ≡ None = rw (counted cs) (fewer_none n (length cs) h) in
    let whole : (less ++ n ∷ []) ++ parts_all cs ≡ nodes = rw f at e in
    rw (← whole) (rw append_assoc (rw (none_behind less (n ∷ parts_all cs) here) refl))

built : (nodes : List Node) (cs : List Cond) (o : Option Cond) → parts_all cs ≡ nodes → IsOnly cs o → IsBuilt nodes o
built nodes cs None e h = rw (← e) (rw (counted cs) h)
built nodes cs (Some c) e h =
    let alone : parts_all (c ∷ []) ≡ nodes = rw h at e in
    (rw (← e) (rw (counted cs) (rw h refl)), alone)

pub parts_ended : (nodes rest : List Node) (cs : List Cond) (o : Option Cond) → rest ++ parts_all cs ≡ nodes → length rest ≡ 0 → IsOnly cs o → IsBuilt nodes o
parts_ended nodes [] cs o e z h = built nodes cs o e h
parts_ended nodes (n ∷ rest) cs o e z h = absurd (omega (arith, z))
