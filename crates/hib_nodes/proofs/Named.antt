-- The nodes of sessions, from the last place that is named to the first.
use Rattle.std.specs.Prelude.{slice_get, slice_set}
use Rattle.std.proofs.Common.{◌≡◌, ℕ, ◌+◌, ◌<◌, ◌≤◌, ◌==◌, false, cond, List, length, drop, get_or, replicate, Some, sym, ap, ◌∙◌, subst, arith, inl, inr, eq-eqb}
use Rattle.std.proofs.lemmas.Bool.{true≢false, eqb-true}
use Rattle.std.proofs.lemmas.List.{drop_all, drop_more, get_or-replicate, get_or-set_other, get_or-set_same, length-replicate, length-set}
use Rattle.std.proofs.lemmas.Option.{slice_get-get_or}
use Rattle.hib_base.proofs.Tables.{Tested, tested}
use Rattle.hib_nodes_law.specs.Types.{Nodings}
use Rattle.hib_nodes_law.specs.Legal.{node_of}
use Rattle.hib_nodes.specs.Placed.{ArePlaced}

-- by the places from the i-th on
pub record AreNamed (places : Nodings) (i count : ℕ) (xs : List ℕ) : Type 0 where
  pub all : length xs ≡ count
  pub each : (s : ℕ) → s < count → slice_get xs s ≡ Some (node_of (drop i places) s)

pub none_named : (places : Nodings) (i count : ℕ) (xs : List ℕ) → xs ≡ replicate count 1 → length places ≤ i → AreNamed places i count xs
none_named places i count xs e l = record {
  all = ap length e ∙ length-replicate count 1;
  each = λ s k.
      let m : s < length xs = omega (arith, k, ap length e, length-replicate {A = ℕ} count 1) in
      slice_get-get_or xs s 1 m
      ∙ ap Some (ap (λ z. get_or z s 1) e ∙ (get_or-replicate count s 1 1 k ∙ sym (ap (λ ps. node_of ps s) (drop_all i places l))));
}

set_here : (xs : List ℕ) (s v : ℕ) → s < length xs → slice_get (slice_set xs s v) s ≡ Some v
set_here xs s v l = slice_get-get_or (slice_set xs s v) s v (omega (arith, length-set xs s v, l)) ∙ ap Some (get_or-set_same xs s v v l)

set_there : (xs : List ℕ) (i s v : ℕ) → (i == s) ≡ false → s < length xs → slice_get (slice_set xs i v) s ≡ slice_get xs s
set_there xs i s v d l =
    slice_get-get_or (slice_set xs i v) s v (omega (arith, length-set xs i v, l))
    ∙ (ap Some (get_or-set_other xs i s v v (λ e. true≢false (sym (eq-eqb i s (sym e)) ∙ d))) ∙ sym (slice_get-get_or xs s v l))

first_of : (places : Nodings) (i : ℕ) (p : ℕ × ℕ) (s : ℕ) → i < length places → p ≡ get_or places i p → node_of (drop i places) s ≡ cond (p.0 == s) p.1 (node_of (drop (i + 1) places) s)
first_of places i p s l e = ap (λ ps. node_of ps s) (drop_more places i p l) ∙ ap (λ (q : ℕ × ℕ). cond (q.0 == s) q.1 (node_of (drop (i + 1) places) s)) (sym e)

-- one place more, of a session that is there
pub named_more : (places : Nodings) (i count : ℕ) (xs : List ℕ) (p : ℕ × ℕ) → i < length places → p ≡ get_or places i p → p.0 < count → AreNamed places (i + 1) count xs →
    AreNamed places i count (slice_set xs p.0 p.1)
named_more places i count xs p l e k w = record { all = length-set xs p.0 p.1 ∙ w.all; each = λ s m. by_test s m (tested (p.0 == s)) }
  where
    by_test : (s : ℕ) → s < count → Tested (p.0 == s) → slice_get (slice_set xs p.0 p.1) s ≡ Some (node_of (drop i places) s)
    by_test s m (inl q) =
        let d : p.0 ≡ s = eqb-true p.0 s q in
        subst (λ j. slice_get (slice_set xs p.0 p.1) j ≡ Some p.1) d (set_here xs p.0 p.1 (subst (λ j. p.0 < j) (sym w.all) k))
        ∙ ap Some (sym (first_of places i p s l e ∙ ap (λ b. cond b p.1 (node_of (drop (i + 1) places) s)) q))
    by_test s m (inr q) =
        set_there xs p.0 s p.1 q (subst (λ j. s < j) (sym w.all) m) ∙ (w.each s m
        ∙ ap Some (sym (first_of places i p s l e ∙ ap (λ b. cond b p.1 (node_of (drop (i + 1) places) s)) q)))

-- and of one that is not
pub named_past : (places : Nodings) (i count : ℕ) (xs : List ℕ) (p : ℕ × ℕ) → i < length places → p ≡ get_or places i p → count ≤ p.0 → AreNamed places (i + 1) count xs →
    AreNamed places i count xs
named_past places i count xs p l e k w = record {
  all = w.all;
  each = λ s m.
      let d : (p.0 == s) ≡ false = Rattle.std.proofs.lemmas.Bool.ne_eqb p.0 s (λ t. apart p.0 s t k m) in
      w.each s m ∙ ap Some (sym (first_of places i p s l e ∙ ap (λ b. cond b p.1 (node_of (drop (i + 1) places) s)) d));
}
  where
    apart : (n s : ℕ) → n ≡ s → count ≤ n → s < count → ⊥
    apart n s t j m = omega (arith, t, m, j)

pub all_named : (places : Nodings) (i count : ℕ) (xs : List ℕ) → i ≡ 0 → AreNamed places i count xs → ArePlaced places count xs
all_named places i count xs e w = record { all = w.all; each = λ s k. w.each s k ∙ ap (λ j. Some (node_of (drop j places) s)) e }
