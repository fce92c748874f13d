-- What is made one after another, with one more.
use Rattle.std.proofs.Common.{◌≡◌, ℕ, suc, ◌+◌, List, ◌++◌, refl, sym, ap, subst, ◌∙◌, arith}
use Rattle.std.proofs.lemmas.List.{append-nil, append_assoc}
use Rattle.hib_make.specs.Draws.{Drawn, then, many}

-- what is made so far, and the state that it leaves
pub record Grown {A : Type 0} (before now : List A) (state : ℕ) (d : Drawn A) : Type 0 where
  pub made : now ≡ before ++ d.made
  pub left : state ≡ d.state

pub many_next : {A : Type 0} (f : ℕ → ℕ → Drawn A) (n x : ℕ) → many f (n + 1) x ≡ then (many f n x) (f (n + 1))
unfolding many
many_next f n x = let e : suc n ≡ n + 1 = omega arith in subst (λ m. many f m x ≡ then (many f n x) (f m)) e refl

pub many_none : {A : Type 0} (f : ℕ → ℕ → Drawn A) (x : ℕ) (xs : List A) → Grown xs xs x (many f 0 x)
unfolding many
many_none f x xs = record { made = sym (append-nil xs); left = refl }

pub many_more : {A : Type 0} (f : ℕ → ℕ → Drawn A) (n x : ℕ) (before now new : List A) (s t : ℕ) → Grown before now s (many f n x) →
    new ≡ now ++ (f (n + 1) s).made → t ≡ (f (n + 1) s).state → Grown before new t (many f (n + 1) x)
many_more f n x before now new s t g m l =
    subst (λ d. Grown before new t d) (sym (many_next f n x)) (record {
      made = m ∙ (ap (λ z. now ++ (f (n + 1) z).made) g.left ∙ (ap (λ z. z ++ (f (n + 1) (many f n x).state).made) g.made ∙ append_assoc before (many f n x).made (f (n + 1) (many f n x).state).made));
      left = l ∙ ap (λ z. (f (n + 1) z).state) g.left;
    })
