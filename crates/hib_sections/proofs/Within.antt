-- Parts of joined conditions that step within the mapping.
use Rattle.std.proofs.Common.{◌≡◌, ℕ, Bool, true, false, ◌&&◌, List, [], ◌∷◌, ◌++◌, refl, ap, ◌∙◌}
use Rattle.std.specs.List.{list_all}
use Rattle.hib_base.specs.declared.scripts.Node.{Node}
use Rattle.hib_sections.specs.BulkLines.{is_within}

grouped : (b c d : Bool) → (b && (c && d)) ≡ ((b && c) && d)
grouped true c d = refl
grouped false c d = refl

pub both : (n : ℕ) (xs ys : List Node) → list_all (is_within n) (xs ++ ys) ≡ (list_all (is_within n) xs && list_all (is_within n) ys)
both n [] ys = refl
both n (x ∷ xs) ys = ap (λ b. is_within n x && b) (both n xs ys) ∙ grouped (is_within n x) (list_all (is_within n) xs) (list_all (is_within n) ys)

-- what joined conditions come to, by whether the first and the second step within it
pub and_within : (n : ℕ) (xs ys : List Node) → list_all (is_within n) (Node.And ∷ (xs ++ ys)) ≡ (list_all (is_within n) xs && list_all (is_within n) ys)
and_within n xs ys = both n xs ys

pub or_within : (n : ℕ) (xs ys : List Node) → list_all (is_within n) (Node.Or ∷ (xs ++ ys)) ≡ (list_all (is_within n) xs && list_all (is_within n) ys)
or_within n xs ys = both n xs ys

pub one : (b : Bool) → (b && true) ≡ b
one true = refl
one false = refl
