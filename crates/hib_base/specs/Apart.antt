-- Things of which no two are the same.
use Rattle.std.specs.Prelude.{Bool, true, not, ◌&&◌, List, [], ◌∷◌}
use Rattle.std.specs.List.{list_any}

abbrev pub are_apart_by : {A : Type 0} → (A → A → Bool) → List A → Bool
are_apart_by same [] = true
are_apart_by same (x ∷ xs) = not (list_any (λ y. same y x) xs) && are_apart_by same xs
