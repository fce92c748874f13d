-- Sessions that were given nodes.
use Rattle.std.specs.Prelude.{◌==◌, ◌&&◌, ℕ, Bool, true, not, [], ◌∷◌}
use Rattle.std.specs.List.{list_any}
use Rattle.hib_nodes_law.specs.Types.{Nodings}

abbrev pub is_placed : Nodings → ℕ → Bool
is_placed ps s = list_any (λ p. s == p.0) ps

-- no session has two
abbrev pub are_once : Nodings → Bool
are_once [] = true
are_once (p ∷ ps) = not (is_placed ps p.0) && are_once ps
