-- The place of a session by its name.
use Rattle.std.specs.Prelude.{ℕ, List, Option, Some, None, bytes_eq}
use Rattle.std.specs.Map.{lookup}
use Rattle.std.specs.declared.alloc.Global.{Global}
use Rattle.std.specs.declared.vec.Vec.{Vec}

-- the place that a name has, if it has one
abbrev pub place_of : List ℕ → List (Vec ℕ Global × ℕ) → Option ℕ
place_of w ps = lookup (λ k. bytes_eq w k.items) ps

abbrev pub or_place : Option ℕ → Option ℕ → Option ℕ
or_place None b = b
or_place (Some i) b = Some i
