-- The last of some statements, and where a line within a session stands.
use Rattle.std.proofs.Common.{◌≡◌, ◌-◌, ◌<◌, suc, List, [], ◌∷◌, length, get_or, Result, Ok, Err, refl, arith}
use Rattle.hib_base.specs.declared.refusals.Kind.{Kind}
use Rattle.hib_base.specs.declared.scripts.SessionDef.{SessionDef}
use Rattle.hib_base.specs.declared.scripts.Statement.{Statement}
use Rattle.hib_base.specs.Scripts.{ends, are_over}
use Rattle.hib_script.specs.Lines.{Reader, at, with_statement}
use Rattle.hib_script.specs.declared.places.Place.{Place}

pub over_last : (ts : List Statement) (t : Statement) → 0 < length ts → are_over ts ≡ ends (get_or ts (length ts - 1) t)
over_last [] t h = absurd (omega arith)
over_last (s ∷ []) t h = refl
over_last (s ∷ u ∷ ts) t h =
    let before : length (s ∷ u ∷ ts) - 1 ≡ suc (length (u ∷ ts) - 1) = omega arith in
    rw before (over_last (u ∷ ts) t (omega arith))

-- what a statement adds to a session doesn't depend on where the reader stood
pub placed : (r : Reader) (p : Place) (s : SessionDef) (t : Result Statement Kind) → with_statement (at p r) s t ≡ with_statement r s t
placed r p s (Err k) = refl
placed r p s (Ok t) = refl
