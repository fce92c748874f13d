-- A statement is added at the place of its session.
use Rattle.std.proofs.Common.{◌≡◌, ◌<◌, ℕ, zero, suc, List, [], ◌∷◌, ◌++◌, length, slice_set, ap, ◌∙◌, arith}
use Rattle.std.proofs.Math.ListN.{get_or}
use Rattle.hib_base.specs.declared.scripts.Statement.{Statement}
use Rattle.hib_base.specs.declared.scripts.SessionDef.{SessionDef}
use Rattle.hib_live.specs.Asked.{add_at}

pub added : (ds : List SessionDef) (n : ℕ) (d : SessionDef) (more : List Statement) (st : Statement) → n < length ds → d ≡ get_or ds n d → more ≡ d.statements ++ st ∷ [] →
    slice_set ds n (record { name = d.name; statements = more }) ≡ add_at ds n st
added [] n d more st l g e = absurd (omega (arith, l))
added (c ∷ ds) zero d more st l g e =
    ap (λ (x : List Statement). record { name = d.name; statements = x } ∷ ds) e ∙ ap (λ (x : SessionDef). record { name = x.name; statements = x.statements ++ st ∷ [] } ∷ ds) g
added (c ∷ ds) (suc n) d more st l g e = ap (λ (es : List SessionDef). c ∷ es) (added ds n d more st (omega (arith, l)) g e)
