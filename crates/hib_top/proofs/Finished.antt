-- A run in which every session that there is has ended is finished.
use Rattle.std.proofs.Common.{◌≡◌, ℕ, zero, suc, ◌<◌, List, [], ◌∷◌, length, Some, None, arith}
use Rattle.std.specs.Prelude.{slice_get}
use Rattle.hib_journal.specs.Types.{Script}
use Rattle.hib_journal.specs.Sessions.{Journal}
use Rattle.hib_core.specs.Factory.{AreOver}
use Rattle.hib_top.specs.declared.turns.Turns.{Turns}
use Rattle.hib_top.specs.Running.{IsOrdered, IsFinished}

below : {A : Type 0} (xs : List A) (n : ℕ) (x : A) → slice_get xs n ≡ Some x → n < length xs
below [] n x e = absurd (no e)
  where
    no : None ≡ Some x → ⊥
    no p = cc
below (y ∷ xs) zero x e = omega arith
below (y ∷ xs) (suc n) x e = let l : n < length xs = below xs n x e in omega (arith, l)

pub all_ended : (turns : Turns) (script : Script) (h : Journal) → AreOver script h → IsOrdered turns script h → IsFinished turns script h
all_ended turns script h over ordered = record { ended = λ s d e. over s (below script.sessions s d e); ordered = ordered }
