-- What the lists of parts keep while they are gathered, in the order of parts.
use Rattle.std.specs.Prelude.{◌≡◌, ◌≤◌, ◌+◌, ℕ, false, List, [], ◌∷◌, Option}
use Rattle.hib_base.specs.Tables.{Tables}
use Rattle.hib_journal.specs.Types.{Script, Part}
use Rattle.hib_journal.specs.Sessions.{Journal}
use Rattle.hib_split_law.specs.Merged.{of_part_in, is_part_before, ArePartsLegal}
use Rattle.hib_merge.specs.Merging.{AreRising, IsInOne}

-- lists of parts, each of a part before q: one list at most of each part, the ticks of each rise, and each is legal by itself
pub record IsGathered (script : Script) (told : Option Tables) (q : Part) (ls : List Journal) : Type 0 where
  pub apart : (p : Part) → IsInOne p ls
  pub rising : AreRising ls
  pub legal : ArePartsLegal script told ls
  pub free : (p : Part) → is_part_before p q ≡ false → of_part_in p ls ≡ []

-- numbers that rise, from n or more on
abbrev pub AscendFrom : ℕ → List ℕ → Type 0
AscendFrom n [] = Unit {0}
AscendFrom n (m ∷ ms) = (n ≤ m) × AscendFrom (m + 1) ms
