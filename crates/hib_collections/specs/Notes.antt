-- What is noted of a session beside what it remembers itself.
use Rattle.std.specs.Prelude.{◌≡◌, ℕ, Bool, List, [], ◌∷◌, ◌++◌, Option, option_map, None}
use Rattle.std.specs.List.{list_any}
use Rattle.hib_journal.specs.Types.{Cell, Act, Reply}
use Rattle.hib_collections_law.specs.Types.{Gathered}
use Rattle.hib_collections_law.specs.Gathered.{Held, same_pair, locks_in, missed, listed}

-- an owner is among these
abbrev pub is_place_in : ℕ × ℕ → List (ℕ × ℕ) → Bool
is_place_in p ps = list_any (λ q. same_pair q p) ps

pub record LocksState : Type 0 where
  pub held : List Held
  pub room : Bool

pub record NotesState : Type 0 where
  pub locks : List Held
  pub missed : Option (ℕ × ℕ)
  pub listed : Option ((ℕ × ℕ) × List Cell)
  pub room : Bool

-- what is noted is what a session's entries say
pub record AreNoted (n : NotesState) (mine : Gathered) : Type 0 where
  pub locks : n.locks ≡ locks_in mine
  pub missed : n.missed ≡ missed mine
  pub listed : n.listed ≡ listed mine

-- the list that was answered after a refusal
abbrev pub listed_from : Option (ℕ × ℕ) → Act → Reply → Option ((ℕ × ℕ) × List Cell)
listed_from missed (Act.List q) (Reply.Listed l) = option_map (λ p. (p, l)) missed
listed_from missed _ _ = None

-- the locks after one was answered
abbrev pub locks_with : ℕ × ℕ → Reply → List Held → List Held
locks_with p (Reply.Locked l) hs = hs ++ (p, l.id) ∷ []
locks_with p r hs = hs
