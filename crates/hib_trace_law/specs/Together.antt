-- When one placing explains all answers of a key together.
use Rattle.std.specs.Prelude.{◌≡◌, ◌≤◌, ◌&&◌, ◌↔◌, ℕ, zero, suc, Bool, true, List, [], ◌∷◌, nat_le, length, if◌then◌else◌}
use Rattle.hib_trace_law.specs.declared.calls.Call.{Call}
use Rattle.hib_trace_law.specs.declared.calls.Sighting.{Sighting}
use Rattle.hib_trace_law.specs.Placings.{IsPlaced, IsExplained}

abbrev pub AllExplained : List ℕ → List Sighting → Type 0
AllExplained ps [] = Unit {0}
AllExplained ps (a ∷ bs) = IsExplained ps a × AllExplained ps bs

-- an answer ends after it began, and its row is one of the key's
abbrev pub AreOfKey : List Call → List Sighting → Type 0
AreOfKey cs [] = Unit {0}
AreOfKey cs (a ∷ bs) = (a.since ≤ a.end) × (a.place ≤ length cs) × AreOfKey cs bs

-- one placing explains all
abbrev pub IsExplicable : List Call → List Sighting → Type 0
IsExplicable cs bs = (ps : List ℕ) × IsPlaced 0 cs ps × AllExplained ps bs

abbrev pub higher : ℕ → ℕ → ℕ
higher m n = if nat_le m n then n else m

abbrev pub lower : ℕ → ℕ → ℕ
lower m n = if nat_le m n then m else n

-- what an answer says of the commits: those that made its row came before its end, and the later ones after its begin
abbrev pub narrow : ℕ → ℕ → ℕ → List Call → List Call
narrow i s e [] = []
narrow zero s e (c ∷ cs) = record c { begin = higher c.begin s } ∷ narrow zero s e cs
narrow (suc i) s e (c ∷ cs) = record c { end = lower c.end e } ∷ narrow i s e cs

abbrev pub narrowed : List Call → List Sighting → List Call
narrowed cs [] = cs
narrowed cs (a ∷ bs) = narrowed (narrow a.place a.since a.end cs) bs

-- each commit as early as it can be
abbrev pub fits_early : ℕ → List Call → Bool
fits_early least [] = true
fits_early least (c ∷ cs) = nat_le (higher c.begin least) c.end && fits_early (higher c.begin least) cs

-- exact: the judge finds a placing if and only if there is one
abbrev pub IsExact : Type 0
IsExact = (cs : List Call) (bs : List Sighting) → AreOfKey cs bs → (fits_early 0 (narrowed cs bs) ≡ true) ↔ IsExplicable cs bs
