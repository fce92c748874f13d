-- Keys in the order of their places.
use Rattle.std.specs.Prelude.{◌≡◌, ◌≤◌, ℕ, true, List, [], ◌∷◌, Option, Some, None}
use Rattle.hib_journal.specs.Room.{is_earlier}

-- each of these keys has no place or one after this
abbrev pub AreLater : {X : Type 0} → (ℕ → Option ℕ) → Option ℕ → List (ℕ × X) → Type 0
AreLater place p [] = Unit {0}
AreLater place p (e ∷ es) = (is_earlier p (place e.0) ≡ true) × AreLater place p es

-- keys in the order of their places; each of them has one
abbrev pub IsInOrder : {X : Type 0} → (ℕ → Option ℕ) → List (ℕ × X) → Type 0
IsInOrder place [] = Unit {0}
IsInOrder place (e ∷ es) = (is_earlier (place e.0) None ≡ true) × AreLater place (place e.0) es × IsInOrder place es

-- a place, if there is one, is at most this tick
abbrev pub IsUpTo : ℕ → Option ℕ → Type 0
IsUpTo last None = Unit {0}
IsUpTo last (Some t) = t ≤ last

-- the first key of a list
abbrev pub first_key : {X : Type 0} → List (ℕ × X) → Option ℕ
first_key [] = None
first_key (e ∷ es) = Some e.0
