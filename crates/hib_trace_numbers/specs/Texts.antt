-- Texts that have numbers.
use Rattle.std.specs.Prelude.{◌≡◌, ℕ, List, Some, map, slice_get, string_bytes}
use Rattle.hib_trace_numbers.specs.declared.names.Names.{Names}

-- the texts, each at the place of its number
abbrev pub texts : Names → List (List ℕ)
texts n = map string_bytes n.set.keys

-- a number is that of a text
abbrev pub IsNamed : List (List ℕ) → ℕ → List ℕ → Type 0
IsNamed ts n t = slice_get ts n ≡ Some t

-- each text has one number
abbrev pub IsApart : List (List ℕ) → Type 0
IsApart ts = (m n : ℕ) (t : List ℕ) → IsNamed ts m t → IsNamed ts n t → m ≡ n

-- what had a number still has it
abbrev pub Keeps : List (List ℕ) → List (List ℕ) → Type 0
Keeps old new = (n : ℕ) (t : List ℕ) → IsNamed old n t → IsNamed new n t
