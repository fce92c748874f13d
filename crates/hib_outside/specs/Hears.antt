-- What a listener has heard, and when it leaves.
use Rattle.std.specs.Prelude.{◌≡◌, ◌≢◌, ◌↔◌, ◌≤◌, ℕ, ◌-◌, List, [], ◌∷◌, ◌++◌, ⊤, slice_get, Some, None, Option}
use Rattle.std.specs.Option.{option_map}
use Rattle.hib_outside.specs.Types.{Entry}
use Rattle.hib_outside.specs.declared.listener.Heard.{Heard}

-- the list heard, with the entry at its end unless memory ran out
abbrev pub heard_after : Heard → Entry → Option (List Entry) → Option (List Entry)
heard_after Heard.NoMemory entry heard = heard
heard_after Heard.Stay entry heard = option_map (λ es. es ++ entry ∷ []) heard
heard_after Heard.Leave entry heard = option_map (λ es. es ++ entry ∷ []) heard

-- how many are left to hear
abbrev pub left_after : Heard → Option ℕ → Option ℕ
left_after Heard.NoMemory left = left
left_after Heard.Stay left = option_map (λ n. n - 1) left
left_after Heard.Leave left = option_map (λ n. n - 1) left

-- if it tells, it leaves exactly if at most one entry was left
abbrev pub IsDue : Heard → Option (List Entry) → Option ℕ → Type 0
IsDue Heard.NoMemory heard left = ⊤
IsDue answer None left = ⊤
IsDue answer (Some es) None = answer ≢ Heard.Leave
IsDue answer (Some es) (Some n) = (answer ≡ Heard.Leave) ↔ (n ≤ 1)

-- the entry at a place of the list heard; none if nothing is told
abbrev pub told_at : Option (List Entry) → ℕ → Option Entry
told_at None i = None
told_at (Some es) i = slice_get es i
