-- Which judgements are asked for, and which are findings.
use Rattle.std.specs.Prelude.{ℕ, Bool, true, false, List, [], ◌∷◌, Option, Some, None, bytes_eq, if◌then◌else◌}
use Rattle.hib_trace_lines.specs.Events.{EventText}
use Rattle.hib_trace_findings.specs.declared.kinds.Judgement.{Judgement}

-- a key is the one that is asked for, if one is
abbrev pub is_asked : Option (List ℕ) → Option (List ℕ) → Bool
is_asked None k = true
is_asked (Some t) None = false
is_asked (Some t) (Some u) = bytes_eq u t

abbrev pub asked_one : Option (List ℕ) → EventText → Option Judgement → Option Judgement
asked_one key e j = if is_asked key e.key then j else None

-- the judgements of events, without those of other keys
abbrev pub masked : Option (List ℕ) → List EventText → List (Option Judgement) → List (Option Judgement)
masked key [] js = []
masked key (e ∷ es) [] = []
masked key (e ∷ es) (j ∷ js) = asked_one key e j ∷ masked key es js

-- a judgement that says nothing for certain
abbrev pub is_open : Judgement → Bool
is_open Judgement.Unknown = true
is_open Judgement.Possible = true
is_open Judgement.OpenList = true
is_open _ = false

abbrev pub is_found : Option Judgement → Bool
is_found None = false
is_found (Some j) = if is_open j then false else true
