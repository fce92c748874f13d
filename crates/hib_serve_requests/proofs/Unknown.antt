-- The names of an object's members.
use Rattle.std.proofs.Common.{◌≡◌, List, [], ◌∷◌, refl, map, string_bytes, Bool, true, false, option_map}
use Rattle.std.specs.Prelude.{String, not}
use Rattle.std.specs.List.{find}
use Rattle.std.specs.declared.alloc.Global.{Global}
use Rattle.serde_json.specs.View.{members_view}
use Rattle.serde_json.specs.declared.value.Value.{Value}
use Rattle.hib_serve_requests.specs.Lines.{is_known, first_unknown}

abbrev names : List (String Global × Value) → List (String Global)
names ms = map (λ m. m.0) ms

abbrev is_strange : String Global → Bool
is_strange s = not (is_known (string_bytes s))

abbrev AreSame : List (String Global × Value) → Type 0
AreSame ms = first_unknown (members_view ms) ≡ option_map string_bytes (find is_strange (names ms))

by_name : (m : String Global × Value) (ms : List (String Global × Value)) (b : Bool) → is_known (string_bytes m.0) ≡ b → AreSame ms → AreSame (m ∷ ms)
by_name m ms true e h = rw e h
by_name m ms false e h = rw e refl

pub unknown_names : (ms : List (String Global × Value)) → first_unknown (members_view ms) ≡ option_map string_bytes (find is_strange (names ms))
unknown_names [] = refl
unknown_names (m ∷ ms) = by_name m ms (is_known (string_bytes m.0)) refl (unknown_names ms)
