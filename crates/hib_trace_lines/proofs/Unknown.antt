-- The names of an object's members.
use Rattle.std.proofs.Common.{◌≡◌, List, [], ◌∷◌, refl, ap, map, string_bytes}
use Rattle.std.specs.Prelude.{◌||◌, String}
use Rattle.std.specs.List.{list_any}
use Rattle.std.specs.declared.alloc.Global.{Global}
use Rattle.serde_json.specs.View.{members_view}
use Rattle.serde_json.specs.declared.value.Value.{Value}
use Rattle.hib_trace_lines.specs.Faults.{is_unknown, any_unknown}

pub unknown_names : (ms : List (String Global × Value)) → any_unknown (members_view ms) ≡ list_any (λ s. is_unknown (string_bytes s)) (map (λ m. m.0) ms)
unknown_names [] = refl
unknown_names (m ∷ ms) = ap (λ b. is_unknown (string_bytes m.0) || b) (unknown_names ms)
