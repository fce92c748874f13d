-- What commits give, one after the other.
use Rattle.std.proofs.Common.{◌≡◌, ◌<◌, ◌+◌, ℕ, Option, None, Some, List, [], ◌∷◌, ◌++◌, take, length, get_or, refl, ◌∙◌, ap}
use Rattle.std.specs.List.{filter_map, cons_option}
use Rattle.std.specs.Option.{option_to_list}
use Rattle.std.proofs.lemmas.List.{take_more}
use Rattle.std.proofs.lemmas.List.Elements.{filter_map-append}
use Rattle.hib_trace_law.specs.declared.commits.Commit.{Commit}

cons_one : (o : Option Commit) → cons_option o [] ≡ option_to_list o
cons_one None = refl
cons_one (Some m) = refl

pub made_more : (h : Commit → Option Commit) (cs : List Commit) (i : ℕ) (d : Commit) → i < length cs →
    filter_map h (take (i + 1) cs) ≡ filter_map h (take i cs) ++ option_to_list (h (get_or cs i d))
made_more h cs i d l =
    ap (filter_map h) (take_more cs i d l)
    ∙ filter_map-append h (take i cs) (get_or cs i d ∷ [])
    ∙ ap (λ ms. filter_map h (take i cs) ++ ms) (cons_one (h (get_or cs i d)))
