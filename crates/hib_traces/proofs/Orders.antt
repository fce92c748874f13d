-- What the marks of commits say of them.
use Rattle.std.proofs.Common.{◌≡◌, ◌<◌, ◌+◌, ℕ, false, Option, None, Some, List, [], ◌∷◌, ◌++◌, take, length, get_or, refl, sym, ◌∙◌, ap}
use Rattle.std.specs.Prelude.{◌&&◌, ◌||◌, nat_lt}
use Rattle.std.specs.List.{list_any, filter_map, cons_option}
use Rattle.std.specs.Option.{option_to_list}
use Rattle.std.proofs.lemmas.Bool.{and_right}
use Rattle.std.proofs.lemmas.List.{take_more}
use Rattle.std.proofs.lemmas.List.Elements.{filter_map-append}
use Rattle.hib_trace_law.specs.declared.commits.Commit.{Commit}
use Rattle.hib_trace_law.specs.Certain.{ended_before, is_lower}
use Rattle.hib_traces.specs.declared.marks.Mark.{Mark}
use Rattle.hib_traces.specs.Marks.{asks, pair_mark}

asks_pair : (x y : Option ℕ) (k t : ℕ) (ms : List Mark) → asks k t (cons_option (pair_mark x y) ms) ≡ ((is_lower (Some k) x && ended_before y t) || asks k t ms)
asks_pair None y k t ms = refl
asks_pair (Some x) None k t ms = ap (λ b. b || asks k t ms) (sym (and_right (nat_lt k x) false refl))
asks_pair (Some x) (Some y) k t ms = refl

pub asks_marks : (f g : Commit → Option ℕ) (cs : List Commit) (k t : ℕ) →
    asks k t (filter_map (λ c. pair_mark (f c) (g c)) cs) ≡ list_any (λ c. is_lower (Some k) (f c) && ended_before (g c) t) cs
asks_marks f g [] k t = refl
asks_marks f g (c ∷ cs) k t =
    asks_pair (f c) (g c) k t (filter_map (λ d. pair_mark (f d) (g d)) cs)
    ∙ ap (λ b. (is_lower (Some k) (f c) && ended_before (g c) t) || b) (asks_marks f g cs k t)

cons_one : (o : Option Mark) → cons_option o [] ≡ option_to_list o
cons_one None = refl
cons_one (Some m) = refl

pub made_more : (h : Commit → Option Mark) (cs : List Commit) (i : ℕ) (d : Commit) → i < length cs →
    filter_map h (take (i + 1) cs) ≡ filter_map h (take i cs) ++ option_to_list (h (get_or cs i d))
made_more h cs i d l =
    ap (filter_map h) (take_more cs i d l)
    ∙ filter_map-append h (take i cs) (get_or cs i d ∷ [])
    ∙ ap (λ ms. filter_map h (take i cs) ++ ms) (cons_one (h (get_or cs i d)))
