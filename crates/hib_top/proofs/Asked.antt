-- What words ask for has 1 to 64 workers.
use Rattle.std.proofs.Common.{◌≡◌, ◌≤◌, ℕ, Bool, true, false, ◌&&◌, List, [], ◌∷◌, Option, Some, None, IfSome, Result, Ok, Err, refl, sym, subst, arith}
use Rattle.std.proofs.lemmas.Bool.Decides.{nat_tests}
use Rattle.std.specs.Prelude.{IfOk, nat_le, cond, option_map, option_and_then}
use Rattle.std.specs.Str.Parse.{digits_value}
use Rattle.hib_words.specs.Given.{Text, options_in}
use Rattle.hib_words.specs.declared.words.Command.{Command}
use Rattle.hib_words.specs.declared.forms.Verb.{Verb}
use Rattle.hib_words.specs.declared.forms.Verb.TheVariants.{Play, Work, Make, Audit, Collect, Bulk, Nodes, Orders, Report, Flat, Schedule, States, Spans, Rows}
use Rattle.hib_words.specs.Commands.{Asked, Chosen, play, work, make, asked, chosen_in, command, form_of, settings_in, asked_of, is_numeral, number_between, verb_named}
use Rattle.hib_top.specs.Words.{HasFew}

abbrev IsFew : ℕ → Type 0
IsFew n = (1 ≤ n) × (n ≤ 64)

then_all : {A B : Type 0} (o : Option A) (f : A → Option B) (P : B → Type 0) → ((a : A) → IfSome (f a) P) → IfSome (option_and_then f o) P
then_all None f P all = tt
then_all (Some a) f P all = all a

then_each : {A B : Type 0} (o : Option A) (f : A → Option B) (Q : A → Type 0) (P : B → Type 0) → IfSome o Q → ((a : A) → Q a → IfSome (f a) P) → IfSome (option_and_then f o) P
then_each None f Q P q all = tt
then_each (Some a) f Q P q all = all a q

map_all : {A B : Type 0} (o : Option A) (f : A → B) (P : B → Type 0) → ((a : A) → P (f a)) → IfSome (option_map f o) P
map_all None f P all = tt
map_all (Some a) f P all = all a

-- a number in the range
within : (n : ℕ) → (nat_le 1 n && nat_le n 64) ≡ true → IsFew n
within n e = grind (arith, nat_tests)

in_few : (n : ℕ) (b : Bool) → (b ≡ true → IsFew n) → IfSome (cond b (Some n) None) IsFew
in_few n true few = few refl
in_few n false few = tt

of_text : (text : Text) (b : Bool) → IfSome (cond b (cond (nat_le 1 (digits_value 10 text) && nat_le (digits_value 10 text) 64) (Some (digits_value 10 text)) None) None) IsFew
of_text text true = let n = digits_value 10 text in in_few n (nat_le 1 n && nat_le n 64) (within n)
of_text text false = tt

number_few : (text : Text) → IfSome (number_between 1 64 text) IsFew
number_few text = of_text text (is_numeral text)

asked_few : (verb : Verb) (chosen : Chosen) → IfSome (asked verb chosen) HasFew
asked_few Play chosen = map_all (settings_in chosen) play HasFew (λ s. tt)
asked_few Work chosen = then_each (option_and_then (number_between 1 64) chosen.workers) (λ n. option_map (work n chosen.split) (settings_in chosen)) IsFew HasFew
    (then_all chosen.workers (number_between 1 64) IsFew number_few)
    (λ n few. map_all (settings_in chosen) (work n chosen.split) HasFew (λ s. few))
asked_few Make chosen = map_all (option_and_then (number_between 0 4294967295) chosen.seed) (λ n. make n chosen.text) HasFew (λ n. tt)
asked_few Audit chosen = tt
asked_few Collect chosen = tt
asked_few Bulk chosen = tt
asked_few Nodes chosen = tt
asked_few Orders chosen = tt
asked_few Report chosen = tt
asked_few Flat chosen = tt
asked_few Schedule chosen = tt
asked_few States chosen = tt
asked_few Spans chosen = tt
asked_few Rows chosen = tt

command_few : (words : List Text) → IfSome (command words) HasFew
command_few [] = tt
command_few (word ∷ rest) = then_all (verb_named word) (λ verb. option_and_then (λ given. asked verb (chosen_in given)) (options_in (form_of verb) rest)) HasFew
    (λ verb. then_all (options_in (form_of verb) rest) (λ given. asked verb (chosen_in given)) HasFew (λ given. asked_few verb (chosen_in given)))

few_command : (o : Option Command) → IfSome (option_map asked_of o) HasFew → IfSome o (λ c. HasFew (asked_of c))
few_command None few = tt
few_command (Some c) few = few

pub few_read : {E : Type 0} (words : List Text) (r : Result (Option Command) E) → IfOk r (λ o. option_map asked_of o ≡ command words) → IfOk r (λ o. IfSome o (λ c. HasFew (asked_of c)))
few_read words (Err e) read = tt
few_read words (Ok o) read = few_command o (subst (λ (a : Option Asked). IfSome a HasFew) (sym read) (command_few words))
