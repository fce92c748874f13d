-- What clap's clauses say of a verb's command, by the definition.
use Rattle.std.proofs.Common.{◌≡◌, ◌∙◌, ◌&&◌, inl, inr, true, false, refl, sym, ap, subst, List, [], ◌∷◌, map, drop, Option, Some, None}
use Rattle.std.specs.Prelude.{is_some}
use Rattle.std.specs.List.{list_all}
use Rattle.clap.specs.Walk.{nothing_held, rows_after, rows_of, walk}
use Rattle.clap.specs.Faults.{built_fault, entered_fault, fault_of, is_simple_and_free, level_fault}
use Rattle.clap.specs.Kinds.{HasKind, Kinds}
use Rattle.clap.specs.Matches.{found_of}
use Rattle.clap.specs.Values.{kind_of}
use Rattle.clap.specs.Simple.{App, entered, is_simple, matches_of}
use Rattle.clap.specs.declared.error.Error.{Error}
use Rattle.clap.specs.declared.error.kind.ErrorKind.TheVariants.{OutOfMemory}
use Rattle.clap.specs.declared.parser.matches.ArgMatches.{ArgMatches}
use Rattle.hib_words.specs.Given.{Text, Form, Given, options_in}
use Rattle.hib_words.specs.Clap.{app_for, built_rules, built_shape}
use Rattle.hib_words.specs.Commands.{form_of, verb_word}
use Rattle.hib_words.specs.Matched.{HoldsGiven, is_fit}
use Rattle.hib_words.specs.declared.forms.Verb.{Verb}
use Rattle.hib_words.specs.declared.forms.Verb.TheVariants.{Play, Work, Make, Audit, Collect, Bulk, Nodes, Orders, Report, Flat, Schedule, Spans, States, Rows}
use Rattle.hib_words.proofs.Agree.{Answers, answers}
use Rattle.hib_words.proofs.Getters.{IsProperEnd, proper}
use Rattle.hib_words.proofs.Fit.{fit_words, unfit_none}

abbrev app : Verb → App
app v = app_for (verb_word v) (form_of v)

pub simple : (v : Verb) → is_simple (app v) ≡ true
simple Play = refl
simple Work = refl
simple Make = refl
simple Audit = refl
simple Collect = refl
simple Bulk = refl
simple Nodes = refl
simple Orders = refl
simple Report = refl
simple Flat = refl
simple Schedule = refl
simple Spans = refl
simple States = refl
simple Rows = refl

pub free : (v : Verb) → is_simple_and_free (app v) ≡ true
free Play = refl
free Work = refl
free Make = refl
free Audit = refl
free Collect = refl
free Bulk = refl
free Nodes = refl
free Orders = refl
free Report = refl
free Flat = refl
free Schedule = refl
free Spans = refl
free States = refl
free Rows = refl

abbrev flat : Text → Form → App
flat name form = record { top = built_shape name form; subs = [] }

-- with no subcommand none is entered
flat_fault : (name : Text) (form : Form) (words : List Text)
    → built_fault (flat name form) nothing_held words ≡ level_fault (built_shape name form) [] nothing_held words false []
flat_fault name form words = go (walk (built_rules form) [] nothing_held words).stopped
  where
    go : (stop : Option (Text × List Text))
        → level_fault (built_shape name form) [] nothing_held words (is_some (entered (flat name form) stop)) (entered_fault (flat name form) stop)
        ≡ level_fault (built_shape name form) [] nothing_held words false []
    go None = refl
    go (Some p) = refl

fault_is : (v : Verb) (words : List Text) → fault_of (app v) words ≡ level_fault (built_shape (verb_word v) (form_of v)) [] nothing_held (drop 1 words) false []
fault_is Play words = flat_fault (verb_word Play) (form_of Play) (drop 1 words)
fault_is Work words = flat_fault (verb_word Work) (form_of Work) (drop 1 words)
fault_is Make words = flat_fault (verb_word Make) (form_of Make) (drop 1 words)
fault_is Audit words = flat_fault (verb_word Audit) (form_of Audit) (drop 1 words)
fault_is Collect words = flat_fault (verb_word Collect) (form_of Collect) (drop 1 words)
fault_is Bulk words = flat_fault (verb_word Bulk) (form_of Bulk) (drop 1 words)
fault_is Nodes words = flat_fault (verb_word Nodes) (form_of Nodes) (drop 1 words)
fault_is Orders words = flat_fault (verb_word Orders) (form_of Orders) (drop 1 words)
fault_is Report words = flat_fault (verb_word Report) (form_of Report) (drop 1 words)
fault_is Flat words = flat_fault (verb_word Flat) (form_of Flat) (drop 1 words)
fault_is Schedule words = flat_fault (verb_word Schedule) (form_of Schedule) (drop 1 words)
fault_is Spans words = flat_fault (verb_word Spans) (form_of Spans) (drop 1 words)
fault_is States words = flat_fault (verb_word States) (form_of States) (drop 1 words)
fault_is Rows words = flat_fault (verb_word Rows) (form_of Rows) (drop 1 words)

matches_are : (v : Verb) (words : List Text) → matches_of (app v) words ≡ rows_after (built_rules (form_of v)) [] (drop 1 words)
matches_are Play words = refl
matches_are Work words = refl
matches_are Make words = refl
matches_are Audit words = refl
matches_are Collect words = refl
matches_are Bulk words = refl
matches_are Nodes words = refl
matches_are Orders words = refl
matches_are Report words = refl
matches_are Flat words = refl
matches_are Schedule words = refl
matches_are Spans words = refl
matches_are States words = refl
matches_are Rows words = refl

pub all_of_texts : {X : Type 0} (f : X → Text) (xs : List X) → list_all (λ x. is_fit (f x)) (drop 1 xs) ≡ list_all is_fit (drop 1 (map f xs))
all_of_texts f [] = refl
all_of_texts {X = X} f (x ∷ xs) = go xs
  where
    go : (ys : List X) → list_all (λ y. is_fit (f y)) ys ≡ list_all is_fit (map f ys)
    go [] = refl
    go (y ∷ ys) = ap (λ b. is_fit (f y) && b) (go ys)

pub unfit : (v : Verb) (words : List Text) → list_all is_fit (drop 1 words) ≡ false → HoldsGiven (form_of v) (options_in (form_of v) (drop 1 words)) None
unfit v words e = subst (λ (r : Option Given). HoldsGiven (form_of v) r None) (sym (unfit_none (drop 1 words) e (form_of v) [] None)) refl

pub at_ok : (v : Verb) (words : List Text) (m : ArgMatches) → list_all is_fit (drop 1 words) ≡ true → fault_of (app v) words ≡ []
    → rows_of (found_of m) ≡ matches_of (app v) words → HoldsGiven (form_of v) (options_in (form_of v) (drop 1 words)) (Some m)
at_ok v words m fit none rows = go (options_in (form_of v) (drop 1 words)) (answers (verb_word v) (form_of v) (drop 1 words) (fit_words _ fit) _ refl) (proper (form_of v) (drop 1 words) _ refl)
  where
    go : (r : Option Given) → Answers (verb_word v) (form_of v) (drop 1 words) r → IsProperEnd (form_of v) r → HoldsGiven (form_of v) r (Some m)
    go None h p = absurd (h (sym (fault_is v words) ∙ none))
    go (Some given) h p = (p, rows ∙ (matches_are v words ∙ h.1))

no_kind : (kinds : Kinds) (e : Error) → kinds ≡ [] → HasKind kinds e → (kind_of e ≡ OutOfMemory → ⊥) → ⊥
no_kind kinds e none h other = go (subst (λ (k : Kinds). HasKind k e) none h)
  where
    go : HasKind [] e → ⊥
    go (inl k) = other k
    go (inr never) = never

pub at_err : (v : Verb) (words : List Text) (e : Error) → list_all is_fit (drop 1 words) ≡ true → HasKind (fault_of (app v) words) e
    → (kind_of e ≡ OutOfMemory → ⊥) → HoldsGiven (form_of v) (options_in (form_of v) (drop 1 words)) None
at_err v words e fit kinds other = go (options_in (form_of v) (drop 1 words)) (answers (verb_word v) (form_of v) (drop 1 words) (fit_words _ fit) _ refl)
  where
    go : (r : Option Given) → Answers (verb_word v) (form_of v) (drop 1 words) r → HoldsGiven (form_of v) r None
    go None h = refl
    go (Some given) h = absurd (no_kind _ e (fault_is v words ∙ h.0) kinds other)
