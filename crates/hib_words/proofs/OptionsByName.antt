-- The getters give what the words gave.
use Rattle.std.proofs.Common.{◌≡◌, ◌∙◌, ℕ, zero, suc, Bool, cond, true, false, List, [], ◌∷◌, refl, sym, ap, Option, Some, None, true≢false}
use Rattle.std.specs.Borrow.{Bor}
use Rattle.std.specs.Prelude.{codes, not, option_map, ◌&&◌}
use Rattle.std.specs.List.{list_all}
use Rattle.std.specs.Option.{option_map_or}
use Rattle.clap.specs.Matches.{first_value, found_of, one_text}
use Rattle.clap.specs.Walk.{first_of, one_of, rows_of}
use Rattle.clap.specs.declared.parser.matches.ArgMatches.{ArgMatches}
use Rattle.clap.proofs.WalkLemmas.{first_value-rows, one_text-rows}
use Rattle.hib_words.specs.Given.{Text, Form, Given, is_given, takes_value, value_of}
use Rattle.hib_words.specs.Clap.{rows_for}
use Rattle.hib_words.specs.Commands.{Chosen, chosen_in, form_of, word_of}
use Rattle.hib_words.specs.Matched.{HoldsGiven, IsProper}
use Rattle.hib_words.specs.declared.forms.OptionName.TheVariants as name
use Rattle.hib_words.specs.declared.forms.Verb.{Verb}
use Rattle.hib_words.specs.declared.forms.Verb.TheVariants.{Play, Work, Make, Audit, Collect, Bulk, Nodes, Orders, Report, Flat, Schedule, Spans, States, Rows}
use Rattle.hib_words.proofs.Getters.{has_flag, flag_given, flag_not_given, value_given}

-- what `get_flag` and `get_str` ensure
pub record ReadsFlag (m : ArgMatches) (id : Text) (b : Bool) : Type 0 where
  pub no_text : one_text (found_of m) id ≡ None → b ≡ false
  pub at_true : one_text (found_of m) id ≡ Some (codes "true") → b ≡ true
  pub at_false : one_text (found_of m) id ≡ Some (codes "false") → b ≡ false

abbrev pub ReadsValue : ArgMatches → Text → Option (Bor Text) → Type 0
ReadsValue m id o = option_map (λ s. s.now) o ≡ first_value (found_of m) id

module _ (form : Form) (given : Given) (m : ArgMatches) (p : IsProper form given) (rows : rows_of (found_of m) ≡ rows_for form given) where
  pub flag_read : (id : Text) (b : Bool) → (takes_value form id ≡ Some true → ⊥) → ReadsFlag m id b → b ≡ is_given id given
  flag_read id b not_valued reads = go (is_given id given) refl
    where
      text : one_text (found_of m) id ≡ one_of id (rows_for form given)
      text = one_text-rows (found_of m) id ∙ ap (one_of id) rows

      absent : (c : Bool) → one_of id (rows_for form given) ≡ cond c (Some (codes "false")) None → b ≡ false
      absent true e = reads.at_false (text ∙ e)
      absent false e = reads.no_text (text ∙ e)

      go : (g : Bool) → is_given id given ≡ g → b ≡ g
      go true e = reads.at_true (text ∙ flag_given form id given p not_valued e)
      go false e = absent (has_flag form id) (flag_not_given form id given e)

  pub value_read : (id : Text) (o : Option (Bor Text)) → (takes_value form id ≡ Some false → ⊥) → has_flag form id ≡ false → ReadsValue m id o
      → option_map (λ s. s.now) o ≡ value_of id given
  value_read id o not_flag none reads =
      reads ∙ (first_value-rows (found_of m) id ∙ (ap (first_of id) rows ∙ value_given form id given p not_flag none))

-- no form has a value under the name of a flag
not_valued : (o : Option Bool) → option_map_or not o true ≡ true → o ≡ Some true → ⊥
not_valued o is e = true≢false (sym (ap (λ (o : Option Bool). option_map_or not o true) (sym e) ∙ is))

-- nor a flag under the name of a value
not_flagged : (o : Option Bool) → option_map_or (λ b. b) o true ≡ true → o ≡ Some false → ⊥
not_flagged o is e = true≢false (sym (ap (λ (o : Option Bool). option_map_or (λ b. b) o true) (sym e) ∙ is))

-- ---- a test that each form passes. A verb more comes at the end of this list, and is an equation of `each`

abbrev verbs : List Verb
verbs = Play ∷ Work ∷ Make ∷ Audit ∷ Collect ∷ Bulk ∷ Nodes ∷ Orders ∷ Report ∷ Flat ∷ Schedule ∷ Spans ∷ States ∷ Rows ∷ []

abbrev on_all : (Verb → Bool) → Bool
on_all p = list_all p verbs

-- the verb at this place passes
abbrev PassesAt : (Verb → Bool) → List Verb → ℕ → Type 0
PassesAt p [] i = Unit {0}
PassesAt p (v ∷ vs) zero = p v ≡ true
PassesAt p (v ∷ vs) (suc i) = PassesAt p vs i

both_true : (x y : Bool) → (x && y) ≡ true → (x ≡ true) × (y ≡ true)
both_true true y e = (refl, e)
both_true false y e = absurd (true≢false (sym e))

at : (p : Verb → Bool) (vs : List Verb) (i : ℕ) → list_all p vs ≡ true → PassesAt p vs i
at p [] i e = tt
at p (v ∷ vs) zero e = (both_true (p v) (list_all p vs) e).0
at p (v ∷ vs) (suc i) e = at p vs i (both_true (p v) (list_all p vs) e).1

each : (p : Verb → Bool) → on_all p ≡ true → (v : Verb) → p v ≡ true
each p e Play = at p verbs 0 e
each p e Work = at p verbs 1 e
each p e Make = at p verbs 2 e
each p e Audit = at p verbs 3 e
each p e Collect = at p verbs 4 e
each p e Bulk = at p verbs 5 e
each p e Nodes = at p verbs 6 e
each p e Orders = at p verbs 7 e
each p e Report = at p verbs 8 e
each p e Flat = at p verbs 9 e
each p e Schedule = at p verbs 10 e
each p e Spans = at p verbs 11 e
each p e States = at p verbs 12 e
each p e Rows = at p verbs 13 e

abbrev flag_in : Text → Verb → Bool
flag_in id v = option_map_or not (takes_value (form_of v) id) true

abbrev value_in : Text → Verb → Bool
value_in id v = option_map_or (λ b. b) (takes_value (form_of v) id) true

abbrev no_flag_in : Text → Verb → Bool
no_flag_in id v = not (has_flag (form_of v) id)

abbrev IsFlagName : Text → Type 0
IsFlagName id = on_all (flag_in id) ≡ true

abbrev IsValueName : Text → Type 0
IsValueName id = (on_all (value_in id) ≡ true) × (on_all (no_flag_in id) ≡ true)

not_true : (b : Bool) → not b ≡ true → b ≡ false
not_true true e = absurd (true≢false (sym e))
not_true false e = refl

pub all_read : (v : Verb) (r : Option Given) (m : ArgMatches) → HoldsGiven (form_of v) r (Some m)
    → (journal trace split text csv jaeger : Bool) (file workers seed switches at_most show kills : Option (Bor Text))
    → ReadsFlag m (word_of name.Journal) journal → ReadsFlag m (word_of name.Trace) trace → ReadsFlag m (word_of name.Split) split
    → ReadsFlag m (word_of name.Text) text → ReadsFlag m (word_of name.Csv) csv → ReadsFlag m (word_of name.Jaeger) jaeger
    → ReadsValue m (word_of name.File) file → ReadsValue m (word_of name.Workers) workers → ReadsValue m (word_of name.Seed) seed
    → ReadsValue m (word_of name.Switches) switches → ReadsValue m (word_of name.AtMost) at_most → ReadsValue m (word_of name.Show) show
    → ReadsValue m (word_of name.Kills) kills
    → ◌≡◌ {A = Option Chosen} (Some (record {
      journal = journal;
      trace = trace;
      split = split;
      text = text;
      file = option_map (λ s. s.now) file;
      workers = option_map (λ s. s.now) workers;
      seed = option_map (λ s. s.now) seed;
      switches = option_map (λ s. s.now) switches;
      at_most = option_map (λ s. s.now) at_most;
      show = option_map (λ s. s.now) show;
      kills = option_map (λ s. s.now) kills;
      csv = csv;
      jaeger = jaeger;
    })) (option_map chosen_in r)
all_read v None m h journal trace split text csv jaeger file workers seed switches at_most show kills r0 r1 r2 r3 r4 r5 r6 r7 r8 r9 r10 r11 r12 = cc
all_read v (Some given) m h journal trace split text csv jaeger file workers seed switches at_most show kills r0 r1 r2 r3 r4 r5 r6 r7 r8 r9 r10 r11 r12 =
    let flag = λ (id : Text) (b : Bool) (is : IsFlagName id) (reads : ReadsFlag m id b). flag_read (form_of v) given m h.0 h.1 id b (not_valued _ (each (flag_in id) is v)) reads in
    let value = λ (id : Text) (o : Option (Bor Text)) (is : IsValueName id) (reads : ReadsValue m id o).
    value_read (form_of v) given m h.0 h.1 id o (not_flagged _ (each (value_in id) is.0 v)) (not_true _ (each (no_flag_in id) is.1 v)) reads in
    λ i. Some (record {
      journal = flag (word_of name.Journal) journal refl r0 i;
      trace = flag (word_of name.Trace) trace refl r1 i;
      split = flag (word_of name.Split) split refl r2 i;
      text = flag (word_of name.Text) text refl r3 i;
      file = value (word_of name.File) file (refl, refl) r6 i;
      workers = value (word_of name.Workers) workers (refl, refl) r7 i;
      seed = value (word_of name.Seed) seed (refl, refl) r8 i;
      switches = value (word_of name.Switches) switches (refl, refl) r9 i;
      at_most = value (word_of name.AtMost) at_most (refl, refl) r10 i;
      show = value (word_of name.Show) show (refl, refl) r11 i;
      kills = value (word_of name.Kills) kills (refl, refl) r12 i;
      csv = flag (word_of name.Csv) csv refl r4 i;
      jaeger = flag (word_of name.Jaeger) jaeger refl r5 i;
    })
