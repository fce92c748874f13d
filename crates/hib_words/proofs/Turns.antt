-- What clap's walk makes of one word, if the command has the options of a form.
use Rattle.std.proofs.Common.{◌≡◌, ◌∙◌, ℕ, true, false, refl, ap, List, [], ◌∷◌, ◌++◌, Option, Some, None, append-nil}
use Rattle.std.specs.Str.{bytes_eq}
use Rattle.clap.specs.Lexer.{long_of, short_of}
use Rattle.clap.specs.Walk.{Held, Row, Rule, Walk, after_step, arg_by_long, has_row, idle, long_word, more_values, option, walked, with_values, without}
use Rattle.clap.specs.Faults.{long_fault, step_fault, turn_fault, use_fault}
use Rattle.clap.specs.Kinds.{Kinds, or_else}
use Rattle.clap.specs.Simple.{Shape}
use Rattle.clap.specs.declared.builder.value_parser.Reading.TheVariants.{AsWritten}
use Rattle.clap.specs.declared.parser.matches.ValueSource.TheVariants.{CommandLine}
use Rattle.clap.specs.declared.error.kind.ErrorKind.TheVariants as kind
use Rattle.hib_words.specs.Given.{Text, Form, takes_value}
use Rattle.hib_words.specs.Clap.{built_rule, built_rules, built_shape}
use Rattle.hib_words.proofs.Finds.{at_new_row, bytes_eq-refl, by_id, no_position}

pub or_else-left : (a b : Kinds) → or_else a b ≡ [] → a ≡ []
or_else-left [] b e = refl
or_else-left (k ∷ ks) b e = e

pub or_else-right : (a b : Kinds) → a ≡ [] → or_else a b ≡ b
or_else-right a b e = rw e refl

-- ---- where the walk stands

abbrev pub dashes : Text
dashes = 45 ∷ 45 ∷ []

abbrev pub at_idle : Held → Walk
at_idle h = record { held = h; waiting = idle; position = 1; is_trailing = false; stopped = None }

abbrev pub waits : Text → List Row → ℕ → Held
waits n rows skip = record { rows = rows; pending = Some (n, []); skip = skip }

abbrev pub at_option : Text → List Row → ℕ → Walk
at_option n rows skip = record { held = waits n rows skip; waiting = option n; position = 1; is_trailing = false; stopped = None }

-- ---- one use

pub used_new : (id : Text) (values : List Text) (rows : List Row) → has_row id rows ≡ false
    → with_values id AsWritten CommandLine values (without id rows) ≡ rows ++ (record { id = id; values = values; count = None; source = Some CommandLine; reading = AsWritten }) ∷ []
used_new id values rows e =
    ap (with_values id AsWritten CommandLine values) (at_new_row id (λ _. []) [] rows e ∙ append-nil rows) ∙ at_new_row id (more_values CommandLine values) _ rows e

pub flag_repeats : (n : Text) (rows : List Row) → has_row n rows ≡ true → use_fault false (built_rule n false) [] rows ≡ kind.ArgumentConflict ∷ []
flag_repeats n rows e = rw e refl

pub flag_passes : (n : Text) (rows : List Row) → has_row n rows ≡ false → use_fault false (built_rule n false) [] rows ≡ []
flag_passes n rows e = rw e refl

pub value_repeats : (n v : Text) (rows : List Row) → has_row n rows ≡ true → use_fault false (built_rule n true) (v ∷ []) rows ≡ kind.ArgumentConflict ∷ []
value_repeats n v rows e = rw e refl

pub value_passes : (n v : Text) (rows : List Row) → has_row n rows ≡ false → use_fault false (built_rule n true) (v ∷ []) rows ≡ []
value_passes n v rows e = rw e refl

module _ (top : Text) (form : Form) where
  abbrev pub rules : List Rule
  rules = built_rules form

  abbrev pub shape : Shape
  shape = built_shape top form

  -- an option's word, if none waits
  pub idle_turn : (h : Held) (word n : Text) (v : Option Text) → bytes_eq word dashes ≡ false → long_of word ≡ Some (n, v)
      → turn_fault shape [] (at_idle h) word
      ≡ or_else (long_fault rules false (arg_by_long rules n) v h) (step_fault shape 1 (long_word rules idle word n v h).0 (long_word rules idle word n v h).1)
  idle_turn h word n v e f = rw (e, f) refl

  pub idle_walk : (h : Held) (word n : Text) (v : Option Text) → bytes_eq word dashes ≡ false → long_of word ≡ Some (n, v)
      → walked rules [] (at_idle h) word ≡ after_step rules word (at_idle h) (long_word rules idle word n v h).0 (long_word rules idle word n v h).1
  unfolding walked
  idle_walk h word n v e f = rw (e, f) refl

  -- a word that is no option, if none waits
  pub idle_stray : (h : Held) (word : Text) → bytes_eq word dashes ≡ false → long_of word ≡ None → short_of word ≡ None
      → turn_fault shape [] (at_idle h) word ≡ kind.UnknownArgument ∷ []
  idle_stray h word e f g = rw (e, f, g, no_position form 1) refl

  -- an option's word, if one waits
  pub option_turn : (m : Text) (rows : List Row) (skip : ℕ) (word n : Text) (v : Option Text) → bytes_eq word dashes ≡ false → long_of word ≡ Some (n, v)
      → turn_fault shape [] (at_option m rows skip) word
      ≡ or_else (long_fault rules false (arg_by_long rules n) v (waits m rows skip)) (step_fault shape 1 (long_word rules (option m) word n v (waits m rows skip)).0 (long_word rules (option m) word n v (waits m rows skip)).1)
  option_turn m rows skip word n v e f = rw (e, f) refl

  -- a value, if an option waits
  pub option_value : (m : Text) (rows : List Row) (skip : ℕ) (word : Text) → bytes_eq word dashes ≡ false → long_of word ≡ None → short_of word ≡ None
      → turn_fault shape [] (at_option m rows skip) word ≡ []
  option_value m rows skip word e f g = rw (e, f, g) refl

  pub option_walk : (m : Text) (rows : List Row) (skip : ℕ) (word : Text) → takes_value form m ≡ Some true → bytes_eq word dashes ≡ false → long_of word ≡ None → short_of word ≡ None
      → walked rules [] (at_option m rows skip) word ≡ at_idle (record { rows = rows; pending = Some (m, word ∷ []); skip = skip })
  unfolding walked
  option_walk m rows skip word t e f g = rw (e, f, g, by_id form m, t, bytes_eq-refl m) refl
