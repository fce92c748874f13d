-- clap takes the words that give options of the form, and no others, and its matches hold those options.
use Rattle.std.proofs.Common.{◌≡◌, ◌∙◌, ℕ, Bool, cond, true, false, refl, sym, ap, subst, List, [], ◌∷◌, ◌++◌, map, Option, Some, None}
use Rattle.std.specs.Prelude.{option_map, codes}
use Rattle.std.specs.List.{fold}
use Rattle.std.specs.Str.{bytes_eq}
use Rattle.clap.specs.Lexer.{long_of, short_of}
use Rattle.clap.specs.Walk.{Held, Row, Rule, Step, arg_by_long, Walk, after_flag, after_step, idle, long_met, finished, has_row, reacted, settled, used, nothing_held, walked, rows_after}
use Rattle.clap.specs.Faults.{defaults_fault, check_fault, level_fault, long_fault, settle_fault, step_fault, turn_fault, use_fault, walk_fault}
use Rattle.clap.specs.Kinds.{Kinds, or_else}
use Rattle.clap.specs.declared.error.kind.ErrorKind.TheVariants as kind
use Rattle.hib_words.specs.Given.{Text, Form, Given, add, and_then, begins_with_hyphen, is_given, options_from, read_named, takes_value}
use Rattle.hib_words.specs.Clap.{built_rule, given_row, rows_for}
use Rattle.hib_words.proofs.Finds.{by_id, by_long, defaults_pass, has_given_row, map-snoc, none_required}
use Rattle.hib_words.proofs.Turns.{at_idle, at_option, dashes, flag_passes, flag_repeats, idle_stray, idle_turn, idle_walk, option_turn, option_value, option_walk, or_else-left, or_else-right, rules, shape, used_new, value_passes, value_repeats, waits}

-- ---- words

-- the word is `--NAME..`, or does not begin with a hyphen
pub data Word (word : Text) : Type 0 where
  an_option : (n : Text) (v : Option Text) → bytes_eq word dashes ≡ false → long_of word ≡ Some (n, v) → begins_with_hyphen word ≡ true → Word word
  a_value : bytes_eq word dashes ≡ false → long_of word ≡ None → short_of word ≡ None → begins_with_hyphen word ≡ false → Word word

pub data Words : List Text → Type 0 where
  none : Words []
  more : {word : Text} {rest : List Text} → Word word → Words rest → Words (word ∷ rest)

module _ (top : Text) (form : Form) where
  -- the faults from a place in the walk on
  abbrev end_fault : Held → Kinds
  end_fault h = or_else (settle_fault (rules top form) false h)
      (or_else (defaults_fault (settled (rules top form) h).rows (rules top form)) (check_fault (shape top form) (finished (rules top form) h) false))

  abbrev walk_on : Walk → List Text → Walk
  walk_on w words = fold (walked (rules top form) []) w words

  abbrev total : Walk → List Text → Kinds
  total w words = or_else (walk_fault (shape top form) [] w words) (end_fault (walk_on w words).held)

  abbrev pub Agrees : Walk → List Text → Option Given → Type 0
  Agrees w words None = total w words ≡ [] → ⊥
  Agrees w words (Some given) = (total w words ≡ []) × (finished (rules top form) (walk_on w words).held ≡ rows_for form given)

  -- a turn that passes
  moves : (w after : Walk) (word : Text) (rest : List Text) → turn_fault (shape top form) [] w word ≡ [] → walked (rules top form) [] w word ≡ after
      → (r : Option Given) → Agrees after rest r → Agrees w (word ∷ rest) r
  unfolding walk_fault
  moves w after word rest passes is r agrees = go r agrees
    where
      same : total w (word ∷ rest) ≡ total after rest
      same = ap (λ k. or_else (or_else k (walk_fault (shape top form) [] (walked (rules top form) [] w word) rest)) (end_fault (walk_on (walked (rules top form) [] w word) rest).held)) passes
          ∙ ap (λ v. total v rest) is

      go : (r : Option Given) → Agrees after rest r → Agrees w (word ∷ rest) r
      go None h = λ e. h (sym same ∙ e)
      go (Some given) h = (same ∙ h.0, ap (λ v. finished (rules top form) (walk_on v rest).held) is ∙ h.1)

  -- a turn that fails
  stops : (w : Walk) (word : Text) (rest : List Text) → (turn_fault (shape top form) [] w word ≡ [] → ⊥) → Agrees w (word ∷ rest) None
  unfolding walk_fault
  stops w word rest fails e =
      fails (or_else-left _ _ (or_else-left _ _ e))

  ends : (h : Held) (given : Given) → settle_fault (rules top form) false h ≡ [] → (settled (rules top form) h).rows ≡ map given_row given
      → Agrees (at_idle h) [] (Some given)
  unfolding walk_fault
  ends h given passes rows = (
    ap (λ k. or_else k (or_else (defaults_fault (settled (rules top form) h).rows (rules top form)) (check_fault (shape top form) (finished (rules top form) h) false))) passes
        ∙ ap (λ k. or_else k (check_fault (shape top form) (finished (rules top form) h) false)) (defaults_pass form _)
        ∙ rw (none_required form (finished (rules top form) h)) refl,
    ap (λ rs. fold Rattle.clap.specs.Walk.with_default rs (rules top form)) rows,
  )

  -- an option that is read as a use: nothing was wrong before, and it was not used before
  abbrev Idle : Held → Given → Type 0
  Idle h given = (settle_fault (rules top form) false h ≡ []) × ((settled (rules top form) h).rows ≡ map given_row given)

  abbrev Agrees_all : List Text → Type 0
  Agrees_all words = ((h : Held) (given : Given) → Idle h given → Agrees (at_idle h) words (options_from words form given None))
      × ((n : Text) (given : Given) (skip : ℕ) → takes_value form n ≡ Some true → Agrees (at_option n (map given_row given) skip) words (options_from words form given (Some n)))

  -- ---- an option's word, by what the form says of it

  rule_is : (n : Text) (tv : Option Bool) → takes_value form n ≡ tv → arg_by_long (rules top form) n ≡ option_map (built_rule n) tv
  rule_is n tv t = by_long form n ∙ ap (option_map (built_rule n)) t

  abbrev met : Text → Option Bool → Option Text → Held → Text → Held × Step
  met n tv v h word = after_flag (rules top form) idle word (long_met (rules top form) (option_map (built_rule n) tv) v h).0 (long_met (rules top form) (option_map (built_rule n) tv) v h).1

  turn_is : (h : Held) (word n : Text) (v : Option Text) (tv : Option Bool) → bytes_eq word dashes ≡ false → long_of word ≡ Some (n, v) → takes_value form n ≡ tv
      → turn_fault (shape top form) [] (at_idle h) word
      ≡ or_else (long_fault (rules top form) false (option_map (built_rule n) tv) v h) (step_fault (shape top form) 1 (met n tv v h word).0 (met n tv v h word).1)
  turn_is h word n v tv e f t =
      idle_turn top form h word n v e f
      ∙ ap (λ (r : Option Rule). or_else (long_fault (rules top form) false r v h) (step_fault (shape top form) 1 (after_flag (rules top form) idle word (long_met (rules top form) r v h).0 (long_met (rules top form) r v h).1).0 (after_flag (rules top form) idle word (long_met (rules top form) r v h).0 (long_met (rules top form) r v h).1).1)) (rule_is n tv t)

  turn_passes : (h : Held) (word n : Text) (v : Option Text) (tv : Option Bool) → bytes_eq word dashes ≡ false → long_of word ≡ Some (n, v) → takes_value form n ≡ tv
      → turn_fault (shape top form) [] (at_idle h) word ≡ [] → long_fault (rules top form) false (option_map (built_rule n) tv) v h ≡ []
  turn_passes h word n v tv e f t z =
      or_else-left (long_fault (rules top form) false (option_map (built_rule n) tv) v h) (step_fault (shape top form) 1 (met n tv v h word).0 (met n tv v h word).1) (sym (turn_is h word n v tv e f t) ∙ z)

  walk_is : (h : Held) (word n : Text) (v : Option Text) (tv : Option Bool) → bytes_eq word dashes ≡ false → long_of word ≡ Some (n, v) → takes_value form n ≡ tv
      → walked (rules top form) [] (at_idle h) word ≡ after_step (rules top form) word (at_idle h) (met n tv v h word).0 (met n tv v h word).1
  walk_is h word n v tv e f t =
      idle_walk top form h word n v e f
      ∙ ap (λ (r : Option Rule). after_step (rules top form) word (at_idle h) (after_flag (rules top form) idle word (long_met (rules top form) r v h).0 (long_met (rules top form) r v h).1).0 (after_flag (rules top form) idle word (long_met (rules top form) r v h).0 (long_met (rules top form) r v h).1).1) (rule_is n tv t)

  -- whether the option was given before is whether it has a row
  row_of_given : (h : Held) (given : Given) (n : Text) → Idle h given → has_row n (settled (rules top form) h).rows ≡ is_given n given
  row_of_given h given n i = ap (has_row n) i.1 ∙ has_given_row n given

  idle_option : (h : Held) (given : Given) → Idle h given → (word n : Text) (rest : List Text) → bytes_eq word dashes ≡ false
      → Agrees_all rest → (tv : Option Bool) → takes_value form n ≡ tv → (v : Option Text) → long_of word ≡ Some (n, v)
      → Agrees (at_idle h) (word ∷ rest) (and_then (read_named given n tv v) (options_from rest form))
  idle_option h given i word n rest e all None t v f =
      stops (at_idle h) word rest (λ z. let bad : ◌≡◌ {A = Kinds} (kind.UnknownArgument ∷ []) [] = turn_passes h word n v None e f t z in cc)
  idle_option h given i word n rest e all (Some false) t (Some v) f =
      stops (at_idle h) word rest (λ z. let bad : ◌≡◌ {A = Kinds} (kind.TooManyValues ∷ []) [] = turn_passes h word n (Some v) (Some false) e f t z in cc)
  idle_option h given i word n rest e all (Some false) t None f = go (is_given n given) refl
    where
      go : (b : Bool) → is_given n given ≡ b → Agrees (at_idle h) (word ∷ rest) (and_then (cond b None (Some (given ++ (n, None) ∷ [], None))) (options_from rest form))
      go true g =
          let repeats = flag_repeats n (settled (rules top form) h).rows (row_of_given h given n i ∙ g) in
          stops (at_idle h) word rest (λ z.
          let both = turn_passes h word n None (Some false) e f t z in
          let bad : ◌≡◌ {A = Kinds} (kind.ArgumentConflict ∷ []) [] = sym repeats ∙ (sym (or_else-right _ _ i.0) ∙ both) in cc)
      go false g =
          let new = row_of_given h given n i ∙ g in
          let passes = flag_passes n (settled (rules top form) h).rows new in
          moves (at_idle h) (at_idle (reacted (rules top form) (built_rule n false) [] h)) word rest
          (turn_is h word n None (Some false) e f t ∙ or_else-right _ _ (or_else-right _ _ i.0 ∙ passes))
          (walk_is h word n None (Some false) e f t) _
          (all.0 _ (given ++ (n, None) ∷ [])
          (refl, used_new n (codes "true" ∷ []) (settled (rules top form) h).rows new ∙ ap (λ rs. rs ++ given_row (n, None) ∷ []) i.1 ∙ sym (map-snoc given (n, None))))
  idle_option h given i word n rest e all (Some true) t (Some v) f = go (is_given n given) refl
    where
      go : (b : Bool) → is_given n given ≡ b → Agrees (at_idle h) (word ∷ rest) (and_then (cond b None (Some (given ++ (n, Some v) ∷ [], None))) (options_from rest form))
      go true g =
          let repeats = value_repeats n v (settled (rules top form) h).rows (row_of_given h given n i ∙ g) in
          stops (at_idle h) word rest (λ z.
          let both = turn_passes h word n (Some v) (Some true) e f t z in
          let bad : ◌≡◌ {A = Kinds} (kind.ArgumentConflict ∷ []) [] = sym repeats ∙ (sym (or_else-right _ _ i.0) ∙ both) in cc)
      go false g =
          let new = row_of_given h given n i ∙ g in
          let passes = value_passes n v (settled (rules top form) h).rows new in
          moves (at_idle h) (at_idle (reacted (rules top form) (built_rule n true) (v ∷ []) h)) word rest
          (turn_is h word n (Some v) (Some true) e f t ∙ or_else-right _ _ (or_else-right _ _ i.0 ∙ passes))
          (walk_is h word n (Some v) (Some true) e f t) _
          (all.0 _ (given ++ (n, Some v) ∷ [])
          (refl, used_new n (v ∷ []) (settled (rules top form) h).rows new ∙ ap (λ rs. rs ++ given_row (n, Some v) ∷ []) i.1 ∙ sym (map-snoc given (n, Some v))))
  idle_option h given i word n rest e all (Some true) t None f =
      moves (at_idle h) (at_option n (map given_row given) h.skip) word rest
      (turn_is h word n None (Some true) e f t ∙ or_else-right _ _ i.0)
      (walk_is h word n None (Some true) e f t ∙ ap (λ rs. at_option n rs h.skip) i.1) _
      (all.1 n given h.skip t)

  -- ---- a word after an option that waits for its value

  -- nothing but a value may follow
  settle_waits : (m : Text) (rows : List Row) (skip : ℕ) → takes_value form m ≡ Some true → settle_fault (rules top form) false (waits m rows skip) ≡ kind.InvalidValue ∷ []
  settle_waits m rows skip t = rw (by_id form m, t) refl

  long_fails : (m : Text) (rows : List Row) (skip : ℕ) → takes_value form m ≡ Some true → (n : Text) (tv : Option Bool) (v : Option Text)
      → long_fault (rules top form) false (option_map (built_rule n) tv) v (waits m rows skip) ≡ [] → ⊥
  long_fails m rows skip t n None v z = cc
  long_fails m rows skip t n (Some false) (Some v) z = cc
  long_fails m rows skip t n (Some false) None z = let bad : ◌≡◌ {A = Kinds} (kind.InvalidValue ∷ []) [] = sym (settle_waits m rows skip t) ∙ or_else-left _ _ z in cc
  long_fails m rows skip t n (Some true) (Some v) z = let bad : ◌≡◌ {A = Kinds} (kind.InvalidValue ∷ []) [] = sym (settle_waits m rows skip t) ∙ or_else-left _ _ z in cc
  long_fails m rows skip t n (Some true) None z = let bad : ◌≡◌ {A = Kinds} (kind.InvalidValue ∷ []) [] = sym (settle_waits m rows skip t) ∙ z in cc

  option_stops : (m : Text) (rows : List Row) (skip : ℕ) → takes_value form m ≡ Some true → (word n : Text) (v : Option Text) (rest : List Text)
      → bytes_eq word dashes ≡ false → long_of word ≡ Some (n, v) → Agrees (at_option m rows skip) (word ∷ rest) None
  option_stops m rows skip t word n v rest e f =
      stops (at_option m rows skip) word rest (λ z.
      let long = or_else-left _ _ (sym (option_turn top form m rows skip word n v e f) ∙ z) in
      long_fails m rows skip t n (takes_value form n) v (ap (λ (r : Option Rule). long_fault (rules top form) false r v (waits m rows skip)) (sym (by_long form n)) ∙ long))

  -- the pending option has its value, and was used before: whatever follows fails
  abbrev held_with : Text → Text → List Row → ℕ → Held
  held_with m v rows skip = record { rows = rows; pending = Some (m, v ∷ []); skip = skip }

  settle_value : (m v : Text) (rows : List Row) (skip : ℕ) → takes_value form m ≡ Some true
      → settle_fault (rules top form) false (held_with m v rows skip) ≡ use_fault false (built_rule m true) (v ∷ []) rows
  settle_value m v rows skip t = rw (by_id form m, t) refl

  settled_value : (m v : Text) (rows : List Row) (skip : ℕ) → takes_value form m ≡ Some true
      → (settled (rules top form) (held_with m v rows skip)).rows ≡ used (built_rule m true) (v ∷ []) rows
  settled_value m v rows skip t = rw (by_id form m, t) refl

  -- a fault in what is pending comes out at the next word or at the end
  long_fails_later : (h : Held) → (settle_fault (rules top form) false h ≡ [] → ⊥) → (n : Text) (tv : Option Bool) (v : Option Text)
      → long_fault (rules top form) false (option_map (built_rule n) tv) v h ≡ [] → ⊥
  long_fails_later h bad n None v z = cc
  long_fails_later h bad n (Some false) (Some v) z = cc
  long_fails_later h bad n (Some false) None z = bad (or_else-left _ _ z)
  long_fails_later h bad n (Some true) (Some v) z = bad (or_else-left _ _ z)
  long_fails_later h bad n (Some true) None z = bad z

  fails_later : (h : Held) → (settle_fault (rules top form) false h ≡ [] → ⊥) → (words : List Text) → Words words → Agrees (at_idle h) words None
  unfolding walk_fault
  fails_later h bad [] none = λ z. bad (or_else-left _ _ z)
  fails_later h bad (word ∷ rest) (more (an_option n v e f g) after) =
      stops (at_idle h) word rest (λ z.
      long_fails_later h bad n (takes_value form n) v (turn_passes h word n v (takes_value form n) e f refl z))
  fails_later h bad (word ∷ rest) (more (a_value e f g k) after) =
      stops (at_idle h) word rest (λ z. let never : ◌≡◌ {A = Kinds} (kind.UnknownArgument ∷ []) [] = sym (idle_stray top form h word e f g) ∙ z in cc)

  option_given : (n : Text) (given : Given) (skip : ℕ) → takes_value form n ≡ Some true → (word : Text) (rest : List Text) → Words rest
      → bytes_eq word dashes ≡ false → long_of word ≡ None → short_of word ≡ None
      → Agrees_all rest → (b : Bool) → is_given n given ≡ b
      → Agrees (at_option n (map given_row given) skip) (word ∷ rest) (and_then (cond b None (Some (given ++ (n, Some word) ∷ [], None))) (options_from rest form))
  option_given n given skip t word rest after e f g all true is =
      moves (at_option n (map given_row given) skip) (at_idle (held_with n word (map given_row given) skip)) word rest
      (option_value top form n (map given_row given) skip word e f g) (option_walk top form n (map given_row given) skip word t e f g) None
      (fails_later (held_with n word (map given_row given) skip) (λ z.
      let bad : ◌≡◌ {A = Kinds} (kind.ArgumentConflict ∷ []) [] = sym (value_repeats n word (map given_row given) (has_given_row n given ∙ is)) ∙ (sym (settle_value n word (map given_row given) skip t) ∙ z) in cc) rest after)
  option_given n given skip t word rest after e f g all false is =
      let new = has_given_row n given ∙ is in
      moves (at_option n (map given_row given) skip) (at_idle (held_with n word (map given_row given) skip)) word rest
      (option_value top form n (map given_row given) skip word e f g) (option_walk top form n (map given_row given) skip word t e f g) _
      (all.0 (held_with n word (map given_row given) skip) (given ++ (n, Some word) ∷ []) (
        settle_value n word (map given_row given) skip t ∙ value_passes n word (map given_row given) new,
        settled_value n word (map given_row given) skip t ∙ used_new n (word ∷ []) (map given_row given) new ∙ sym (map-snoc given (n, Some word)),
      ))

  -- ---- all the words

  agrees_all : (words : List Text) → Words words → Agrees_all words
  unfolding options_from walk_fault
  agrees_all [] none = (
    λ h given i. ends h given i.0 i.1,
    λ n given skip t z. let bad : ◌≡◌ {A = Kinds} (kind.InvalidValue ∷ []) [] = sym (settle_waits n (map given_row given) skip t) ∙ or_else-left _ _ z in cc,
  )
  agrees_all (word ∷ rest) (more (an_option m v e f g) after) = (
    λ h given i. subst (λ (o : Option (Text × Option Text)). Agrees (at_idle h) (word ∷ rest) (and_then (Rattle.hib_words.specs.Given.read_option form given o) (options_from rest form))) (sym f)
        (idle_option h given i word m rest e (agrees_all rest after) (takes_value form m) refl v f),
    λ n given skip t. subst (λ (b : Bool). Agrees (at_option n (map given_row given) skip) (word ∷ rest) (and_then (cond b None (add given n (Some word))) (options_from rest form))) (sym g)
        (option_stops n (map given_row given) skip t word m v rest e f),
  )
  agrees_all (word ∷ rest) (more (a_value e f k g) after) = (
    λ h given i. subst (λ (o : Option (Text × Option Text)). Agrees (at_idle h) (word ∷ rest) (and_then (Rattle.hib_words.specs.Given.read_option form given o) (options_from rest form))) (sym f)
        (stops (at_idle h) word rest (λ z. let never : ◌≡◌ {A = Kinds} (kind.UnknownArgument ∷ []) [] = sym (idle_stray top form h word e f k) ∙ z in cc)),
    λ n given skip t. subst (λ (b : Bool). Agrees (at_option n (map given_row given) skip) (word ∷ rest) (and_then (cond b None (add given n (Some word))) (options_from rest form))) (sym g)
        (option_given n given skip t word rest after e f k (agrees_all rest after) (is_given n given) refl),
  )

  -- clap's faults and entries at the words, by the definition
  abbrev pub Answers : List Text → Option Given → Type 0
  Answers words None = level_fault (shape top form) [] nothing_held words false [] ≡ [] → ⊥
  Answers words (Some given) = (level_fault (shape top form) [] nothing_held words false [] ≡ []) × (rows_after (rules top form) [] words ≡ rows_for form given)

  pub answers : (words : List Text) → Words words → (r : Option Given) → options_from words form [] None ≡ r → Answers words r
  answers words w r is = go r (subst (Agrees (at_idle nothing_held) words) is ((agrees_all words w).0 nothing_held [] (refl, refl)))
    where
      go : (r : Option Given) → Agrees (at_idle nothing_held) words r → Answers words r
      go None h = h
      go (Some given) h = h
