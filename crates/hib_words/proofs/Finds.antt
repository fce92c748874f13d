-- What clap finds among the rules of a form.
use Rattle.std.proofs.Common.{◌≡◌, ◌&&◌, ℕ, Bool, true, false, refl, sym, ap, List, [], ◌∷◌, ◌++◌, map, Option, Some, None, true≢false}
use Rattle.std.specs.Prelude.{option_map, not}
use Rattle.std.specs.List.{list_any}
use Rattle.std.specs.Str.{bytes_eq}
use Rattle.std.proofs.lemmas.Slice.Eq.{bytes_eq-Decides}
use Rattle.clap.specs.Walk.{Row, Rule, arg_by_id, arg_by_index, arg_by_long, at_row, has_row}
use Rattle.clap.specs.Faults.{defaults_fault}
use Rattle.clap.specs.Takes.{is_given as row_is_given}
use Rattle.clap.specs.Walk.{with_default}
use Rattle.clap.proofs.WalkLemmas.{list_any-map}
use Rattle.hib_words.specs.Given.{Text, Form, Given, is_given, takes_value}
use Rattle.hib_words.specs.Clap.{built_rule, built_rules, given_row}

pub bytes_eq-refl : (xs : Text) → bytes_eq xs xs ≡ true
bytes_eq-refl xs = (bytes_eq-Decides xs xs).1 refl

pub bytes_eq-same : (xs ys : Text) → bytes_eq xs ys ≡ true → xs ≡ ys
bytes_eq-same xs ys e = (bytes_eq-Decides xs ys).0 e

abbrev found_rule : Form → Text → Option Rule
found_rule form name = option_map (built_rule name) (takes_value form name)

pub by_long : (form : Form) (name : Text) → arg_by_long (built_rules form) name ≡ found_rule form name
by_long [] name = refl
by_long ((n, false) ∷ form) name = go (by_long form name) (bytes_eq n name) refl
  where
    go : arg_by_long (built_rules form) name ≡ found_rule form name → (b : Bool) → bytes_eq n name ≡ b
        → arg_by_long (built_rules ((n, false) ∷ form)) name ≡ found_rule ((n, false) ∷ form) name
    go more true e = rw e (ap (λ m. Some (built_rule m false)) (bytes_eq-same n name e))
    go more false e = rw e more
by_long ((n, true) ∷ form) name = go (by_long form name) (bytes_eq n name) refl
  where
    go : arg_by_long (built_rules form) name ≡ found_rule form name → (b : Bool) → bytes_eq n name ≡ b
        → arg_by_long (built_rules ((n, true) ∷ form)) name ≡ found_rule ((n, true) ∷ form) name
    go more true e = rw e (ap (λ m. Some (built_rule m true)) (bytes_eq-same n name e))
    go more false e = rw e more

pub by_id : (form : Form) (name : Text) → arg_by_id (built_rules form) name ≡ found_rule form name
by_id [] name = refl
by_id ((n, false) ∷ form) name = go (by_id form name) (bytes_eq n name) refl
  where
    go : arg_by_id (built_rules form) name ≡ found_rule form name → (b : Bool) → bytes_eq n name ≡ b
        → arg_by_id (built_rules ((n, false) ∷ form)) name ≡ found_rule ((n, false) ∷ form) name
    go more true e = rw e (ap (λ m. Some (built_rule m false)) (bytes_eq-same n name e))
    go more false e = rw e more
by_id ((n, true) ∷ form) name = go (by_id form name) (bytes_eq n name) refl
  where
    go : arg_by_id (built_rules form) name ≡ found_rule form name → (b : Bool) → bytes_eq n name ≡ b
        → arg_by_id (built_rules ((n, true) ∷ form)) name ≡ found_rule ((n, true) ∷ form) name
    go more true e = rw e (ap (λ m. Some (built_rule m true)) (bytes_eq-same n name e))
    go more false e = rw e more

-- a form has no positional
pub no_position : (form : Form) (i : ℕ) → arg_by_index (built_rules form) i ≡ None
no_position [] i = refl
no_position ((n, false) ∷ form) i = no_position form i
no_position ((n, true) ∷ form) i = no_position form i

pub defaults_pass : (form : Form) (rows : List Row) → defaults_fault rows (built_rules form) ≡ []
unfolding defaults_fault
defaults_pass [] rows = refl
defaults_pass ((n, false) ∷ form) rows = go (defaults_pass form (with_default rows (built_rule n false))) (has_row n rows) refl
  where
    go : defaults_fault (with_default rows (built_rule n false)) (built_rules form) ≡ [] → (b : Bool) → has_row n rows ≡ b → defaults_fault rows (built_rules ((n, false) ∷ form)) ≡ []
    go more true e = rw e (rw e at more)
    go more false e = rw e (rw e at more)
defaults_pass ((n, true) ∷ form) rows = go (defaults_pass form (with_default rows (built_rule n true))) (has_row n rows) refl
  where
    go : defaults_fault (with_default rows (built_rule n true)) (built_rules form) ≡ [] → (b : Bool) → has_row n rows ≡ b → defaults_fault rows (built_rules ((n, true) ∷ form)) ≡ []
    go more true e = rw e (rw e at more)
    go more false e = rw e (rw e at more)

-- nothing is required
pub none_required : (form : Form) (rows : List Row) → list_any (λ a. a.required && not (row_is_given a.id rows)) (built_rules form) ≡ false
none_required [] rows = refl
none_required ((n, false) ∷ form) rows = none_required form rows
none_required ((n, true) ∷ form) rows = none_required form rows

-- ---- rows

pub at_new_row : (id : Text) (change : Row → List Row) (missing rows : List Row) → has_row id rows ≡ false → at_row id change missing rows ≡ rows ++ missing
at_new_row id change missing [] e = refl
at_new_row id change missing (r ∷ rs) e = go (at_new_row id change missing rs) (bytes_eq r.id id) refl
  where
    go : (has_row id rs ≡ false → at_row id change missing rs ≡ rs ++ missing) → (b : Bool) → bytes_eq r.id id ≡ b → at_row id change missing (r ∷ rs) ≡ r ∷ rs ++ missing
    go more true t = absurd (true≢false (rw t at e))
    go more false t = rw t (ap (λ xs. r ∷ xs) (more (rw t at e)))

pub has_given_row : (name : Text) (given : Given) → has_row name (map given_row given) ≡ is_given name given
has_given_row name given = sym (list_any-map (λ (r : Row). bytes_eq r.id name) given_row given)

pub map-snoc : (given : Given) (g : Text × Option Text) → map given_row (given ++ g ∷ []) ≡ map given_row given ++ given_row g ∷ []
map-snoc [] g = refl
map-snoc (x ∷ xs) g = ap (λ rs. given_row x ∷ rs) (map-snoc xs g)
