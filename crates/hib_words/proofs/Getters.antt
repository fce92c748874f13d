-- What the getters read from the entries of a parse.
use Rattle.std.proofs.Common.{◌≡◌, ◌∙◌, ◌||◌, Bool, cond, true, false, refl, sym, ap, subst, List, [], ◌∷◌, ◌++◌, map, Option, Some, None, true≢false, append-nil}
use Rattle.std.specs.Prelude.{◌&&◌, not, codes, is_some, option_and_then, find, slice_get}
use Rattle.std.specs.List.{fold, list_any}
use Rattle.std.specs.Str.{bytes_eq}
use Rattle.clap.specs.Walk.{Row, first_of, has_row, more_values, one_of, row_text, with_default}
use Rattle.clap.specs.declared.builder.value_parser.Reading.TheVariants.{AsWritten}
use Rattle.clap.specs.declared.parser.matches.ValueSource.TheVariants.{DefaultValue}
use Rattle.hib_words.specs.Given.{Text, Form, Given, Read, add, and_then, as_option, begins_with_hyphen, is_given, options_from, read_named, read_option, read_word, takes_value, value_of}
use Rattle.hib_words.specs.Matched.{IsProper}
use Rattle.hib_words.specs.Clap.{built_rule, built_rules, given_row, rows_for}
use Rattle.hib_words.proofs.Finds.{at_new_row, bytes_eq-refl, bytes_eq-same, has_given_row}

-- the form has a flag of this name
abbrev pub has_flag : Form → Text → Bool
has_flag form name = list_any (λ o. not o.1 && bytes_eq o.0 name) form

-- ---- what was given is of the form

abbrev IsProperRead : Form → Option Read → Type 0
IsProperRead form None = Unit {0}
IsProperRead form (Some (given, None)) = IsProper form given
IsProperRead form (Some (given, Some n)) = IsProper form given × (takes_value form n ≡ Some true)

proper_more : (form : Form) (given : Given) (g : Text × Option Text) → IsProper form given → takes_value form g.0 ≡ Some (is_some g.1) → IsProper form (given ++ g ∷ [])
proper_more form [] g p t = (t, tt)
proper_more form (x ∷ xs) g p t = (p.0, proper_more form xs g p.1 t)

proper_add : (form : Form) (given : Given) (n : Text) (v : Option Text) → IsProper form given → takes_value form n ≡ Some (is_some v) → IsProperRead form (add given n v)
proper_add form given n v p t = go (is_given n given)
  where
    go : (b : Bool) → IsProperRead form (cond b None (Some (given ++ (n, v) ∷ [], None)))
    go true = tt
    go false = proper_more form given (n, v) p t

proper_named : (form : Form) (given : Given) (n : Text) (tv : Option Bool) (v : Option Text) → IsProper form given → takes_value form n ≡ tv → IsProperRead form (read_named given n tv v)
proper_named form given n None v p t = tt
proper_named form given n (Some false) None p t = proper_add form given n None p t
proper_named form given n (Some false) (Some v) p t = tt
proper_named form given n (Some true) None p t = (p, t)
proper_named form given n (Some true) (Some v) p t = proper_add form given n (Some v) p t

proper_option : (form : Form) (given : Given) (o : Option (Text × Option Text)) → IsProper form given → IsProperRead form (read_option form given o)
proper_option form given None p = tt
proper_option form given (Some o) p = proper_named form given o.0 (takes_value form o.0) o.1 p refl

proper_word : (form : Form) (given : Given) (waiting : Option Text) (word : Text) → IsProperRead form (Some (given, waiting)) → IsProperRead form (read_word form given waiting word)
proper_word form given None word p = proper_option form given (as_option word) p
proper_word form given (Some n) word p = go (begins_with_hyphen word)
  where
    go : (b : Bool) → IsProperRead form (cond b None (add given n (Some word)))
    go true = tt
    go false = proper_add form given n (Some word) p.0 p.1

abbrev pub IsProperEnd : Form → Option Given → Type 0
IsProperEnd form None = Unit {0}
IsProperEnd form (Some given) = IsProper form given

proper_from : (words : List Text) (form : Form) (given : Given) (waiting : Option Text) → IsProperRead form (Some (given, waiting)) → IsProperEnd form (options_from words form given waiting)
unfolding options_from
proper_from [] form given None p = p
proper_from [] form given (Some n) p = tt
proper_from (word ∷ rest) form given waiting p = go (proper_from rest form) (read_word form given waiting word) (proper_word form given waiting word p)
  where
    go : ((g : Given) (w : Option Text) → IsProperRead form (Some (g, w)) → IsProperEnd form (options_from rest form g w)) → (r : Option Read) → IsProperRead form r → IsProperEnd form (and_then r (options_from rest form))
    go all None q = tt
    go all (Some (g, w)) q = all g w q

pub proper : (form : Form) (words : List Text) (r : Option Given) → options_from words form [] None ≡ r → IsProperEnd form r
proper form words r e = subst (IsProperEnd form) e (proper_from words form [] None tt)

-- ---- the row of an id

abbrev row_of_id : Text → List Row → Option Row
row_of_id id rows = find (λ (r : Row). bytes_eq r.id id) rows

abbrev default_row : Text → Row
default_row id = record { id = id; values = codes "false" ∷ []; count = None; source = Some DefaultValue; reading = AsWritten }

row_kept : (id : Text) (rows more : List Row) → has_row id rows ≡ true → row_of_id id (rows ++ more) ≡ row_of_id id rows
row_kept id [] more e = absurd (true≢false (sym e))
row_kept id (r ∷ rs) more e = go (row_kept id rs more) (bytes_eq r.id id) refl
  where
    go : (has_row id rs ≡ true → row_of_id id (rs ++ more) ≡ row_of_id id rs) → (b : Bool) → bytes_eq r.id id ≡ b → row_of_id id (r ∷ rs ++ more) ≡ row_of_id id (r ∷ rs)
    go all true t = rw t refl
    go all false t = rw t (all (rw t at e))

row_after : (id : Text) (rows more : List Row) → has_row id rows ≡ false → row_of_id id (rows ++ more) ≡ row_of_id id more
row_after id [] more e = refl
row_after id (r ∷ rs) more e = go (row_after id rs more) (bytes_eq r.id id) refl
  where
    go : (has_row id rs ≡ false → row_of_id id (rs ++ more) ≡ row_of_id id more) → (b : Bool) → bytes_eq r.id id ≡ b → row_of_id id (r ∷ rs ++ more) ≡ row_of_id id more
    go all true t = absurd (true≢false (rw t at e))
    go all false t = rw t (all (rw t at e))

has_row-append : (id : Text) (rows more : List Row) → has_row id (rows ++ more) ≡ (has_row id rows || has_row id more)
has_row-append id [] more = refl
has_row-append id (r ∷ rs) more = go (bytes_eq r.id id) (has_row-append id rs more)
  where
    go : (b : Bool) → has_row id (rs ++ more) ≡ (has_row id rs || has_row id more) → (b || has_row id (rs ++ more)) ≡ ((b || has_row id rs) || has_row id more)
    go true e = refl
    go false e = e

no_row : (id : Text) (rows : List Row) → has_row id rows ≡ false → row_of_id id rows ≡ None
no_row id rows e = sym (ap (row_of_id id) (append-nil rows)) ∙ row_after id rows [] e

-- the rows that an option's default adds
abbrev added : Text → Bool → List Row → List Row
added n takes rows = cond (has_row n rows) [] (cond takes [] (default_row n ∷ []))

default_added : (n : Text) (takes : Bool) (rows : List Row) → with_default rows (built_rule n takes) ≡ rows ++ added n takes rows
default_added n false rows = go (has_row n rows) refl
  where
    go : (b : Bool) → has_row n rows ≡ b → with_default rows (built_rule n false) ≡ rows ++ added n false rows
    go true e = rw e (sym (append-nil rows))
    go false e = rw e (at_new_row n (more_values DefaultValue (codes "false" ∷ [])) (default_row n ∷ []) rows e)
default_added n true rows = go (has_row n rows) refl
  where
    go : (b : Bool) → has_row n rows ≡ b → with_default rows (built_rule n true) ≡ rows ++ added n true rows
    go true e = rw e (sym (append-nil rows))
    go false e = rw e (sym (append-nil rows))

abbrev with_defaults : Form → List Row → List Row
with_defaults form rows = fold with_default rows (built_rules form)

or_true : (a b : Bool) → a ≡ true → (a || b) ≡ true
or_true true b e = refl
or_true false b e = absurd (true≢false (sym e))

-- a default changes no row that is there
pub found_stays : (form : Form) (id : Text) (rows : List Row) → has_row id rows ≡ true → row_of_id id (with_defaults form rows) ≡ row_of_id id rows
found_stays [] id rows e = refl
found_stays ((n, takes) ∷ form) id rows e =
    ap (λ rs. row_of_id id (with_defaults form rs)) (default_added n takes rows)
    ∙ (found_stays form id (rows ++ added n takes rows) (has_row-append id rows (added n takes rows) ∙ or_true _ _ e) ∙ row_kept id rows (added n takes rows) e)

-- if there is none, a flag's is its default's
pub missing_row : (form : Form) (id : Text) (rows : List Row) → has_row id rows ≡ false → row_of_id id (with_defaults form rows) ≡ cond (has_flag form id) (Some (default_row id)) None
missing_row [] id rows e = no_row id rows e
missing_row ((n, takes) ∷ form) id rows e =
    ap (λ rs. row_of_id id (with_defaults form rs)) (default_added n takes rows) ∙ go takes (bytes_eq n id) refl (missing_row form id)
  where
    go : (takes b : Bool) → bytes_eq n id ≡ b → ((rs : List Row) → has_row id rs ≡ false → row_of_id id (with_defaults form rs) ≡ cond (has_flag form id) (Some (default_row id)) None)
        → row_of_id id (with_defaults form (rows ++ added n takes rows)) ≡ cond (has_flag ((n, takes) ∷ form) id) (Some (default_row id)) None
    go true b t all = plain (has_row n rows)
      where
        plain : (c : Bool) → row_of_id id (with_defaults form (rows ++ cond c [] [])) ≡ cond (has_flag form id) (Some (default_row id)) None
        plain true = ap (λ rs. row_of_id id (with_defaults form rs)) (append-nil rows) ∙ all rows e
        plain false = ap (λ rs. row_of_id id (with_defaults form rs)) (append-nil rows) ∙ all rows e
    go false true t all =
        let same : n ≡ id = bytes_eq-same n id t in
        let none : has_row n rows ≡ false = ap (λ m. has_row m rows) same ∙ e in
        let adds : added n false rows ≡ default_row id ∷ [] = ap (λ c. cond c [] (default_row n ∷ [])) none ∙ ap (λ m. default_row m ∷ []) same in
        let there : has_row id (rows ++ default_row id ∷ []) ≡ true = has_row-append id rows (default_row id ∷ []) ∙ rw (e, bytes_eq-refl id) refl in
        ap (λ rs. row_of_id id (with_defaults form (rows ++ rs))) adds
        ∙ (found_stays form id (rows ++ default_row id ∷ []) there
        ∙ (row_after id rows (default_row id ∷ []) e ∙ rw (t, bytes_eq-refl id) refl))
    go false false t all = rw t (all (rows ++ added n false rows) (has_row-append id rows (added n false rows) ∙ rw e (other (has_row n rows))))
      where
        other : (c : Bool) → has_row id (cond c [] (default_row n ∷ [])) ≡ false
        other true = refl
        other false = rw t refl

-- ---- the getters

module _ (form : Form) (id : Text) where
  given_flag : (given : Given) → IsProper form given → (takes_value form id ≡ Some true → ⊥) → is_given id given ≡ true → one_of id (map given_row given) ≡ Some (codes "true")
  given_flag [] p not_valued e = absurd (true≢false (sym e))
  given_flag ((n, v) ∷ given) p not_valued e = go v p.0 (bytes_eq n id) refl (given_flag given p.1 not_valued)
    where
      go : (v : Option Text) → takes_value form n ≡ Some (is_some v) → (b : Bool) → bytes_eq n id ≡ b
          → (is_given id given ≡ true → one_of id (map given_row given) ≡ Some (codes "true"))
          → one_of id (map given_row ((n, v) ∷ given)) ≡ Some (codes "true")
      go None q true t all = rw t refl
      go (Some x) q true t all = absurd (not_valued (ap (takes_value form) (sym (bytes_eq-same n id t)) ∙ q))
      go v q false t all = rw t (all (rw t at e))

  given_value : (given : Given) → IsProper form given → (takes_value form id ≡ Some false → ⊥) → first_of id (map given_row given) ≡ value_of id given
  given_value [] p not_flag = refl
  given_value ((n, v) ∷ given) p not_flag = go v p.0 (bytes_eq n id) refl (given_value given p.1 not_flag)
    where
      go : (v : Option Text) → takes_value form n ≡ Some (is_some v) → (b : Bool) → bytes_eq n id ≡ b
          → first_of id (map given_row given) ≡ value_of id given
          → first_of id (map given_row ((n, v) ∷ given)) ≡ value_of id ((n, v) ∷ given)
      go (Some x) q true t all = rw t refl
      go None q true t all = absurd (not_flag (ap (takes_value form) (sym (bytes_eq-same n id t)) ∙ q))
      go v q false t all = rw t all

  not_given : (given : Given) → is_given id given ≡ false → value_of id given ≡ None
  not_given [] e = refl
  not_given ((n, v) ∷ given) e = go (bytes_eq n id) refl (not_given given)
    where
      go : (b : Bool) → bytes_eq n id ≡ b → (is_given id given ≡ false → value_of id given ≡ None) → value_of id ((n, v) ∷ given) ≡ None
      go true t all = absurd (true≢false (rw t at e))
      go false t all = rw t (all (rw t at e))

  pub flag_given : (given : Given) → IsProper form given → (takes_value form id ≡ Some true → ⊥) → is_given id given ≡ true → one_of id (rows_for form given) ≡ Some (codes "true")
  flag_given given p not_valued e =
      ap (option_and_then row_text) (found_stays form id (map given_row given) (has_given_row id given ∙ e)) ∙ given_flag given p not_valued e

  pub flag_not_given : (given : Given) → is_given id given ≡ false → one_of id (rows_for form given) ≡ cond (has_flag form id) (Some (codes "false")) None
  flag_not_given given e =
      ap (option_and_then row_text) (missing_row form id (map given_row given) (has_given_row id given ∙ e)) ∙ go (has_flag form id)
    where
      go : (b : Bool) → option_and_then row_text (cond b (Some (default_row id)) None) ≡ cond b (Some (codes "false")) None
      go true = refl
      go false = refl

  pub value_given : (given : Given) → IsProper form given → (takes_value form id ≡ Some false → ⊥) → has_flag form id ≡ false → first_of id (rows_for form given) ≡ value_of id given
  value_given given p not_flag none = go (is_given id given) refl
    where
      go : (b : Bool) → is_given id given ≡ b → first_of id (rows_for form given) ≡ value_of id given
      go true e = ap (option_and_then (λ (r : Row). slice_get r.values 0)) (found_stays form id (map given_row given) (has_given_row id given ∙ e)) ∙ given_value given p not_flag
      go false e =
          ap (option_and_then (λ (r : Row). slice_get r.values 0)) (missing_row form id (map given_row given) (has_given_row id given ∙ e) ∙ ap (λ b. cond b (Some (default_row id)) None) none)
          ∙ sym (not_given given e)
