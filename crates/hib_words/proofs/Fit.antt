-- Words that clap reads as the definition does, and words that have no form.
use Rattle.std.proofs.Common.{◌≡◌, ◌&&◌, ◌==◌, Bool, cond, true, false, refl, sym, ap, arith, List, [], ◌∷◌, length, Option, Some, None, true≢false, lt-ltb, nat_lt}
use Rattle.std.specs.List.{list_all}
use Rattle.hib_words.specs.Given.{Text, Form, Given, Read, and_then, as_option, begins_with_hyphen, name_and_value, options_from, read_option, read_word, add}
use Rattle.hib_words.specs.Matched.{is_fit}
use Rattle.hib_words.proofs.Agree.{Word, Words, a_value, an_option, more, none}

pub both : (a b : Bool) → (a && b) ≡ true → (a ≡ true) × (b ≡ true)
both true b e = (refl, e)
both false b e = absurd (true≢false (sym e))

fit_word : (word : Text) → is_fit word ≡ true → Word word
fit_word [] e = a_value refl refl refl refl
fit_word (x ∷ []) e = go (x == 45) refl
  where
    go : (b : Bool) → (x == 45) ≡ b → Word (x ∷ [])
    go true t = absurd (true≢false (sym (rw t at e)))
    go false t = a_value (rw t refl) (rw t refl) (rw t refl) (rw t refl)
fit_word (x ∷ y ∷ []) e = go (x == 45) refl
  where
    go : (b : Bool) → (x == 45) ≡ b → Word (x ∷ y ∷ [])
    go true t = absurd (true≢false (sym (rw t at e)))
    go false t = a_value (rw t refl) (rw t refl) (rw t refl) (rw t refl)
fit_word (x ∷ y ∷ z ∷ zs) e = go (x == 45) refl
  where
    go : (b : Bool) → (x == 45) ≡ b → Word (x ∷ y ∷ z ∷ zs)
    go true t =
        let second : (y == 45) ≡ true = (both _ _ (rw t at e)).1 in
        an_option (name_and_value (z ∷ zs)).0 (name_and_value (z ∷ zs)).1 (rw (t, second) refl) (rw (t, second) refl) (rw t refl)
    go false t = a_value (rw t refl) (rw t refl) (rw t refl) (rw t refl)

pub fit_words : (words : List Text) → list_all is_fit words ≡ true → Words words
fit_words [] e = none
fit_words (word ∷ rest) e =
    let parts = both (is_fit word) (list_all is_fit rest) e in
    more (fit_word word parts.0) (fit_words rest parts.1)

-- a word that does not fit is no option, and no value
unfit_word : (word : Text) → is_fit word ≡ false → (as_option word ≡ None) × (begins_with_hyphen word ≡ true)
unfit_word [] e = absurd (true≢false e)
unfit_word (x ∷ []) e = go (x == 45) refl
  where
    go : (b : Bool) → (x == 45) ≡ b → (as_option (x ∷ []) ≡ None) × (begins_with_hyphen (x ∷ []) ≡ true)
    go true t = (rw t refl, rw t refl)
    go false t = absurd (true≢false (rw t at e))
unfit_word (x ∷ y ∷ []) e = go (x == 45) (y == 45) refl refl
  where
    go : (b c : Bool) → (x == 45) ≡ b → (y == 45) ≡ c → (as_option (x ∷ y ∷ []) ≡ None) × (begins_with_hyphen (x ∷ y ∷ []) ≡ true)
    go true true t u = (rw (t, u) refl, rw t refl)
    go true false t u = (rw (t, u) refl, rw t refl)
    go false c t u = absurd (true≢false (rw t at e))
unfit_word (x ∷ y ∷ z ∷ zs) e = go (x == 45) (y == 45) refl refl
  where
    go : (b c : Bool) → (x == 45) ≡ b → (y == 45) ≡ c → (as_option (x ∷ y ∷ z ∷ zs) ≡ None) × (begins_with_hyphen (x ∷ y ∷ z ∷ zs) ≡ true)
    go true true t u =
        let long : nat_lt 2 (length (x ∷ y ∷ z ∷ zs)) ≡ true = lt-ltb 2 (length (x ∷ y ∷ z ∷ zs)) (omega arith) in
        absurd (true≢false (rw (t, u, long) at e))
    go true false t u = (rw (t, u) refl, rw t refl)
    go false c t u = absurd (true≢false (rw t at e))

unread : (form : Form) (given : Given) (waiting : Option Text) (word : Text) → is_fit word ≡ false → read_word form given waiting word ≡ None
unread form given None word e = ap (read_option form given) (unfit_word word e).0
unread form given (Some name) word e = ap (λ b. cond b None (add given name (Some word))) (unfit_word word e).1

pub unfit_none : (words : List Text) → list_all is_fit words ≡ false → (form : Form) (given : Given) (waiting : Option Text) → options_from words form given waiting ≡ None
unfolding options_from
unfit_none [] e form given waiting = absurd (true≢false e)
unfit_none (word ∷ rest) e form given waiting = go (unfit_none rest) (is_fit word) refl
  where
    after : (list_all is_fit rest ≡ false) → ((f : Form) (g : Given) (w : Option Text) → options_from rest f g w ≡ None) → (r : Option Read) → and_then r (options_from rest form) ≡ None
    after t all None = refl
    after t all (Some r) = all form r.0 r.1

    go : (list_all is_fit rest ≡ false → (f : Form) (g : Given) (w : Option Text) → options_from rest f g w ≡ None) → (b : Bool) → is_fit word ≡ b
        → and_then (read_word form given waiting word) (options_from rest form) ≡ None
    go all true t = let unfit : list_all is_fit rest ≡ false = rw t at e in after unfit (all unfit) _
    go all false t = ap (λ r. and_then r (options_from rest form)) (unread form given waiting word t)
