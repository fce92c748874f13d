-- A part of a line, read at once, is what the scan reads of it byte by byte.
use Rattle.std.proofs.Common.{◌≡◌, ℕ, suc, ◌+◌, ◌-◌, ◌<◌, ◌≤◌, Bool, true, false, cond, not, ◌&&◌, ◌||◌, ◌==◌, nat_le, List, [], ◌∷◌, ◌++◌, length, take, drop, get_or, Option, Some, None, ◌⊎◌, inl, inr, refl, ap, sym, ◌∙◌, arith, add-one, drop-cons}
use Rattle.std.specs.Prelude.{option_and_then}
use Rattle.std.proofs.lemmas.List.{append_assoc, append-nil, drop_all, take_all, drop-drop, length-drop, get_or-drop}
use Rattle.std.proofs.lemmas.Bool.{and_parts, eqb-true, eq-eqb, ne_eqb, le-leb, lt-leb, cases_order}
use Rattle.hib_base.proofs.Tables.{Tested, tested}
use Rattle.hib_lex.specs.Tokens.{Place, mark, backslash, is_end, scan_at, step_between, with_bare, bare_of, tokens_from}
use Rattle.hib_lex.specs.Parts.{between, within, behind, IsPart, ReadsQuoted, bare_length, plain_length, begins_bare, begins_quoted, may_close, is_escape}
use Rattle.hib_lex.specs.declared.lexer.Token.{Token}

-- ---- words, paths and numbers
abbrev behind_bare : Option (List Token) → List ℕ → Option (List Token)
behind_bare None bs = None
behind_bare (Some ts) bs = between ts bs

nothing_left : (o : Option (List Token)) → o ≡ behind_bare o []
nothing_left None = refl
nothing_left (Some ts) = refl

ended_by : (o : Option (List Token)) (b : ℕ) (bs : List ℕ) → tokens_from (option_and_then (λ done. step_between done b) o) bs ≡ behind_bare o (b ∷ bs)
ended_by None b bs = refl
ended_by (Some ts) b bs = refl

bare_from : (ts : List Token) (acc bs : List ℕ) → tokens_from (scan_at ts (Place.Bare acc)) bs ≡ behind_bare (with_bare ts (acc ++ take (bare_length bs) bs)) (drop (bare_length bs) bs)
bare_from ts acc [] = ap (with_bare ts) (sym (append-nil acc)) ∙ nothing_left (with_bare ts (acc ++ []))
bare_from ts acc (b ∷ bs) =
    elim (is_end b) as (λ v. tokens_from (cond v (option_and_then (λ done. step_between done b) (with_bare ts acc)) (scan_at ts (Place.Bare (acc ++ b ∷ [])))) bs
    ≡ behind_bare (with_bare ts (acc ++ take (cond v 0 (suc (bare_length bs))) (b ∷ bs))) (drop (cond v 0 (suc (bare_length bs))) (b ∷ bs))) [
      | true ↦ ended_by (with_bare ts acc) b bs ∙ ap (λ w. behind_bare (with_bare ts w) (b ∷ bs)) (sym (append-nil acc))
      | false ↦ bare_from ts (acc ++ b ∷ []) bs ∙ ap (λ w. behind_bare (with_bare ts w) (drop (bare_length bs) bs)) (append_assoc acc (b ∷ []) (take (bare_length bs) bs))
    ]

none_of : (s l r m : Bool) → (not (s || (l || r)) && not m) ≡ true → (s ≡ false) × (l ≡ false) × (r ≡ false) × (m ≡ false)
none_of false false false false h = (refl, refl, refl, refl)
none_of true l r m h = absurd (cc)
none_of false true r m h = absurd (cc)
none_of false false true m h = absurd (cc)
none_of false false false true h = absurd (cc)

bare_read : (ts : List Token) (bs : List ℕ) → begins_bare bs ≡ true → between ts bs ≡ behind_bare (with_bare ts (take (bare_length bs) bs)) (drop (bare_length bs) bs)
bare_read ts [] h = absurd (cc)
bare_read ts (b ∷ bs) h =
    let p : ((b == 32) ≡ false) × ((b == 40) ≡ false) × ((b == 41) ≡ false) × ((b == 34) ≡ false) = none_of (b == 32) (b == 40) (b == 41) (b == 34) h in
    let begun : between ts (b ∷ bs) ≡ tokens_from (scan_at ts (Place.Bare (b ∷ []))) bs =
    (λ i. tokens_from (cond (p.0 i) (scan_at ts Place.Between) (cond (p.1 i) (scan_at (ts ++ Token.Left ∷ []) Place.Between)
    (cond (p.2 i) (scan_at (ts ++ Token.Right ∷ []) Place.Between) (cond (p.3 i) (scan_at ts (Place.Quoted [])) (scan_at ts (Place.Bare (b ∷ []))))))) bs) in
    let longer : suc (bare_length bs) ≡ bare_length (b ∷ bs) = sym (λ i. cond (p.0 i || (p.1 i || p.2 i)) 0 (suc (bare_length bs))) in
    begun ∙ bare_from ts (b ∷ []) bs ∙ ap (λ n. behind_bare (with_bare ts (take n (b ∷ bs))) (drop n (b ∷ bs))) longer

bare_more : (bs : List ℕ) → begins_bare bs ≡ true → 0 < bare_length bs
bare_more [] h = absurd (cc)
bare_more (b ∷ bs) h =
    let p : ((b == 32) ≡ false) × ((b == 40) ≡ false) × ((b == 41) ≡ false) × ((b == 34) ≡ false) = none_of (b == 32) (b == 40) (b == 41) (b == 34) h in
    rw (p.0, p.1, p.2) (omega arith)

module _ (ts : List Token) (bs : List ℕ) (n : ℕ) (h : begins_bare bs ≡ true) (size : n ≡ bare_length bs) where
  read : between ts bs ≡ behind_bare (with_bare ts (take n bs)) (drop n bs)
  read = bare_read ts bs h ∙ ap (λ m. behind_bare (with_bare ts (take m bs)) (drop m bs)) (sym size)

  pub bare_part : (us : List Token) (t : Token) → n ≤ length bs → Some t ≡ bare_of (take n bs) → us ≡ ts ++ t ∷ [] → IsPart ts us bs n
  bare_part us t l e u = record {
    more = let m : 0 < bare_length bs = bare_more bs h in omega (arith, size);
    fits = l;
    read = read ∙ ap (λ o. behind_bare (option_and_then (λ x. Some (ts ++ x ∷ [])) o) (drop n bs)) (sym e) ∙ ap (λ v. between v (drop n bs)) (sym u);
  }

  pub bare_none : None ≡ bare_of (take n bs) → between ts bs ≡ None
  bare_none e = read ∙ ap (λ o. behind_bare (option_and_then (λ x. Some (ts ++ x ∷ [])) o) (drop n bs)) (sym e)

-- ---- quoted texts
plain_from : (ts : List Token) (acc bs : List ℕ) → within ts acc bs ≡ within ts (acc ++ take (plain_length bs) bs) (drop (plain_length bs) bs)
plain_from ts acc [] = refl
plain_from ts acc (b ∷ bs) = at (tested (b == 34)) (tested (b == 92)) (plain_from ts (acc ++ b ∷ []) bs)
  where
    stopped : (n : ℕ) → n ≡ 0 → within ts acc (b ∷ bs) ≡ within ts (acc ++ take n (b ∷ bs)) (drop n (b ∷ bs))
    stopped n e = rw e (ap (λ w. within ts w (b ∷ bs)) (sym (append-nil acc)))

    at : Tested (b == 34) → Tested (b == 92) → within ts (acc ++ b ∷ []) bs ≡ within ts ((acc ++ b ∷ []) ++ take (plain_length bs) bs) (drop (plain_length bs) bs)
        → within ts acc (b ∷ bs) ≡ within ts (acc ++ take (plain_length (b ∷ bs)) (b ∷ bs)) (drop (plain_length (b ∷ bs)) (b ∷ bs))
    at (inl p) q g = stopped (plain_length (b ∷ bs)) (λ i. cond (p i || (b == 92)) 0 (suc (plain_length bs)))
    at (inr p) (inl q) g = stopped (plain_length (b ∷ bs)) (λ i. cond (p i || q i) 0 (suc (plain_length bs)))
    at (inr p) (inr q) g =
        let one : within ts acc (b ∷ bs) ≡ within ts (acc ++ b ∷ []) bs =
        (λ i. tokens_from (cond (q i) (scan_at ts (Place.Escaped acc))
        (cond (p i) (cond (nat_le (length acc) 200) (scan_at (ts ++ Token.Quoted acc ∷ []) Place.Closed) None) (scan_at ts (Place.Quoted (acc ++ b ∷ []))))) bs) in
        let longer : suc (plain_length bs) ≡ plain_length (b ∷ bs) = sym (λ i. cond (p i || q i) 0 (suc (plain_length bs))) in
        one ∙ g ∙ ap (λ w. within ts w (drop (plain_length bs) bs)) (append_assoc acc (b ∷ []) (take (plain_length bs) bs))
        ∙ ap (λ n. within ts (acc ++ take n (b ∷ bs)) (drop n (b ∷ bs))) longer

abbrev stops : List ℕ → Bool
stops [] = true
stops (b ∷ bs) = (b == 34) || (b == 92)

plain_stops : (bs : List ℕ) → stops (drop (plain_length bs) bs) ≡ true
plain_stops [] = refl
plain_stops (b ∷ bs) = at (tested ((b == 34) || (b == 92))) (plain_stops bs)
  where
    at : Tested ((b == 34) || (b == 92)) → stops (drop (plain_length bs) bs) ≡ true → stops (drop (plain_length (b ∷ bs)) (b ∷ bs)) ≡ true
    at (inl p) g = ap (λ v. stops (drop (cond v 0 (suc (plain_length bs))) (b ∷ bs))) p ∙ p
    at (inr p) g = ap (λ v. stops (drop (cond v 0 (suc (plain_length bs))) (b ∷ bs))) p ∙ g

mark_read : (ts : List Token) (acc bs : List ℕ) → begins_quoted bs ≡ true → within ts acc bs ≡ behind ts acc (drop 1 bs)
mark_read ts acc [] h = absurd (cc)
mark_read ts acc (b ∷ bs) h = rw (eqb-true b 34 h) (at (nat_le (length acc) 200))
  where
    at : (v : Bool) → tokens_from (cond v (scan_at (ts ++ Token.Quoted acc ∷ []) Place.Closed) None) bs ≡ cond v (tokens_from (scan_at (ts ++ Token.Quoted acc ∷ []) Place.Closed) bs) None
    at true = refl
    at false = refl

escape_read : (ts : List Token) (acc bs : List ℕ) → is_escape bs ≡ true → within ts acc bs ≡ within ts (acc ++ get_or bs 1 0 ∷ []) (drop 2 bs)
escape_read ts acc [] h = absurd (cc)
escape_read ts acc (b ∷ []) h = absurd (cc)
escape_read ts acc (b ∷ c ∷ bs) h =
    let p : ((b == 92) ≡ true) × (((c == 34) || (c == 92)) ≡ true) = and_parts (b == 92) ((c == 34) || (c == 92)) h in
    rw (eqb-true b 92 p.0) (λ i. tokens_from (cond (p.1 i) (scan_at ts (Place.Quoted (acc ++ c ∷ []))) None) bs)

escape_fits : (bs : List ℕ) → is_escape bs ≡ true → 2 ≤ length bs
escape_fits [] h = absurd (cc)
escape_fits (b ∷ []) h = absurd (cc)
escape_fits (b ∷ c ∷ bs) h = omega arith

stuck : (ts : List Token) (acc bs : List ℕ) → stops bs ≡ true → begins_quoted bs ≡ false → is_escape bs ≡ false → within ts acc bs ≡ None
stuck ts acc [] s m e = refl
stuck ts acc (b ∷ []) s m e = rw (eqb-true b 92 (rw m at s)) refl
stuck ts acc (b ∷ c ∷ bs) s m e =
    let q : (b == 92) ≡ true = rw m at s in
    let r : ((c == 34) || (c == 92)) ≡ false = rw q at e in
    rw (eqb-true b 92 q) (λ i. tokens_from (cond (r i) (scan_at ts (Place.Quoted (acc ++ c ∷ []))) None) bs)

-- the bytes of a text from a place on, as code takes them
from_place : (bs : List ℕ) (at : ℕ) → take (length bs - at) (drop at bs) ≡ drop at bs
from_place bs at = take_all (length bs - at) (drop at bs) (simp length-drop (omega arith))

no_mark : (bs : List ℕ) (at : ℕ) → (length bs ≤ at) ⊎ (get_or bs at 0 ≡ 34 → ⊥) → begins_quoted (drop at bs) ≡ false
no_mark bs at (inl l) = rw (drop_all at bs l) refl
no_mark bs at (inr d) = by (cases_order at (length bs))
  where
    here : at < length bs → begins_quoted (drop at bs) ≡ false
    here l = rw (drop-cons bs at 0 l) (ne_eqb (get_or bs at 0) 34 d)

    by : (at ≡ length bs) ⊎ ((at < length bs) ⊎ (length bs < at)) → begins_quoted (drop at bs) ≡ false
    by (inl e) = rw (drop_all at bs (omega arith)) refl
    by (inr (inl l)) = here l
    by (inr (inr l)) = rw (drop_all at bs (omega arith)) refl

-- a step of the loop over a quoted text: the plain bytes from a place on are added to the text
module _ (ts : List Token) (bs old new : List ℕ) (at size : ℕ) (e : size ≡ plain_length (take (length bs - at) (drop at bs))) (added : new ≡ old ++ take (at + size - at) (drop at bs)) where
  behind_plain : drop size (drop at bs) ≡ drop (at + size) bs
  behind_plain = drop-drop size at bs

  length_there : size ≡ plain_length (drop at bs)
  length_there = e ∙ ap plain_length (from_place bs at)

  passed : within ts old (drop at bs) ≡ within ts new (drop (at + size) bs)
  passed =
      let back : at + size - at ≡ size = omega arith in
      plain_from ts old (drop at bs)
      ∙ ap (λ n. within ts (old ++ take n (drop at bs)) (drop n (drop at bs))) (sym length_there)
      ∙ ap (λ n. within ts (old ++ take n (drop at bs)) (drop size (drop at bs))) (sym back)
      ∙ ap (λ w. within ts w (drop size (drop at bs))) (sym added)
      ∙ ap (λ r. within ts new r) behind_plain

  stops_there : stops (drop (at + size) bs) ≡ true
  stops_there = ap stops (sym behind_plain) ∙ ap (λ n. stops (drop n (drop at bs))) length_there ∙ plain_stops (drop at bs)

  pub closes : at + size < length bs → get_or bs (at + size) 0 ≡ 34 → within ts old (drop at bs) ≡ behind ts new (drop (at + size + 1) bs)
  closes l q =
      let m : begins_quoted (drop (at + size) bs) ≡ true = rw (drop-cons bs (at + size) 0 l) (eq-eqb (get_or bs (at + size) 0) 34 q) in
      passed ∙ mark_read ts new (drop (at + size) bs) m ∙ ap (behind ts new) (drop-drop 1 (at + size) bs)

  pub breaks : (length bs ≤ at + size) ⊎ (get_or bs (at + size) 0 ≡ 34 → ⊥) → is_escape (take (length bs - (at + size)) (drop (at + size) bs)) ≡ false
      → within ts old (drop at bs) ≡ None
  breaks o f = passed ∙ stuck ts new (drop (at + size) bs) stops_there (no_mark bs (at + size) o) (ap is_escape (sym (from_place bs (at + size))) ∙ f)

  pub goes_on : (next : List ℕ) → is_escape (take (length bs - (at + size)) (drop (at + size) bs)) ≡ true → next ≡ new ++ get_or bs (at + size + 1) 0 ∷ []
      → within ts old (drop at bs) ≡ within ts next (drop (at + size + 2) bs)
  goes_on next f n =
      let g : is_escape (drop (at + size) bs) ≡ true = ap is_escape (sym (from_place bs (at + size))) ∙ f in
      passed ∙ escape_read ts new (drop (at + size) bs) g
      ∙ ap (λ b. within ts (new ++ b ∷ []) (drop 2 (drop (at + size) bs))) (get_or-drop (at + size) bs 1 0)
      ∙ ap (λ w. within ts w (drop 2 (drop (at + size) bs))) (sym n)
      ∙ ap (within ts next) (drop-drop 2 (at + size) bs)

-- two bytes are there behind the plain ones
pub two_more : (bs : List ℕ) (at : ℕ) → is_escape (take (length bs - at) (drop at bs)) ≡ true → at + 2 ≤ length bs
two_more bs at f =
    let l : 2 ≤ length (drop at bs) = escape_fits (drop at bs) (ap is_escape (sym (from_place bs at)) ∙ f) in
    let m : 2 ≤ length bs - at = simp length-drop at l in
    omega arith

-- ---- a quoted text with its marks
closed_read : (ts : List Token) (bs : List ℕ) → may_close bs ≡ true → tokens_from (scan_at ts Place.Closed) bs ≡ between ts bs
closed_read ts [] h = refl
closed_read ts (b ∷ bs) h = λ i. tokens_from (cond (h i) (step_between ts b) None) bs

closed_badly : (ts : List Token) (bs : List ℕ) → may_close bs ≡ false → tokens_from (scan_at ts Place.Closed) bs ≡ None
closed_badly ts [] h = absurd (cc)
closed_badly ts (b ∷ bs) h = λ i. tokens_from (cond (h i) (step_between ts b) None) bs

opened : (ts : List Token) (bs : List ℕ) → begins_quoted bs ≡ true → between ts bs ≡ within ts [] (drop 1 bs)
opened ts [] h = absurd (cc)
opened ts (b ∷ bs) h = rw (eqb-true b 34 h) refl

quoted_more : (bs : List ℕ) → begins_quoted bs ≡ true → 0 < length bs
quoted_more [] h = absurd (cc)
quoted_more (b ∷ bs) h = omega arith

pub never_closed : (ts : List Token) (bs : List ℕ) → begins_quoted bs ≡ true → ReadsQuoted (take (length bs - 1) (drop 1 bs)) None → between ts bs ≡ None
never_closed ts bs h q = opened ts bs h ∙ ap (within ts []) (sym (from_place bs 1)) ∙ q ts

module _ (ts : List Token) (bs text : List ℕ) (size : ℕ) (h : begins_quoted bs ≡ true) (q : ReadsQuoted (take (length bs - 1) (drop 1 bs)) (Some (text, size))) where
  text_read : between ts bs ≡ behind ts text (drop (size + 1) bs)
  text_read =
      let one : 1 + size ≡ size + 1 = omega arith in
      opened ts bs h ∙ ap (within ts []) (sym (from_place bs 1)) ∙ q.1 ts ∙ ap (λ r. behind ts text (drop size r)) (from_place bs 1)
      ∙ ap (behind ts text) (drop-drop size 1 bs) ∙ ap (λ n. behind ts text (drop n bs)) one

  text_fits : size + 1 ≤ length bs
  text_fits =
      let l : 0 < length bs = quoted_more bs h in
      let e : length (take (length bs - 1) (drop 1 bs)) ≡ length bs - 1 = ap length (from_place bs 1) ∙ length-drop 1 bs in
      let m : size ≤ length (take (length bs - 1) (drop 1 bs)) = q.0 in
      omega arith

  pub text_part : (us : List Token) → length text ≤ 200 → may_close (take (length bs - (size + 1)) (drop (size + 1) bs)) ≡ true → us ≡ ts ++ Token.Quoted text ∷ []
      → IsPart ts us bs (size + 1)
  text_part us few m u = record {
    more = omega arith;
    fits = text_fits;
    read = text_read
        ∙ ap (λ v. cond v (tokens_from (scan_at (ts ++ Token.Quoted text ∷ []) Place.Closed) (drop (size + 1) bs)) None) (le-leb (length text) 200 few)
        ∙ closed_read (ts ++ Token.Quoted text ∷ []) (drop (size + 1) bs) (ap may_close (sym (from_place bs (size + 1))) ∙ m)
        ∙ ap (λ v. between v (drop (size + 1) bs)) (sym u);
  }

  pub text_long : 200 < length text → between ts bs ≡ None
  text_long l = text_read ∙ ap (λ v. cond v (tokens_from (scan_at (ts ++ Token.Quoted text ∷ []) Place.Closed) (drop (size + 1) bs)) None) (lt-leb (length text) 200 l)

  pub text_open : may_close (take (length bs - (size + 1)) (drop (size + 1) bs)) ≡ false → between ts bs ≡ None
  text_open m = text_read ∙ at (nat_le (length text) 200)
    where
      at : (v : Bool) → cond v (tokens_from (scan_at (ts ++ Token.Quoted text ∷ []) Place.Closed) (drop (size + 1) bs)) None ≡ None
      at true = closed_badly (ts ++ Token.Quoted text ∷ []) (drop (size + 1) bs) (ap may_close (sym (from_place bs (size + 1))) ∙ m)
      at false = refl

-- ---- lengths, byte by byte
pub bare_next : (bs : List ℕ) (i : ℕ) → i < length bs → bare_length (drop i bs) ≡ cond (is_end (get_or bs i 0)) 0 (suc (bare_length (drop (i + 1) bs)))
bare_next bs i h = rw (add-one, drop-cons bs i 0) refl

pub bare_done : (bs : List ℕ) (i : ℕ) → length bs ≤ i → bare_length (drop i bs) ≡ 0
bare_done bs i h = rw (drop_all i bs h) refl

pub plain_next : (bs : List ℕ) (i : ℕ) → i < length bs →
    plain_length (drop i bs) ≡ cond ((get_or bs i 0 == mark) || (get_or bs i 0 == backslash)) 0 (suc (plain_length (drop (i + 1) bs)))
plain_next bs i h = rw (add-one, drop-cons bs i 0) refl

pub plain_done : (bs : List ℕ) (i : ℕ) → length bs ≤ i → plain_length (drop i bs) ≡ 0
plain_done bs i h = rw (drop_all i bs h) refl
