-- The first line of a text, and what is read of the rest.
use Rattle.std.proofs.Common.{◌≡◌, ℕ, suc, ◌+◌, ◌-◌, ◌<◌, ◌≤◌, Bool, List, [], ◌∷◌, length, take, drop, get_or, cond, true, false, ◌==◌, min, nat_le, Result, Ok, Err, refl, ap, sym, ◌∙◌, arith, add-one, drop-cons}
use Rattle.std.proofs.lemmas.List.{drop_all, length-drop, drop-drop, take_all}
use Rattle.std.proofs.lemmas.Bool.Decides.{nat_tests}
use Rattle.hib_base.specs.declared.refusals.Refused.{Refused}
use Rattle.hib_lex.specs.declared.lines.Lines.{Lines}
use Rattle.hib_lex.specs.declared.errors.LexError.{LexError}
use Rattle.hib_lex.specs.Lines.{line_feed, before_lines, lines_of, line_length, with_line, lexing, IsWhere}

pub length_next : (bs : List ℕ) (i : ℕ) → i < length bs → line_length (drop i bs) ≡ cond (get_or bs i 0 == line_feed) 0 (suc (line_length (drop (i + 1) bs)))
length_next bs i h = rw (add-one, drop-cons bs i 0) refl

pub length_done : (bs : List ℕ) (i : ℕ) → length bs ≤ i → line_length (drop i bs) ≡ 0
length_done bs i h = rw (drop_all i bs h) refl

pub length_fits : (bs : List ℕ) → line_length bs ≤ length bs
length_fits [] = omega arith
length_fits (b ∷ bs) = elim (b == line_feed) as (λ v. cond v 0 (suc (line_length bs)) ≤ suc (length bs)) [ true ↦ omega arith | false ↦ omega (arith, length_fits bs) ]

-- the first line stands before the first line end, and the others after it
before_rest : (b : ℕ) (bs : List ℕ) → (0 < length bs → lines_of bs ≡ take (line_length bs) bs ∷ lines_of (drop (suc (line_length bs)) bs)) → before_lines b (lines_of bs) ≡ (b ∷ take (line_length bs) bs) ∷ lines_of (drop (suc (line_length bs)) bs)
before_rest b [] h = refl
before_rest b (c ∷ bs) h = ap (before_lines b) (h (omega arith))

pub lines_first : (bs : List ℕ) → 0 < length bs → lines_of bs ≡ take (line_length bs) bs ∷ lines_of (drop (suc (line_length bs)) bs)
lines_first [] h = absurd (omega arith)
lines_first (b ∷ bs) h =
    elim (b == line_feed) as (λ v. cond v ([] ∷ lines_of bs) (before_lines b (lines_of bs)) ≡ take (cond v 0 (suc (line_length bs))) (b ∷ bs) ∷ lines_of (drop (suc (cond v 0 (suc (line_length bs)))) (b ∷ bs)))
    [ true ↦ refl | false ↦ before_rest b bs (λ k. lines_first bs k) ]

-- what is read from a place in the text on is what is read after the line there
pub lexing_next : (done : Lines) (text : List ℕ) (start stop : ℕ) → start < length text → stop ≡ start + line_length (drop start text) → lexing (Ok done) (lines_of (drop start text)) ≡ lexing (with_line done (take (stop - start) (drop start text))) (lines_of (drop (stop + 1) text))
lexing_next done text start stop h e =
    let rest : List ℕ = drop start text in
    let inside : 0 < length rest = simp length-drop (omega arith) in
    let first : stop - start ≡ line_length rest = omega (arith, e) in
    let behind : start + suc (line_length rest) ≡ stop + 1 = omega (arith, e) in
    rw (lines_first rest inside) (rw first (rw (drop-drop (suc (line_length rest)) start text) (rw behind refl)))

pub lexing_done : (done : Lines) (text : List ℕ) (start : ℕ) → length text ≤ start → lexing (Ok done) (lines_of (drop start text)) ≡ Ok done
lexing_done done text start h = rw (drop_all start text h) refl

-- the bytes of a text from a place on, as code takes them
pub from_place : (text : List ℕ) (start : ℕ) → take (length text - start) (drop start text) ≡ drop start text
from_place text start = take_all (length text - start) (drop start text) (simp length-drop (omega arith))

pub lexing_on : (done : Lines) (text : List ℕ) (start size : ℕ) (r next : Result Lines Refused) → lexing (Ok done) (lines_of (drop start text)) ≡ r → start < length text → size ≡ line_length (take (length text - start) (drop start text)) → with_line done (take (start + size - start) (drop start text)) ≡ next → lexing next (lines_of (drop (start + size + 1) text)) ≡ r
lexing_on done text start size r next e h k f =
    let same : size ≡ line_length (drop start text) = rw (from_place text start) at k in
    rw (← f) (sym (lexing_next done text start (start + size) h (ap (λ z. start + z) same)) ∙ e)

pub size_within : (text : List ℕ) (start size : ℕ) → start < length text → size ≡ line_length (take (length text - start) (drop start text)) → start + size ≤ length text
size_within text start size h k =
    let same : size ≡ line_length (drop start text) = rw (from_place text start) at k in
    let fits : line_length (drop start text) ≤ length text - start = simp length-drop at (length_fits (drop start text)) in
    omega (arith, fits, same)

-- why the line there is bad is why the text is
pub where_on : (done : Lines) (text : List ℕ) (start size : ℕ) (r : Result Lines Refused) (x : LexError) → lexing (Ok done) (lines_of (drop start text)) ≡ r → start < length text → size ≡ line_length (take (length text - start) (drop start text)) → IsWhere (with_line done (take (start + size - start) (drop start text))) x → IsWhere r x
where_on done text start size r LexError.NoMemory e h k w = tt
where_on done text start size r (LexError.Refused x) e h k w = sym (lexing_on done text start size r (Err x) e h k w)

line_by : (text : List ℕ) (start size here behind : ℕ) → 0 < length (drop start text) → size ≡ line_length (drop start text) → here ≡ size → behind ≡ start + suc size →
    lines_of (drop start text) ≡ take here (drop start text) ∷ lines_of (drop behind text)
line_by text start size here behind inside same e f = rw (lines_first (drop start text) inside) (rw (e, f, same) (rw (drop-drop (suc (line_length (drop start text))) start text) refl))

-- the line at a place, and those after it
pub line_here : (text : List ℕ) (start size : ℕ) → start < length text → size ≡ line_length (take (length text - start) (drop start text)) →
    lines_of (drop start text) ≡ take (start + size - start) (drop start text) ∷ lines_of (drop (start + size + 1) text)
line_here text start size h k =
    let same : size ≡ line_length (drop start text) = rw (from_place text start) at k in
    let inside : 0 < length (drop start text) = simp length-drop (omega arith) in
    line_by text start size (start + size - start) (start + size + 1) inside same (omega arith) (omega arith)

-- the rest of a text from a place after its end on is nothing
pub drop_least : (text : List ℕ) (i : ℕ) → drop (min (length text) i) text ≡ drop i text
drop_least text i = by (nat_le i (length text)) refl
  where
    by : (b : Bool) → nat_le i (length text) ≡ b → drop (min (length text) i) text ≡ drop i text
    by true e = let s : min (length text) i ≡ i = grind (arith, nat_tests) in ap (λ n. drop n text) s
    by false e =
        let s : min (length text) i ≡ length text = grind (arith, nat_tests) in
        let m : length text ≤ i = grind (arith, nat_tests) in
        ap (λ n. drop n text) s ∙ (drop_all (length text) text (omega arith) ∙ sym (drop_all i text m))
