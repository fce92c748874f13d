-- A text that is read line by line comes to what its lines come to as a whole.
use Rattle.std.specs.Prelude.{option_to_list}
use Rattle.std.proofs.Common.{◌≡◌, ℕ, ◌+◌, ◌-◌, ◌<◌, ◌⊎◌, inl, inr, false, List, [], ◌∷◌, ◌++◌, length, take, drop, min, IfErr, Some, None, Option, Result, Ok, Err, refl, ap, sym, ◌∙◌, subst}
use Rattle.hib_base.specs.declared.refusals.Refused.{Refused}
use Rattle.hib_lex.specs.Lines.{lines_of, line_length, line_of, with_said, lexing, lex_of}
use Rattle.hib_lex.proofs.Texts.{from_place, line_here, drop_least}
use Rattle.hib_lex.specs.declared.lines.Line.{Line}
use Rattle.hib_lex.specs.declared.lines.Lines.{Lines}
use Rattle.hib_script.specs.Lines.{Reader}
use Rattle.hib_script.specs.Script.{step, begins_column, reading, ended, ended_at, start, script_in, script_of, IsWhere}
use Rattle.hib_script.specs.declared.errors.ScriptError.{ScriptError}
use Rattle.hib_script.specs.Passing.{read_on, come_to, unless_bad}

-- a line that stands before lines that are read
abbrev with_front : Line → Result Lines Refused → Result Lines Refused
with_front p (Err x) = Err x
with_front p (Ok lines) = Ok (record { lines = p ∷ lines.lines; count = lines.count })

abbrev after : List Line → ℕ → Result Lines Refused
after xs n = Ok (record { lines = xs; count = n })

front : (p : Line) (xs : List Line) (n : ℕ) (ls : List (List ℕ)) → lexing (after (p ∷ xs) n) ls ≡ with_front p (lexing (after xs n) ls)
front p xs n [] = refl
front p xs n (l ∷ ls) = by_line (line_of (n + 1) l) (λ ys. front p ys (n + 1) ls)
  where
    by_line : (o : Result (Option Line) Refused) → ((ys : List Line) → lexing (after (p ∷ ys) (n + 1)) ls ≡ with_front p (lexing (after ys (n + 1)) ls)) →
        lexing (with_said (record { lines = p ∷ xs; count = n }) o) ls ≡ with_front p (lexing (with_said (record { lines = xs; count = n }) o) ls)
    by_line (Ok None) i = i xs
    by_line (Ok (Some y)) i = i (xs ++ y ∷ [])
    by_line (Err x) i = refl

said_so : (r : Reader) (last : Option Line) (n : ℕ) (l : List ℕ) (ls : List (List ℕ)) (o : Result (Option Line) Refused) → line_of (n + 1) l ≡ o →
    come_to r last n (l ∷ ls) ≡ read_on r (lexing (with_said (record { lines = option_to_list last; count = n }) o) ls)
said_so r last n l ls o e = ap (λ u. read_on r (lexing (with_said (record { lines = option_to_list last; count = n }) u) ls)) e

-- of the first line that is left: it is skipped, or becomes the last one, or is bad
pub skips : (r : Reader) (last : Option Line) (n : ℕ) (l : List ℕ) (ls : List (List ℕ)) → line_of (n + 1) l ≡ Ok None → come_to r last n (l ∷ ls) ≡ come_to r last (n + 1) ls
skips r last n l ls e = said_so r last n l ls (Ok None) e

pub begins : (r : Reader) (n : ℕ) (l : List ℕ) (ls : List (List ℕ)) (y : Line) → line_of (n + 1) l ≡ Ok (Some y) → come_to r None n (l ∷ ls) ≡ come_to r (Some y) (n + 1) ls
begins r n l ls y e = said_so r None n l ls (Ok (Some y)) e

pub is_bad : (r : Reader) (last : Option Line) (n : ℕ) (l : List ℕ) (ls : List (List ℕ)) (x : Refused) → line_of (n + 1) l ≡ Err x → come_to r last n (l ∷ ls) ≡ Err x
is_bad r last n l ls x e = said_so r last n l ls (Err x) e

-- two lines that are not taken yet
two : (r : Reader) (n : ℕ) (l : List ℕ) (ls : List (List ℕ)) (p y : Line) → line_of (n + 1) l ≡ Ok (Some y) →
    come_to r (Some p) n (l ∷ ls) ≡ read_on r (with_front p (with_front y (lexing (after [] (n + 1)) ls)))
two r n l ls p y e =
    let more : lexing (with_said (record { lines = p ∷ []; count = n }) (Ok (Some y))) ls ≡ with_front p (with_front y (lexing (after [] (n + 1)) ls)) =
    front p (y ∷ []) (n + 1) ls ∙ ap (with_front p) (front y [] (n + 1) ls) in
    said_so r (Some p) n l ls (Ok (Some y)) e ∙ ap (read_on r) more

pub goes_on : (r z : Reader) (n : ℕ) (l : List ℕ) (ls : List (List ℕ)) (p y : Line) → line_of (n + 1) l ≡ Ok (Some y) → step r (begins_column (y ∷ [])) p ≡ Ok z →
    come_to r (Some p) n (l ∷ ls) ≡ come_to z (Some y) (n + 1) ls
goes_on r z n l ls p y e s = two r n l ls p y e ∙ (by_rest (lexing (after [] (n + 1)) ls) ∙ ap (read_on z) (sym (front y [] (n + 1) ls)))
  where
    by_rest : (q : Result Lines Refused) → read_on r (with_front p (with_front y q)) ≡ read_on z (with_front y q)
    by_rest (Err x) = refl
    by_rest (Ok lines) = ap (λ u. ended lines.count (reading u (y ∷ lines.lines))) s

pub stops : (r : Reader) (n : ℕ) (l : List ℕ) (ls : List (List ℕ)) (p y : Line) (x : Refused) → line_of (n + 1) l ≡ Ok (Some y) → step r (begins_column (y ∷ [])) p ≡ Err x →
    come_to r (Some p) n (l ∷ ls) ≡ unless_bad x (lexing (after [] (n + 1)) ls)
stops r n l ls p y x e s = two r n l ls p y e ∙ by_rest (lexing (after [] (n + 1)) ls)
  where
    by_rest : (q : Result Lines Refused) → read_on r (with_front p (with_front y q)) ≡ unless_bad x q
    by_rest (Err u) = refl
    by_rest (Ok lines) = ap (λ u. ended lines.count (reading u (y ∷ lines.lines))) s

-- at the end of the text
pub ends_taken : (r z : Reader) (n : ℕ) (p : Line) → step r false p ≡ Ok z → come_to r (Some p) n [] ≡ ended_at n z z.place
ends_taken r z n p s = ap (λ u. ended n (reading u [])) s

pub ends_refused : (r : Reader) (n : ℕ) (p : Line) (x : Refused) → step r false p ≡ Err x → come_to r (Some p) n [] ≡ Err x
ends_refused r n p x s = ap (λ u. ended n (reading u [])) s

-- the whole text
pub whole : (text : List ℕ) → come_to start None 0 (lines_of text) ≡ script_of text
whole text = by_lines (lex_of text)
  where
    by_lines : (q : Result Lines Refused) → read_on start q ≡ script_in q
    by_lines (Err x) = refl
    by_lines (Ok lines) = refl

-- the line at a place of a text, and the text after it
pub line_cut : (text : List ℕ) (at size m : ℕ) → at < length text → size ≡ line_length (take (length text - at) (drop at text)) → m ≡ min (length text) (at + size + 1) →
    lines_of (drop at text) ≡ take (at + size - at) (drop at text) ∷ lines_of (take (length text - m) (drop m text))
line_cut text at size m h k e =
    let rest : take (length text - m) (drop m text) ≡ drop (at + size + 1) text = from_place text m ∙ (ap (λ n. drop n text) e ∙ drop_least text (at + size + 1)) in
    line_here text at size h k ∙ ap (λ xs. take (at + size - at) (drop at text) ∷ lines_of xs) (sym rest)

-- why a line that is taken is bad, or what is left, is why all is
pub refused_on : (r : Reader) (n : ℕ) (l : List ℕ) (ls : List (List ℕ)) (p y : Line) (x : ScriptError) → line_of (n + 1) l ≡ Ok (Some y) →
    (x ≡ ScriptError.NoMemory) ⊎ ((fault : Refused) × (step r (begins_column (y ∷ [])) p ≡ Err fault) × IsWhere (unless_bad fault (lexing (after [] (n + 1)) ls)) x) →
    IsWhere (come_to r (Some p) n (l ∷ ls)) x
refused_on r n l ls p y x e (inl q) = subst (λ z. IsWhere (come_to r (Some p) n (l ∷ ls)) z) (sym q) tt
refused_on r n l ls p y x e (inr f) = subst (λ o. IsWhere o x) (sym (stops r n l ls p y f.0 e f.1)) f.2

pub where_bad : (r : Reader) (last : Option Line) (n : ℕ) (l : List ℕ) (ls : List (List ℕ)) (x : ScriptError) → IsWhere (line_of (n + 1) l) x → IsWhere (come_to r last n (l ∷ ls)) x
where_bad r last n l ls ScriptError.NoMemory h = tt
where_bad r last n l ls (ScriptError.Refused x) h = is_bad r last n l ls x h

pub where_last : (r : Reader) (n : ℕ) (p : Line) (x : ScriptError) → IsWhere (step r false p) x → IsWhere (come_to r (Some p) n []) x
where_last r n p ScriptError.NoMemory h = tt
where_last r n p (ScriptError.Refused x) h = ends_refused r n p x h

pub err_given : {A : Type 0} {P Q : ScriptError → Type 0} → (r : Result A ScriptError) → IfErr r P → ((x : ScriptError) → P x → Q x) → IfErr r Q
err_given (Ok a) h f = h
err_given (Err x) h f = f x h
