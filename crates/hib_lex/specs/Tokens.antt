-- The tokens of a line, and which lines say nothing.
use Rattle.std.specs.Prelude.{ℕ, ◌+◌, ◌-◌, ◌*◌, ◌^◌, Bool, true, false, if◌then◌else◌, not, ◌&&◌, ◌||◌, ◌==◌, nat_lt, nat_le, List, [], ◌∷◌, ◌++◌, length, take, drop, position, ℤ, pos, neg_ℤ, Option, Some, None, option_map, option_and_then}
use Rattle.std.specs.List.{list_all}
use Rattle.hib_base.specs.Fits.{is_printable}
pub use Rattle.hib_base.specs.Words.{is_letter, is_digit, is_word_byte, is_word}
use Rattle.hib_lex.specs.declared.lexer.Token.{Token}

-- bytes by name
abbrev pub space : ℕ
space = 32

abbrev pub mark : ℕ
mark = 34

abbrev pub hash : ℕ
hash = 35

abbrev pub left : ℕ
left = 40

abbrev pub right : ℕ
right = 41

abbrev pub dash : ℕ
dash = 45

abbrev pub dot : ℕ
dot = 46

abbrev pub zero_digit : ℕ
zero_digit = 48

abbrev pub backslash : ℕ
backslash = 92

-- ---- lines
-- the most bytes of one
abbrev pub max_line : ℕ
max_line = 4096

-- the most bytes of a text
abbrev pub max_text : ℕ
max_text = 200

-- what every line has to be, a skipped one too
abbrev pub is_lexical : List ℕ → Bool
is_lexical line = nat_le (length line) max_line && list_all is_printable line

-- spaces alone, nothing, or a comment
abbrev pub is_blank : List ℕ → Bool
is_blank [] = true
is_blank (b ∷ bs) = if b == space then is_blank bs else b == hash

-- ---- words, paths and numbers
-- two words joined by one dot
abbrev pub path_at : List ℕ → Option ℕ → Option Token
path_at bs None = None
path_at bs (Some i) =
    if is_word (take i bs) && is_word (drop (i + 1) bs) then Some (Token.Path (take i bs) (drop (i + 1) bs)) else None

abbrev pub path_of : List ℕ → Option Token
path_of bs = path_at bs (position (λ b. b == dot) bs)

abbrev pub is_zero : List ℕ → Bool
is_zero (d ∷ []) = d == zero_digit
is_zero _ = false

-- digits that don't begin with 0
abbrev pub is_positive : List ℕ → Bool
is_positive [] = false
is_positive (d ∷ ds) = not (d == zero_digit) && list_all is_digit (d ∷ ds)

-- `0`, or digits that don't begin with 0
abbrev pub is_natural : List ℕ → Bool
is_natural ds = is_zero ds || is_positive ds

-- what digits come to after the digits of n
abbrev pub size_after : ℕ → List ℕ → ℕ
size_after n [] = n
size_after n (d ∷ ds) = size_after (n * 10 + (d - zero_digit)) ds

abbrev pub size_of : List ℕ → ℕ
size_of ds = size_after 0 ds

abbrev pub natural_of : List ℕ → Option ℤ
natural_of ds =
    if is_natural ds && nat_lt (size_of ds) (2 ^ 63) then Some (pos (size_of ds)) else None

abbrev pub negative_of : List ℕ → Option ℤ
negative_of ds = if is_positive ds && nat_le (size_of ds) (2 ^ 63) then Some (neg_ℤ (pos (size_of ds))) else None

-- `0`, or an optional `-` and digits that don't begin with 0; within i64
abbrev pub number_of : List ℕ → Option ℤ
number_of [] = None
number_of (b ∷ bs) = if b == dash then negative_of bs else natural_of (b ∷ bs)

abbrev pub or_path : List ℕ → Option ℤ → Option Token
or_path bs None = path_of bs
or_path bs (Some n) = Some (Token.Number n)

-- what stands between spaces, parentheses and the line's ends, without quotation marks
abbrev pub bare_of : List ℕ → Option Token
bare_of bs = if is_word bs then Some (Token.Word bs) else or_path bs (number_of bs)

-- ---- the scan of a line, byte by byte
-- where it stands
pub data Place : Type 0 where
  -- between tokens
  Between : Place
  -- within a word, a path or a number, of which these bytes were read
  Bare : List ℕ → Place
  -- within a quoted text, of which these bytes were read
  Quoted : List ℕ → Place
  -- the same, just after a backslash
  Escaped : List ℕ → Place
  -- just after the end of a quoted text
  Closed : Place

-- the tokens so far, and where it stands
pub record Scan : Type 0 where
  pub tokens : List Token
  pub place : Place

abbrev pub scan_at : List Token → Place → Option Scan
scan_at ts place = Some (record { tokens = ts; place = place })

abbrev pub with_bare : List Token → List ℕ → Option (List Token)
with_bare ts bs = option_map (λ t. ts ++ t ∷ []) (bare_of bs)

abbrev pub is_end : ℕ → Bool
is_end b = (b == space) || ((b == left) || (b == right))

abbrev pub step_between : List Token → ℕ → Option Scan
step_between ts b =
    if b == space then scan_at ts Place.Between
    else (if b == left then scan_at (ts ++ Token.Left ∷ []) Place.Between
    else (if b == right then scan_at (ts ++ Token.Right ∷ []) Place.Between
    else (if b == mark then scan_at ts (Place.Quoted []) else scan_at ts (Place.Bare (b ∷ [])))))

abbrev pub step_bare : List Token → List ℕ → ℕ → Option Scan
step_bare ts bs b =
    if is_end b then option_and_then (λ done. step_between done b) (with_bare ts bs) else scan_at ts (Place.Bare (bs ++ b ∷ []))

-- a backslash escapes, a mark ends a text
abbrev pub step_quoted : List Token → List ℕ → ℕ → Option Scan
step_quoted ts bs b =
    if b == backslash then scan_at ts (Place.Escaped bs)
    else (if b == mark then (if nat_le (length bs) max_text then scan_at (ts ++ Token.Quoted bs ∷ []) Place.Closed else None)
    else scan_at ts (Place.Quoted (bs ++ b ∷ [])))

abbrev pub step_escaped : List Token → List ℕ → ℕ → Option Scan
step_escaped ts bs b =
    if (b == mark) || (b == backslash) then scan_at ts (Place.Quoted (bs ++ b ∷ [])) else None

-- after a text comes a space, a parenthesis or the end
abbrev pub step_closed : List Token → ℕ → Option Scan
step_closed ts b = if is_end b then step_between ts b else None

abbrev pub step_at : List Token → Place → ℕ → Option Scan
step_at ts Place.Between b = step_between ts b
step_at ts (Place.Bare bs) b = step_bare ts bs b
step_at ts (Place.Quoted bs) b = step_quoted ts bs b
step_at ts (Place.Escaped bs) b = step_escaped ts bs b
step_at ts Place.Closed b = step_closed ts b

abbrev pub step : Scan → ℕ → Option Scan
step scan b = step_at scan.tokens scan.place b

abbrev pub ended_at : List Token → Place → Option (List Token)
ended_at ts Place.Between = Some ts
ended_at ts (Place.Bare bs) = with_bare ts bs
ended_at ts (Place.Quoted bs) = None
ended_at ts (Place.Escaped bs) = None
ended_at ts Place.Closed = Some ts

abbrev pub ended : Scan → Option (List Token)
ended scan = ended_at scan.tokens scan.place

-- the tokens of a line that was scanned so far, from the bytes that are left
abbrev pub tokens_from : Option Scan → List ℕ → Option (List Token)
tokens_from None bs = None
tokens_from (Some scan) [] = ended scan
tokens_from (Some scan) (b ∷ bs) = tokens_from (step scan b) bs

abbrev pub start : Scan
start = record { tokens = []; place = Place.Between }

-- the tokens of a line, or none if it breaks a rule
abbrev pub tokens_of : List ℕ → Option (List Token)
tokens_of line = if is_lexical line then tokens_from (Some start) line else None
