-- A part of a line, read at once.
use Rattle.std.specs.Prelude.{◌≡◌, ℕ, suc, ◌<◌, ◌≤◌, Bool, true, false, if◌then◌else◌, not, ◌&&◌, ◌||◌, ◌==◌, nat_le, List, [], ◌∷◌, ◌++◌, length, drop, Option, Some, None}
use Rattle.hib_lex.specs.Tokens.{Place, backslash, is_end, mark, max_text, scan_at, tokens_from}
use Rattle.hib_lex.specs.declared.lexer.Token.{Token}

-- the tokens of a line from the bytes that are left, where the scan stands between tokens
abbrev pub between : List Token → List ℕ → Option (List Token)
between ts bs = tokens_from (scan_at ts Place.Between) bs

-- and where it stands within a quoted text, of which some bytes were read
abbrev pub within : List Token → List ℕ → List ℕ → Option (List Token)
within ts text bs = tokens_from (scan_at ts (Place.Quoted text)) bs

-- and just behind the mark that closes a quoted text
abbrev pub behind : List Token → List ℕ → List ℕ → Option (List Token)
behind ts text bs = if nat_le (length text) max_text then tokens_from (scan_at (ts ++ Token.Quoted text ∷ []) Place.Closed) bs else None

-- the first bytes, so many of them, are read with these tokens more
pub record IsPart (old new : List Token) (bytes : List ℕ) (size : ℕ) : Type 0 where
  pub more : 0 < size
  pub fits : size ≤ length bytes
  pub read : between old bytes ≡ between new (drop size bytes)

-- what is read at the front: how many bytes, or none if they begin with no token
abbrev pub ReadsPart : List Token → List Token → List ℕ → Option ℕ → Type 0
ReadsPart old new bytes None = between old bytes ≡ None
ReadsPart old new bytes (Some size) = IsPart old new bytes size

-- the text of these bytes up to the mark that closes it, and how many bytes that takes with the mark; or none if no text is closed
abbrev pub ReadsQuoted : List ℕ → Option (List ℕ × ℕ) → Type 0
ReadsQuoted bytes None = (ts : List Token) → within ts [] bytes ≡ None
ReadsQuoted bytes (Some r) = (r.1 ≤ length bytes) × ((ts : List Token) → within ts [] bytes ≡ behind ts r.0 (drop r.1 bytes))

-- how many bytes stand before the first at which a word, a path or a number ends, or in all
abbrev pub bare_length : List ℕ → ℕ
bare_length [] = 0
bare_length (b ∷ bs) = if is_end b then 0 else suc (bare_length bs)

-- how many bytes stand before the first mark or backslash, or in all
abbrev pub plain_length : List ℕ → ℕ
plain_length [] = 0
plain_length (b ∷ bs) = if (b == mark) || (b == backslash) then 0 else suc (plain_length bs)

abbrev pub begins_bare : List ℕ → Bool
begins_bare [] = false
begins_bare (b ∷ bs) = not (is_end b) && not (b == mark)

abbrev pub begins_quoted : List ℕ → Bool
begins_quoted [] = false
begins_quoted (b ∷ bs) = b == mark

-- whether a quoted text may end before these bytes
abbrev pub may_close : List ℕ → Bool
may_close [] = true
may_close (b ∷ bs) = is_end b

-- whether these bytes begin with a backslash before a mark or a backslash
abbrev pub is_escape : List ℕ → Bool
is_escape (b ∷ c ∷ bs) = (b == backslash) && ((c == mark) || (c == backslash))
is_escape _ = false
