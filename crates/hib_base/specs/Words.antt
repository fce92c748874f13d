-- Words, and which of them may be names.
use Rattle.std.specs.Prelude.{ℕ, Bool, false, not, ◌&&◌, ◌||◌, ◌==◌, nat_lt, nat_le, List, [], ◌∷◌, length, codes, bytes_eq}
use Rattle.std.specs.List.{list_all, list_any}
use Rattle.hib_base.specs.Apart.{are_apart_by}

abbrev pub is_letter : ℕ → Bool
is_letter b = (nat_le 65 b && nat_le b 90) || (nat_le 97 b && nat_le b 122)

abbrev pub is_digit : ℕ → Bool
is_digit b = nat_le 48 b && nat_le b 57

-- a letter, a digit, `_` or `-`
abbrev pub is_word_byte : ℕ → Bool
is_word_byte b = is_letter b || (is_digit b || ((b == 95) || (b == 45)))

-- a letter, then letters, digits, `_` or `-`; 1 to 32 bytes
abbrev pub is_word : List ℕ → Bool
is_word [] = false
is_word (b ∷ bs) = is_letter b && (nat_lt (length bs) 32 && list_all is_word_byte bs)

-- words that are no names
abbrev pub reserved : List (List ℕ)
reserved =
    codes "cached" ∷ codes "from" ∷ codes "where" ∷ codes "order" ∷ codes "desc" ∷ codes "offset" ∷ codes "limit" ∷
    codes "select" ∷ codes "ids" ∷ codes "count" ∷ codes "true" ∷ codes "false" ∷ codes "none" ∷ codes "default" ∷ []

abbrev pub is_reserved : List ℕ → Bool
is_reserved w = list_any (λ r. bytes_eq w r) reserved

abbrev pub is_name : List ℕ → Bool
is_name w = is_word w && not (is_reserved w)

-- a name is among others
abbrev pub has_name : List (List ℕ) → List ℕ → Bool
has_name names w = list_any (λ v. bytes_eq v w) names

-- no name stands twice
abbrev pub are_apart : List (List ℕ) → Bool
are_apart ws = are_apart_by bytes_eq ws

abbrev pub are_names : List (List ℕ) → Bool
are_names ws = list_all is_name ws && are_apart ws
