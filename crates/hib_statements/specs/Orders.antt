-- The order of a schedule that a line is, or the first thing that is wrong with it.
use Rattle.std.specs.Prelude.{ℕ, ◌^◌, if◌then◌else◌, ◌&&◌, nat_lt, List, [], ◌∷◌, Option, Some, None, option_and_then, position, codes, bytes_eq, Result, Ok, Err}
use Rattle.hib_base.specs.declared.numbers.Key.{Key}
use Rattle.hib_base.specs.declared.refusals.Kind.{Kind}
use Rattle.hib_base.specs.declared.scripts.EntityDef.{EntityDef}
use Rattle.hib_base.specs.declared.scripts.Order.{Order}
use Rattle.hib_base.specs.declared.scripts.SessionDef.{SessionDef}
use Rattle.hib_base.specs.Scripts.{is_cached_in}
use Rattle.hib_base.specs.Valid.{max_steps}
use Rattle.hib_lex.specs.Words.{begins}
use Rattle.hib_lex.specs.declared.lexer.Token.{Token}
use Rattle.hib_mapping.specs.Parts.{is_a_word, is_a_number, word_of, is_within, number_up_to, entity_at}
use Rattle.hib_statements.specs.Parts.{is_key, key_of}

-- places are counted from 0, below 2^32
abbrev pub small32 : ℕ → Option ℕ
small32 n = if nat_lt n (2 ^ 32) then Some n else None

-- the session of a name, by its place
abbrev pub session_at : List SessionDef → List ℕ → Option ℕ
session_at ss w = option_and_then small32 (position (λ s. bytes_eq s.name w) ss)

-- ---- run SESSION N, of 1 to 1,000,000 steps
abbrev pub run_from : Option ℕ → Token → Result Order Kind
run_from None steps = Err Kind.Unknown
run_from (Some s) steps = if is_within 1 max_steps steps then Ok (Order.Run s (number_up_to max_steps steps)) else Err Kind.Number

abbrev pub run_of : List SessionDef → List Token → Result Order Kind
run_of ss (first ∷ name ∷ steps ∷ []) =
    if is_a_word name && is_a_number steps then run_from (session_at ss (word_of name)) steps else Err Kind.Words
run_of ss _ = Err Kind.Words

-- ---- kill SESSION
abbrev pub kill_from : Option ℕ → Result Order Kind
kill_from None = Err Kind.Unknown
kill_from (Some s) = Ok (Order.Kill s)

abbrev pub kill_of : List SessionDef → List Token → Result Order Kind
kill_of ss (first ∷ name ∷ []) = if is_a_word name then kill_from (session_at ss (word_of name)) else Err Kind.Words
kill_of ss _ = Err Kind.Words

-- ---- evict ENTITY ID, of a cached entity
abbrev pub evicted : Result Key Kind → Result Order Kind
evicted (Err k) = Err k
evicted (Ok key) = Ok (Order.Evict key)

-- an uncached entity is as unknown here as one that isn't declared
abbrev pub evict_from : List EntityDef → Token → Token → Option ℕ → Result Order Kind
evict_from m name id None = Err Kind.Unknown
evict_from m name id (Some e) = if is_cached_in m e then evicted (key_of m name id) else Err Kind.Unknown

abbrev pub evict_parts : List EntityDef → Token → Token → Result Order Kind
evict_parts m name id = evict_from m name id (entity_at m (word_of name))

abbrev pub evict_of : List EntityDef → List Token → Result Order Kind
evict_of m (first ∷ name ∷ id ∷ []) = if is_key name id then evict_parts m name id else Err Kind.Words
evict_of m _ = Err Kind.Words

-- ---- restart
abbrev pub restart_of : List Token → Result Order Kind
restart_of (first ∷ []) = Ok Order.Restart
restart_of _ = Err Kind.Words

-- the order that a line is, by its first word
abbrev pub order_of : List EntityDef → List SessionDef → List Token → Result Order Kind
order_of m ss ts =
    if begins (codes "run") ts then run_of ss ts
    else (if begins (codes "kill") ts then kill_of ss ts
    else (if begins (codes "evict") ts then evict_of m ts
    else (if begins (codes "restart") ts then restart_of ts else Err Kind.Line)))
