-- A statement lists a query that is there, and an order evicts a row of a cached entity.
use Rattle.std.proofs.Common.{◌≡◌, ℕ, Bool, true, false, cond, ◌&&◌, ◌==◌, nat_lt, nat_le, List, [], ◌∷◌, length, Option, Some, None, codes, bytes_eq, Result, Ok, Err, refl, sym, subst}
use Rattle.hib_base.specs.declared.numbers.Key.{Key}
use Rattle.hib_base.specs.declared.refusals.Kind.{Kind}
use Rattle.hib_base.specs.declared.rows.Cell.{Cell}
use Rattle.hib_base.specs.declared.scripts.ColumnDef.{ColumnDef}
use Rattle.hib_base.specs.declared.scripts.EntityDef.{EntityDef}
use Rattle.hib_base.specs.declared.scripts.Mode.{Mode}
use Rattle.hib_base.specs.declared.scripts.Order.{Order}
use Rattle.hib_base.specs.declared.scripts.SessionDef.{SessionDef}
use Rattle.hib_base.specs.declared.scripts.Statement.{Statement}
use Rattle.hib_base.specs.Scripts.{is_known, is_cached_in, evicts_cached}
use Rattle.hib_base.proofs.Gives.{Gives, gives_cond, Then}
use Rattle.hib_lex.specs.Words.{begins, is_the_word}
use Rattle.hib_lex.specs.declared.lexer.Token.{Token}
use Rattle.hib_mapping.specs.Parts.{is_a_word, is_a_number, word_of, is_within, number_up_to, entity_at}
use Rattle.hib_mapping.proofs.Places.{placed}
use Rattle.hib_statements.specs.Orders.{session_at, run_from, run_of, kill_from, kill_of, evicted, evict_from, evict_parts, evict_of, restart_of, order_of}
use Rattle.hib_statements.specs.Parts.{is_key, size_in, key_in, key_of, cells_of, are_typed, pairs_of}
use Rattle.hib_statements.specs.Statements.{found, find_of, removed, remove_of, fitted, persisted, named_columns, persist_of, set_at, set_from, set_of, query_at, listed, list_of, mode_named, mode_of, alone, plain_of, statement_of}
use Rattle.hib_statements.specs.declared.parts.Pairs.{Pairs}

abbrev Knows : ℕ → Result Statement Kind → Type 0
Knows n x = Gives x (λ t. is_known n t ≡ true)

if_known : (n : ℕ) (b : Bool) (x y : Result Statement Kind) → Knows n x → Knows n y → Knows n (cond b x y)
if_known n b x y f g = gives_cond b x y (λ t. is_known n t ≡ true) (λ _. f) (λ _. g)

-- ---- statements
found_known : (n : ℕ) (k : Result Key Kind) → Knows n (found k)
found_known n (Ok k) = refl
found_known n (Err e) = tt

removed_known : (n : ℕ) (k : Result Key Kind) → Knows n (removed k)
removed_known n (Ok k) = refl
removed_known n (Err e) = tt

find_known : (n : ℕ) (m : List EntityDef) (ts : List Token) → Knows n (find_of m ts)
find_known n m (a ∷ name ∷ id ∷ []) = if_known n (is_key name id) (found (key_of m name id)) (Err Kind.Words) (found_known n (key_of m name id)) tt
find_known n m _ = tt

remove_known : (n : ℕ) (m : List EntityDef) (ts : List Token) → Knows n (remove_of m ts)
remove_known n m (a ∷ name ∷ id ∷ []) = if_known n (is_key name id) (removed (key_of m name id)) (Err Kind.Words) (removed_known n (key_of m name id)) tt
remove_known n m _ = tt

fitted_known : (n : ℕ) (ds : List ColumnDef) (k : Key) (cs : List Cell) → Knows n (fitted ds k cs)
fitted_known n ds k cs =
    if_known n (length ds == length cs) (cond (are_typed ds cs) (Ok (Statement.Persist k cs)) (Err Kind.CellType)) (Err Kind.Cells)
    (if_known n (are_typed ds cs) (Ok (Statement.Persist k cs)) (Err Kind.CellType) refl tt) tt

persisted_known : (n : ℕ) (ds : List ColumnDef) (k : Result Key Kind) (cs : Option (List Cell)) → Knows n (persisted ds k cs)
persisted_known n ds k None = tt
persisted_known n ds (Err e) (Some cs) = tt
persisted_known n ds (Ok k) (Some cs) = fitted_known n ds k cs

persist_known : (n : ℕ) (m : List EntityDef) (ts : List Token) → Knows n (persist_of m ts)
persist_known n m (a ∷ name ∷ id ∷ cells) =
    if_known n (is_key name id) (persisted (named_columns m name) (key_of m name id) (cells_of cells)) (Err Kind.Words)
    (persisted_known n (named_columns m name) (key_of m name id) (cells_of cells)) tt
persist_known n m _ = tt

set_at_known : (n : ℕ) (k : Result Key Kind) (p : Pairs) → Knows n (set_at k p)
set_at_known n (Err e) p = tt
set_at_known n (Ok k) p = if_known n p.mistyped (Err Kind.CellType) (Ok (Statement.Set k p.sets)) tt refl

set_from_known : (n : ℕ) (k : Result Key Kind) (p : Option Pairs) → Knows n (set_from k p)
set_from_known n k None = tt
set_from_known n k (Some p) =
    if_known n p.taken (Err Kind.Taken) (cond p.unknown (Err Kind.Unknown) (set_at k p)) tt (if_known n p.unknown (Err Kind.Unknown) (set_at k p) tt (set_at_known n k p))

set_known : (n : ℕ) (m : List EntityDef) (ts : List Token) → Knows n (set_of m ts)
set_known n m (a ∷ name ∷ id ∷ pairs) =
    if_known n (is_key name id) (set_from (key_of m name id) (pairs_of (named_columns m name) pairs)) (Err Kind.Words)
    (set_from_known n (key_of m name id) (pairs_of (named_columns m name) pairs)) tt
set_known n m _ = tt

listed_known : (n : ℕ) (q : Option ℕ) → Then q (λ i. nat_lt i n ≡ true) → Knows n (listed q)
listed_known n None h = tt
listed_known n (Some q) h = h

list_known : (names : List (List ℕ)) (ts : List Token) → Knows (length names) (list_of names ts)
list_known names (a ∷ name ∷ []) =
    if_known (length names) (is_a_word name) (listed (query_at names (word_of name))) (Err Kind.Words)
    (listed_known (length names) (query_at names (word_of name)) (placed (λ v. bytes_eq v (word_of name)) names)) tt
list_known names _ = tt

mode_named_known : (n : ℕ) (t : Token) → Knows n (mode_named t)
mode_named_known n t =
    let to_put : Result Statement Kind = cond (is_the_word (codes "put") t) (Ok (Statement.Mode Mode.Put)) (Err Kind.Unknown) in
    let to_get : Result Statement Kind = cond (is_the_word (codes "get") t) (Ok (Statement.Mode Mode.Get)) to_put in
    let to_ignore : Result Statement Kind = cond (is_the_word (codes "ignore") t) (Ok (Statement.Mode Mode.Ignore)) to_get in
    if_known n (is_the_word (codes "normal") t) (Ok (Statement.Mode Mode.Normal)) to_ignore refl
    (if_known n (is_the_word (codes "ignore") t) (Ok (Statement.Mode Mode.Ignore)) to_get refl
    (if_known n (is_the_word (codes "get") t) (Ok (Statement.Mode Mode.Get)) to_put refl
    (if_known n (is_the_word (codes "put") t) (Ok (Statement.Mode Mode.Put)) (Err Kind.Unknown) refl tt)))

mode_known : (n : ℕ) (ts : List Token) → Knows n (mode_of ts)
mode_known n (a ∷ mode ∷ []) = if_known n (is_a_word mode) (mode_named mode) (Err Kind.Words) (mode_named_known n mode) tt
mode_known n _ = tt

alone_known : (n : ℕ) (s : Statement) (ts : List Token) → is_known n s ≡ true → Knows n (alone s ts)
alone_known n s (a ∷ []) h = h
alone_known n s _ h = tt

plain_known : (m : List EntityDef) (names : List (List ℕ)) (ts : List Token) → Knows (length names) (plain_of m names ts)
plain_known m names ts =
    let n : ℕ = length names in
    let to_rollback : Result Statement Kind = cond (begins (codes "rollback") ts) (alone Statement.Rollback ts) (Err Kind.Line) in
    let to_commit : Result Statement Kind = cond (begins (codes "commit") ts) (alone Statement.Commit ts) to_rollback in
    let to_clear : Result Statement Kind = cond (begins (codes "clear") ts) (alone Statement.Clear ts) to_commit in
    let to_flush : Result Statement Kind = cond (begins (codes "flush") ts) (alone Statement.Flush ts) to_clear in
    let to_mode : Result Statement Kind = cond (begins (codes "mode") ts) (mode_of ts) to_flush in
    let to_list : Result Statement Kind = cond (begins (codes "list") ts) (list_of names ts) to_mode in
    let to_remove : Result Statement Kind = cond (begins (codes "remove") ts) (remove_of m ts) to_list in
    if_known n (begins (codes "find") ts) (find_of m ts) to_remove (find_known n m ts)
    (if_known n (begins (codes "remove") ts) (remove_of m ts) to_list (remove_known n m ts)
    (if_known n (begins (codes "list") ts) (list_of names ts) to_mode (list_known names ts)
    (if_known n (begins (codes "mode") ts) (mode_of ts) to_flush (mode_known n ts)
    (if_known n (begins (codes "flush") ts) (alone Statement.Flush ts) to_clear (alone_known n Statement.Flush ts refl)
    (if_known n (begins (codes "clear") ts) (alone Statement.Clear ts) to_commit (alone_known n Statement.Clear ts refl)
    (if_known n (begins (codes "commit") ts) (alone Statement.Commit ts) to_rollback (alone_known n Statement.Commit ts refl)
    (if_known n (begins (codes "rollback") ts) (alone Statement.Rollback ts) (Err Kind.Line) (alone_known n Statement.Rollback ts refl) tt)))))))

pub statement_known : (m : List EntityDef) (names : List (List ℕ)) (ts : List Token) → Gives (statement_of m names ts) (λ t. is_known (length names) t ≡ true)
statement_known m names ts =
    if_known (length names) (begins (codes "persist") ts) (persist_of m ts) (cond (begins (codes "set") ts) (set_of m ts) (plain_of m names ts))
    (persist_known (length names) m ts)
    (if_known (length names) (begins (codes "set") ts) (set_of m ts) (plain_of m names ts) (set_known (length names) m ts) (plain_known m names ts))

-- ---- orders
abbrev Caches : List EntityDef → Result Order Kind → Type 0
Caches m x = Gives x (λ o. evicts_cached m o ≡ true)

if_cached : (m : List EntityDef) (b : Bool) (x y : Result Order Kind) → Caches m x → Caches m y → Caches m (cond b x y)
if_cached m b x y f g = gives_cond b x y (λ o. evicts_cached m o ≡ true) (λ _. f) (λ _. g)

run_from_cached : (m : List EntityDef) (s : Option ℕ) (t : Token) → Caches m (run_from s t)
run_from_cached m None t = tt
run_from_cached m (Some s) t = if_cached m (is_within 1 1000000 t) (Ok (Order.Run s (number_up_to 1000000 t))) (Err Kind.Number) refl tt

run_cached : (m : List EntityDef) (ss : List SessionDef) (ts : List Token) → Caches m (run_of ss ts)
run_cached m ss (a ∷ name ∷ steps ∷ []) =
    if_cached m (is_a_word name && is_a_number steps) (run_from (session_at ss (word_of name)) steps) (Err Kind.Words) (run_from_cached m (session_at ss (word_of name)) steps) tt
run_cached m ss _ = tt

kill_from_cached : (m : List EntityDef) (s : Option ℕ) → Caches m (kill_from s)
kill_from_cached m None = tt
kill_from_cached m (Some s) = refl

kill_cached : (m : List EntityDef) (ss : List SessionDef) (ts : List Token) → Caches m (kill_of ss ts)
kill_cached m ss (a ∷ name ∷ []) = if_cached m (is_a_word name) (kill_from (session_at ss (word_of name))) (Err Kind.Words) (kill_from_cached m (session_at ss (word_of name))) tt
kill_cached m ss _ = tt

keyed_cached : (m : List EntityDef) (e n : ℕ) → is_cached_in m e ≡ true → Caches m (evicted (key_in (Some e) n))
keyed_cached m e n h = by_size (nat_le 1 n)
  where
    by_size : (b : Bool) → Caches m (evicted (cond b (Ok (record { entity = e; id = n })) (Err Kind.Number)))
    by_size true = h
    by_size false = tt

evict_from_cached : (m : List EntityDef) (name id : Token) (e : Option ℕ) → entity_at m (word_of name) ≡ e → Caches m (evict_from m name id e)
evict_from_cached m name id None p = tt
evict_from_cached m name id (Some e) p =
    gives_cond (is_cached_in m e) (evicted (key_of m name id)) (Err Kind.Unknown) (λ o. evicts_cached m o ≡ true)
    (λ h. subst (λ z. Caches m (evicted (key_in z (size_in id)))) (sym p) (keyed_cached m e (size_in id) h)) (λ _. tt)

evict_cached : (m : List EntityDef) (ts : List Token) → Caches m (evict_of m ts)
evict_cached m (a ∷ name ∷ id ∷ []) =
    if_cached m (is_key name id) (evict_parts m name id) (Err Kind.Words) (evict_from_cached m name id (entity_at m (word_of name)) refl) tt
evict_cached m _ = tt

restart_cached : (m : List EntityDef) (ts : List Token) → Caches m (restart_of ts)
restart_cached m (a ∷ []) = refl
restart_cached m _ = tt

pub order_cached : (m : List EntityDef) (ss : List SessionDef) (ts : List Token) → Gives (order_of m ss ts) (λ o. evicts_cached m o ≡ true)
order_cached m ss ts =
    let to_restart : Result Order Kind = cond (begins (codes "restart") ts) (restart_of ts) (Err Kind.Line) in
    let to_evict : Result Order Kind = cond (begins (codes "evict") ts) (evict_of m ts) to_restart in
    let to_kill : Result Order Kind = cond (begins (codes "kill") ts) (kill_of ss ts) to_evict in
    if_cached m (begins (codes "run") ts) (run_of ss ts) to_kill (run_cached m ss ts)
    (if_cached m (begins (codes "kill") ts) (kill_of ss ts) to_evict (kill_cached m ss ts)
    (if_cached m (begins (codes "evict") ts) (evict_of m ts) to_restart (evict_cached m ts)
    (if_cached m (begins (codes "restart") ts) (restart_of ts) (Err Kind.Line) (restart_cached m ts) tt)))
