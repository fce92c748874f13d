-- A statement fits the mapping, and an order names a session that is there and a number that it may have.
use Rattle.std.proofs.Common.{◌≡◌, ℕ, ◌<◌, Bool, true, false, cond, ◌&&◌, ◌==◌, nat_lt, nat_le, List, [], ◌∷◌, length, pos, Option, Some, None, codes, bytes_eq, Result, Ok, Err, refl, sym, subst}
use Rattle.std.specs.Prelude.{option_and_then, position}
use Rattle.std.proofs.lemmas.Bool.{and_parts, and_from, lt-ltb, false≢true}
use Rattle.hib_base.specs.Fits.{is_identifier, are_of_types, entity_columns, is_key_in, are_sets, fits_statement}
use Rattle.hib_base.specs.Scripts.{is_cached_in}
use Rattle.hib_base.specs.Valid.{is_order_in}
use Rattle.hib_base.specs.declared.numbers.Key.{Key}
use Rattle.hib_base.specs.declared.refusals.Kind.{Kind}
use Rattle.hib_base.specs.declared.rows.Cell.{Cell}
use Rattle.hib_base.specs.declared.scripts.ColumnDef.{ColumnDef}
use Rattle.hib_base.specs.declared.scripts.EntityDef.{EntityDef}
use Rattle.hib_base.specs.declared.scripts.Mode.{Mode}
use Rattle.hib_base.specs.declared.scripts.Order.{Order}
use Rattle.hib_base.specs.declared.scripts.SessionDef.{SessionDef}
use Rattle.hib_base.specs.declared.scripts.Statement.{Statement}
use Rattle.hib_base.proofs.Gives.{Gives, gives_cond, Then}
use Rattle.hib_base.proofs.Lists.{position_below}
use Rattle.hib_lex.specs.Words.{begins, is_the_word}
use Rattle.hib_lex.specs.declared.lexer.Token.{Token}
use Rattle.hib_lex.proofs.Lexed.{is_lexed, are_lexed}
use Rattle.hib_mapping.specs.Parts.{is_a_word, is_a_number, word_of, is_within, number_up_to, entity_at}
use Rattle.hib_mapping.proofs.Places.{placed}
use Rattle.hib_columns.specs.Columns.{columns_of}
use Rattle.hib_statements.specs.Orders.{small32, session_at, run_from, run_of, kill_from, kill_of, evicted, evict_from, evict_parts, evict_of, restart_of, order_of}
use Rattle.hib_statements.specs.Parts.{is_key, size_in, key_in, key_of, cells_of, are_typed, pairs_of}
use Rattle.hib_statements.specs.Statements.{found, find_of, removed, remove_of, fitted, persisted, named_columns, persist_of, set_at, set_from, set_of, listed, list_of, query_at, mode_named, mode_of, alone, plain_of, statement_of}
use Rattle.hib_statements.specs.declared.parts.Pairs.{Pairs}
use Rattle.hib_statements.proofs.Fitting.{are_cells, cells_sound, typed_all, size_small}
use Rattle.hib_statements.proofs.Sets.{pairs_kept}

abbrev Fits : List EntityDef → Result Statement Kind → Type 0
Fits m x = Gives x (λ t. fits_statement m t ≡ true)

if_fits : (m : List EntityDef) (b : Bool) (x y : Result Statement Kind) → Fits m x → Fits m y → Fits m (cond b x y)
if_fits m b x y f g = gives_cond b x y (λ t. fits_statement m t ≡ true) (λ _. f) (λ _. g)

-- ---- keys
-- of the entity that a name stands for
abbrev IsKeyOf : List EntityDef → Option ℕ → Key → Type 0
IsKeyOf m e k = (is_key_in m k ≡ true) × (e ≡ Some k.entity)

key_found : (m : List EntityDef) (e : Option ℕ) (n : ℕ) → Then e (λ i. nat_lt i (length m) ≡ true) → nat_lt n 9223372036854775808 ≡ true → Gives (key_in e n) (IsKeyOf m e)
key_found m None n h s = tt
key_found m (Some e) n h s =
    gives_cond (nat_le 1 n) (Ok (record { entity = e; id = n })) (Err Kind.Number) (IsKeyOf m (Some e))
    (λ l. (and_from (nat_lt e (length m)) (nat_le 1 n && nat_lt n 9223372036854775808) h (and_from (nat_le 1 n) (nat_lt n 9223372036854775808) l s), refl)) (λ _. tt)

key_fits : (m : List EntityDef) (name id : Token) → is_lexed id ≡ true → Gives (key_of m name id) (IsKeyOf m (entity_at m (word_of name)))
key_fits m name id l = key_found m (entity_at m (word_of name)) (size_in id) (placed (λ e. bytes_eq e.name (word_of name)) m) (size_small id l)

third_lexed : (a b c : Token) (ts : List Token) → are_lexed (a ∷ b ∷ c ∷ ts) ≡ true → (is_lexed c ≡ true) × (are_lexed ts ≡ true)
third_lexed a b c ts l = and_parts (is_lexed c) (are_lexed ts) (and_parts (is_lexed b) (are_lexed (c ∷ ts)) (and_parts (is_lexed a) (are_lexed (b ∷ c ∷ ts)) l).1).1

-- ---- statements
found_fits : (m : List EntityDef) (e : Option ℕ) (k : Result Key Kind) → Gives k (IsKeyOf m e) → Fits m (found k)
found_fits m e (Ok k) g = g.0
found_fits m e (Err x) g = tt

removed_fits : (m : List EntityDef) (e : Option ℕ) (k : Result Key Kind) → Gives k (IsKeyOf m e) → Fits m (removed k)
removed_fits m e (Ok k) g = g.0
removed_fits m e (Err x) g = tt

find_fits : (m : List EntityDef) (ts : List Token) → are_lexed ts ≡ true → Fits m (find_of m ts)
find_fits m (a ∷ name ∷ id ∷ []) l =
    if_fits m (is_key name id) (found (key_of m name id)) (Err Kind.Words) (found_fits m (entity_at m (word_of name)) (key_of m name id) (key_fits m name id (third_lexed a name id [] l).0)) tt
find_fits m _ l = tt

remove_fits : (m : List EntityDef) (ts : List Token) → are_lexed ts ≡ true → Fits m (remove_of m ts)
remove_fits m (a ∷ name ∷ id ∷ []) l =
    if_fits m (is_key name id) (removed (key_of m name id)) (Err Kind.Words) (removed_fits m (entity_at m (word_of name)) (key_of m name id) (key_fits m name id (third_lexed a name id [] l).0)) tt
remove_fits m _ l = tt

-- the columns of a key's entity
same_columns : (m : List EntityDef) (e : Option ℕ) (n : ℕ) → e ≡ Some n → columns_of m e ≡ entity_columns m n
same_columns m e n h = subst (λ o. columns_of m o ≡ entity_columns m n) (sym h) refl

fitted_fits : (m : List EntityDef) (e : Option ℕ) (k : Key) (cs : List Cell) → IsKeyOf m e k → are_cells cs ≡ true → Fits m (fitted (columns_of m e) k cs)
fitted_fits m e k cs g i =
    let ds : List ColumnDef = columns_of m e in
    let done : Result Statement Kind = Ok (Statement.Persist k cs) in
    gives_cond (length ds == length cs) (cond (are_typed ds cs) done (Err Kind.CellType)) (Err Kind.Cells) (λ t. fits_statement m t ≡ true)
    (λ n. gives_cond (are_typed ds cs) done (Err Kind.CellType) (λ t. fits_statement m t ≡ true)
    (λ a. and_from (is_key_in m k) (are_of_types (entity_columns m k.entity) cs) g.0 (subst (λ (xs : List ColumnDef). are_of_types xs cs ≡ true) (same_columns m e k.entity g.1) (typed_all ds cs n a i)))
    (λ _. tt)) (λ _. tt)

persisted_fits : (m : List EntityDef) (e : Option ℕ) (k : Result Key Kind) (cs : Option (List Cell)) → Gives k (IsKeyOf m e) → Then cs (λ cs. are_cells cs ≡ true) → Fits m (persisted (columns_of m e) k cs)
persisted_fits m e k None g i = tt
persisted_fits m e (Err x) (Some cs) g i = tt
persisted_fits m e (Ok k) (Some cs) g i = fitted_fits m e k cs g i

persist_fits : (m : List EntityDef) (ts : List Token) → are_lexed ts ≡ true → Fits m (persist_of m ts)
persist_fits m (a ∷ name ∷ id ∷ cells) l =
    let both : (is_lexed id ≡ true) × (are_lexed cells ≡ true) = third_lexed a name id cells l in
    if_fits m (is_key name id) (persisted (named_columns m name) (key_of m name id) (cells_of cells)) (Err Kind.Words)
    (persisted_fits m (entity_at m (word_of name)) (key_of m name id) (cells_of cells) (key_fits m name id both.0) (cells_sound cells both.1)) tt
persist_fits m _ l = tt

abbrev AreSets : List ColumnDef → Pairs → Type 0
AreSets ds p = p.taken ≡ false → p.unknown ≡ false → p.mistyped ≡ false → are_sets ds p.sets ≡ true

set_at_fits : (m : List EntityDef) (e : Option ℕ) (k : Result Key Kind) (p : Pairs) → Gives k (IsKeyOf m e) → (p.mistyped ≡ false → are_sets (columns_of m e) p.sets ≡ true) → Fits m (set_at k p)
set_at_fits m e (Err x) p g s = tt
set_at_fits m e (Ok k) p g s =
    gives_cond p.mistyped (Err Kind.CellType) (Ok (Statement.Set k p.sets)) (λ t. fits_statement m t ≡ true) (λ _. tt)
    (λ h. and_from (is_key_in m k) (are_sets (entity_columns m k.entity) p.sets) g.0 (subst (λ (xs : List ColumnDef). are_sets xs p.sets ≡ true) (same_columns m e k.entity g.1) (s h)))

set_from_fits : (m : List EntityDef) (e : Option ℕ) (k : Result Key Kind) (p : Option Pairs) → Gives k (IsKeyOf m e) → Then p (AreSets (columns_of m e)) → Fits m (set_from k p)
set_from_fits m e k None g s = tt
set_from_fits m e k (Some p) g s =
    gives_cond p.taken (Err Kind.Taken) (cond p.unknown (Err Kind.Unknown) (set_at k p)) (λ t. fits_statement m t ≡ true) (λ _. tt)
    (λ t. gives_cond p.unknown (Err Kind.Unknown) (set_at k p) (λ t. fits_statement m t ≡ true) (λ _. tt) (λ u. set_at_fits m e k p g (λ y. s t u y)))

set_fits : (m : List EntityDef) (ts : List Token) → are_lexed ts ≡ true → Fits m (set_of m ts)
set_fits m (a ∷ name ∷ id ∷ pairs) l =
    let both : (is_lexed id ≡ true) × (are_lexed pairs ≡ true) = third_lexed a name id pairs l in
    if_fits m (is_key name id) (set_from (key_of m name id) (pairs_of (named_columns m name) pairs)) (Err Kind.Words)
    (set_from_fits m (entity_at m (word_of name)) (key_of m name id) (pairs_of (named_columns m name) pairs) (key_fits m name id both.0) (pairs_kept (named_columns m name) pairs both.1)) tt
set_fits m _ l = tt

listed_fits : (m : List EntityDef) (q : Option ℕ) → Fits m (listed q)
listed_fits m None = tt
listed_fits m (Some q) = refl

list_fits : (m : List EntityDef) (names : List (List ℕ)) (ts : List Token) → Fits m (list_of names ts)
list_fits m names (a ∷ name ∷ []) = if_fits m (is_a_word name) (listed (query_at names (word_of name))) (Err Kind.Words) (listed_fits m (query_at names (word_of name))) tt
list_fits m names _ = tt

mode_named_fits : (m : List EntityDef) (t : Token) → Fits m (mode_named t)
mode_named_fits m t =
    let to_put : Result Statement Kind = cond (is_the_word (codes "put") t) (Ok (Statement.Mode Mode.Put)) (Err Kind.Unknown) in
    let to_get : Result Statement Kind = cond (is_the_word (codes "get") t) (Ok (Statement.Mode Mode.Get)) to_put in
    let to_ignore : Result Statement Kind = cond (is_the_word (codes "ignore") t) (Ok (Statement.Mode Mode.Ignore)) to_get in
    if_fits m (is_the_word (codes "normal") t) (Ok (Statement.Mode Mode.Normal)) to_ignore refl
    (if_fits m (is_the_word (codes "ignore") t) (Ok (Statement.Mode Mode.Ignore)) to_get refl
    (if_fits m (is_the_word (codes "get") t) (Ok (Statement.Mode Mode.Get)) to_put refl
    (if_fits m (is_the_word (codes "put") t) (Ok (Statement.Mode Mode.Put)) (Err Kind.Unknown) refl tt)))

mode_fits : (m : List EntityDef) (ts : List Token) → Fits m (mode_of ts)
mode_fits m (a ∷ mode ∷ []) = if_fits m (is_a_word mode) (mode_named mode) (Err Kind.Words) (mode_named_fits m mode) tt
mode_fits m _ = tt

alone_fits : (m : List EntityDef) (s : Statement) (ts : List Token) → fits_statement m s ≡ true → Fits m (alone s ts)
alone_fits m s (a ∷ []) h = h
alone_fits m s _ h = tt

plain_fits : (m : List EntityDef) (names : List (List ℕ)) (ts : List Token) → are_lexed ts ≡ true → Fits m (plain_of m names ts)
plain_fits m names ts l =
    let to_rollback : Result Statement Kind = cond (begins (codes "rollback") ts) (alone Statement.Rollback ts) (Err Kind.Line) in
    let to_commit : Result Statement Kind = cond (begins (codes "commit") ts) (alone Statement.Commit ts) to_rollback in
    let to_clear : Result Statement Kind = cond (begins (codes "clear") ts) (alone Statement.Clear ts) to_commit in
    let to_flush : Result Statement Kind = cond (begins (codes "flush") ts) (alone Statement.Flush ts) to_clear in
    let to_mode : Result Statement Kind = cond (begins (codes "mode") ts) (mode_of ts) to_flush in
    let to_list : Result Statement Kind = cond (begins (codes "list") ts) (list_of names ts) to_mode in
    let to_remove : Result Statement Kind = cond (begins (codes "remove") ts) (remove_of m ts) to_list in
    if_fits m (begins (codes "find") ts) (find_of m ts) to_remove (find_fits m ts l)
    (if_fits m (begins (codes "remove") ts) (remove_of m ts) to_list (remove_fits m ts l)
    (if_fits m (begins (codes "list") ts) (list_of names ts) to_mode (list_fits m names ts)
    (if_fits m (begins (codes "mode") ts) (mode_of ts) to_flush (mode_fits m ts)
    (if_fits m (begins (codes "flush") ts) (alone Statement.Flush ts) to_clear (alone_fits m Statement.Flush ts refl)
    (if_fits m (begins (codes "clear") ts) (alone Statement.Clear ts) to_commit (alone_fits m Statement.Clear ts refl)
    (if_fits m (begins (codes "commit") ts) (alone Statement.Commit ts) to_rollback (alone_fits m Statement.Commit ts refl)
    (if_fits m (begins (codes "rollback") ts) (alone Statement.Rollback ts) (Err Kind.Line) (alone_fits m Statement.Rollback ts refl) tt)))))))

pub statement_fits : (m : List EntityDef) (names : List (List ℕ)) (ts : List Token) → are_lexed ts ≡ true → Gives (statement_of m names ts) (λ t. fits_statement m t ≡ true)
statement_fits m names ts l =
    if_fits m (begins (codes "persist") ts) (persist_of m ts) (cond (begins (codes "set") ts) (set_of m ts) (plain_of m names ts))
    (persist_fits m ts l)
    (if_fits m (begins (codes "set") ts) (set_of m ts) (plain_of m names ts) (set_fits m ts l) (plain_fits m names ts l))

-- ---- orders
abbrev Orders : ℕ → Result Order Kind → Type 0
Orders n x = Gives x (λ o. is_order_in n o ≡ true)

if_orders : (n : ℕ) (b : Bool) (x y : Result Order Kind) → Orders n x → Orders n y → Orders n (cond b x y)
if_orders n b x y f g = gives_cond b x y (λ o. is_order_in n o ≡ true) (λ _. f) (λ _. g)

small32_below : (n i : ℕ) → i < n → Then (small32 i) (λ j. nat_lt j n ≡ true)
small32_below n i h = by_test (nat_lt i 4294967296)
  where
    by_test : (b : Bool) → Then (cond b (Some i) None) (λ j. nat_lt j n ≡ true)
    by_test true = lt-ltb i n h
    by_test false = tt

session_below : (ss : List SessionDef) (w : List ℕ) → Then (session_at ss w) (λ s. nat_lt s (length ss) ≡ true)
session_below ss w = by_place (position (λ s. bytes_eq s.name w) ss) refl
  where
    by_place : (o : Option ℕ) → position (λ (s : SessionDef). bytes_eq s.name w) ss ≡ o → Then (option_and_then small32 o) (λ s. nat_lt s (length ss) ≡ true)
    by_place None e = tt
    by_place (Some i) e = small32_below (length ss) i (position_below (λ (s : SessionDef). bytes_eq s.name w) ss i e)

steps_within : (most : ℕ) (t : Token) → is_within 1 most t ≡ true → (nat_le 1 (number_up_to most t) && nat_le (number_up_to most t) most) ≡ true
steps_within most (Token.Number (pos n)) h =
    let both : (nat_le 1 n ≡ true) × (nat_le n most ≡ true) = and_parts (nat_le 1 n) (nat_le n most) h in
    subst (λ b. (nat_le 1 (cond b n 0) && nat_le (cond b n 0) most) ≡ true) (sym both.1) h
steps_within most _ h = absurd (false≢true h)

run_ordered : (n : ℕ) (s : Option ℕ) (t : Token) → Then s (λ s. nat_lt s n ≡ true) → Orders n (run_from s t)
run_ordered n None t h = tt
run_ordered n (Some s) t h =
    gives_cond (is_within 1 1000000 t) (Ok (Order.Run s (number_up_to 1000000 t))) (Err Kind.Number) (λ o. is_order_in n o ≡ true)
    (λ w. and_from (nat_lt s n) (nat_le 1 (number_up_to 1000000 t) && nat_le (number_up_to 1000000 t) 1000000) h (steps_within 1000000 t w)) (λ _. tt)

run_orders : (ss : List SessionDef) (ts : List Token) → Orders (length ss) (run_of ss ts)
run_orders ss (a ∷ name ∷ steps ∷ []) =
    if_orders (length ss) (is_a_word name && is_a_number steps) (run_from (session_at ss (word_of name)) steps) (Err Kind.Words) (run_ordered (length ss) (session_at ss (word_of name)) steps (session_below ss (word_of name))) tt
run_orders ss _ = tt

kill_ordered : (n : ℕ) (s : Option ℕ) → Then s (λ s. nat_lt s n ≡ true) → Orders n (kill_from s)
kill_ordered n None h = tt
kill_ordered n (Some s) h = h

kill_orders : (ss : List SessionDef) (ts : List Token) → Orders (length ss) (kill_of ss ts)
kill_orders ss (a ∷ name ∷ []) =
    if_orders (length ss) (is_a_word name) (kill_from (session_at ss (word_of name))) (Err Kind.Words) (kill_ordered (length ss) (session_at ss (word_of name)) (session_below ss (word_of name))) tt
kill_orders ss _ = tt

evicted_orders : (n : ℕ) (m : List EntityDef) (e : Option ℕ) (k : Result Key Kind) → Gives k (IsKeyOf m e) → Orders n (evicted k)
evicted_orders n m e (Err x) g = tt
evicted_orders n m e (Ok k) g = (and_parts (nat_lt k.entity (length m)) (is_identifier k.id) g.0).1

evict_ordered : (n : ℕ) (m : List EntityDef) (name id : Token) (e : Option ℕ) → is_lexed id ≡ true → Orders n (evict_from m name id e)
evict_ordered n m name id None l = tt
evict_ordered n m name id (Some e) l =
    if_orders n (is_cached_in m e) (evicted (key_of m name id)) (Err Kind.Unknown) (evicted_orders n m (entity_at m (word_of name)) (key_of m name id) (key_fits m name id l)) tt

evict_orders : (n : ℕ) (m : List EntityDef) (ts : List Token) → are_lexed ts ≡ true → Orders n (evict_of m ts)
evict_orders n m (a ∷ name ∷ id ∷ []) l =
    if_orders n (is_key name id) (evict_parts m name id) (Err Kind.Words) (evict_ordered n m name id (entity_at m (word_of name)) (third_lexed a name id [] l).0) tt
evict_orders n m _ l = tt

restart_orders : (n : ℕ) (ts : List Token) → Orders n (restart_of ts)
restart_orders n (a ∷ []) = refl
restart_orders n _ = tt

pub order_in : (m : List EntityDef) (ss : List SessionDef) (ts : List Token) → are_lexed ts ≡ true → Gives (order_of m ss ts) (λ o. is_order_in (length ss) o ≡ true)
order_in m ss ts l =
    let n : ℕ = length ss in
    let to_restart : Result Order Kind = cond (begins (codes "restart") ts) (restart_of ts) (Err Kind.Line) in
    let to_evict : Result Order Kind = cond (begins (codes "evict") ts) (evict_of m ts) to_restart in
    let to_kill : Result Order Kind = cond (begins (codes "kill") ts) (kill_of ss ts) to_evict in
    if_orders n (begins (codes "run") ts) (run_of ss ts) to_kill (run_orders ss ts)
    (if_orders n (begins (codes "kill") ts) (kill_of ss ts) to_evict (kill_orders ss ts)
    (if_orders n (begins (codes "evict") ts) (evict_of m ts) to_restart (evict_orders n m ts l)
    (if_orders n (begins (codes "restart") ts) (restart_of ts) (Err Kind.Line) (restart_orders n ts) tt)))
