-- Made scripts are readable.
use Rattle.std.proofs.Common.{◌≡◌, ℕ, ◌+◌, ◌*◌, ◌≤◌, ◌<◌, ◌^◌, Bool, true, not, cond, ◌&&◌, ◌==◌, nat_le, nat_lt, List, [], ◌∷◌, ◌++◌, length, map, flat_map, refl, arith}
use Rattle.std.specs.List.{list_all}
use Rattle.std.proofs.lemmas.Bool.{and_parts, and_from, cond_both, lt-ltb, le-leb, leb-true}
use Rattle.hib_base.specs.declared.scripts.Statement.{Statement}
use Rattle.hib_base.specs.declared.scripts.SessionDef.{SessionDef}
use Rattle.hib_base.specs.declared.scripts.Order.{Order}
use Rattle.hib_base.specs.declared.scripts.Script.{Script}
use Rattle.hib_base.specs.Scripts.{ends}
use Rattle.hib_base.specs.Valid.{is_valid}
use Rattle.hib_base.proofs.Lists.{all_weaker}
use Rattle.hib_base.proofs.Valid.{Rules, rules}
use Rattle.hib_lex.specs.declared.lexer.Token.{Token}
use Rattle.hib_make.specs.Draws.{drawn, after_draw, seeded, many}
use Rattle.hib_make.specs.Entities.{book, customer}
use Rattle.hib_make.specs.Rows.{author_row, book_row, customer_row, shelf_row, made_rows}
use Rattle.hib_make.specs.Sessions.{Statements, one_found, stock_set, credit_set, order_placed, one_listed, full_set, step_by, step, ending, session, made_sessions, run, made_schedule}
use Rattle.hib_make.specs.Made.{script, made}
use Rattle.hib_make.proofs.Rules.{drawn_below, all_both, many_all}
use Rattle.hib_make.proofs.RowRules.{keeping}
use Rattle.hib_make.proofs.Valid.{made_valid}
use Rattle.hib_print.specs.Lines as lines
use Rattle.hib_print.specs.Printed.{head_lines, script_lines}
use Rattle.hib_print.specs.Spelling.{text_of}
use Rattle.hib_reads_back.specs.Readable.{is_wide, is_short, is_readable}
use Rattle.hib_reads_back.proofs.Scanned.{all_joined}
use Rattle.hib_reads_back.proofs.Short.{most_of, text_short}
use Rattle.hib_reads_back.proofs.Lexed.{line_tokens}
use Rattle.hib_reads_back.proofs.Spelt.{is_worded_line, line_spelt}
use Rattle.hib_reads_back.proofs.Whole.{script_worded}

-- ---- lines whose numbers are small and whose tokens are few
abbrev is_bounded : List Token → Bool
is_bounded ts = list_all is_wide ts && nat_le (most_of ts) 4096

-- such a line is short if it is one
short_from : (ts : List Token) → is_worded_line ts ≡ true → is_bounded ts ≡ true → is_short ts ≡ true
short_from ts h g =
    let parts : (list_all is_wide ts ≡ true) × (nat_le (most_of ts) 4096 ≡ true) = and_parts (list_all is_wide ts) (nat_le (most_of ts) 4096) g in
    let size : length (text_of ts) ≤ most_of ts = text_short true ts (line_tokens ts (line_spelt ts parts.0 h)) in
    let most : most_of ts ≤ 4096 = leb-true (most_of ts) 4096 parts.1 in
    and_from (nat_le (length (text_of ts)) 4096) (list_all is_wide ts) (le-leb (length (text_of ts)) 4096 (omega arith)) parts.0

all_short : (ls : List (List Token)) → list_all is_worded_line ls ≡ true → list_all is_bounded ls ≡ true → list_all is_short ls ≡ true
all_short [] h g = refl
all_short (ts ∷ ls) h g =
    let worded : (is_worded_line ts ≡ true) × (list_all is_worded_line ls ≡ true) = and_parts (is_worded_line ts) (list_all is_worded_line ls) h in
    let bounded : (is_bounded ts ≡ true) × (list_all is_bounded ls ≡ true) = and_parts (is_bounded ts) (list_all is_bounded ls) g in
    and_from (is_short ts) (list_all is_short ls) (short_from ts worded.0 bounded.0) (all_short ls worded.1 bounded.1)

-- ---- rows
wide : (n : ℕ) → n < 1000000 → nat_lt n (2 ^ 63) ≡ true
wide n h = lt-ltb n (2 ^ 63) (omega arith)

author_bounded : (s : Script) (k y : ℕ) → 1 ≤ k → k ≤ 10 → list_all (λ x. is_bounded (lines.row_line s x)) (author_row k y).made ≡ true
author_bounded s k y a b = rw (wide k (omega arith)) refl

book_bounded : (s : Script) (k y : ℕ) → 1 ≤ k → k ≤ 60 → list_all (λ x. is_bounded (lines.row_line s x)) (book_row k y).made ≡ true
book_bounded s k y a b =
    let z : ℕ = after_draw y in
    let w : ℕ = after_draw z in
    rw (wide k (omega arith), wide (1 + drawn 10 y) (omega (arith, drawn_below 10 y)), wide (drawn 50 z) (omega (arith, drawn_below 50 z)), wide (100 + drawn 900 w) (omega (arith, drawn_below 900 w))) refl

customer_bounded : (s : Script) (k y : ℕ) → 1 ≤ k → k ≤ 30 → list_all (λ x. is_bounded (lines.row_line s x)) (customer_row k y).made ≡ true
customer_bounded s k y a b = rw (wide k (omega arith), wide (1000 + drawn 1000 y) (omega (arith, drawn_below 1000 y))) refl

shelf_bounded : (s : Script) (k y : ℕ) → 1 ≤ k → k ≤ 12 → list_all (λ x. is_bounded (lines.row_line s x)) (shelf_row k y).made ≡ true
shelf_bounded s k y a b = rw (wide k (omega arith)) refl

rows_bounded : (s : Script) (x : ℕ) → list_all (λ r. is_bounded (lines.row_line s r)) (made_rows x).made ≡ true
rows_bounded s x = keeping (λ r. is_bounded (lines.row_line s r)) x (author_bounded s) (book_bounded s) (customer_bounded s) (shelf_bounded s)

-- ---- statements
-- such a statement doesn't end its session, and its line is bounded
abbrev is_quiet : Script → Statement → Bool
is_quiet s t = not (ends t) && is_bounded (lines.statement_line s t)

found_quiet : (s : Script) (e n x : ℕ) → 0 < n → n < 1000 → list_all (λ t. is_quiet s t) (one_found e n x).made ≡ true
found_quiet s e n x a b = rw (wide (1 + drawn n x) (omega (arith, drawn_below n x a))) refl

stock_quiet : (s : Script) (x : ℕ) → list_all (λ t. is_quiet s t) (stock_set x).made ≡ true
stock_quiet s x =
    let y : ℕ = after_draw x in
    rw (wide (1 + drawn 60 x) (omega (arith, drawn_below 60 x)), wide (drawn 50 y) (omega (arith, drawn_below 50 y))) refl

credit_quiet : (s : Script) (x : ℕ) → list_all (λ t. is_quiet s t) (credit_set x).made ≡ true
credit_quiet s x =
    let y : ℕ = after_draw x in
    rw (wide (1 + drawn 30 x) (omega (arith, drawn_below 30 x)), wide (1000 + drawn 1000 y) (omega (arith, drawn_below 1000 y))) refl

full_quiet : (s : Script) (x : ℕ) → list_all (λ t. is_quiet s t) (full_set x).made ≡ true
full_quiet s x = rw (wide (1 + drawn 12 x) (omega (arith, drawn_below 12 x))) refl

placed_quiet : (s : Script) (i j x : ℕ) → i < 100 → j < 1000 → list_all (λ t. is_quiet s t) (order_placed i j x).made ≡ true
placed_quiet s i j x a b =
    let y : ℕ = after_draw x in
    let z : ℕ = after_draw y in
    rw (wide (1000 * i + j) (omega arith), wide (1 + drawn 30 x) (omega (arith, drawn_below 30 x)), wide (1 + drawn 60 y) (omega (arith, drawn_below 60 y)), wide (1 + drawn 5 z) (omega (arith, drawn_below 5 z))) refl

by_quiet : (s : Script) (i j d x : ℕ) → i < 100 → j < 1000 → list_all (λ t. is_quiet s t) (step_by i j d x).made ≡ true
by_quiet s i j d x a b =
    let P : Statements → Type 0 = λ r. list_all (λ t. is_quiet s t) r.made ≡ true in
    let full = full_set x in
    let listed = cond (d == 8) (one_listed x) full in
    let placed = cond (d == 7) (order_placed i j x) listed in
    let credit = cond (d == 6) (credit_set x) placed in
    let stock = cond (d == 5) (stock_set x) credit in
    let customers = cond (d == 4) (one_found customer 30 x) stock in
    cond_both (nat_lt d 4) (one_found book 60 x) customers P (λ _. found_quiet s book 60 x (omega arith) (omega arith)) (λ _.
    cond_both (d == 4) (one_found customer 30 x) stock P (λ _. found_quiet s customer 30 x (omega arith) (omega arith)) (λ _.
    cond_both (d == 5) (stock_set x) credit P (λ _. stock_quiet s x) (λ _.
    cond_both (d == 6) (credit_set x) placed P (λ _. credit_quiet s x) (λ _.
    cond_both (d == 7) (order_placed i j x) listed P (λ _. placed_quiet s i j x a b) (λ _.
    cond_both (d == 8) (one_listed x) full P (λ _. refl) (λ _. full_quiet s x))))))

step_quiet : (s : Script) (i j x : ℕ) → i < 100 → j < 1000 → list_all (λ t. is_quiet s t) (step i j x).made ≡ true
unfolding step
step_quiet s i j x a b = by_quiet s i j (drawn 10 x) (after_draw x) a b

steps_quiet : (s : Script) (i c x : ℕ) → i < 100 → c < 6 → list_all (λ t. is_quiet s t) (many (step i) (3 + c) x).made ≡ true
steps_quiet s i c x a b = many_all (λ t. is_quiet s t) (step i) (3 + c) x (λ k y low high. step_quiet s i k y a (omega (arith, high)))

-- ---- sessions
quiet_bounded : (s : Script) (t : Statement) → is_quiet s t ≡ true → is_bounded (lines.statement_line s t) ≡ true
quiet_bounded s t h = (and_parts (not (ends t)) (is_bounded (lines.statement_line s t)) h).1

ending_bounded : (s : Script) (d : ℕ) → list_all (λ t. is_bounded (lines.statement_line s t)) (ending d ∷ []) ≡ true
ending_bounded s d = cond_both (d == 0) Statement.Rollback Statement.Commit (λ t. list_all (λ u. is_bounded (lines.statement_line s u)) (t ∷ []) ≡ true) (λ _. refl) (λ _. refl)

-- a session whose statements are bounded
abbrev is_good : Script → SessionDef → Bool
is_good s d = list_all (λ t. is_bounded (lines.statement_line s t)) d.statements

good_from : (s : Script) (ts : List Statement) (e : ℕ) → list_all (λ u. is_quiet s u) ts ≡ true →
    (list_all (λ t. is_bounded (lines.statement_line s t)) (ts ++ ending e ∷ []) && true) ≡ true
good_from s ts e h =
    let bounded : list_all (λ t. is_bounded (lines.statement_line s t)) (ts ++ ending e ∷ []) ≡ true =
    all_both (λ t. is_bounded (lines.statement_line s t)) ts (ending e ∷ []) (all_weaker (λ u. is_quiet s u) (λ t. is_bounded (lines.statement_line s t)) ts (quiet_bounded s) h) (ending_bounded s e) in
    and_from (list_all (λ t. is_bounded (lines.statement_line s t)) (ts ++ ending e ∷ [])) true bounded refl

session_good : (s : Script) (i x : ℕ) → i < 100 → list_all (λ d. is_good s d) (session i x).made ≡ true
unfolding session
session_good s i x a =
    let steps = many (step i) (3 + drawn 6 x) (after_draw x) in
    good_from s steps.made (drawn 8 steps.state) (steps_quiet s i (drawn 6 x) (after_draw x) a (drawn_below 6 x (omega arith)))

sessions_good : (s : Script) (x : ℕ) → list_all (λ d. is_good s d) (made_sessions x).made ≡ true
unfolding made_sessions
sessions_good s x = many_all (λ d. is_good s d) session 40 x (λ k y a b. session_good s k y (omega (arith, b)))

-- ---- the schedule
run_bounded : (s : Script) (y : ℕ) → list_all (λ o. is_bounded (lines.order_line s o)) (run y).made ≡ true
run_bounded s y = rw (wide (1 + drawn 4 (after_draw y)) (omega (arith, drawn_below 4 (after_draw y)))) refl

orders_bounded : (s : Script) (x : ℕ) → list_all (λ o. is_bounded (lines.order_line s o)) (made_schedule x).made ≡ true
unfolding made_schedule
orders_bounded s x = many_all (λ o. is_bounded (lines.order_line s o)) (λ k y. run y) 400 x (λ k y a b. run_bounded s y)

-- ---- all lines
all_mapped_to : {A B : Type 0} (p : B → Bool) (f : A → B) (xs : List A) → list_all (λ x. p (f x)) xs ≡ true → list_all p (map f xs) ≡ true
all_mapped_to p f [] h = refl
all_mapped_to p f (x ∷ xs) h =
    let parts : (p (f x) ≡ true) × (list_all (λ y. p (f y)) xs ≡ true) = and_parts (p (f x)) (list_all (λ y. p (f y)) xs) h in
    and_from (p (f x)) (list_all p (map f xs)) parts.0 (all_mapped_to p f xs parts.1)

sessions_bounded : (s : Script) (ds : List SessionDef) → list_all (λ d. is_good s d) ds ≡ true → list_all is_bounded (flat_map (λ d. lines.session_lines s d) ds) ≡ true
sessions_bounded s [] h = refl
sessions_bounded s (d ∷ ds) h =
    let parts : (is_good s d ≡ true) × (list_all (λ x. is_good s x) ds ≡ true) = and_parts (is_good s d) (list_all (λ x. is_good s x) ds) h in
    let statements : list_all (λ t. is_bounded (lines.statement_line s t)) d.statements ≡ true = parts.0 in
    all_joined is_bounded (lines.session_lines s d) (flat_map (λ x. lines.session_lines s x) ds)
    (all_joined is_bounded (map (λ t. lines.statement_line s t) d.statements) (lines.end_line ∷ []) (all_mapped_to is_bounded (λ t. lines.statement_line s t) d.statements statements) refl)
    (sessions_bounded s ds parts.1)

schedule_bounded : (s : Script) (os : List Order) → list_all (λ o. is_bounded (lines.order_line s o)) os ≡ true → list_all is_bounded (lines.schedule_lines s os) ≡ true
schedule_bounded s [] h = refl
schedule_bounded s (o ∷ os) h =
    all_joined is_bounded (map (λ x. lines.order_line s x) (o ∷ os)) (lines.end_line ∷ []) (all_mapped_to is_bounded (λ x. lines.order_line s x) (o ∷ os) h) refl

-- of rows, sessions and orders that are made, from whatever state
readable : (x y z : ℕ) → is_readable (script (made_rows x) (made_sessions y) (made_schedule z)) ≡ true
unfolding is_readable
readable x y z =
    let s : Script = script (made_rows x) (made_sessions y) (made_schedule z) in
    let valid : is_valid s ≡ true = made_valid x y z in
    let r : Rules s = rules s valid in
    let rs : List (List Token) = map (λ v. lines.row_line s v) s.rows in
    let qs : List (List Token) = map (λ q. lines.query_line s q) s.queries in
    let es : List (List Token) = flat_map (λ e. lines.entity_lines s e) s.mapping in
    let ds : List (List Token) = flat_map (λ d. lines.session_lines s d) s.sessions in
    let bounded : list_all is_bounded (script_lines s) ≡ true =
    all_joined is_bounded ((((head_lines s ++ es) ++ rs) ++ qs) ++ ds) (lines.schedule_lines s s.schedule)
    (all_joined is_bounded (((head_lines s ++ es) ++ rs) ++ qs) ds
    (all_joined is_bounded ((head_lines s ++ es) ++ rs) qs
    (all_joined is_bounded (head_lines s ++ es) rs refl (all_mapped_to is_bounded (λ v. lines.row_line s v) s.rows (rows_bounded s x))) refl)
    (sessions_bounded s s.sessions (sessions_good s y))) (schedule_bounded s s.schedule (orders_bounded s z)) in
    and_from (is_valid s) (list_all is_short (script_lines s)) valid (all_short (script_lines s) (script_worded s r) bounded)

pub made_readable : (seed : ℕ) → is_readable (made seed) ≡ true
unfolding made
made_readable seed =
    let rows = made_rows (seeded seed) in
    let sessions = made_sessions rows.state in
    readable (seeded seed) rows.state sessions.state
