-- The rules that the sessions of a made script keep, and its schedule.
use Rattle.std.proofs.Common.{◌≡◌, ℕ, ◌+◌, ◌*◌, ◌≤◌, ◌<◌, Bool, true, ◌&&◌, ◌==◌, nat_lt, nat_le, cond, List, [], ◌∷◌, ◌++◌, map, length, refl, codes, arith, length-append}
use Rattle.std.specs.Fmt.{digits}
use Rattle.std.specs.List.{list_all}
use Rattle.std.proofs.lemmas.Bool.{and_parts, cond_both, lt-ltb, le-leb, leb-true}
use Rattle.std.proofs.lemmas.List.Sums.{sum_by-cons}
use Rattle.hib_base.specs.Fits.{is_identifier, fits_statement}
use Rattle.hib_base.specs.Scripts.{ends, are_over, is_over, statement_count, is_known, lists_known, evicts_cached}
use Rattle.hib_base.specs.declared.scripts.Statement.{Statement}
use Rattle.hib_base.specs.declared.scripts.SessionDef.{SessionDef}
use Rattle.hib_base.specs.Valid.{is_order_in}
use Rattle.hib_base.specs.Words.{are_names}
use Rattle.hib_base.proofs.Lists.{all_weaker}
use Rattle.hib_make.specs.Draws.{drawn, after_draw, many}
use Rattle.hib_make.specs.Entities.{book, customer, made_mapping}
use Rattle.hib_make.specs.Rows.{numbered}
use Rattle.hib_make.specs.Sessions.{Statements, one_found, stock_set, credit_set, order_placed, one_listed, full_set, step_by, step, ending, session, made_sessions, run, made_schedule}
use Rattle.hib_make.proofs.Rules.{drawn_below, all_both, many_all, many_few, up_to, many_map, as_many}
use Rattle.hib_make.proofs.RowRules.{identifier, drawn_wide, more_wide}

-- ---- statements
abbrev is_fitting : Statement → Bool
is_fitting t = is_known 4 t && fits_statement made_mapping t

-- what a step makes is short, and each statement fits
record Kept (s : Statements) : Type 0 where
  few : length s.made ≤ 2
  fit : list_all is_fitting s.made ≡ true

once : (a : Bool) → a ≡ true → (a && true) ≡ true
once a e = rw e refl

twice : (a : Bool) → a ≡ true → ((a && true) && true) ≡ true
twice a e = rw e refl

paired : (a : Bool) → a ≡ true → (a && ((a && true) && true)) ≡ true
paired a e = rw e refl

numbered_pair : (a b : Bool) → a ≡ true → b ≡ true → (a && ((a && ((b && true) && true)) && true)) ≡ true
numbered_pair a b e f = rw (e, f) refl

with_three : (a b c d : Bool) → a ≡ true → b ≡ true → c ≡ true → d ≡ true → ((a && (b && (c && (d && true)))) && true) ≡ true
with_three a b c d p q r s = rw (p, q, r, s) refl

drawn_id : (n x : ℕ) → 0 < n → n < 1000 → is_identifier (1 + drawn n x) ≡ true
drawn_id n x h m = identifier (1 + drawn n x) (omega arith) (omega (arith, drawn_below n x h))

book_found : (x : ℕ) → Kept (one_found book 60 x)
book_found x = record { few = omega arith; fit = once (is_identifier (1 + drawn 60 x)) (drawn_id 60 x (omega arith) (omega arith)) }

customer_found : (x : ℕ) → Kept (one_found customer 30 x)
customer_found x = record { few = omega arith; fit = once (is_identifier (1 + drawn 30 x)) (drawn_id 30 x (omega arith) (omega arith)) }

stock_kept : (x : ℕ) → Kept (stock_set x)
stock_kept x = record {
  few = omega arith;
  fit =
      numbered_pair (is_identifier (1 + drawn 60 x)) (nat_lt (drawn 50 (after_draw x)) 9223372036854775808) (drawn_id 60 x (omega arith) (omega arith))
      (drawn_wide 50 (after_draw x) (omega arith) (omega arith));
}

credit_kept : (x : ℕ) → Kept (credit_set x)
credit_kept x = record {
  few = omega arith;
  fit =
      numbered_pair (is_identifier (1 + drawn 30 x)) (nat_lt (1000 + drawn 1000 (after_draw x)) 9223372036854775808) (drawn_id 30 x (omega arith) (omega arith))
      (more_wide 1000 1000 (after_draw x) (omega arith) (omega arith) (omega arith));
}

full_kept : (x : ℕ) → Kept (full_set x)
full_kept x = record { few = omega arith; fit = paired (is_identifier (1 + drawn 12 x)) (drawn_id 12 x (omega arith) (omega arith)) }

placed_kept : (i j x : ℕ) → i < 1000 → 1 ≤ j → j < 1000 → Kept (order_placed i j x)
placed_kept i j x a b c =
    let y = after_draw x in
    let z = after_draw y in
    record {
      few = omega arith;
      fit =
          with_three (is_identifier (1000 * i + j)) (nat_lt (1 + drawn 30 x) 9223372036854775808) (nat_lt (1 + drawn 60 y) 9223372036854775808) (nat_lt (1 + drawn 5 z) 9223372036854775808)
          (identifier (1000 * i + j) (omega arith) (omega arith)) (more_wide 1 30 x (omega arith) (omega arith) (omega arith)) (more_wide 1 60 y (omega arith) (omega arith) (omega arith))
          (more_wide 1 5 z (omega arith) (omega arith) (omega arith));
    }

listed_kept : (x : ℕ) → Kept (one_listed x)
listed_kept x = record { few = omega arith; fit = twice (nat_lt (drawn 4 x) 4) (lt-ltb (drawn 4 x) 4 (drawn_below 4 x (omega arith))) }

by_kept : (i j d x : ℕ) → i < 1000 → 1 ≤ j → j < 1000 → Kept (step_by i j d x)
by_kept i j d x a b c =
    let full = full_set x in
    let listed = cond (d == 8) (one_listed x) full in
    let placed = cond (d == 7) (order_placed i j x) listed in
    let credit = cond (d == 6) (credit_set x) placed in
    let stock = cond (d == 5) (stock_set x) credit in
    let customers = cond (d == 4) (one_found customer 30 x) stock in
    cond_both (nat_lt d 4) (one_found book 60 x) customers (λ s. Kept s) (λ _. book_found x) (λ _.
    cond_both (d == 4) (one_found customer 30 x) stock (λ s. Kept s) (λ _. customer_found x) (λ _.
    cond_both (d == 5) (stock_set x) credit (λ s. Kept s) (λ _. stock_kept x) (λ _.
    cond_both (d == 6) (credit_set x) placed (λ s. Kept s) (λ _. credit_kept x) (λ _.
    cond_both (d == 7) (order_placed i j x) listed (λ s. Kept s) (λ _. placed_kept i j x a b c) (λ _.
    cond_both (d == 8) (one_listed x) full (λ s. Kept s) (λ _. listed_kept x) (λ _. full_kept x))))))

step_kept : (i j x : ℕ) → i < 1000 → 1 ≤ j → j < 1000 → Kept (step i j x)
unfolding step
step_kept i j x a b c = by_kept i j (drawn 10 x) (after_draw x) a b c

-- ---- sessions
over_more : (ts : List Statement) (t : Statement) → ends t ≡ true → are_over (ts ++ t ∷ []) ≡ true
over_more [] t e = e
over_more (u ∷ []) t e = e
over_more (u ∷ v ∷ ts) t e = over_more (v ∷ ts) t e

ending_ends : (d : ℕ) → ends (ending d) ≡ true
ending_ends d = cond_both (d == 0) Statement.Rollback Statement.Commit (λ t. ends t ≡ true) (λ _. refl) (λ _. refl)

ending_fits : (d : ℕ) → list_all is_fitting (ending d ∷ []) ≡ true
ending_fits d = cond_both (d == 0) Statement.Rollback Statement.Commit (λ t. list_all is_fitting (t ∷ []) ≡ true) (λ _. refl) (λ _. refl)

-- of a session that is made
abbrev is_short : SessionDef → Bool
is_short s = nat_le (length s.statements) 17

abbrev fits_whole : SessionDef → Bool
fits_whole s = list_all is_fitting s.statements

steps_few : (i c x : ℕ) → i < 1000 → c < 6 → length (many (step i) (3 + c) x).made ≤ 16
steps_few i c x a b = omega (arith, many_few (step i) (3 + c) x (λ k y low high. (step_kept i k y a low (omega (arith, high))).few))

steps_fit : (i c x : ℕ) → i < 1000 → c < 6 → list_all is_fitting (many (step i) (3 + c) x).made ≡ true
steps_fit i c x a b = many_all is_fitting (step i) (3 + c) x (λ k y low high. (step_kept i k y a low (omega (arith, high))).fit)

one_short : (ts : List Statement) (t : Statement) → length ts ≤ 16 → (nat_le (length (ts ++ t ∷ [])) 17 && true) ≡ true
one_short ts t h = once (nat_le (length (ts ++ t ∷ [])) 17) (le-leb (length (ts ++ t ∷ [])) 17 (rw (length-append ts (t ∷ [])) (omega arith)))

session_over : (i x : ℕ) → list_all is_over (session i x).made ≡ true
unfolding session
session_over i x =
    let steps = many (step i) (3 + drawn 6 x) (after_draw x) in
    once (are_over (steps.made ++ ending (drawn 8 steps.state) ∷ [])) (over_more steps.made (ending (drawn 8 steps.state)) (ending_ends (drawn 8 steps.state)))

session_short : (i x : ℕ) → i < 1000 → list_all is_short (session i x).made ≡ true
unfolding session
session_short i x a =
    let steps = many (step i) (3 + drawn 6 x) (after_draw x) in
    one_short steps.made (ending (drawn 8 steps.state)) (steps_few i (drawn 6 x) (after_draw x) a (drawn_below 6 x (omega arith)))

session_fits : (i x : ℕ) → i < 1000 → list_all fits_whole (session i x).made ≡ true
unfolding session
session_fits i x a =
    let steps = many (step i) (3 + drawn 6 x) (after_draw x) in
    once (list_all is_fitting (steps.made ++ ending (drawn 8 steps.state) ∷ []))
    (all_both is_fitting steps.made (ending (drawn 8 steps.state) ∷ []) (steps_fit i (drawn 6 x) (after_draw x) a (drawn_below 6 x (omega arith))) (ending_fits (drawn 8 steps.state)))

pub sessions_over : (x : ℕ) → list_all is_over (made_sessions x).made ≡ true
unfolding made_sessions
sessions_over x = many_all is_over session 40 x (λ k y a b. session_over k y)

sessions_fit : (x : ℕ) → list_all fits_whole (made_sessions x).made ≡ true
unfolding made_sessions
sessions_fit x = many_all fits_whole session 40 x (λ k y a b. session_fits k y (omega (arith, b)))

known_where : (t : Statement) → is_fitting t ≡ true → is_known 4 t ≡ true
known_where t h = (and_parts (is_known 4 t) (fits_statement made_mapping t) h).0

fit_where : (t : Statement) → is_fitting t ≡ true → fits_statement made_mapping t ≡ true
fit_where t h = (and_parts (is_known 4 t) (fits_statement made_mapping t) h).1

pub sessions_known : (x : ℕ) → list_all (λ d. lists_known 4 d) (made_sessions x).made ≡ true
sessions_known x =
    all_weaker fits_whole (λ d. lists_known 4 d) (made_sessions x).made (λ d h. all_weaker is_fitting (λ t. is_known 4 t) d.statements known_where h) (sessions_fit x)

pub statements_fit : (x : ℕ) → list_all (λ d. list_all (λ t. fits_statement made_mapping t) d.statements) (made_sessions x).made ≡ true
statements_fit x =
    all_weaker fits_whole (λ d. list_all (λ t. fits_statement made_mapping t) d.statements) (made_sessions x).made
    (λ d h. all_weaker is_fitting (λ t. fits_statement made_mapping t) d.statements fit_where h) (sessions_fit x)

-- ---- the names
one_name : (k y : ℕ) → map (λ d. d.name) (session k y).made ≡ numbered (codes "s") k ∷ []
unfolding session
one_name k y = refl

session_names : (x : ℕ) → map (λ d. d.name) (made_sessions x).made ≡ up_to (λ k. numbered (codes "s") k) 40
unfolding made_sessions
session_names x = many_map (λ d. d.name) (λ k. numbered (codes "s") k) session 40 x one_name

names : are_names (up_to (λ k. numbered (codes "s") k) 40) ≡ true
unfolding digits
names = refl

pub sessions_named : (x : ℕ) → are_names (map (λ d. d.name) (made_sessions x).made) ≡ true
sessions_named x = rw (session_names x) names

pub session_count : (x : ℕ) → length (made_sessions x).made ≡ 40
session_count x = as_many (λ d. d.name) (made_sessions x).made (up_to (λ k. numbered (codes "s") k) 40) (session_names x)

-- ---- how many statements
few_statements : (ss : List SessionDef) → list_all is_short ss ≡ true → statement_count ss ≤ 17 * length ss
few_statements [] h = omega arith
few_statements (s ∷ ss) h =
    let parts : (is_short s ≡ true) × (list_all is_short ss ≡ true) = and_parts (is_short s) (list_all is_short ss) h in
    let rest : statement_count ss ≤ 17 * length ss = few_statements ss parts.1 in
    let one : length s.statements ≤ 17 = leb-true (length s.statements) 17 parts.0 in
    rw (sum_by-cons (λ d. length d.statements) s ss) (omega arith)

sessions_short : (x : ℕ) → list_all is_short (made_sessions x).made ≡ true
unfolding made_sessions
sessions_short x = many_all is_short session 40 x (λ k y a b. session_short k y (omega (arith, b)))

pub statements_few : (x : ℕ) → statement_count (made_sessions x).made ≤ 680
statements_few x = omega (arith, few_statements (made_sessions x).made (sessions_short x), session_count x)

-- ---- the schedule
run_fits : (x : ℕ) → list_all (λ o. is_order_in 40 o) (run x).made ≡ true
run_fits x =
    let s = drawn 40 x in
    let n = 1 + drawn 4 (after_draw x) in
    rw (lt-ltb s 40 (drawn_below 40 x (omega arith)), le-leb 1 n (omega arith), le-leb n 1000000 (omega (arith, drawn_below 4 (after_draw x)))) refl

pub orders_fit : (x : ℕ) → list_all (λ o. is_order_in 40 o) (made_schedule x).made ≡ true
unfolding made_schedule
orders_fit x = many_all (λ o. is_order_in 40 o) (λ k y. run y) 400 x (λ k y a b. run_fits y)

pub orders_cached : (x : ℕ) → list_all (λ o. evicts_cached made_mapping o) (made_schedule x).made ≡ true
unfolding made_schedule
orders_cached x = many_all (λ o. evicts_cached made_mapping o) (λ k y. run y) 400 x (λ k y a b. refl)

pub orders_few : (x : ℕ) → length (made_schedule x).made ≤ 800
unfolding made_schedule
orders_few x = omega (arith, many_few (λ k y. run y) 400 x (λ k y a b. omega arith))
