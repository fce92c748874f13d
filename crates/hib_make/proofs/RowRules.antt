-- The rules that the rows of a made script keep.
use Rattle.std.proofs.Common.{◌≡◌, ℕ, ◌+◌, ◌≤◌, ◌<◌, Bool, true, ◌&&◌, nat_lt, List, ◌++◌, map, length, refl, codes, slice_get, arith}
use Rattle.std.specs.Fmt.{digits}
use Rattle.std.specs.List.{list_all}
use Rattle.std.proofs.lemmas.Bool.{lt-ltb, le-leb}
use Rattle.hib_base.specs.Apart.{are_apart_by}
use Rattle.hib_base.specs.Fits.{is_text, is_identifier, fits_entity, fits}
use Rattle.hib_base.specs.Keys.{same_key}
use Rattle.hib_base.specs.Scripts.{is_row_below}
use Rattle.hib_base.specs.declared.numbers.Key.{Key}
use Rattle.hib_base.specs.declared.rows.Row.{Row}
use Rattle.hib_base.specs.Valid.{is_given}
use Rattle.hib_make.specs.Draws.{drawn, after_draw, many}
use Rattle.hib_make.specs.Entities.{author, book, customer, shelf, made_mapping}
use Rattle.hib_make.specs.Rows.{key, numbered, author_row, book_row, customer_row, shelf_row, made_rows}
use Rattle.hib_make.proofs.Rules.{drawn_below, each_to, each_at, all_both, many_all, up_to, map_both, many_map, as_many}

pub identifier : (n : ℕ) → 1 ≤ n → n < 9223372036854775808 → is_identifier n ≡ true
identifier n a b = rw (le-leb 1 n a, lt-ltb n 9223372036854775808 b) refl

-- numbers that are drawn have 64 bits
pub drawn_wide : (n x : ℕ) → 0 < n → n < 2000 → nat_lt (drawn n x) 9223372036854775808 ≡ true
drawn_wide n x h m = lt-ltb (drawn n x) 9223372036854775808 (omega (arith, drawn_below n x h, m))

pub more_wide : (c n x : ℕ) → c < 2000 → 0 < n → n < 2000 → nat_lt (c + drawn n x) 9223372036854775808 ≡ true
more_wide c n x l h m = lt-ltb (c + drawn n x) 9223372036854775808 (omega (arith, l, drawn_below n x h, m))

-- ---- rules of each row
pub keeping : (p : Key × Row → Bool) (x : ℕ) → ((k y : ℕ) → 1 ≤ k → k ≤ 10 → list_all p (author_row k y).made ≡ true) → ((k y : ℕ) → 1 ≤ k → k ≤ 60 → list_all p (book_row k y).made ≡ true) →
    ((k y : ℕ) → 1 ≤ k → k ≤ 30 → list_all p (customer_row k y).made ≡ true) → ((k y : ℕ) → 1 ≤ k → k ≤ 12 → list_all p (shelf_row k y).made ≡ true) → list_all p (made_rows x).made ≡ true
unfolding made_rows
keeping p x a b c s =
    let authors = many author_row 10 x in
    let books = many book_row 60 authors.state in
    let customers = many customer_row 30 books.state in
    let shelves = many shelf_row 12 customers.state in
    all_both p ((authors.made ++ books.made) ++ customers.made) shelves.made
    (all_both p (authors.made ++ books.made) customers.made
    (all_both p authors.made books.made (many_all p author_row 10 x a) (many_all p book_row 60 authors.state b))
    (many_all p customer_row 30 books.state c))
    (many_all p shelf_row 12 customers.state s)

pub rows_below : (x : ℕ) → list_all (λ r. is_row_below 6 r) (made_rows x).made ≡ true
rows_below x = keeping (λ r. is_row_below 6 r) x (λ k y a b. refl) (λ k y a b. refl) (λ k y a b. refl) (λ k y a b. refl)

pub rows_given : (x : ℕ) → list_all is_given (made_rows x).made ≡ true
rows_given x = keeping is_given x (λ k y a b. refl) (λ k y a b. refl) (λ k y a b. refl) (λ k y a b. refl)

-- ---- the texts
authors_named : each_to (λ k. is_text (numbered (codes "author ") k)) 10 ≡ true
unfolding digits
authors_named = refl

books_named : each_to (λ k. is_text (numbered (codes "book ") k)) 60 ≡ true
unfolding digits
books_named = refl

customers_named : each_to (λ k. is_text (numbered (codes "customer ") k)) 30 ≡ true
unfolding digits
customers_named = refl

shelves_named : each_to (λ k. is_text (numbered (codes "shelf ") k)) 12 ≡ true
unfolding digits
shelves_named = refl

both : (a b : Bool) → a ≡ true → b ≡ true → ((a && (b && true)) && true) ≡ true
both a b p q = rw (p, q) refl

fitting : (word : List ℕ) (n k : ℕ) → each_to (λ j. is_text (numbered word j)) n ≡ true → n < 1000 → 1 ≤ k → k ≤ n → ((is_identifier k && (is_text (numbered word k) && true)) && true) ≡ true
fitting word n k h m a b = both (is_identifier k) (is_text (numbered word k)) (identifier k a (omega arith)) (each_at (λ j. is_text (numbered word j)) n k h a b)

with_one : (a b c : Bool) → a ≡ true → b ≡ true → c ≡ true → ((a && (b && (c && true))) && true) ≡ true
with_one a b c p q r = rw (p, q, r) refl

with_three : (a b c d e : Bool) → a ≡ true → b ≡ true → c ≡ true → d ≡ true → e ≡ true → ((a && (b && (c && (d && (e && true))))) && true) ≡ true
with_three a b c d e p q r s t = rw (p, q, r, s, t) refl

book_fits : (k x : ℕ) → 1 ≤ k → k ≤ 60 → list_all (λ e. fits_entity (slice_get made_mapping e.0.entity) e.0 e.1) (book_row k x).made ≡ true
book_fits k x a b =
    let y = after_draw x in
    let z = after_draw y in
    with_three (is_identifier k) (is_text (numbered (codes "book ") k)) (nat_lt (1 + drawn 10 x) 9223372036854775808) (nat_lt (drawn 50 y) 9223372036854775808) (nat_lt (100 + drawn 900 z) 9223372036854775808)
    (identifier k a (omega arith)) (each_at (λ j. is_text (numbered (codes "book ") j)) 60 k books_named a b) (more_wide 1 10 x (omega arith) (omega arith) (omega arith)) (drawn_wide 50 y (omega arith) (omega arith))
    (more_wide 100 900 z (omega arith) (omega arith) (omega arith))

customer_fits : (k x : ℕ) → 1 ≤ k → k ≤ 30 → list_all (λ e. fits_entity (slice_get made_mapping e.0.entity) e.0 e.1) (customer_row k x).made ≡ true
customer_fits k x a b =
    with_one (is_identifier k) (is_text (numbered (codes "customer ") k)) (nat_lt (1000 + drawn 1000 x) 9223372036854775808) (identifier k a (omega arith))
    (each_at (λ j. is_text (numbered (codes "customer ") j)) 30 k customers_named a b) (more_wide 1000 1000 x (omega arith) (omega arith) (omega arith))

pub rows_fit : (x : ℕ) → fits made_mapping (made_rows x).made ≡ true
rows_fit x =
    keeping (λ e. fits_entity (slice_get made_mapping e.0.entity) e.0 e.1) x (λ k y a b. fitting (codes "author ") 10 k authors_named (omega arith) a b)
    (λ k y a b. book_fits k y a b) (λ k y a b. customer_fits k y a b)
    (λ k y a b. fitting (codes "shelf ") 12 k shelves_named (omega arith) a b)

-- ---- the keys
abbrev keys : List Key
keys = ((up_to (λ k. key author k) 10 ++ up_to (λ k. key book k) 60) ++ up_to (λ k. key customer k) 30) ++ up_to (λ k. key shelf k) 12

row_keys : (x : ℕ) → map (λ r. r.0) (made_rows x).made ≡ keys
unfolding made_rows
row_keys x =
    let authors = many author_row 10 x in
    let books = many book_row 60 authors.state in
    let customers = many customer_row 30 books.state in
    let shelves = many shelf_row 12 customers.state in
    rw (
      map_both (λ r. r.0) ((authors.made ++ books.made) ++ customers.made) shelves.made,
      map_both (λ r. r.0) (authors.made ++ books.made) customers.made,
      map_both (λ r. r.0) authors.made books.made,
      many_map (λ r. r.0) (λ k. key author k) author_row 10 x (λ k y. refl),
      many_map (λ r. r.0) (λ k. key book k) book_row 60 authors.state (λ k y. refl),
      many_map (λ r. r.0) (λ k. key customer k) customer_row 30 books.state (λ k y. refl),
      many_map (λ r. r.0) (λ k. key shelf k) shelf_row 12 customers.state (λ k y. refl),
    ) refl

keys_apart : are_apart_by same_key keys ≡ true
keys_apart = refl

pub rows_apart : (x : ℕ) → are_apart_by same_key (map (λ r. r.0) (made_rows x).made) ≡ true
rows_apart x = rw (row_keys x) keys_apart

pub row_count : (x : ℕ) → length (made_rows x).made ≡ 112
row_count x = as_many (λ r. r.0) (made_rows x).made keys (row_keys x)
