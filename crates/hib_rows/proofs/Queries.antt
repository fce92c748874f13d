-- What queries give over seven rows: by conditions, orders, offsets, limits and selections. Book 1 is its own sequel; the sequels
-- of 2 and 5 are missing.
use Rattle.std.proofs.Common.{Box, Global, ◌≡◌, ℕ, zero, suc, Bool, true, false, ℤ, pos, neg_ℤ, List, [], ◌∷◌, map, Some, None, Option, refl}
use Rattle.hib_base.specs.Tables.{Tables}
use Rattle.hib_journal.specs.Types.{Cell, Row, Op, Path, Cond, Sort, Select, Query}
use Rattle.hib_journal.specs.Room.{key}
use Rattle.hib_journal.specs.Query.{gives}
use Rattle.hib_rows.proofs.Run.{row}

-- a title, the pages, whether it is lent, and its sequel
abbrev pub book : List ℕ → ℤ → Bool → ℕ → Row
book title pages lent sequel = row None (Cell.Text title ∷ Cell.Int pages ∷ Cell.Bool lent ∷ Cell.Int (pos sequel) ∷ [])

abbrev pub dune : List ℕ
dune = 68 ∷ 117 ∷ 110 ∷ 101 ∷ []

abbrev pub emma : List ℕ
emma = 69 ∷ 109 ∷ 109 ∷ 97 ∷ []

abbrev pub small_dune : List ℕ
small_dune = 100 ∷ 117 ∷ 110 ∷ 101 ∷ []

-- the last one is of another entity
abbrev pub shelves : Tables
shelves =
    (key 0 1, book dune (pos 412) true 1) ∷
    (key 0 2, book emma (pos 474) false 9) ∷
    (key 0 3, book emma (pos 100) false 1) ∷
    (key 0 4, book small_dune (pos 100) true 3) ∷
    (key 0 5, book (123 ∷ []) (pos 7) false 0) ∷
    (key 0 6, book (65 ∷ 33 ∷ []) (neg_ℤ (pos 3)) true 5) ∷
    (key 1 1, book dune (pos 412) true 1) ∷
    []

abbrev pub query : Option Cond → List Sort → ℕ → ℕ → Select → Query
query condition order offset limit select =
    record { name = []; cached = true; entity = 0; condition = condition; order = order; offset = offset; limit = limit; select = select }

-- the identifiers of the books that meet a condition
abbrev pub those : Cond → List Cell
those c = gives (query (Some c) [] 0 200 Select.Ids) shelves

abbrev pub numbers : List ℕ → List Cell
numbers ns = map (λ n. Cell.Int (pos n)) ns

abbrev pub here : ℕ → Path
here column = record { column = column; target = None }

abbrev pub of_sequel : ℕ → Path
of_sequel column = record { column = 3; target = Some (record { entity = 0; column = column }) }

abbrev pub pages : Op → ℕ → Cond
pages op n = Cond.Test op (here 1) (Cell.Int (pos n))

abbrev pub title : Op → List ℕ → Cond
title op t = Cond.Test op (here 0) (Cell.Text t)

abbrev pub lent : Op → Bool → Cond
lent op b = Cond.Test op (here 2) (Cell.Bool b)

abbrev pub sequel_lent : Op → Cond
sequel_lent op = Cond.Test op (of_sequel 2) (Cell.Bool true)

-- comparisons

pages_eq : those (pages Op.Eq 100) ≡ numbers (3 ∷ 4 ∷ [])
unfolding gives
pages_eq = refl

pages_ne : those (pages Op.Ne 100) ≡ numbers (1 ∷ 2 ∷ 5 ∷ 6 ∷ [])
unfolding gives
pages_ne = refl

pages_lt : those (pages Op.Lt 7) ≡ numbers (6 ∷ [])
unfolding gives
pages_lt = refl

pages_le : those (pages Op.Le 7) ≡ numbers (5 ∷ 6 ∷ [])
unfolding gives
pages_le = refl

pages_gt : those (pages Op.Gt 100) ≡ numbers (1 ∷ 2 ∷ [])
unfolding gives
pages_gt = refl

pages_ge : those (pages Op.Ge 100) ≡ numbers (1 ∷ 2 ∷ 3 ∷ 4 ∷ [])
unfolding gives
pages_ge = refl

title_eq : those (title Op.Eq emma) ≡ numbers (2 ∷ 3 ∷ [])
unfolding gives
title_eq = refl

title_lt : those (title Op.Lt dune) ≡ numbers (6 ∷ [])
unfolding gives
title_lt = refl

title_ge : those (title Op.Ge small_dune) ≡ numbers (4 ∷ 5 ∷ [])
unfolding gives
title_ge = refl

title_gt : those (title Op.Gt (69 ∷ [])) ≡ numbers (2 ∷ 3 ∷ 4 ∷ 5 ∷ [])
unfolding gives
title_gt = refl

lent_eq : those (lent Op.Eq true) ≡ numbers (1 ∷ 4 ∷ 6 ∷ [])
unfolding gives
lent_eq = refl

lent_lt : those (lent Op.Lt true) ≡ numbers (2 ∷ 3 ∷ 5 ∷ [])
unfolding gives
lent_lt = refl

lent_le : those (lent Op.Le false) ≡ numbers (2 ∷ 3 ∷ 5 ∷ [])
unfolding gives
lent_le = refl

-- a path through a row that is missing meets no comparison

sequel_eq : those (sequel_lent Op.Eq) ≡ numbers (1 ∷ 3 ∷ [])
unfolding gives
sequel_eq = refl

sequel_ne : those (sequel_lent Op.Ne) ≡ numbers (4 ∷ 6 ∷ [])
unfolding gives
sequel_ne = refl

among : those (Cond.Among (here 1) (Cell.Int (pos 7) ∷ Cell.Int (neg_ℤ (pos 3)) ∷ [])) ≡ numbers (5 ∷ 6 ∷ [])
unfolding gives
among = refl

-- conditions of conditions, wherever their parts lie in memory

negated : (p : _) → those (Cond.Not' p (sequel_lent Op.Eq)) ≡ numbers (2 ∷ 4 ∷ 5 ∷ 6 ∷ [])
unfolding gives
negated p = refl

both : (p q : _) → those (Cond.And' p (lent Op.Eq true) q (pages Op.Lt 200)) ≡ numbers (4 ∷ 6 ∷ [])
unfolding gives
both p q = refl

either : (p q : _) → those (Cond.Or' p (pages Op.Eq 7) q (pages Op.Eq 412)) ≡ numbers (1 ∷ 5 ∷ [])
unfolding gives
either p q = refl

-- as deep as a condition may be
abbrev pub negations : Box (Unit {0}) Global → ℕ → Cond → Cond
negations p zero c = c
negations p (suc n) c = Cond.Not' p (negations p n c)

fifteen_negations : (p : _) → those (negations p 15 (pages Op.Eq 7)) ≡ numbers (1 ∷ 2 ∷ 3 ∷ 4 ∷ 6 ∷ [])
unfolding gives
fifteen_negations p = refl

-- orders, offsets, limits and selections

abbrev pub by : ℕ → Bool → List Sort
by column desc = record { column = column; desc = desc } ∷ []

by_title : gives (query None (by 0 false) 0 200 Select.Ids) shelves ≡ numbers (6 ∷ 1 ∷ 2 ∷ 3 ∷ 4 ∷ 5 ∷ [])
unfolding gives
by_title = refl

one_of_them : gives (query None (by 0 false) 2 1 Select.Ids) shelves ≡ numbers (2 ∷ [])
unfolding gives
one_of_them = refl

its_pages : gives (query None (by 0 false) 2 1 (Select.Column 1)) shelves ≡ numbers (474 ∷ [])
unfolding gives
its_pages = refl

all_counted : gives (query None (by 0 false) 2 1 Select.Count) shelves ≡ numbers (6 ∷ [])
unfolding gives
all_counted = refl

behind_the_last : gives (query None (by 0 false) 7 1 Select.Ids) shelves ≡ numbers []
unfolding gives
behind_the_last = refl

by_pages_down : gives (query None (by 1 true) 0 200 Select.Ids) shelves ≡ numbers (2 ∷ 1 ∷ 3 ∷ 4 ∷ 5 ∷ 6 ∷ [])
unfolding gives
by_pages_down = refl
