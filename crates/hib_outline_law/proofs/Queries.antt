-- Queries that say the same give the same, and read the same tables.
use Rattle.std.proofs.Common.{◌≡◌, ℕ, zero, suc, true, false, ◌&&◌, ◌||◌, ◌==◌, List, [], ◌∷◌, length, map, Option, Some, refl, sym, ap, ◌∙◌}
use Rattle.std.specs.Prelude.{slice_get}
use Rattle.std.specs.Option.{option_map_or}
use Rattle.std.specs.List.{filter, range_with_len}
use Rattle.hib_base.specs.Queries.{Said, said, parts_in}
use Rattle.hib_base.specs.Tables.{Tables}
use Rattle.hib_journal.specs.Types.{Key, Row, Cond, Select, Query, Script}
use Rattle.hib_journal.specs.Query.{holds, mentions, listed, selected, gives, reads, tables}
use Rattle.hib_journal.specs.Next.{tables_of}
use Rattle.hib_outline_law.proofs.Conditions.{holds_same, mentions_same, missing_same}

-- ---- one query
-- with another condition
abbrev with_condition : Query → Option Cond → Query
with_condition q c = record q { condition = c }

-- a query that says the same as another is that one, but for its condition
is_with : (p q : Query) → said p ≡ said q → q ≡ with_condition p q.condition
is_with p q h = λ i. record {
  name = (sym h i).name;
  cached = (sym h i).cached;
  entity = (sym h i).entity;
  condition = q.condition;
  order = (sym h i).order;
  offset = (sym h i).offset;
  limit = (sym h i).limit;
  select = (sym h i).select;
}

selected_with : (p : Query) (c : Option Cond) (rows : Tables) (s : Select) → selected p rows s ≡ selected (with_condition p c) rows s
selected_with p c rows Select.Ids = refl
selected_with p c rows Select.Count = refl
selected_with p c rows (Select.Column n) = refl

listed_with : (p : Query) (c : Option Cond) (t : Tables) → parts_in p.condition ≡ parts_in c → listed p t ≡ listed (with_condition p c) t
listed_with p c t h =
    ap (λ f. filter f t) (λ i (a : Key × Row). (a.0.entity == p.entity) && missing_same (holds t a.1) true (holds_same t a.1) p.condition c h i)

gives_with : (p : Query) (c : Option Cond) (t : Tables) → parts_in p.condition ≡ parts_in c → gives p t ≡ gives (with_condition p c) t
unfolding gives
gives_with p c t h = selected_with p c (listed p t) p.select ∙ ap (λ rows. selected (with_condition p c) rows p.select) (listed_with p c t h)

reads_with : (p : Query) (c : Option Cond) (n : ℕ) → parts_in p.condition ≡ parts_in c → reads p n ≡ reads (with_condition p c) n
reads_with p c n h = ap (λ b. (p.entity == n) || b) (missing_same (mentions n) false (mentions_same n) p.condition c h)

parts_same : (p q : Query) → said p ≡ said q → parts_in p.condition ≡ parts_in q.condition
parts_same p q h = ap (λ (s : Said). s.parts) h

pub gives_same : (p q : Query) → said p ≡ said q → (t : Tables) → gives p t ≡ gives q t
gives_same p q h t = gives_with p q.condition t (parts_same p q h) ∙ ap (λ x. gives x t) (sym (is_with p q h))

reads_same : (p q : Query) → said p ≡ said q → (n : ℕ) → reads p n ≡ reads q n
reads_same p q h n = reads_with p q.condition n (parts_same p q h) ∙ ap (λ x. reads x n) (sym (is_with p q h))

pub reads_tables : (entities : ℕ) (p q : Query) → said p ≡ said q → tables entities p ≡ tables entities q
reads_tables entities p q h = ap (λ f. filter f (range_with_len 0 entities)) (λ i n. reads_same p q h n i)

-- ---- the queries of a script
-- what hangs on what a query says is the same of the queries at one place
pub got_same : {X : Type 0} (f : Option Query → X) → ((p q : Query) → said p ≡ said q → f (Some p) ≡ f (Some q)) → (ps qs : List Query) (n : ℕ) → map said ps ≡ map said qs
    → f (slice_get ps n) ≡ f (slice_get qs n)
got_same f h [] [] n e = refl
got_same f h [] (q ∷ qs) n e = absurd cc
got_same f h (p ∷ ps) [] n e = absurd cc
got_same f h (p ∷ ps) (q ∷ qs) zero e = let first : said p ≡ said q = cc in h p q first
got_same f h (p ∷ ps) (q ∷ qs) (suc n) e = let rest : map said ps ≡ map said qs = cc in got_same f h ps qs n rest

pub as_many : (ps qs : List Query) → map said ps ≡ map said qs → length ps ≡ length qs
as_many [] [] e = refl
as_many [] (q ∷ qs) e = absurd cc
as_many (p ∷ ps) [] e = absurd cc
as_many (p ∷ ps) (q ∷ qs) e = let rest : map said ps ≡ map said qs = cc in ap (λ n. suc n) (as_many ps qs rest)

-- a script with other queries
abbrev pub with_queries : Script → List Query → Script
with_queries s qs = record s { queries = qs }

pub tables_same : (s : Script) (qs : List Query) → map said s.queries ≡ map said qs → (q : ℕ) → tables_of s q ≡ tables_of (with_queries s qs) q
tables_same s qs e q =
    got_same (λ o. option_map_or (tables (length s.mapping)) o []) (λ p r h. reads_tables (length s.mapping) p r h) s.queries qs q e

pub cached_same : (ps qs : List Query) → map said ps ≡ map said qs → (q : ℕ) → option_map_or (λ d. d.cached) (slice_get ps q) false ≡ option_map_or (λ d. d.cached) (slice_get qs q) false
cached_same ps qs e q = got_same (λ o. option_map_or (λ d. d.cached) o false) (λ p r h. ap (λ (x : Said). x.cached) h) ps qs q e
