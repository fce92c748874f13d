-- The rules of an entity's columns, one by one; and that more entities leave them as they are.
use Rattle.std.proofs.Common.{◌≡◌, ℕ, ◌+◌, ◌<◌, Bool, true, ◌&&◌, nat_lt, nat_le, List, [], ◌∷◌, ◌++◌, length, map, refl, subst, arith}
use Rattle.std.specs.List.{list_all}
use Rattle.std.proofs.lemmas.Bool.{and_parts, and_from, ltb-true, lt-ltb}
use Rattle.hib_base.specs.declared.scripts.ColumnDef.{ColumnDef}
use Rattle.hib_base.specs.declared.scripts.ColumnType.{ColumnType}
use Rattle.hib_base.specs.declared.scripts.EntityDef.{EntityDef}
use Rattle.hib_base.specs.Fits.{are_defaults}
use Rattle.hib_base.specs.Scripts.{is_type_below}
use Rattle.hib_base.specs.Valid.{are_columns, have_columns}
use Rattle.hib_base.specs.Words.{are_names}
use Rattle.hib_base.proofs.Lists.{all_weaker}

-- ---- more entities
pub lt_more : (e n m : ℕ) → nat_lt e n ≡ true → nat_lt e (n + m) ≡ true
lt_more e n m h = let l : e < n = ltb-true e n h in lt-ltb e (n + m) (omega arith)

type_more : (n m : ℕ) (k : ColumnType) → is_type_below n k ≡ true → is_type_below (n + m) k ≡ true
type_more n m (ColumnType.Ref e) h = lt_more e n m h
type_more n m ColumnType.Int h = refl
type_more n m ColumnType.Text h = refl
type_more n m ColumnType.Bool h = refl

-- the four rules of columns
abbrev types_below : ℕ → List ColumnDef → Bool
types_below n ds = list_all (λ d. is_type_below n d.kind) ds

abbrev are_named : List ColumnDef → Bool
are_named ds = are_names (map (λ d. d.name) ds)

pub record HasColumns (n : ℕ) (ds : List ColumnDef) : Type 0 where
  pub few : nat_le (length ds) 16 ≡ true
  pub below : types_below n ds ≡ true
  pub named : are_named ds ≡ true
  pub defaults : are_defaults ds ≡ true

pub columns_of : (n : ℕ) (e : EntityDef) → are_columns n e ≡ true → HasColumns n e.columns
columns_of n e h =
    let few = nat_le (length e.columns) 16 in
    let below = types_below n e.columns in
    let named = are_named e.columns in
    let a : (few ≡ true) × ((below && (named && are_defaults e.columns)) ≡ true) = and_parts few (below && (named && are_defaults e.columns)) h in
    let b : (below ≡ true) × ((named && are_defaults e.columns) ≡ true) = and_parts below (named && are_defaults e.columns) a.1 in
    let c : (named ≡ true) × (are_defaults e.columns ≡ true) = and_parts named (are_defaults e.columns) b.1 in
    record { few = a.0; below = b.0; named = c.0; defaults = c.1 }

pub columns_from : (n : ℕ) (e : EntityDef) → HasColumns n e.columns → are_columns n e ≡ true
columns_from n e c =
    let below = types_below n e.columns in
    let named = are_named e.columns in
    and_from (nat_le (length e.columns) 16) (below && (named && are_defaults e.columns)) c.few
    (and_from below (named && are_defaults e.columns) c.below (and_from named (are_defaults e.columns) c.named c.defaults))

pub columns_more : (n m : ℕ) (e : EntityDef) → are_columns n e ≡ true → are_columns (n + m) e ≡ true
columns_more n m e h =
    let c : HasColumns n e.columns = columns_of n e h in
    columns_from (n + m) e (record {
      few = c.few;
      below = all_weaker (λ (d : ColumnDef). is_type_below n d.kind) (λ (d : ColumnDef). is_type_below (n + m) d.kind) e.columns (λ d w. type_more n m d.kind w) c.below;
      named = c.named;
      defaults = c.defaults;
    })

-- ---- the columns of a mapping
-- the rules of all entities behind n others hold within them all
columns_within : (n : ℕ) (es : List EntityDef) → have_columns n es ≡ true → list_all (λ e. are_columns (n + length es) e) es ≡ true
columns_within n [] h = refl
columns_within n (e ∷ es) h =
    let both : (are_columns (n + 1) e ≡ true) × (have_columns (n + 1) es ≡ true) = and_parts (are_columns (n + 1) e) (have_columns (n + 1) es) h in
    let all : ℕ = n + length (e ∷ es) in
    let same : n + 1 + length es ≡ all = omega arith in
    and_from (are_columns all e) (list_all (λ x. are_columns all x) es) (subst (λ k. are_columns k e ≡ true) same (columns_more (n + 1) (length es) e both.0))
    (subst (λ k. list_all (λ x. are_columns k x) es ≡ true) same (columns_within (n + 1) es both.1))

pub all_columns : (m : List EntityDef) → have_columns 0 m ≡ true → list_all (λ e. are_columns (length m) e) m ≡ true
all_columns m h =
    let same : 0 + length m ≡ length m = omega arith in
    subst (λ n. list_all (λ e. are_columns n e) m ≡ true) same (columns_within 0 m h)

-- one entity more
one_from : (n : ℕ) (es : List EntityDef) (e : EntityDef) → have_columns n es ≡ true → are_columns (n + length es + 1) e ≡ true → have_columns n (es ++ e ∷ []) ≡ true
one_from n [] e h w =
    let same : n + length {A = EntityDef} [] + 1 ≡ n + 1 = omega arith in
    and_from (are_columns (n + 1) e) true (subst (λ k. are_columns k e ≡ true) same w) refl
one_from n (d ∷ es) e h w =
    let both : (are_columns (n + 1) d ≡ true) × (have_columns (n + 1) es ≡ true) = and_parts (are_columns (n + 1) d) (have_columns (n + 1) es) h in
    let same : n + length (d ∷ es) + 1 ≡ n + 1 + length es + 1 = omega arith in
    and_from (are_columns (n + 1) d) (have_columns (n + 1) (es ++ e ∷ [])) both.0 (one_from (n + 1) es e both.1 (subst (λ k. are_columns k e ≡ true) same w))

pub one_more_columns : (m : List EntityDef) (e : EntityDef) → have_columns 0 m ≡ true → are_columns (length m + 1) e ≡ true → have_columns 0 (m ++ e ∷ []) ≡ true
one_more_columns m e h w =
    let same : length m + 1 ≡ 0 + length m + 1 = omega arith in
    one_from 0 m e h (subst (λ k. are_columns k e ≡ true) same w)
