-- A row that a line gives is of an entity of the mapping, and fits it.
use Rattle.std.proofs.Common.{◌≡◌, ℕ, zero, suc, ◌<◌, ◌≤◌, Bool, true, false, cond, ◌&&◌, ◌==◌, nat_lt, nat_le, List, [], ◌∷◌, length, Option, Some, None, Result, Ok, Err, pos, refl, sym, subst, arith, eq-eqb}
use Rattle.std.specs.Prelude.{slice_get, bytes_eq}
use Rattle.std.specs.List.{list_all}
use Rattle.std.proofs.lemmas.Bool.{and_parts, and_from, leb-true, lt-ltb, eqb-true, ltb-true, false≢true}
use Rattle.hib_base.specs.Fits.{is_of_type, are_of_types, is_version, is_identifier, fits_entity}
use Rattle.hib_base.specs.Scripts.{is_row_below}
use Rattle.hib_base.specs.Valid.{is_given_version, is_given}
use Rattle.hib_base.specs.declared.numbers.Key.{Key}
use Rattle.hib_base.specs.declared.refusals.Kind.{Kind}
use Rattle.hib_base.specs.declared.rows.Cell.{Cell}
use Rattle.hib_base.specs.declared.rows.Row.{Row}
use Rattle.hib_base.specs.declared.scripts.ColumnDef.{ColumnDef}
use Rattle.hib_base.specs.declared.scripts.EntityDef.{EntityDef}
use Rattle.hib_base.proofs.Gives.{Gives, gives_cond, Then}
use Rattle.hib_base.proofs.Lists.{some_none}
use Rattle.hib_columns.specs.Columns.{columns_in}
use Rattle.hib_mapping.specs.Cells.{cell_of, has_type}
use Rattle.hib_mapping.proofs.TypedCells.{is_cell, cell_sound, typed_one}
use Rattle.hib_lex.specs.declared.lexer.Token.{Token}
use Rattle.hib_lex.proofs.Lexed.{is_lexed, are_lexed}
use Rattle.hib_mapping.specs.Parts.{word_of, entity_at}
use Rattle.hib_mapping.proofs.Places.{placed}
use Rattle.hib_statements.specs.Parts.{is_key, size_in, key_in, key_of, before_cells, cells_of, are_typed}
use Rattle.hib_statements.specs.Rows.{version_of, with_version, behind_version, versioned_told, told_in, versioning_of, has_key, is_small_version, fitted_row, row_told, row_at_entity, row_of}
use Rattle.hib_statements.specs.declared.rows.Told.{Told}

-- ---- cells
abbrev pub are_cells : List Cell → Bool
are_cells cs = list_all (λ c. is_cell c) cs

before_sound : (c : Option Cell) (cs : Option (List Cell)) → Then c (λ c. is_cell c ≡ true) → Then cs (λ cs. are_cells cs ≡ true) → Then (before_cells c cs) (λ cs. are_cells cs ≡ true)
before_sound None cs f g = tt
before_sound (Some c) None f g = tt
before_sound (Some c) (Some cs) f g = and_from (is_cell c) (are_cells cs) f g

pub cells_sound : (ts : List Token) → are_lexed ts ≡ true → Then (cells_of ts) (λ cs. are_cells cs ≡ true)
cells_sound [] h = refl
cells_sound (t ∷ ts) h =
    let both : (is_lexed t ≡ true) × (are_lexed ts ≡ true) = and_parts (is_lexed t) (are_lexed ts) h in
    before_sound (cell_of t) (cells_of ts) (cell_sound t both.0) (cells_sound ts both.1)

fewer : (m n : ℕ) → (suc m == suc n) ≡ true → (m == n) ≡ true
fewer m n h = let e : suc m ≡ suc n = eqb-true (suc m) (suc n) h in eq-eqb m n (omega arith)

pub typed_all : (ds : List ColumnDef) (cs : List Cell) → (length ds == length cs) ≡ true → are_typed ds cs ≡ true → are_cells cs ≡ true → are_of_types ds cs ≡ true
typed_all [] [] e h i = refl
typed_all [] (c ∷ cs) e h i = let z : 0 ≡ suc (length cs) = eqb-true 0 (suc (length cs)) e in absurd (omega (arith, z))
typed_all (d ∷ ds) [] e h i = let z : suc (length ds) ≡ 0 = eqb-true (suc (length ds)) 0 e in absurd (omega (arith, z))
typed_all (d ∷ ds) (c ∷ cs) e h i =
    let typed : (has_type d.kind c ≡ true) × (are_typed ds cs ≡ true) = and_parts (has_type d.kind c) (are_typed ds cs) h in
    let sound : (is_cell c ≡ true) × (are_cells cs ≡ true) = and_parts (is_cell c) (are_cells cs) i in
    and_from (is_of_type d.kind c) (are_of_types ds cs) (typed_one d.kind c typed.0 sound.0) (typed_all ds cs (fewer (length ds) (length cs) e) typed.1 sound.1)

-- ---- versions
abbrev is_versioned_so : Bool → Option ℕ → Bool
is_versioned_so true (Some v) = true
is_versioned_so false None = true
is_versioned_so _ _ = false

version_small : (b : Bool) (o : Option ℕ) → is_versioned_so b o ≡ true → is_small_version o ≡ true → is_version b o ≡ true
version_small true (Some v) f h = let l : v ≤ 1000000 = leb-true v 1000000 h in lt-ltb v 4000000000 (omega arith)
version_small false None f h = refl
version_small true None f h = absurd (false≢true f)
version_small false (Some v) f h = absurd (false≢true f)

-- what stands after a key has the version and the cells that it has to
record IsTold (b : Bool) (x : Told) : Type 0 where
  version : is_versioned_so b x.version ≡ true
  cells : are_cells x.cells ≡ true

told_with : (b : Bool) (v : Option ℕ) (cs : Option (List Cell)) → is_versioned_so b v ≡ true → Then cs (λ cs. are_cells cs ≡ true) → Then (with_version v cs) (IsTold b)
told_with b v None f h = tt
told_with b v (Some cs) f h = record { version = f; cells = h }

told_behind : (v : Option ℕ) (ts : List Token) → are_lexed ts ≡ true → Then (behind_version v ts) (IsTold true)
told_behind None ts h = tt
told_behind (Some v) ts h = told_with true (Some v) (cells_of ts) refl (cells_sound ts h)

told_versioned : (ts : List Token) → are_lexed ts ≡ true → Then (versioned_told ts) (IsTold true)
told_versioned [] h = tt
told_versioned (t ∷ ts) h = let both : (is_lexed t ≡ true) × (are_lexed ts ≡ true) = and_parts (is_lexed t) (are_lexed ts) h in told_behind (version_of t) ts both.1

told : (b : Bool) (ts : List Token) → are_lexed ts ≡ true → Then (told_in (Some b) ts) (IsTold b)
told true ts h = told_versioned ts h
told false ts h = told_with false None (cells_of ts) refl (cells_sound ts h)

-- ---- the row
pub size_small : (t : Token) → is_lexed t ≡ true → nat_lt (size_in t) 9223372036854775808 ≡ true
size_small (Token.Number (pos n)) h = h
size_small _ h = refl

-- of an entity that is there, and fitting it; with a version that a script may give, and a key that is new
pub record Fitting (m : List EntityDef) (rows : List (Key × Row)) (x : Key × Row) : Type 0 where
  pub below : is_row_below (length m) x ≡ true
  pub fits : fits_entity (slice_get m x.0.entity) x.0 x.1 ≡ true
  pub given : is_given x ≡ true
  pub fresh : has_key rows x.0 ≡ false

abbrev Fits : EntityDef → Key → Key × Row → Type 0
Fits d k r = (r.0 ≡ k) × (fits_entity (Some d) k r.1 ≡ true) × (is_given r ≡ true)

given_so : (v : Option ℕ) → is_small_version v ≡ true → is_given_version v ≡ true
given_so None h = refl
given_so (Some v) h = h

fitted : (d : EntityDef) (k : Key) (x : Told) → is_identifier k.id ≡ true → IsTold d.versioned x → Gives (fitted_row d.columns k x) (Fits d k)
fitted d k x i t =
    let row : Row = record { version = x.version; cells = x.cells } in
    let done : Result (Key × Row) Kind = Ok (k, row) in
    let typed : Result (Key × Row) Kind = cond (are_typed d.columns x.cells) done (Err Kind.CellType) in
    let P : Key × Row → Type 0 = Fits d k in
    gives_cond (is_small_version x.version) (cond (length d.columns == length x.cells) typed (Err Kind.Cells)) (Err Kind.Number) P
    (λ s. gives_cond (length d.columns == length x.cells) typed (Err Kind.Cells) P
    (λ e. gives_cond (are_typed d.columns x.cells) done (Err Kind.CellType) P
    (λ a. (
      refl,
      and_from (is_identifier k.id) (is_version d.versioned x.version && are_of_types d.columns x.cells) i
          (and_from (is_version d.versioned x.version) (are_of_types d.columns x.cells) (version_small d.versioned x.version t.version s) (typed_all d.columns x.cells e a t.cells)),
      given_so x.version s,
    ))
    (λ _. tt)) (λ _. tt)) (λ _. tt)

pub weaker : {A E : Type 0} (x : Result A E) (P Q : A → Type 0) → ((a : A) → P a → Q a) → Gives x P → Gives x Q
weaker (Err e) P Q f g = tt
weaker (Ok a) P Q f g = f a g

from_key : (d : EntityDef) (rows : List (Key × Row)) (k : Key) (o : Option Told) → is_identifier k.id ≡ true → Then o (IsTold d.versioned) →
    Gives (row_told d.columns rows (Ok k) o) (λ r. Fits d k r × (has_key rows k ≡ false))
from_key d rows k None i t = tt
from_key d rows k (Some x) i t =
    gives_cond (has_key rows k) (Err Kind.Taken) (fitted_row d.columns k x) (λ r. Fits d k r × (has_key rows k ≡ false)) (λ _. tt)
    (λ h. weaker (fitted_row d.columns k x) (Fits d k) (λ r. Fits d k r × (has_key rows k ≡ false)) (λ r f. (f, h)) (fitted d k x i t))

no_key : (ds : List ColumnDef) (rows : List (Key × Row)) (e : Kind) (o : Option Told) (P : Key × Row → Type 0) → Gives (row_told ds rows (Err e) o) P
no_key ds rows e None P = tt
no_key ds rows e (Some x) P = tt

-- of an entity that is declared
at_entity : (m : List EntityDef) (rows : List (Key × Row)) (e n : ℕ) (d : EntityDef) (ts : List Token) → nat_lt e (length m) ≡ true → slice_get m e ≡ Some d →
    nat_lt n 9223372036854775808 ≡ true → are_lexed ts ≡ true → Gives (row_told d.columns rows (key_in (Some e) n) (told_in (Some d.versioned) ts)) (Fitting m rows)
at_entity m rows e n d ts below there small lexed = by_size (nat_le 1 n) refl
  where
    k : Key
    k = record { entity = e; id = n }

    placed_so : (r : Key × Row) → Fits d k r × (has_key rows k ≡ false) → Fitting m rows r
    placed_so r p = record {
      below = subst (λ (j : Key). nat_lt j.entity (length m) ≡ true) (sym p.0.0) below;
      fits = subst (λ (j : Key). fits_entity (slice_get m j.entity) j r.1 ≡ true) (sym p.0.0) (subst (λ (o : Option EntityDef). fits_entity o k r.1 ≡ true) (sym there) p.0.1);
      given = p.0.2;
      fresh = subst (λ (j : Key). has_key rows j ≡ false) (sym p.0.0) p.1;
    }

    by_size : (b : Bool) → nat_le 1 n ≡ b → Gives (row_told d.columns rows (cond b (Ok (record { entity = e; id = n })) (Err Kind.Number)) (told_in (Some d.versioned) ts)) (Fitting m rows)
    by_size true h =
        weaker (row_told d.columns rows (Ok k) (told_in (Some d.versioned) ts)) (λ r. Fits d k r × (has_key rows k ≡ false)) (Fitting m rows) placed_so
        (from_key d rows k (told_in (Some d.versioned) ts) (and_from (nat_le 1 n) (nat_lt n 9223372036854775808) h small) (told d.versioned ts lexed))
    by_size false h = no_key d.columns rows Kind.Number (told_in (Some d.versioned) ts) (Fitting m rows)

missing : (ys : List EntityDef) (j : ℕ) → j < length ys → slice_get ys j ≡ None → ⊥
missing [] j l e = omega (arith, l)
missing (y ∷ ys) zero l e = some_none y e
missing (y ∷ ys) (suc j) l e = missing ys j (omega (arith, l)) e

pub absent : (xs : List EntityDef) (i : ℕ) → nat_lt i (length xs) ≡ true → slice_get xs i ≡ None → ⊥
absent xs i h e = missing xs i (ltb-true i (length xs) h) e

at_found : (m : List EntityDef) (rows : List (Key × Row)) (e : Option ℕ) (n : ℕ) (ts : List Token) → Then e (λ i. nat_lt i (length m) ≡ true) → nat_lt n 9223372036854775808 ≡ true → are_lexed ts ≡ true →
    Gives (row_at_entity m rows e (key_in e n) ts) (Fitting m rows)
at_found m rows None n ts f s h = no_key [] rows Kind.Unknown (told_in None ts) (Fitting m rows)
at_found m rows (Some e) n ts f s h = by_slot (slice_get m e) refl
  where
    by_slot : (o : Option EntityDef) → slice_get m e ≡ o → Gives (row_told (columns_in o) rows (key_in (Some e) n) (told_in (versioning_of o) ts)) (Fitting m rows)
    by_slot None p = absurd (absent m e f p)
    by_slot (Some d) p = at_entity m rows e n d ts f p s h

pub row_fits : (m : List EntityDef) (rows : List (Key × Row)) (ts : List Token) → are_lexed ts ≡ true → Gives (row_of m rows ts) (Fitting m rows)
row_fits m rows (first ∷ name ∷ id ∷ ts) h =
    let a : (is_lexed first ≡ true) × (are_lexed (name ∷ id ∷ ts) ≡ true) = and_parts (is_lexed first) (are_lexed (name ∷ id ∷ ts)) h in
    let b : (is_lexed name ≡ true) × (are_lexed (id ∷ ts) ≡ true) = and_parts (is_lexed name) (are_lexed (id ∷ ts)) a.1 in
    let c : (is_lexed id ≡ true) × (are_lexed ts ≡ true) = and_parts (is_lexed id) (are_lexed ts) b.1 in
    gives_cond (is_key name id) (row_at_entity m rows (entity_at m (word_of name)) (key_of m name id) ts) (Err Kind.Words) (Fitting m rows)
    (λ _. at_found m rows (entity_at m (word_of name)) (size_in id) ts (placed (λ e. bytes_eq e.name (word_of name)) m) (size_small id c.0) c.1) (λ _. tt)
row_fits m rows _ h = tt
