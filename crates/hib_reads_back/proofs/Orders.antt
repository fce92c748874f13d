-- Orders and first rows, read back from their lines.
use Rattle.std.proofs.Common.{◌≡◌, ℕ, zero, suc, ◌≤◌, ◌<◌, ◌^◌, Bool, true, false, cond, ◌&&◌, nat_le, nat_lt, List, [], ◌∷◌, ◌++◌, length, map, slice_get, codes, Some, None, Option, Ok, Err, Result, option_and_then, refl, ap, subst, ◌∙◌, arith}
use Rattle.std.specs.Fmt.{decimal}
use Rattle.std.proofs.lemmas.Bool.{and_parts, lt-ltb, le-leb, leb-true, ltb-true}
use Rattle.hib_base.specs.declared.numbers.Key.{Key}
use Rattle.hib_base.specs.declared.rows.Row.{Row}
use Rattle.hib_base.specs.declared.rows.Cell.{Cell}
use Rattle.hib_base.specs.declared.scripts.ColumnDef.{ColumnDef}
use Rattle.hib_base.specs.declared.scripts.EntityDef.{EntityDef}
use Rattle.hib_base.specs.declared.scripts.Order.{Order}
use Rattle.hib_base.specs.declared.scripts.Script.{Script}
use Rattle.hib_base.specs.Fits.{are_of_types, is_identifier, is_version, fits_entity}
use Rattle.hib_base.specs.Scripts.{is_cached_in, evicts_cached}
use Rattle.hib_base.specs.Valid.{is_order_in, is_given_version}
use Rattle.hib_base.specs.Words.{are_names}
use Rattle.hib_base.specs.declared.refusals.Kind.{Kind}
use Rattle.hib_lex.specs.declared.lexer.Token.{Token}
use Rattle.hib_mapping.specs.Parts.{entity_at}
use Rattle.hib_columns.specs.Columns.{columns_in}
use Rattle.hib_statements.specs.Parts.{key_of}
use Rattle.hib_statements.specs.Orders.{small32, session_at, run_from, kill_from, evicted, evict_from, order_of}
use Rattle.hib_statements.specs.Rows.{version_of, with_version, behind_version, versioned_told, told_in, versioning_of, has_key, fitted_row, row_from, row_told, row_at_entity, row_of}
use Rattle.hib_statements.specs.declared.rows.Told.{Told}
use Rattle.hib_print.specs.Lines.{natural, cell_tokens, version_tokens, row_line, order_line}
use Rattle.hib_texts.specs.Texts.{entity_text, session_name, session_text}
use Rattle.hib_reads_back.proofs.Numbers.{shaped, tells}
use Rattle.hib_reads_back.proofs.Named.{Got, got, named_at, names_apart}
use Rattle.hib_reads_back.proofs.Cells.{cells_back, types_back, cell_count, Mapped, entity_back, key_back}

-- ---- orders
pub record Sessioned (script : Script) : Type 0 where
  pub few : length script.sessions ≤ 1000
  pub named : are_names (map (λ d. d.name) script.sessions) ≡ true

session_back : (script : Script) (n : ℕ) → Sessioned script → n < length script.sessions → session_at script.sessions (session_text script n) ≡ Some n
session_back script n s h =
    let ss = script.sessions in
    let g : Got ss n = got ss n h in
    let few : length ss ≤ 1000 = s.few in
    ap (λ o. session_at ss (session_name o)) g.there
    ∙ (ap (λ p. option_and_then small32 p) (named_at (λ d. d.name) ss n g.value (names_apart (map (λ d. d.name) ss) s.named) g.there) ∙ rw (lt-ltb n (2 ^ 32) (omega arith)) refl)

run_back : (o : Option ℕ) (n steps : ℕ) → o ≡ Some n → nat_le 1 steps ≡ true → nat_le steps 1000000 ≡ true → run_from o (natural steps) ≡ Ok (Order.Run n steps)
run_back o n steps e f g = rw (e, f, g) refl

pub cached_there : (m : List EntityDef) (n : ℕ) → is_cached_in m n ≡ true → n < length m
cached_there [] n h = absurd (cc)
cached_there (e ∷ m) zero h = omega arith
cached_there (e ∷ m) (suc n) h = let l : n < length m = cached_there m n h in omega arith

evict_back : (m : List EntityDef) (name id : Token) (o : Option ℕ) (n : ℕ) (k : Key) → o ≡ Some n → is_cached_in m n ≡ true → key_of m name id ≡ Ok k → evict_from m name id o ≡ Ok (Order.Evict k)
evict_back m name id o n k e f g = ap (λ x. evict_from m name id x) e ∙ rw f (ap (λ r. evicted r) g)

pub order_back : (script : Script) (o : Order) → Mapped script.mapping → Sessioned script → is_order_in (length script.sessions) o ≡ true → evicts_cached script.mapping o ≡ true →
    order_of script.mapping script.sessions (order_line script o) ≡ Ok o
order_back script (Order.Run n steps) w s h c =
    let parts : (nat_lt n (length script.sessions) ≡ true) × ((nat_le 1 steps && nat_le steps 1000000) ≡ true) = and_parts (nat_lt n (length script.sessions)) (nat_le 1 steps && nat_le steps 1000000) h in
    let within : (nat_le 1 steps ≡ true) × (nat_le steps 1000000 ≡ true) = and_parts (nat_le 1 steps) (nat_le steps 1000000) parts.1 in
    run_back (session_at script.sessions (session_text script n)) n steps (session_back script n s (ltb-true n (length script.sessions) parts.0)) within.0 within.1
order_back script (Order.Kill n) w s h c = ap (λ o. kill_from o) (session_back script n s (ltb-true n (length script.sessions) h))
order_back script (Order.Evict k) w s h c =
    let low : k.entity < length script.mapping = cached_there script.mapping k.entity c in
    evict_back script.mapping (Token.Word (entity_text script k.entity)) (natural k.id) (entity_at script.mapping (entity_text script k.entity)) k.entity k (entity_back script k.entity w low) c
    (key_back script k w low h)
order_back script Order.Restart w s h c = refl

-- ---- rows
version_back : (v : ℕ) → v ≤ 1000000 → version_of (Token.Word (codes "v" ++ decimal v)) ≡ Some v
version_back v h =
    let t = tells v (omega arith) in
    rw (shaped v (omega arith), t.size, le-leb v 1000000 h) refl

abbrev told_row : Option ℕ → List Cell → Told
told_row v cs = record { version = v; cells = cs }

told_versioned : (v : ℕ) (cs : List Cell) → v ≤ 1000000 → versioned_told (version_tokens (Some v) ++ cell_tokens cs) ≡ Some (told_row (Some v) cs)
told_versioned v cs h = ap (λ o. behind_version o (cell_tokens cs)) (version_back v h) ∙ ap (λ o. with_version (Some v) o) (cells_back cs)

told_back : (versioned : Bool) (v : Option ℕ) (cs : List Cell) → is_version versioned v ≡ true → is_given_version v ≡ true → told_in (Some versioned) (version_tokens v ++ cell_tokens cs) ≡ Some (told_row v cs)
told_back true None cs h g = absurd (cc)
told_back true (Some v) cs h g = told_versioned v cs (leb-true v 1000000 g)
told_back false None cs h g = ap (λ o. with_version None o) (cells_back cs)
told_back false (Some v) cs h g = absurd (cc)

row_fitted : (ds : List ColumnDef) (k : Key) (r : Row) → is_given_version r.version ≡ true → are_of_types ds r.cells ≡ true → fitted_row ds k (told_row r.version r.cells) ≡ Ok (k, r)
row_fitted ds k r g h = small r.version g
  where
    small : (v : Option ℕ) → is_given_version v ≡ true → fitted_row ds k (told_row v r.cells) ≡ Ok (k, record { version = v; cells = r.cells })
    small None e = rw (cell_count ds r.cells h, types_back ds r.cells h) refl
    small (Some v) e = rw (e, cell_count ds r.cells h, types_back ds r.cells h) refl

row_parts_back : (m : List EntityDef) (rows : List (Key × Row)) (o : Option ℕ) (r : Result Key Kind) (ts : List Token) (n : ℕ) (k : Key) (d : EntityDef) (t : Told) →
    o ≡ Some n → r ≡ Ok k → slice_get m n ≡ Some d → told_in (Some d.versioned) ts ≡ Some t → has_key rows k ≡ false → row_at_entity m rows o r ts ≡ fitted_row d.columns k t
row_parts_back m rows o r ts n k d t e f g h i =
    ap (λ x. row_at_entity m rows x r ts) e
    ∙ (ap (λ x. row_told (columns_in x) rows r (told_in (versioning_of x) ts)) g
    ∙ (ap (λ x. row_told d.columns rows r x) h ∙ (ap (λ x. row_from d.columns rows x t) f ∙ ap (λ b. cond b (Err Kind.Taken) (fitted_row d.columns k t)) i)))

pub row_back : (script : Script) (rows : List (Key × Row)) (x : Key × Row) → Mapped script.mapping → x.0.entity < length script.mapping →
    fits_entity (slice_get script.mapping x.0.entity) x.0 x.1 ≡ true → is_given_version x.1.version ≡ true → has_key rows x.0 ≡ false → row_of script.mapping rows (row_line script x) ≡ Ok x
row_back script rows x w low fit given free =
    let m = script.mapping in
    let k : Key = x.0 in
    let g : Got m k.entity = got m k.entity low in
    let d : EntityDef = g.value in
    let fits : fits_entity (Some d) k x.1 ≡ true = subst (λ o. fits_entity o k x.1 ≡ true) g.there fit in
    let parts : (is_identifier k.id ≡ true) × ((is_version d.versioned x.1.version && are_of_types d.columns x.1.cells) ≡ true) =
    and_parts (is_identifier k.id) (is_version d.versioned x.1.version && are_of_types d.columns x.1.cells) fits in
    let rest : (is_version d.versioned x.1.version ≡ true) × (are_of_types d.columns x.1.cells ≡ true) = and_parts (is_version d.versioned x.1.version) (are_of_types d.columns x.1.cells) parts.1 in
    row_parts_back m rows (entity_at m (entity_text script k.entity)) (key_of m (Token.Word (entity_text script k.entity)) (natural k.id)) (version_tokens x.1.version ++ cell_tokens x.1.cells) k.entity k d
    (told_row x.1.version x.1.cells) (entity_back script k.entity w low) (key_back script k w low parts.0) g.there (told_back d.versioned x.1.version x.1.cells rest.0 given) free
    ∙ row_fitted d.columns k x.1 given rest.1
