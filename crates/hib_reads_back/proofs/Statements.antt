-- Statements and orders, read back from their lines.
use Rattle.std.proofs.Common.{◌≡◌, ℕ, ◌+◌, ◌≤◌, ◌<◌, Bool, true, false, not, cond, ◌&&◌, ◌==◌, nat_le, nat_lt, List, [], ◌∷◌, ◌++◌, length, map, slice_get, bytes_eq, flat_map, Some, None, Option, Ok, Result, option_and_then, refl, sym, ap, subst, ◌∙◌, append_assoc, length-append, arith, eq-eqb}
use Rattle.std.specs.List.{list_all, list_any}
use Rattle.std.proofs.lemmas.Bool.{and_parts, and_from, or_parts, or_from, not-true, not_from_false, lt-ltb, leb-true, ltb-true, false_from_ne_true, true≢false}
use Rattle.std.proofs.lemmas.List.{append-nil}
use Rattle.std.proofs.lemmas.Slice.Eq.{bytes_eq-Decides}
use Rattle.hib_base.specs.declared.numbers.Key.{Key}
use Rattle.hib_base.specs.declared.rows.Cell.{Cell}
use Rattle.hib_base.specs.declared.scripts.ColumnType.{ColumnType}
use Rattle.hib_base.specs.declared.scripts.ColumnDef.{ColumnDef}
use Rattle.hib_base.specs.declared.scripts.EntityDef.{EntityDef}
use Rattle.hib_base.specs.declared.scripts.Mode.{Mode}
use Rattle.hib_base.specs.declared.scripts.Statement.{Statement}
use Rattle.hib_base.specs.declared.scripts.Script.{Script}
use Rattle.hib_base.specs.Apart.{are_apart_by}
use Rattle.hib_base.specs.Fits.{are_of_types, is_identifier, entity_columns, kind_in, is_of_type_in, is_key_in, is_set, are_sets, fits_statement}
use Rattle.hib_base.specs.Scripts.{is_known}
use Rattle.hib_base.specs.Words.{are_names, has_name}
use Rattle.hib_base.specs.declared.refusals.Kind.{Kind}
use Rattle.hib_lex.specs.declared.lexer.Token.{Token}
use Rattle.hib_mapping.specs.Parts.{small, entity_at}
use Rattle.std.specs.Prelude.{is_none}
use Rattle.hib_columns.specs.Columns.{columns_in, columns_of, plain_column, at_place, found_at}
use Rattle.hib_mapping.specs.Cells.{cell_of, has_type}
use Rattle.hib_columns.specs.declared.columns.Found.{Found}
use Rattle.hib_statements.specs.Parts.{key_of, cells_of, at, with_cell, pairs_from, pairs_of}
use Rattle.hib_statements.specs.Statements.{found, removed, fitted, persisted, set_from, query_at, listed, statement_of}
use Rattle.hib_statements.specs.declared.parts.Awaited.{Awaited}
use Rattle.hib_statements.specs.declared.parts.Pairs.{Pairs}
use Rattle.hib_print.specs.Lines.{natural, cell_token, cell_tokens, set_tokens, statement_line}
use Rattle.hib_texts.specs.Texts.{entity_text, query_text, column_name, column_in}
use Rattle.hib_reads_back.proofs.Named.{some_same, Got, got, got_below, named_at, names_apart}
use Rattle.hib_reads_back.proofs.Cells.{cell_back, cells_back, type_back, types_back, cell_count, Mapped, column_found, entity_back, key_back}

-- ---- keys
key_low : (m : List EntityDef) (k : Key) → is_key_in m k ≡ true → k.entity < length m
key_low m k h = ltb-true k.entity (length m) (and_parts (nat_lt k.entity (length m)) (is_identifier k.id) h).0

key_id : (m : List EntityDef) (k : Key) → is_key_in m k ≡ true → is_identifier k.id ≡ true
key_id m k h = (and_parts (nat_lt k.entity (length m)) (is_identifier k.id) h).1

keyed : (script : Script) (k : Key) → Mapped script.mapping → is_key_in script.mapping k ≡ true → key_of script.mapping (Token.Word (entity_text script k.entity)) (natural k.id) ≡ Ok k
keyed script k w h = key_back script k w (key_low script.mapping k h) (key_id script.mapping k h)

-- ---- persist
fits_whole : (ds : List ColumnDef) (k : Key) (cs : List Cell) → are_of_types ds cs ≡ true → fitted ds k cs ≡ Ok (Statement.Persist k cs)
fits_whole ds k cs h = rw (cell_count ds cs h, types_back ds cs h) refl

persist_parts : (m : List EntityDef) (o : Option ℕ) (r : Result Key Kind) (c : Option (List Cell)) (n : ℕ) (k : Key) (cs : List Cell) → o ≡ Some n → r ≡ Ok k → c ≡ Some cs →
    persisted (columns_of m o) r c ≡ fitted (entity_columns m n) k cs
persist_parts m o r c n k cs e f g = rw (e, f, g) refl

persist_back : (script : Script) (names : List (List ℕ)) (k : Key) (cs : List Cell) → Mapped script.mapping → fits_statement script.mapping (Statement.Persist k cs) ≡ true →
    statement_of script.mapping names (statement_line script (Statement.Persist k cs)) ≡ Ok (Statement.Persist k cs)
persist_back script names k cs w h =
    let m = script.mapping in
    let both : (is_key_in m k ≡ true) × (are_of_types (entity_columns m k.entity) cs ≡ true) = and_parts (is_key_in m k) (are_of_types (entity_columns m k.entity) cs) h in
    persist_parts m (entity_at m (entity_text script k.entity)) (key_of m (Token.Word (entity_text script k.entity)) (natural k.id)) (cells_of (cell_tokens cs)) k.entity k cs
    (entity_back script k.entity w (key_low m k both.0)) (keyed script k w both.0) (cells_back cs)
    ∙ fits_whole (entity_columns m k.entity) k cs both.1

-- ---- set
-- what is read of pairs whose columns are known, differ, and have cells of their types
abbrev read_pairs : List (ℕ × Cell) → List (List ℕ) → Pairs
read_pairs xs ns = record { sets = xs; names = ns; taken = false; unknown = false; mistyped = false }

-- columns with names
record Named (ds : List ColumnDef) : Type 0 where
  few : length ds ≤ 16
  names : are_names (map (λ x. x.name) ds) ≡ true

column_place : (ds : List ColumnDef) (c : ℕ) (d : ColumnDef) → Named ds → slice_get ds c ≡ Some d → plain_column ds d.name ≡ Some (record { place = c; kind = d.kind })
column_place ds c d n h = ap (λ p. option_and_then (λ i. at_place ds i) p) (column_found ds c d n.few n.names h) ∙ ap (λ x. found_at c x) h

-- a pair of a column and a cell of its type
record Paired (ds : List ColumnDef) (x : ℕ × Cell) : Type 0 where
  column : ColumnDef
  there : slice_get ds x.0 ≡ Some column
  typed : has_type column.kind x.1 ≡ true

typed_in : (ds : List ColumnDef) (x : ℕ × Cell) (o : Option ColumnDef) → slice_get ds x.0 ≡ o → is_of_type_in (kind_in o) x.1 ≡ true → Paired ds x
typed_in ds x None e h = absurd (cc)
typed_in ds x (Some d) e h = record { column = d; there = e; typed = type_back d.kind x.1 h }

paired : (ds : List ColumnDef) (x : ℕ × Cell) → is_set ds x ≡ true → Paired ds x
paired ds x h = typed_in ds x (slice_get ds x.0) refl h

-- the name of a column by its place
abbrev name_of : List ColumnDef → ℕ → List ℕ
name_of ds c = column_name (slice_get ds c)

abbrev pair_tokens : List ColumnDef → ℕ × Cell → List Token
pair_tokens ds x = Token.Word (name_of ds x.0) ∷ cell_token x.1 ∷ []

pair_read : (ds : List ColumnDef) (done : List (ℕ × Cell)) (ns : List (List ℕ)) (x : ℕ × Cell) (rest : List Token) → Named ds → is_set ds x ≡ true → has_name ns (name_of ds x.0) ≡ false →
    pairs_from ds (at (read_pairs done ns) Awaited.Name) (pair_tokens ds x ++ rest) ≡ pairs_from ds (at (read_pairs (done ++ x ∷ []) (ns ++ name_of ds x.0 ∷ [])) Awaited.Name) rest
pair_read ds done ns x rest n h f =
    let p = paired ds x h in
    let shown : name_of ds x.0 ≡ p.column.name = ap (λ o. column_name o) p.there in
    let place : plain_column ds (name_of ds x.0) ≡ Some (record { place = x.0; kind = p.column.kind }) = ap (λ w. plain_column ds w) shown ∙ column_place ds x.0 p.column n p.there in
    step (plain_column ds (name_of ds x.0)) (cell_of (cell_token x.1)) (has_name ns (name_of ds x.0)) p.column.kind place (cell_back x.1) f p.typed
  where
    step : (o : Option Found) (c : Option Cell) (t : Bool) (k : ColumnType) → o ≡ Some (record { place = x.0; kind = k }) → c ≡ Some x.1 → t ≡ false → has_type k x.1 ≡ true →
        pairs_from ds (with_cell (record { sets = done; names = ns ++ name_of ds x.0 ∷ []; taken = t; unknown = is_none o; mistyped = false }) o c) rest ≡
        pairs_from ds (at (read_pairs (done ++ x ∷ []) (ns ++ name_of ds x.0 ∷ [])) Awaited.Name) rest
    step o c t k e g b y = rw (e, g, b, y) refl

abbrev found_as : ℕ → ColumnType → Found
found_as i k = record { place = i; kind = k }

-- two places with one name are one
one_place : (ds : List ColumnDef) (x y : ℕ × Cell) → Named ds → is_set ds x ≡ true → is_set ds y ≡ true → bytes_eq (name_of ds x.0) (name_of ds y.0) ≡ true → x.0 ≡ y.0
one_place ds x y n h g e =
    let p = paired ds x h in
    let q = paired ds y g in
    let same : name_of ds x.0 ≡ name_of ds y.0 = (bytes_eq-Decides (name_of ds x.0) (name_of ds y.0)).0 e in
    let first : plain_column ds (name_of ds x.0) ≡ Some (record { place = x.0; kind = p.column.kind }) = ap (λ o. plain_column ds (column_name o)) p.there ∙ column_place ds x.0 p.column n p.there in
    let second : plain_column ds (name_of ds y.0) ≡ Some (record { place = y.0; kind = q.column.kind }) = ap (λ o. plain_column ds (column_name o)) q.there ∙ column_place ds y.0 q.column n q.there in
    place_same x.0 y.0 p.column.kind q.column.kind (sym first ∙ (ap (λ w. plain_column ds w) same ∙ second))
  where
    place_same : (i j : ℕ) (k l : ColumnType) → Some (found_as i k) ≡ Some (found_as j l) → i ≡ j
    place_same i j k l e = ap (λ f. f.place) (some_same (found_as i k) (found_as j l) e)

-- whose names aren't there yet
abbrev is_fresh : List ColumnDef → List (List ℕ) → ℕ × Cell → Bool
is_fresh ds ns x = not (has_name ns (name_of ds x.0))

name_more : (ns : List (List ℕ)) (v w : List ℕ) → has_name ns w ≡ false → bytes_eq v w ≡ false → has_name (ns ++ v ∷ []) w ≡ false
name_more [] v w h e = or_from (bytes_eq v w) false e refl
name_more (u ∷ ns) v w h e =
    let both : (bytes_eq u w ≡ false) × (has_name ns w ≡ false) = or_parts (bytes_eq u w) (has_name ns w) h in
    or_from (bytes_eq u w) (has_name (ns ++ v ∷ []) w) both.0 (name_more ns v w both.1 e)

fresh_more : (ds : List ColumnDef) (ns : List (List ℕ)) (x : ℕ × Cell) (ys : List (ℕ × Cell)) → Named ds → is_set ds x ≡ true → list_all (λ y. is_set ds y) ys ≡ true →
    list_any (λ c. c == x.0) (map (λ y. y.0) ys) ≡ false → list_all (λ y. is_fresh ds ns y) ys ≡ true → list_all (λ y. is_fresh ds (ns ++ name_of ds x.0 ∷ []) y) ys ≡ true
fresh_more ds ns x [] n h g a f = refl
fresh_more ds ns x (y ∷ ys) n h g a f =
    let set : (is_set ds y ≡ true) × (list_all (λ z. is_set ds z) ys ≡ true) = and_parts (is_set ds y) (list_all (λ z. is_set ds z) ys) g in
    let apart : ((y.0 == x.0) ≡ false) × (list_any (λ c. c == x.0) (map (λ z. z.0) ys) ≡ false) = or_parts (y.0 == x.0) (list_any (λ c. c == x.0) (map (λ z. z.0) ys)) a in
    let fresh : (is_fresh ds ns y ≡ true) × (list_all (λ z. is_fresh ds ns z) ys ≡ true) = and_parts (is_fresh ds ns y) (list_all (λ z. is_fresh ds ns z) ys) f in
    let other : bytes_eq (name_of ds x.0) (name_of ds y.0) ≡ false =
    false_from_ne_true (bytes_eq (name_of ds x.0) (name_of ds y.0)) (λ e. true≢false (sym (eq-eqb y.0 x.0 (sym (one_place ds x y n h set.0 e))) ∙ apart.0)) in
    and_from (is_fresh ds (ns ++ name_of ds x.0 ∷ []) y) (list_all (λ z. is_fresh ds (ns ++ name_of ds x.0 ∷ []) z) ys)
    (not_from_false (has_name (ns ++ name_of ds x.0 ∷ []) (name_of ds y.0)) (name_more ns (name_of ds x.0) (name_of ds y.0) (not-true (has_name ns (name_of ds y.0)) fresh.0) other))
    (fresh_more ds ns x ys n h set.1 apart.1 fresh.1)

-- what is read of such pairs
record AreRead (xs : List (ℕ × Cell)) (o : Option Pairs) : Type 0 where
  names : List (List ℕ)
  same : o ≡ Some (read_pairs xs names)

pairs_read : (ds : List ColumnDef) (done : List (ℕ × Cell)) (ns : List (List ℕ)) (xs : List (ℕ × Cell)) → Named ds → list_all (λ x. is_set ds x) xs ≡ true → are_apart_by (λ c d. c == d) (map (λ x. x.0) xs) ≡ true →
    list_all (λ x. is_fresh ds ns x) xs ≡ true → 0 < length done + length xs →
    AreRead (done ++ xs) (pairs_from ds (at (read_pairs done ns) Awaited.Name) (flat_map (λ x. pair_tokens ds x) xs))
pairs_read ds done ns [] n h a f l = record { names = ns; same = ending (length done) (omega (arith, l)) }
  where
    ending : (k : ℕ) → 0 < k → cond (nat_lt 0 k && true) (Some (read_pairs done ns)) None ≡ Some (read_pairs (done ++ []) ns)
    ending k g = rw (lt-ltb 0 k g, append-nil done) refl
pairs_read ds done ns (x ∷ xs) n h a f l =
    let set : (is_set ds x ≡ true) × (list_all (λ y. is_set ds y) xs ≡ true) = and_parts (is_set ds x) (list_all (λ y. is_set ds y) xs) h in
    let apart : (not (list_any (λ c. c == x.0) (map (λ y. y.0) xs)) ≡ true) × (are_apart_by (λ c d. c == d) (map (λ y. y.0) xs) ≡ true) =
    and_parts (not (list_any (λ c. c == x.0) (map (λ y. y.0) xs))) (are_apart_by (λ c d. c == d) (map (λ y. y.0) xs)) a in
    let fresh : (is_fresh ds ns x ≡ true) × (list_all (λ y. is_fresh ds ns y) xs ≡ true) = and_parts (is_fresh ds ns x) (list_all (λ y. is_fresh ds ns y) xs) f in
    let w : List ℕ = name_of ds x.0 in
    let on = pair_read ds done ns x (flat_map (λ y. pair_tokens ds y) xs) n set.0 (not-true (has_name ns w) fresh.0) in
    let rest : AreRead ((done ++ x ∷ []) ++ xs) (pairs_from ds (at (read_pairs (done ++ x ∷ []) (ns ++ w ∷ [])) Awaited.Name) (flat_map (λ y. pair_tokens ds y) xs)) =
    pairs_read ds (done ++ x ∷ []) (ns ++ w ∷ []) xs n set.1 apart.1
    (fresh_more ds ns x xs n set.0 set.1 (not-true (list_any (λ c. c == x.0) (map (λ y. y.0) xs)) apart.0) fresh.1) (omega (arith, length-append done (x ∷ []))) in
    record { names = rest.names; same = on ∙ (rest.same ∙ ap (λ z. Some (read_pairs z rest.names)) (append_assoc done (x ∷ []) xs)) }

none_fresh : (ds : List ColumnDef) (xs : List (ℕ × Cell)) → list_all (λ x. is_fresh ds [] x) xs ≡ true
none_fresh ds [] = refl
none_fresh ds (x ∷ xs) = none_fresh ds xs

-- the tokens of pairs, of an entity if there is one
abbrev tokens_in : Option EntityDef → List (ℕ × Cell) → List Token
tokens_in o xs = flat_map (λ x. Token.Word (column_in o x.0) ∷ cell_token x.1 ∷ []) xs

set_ok : (m : List EntityDef) (o : Option ℕ) (r : Result Key Kind) (p : Option Pairs) (n : ℕ) (k : Key) (xs : List (ℕ × Cell)) (ns : List (List ℕ)) → r ≡ Ok k → p ≡ Some (read_pairs xs ns) →
    set_from r p ≡ Ok (Statement.Set k xs)
set_ok m o r p n k xs ns f g = rw (f, g) refl

set_back : (script : Script) (names : List (List ℕ)) (k : Key) (xs : List (ℕ × Cell)) → Mapped script.mapping → fits_statement script.mapping (Statement.Set k xs) ≡ true →
    statement_of script.mapping names (statement_line script (Statement.Set k xs)) ≡ Ok (Statement.Set k xs)
set_back script names k xs w h =
    let m = script.mapping in
    let both : (is_key_in m k ≡ true) × (are_sets (entity_columns m k.entity) xs ≡ true) = and_parts (is_key_in m k) (are_sets (entity_columns m k.entity) xs) h in
    let g : Got m k.entity = got m k.entity (key_low m k both.0) in
    let ds : List ColumnDef = g.value.columns in
    let columns : entity_columns m k.entity ≡ ds = ap (λ o. columns_in o) g.there in
    let sets : are_sets ds xs ≡ true = subst (λ x. are_sets x xs ≡ true) columns both.1 in
    let some : (nat_le 1 (length xs) ≡ true) × ((list_all (λ x. is_set ds x) xs && are_apart_by (λ c d. c == d) (map (λ x. x.0) xs)) ≡ true) =
    and_parts (nat_le 1 (length xs)) (list_all (λ x. is_set ds x) xs && are_apart_by (λ c d. c == d) (map (λ x. x.0) xs)) sets in
    let rest : (list_all (λ x. is_set ds x) xs ≡ true) × (are_apart_by (λ c d. c == d) (map (λ x. x.0) xs) ≡ true) =
    and_parts (list_all (λ x. is_set ds x) xs) (are_apart_by (λ c d. c == d) (map (λ x. x.0) xs)) some.1 in
    let n : Named ds = record { few = w.columns k.entity g.value g.there; names = w.column_names k.entity g.value g.there } in
    let one : 1 ≤ length xs = leb-true 1 (length xs) some.0 in
    let read : AreRead xs (pairs_of ds (flat_map (λ x. pair_tokens ds x) xs)) = pairs_read ds [] [] xs n rest.0 rest.1 (none_fresh ds xs) (omega (arith, one)) in
    let named : columns_of m (entity_at m (entity_text script k.entity)) ≡ ds = ap (λ o. columns_of m o) (entity_back script k.entity w (key_low m k both.0)) ∙ columns in
    let same : pairs_of (columns_of m (entity_at m (entity_text script k.entity))) (flat_map (λ x. set_tokens script k.entity x) xs) ≡ pairs_of ds (flat_map (λ x. pair_tokens ds x) xs) =
    ap (λ c. pairs_of c (flat_map (λ x. set_tokens script k.entity x) xs)) named ∙ ap (λ o. pairs_of ds (tokens_in o xs)) g.there in
    set_ok m (entity_at m (entity_text script k.entity)) (key_of m (Token.Word (entity_text script k.entity)) (natural k.id))
    (pairs_of (columns_of m (entity_at m (entity_text script k.entity))) (flat_map (λ x. set_tokens script k.entity x) xs)) k.entity k xs read.names (keyed script k w both.0) (same ∙ read.same)

-- ---- list
same_map : (ws : List (List ℕ)) → map (λ v. v) ws ≡ ws
same_map [] = refl
same_map (w ∷ ws) = rw (same_map ws) refl

query_found : (names : List (List ℕ)) (n : ℕ) (w : List ℕ) → length names ≤ 1000 → are_names names ≡ true → slice_get names n ≡ Some w → query_at names w ≡ Some n
query_found names n w few h e =
    let low : n < length names = got_below names n w e in
    let apart : are_names (map (λ v. v) names) ≡ true = subst (λ x. are_names x ≡ true) (sym (same_map names)) h in
    ap (λ p. option_and_then small p) (named_at (λ v. v) names n w (names_apart (map (λ v. v) names) apart) e) ∙ rw (lt-ltb n 65536 (omega arith)) refl

-- the names of the queries are those of the script's
pub record Queried (script : Script) (names : List (List ℕ)) : Type 0 where
  pub few : length names ≤ 1000
  pub named : are_names names ≡ true
  pub there : (n : ℕ) → n < length script.queries → slice_get names n ≡ Some (query_text script n)

list_back : (script : Script) (names : List (List ℕ)) (n : ℕ) → Queried script names → n < length script.queries →
    statement_of script.mapping names (statement_line script (Statement.List n)) ≡ Ok (Statement.List n)
list_back script names n q h = ap (λ o. listed o) (query_found names n (query_text script n) q.few q.named (q.there n h))

mode_back : (script : Script) (names : List (List ℕ)) (m : Mode) → statement_of script.mapping names (statement_line script (Statement.Mode m)) ≡ Ok (Statement.Mode m)
mode_back script names Mode.Normal = refl
mode_back script names Mode.Ignore = refl
mode_back script names Mode.Get = refl
mode_back script names Mode.Put = refl

-- ---- a statement
pub statement_back : (script : Script) (names : List (List ℕ)) (t : Statement) → Mapped script.mapping → Queried script names → fits_statement script.mapping t ≡ true →
    is_known (length script.queries) t ≡ true → statement_of script.mapping names (statement_line script t) ≡ Ok t
statement_back script names (Statement.Find k) w q h g = ap (λ r. found r) (keyed script k w h)
statement_back script names (Statement.Persist k cs) w q h g = persist_back script names k cs w h
statement_back script names (Statement.Set k xs) w q h g = set_back script names k xs w h
statement_back script names (Statement.Remove k) w q h g = ap (λ r. removed r) (keyed script k w h)
statement_back script names (Statement.List n) w q h g = list_back script names n q (ltb-true n (length script.queries) g)
statement_back script names Statement.Flush w q h g = refl
statement_back script names Statement.Clear w q h g = refl
statement_back script names (Statement.Mode m) w q h g = mode_back script names m
statement_back script names Statement.Commit w q h g = refl
statement_back script names Statement.Rollback w q h g = refl
