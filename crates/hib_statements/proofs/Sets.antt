-- The pairs of a `set` are of columns that are there, none of them twice, with cells of their types.
use Rattle.std.proofs.Common.{◌≡◌, ℕ, Bool, true, false, not, cond, ◌&&◌, ◌||◌, ◌==◌, nat_lt, List, [], ◌∷◌, ◌++◌, length, map, Option, Some, None, refl, sym, ◌∙◌, ap, subst}
use Rattle.std.specs.Prelude.{slice_get, is_none, is_some, bytes_eq, option_and_then, position}
use Rattle.std.specs.List.{list_all, list_any}
use Rattle.std.proofs.lemmas.Bool.{and_parts, and_from, or_parts, or_from, eqb-true, true≢false, false≢true, false_from_ne_true}
use Rattle.std.proofs.lemmas.Slice.Eq.{bytes_eq-Decides}
use Rattle.hib_base.specs.Apart.{are_apart_by}
use Rattle.hib_base.specs.Fits.{is_of_type_in, is_set, are_sets}
use Rattle.hib_base.specs.Words.{has_name, are_apart}
use Rattle.hib_base.specs.declared.rows.Cell.{Cell}
use Rattle.hib_base.specs.declared.scripts.ColumnDef.{ColumnDef}
use Rattle.hib_base.specs.declared.scripts.ColumnType.{ColumnType}
use Rattle.hib_base.proofs.Gives.{Then, then_cond}
use Rattle.hib_base.proofs.Lists.{all_more, Found, position_found}
use Rattle.hib_base.proofs.Names.{apart_by_more, differ}
use Rattle.hib_columns.specs.Columns.{found_at, at_place, plain_column, place_or_first}
use Rattle.hib_mapping.specs.Cells.{cell_of}
use Rattle.hib_columns.specs.declared.columns.Found as found
use Rattle.hib_mapping.proofs.TypedCells.{is_cell, cell_sound, typed_one}
use Rattle.hib_columns.proofs.Typed.{IsColumn, plain_typed}
use Rattle.hib_lex.specs.declared.lexer.Token.{Token}
use Rattle.hib_lex.proofs.Lexed.{is_lexed, are_lexed}
use Rattle.hib_mapping.specs.Parts.{is_a_word, word_of, small}
use Rattle.hib_statements.specs.Parts as pairs
use Rattle.hib_statements.specs.declared.parts.Pairs.{Pairs}
use Rattle.hib_statements.specs.declared.parts.Awaited.{Awaited}
use Rattle.hib_statements.specs.declared.parts.Draft.{Draft}

-- ---- the places of names
abbrev place_of : List ColumnDef → List ℕ → ℕ
place_of ds w = place_or_first (plain_column ds w)

abbrev is_there : List ColumnDef → List ℕ → Bool
is_there ds w = is_some (plain_column ds w)

-- at its place stands the column of the name
named_at : (ds : List ColumnDef) (w : List ℕ) → is_there ds w ≡ true → Found (λ d. bytes_eq d.name w) ds (place_of ds w)
named_at ds w h = by_place (position (λ d. bytes_eq d.name w) ds) refl h
  where
    by_slot : (i : ℕ) (o : Option ColumnDef) → Found (λ (d : ColumnDef). bytes_eq d.name w) ds i → is_some (found_at i o) ≡ true → Found (λ (d : ColumnDef). bytes_eq d.name w) ds (place_or_first (found_at i o))
    by_slot i None f g = absurd (false≢true g)
    by_slot i (Some d) f g = f

    by_size : (i : ℕ) (b : Bool) → Found (λ (d : ColumnDef). bytes_eq d.name w) ds i → is_some (option_and_then (λ c. at_place ds c) (cond b (Some i) None)) ≡ true →
        Found (λ (d : ColumnDef). bytes_eq d.name w) ds (place_or_first (option_and_then (λ c. at_place ds c) (cond b (Some i) None)))
    by_size i true f g = by_slot i (slice_get ds i) f g
    by_size i false f g = absurd (false≢true g)

    by_place : (o : Option ℕ) → position (λ (d : ColumnDef). bytes_eq d.name w) ds ≡ o → is_some (option_and_then (λ c. at_place ds c) (option_and_then small o)) ≡ true →
        Found (λ (d : ColumnDef). bytes_eq d.name w) ds (place_or_first (option_and_then (λ c. at_place ds c) (option_and_then small o)))
    by_place None e g = absurd (false≢true g)
    by_place (Some i) e g = by_size i (nat_lt i 65536) (position_found (λ (d : ColumnDef). bytes_eq d.name w) ds i e) g

same_slot : (ds : List ColumnDef) (i : ℕ) (c d : ColumnDef) → slice_get ds i ≡ Some c → slice_get ds i ≡ Some d → c ≡ d
same_slot ds i c d e f = cc

pub same_bytes : (v w : List ℕ) → bytes_eq v w ≡ true → v ≡ w
same_bytes v w h = (bytes_eq-Decides v w).0 h

-- two names of one place are one
same_name : (ds : List ColumnDef) (v w : List ℕ) → is_there ds v ≡ true → is_there ds w ≡ true → place_of ds v ≡ place_of ds w → v ≡ w
same_name ds v w g h e =
    let f : Found (λ (d : ColumnDef). bytes_eq d.name v) ds (place_of ds w) = subst (λ i. Found (λ (d : ColumnDef). bytes_eq d.name v) ds i) e (named_at ds v g) in
    let k : Found (λ (d : ColumnDef). bytes_eq d.name w) ds (place_of ds w) = named_at ds w h in
    let c : f.value ≡ k.value = same_slot ds (place_of ds w) f.value k.value f.there k.there in
    sym (same_bytes f.value.name v f.passes) ∙ ap (λ (d : ColumnDef). d.name) c ∙ same_bytes k.value.name w k.passes

other_place : (ds : List ColumnDef) (v w : List ℕ) → is_there ds v ≡ true → is_there ds w ≡ true → bytes_eq v w ≡ false → (place_of ds v == place_of ds w) ≡ false
other_place ds v w g h n =
    false_from_ne_true (place_of ds v == place_of ds w) (λ e.
    let s : v ≡ w = same_name ds v w g h (eqb-true (place_of ds v) (place_of ds w) e) in
    true≢false (sym ((bytes_eq-Decides v w).1 s) ∙ n))

none_placed : (ds : List ColumnDef) (ws : List (List ℕ)) (w : List ℕ) → list_all (λ v. is_there ds v) ws ≡ true → is_there ds w ≡ true → has_name ws w ≡ false →
    list_any (λ c. c == place_of ds w) (map (λ v. place_of ds v) ws) ≡ false
none_placed ds [] w g h n = refl
none_placed ds (v ∷ ws) w g h n =
    let there : (is_there ds v ≡ true) × (list_all (λ v. is_there ds v) ws ≡ true) = and_parts (is_there ds v) (list_all (λ v. is_there ds v) ws) g in
    let none : (bytes_eq v w ≡ false) × (has_name ws w ≡ false) = or_parts (bytes_eq v w) (has_name ws w) n in
    or_from (place_of ds v == place_of ds w) (list_any (λ c. c == place_of ds w) (map (λ v. place_of ds v) ws)) (other_place ds v w there.0 h none.0) (none_placed ds ws w there.1 h none.1)

not_false : (b : Bool) → not b ≡ true → b ≡ false
not_false true h = absurd (false≢true h)
not_false false h = refl

not_true : (b : Bool) → b ≡ false → not b ≡ true
not_true true h = absurd (true≢false h)
not_true false h = refl

-- names that stay apart have places that do
places_apart : (ds : List ColumnDef) (ws : List (List ℕ)) → list_all (λ v. is_there ds v) ws ≡ true → are_apart ws ≡ true → are_apart_by (λ c d. c == d) (map (λ v. place_of ds v) ws) ≡ true
places_apart ds [] g h = refl
places_apart ds (w ∷ ws) g h =
    let there : (is_there ds w ≡ true) × (list_all (λ v. is_there ds v) ws ≡ true) = and_parts (is_there ds w) (list_all (λ v. is_there ds v) ws) g in
    let apart : (not (has_name ws w) ≡ true) × (are_apart ws ≡ true) = and_parts (not (has_name ws w)) (are_apart ws) h in
    and_from (not (list_any (λ c. c == place_of ds w) (map (λ v. place_of ds v) ws))) (are_apart_by (λ c d. c == d) (map (λ v. place_of ds v) ws))
    (not_true (list_any (λ c. c == place_of ds w) (map (λ v. place_of ds v) ws)) (none_placed ds ws w there.1 there.0 (not_false (has_name ws w) apart.0)))
    (places_apart ds ws there.1 apart.1)

-- ---- what is kept of the pairs so far, whose columns have these names
record Kept (ds : List ColumnDef) (ns : List (List ℕ)) (sets : List (ℕ × Cell)) (taken unknown mistyped : Bool) : Type 0 where
  places : map (λ x. x.0) sets ≡ map (λ v. place_of ds v) ns
  known : unknown ≡ false → list_all (λ v. is_there ds v) ns ≡ true
  apart : taken ≡ false → are_apart ns ≡ true
  typed : unknown ≡ false → mistyped ≡ false → list_all (λ x. is_set ds x) sets ≡ true

-- with a column that still awaits its cell
record Waits (ds : List ColumnDef) (p : Pairs) (c : Option found.Found) : Type 0 where
  before : List (List ℕ)
  name : List ℕ
  names : p.names ≡ before ++ name ∷ []
  column : c ≡ plain_column ds name
  there : p.unknown ≡ false → is_there ds name ≡ true
  fresh : p.taken ≡ false → has_name before name ≡ false
  kept : Kept ds before p.sets p.taken p.unknown p.mistyped

abbrev Holds : List ColumnDef → Pairs → Awaited → Type 0
Holds ds p Awaited.Name = Kept ds p.names p.sets p.taken p.unknown p.mistyped
Holds ds p (Awaited.Value c) = Waits ds p c

abbrev HoldsIn : List ColumnDef → Draft → Type 0
HoldsIn ds d = Holds ds d.pairs d.awaited

some_of : {A : Type 0} (o : Option A) → is_none o ≡ false → is_some o ≡ true
some_of None h = absurd (true≢false h)
some_of (Some x) h = refl

column_waits : (ds : List ColumnDef) (p : Pairs) (w : List ℕ) → Holds ds p Awaited.Name → Then (pairs.new_column p w (plain_column ds w)) (HoldsIn ds)
column_waits ds p w k = record {
  before = p.names;
  name = w;
  names = refl;
  column = refl;
  there = λ h. some_of (plain_column ds w) (or_parts p.unknown (is_none (plain_column ds w)) h).1;
  fresh = λ h. (or_parts p.taken (has_name p.names w) h).1;
  kept = record {
    places = k.places;
    known = λ h. k.known (or_parts p.unknown (is_none (plain_column ds w)) h).0;
    apart = λ h. k.apart (or_parts p.taken (has_name p.names w) h).0;
    typed = λ h g. k.typed (or_parts p.unknown (is_none (plain_column ds w)) h).0 g;
  };
}

-- a cell of the column's type
is_set_so : (ds : List ColumnDef) (o : Option found.Found) (x : Cell) → Then o (λ d. IsColumn ds d.place d.kind) → is_some o ≡ true → is_cell x ≡ true → pairs.is_found o x ≡ true → is_set ds (place_or_first o, x) ≡ true
is_set_so ds None x h s i t = absurd (false≢true s)
is_set_so ds (Some d) x h s i t = subst (λ (k : Option ColumnType). is_of_type_in k x ≡ true) (sym h.typed) (typed_one d.kind x t i)

map_more : {A B : Type 0} (f : A → B) (xs : List A) (x : A) → map f (xs ++ x ∷ []) ≡ map f xs ++ f x ∷ []
map_more f [] x = refl
map_more f (y ∷ ys) x = rw (map_more f ys x) refl

not_false_true : (b : Bool) → not b ≡ false → b ≡ true
not_false_true true h = refl
not_false_true false h = absurd (true≢false h)

pair_kept : (ds : List ColumnDef) (p : Pairs) (c : Option found.Found) (x : Cell) → Waits ds p c → is_cell x ≡ true → Holds ds (pairs.with_pair p c x) Awaited.Name
pair_kept ds p c x w i =
    let bad : Bool = not (pairs.is_found c x) in
    let k : Kept ds w.before p.sets p.taken p.unknown p.mistyped = w.kept in
    let all : Kept ds (w.before ++ w.name ∷ []) (p.sets ++ (place_or_first c, x) ∷ []) p.taken p.unknown (p.mistyped || bad) = record {
      places = map_more (λ x. x.0) p.sets (place_or_first c, x) ∙ ap (λ cs. cs ++ place_or_first c ∷ []) k.places ∙ ap (λ o. map (λ v. place_of ds v) w.before ++ place_or_first o ∷ []) w.column
          ∙ sym (map_more (λ v. place_of ds v) w.before w.name);
      known = λ h. all_more (λ v. is_there ds v) w.before w.name (k.known h) (w.there h);
      apart = λ h. apart_by_more bytes_eq w.before w.name (λ v u. differ v u) (k.apart h) (w.fresh h);
      typed = λ h g. all_more (λ x. is_set ds x) p.sets (place_or_first c, x) (k.typed h (or_parts p.mistyped bad g).0)
          (is_set_so ds c x (subst (λ o. Then o (λ d. IsColumn ds d.place d.kind)) (sym w.column) (plain_typed ds w.name)) (subst (λ o. is_some o ≡ true) (sym w.column) (w.there h)) i
          (not_false_true (pairs.is_found c x) (or_parts p.mistyped bad g).1));
    } in
    subst (λ ns. Kept ds ns (p.sets ++ (place_or_first c, x) ∷ []) p.taken p.unknown (p.mistyped || bad)) (sym w.names) all

cell_kept : (ds : List ColumnDef) (p : Pairs) (c : Option found.Found) (o : Option Cell) → Then o (λ x. is_cell x ≡ true) → Waits ds p c → Then (pairs.with_cell p c o) (HoldsIn ds)
cell_kept ds p c None i w = tt
cell_kept ds p c (Some x) i w = pair_kept ds p c x w i

token_kept : (ds : List ColumnDef) (p : Pairs) (a : Awaited) (t : Token) → is_lexed t ≡ true → Holds ds p a → Then (pairs.with_awaited ds p a t) (HoldsIn ds)
token_kept ds p Awaited.Name t l k = then_cond (is_a_word t) (pairs.new_column p (word_of t) (plain_column ds (word_of t))) None (HoldsIn ds) (λ _. column_waits ds p (word_of t) k) (λ _. tt)
token_kept ds p (Awaited.Value c) t l w = cell_kept ds p c (cell_of t) (cell_sound t l) w

-- ---- all tokens
abbrev AreSets : List ColumnDef → Pairs → Type 0
AreSets ds p = p.taken ≡ false → p.unknown ≡ false → p.mistyped ≡ false → are_sets ds p.sets ≡ true

all_sets : (ds : List ColumnDef) (p : Pairs) → Holds ds p Awaited.Name → nat_lt 0 (length p.sets) ≡ true → AreSets ds p
all_sets ds p k some taken unknown mistyped =
    and_from (nat_lt 0 (length p.sets)) (list_all (λ x. is_set ds x) p.sets && are_apart_by (λ c d. c == d) (map (λ x. x.0) p.sets)) some
    (and_from (list_all (λ x. is_set ds x) p.sets) (are_apart_by (λ c d. c == d) (map (λ x. x.0) p.sets)) (k.typed unknown mistyped)
    (subst (λ cs. are_apart_by (λ c d. c == d) cs ≡ true) (sym k.places) (places_apart ds p.names (k.known unknown) (k.apart taken))))

ended_sets : (ds : List ColumnDef) (p : Pairs) (a : Awaited) → Holds ds p a → (nat_lt 0 (length p.sets) && pairs.is_name a) ≡ true → AreSets ds p
ended_sets ds p Awaited.Name k h = all_sets ds p k (and_parts (nat_lt 0 (length p.sets)) true h).0
ended_sets ds p (Awaited.Value c) k h = absurd (false≢true (and_parts (nat_lt 0 (length p.sets)) false h).1)

from_kept : (ds : List ColumnDef) (o : Option Draft) (ts : List Token) → are_lexed ts ≡ true → Then o (HoldsIn ds) → Then (pairs.pairs_from ds o ts) (AreSets ds)
from_kept ds None ts l k = tt
from_kept ds (Some d) [] l k = then_cond (nat_lt 0 (length d.pairs.sets) && pairs.is_name d.awaited) (Some d.pairs) None (AreSets ds) (λ h. ended_sets ds d.pairs d.awaited k h) (λ _. tt)
from_kept ds (Some d) (t ∷ ts) l k =
    let both : (is_lexed t ≡ true) × (are_lexed ts ≡ true) = and_parts (is_lexed t) (are_lexed ts) l in
    from_kept ds (pairs.with_token ds d t) ts both.1 (token_kept ds d.pairs d.awaited t both.0 k)

pub pairs_kept : (ds : List ColumnDef) (ts : List Token) → are_lexed ts ≡ true → Then (pairs.pairs_of ds ts) (AreSets ds)
pairs_kept ds ts l = from_kept ds (pairs.at pairs.no_pairs Awaited.Name) ts l (record { places = refl; known = λ _. refl; apart = λ _. refl; typed = λ _ _. refl })
