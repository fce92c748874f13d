-- The names of a valid script stand for one thing each.
use Rattle.std.proofs.Common.{◌∙◌, ap, sym, ◌≡◌, ℕ, zero, suc, ◌+◌, ◌^◌, ◌<◌, ◌≤◌, List, [], ◌∷◌, length, Option, Some, None, refl, true, false, not, ◌&&◌, arith, bytes_eq, map, nat_lt, nat_le}
use Rattle.std.specs.Prelude.{position, slice_get}
use Rattle.std.specs.List.{list_all, list_any, position_or_len}
use Rattle.std.proofs.lemmas.Bool.{and_parts, or_parts, not-true, leb-true}
use Rattle.std.proofs.lemmas.Bool.Decides.{nat_tests}
use Rattle.std.proofs.lemmas.Slice.Eq.{bytes_eq-Decides}
use Rattle.hib_base.specs.Words.{is_letter, is_word_byte, is_word, is_name, is_reserved, are_apart, are_names}
use Rattle.hib_base.specs.Fits.{columns_in, entity_columns, are_defaults}
use Rattle.hib_base.specs.Valid.{is_valid, are_columns, max_columns}
use Rattle.hib_base.specs.Scripts.{is_type_below}
use Rattle.hib_base.proofs.Columns.{all_columns}
use Rattle.hib_base.proofs.Lists.{all_at}
use Rattle.hib_base.proofs.Names.{differ}
use Rattle.hib_base.proofs.Valid.{rules}
use Rattle.hib_journal.specs.Types.{ColumnDef, EntityDef, Query, SessionDef, Script}
use Rattle.hib_texts.specs.Texts.{entity_name, query_name, session_name, column_name, column_in, entity_text, query_text, session_text, column_text}
use Rattle.hib_entry_fields.specs.Fields.{is_stop, place, entity_of, query_of, session_of, is_called, column_of}
use Rattle.hib_entry_fields.proofs.PieceLaws.{is_plain, is_ascii, and_left, and_right, lt_true}

-- a name that stands for this number alone
pub record IsName (of : List ℕ → ℕ) (text : List ℕ) (n : ℕ) : Type 0 where
  pub back : of text ≡ n
  pub plain : is_plain text ≡ true
  pub ascii : is_ascii text ≡ true

abbrev pub IsEntity : Script → ℕ → Type 0
IsEntity script n = IsName (entity_of script) (entity_text script n) n

abbrev pub IsQuery : Script → ℕ → Type 0
IsQuery script n = IsName (query_of script) (query_text script n) n

abbrev pub IsSession : Script → ℕ → Type 0
IsSession script n = IsName (session_of script) (session_text script n) n

abbrev pub IsColumn : Script → ℕ → ℕ → Type 0
IsColumn script entity n = IsName (column_of script entity) (column_text script entity n) n

-- ---- places

-- a list of things with names, and the name of what stands at a place
record IsNaming {X : Type 0} (name : X → List ℕ) (name_in : Option X → List ℕ) : Type 0 where
  same : (x : X) → name_in (Some x) ≡ name x

apart_at : {X : Type 0} (f : X → List ℕ) (g : Option X → List ℕ) → IsNaming f g → (w : List ℕ) (xs : List X) (n : ℕ) → n < length xs → list_any (λ y. bytes_eq y w) (map f xs) ≡ false → bytes_eq (g (slice_get xs n)) w ≡ false
apart_at {X = X} f g naming w [] n lt h = absurd (omega arith)
apart_at {X = X} f g naming w (x ∷ xs) zero lt h = rw (naming.same x) (or_parts (bytes_eq (f x) w) (list_any (λ y. bytes_eq y w) (map f xs)) h).0
apart_at {X = X} f g naming w (x ∷ xs) (suc n) lt h = apart_at f g naming w xs n (omega (arith, lt)) (or_parts (bytes_eq (f x) w) (list_any (λ y. bytes_eq y w) (map f xs)) h).1

one_more : (a n : ℕ) → a ≡ n → 1 + a ≡ suc n
one_more a n e = omega arith

name_same : (w : List ℕ) → bytes_eq w w ≡ true
name_same w = (bytes_eq-Decides w w).1 refl

place_at : {X : Type 0} (f : X → List ℕ) (g : Option X → List ℕ) → IsNaming f g → (xs : List X) (n : ℕ) → n < length xs → are_apart (map f xs) ≡ true → position_or_len (λ x. bytes_eq (f x) (g (slice_get xs n))) xs ≡ n
place_at {X = X} f g naming [] n lt h = absurd (omega arith)
place_at {X = X} f g naming (x ∷ xs) zero lt h = rw (naming.same x, name_same (f x)) refl
place_at {X = X} f g naming (x ∷ xs) (suc n) lt h =
    let both : (not (list_any (λ y. bytes_eq y (f x)) (map f xs)) ≡ true) × (are_apart (map f xs) ≡ true) = and_parts (not (list_any (λ y. bytes_eq y (f x)) (map f xs))) (are_apart (map f xs)) h in
    let free : list_any (λ y. bytes_eq y (f x)) (map f xs) ≡ false = not-true (list_any (λ y. bytes_eq y (f x)) (map f xs)) both.0 in
    let other : bytes_eq (f x) (g (slice_get xs n)) ≡ false = differ (g (slice_get xs n)) (f x) (apart_at f g naming (f x) xs n (omega (arith, lt)) free) in
    let rest = place_at f g naming xs n (omega (arith, lt)) both.1 in
    rw other (one_more _ n rest)

-- ---- words are pieces

word_byte_plain : (b : ℕ) → is_word_byte b ≡ true → not (is_stop b) ≡ true
word_byte_plain b h = grind (arith, nat_tests)

letter_plain : (b : ℕ) → is_letter b ≡ true → not (is_stop b) ≡ true
letter_plain b h = grind (arith, nat_tests)

word_bytes_plain : (bs : List ℕ) → list_all is_word_byte bs ≡ true → is_plain bs ≡ true
word_bytes_plain [] h = refl
word_bytes_plain (b ∷ bs) h = rw (word_byte_plain b (and_left (is_word_byte b) (list_all is_word_byte bs) h)) (word_bytes_plain bs (and_right (is_word_byte b) (list_all is_word_byte bs) h))

word_plain : (bs : List ℕ) → is_word bs ≡ true → is_plain bs ≡ true
word_plain [] h = absurd cc
word_plain (b ∷ bs) h =
    let rest = and_right (is_letter b) (nat_lt (length bs) 32 && list_all is_word_byte bs) h in
    rw (letter_plain b (and_left (is_letter b) (nat_lt (length bs) 32 && list_all is_word_byte bs) h)) (word_bytes_plain bs (and_right (nat_lt (length bs) 32) (list_all is_word_byte bs) rest))

word_byte_ascii : (b : ℕ) → is_word_byte b ≡ true → nat_lt b 128 ≡ true
word_byte_ascii b h = grind (arith, nat_tests)

letter_ascii : (b : ℕ) → is_letter b ≡ true → nat_lt b 128 ≡ true
letter_ascii b h = grind (arith, nat_tests)

word_bytes_ascii : (bs : List ℕ) → list_all is_word_byte bs ≡ true → is_ascii bs ≡ true
word_bytes_ascii [] h = refl
word_bytes_ascii (b ∷ bs) h = rw (word_byte_ascii b (and_left (is_word_byte b) (list_all is_word_byte bs) h)) (word_bytes_ascii bs (and_right (is_word_byte b) (list_all is_word_byte bs) h))

word_ascii : (bs : List ℕ) → is_word bs ≡ true → is_ascii bs ≡ true
word_ascii [] h = refl
word_ascii (b ∷ bs) h =
    let rest = and_right (is_letter b) (nat_lt (length bs) 32 && list_all is_word_byte bs) h in
    rw (letter_ascii b (and_left (is_letter b) (nat_lt (length bs) 32 && list_all is_word_byte bs) h)) (word_bytes_ascii bs (and_right (nat_lt (length bs) 32) (list_all is_word_byte bs) rest))

name_at : {X : Type 0} (f : X → List ℕ) (g : Option X → List ℕ) → IsNaming f g → (xs : List X) (n : ℕ) → n < length xs → list_all is_name (map f xs) ≡ true → is_name (g (slice_get xs n)) ≡ true
name_at {X = X} f g naming [] n lt h = absurd (omega arith)
name_at {X = X} f g naming (x ∷ xs) zero lt h = rw (naming.same x) (and_left (is_name (f x)) (list_all is_name (map f xs)) h)
name_at {X = X} f g naming (x ∷ xs) (suc n) lt h = name_at f g naming xs n (omega (arith, lt)) (and_right (is_name (f x)) (list_all is_name (map f xs)) h)

-- a name of a list stands for its place
named : {X : Type 0} (f : X → List ℕ) (g : Option X → List ℕ) → IsNaming f g → (limit : ℕ) (xs : List X) (n : ℕ) → n < length xs → length xs ≤ limit → are_names (map f xs) ≡ true
    → IsName (λ name. place limit (position (λ x. bytes_eq (f x) name) xs)) (g (slice_get xs n)) n
named {X = X} f g naming limit xs n lt le h =
    let at = place_at f g naming xs n lt (and_right (list_all is_name (map f xs)) (are_apart (map f xs)) h) in
    let name = name_at f g naming xs n lt (and_left (list_all is_name (map f xs)) (are_apart (map f xs)) h) in
    let word = and_left (is_word (g (slice_get xs n))) (not (is_reserved (g (slice_get xs n)))) name in
    record {
      back = rw (at, lt_true n (length xs) lt, lt_true n limit (omega (arith, lt, le))) refl;
      plain = word_plain (g (slice_get xs n)) word;
      ascii = word_ascii (g (slice_get xs n)) word;
    }

-- ---- the names of a script

abbrev pub IsColumns : EntityDef → Type 0
IsColumns d = (length d.columns ≤ 16) × (are_names (map (λ (c : ColumnDef). c.name) d.columns) ≡ true)

-- what a valid script says of its names
pub record IsNamed (script : Script) : Type 0 where
  pub entities : are_names (map (λ (d : EntityDef). d.name) script.mapping) ≡ true
  pub queries : are_names (map (λ (q : Query). q.name) script.queries) ≡ true
  pub sessions : are_names (map (λ (s : SessionDef). s.name) script.sessions) ≡ true
  pub entity_limit : length script.mapping ≤ 64
  pub query_limit : length script.queries ≤ 1000
  pub session_limit : length script.sessions ≤ 1000
  pub columns : list_all (λ e. are_columns (length script.mapping) e) script.mapping ≡ true

pub valid_names : (script : Script) → is_valid script ≡ true → IsNamed script
valid_names script h =
    let r = rules script h in
    record { entities = r.entity_names; queries = r.query_names; sessions = r.session_names; entity_limit = r.entities; query_limit = r.queries; session_limit = r.sessions; columns = all_columns script.mapping r.columns }

pub known_entity : (script : Script) (n : ℕ) → IsNamed script → n < length script.mapping → IsEntity script n
unfolding entity_of
known_entity script n h lt = named (λ (d : EntityDef). d.name) entity_name (record { same = λ (d : EntityDef). refl }) (2 ^ 16) script.mapping n lt (omega (arith, h.entity_limit)) h.entities

pub known_query : (script : Script) (n : ℕ) → IsNamed script → n < length script.queries → IsQuery script n
unfolding query_of
known_query script n h lt = named (λ (q : Query). q.name) query_name (record { same = λ (q : Query). refl }) (2 ^ 16) script.queries n lt (omega (arith, h.query_limit)) h.queries

pub known_session : (script : Script) (n : ℕ) → IsNamed script → n < length script.sessions → IsSession script n
unfolding session_of
known_session script n h lt = named (λ (s : SessionDef). s.name) session_name (record { same = λ (s : SessionDef). refl }) (2 ^ 32) script.sessions n lt (omega (arith, h.session_limit)) h.sessions

called_by : (o : Option SessionDef) (name : List ℕ) → is_called o name ≡ true → session_name o ≡ name
called_by None name h = absurd cc
called_by (Some d) name h = (bytes_eq-Decides d.name name).0 h

called_below : {X : Type 0} (xs : List X) (n : ℕ) (o : Option X) → slice_get xs n ≡ o → (o ≡ None → ⊥) → n < length xs
called_below {X = X} [] n o e h = absurd (h (sym e))
called_below {X = X} (x ∷ xs) zero o e h = omega arith
called_below {X = X} (x ∷ xs) (suc n) o e h = let lt : n < length xs = called_below xs n o e h in omega arith

not_called : (o : Option SessionDef) (name : List ℕ) → is_called o name ≡ true → o ≡ None → ⊥
not_called None name h e = cc
not_called (Some d) name h e = cc

-- a session that has a name is the one that the name stands for
pub called_session : (script : Script) (n : ℕ) (name : List ℕ) → is_valid script ≡ true → is_called (slice_get script.sessions n) name ≡ true → n ≡ session_of script name
called_session script n name v h =
    let lt : n < length script.sessions = called_below script.sessions n (slice_get script.sessions n) refl (not_called (slice_get script.sessions n) name h) in
    let known : session_of script (session_text script n) ≡ n = (known_session script n (valid_names script v) lt).back in
    sym known ∙ ap (session_of script) (called_by (slice_get script.sessions n) name h)

-- ---- columns

columns_of_rules : (n : ℕ) (d : EntityDef) → are_columns n d ≡ true → IsColumns d
columns_of_rules n d h =
    let names = are_names (map (λ (c : ColumnDef). c.name) d.columns) in
    let types = list_all (λ (c : ColumnDef). is_type_below n c.kind) d.columns in
    let defaults = are_defaults d.columns in
    let few = and_left (nat_le (length d.columns) max_columns) (types && (names && defaults)) h in
    let rest = and_right types (names && defaults) (and_right (nat_le (length d.columns) max_columns) (types && (names && defaults)) h) in
    (leb-true (length d.columns) max_columns few, and_left names defaults rest)

named_column : (o : Option EntityDef) (n : ℕ) → ((d : EntityDef) → o ≡ Some d → IsColumns d) → n < length (columns_in o)
    → IsName (λ name. place (2 ^ 16) (position (λ (c : ColumnDef). bytes_eq c.name name) (columns_in o))) (column_in o n) n
named_column None n h lt = absurd (omega arith)
named_column (Some d) n h lt =
    let both = h d refl in
    named (λ (c : ColumnDef). c.name) column_name (record { same = λ (c : ColumnDef). refl }) (2 ^ 16) d.columns n lt (omega (arith, both.0)) both.1

pub known_column : (script : Script) (entity n : ℕ) → IsNamed script → n < length (entity_columns script.mapping entity) → IsColumn script entity n
unfolding column_of
known_column script entity n h lt =
    named_column (slice_get script.mapping entity) n
    (λ (d : EntityDef) (e : slice_get script.mapping entity ≡ Some d). columns_of_rules (length script.mapping) d (all_at (λ e. are_columns (length script.mapping) e) script.mapping entity d h.columns e)) lt
