-- What is printed of a readable script is read back.
use Rattle.std.proofs.Common.{◌≡◌, ℕ, zero, suc, ◌+◌, ◌≤◌, ◌<◌, Bool, true, false, nat_lt, List, [], ◌∷◌, ◌++◌, length, map, flat_map, slice_get, codes, Some, Ok, refl, sym, ap, subst, ◌∙◌, arith}
use Rattle.std.specs.List.{list_all}
use Rattle.std.proofs.lemmas.Bool.{and_parts, and_from, leb-true, ltb-true}
use Rattle.std.proofs.lemmas.List.{length-map}
use Rattle.hib_base.specs.declared.numbers.Key.{Key}
use Rattle.hib_base.specs.declared.rows.Row.{Row}
use Rattle.hib_base.specs.declared.scripts.ColumnDef.{ColumnDef}
use Rattle.hib_base.specs.declared.scripts.EntityDef.{EntityDef}
use Rattle.hib_base.specs.declared.scripts.Query.{Query}
use Rattle.hib_base.specs.declared.scripts.Statement.{Statement}
use Rattle.hib_base.specs.declared.scripts.SessionDef.{SessionDef}
use Rattle.hib_base.specs.declared.scripts.Order.{Order}
use Rattle.hib_base.specs.declared.scripts.Script.{Script}
use Rattle.hib_base.specs.Fits.{is_default, ends_in_defaults, fits, fits_entity, fits_statement, fits_query}
use Rattle.hib_base.specs.Queries.{said}
use Rattle.hib_base.specs.Scripts.{is_type_below, is_row_below, is_declared, are_targets_in, is_known, lists_known, evicts_cached, statement_count}
use Rattle.hib_base.specs.Valid.{is_valid, is_given, are_columns, is_nested_in, is_short, is_cut, is_order_in}
use Rattle.hib_base.specs.Words.{is_name, are_names, are_apart}
use Rattle.hib_base.proofs.Lists.{all_at}
use Rattle.hib_base.proofs.Columns.{HasColumns, columns_of, all_columns}
use Rattle.hib_base.proofs.Valid.{Rules, rules}
use Rattle.hib_lex.specs.declared.lexer.Token.{Token}
use Rattle.hib_script.specs.Outline.{outline_of, query_names}
use Rattle.hib_script.specs.Lines.{Reader}
use Rattle.hib_script.specs.Script.{start, script_of, script_in, ended, ended_at}
use Rattle.hib_script.specs.declared.places.Part.{Part}
use Rattle.hib_print.specs.Lines as lines
use Rattle.hib_texts.specs.Texts.{query_name}
use Rattle.hib_print.specs.Printed.{head_lines, script_lines, printed}
use Rattle.hib_reads_back.specs.Readable as readable
use Rattle.hib_reads_back.specs.Readable.{is_readable}
use Rattle.hib_reads_back.proofs.Named.{name_at, name_free, name_word, got_middle}
use Rattle.hib_reads_back.proofs.Cells.{Mapped}
use Rattle.hib_reads_back.proofs.Orders.{Sessioned}
use Rattle.hib_reads_back.proofs.Queries.{Asked}
use Rattle.hib_reads_back.proofs.Statements.{Queried}
use Rattle.hib_reads_back.proofs.Scanned.{all_joined}
use Rattle.hib_reads_back.proofs.Lexed as lexed
use Rattle.hib_reads_back.proofs.Spelt.{is_worded_line, line_spelt, entity_worded, column_worded}
use Rattle.hib_reads_back.proofs.SpeltQueries.{query_worded, row_worded, statement_worded, order_line_worded}
use Rattle.hib_reads_back.proofs.Steps.{leads, Goes, goes_both, goes_read, between, Reached, reached, higher}
use Rattle.hib_reads_back.proofs.Parts.{stage, Arrives, RowRules, rows_go, QueryRules, queries_go}
use Rattle.hib_reads_back.proofs.Sessions.{SessionRules, sessions_go, schedule_go}
use Rattle.hib_reads_back.proofs.Mapping.{early, limits, head_go, AreRuled, entities_go}

-- ---- what the rules say of each
all_mid : {A : Type 0} (p : A → Bool) (ys : List A) (x : A) (zs : List A) → list_all p (ys ++ x ∷ zs) ≡ true → p x ≡ true
all_mid p [] x zs h = (and_parts (p x) (list_all p zs) h).0
all_mid p (y ∷ ys) x zs h = all_mid p ys x zs (and_parts (p y) (list_all p (ys ++ x ∷ zs)) h).1

all_mapped : {A B : Type 0} (p : B → Bool) (f : A → B) (xs : List A) → list_all p (map f xs) ≡ true → list_all (λ x. p (f x)) xs ≡ true
all_mapped p f [] h = refl
all_mapped p f (x ∷ xs) h =
    let parts : (p (f x) ≡ true) × (list_all p (map f xs) ≡ true) = and_parts (p (f x)) (list_all p (map f xs)) h in
    and_from (p (f x)) (list_all (λ y. p (f y)) xs) parts.0 (all_mapped p f xs parts.1)

-- of an entity's columns
record Columned (m : List EntityDef) (e : EntityDef) : Type 0 where
  few : length e.columns ≤ 16
  below : list_all (λ d. is_type_below (length m) d.kind) e.columns ≡ true
  names : are_names (map (λ d. d.name) e.columns) ≡ true
  defaults : list_all (λ d. is_default d.kind d.default) e.columns ≡ true

columned : (m : List EntityDef) (e : EntityDef) → are_columns (length m) e ≡ true → Columned m e
columned m e h =
    let c : HasColumns (length m) e.columns = columns_of (length m) e h in
    record {
      few = leb-true (length e.columns) 16 c.few;
      below = c.below;
      names = c.named;
      defaults = (and_parts (list_all (λ d. is_default d.kind d.default) e.columns) (ends_in_defaults e.columns) c.defaults).0;
    }

mapped : (s : Script) → Rules s → Mapped s.mapping
mapped s r = record {
  few = r.entities;
  names = r.entity_names;
  columns = λ n e h. (columned s.mapping e (all_at (λ x. are_columns (length s.mapping) x) s.mapping n e (all_columns s.mapping r.columns) h)).few;
  column_names = λ n e h. (columned s.mapping e (all_at (λ x. are_columns (length s.mapping) x) s.mapping n e (all_columns s.mapping r.columns) h)).names;
}

asked : (s : Script) → Rules s → (q : Query) (ys zs : List Query) → s.queries ≡ ys ++ q ∷ zs → Asked s q
asked s r q ys zs e =
    let declared : list_all (λ x. is_declared s x) (ys ++ q ∷ zs) ≡ true = subst (λ l. list_all (λ x. is_declared s x) l ≡ true) e r.declared in
    let nested : list_all (λ x. is_nested_in x.condition) (ys ++ q ∷ zs) ≡ true = subst (λ l. list_all (λ x. is_nested_in x.condition) l ≡ true) e r.nested in
    let short : list_all (λ x. list_all is_short (said x).parts) (ys ++ q ∷ zs) ≡ true =
    subst (λ l. list_all (λ x. list_all is_short (said x).parts) l ≡ true) e (all_mapped (λ x. list_all is_short x.parts) said s.queries r.short) in
    let cut : list_all (λ x. is_cut (said x)) (ys ++ q ∷ zs) ≡ true = subst (λ l. list_all (λ x. is_cut (said x)) l ≡ true) e (all_mapped is_cut said s.queries r.cut) in
    let fit : list_all (λ x. fits_query s.mapping (said x)) (ys ++ q ∷ zs) ≡ true =
    subst (λ l. list_all (λ x. fits_query s.mapping (said x)) l ≡ true) e (all_mapped (λ x. fits_query s.mapping x) said s.queries r.query_fit) in
    let names : are_names (map (λ x. x.name) (ys ++ q ∷ zs)) ≡ true = subst (λ l. are_names (map (λ x. x.name) l) ≡ true) e r.query_names in
    let here : is_declared s q ≡ true = all_mid (λ x. is_declared s x) ys q zs declared in
    record {
      declared = ltb-true q.entity (length s.mapping) (and_parts (nat_lt q.entity (length s.mapping)) (are_targets_in (length s.mapping) q.condition) here).0;
      free = name_free q.name (name_at (λ x. x.name) (ys ++ q ∷ zs) (length ys) q names (got_middle ys q zs));
      nested = all_mid (λ x. is_nested_in x.condition) ys q zs nested;
      short = all_mid (λ x. list_all is_short (said x).parts) ys q zs short;
      cut = all_mid (λ x. is_cut (said x)) ys q zs cut;
      fit = all_mid (λ x. fits_query s.mapping (said x)) ys q zs fit;
    }

-- ---- the names of the queries, as the reader has them
names_same : (qs : List Query) → query_names (map said qs) ≡ map (λ q. q.name) qs
names_same [] = refl
names_same (q ∷ qs) = rw (names_same qs) refl

name_there : (qs : List Query) (n : ℕ) → n < length qs → slice_get (map (λ q. q.name) qs) n ≡ Some (query_name (slice_get qs n))
name_there [] n h = absurd (omega (arith, h))
name_there (q ∷ qs) zero h = refl
name_there (q ∷ qs) (suc n) h = name_there qs n (omega (arith, h))

queried : (s : Script) → Rules s → Queried s (query_names (map said s.queries))
queried s r =
    let few : length s.queries ≤ 1000 = r.queries in
    let base : Queried s (map (λ q. q.name) s.queries) = record {
      few = omega (arith, length-map s.queries (λ q. q.name));
      named = r.query_names;
      there = λ n h. name_there s.queries n h;
    } in
    subst (λ ns. Queried s ns) (sym (names_same s.queries)) base

-- ---- the lines begin with a word, and their words and texts are those of the format
abbrev are_lines : List (List Token) → Bool
are_lines ls = list_all is_worded_line ls

columns_worded : (s : Script) (ds : List ColumnDef) → Mapped s.mapping → list_all (λ d. is_name d.name) ds ≡ true → list_all (λ d. is_type_below (length s.mapping) d.kind) ds ≡ true →
    list_all (λ d. is_default d.kind d.default) ds ≡ true → are_lines (map (λ d. lines.column_line s d) ds) ≡ true
columns_worded s [] w h g t = refl
columns_worded s (d ∷ ds) w h g t =
    let names : (is_name d.name ≡ true) × (list_all (λ x. is_name x.name) ds ≡ true) = and_parts (is_name d.name) (list_all (λ x. is_name x.name) ds) h in
    let below : (is_type_below (length s.mapping) d.kind ≡ true) × (list_all (λ x. is_type_below (length s.mapping) x.kind) ds ≡ true) =
    and_parts (is_type_below (length s.mapping) d.kind) (list_all (λ x. is_type_below (length s.mapping) x.kind) ds) g in
    let typed : (is_default d.kind d.default ≡ true) × (list_all (λ x. is_default x.kind x.default) ds ≡ true) = and_parts (is_default d.kind d.default) (list_all (λ x. is_default x.kind x.default) ds) t in
    and_from (is_worded_line (lines.column_line s d)) (are_lines (map (λ x. lines.column_line s x) ds)) (column_worded s d w names.0 below.0 typed.0) (columns_worded s ds w names.1 below.1 typed.1)

all_names : {A : Type 0} (f : A → List ℕ) (xs : List A) → are_names (map f xs) ≡ true → list_all (λ x. is_name (f x)) xs ≡ true
all_names f xs h = all_mapped is_name f xs (and_parts (list_all (λ v. is_name v) (map f xs)) (are_apart (map f xs)) h).0

entities_worded : (s : Script) (es : List EntityDef) → Mapped s.mapping → list_all (λ e. is_name e.name) es ≡ true → list_all (λ e. are_columns (length s.mapping) e) es ≡ true →
    are_lines (flat_map (λ e. lines.entity_lines s e) es) ≡ true
entities_worded s [] w h g = refl
entities_worded s (e ∷ es) w h g =
    let names : (is_name e.name ≡ true) × (list_all (λ x. is_name x.name) es ≡ true) = and_parts (is_name e.name) (list_all (λ x. is_name x.name) es) h in
    let cols : (are_columns (length s.mapping) e ≡ true) × (list_all (λ x. are_columns (length s.mapping) x) es ≡ true) = and_parts (are_columns (length s.mapping) e) (list_all (λ x. are_columns (length s.mapping) x) es) g in
    let c : Columned s.mapping e = columned s.mapping e cols.0 in
    all_joined is_worded_line (lines.entity_lines s e) (flat_map (λ x. lines.entity_lines s x) es)
    (and_from (is_worded_line (lines.entity_line e)) (are_lines (map (λ d. lines.column_line s d) e.columns)) (entity_worded e names.0)
    (columns_worded s e.columns w (all_names (λ d. d.name) e.columns c.names) c.below c.defaults)) (entities_worded s es w names.1 cols.1)

rows_worded : (s : Script) (xs : List (Key × Row)) → Mapped s.mapping → list_all (λ x. is_row_below (length s.mapping) x) xs ≡ true → fits s.mapping xs ≡ true → list_all is_given xs ≡ true →
    are_lines (map (λ x. lines.row_line s x) xs) ≡ true
rows_worded s [] w h g f = refl
rows_worded s (x ∷ xs) w h g f =
    let below : (is_row_below (length s.mapping) x ≡ true) × (list_all (λ y. is_row_below (length s.mapping) y) xs ≡ true) = and_parts (is_row_below (length s.mapping) x) (list_all (λ y. is_row_below (length s.mapping) y) xs) h in
    let fit : (fits_entity (slice_get s.mapping x.0.entity) x.0 x.1 ≡ true) × (fits s.mapping xs ≡ true) = and_parts (fits_entity (slice_get s.mapping x.0.entity) x.0 x.1) (fits s.mapping xs) g in
    let given : (is_given x ≡ true) × (list_all is_given xs ≡ true) = and_parts (is_given x) (list_all is_given xs) f in
    and_from (is_worded_line (lines.row_line s x)) (are_lines (map (λ y. lines.row_line s y) xs)) (row_worded s x w (ltb-true x.0.entity (length s.mapping) below.0) fit.0 given.0)
    (rows_worded s xs w below.1 fit.1 given.1)

queries_worded : (s : Script) (qs : List Query) → Mapped s.mapping → ((q : Query) (ys zs : List Query) → qs ≡ ys ++ q ∷ zs → Asked s q) → list_all (λ q. is_name q.name) qs ≡ true →
    are_lines (map (λ q. lines.query_line s q) qs) ≡ true
queries_worded s [] w a h = refl
queries_worded s (q ∷ qs) w a h =
    let names : (is_name q.name ≡ true) × (list_all (λ x. is_name x.name) qs ≡ true) = and_parts (is_name q.name) (list_all (λ x. is_name x.name) qs) h in
    and_from (is_worded_line (lines.query_line s q)) (are_lines (map (λ x. lines.query_line s x) qs)) (query_worded s q w (a q [] qs refl) names.0)
    (queries_worded s qs w (λ p ys zs e. a p (q ∷ ys) zs (ap (λ l. q ∷ l) e)) names.1)

statements_worded : (s : Script) (ts : List Statement) → Mapped s.mapping → are_names (map (λ q. q.name) s.queries) ≡ true → list_all (λ t. fits_statement s.mapping t) ts ≡ true →
    list_all (λ t. is_known (length s.queries) t) ts ≡ true → are_lines (map (λ t. lines.statement_line s t) ts) ≡ true
statements_worded s [] w n h g = refl
statements_worded s (t ∷ ts) w n h g =
    let fit : (fits_statement s.mapping t ≡ true) × (list_all (λ x. fits_statement s.mapping x) ts ≡ true) = and_parts (fits_statement s.mapping t) (list_all (λ x. fits_statement s.mapping x) ts) h in
    let known : (is_known (length s.queries) t ≡ true) × (list_all (λ x. is_known (length s.queries) x) ts ≡ true) = and_parts (is_known (length s.queries) t) (list_all (λ x. is_known (length s.queries) x) ts) g in
    and_from (is_worded_line (lines.statement_line s t)) (are_lines (map (λ x. lines.statement_line s x) ts)) (statement_worded s t w n fit.0 known.0) (statements_worded s ts w n fit.1 known.1)

sessions_worded : (s : Script) (ds : List SessionDef) → Mapped s.mapping → are_names (map (λ q. q.name) s.queries) ≡ true → list_all (λ d. is_name d.name) ds ≡ true →
    list_all (λ d. list_all (λ t. fits_statement s.mapping t) d.statements) ds ≡ true → list_all (λ d. lists_known (length s.queries) d) ds ≡ true → are_lines (flat_map (λ d. lines.session_lines s d) ds) ≡ true
sessions_worded s [] w n h g f = refl
sessions_worded s (d ∷ ds) w n h g f =
    let names : (is_name d.name ≡ true) × (list_all (λ x. is_name x.name) ds ≡ true) = and_parts (is_name d.name) (list_all (λ x. is_name x.name) ds) h in
    let fit : (list_all (λ t. fits_statement s.mapping t) d.statements ≡ true) × (list_all (λ x. list_all (λ t. fits_statement s.mapping t) x.statements) ds ≡ true) =
    and_parts (list_all (λ t. fits_statement s.mapping t) d.statements) (list_all (λ x. list_all (λ t. fits_statement s.mapping t) x.statements) ds) g in
    let known : (lists_known (length s.queries) d ≡ true) × (list_all (λ x. lists_known (length s.queries) x) ds ≡ true) = and_parts (lists_known (length s.queries) d) (list_all (λ x. lists_known (length s.queries) x) ds) f in
    let head : is_worded_line (Token.Word (codes "session") ∷ Token.Word d.name ∷ []) ≡ true = rw (name_word d.name names.0) refl in
    all_joined is_worded_line (lines.session_lines s d) (flat_map (λ x. lines.session_lines s x) ds)
    (and_from (is_worded_line (Token.Word (codes "session") ∷ Token.Word d.name ∷ [])) (are_lines (map (λ t. lines.statement_line s t) d.statements ++ lines.end_line ∷ [])) head
    (all_joined is_worded_line (map (λ t. lines.statement_line s t) d.statements) (lines.end_line ∷ []) (statements_worded s d.statements w n fit.0 known.0) refl))
    (sessions_worded s ds w n names.1 fit.1 known.1)

orders_worded : (s : Script) (os : List Order) → Mapped s.mapping → are_names (map (λ d. d.name) s.sessions) ≡ true → list_all (λ o. is_order_in (length s.sessions) o) os ≡ true →
    list_all (λ o. evicts_cached s.mapping o) os ≡ true → are_lines (map (λ o. lines.order_line s o) os) ≡ true
orders_worded s [] w n h g = refl
orders_worded s (o ∷ os) w n h g =
    let fit : (is_order_in (length s.sessions) o ≡ true) × (list_all (λ x. is_order_in (length s.sessions) x) os ≡ true) = and_parts (is_order_in (length s.sessions) o) (list_all (λ x. is_order_in (length s.sessions) x) os) h in
    let cached : (evicts_cached s.mapping o ≡ true) × (list_all (λ x. evicts_cached s.mapping x) os ≡ true) = and_parts (evicts_cached s.mapping o) (list_all (λ x. evicts_cached s.mapping x) os) g in
    and_from (is_worded_line (lines.order_line s o)) (are_lines (map (λ x. lines.order_line s x) os)) (order_line_worded s o w n fit.0 cached.0) (orders_worded s os w n fit.1 cached.1)

schedule_worded : (s : Script) (os : List Order) → Mapped s.mapping → are_names (map (λ d. d.name) s.sessions) ≡ true → list_all (λ o. is_order_in (length s.sessions) o) os ≡ true →
    list_all (λ o. evicts_cached s.mapping o) os ≡ true → are_lines (lines.schedule_lines s os) ≡ true
schedule_worded s [] w n h g = refl
schedule_worded s (o ∷ os) w n h g =
    all_joined is_worded_line (map (λ x. lines.order_line s x) (o ∷ os)) (lines.end_line ∷ []) (orders_worded s (o ∷ os) w n h g) refl

pub script_worded : (s : Script) → Rules s → are_lines (script_lines s) ≡ true
script_worded s r =
    let w : Mapped s.mapping = mapped s r in
    let es : List (List Token) = flat_map (λ e. lines.entity_lines s e) s.mapping in
    let rs : List (List Token) = map (λ x. lines.row_line s x) s.rows in
    let qs : List (List Token) = map (λ q. lines.query_line s q) s.queries in
    let ds : List (List Token) = flat_map (λ d. lines.session_lines s d) s.sessions in
    all_joined is_worded_line ((((head_lines s ++ es) ++ rs) ++ qs) ++ ds) (lines.schedule_lines s s.schedule)
    (all_joined is_worded_line (((head_lines s ++ es) ++ rs) ++ qs) ds
    (all_joined is_worded_line ((head_lines s ++ es) ++ rs) qs
    (all_joined is_worded_line (head_lines s ++ es) rs
    (all_joined is_worded_line (head_lines s) es refl (entities_worded s s.mapping w (all_names (λ e. e.name) s.mapping r.entity_names) (all_columns s.mapping r.columns)))
    (rows_worded s s.rows w r.rows_below r.fit r.given))
    (queries_worded s s.queries w (asked s r) (all_names (λ q. q.name) s.queries r.query_names)))
    (sessions_worded s s.sessions w r.query_names (all_names (λ d. d.name) s.sessions r.session_names) r.statement_fit r.known))
    (schedule_worded s s.schedule w r.session_names r.order_fit r.cached)

-- ---- the lines as the reader has them
record Clear (ls : List (List Token)) : Type 0 where
  line : list_all lexed.is_line ls ≡ true
  short : list_all lexed.is_short ls ≡ true

clear : (ls : List (List Token)) → are_lines ls ≡ true → list_all readable.is_short ls ≡ true → Clear ls
clear [] h g = record { line = refl; short = refl }
clear (ts ∷ ls) h g =
    let worded : (is_worded_line ts ≡ true) × (are_lines ls ≡ true) = and_parts (is_worded_line ts) (are_lines ls) h in
    let both : (readable.is_short ts ≡ true) × (list_all readable.is_short ls ≡ true) = and_parts (readable.is_short ts) (list_all readable.is_short ls) g in
    let parts : (lexed.is_short ts ≡ true) × (list_all readable.is_wide ts ≡ true) = and_parts (lexed.is_short ts) (list_all readable.is_wide ts) both.0 in
    let rest : Clear ls = clear ls worded.1 both.1 in
    record {
      line = and_from (lexed.is_line ts) (list_all lexed.is_line ls) (line_spelt ts parts.1 worded.0) rest.line;
      short = and_from (lexed.is_short ts) (list_all lexed.is_short ls) parts.0 rest.short;
    }

-- ---- the reader goes through all lines
row_rules : (s : Script) → Rules s → RowRules s [] s.rows
row_rules s r = record { below = r.rows_below; fit = r.fit; given = r.given; apart = r.keys; few = r.rows }

query_rules : (s : Script) → Rules s → QueryRules s [] s.queries
query_rules s r = record { asked = asked s r; names = r.query_names; few = r.queries }

session_rules : (s : Script) → Rules s → SessionRules s [] s.sessions 0
session_rules s r =
    let few : statement_count s.sessions ≤ 5000 = r.statements in
    record { fit = r.statement_fit; known = r.known; over = r.over; names = r.session_names; few = r.sessions; statements = omega (arith, few) }

entity_rules : (s : Script) → Rules s → AreRuled s [] s.mapping
entity_rules s r = record { whole = refl; few = r.entities; names = r.entity_names; bounded = r.bounded; columns = r.columns }

sessioned : (s : Script) → Rules s → Sessioned s
sessioned s r = record { few = r.sessions; named = r.session_names }

all_read : (s : Script) → Rules s →
    Arrives start (script_lines s) false (stage s s.rows (map said s.queries) s.sessions s.schedule) (statement_count s.sessions) 7
all_read s r =
    let w : Mapped s.mapping = mapped s r in
    let es : List (List Token) = flat_map (λ e. lines.entity_lines s e) s.mapping in
    let rs : List (List Token) = map (λ x. lines.row_line s x) s.rows in
    let qs : List (List Token) = map (λ q. lines.query_line s q) s.queries in
    let ds : List (List Token) = flat_map (λ d. lines.session_lines s d) s.sessions in
    let os : List (List Token) = lines.schedule_lines s s.schedule in
    let b4 : Bool = leads false os in
    let b3 : Bool = leads b4 ds in
    let b2 : Bool = leads b3 qs in
    let b1 : Bool = leads b2 rs in
    let b0 : Bool = leads b1 es in
    let k : ℕ = statement_count s.sessions in
    let r0 : Reader = between (early s []) 0 Part.Results in
    let g0 : Goes start (head_lines s) b0 r0 = head_go s b0 (limits s r.timeout_low r.timeout r.results_low r.results) in
    let a1 : Arrives r0 es b1 (early s s.mapping) 0 3 = entities_go s [] s.mapping r0 b1 (entity_rules s r) (reached (early s []) 0 Part.Results 3 (omega arith)) in
    let a2 : Arrives a1.reader rs b2 (stage s s.rows [] [] []) 0 4 = rows_go s [] s.rows a1.reader b2 w (row_rules s r) (higher 3 4 (omega arith) a1.there) in
    let a3 : Arrives a2.reader qs b3 (stage s s.rows (map said s.queries) [] []) 0 5 = queries_go s s.rows [] s.queries a2.reader b3 w (query_rules s r) (higher 4 5 (omega arith) a2.there) in
    let a4 : Arrives a3.reader ds b4 (stage s s.rows (map said s.queries) s.sessions []) (0 + k) 6 =
    sessions_go s s.rows (map said s.queries) [] s.sessions 0 a3.reader b4 w (queried s r) (session_rules s r) (higher 5 6 (omega arith) a3.there) in
    let zero_more : 0 + k ≡ k = omega arith in
    let there : Reached a4.reader (stage s s.rows (map said s.queries) s.sessions []) k 6 = subst (λ n. Reached a4.reader (stage s s.rows (map said s.queries) s.sessions []) n 6) zero_more a4.there in
    let a5 : Arrives a4.reader os false (stage s s.rows (map said s.queries) s.sessions s.schedule) k 7 =
    schedule_go s s.rows (map said s.queries) s.schedule k a4.reader false w (sessioned s r) r.order_fit r.cached r.orders there in
    record {
      reader = a5.reader;
      goes =
          goes_both start a4.reader a5.reader ((((head_lines s ++ es) ++ rs) ++ qs) ++ ds) os false
          (goes_both start a3.reader a4.reader (((head_lines s ++ es) ++ rs) ++ qs) ds b4
          (goes_both start a2.reader a3.reader ((head_lines s ++ es) ++ rs) qs b3
          (goes_both start a1.reader a2.reader (head_lines s ++ es) rs b2
          (goes_both start r0 a1.reader (head_lines s) es b1 g0 a1.goes) a2.goes) a3.goes) a4.goes) a5.goes;
      there = a5.there;
    }

-- the end of the text is reached after a part
ended_there : (s : Script) (r : Reader) (n k : ℕ) → Reached r (stage s s.rows (map said s.queries) s.sessions s.schedule) k 7 → ended_at n r r.place ≡ Ok (outline_of s)
ended_there s r n k g = ap (λ p. ended_at n r p) g.place ∙ ap (λ x. Ok x.outline) g.whole

pub printed_back : (s : Script) → is_readable s ≡ true → script_of (printed s) ≡ Ok (outline_of s)
unfolding is_readable printed
printed_back s h =
    let ls : List (List Token) = script_lines s in
    let parts : (is_valid s ≡ true) × (list_all readable.is_short ls ≡ true) = and_parts (is_valid s) (list_all readable.is_short ls) h in
    let r : Rules s = rules s parts.0 in
    let c : Clear ls = clear ls (script_worded s r) parts.1 in
    let a = all_read s r in
    let n : ℕ = lexed.counted 0 ls in
    ap (λ x. script_in x) (lexed.lexed ls c.line c.short)
    ∙ (ap (λ x. ended n x) (goes_read start a.reader ls 0 a.goes) ∙ ended_there s a.reader n (statement_count s.sessions) a.there)
