-- Each line of a script keeps what is kept.
use Rattle.std.proofs.Common.{◌≡◌, ℕ, ◌+◌, ◌≤◌, Bool, true, false, cond, nat_lt, nat_le, List, [], ◌∷◌, ◌++◌, length, pos, bytes_eq, Option, Some, None, codes, Result, Ok, Err, refl, sym, ◌∙◌, subst, arith, lit≤, length-append}
use Rattle.std.specs.Prelude.{slice_get}
use Rattle.std.specs.List.{list_any}
use Rattle.std.proofs.lemmas.List.{length-map}
use Rattle.std.proofs.lemmas.List.Sums.{sum_by-append}
use Rattle.std.proofs.lemmas.Bool.{and_parts, ltb-true, leb-true, false≢true}
use Rattle.std.proofs.lemmas.Bool.Decides.{nat_tests}
use Rattle.hib_base.specs.declared.numbers.Key.{Key}
use Rattle.hib_base.specs.declared.refusals.Kind.{Kind}
use Rattle.hib_base.specs.declared.rows.Row.{Row}
use Rattle.hib_base.specs.declared.scripts.EntityDef.{EntityDef}
use Rattle.hib_base.specs.declared.scripts.Order.{Order}
use Rattle.hib_base.specs.declared.scripts.SessionDef.{SessionDef}
use Rattle.hib_base.specs.declared.scripts.Statement.{Statement}
use Rattle.hib_base.specs.Fits.{fits_entity}
use Rattle.hib_base.specs.Scripts.{is_row_below, are_over, is_over, statement_count, is_known, lists_known, evicts_cached}
use Rattle.hib_base.specs.Fits.{fits_statement}
use Rattle.hib_base.specs.Valid.{are_columns, is_capacity, is_entity, is_order_in}
use Rattle.hib_base.specs.Words.{is_reserved, is_name, has_name}
use Rattle.hib_base.proofs.Gives.{Gives, gives_cond, Then}
use Rattle.hib_base.proofs.Lists.{all_more, some_none}
use Rattle.hib_base.proofs.Names.{named_more}
use Rattle.hib_criteria.specs.Query.{Said, query_of}
use Rattle.hib_criteria.proofs.Declared.{is_said_below, IsLineOf, line_of}
use Rattle.hib_lex.specs.Words.{begins}
use Rattle.hib_lex.specs.declared.lexer.Token.{Token}
use Rattle.hib_lex.proofs.Lexed.{are_lexed}
use Rattle.hib_mapping.specs.Declarations.{is_entity_line, entity_kind, entity_of, is_column_line, column_kind}
use Rattle.hib_script.specs.Lines.{with_open}
use Rattle.hib_mapping.specs.Parts.{is_a_word, is_a_number, word_of, name_in, is_within, number_up_to}
use Rattle.hib_mapping.proofs.Columns as columns
use Rattle.hib_mapping.proofs.Columns.{new_columns, column_more, name_from, second_lexed, entity_named, column_named, entity_fresh, same_name}
use Rattle.hib_statements.specs.Orders.{order_of}
use Rattle.hib_statements.specs.Rows.{row_of}
use Rattle.hib_statements.specs.Statements.{statement_of}
use Rattle.hib_statements.proofs.Fitting as rows
use Rattle.hib_statements.proofs.Fitting.{row_fits}
use Rattle.hib_statements.proofs.Ruled.{statement_fits, order_in}
use Rattle.hib_statements.proofs.Known.{statement_known, order_cached}
use Rattle.hib_script.specs.Lines as lines
use Rattle.hib_script.specs.Lines.{Reader, After}
use Rattle.hib_script.specs.Outline.{query_names}
use Rattle.hib_script.specs.Places.{may_follow, part_of}
use Rattle.hib_script.specs.Script.{start}
use Rattle.hib_script.specs.declared.places.Part.{Part}
use Rattle.hib_script.specs.declared.places.Place.{Place}
use Rattle.hib_criteria.proofs.Sound as sound
use Rattle.hib_script.proofs.Fits.{fitting_at, fitting_closed, open_fits, rows_more, queries_more, session_fitting}
use Rattle.hib_script.proofs.Keeps.{IsFilled, IsLimit, HasEntities, HasSessions, Keeps, one_more_length, linked, entities_closed, rows_closed, queries_closed, orders_closed, sessions_more, query_named}

pub start_keeps : Keeps start
start_keeps = record {
  timeout = (lit≤ tt, lit≤ tt);
  results = (lit≤ tt, lit≤ tt);
  entities = record { few = lit≤ tt; closed = refl; opened = tt; bounded = refl; roomy = tt; names = refl; named = tt };
  rows = record { few = lit≤ tt; below = refl; fit = refl };
  queries = record { few = lit≤ tt; below = refl; names = refl };
  sessions = record { few = lit≤ tt; counted = lit≤ tt; statements = lit≤ tt; over = refl; known = refl; opened = refl; names = refl; named = tt };
  orders = record { few = lit≤ tt; cached = refl };
  fitting = record { rows_so = (refl, refl); queries = record { shallow = refl; short = refl; cut = refl; fit = refl }; statements = refl; opened = refl; orders = refl };
}

-- after a line of a part, or within the schedule, no session is open
none_open : (n : ℕ) (ss : List SessionDef) (p : Place) (count : ℕ) → HasSessions n ss p count → HasSessions n ss Place.Schedule count
none_open n ss p count k = record { few = omega (arith, k.few); counted = omega (arith, k.counted); statements = k.statements; over = k.over; known = k.known; opened = refl; names = k.names; named = tt }

behind_open : (n : ℕ) (ss : List SessionDef) (p : Place) (q : Part) (count : ℕ) → HasSessions n ss p count → HasSessions n ss (Place.Behind q) count
behind_open n ss p q count k = record { few = omega (arith, k.few); counted = omega (arith, k.counted); statements = k.statements; over = k.over; known = k.known; opened = refl; names = k.names; named = tt }

behind_keeps : (r : Reader) (p : Part) → Keeps r → Keeps (lines.behind p r)
behind_keeps r p k = record {
  timeout = k.timeout;
  results = k.results;
  entities = k.entities;
  rows = k.rows;
  queries = k.queries;
  sessions = behind_open (length r.outline.queries) r.outline.sessions r.place p r.statements k.sessions;
  orders = k.orders;
  fitting = fitting_at r.outline.mapping r.outline.rows r.outline.queries r.outline.sessions r.place (Place.Behind p) r.outline.schedule k.fitting refl;
}

pub schedule_keeps : (r : Reader) → Keeps r → Keeps (lines.at Place.Schedule r)
schedule_keeps r k = record {
  timeout = k.timeout;
  results = k.results;
  entities = k.entities;
  rows = k.rows;
  queries = k.queries;
  sessions = none_open (length r.outline.queries) r.outline.sessions r.place r.statements k.sessions;
  orders = k.orders;
  fitting = fitting_at r.outline.mapping r.outline.rows r.outline.queries r.outline.sessions r.place Place.Schedule r.outline.schedule k.fitting refl;
}

pub closed_keeps : (r : Reader) → Keeps r → IsFilled r.entity → Keeps (lines.closed r)
closed_keeps r k f = record {
  timeout = k.timeout;
  results = k.results;
  entities = entities_closed r.outline.mapping r.entity k.entities f;
  rows = rows_closed r.outline.mapping r.entity r.outline.rows k.rows;
  queries = queries_closed r.outline.mapping r.entity r.outline.queries k.queries;
  sessions = k.sessions;
  orders = orders_closed r.outline.mapping r.entity r.outline.schedule k.orders;
  fitting = fitting_closed r.outline.mapping r.entity r.outline.rows r.outline.queries r.outline.sessions r.place r.outline.schedule k.fitting;
}

-- ---- header, timeout, results
header_keeps : (r : Reader) (ts : List Token) → Keeps r → Gives (lines.header_line r ts) Keeps
header_keeps r ts k = gives_cond (lines.is_header ts) (Ok (lines.behind Part.Header r)) (Err Kind.Header) Keeps (λ _. behind_keeps r Part.Header k) (λ _. tt)

number_from : (most : ℕ) (t : Token) → is_within 1 most t ≡ true → IsLimit most (number_up_to most t)
number_from most (Token.Number (pos n)) h =
    let both : (nat_le 1 n ≡ true) × (nat_le n most ≡ true) = and_parts (nat_le 1 n) (nat_le n most) h in
    subst (λ b. IsLimit most (cond b n 0)) (sym both.1) (leb-true 1 n both.0, leb-true n most both.1)
number_from most _ h = absurd (false≢true h)

within_limits : (most : ℕ) (t : Token) → Gives (lines.number_within most t) (IsLimit most)
within_limits most t =
    gives_cond (is_a_number t) (cond (is_within 1 most t) (Ok (number_up_to most t)) (Err Kind.Number)) (Err Kind.Words) (IsLimit most)
    (λ _. gives_cond (is_within 1 most t) (Ok (number_up_to most t)) (Err Kind.Number) (IsLimit most) (λ h. number_from most t h) (λ _. tt))
    (λ _. tt)

line_limits : (most : ℕ) (ts : List Token) → Gives (lines.number_line most ts) (IsLimit most)
line_limits most (a ∷ t ∷ []) = within_limits most t
line_limits most _ = tt

timeout_keeps : (r : Reader) (n : Result ℕ Kind) → Keeps r → Gives n (IsLimit 1000000) → Gives (lines.with_timeout r n) Keeps
timeout_keeps r (Err e) k h = tt
timeout_keeps r (Ok n) k h = behind_keeps (record r { outline = record r.outline { timeout = n } }) Part.Timeout (record {
  timeout = h;
  results = k.results;
  entities = k.entities;
  rows = k.rows;
  queries = k.queries;
  sessions = k.sessions;
  orders = k.orders;
  fitting = k.fitting;
})

results_keep : (r : Reader) (n : Result ℕ Kind) → Keeps r → Gives n (IsLimit 100000) → Gives (lines.with_results r n) Keeps
results_keep r (Err e) k h = tt
results_keep r (Ok n) k h = behind_keeps (record r { outline = record r.outline { results = n } }) Part.Results (record {
  timeout = k.timeout;
  results = h;
  entities = k.entities;
  rows = k.rows;
  queries = k.queries;
  sessions = k.sessions;
  orders = k.orders;
  fitting = k.fitting;
})

-- ---- entities and columns
not_reserved : (w : List ℕ) (k : Option Kind) → lines.or_reserved w k ≡ None → is_reserved w ≡ false
not_reserved w (Some k) e = absurd (some_none k e)
not_reserved w None e = by_test (is_reserved w) e
  where
    by_test : (b : Bool) → cond b (Some Kind.Reserved) None ≡ None → b ≡ false
    by_test true f = absurd (some_none Kind.Reserved f)
    by_test false f = refl

no_kind : (w : List ℕ) (k : Option Kind) → lines.or_reserved w k ≡ None → k ≡ None
no_kind w (Some k) e = e
no_kind w None e = refl

room_below : (n : ℕ) (k : Kind) (o : Option Kind) → cond (nat_le 64 n) (Some k) o ≡ None → n + 1 ≤ 64
room_below n k o e = elim (nat_le 64 n) as (λ b. nat_le 64 n ≡ b → cond b (Some k) o ≡ None → n + 1 ≤ 64) [ true ↦ λ h f. absurd (cc) | false ↦ λ h f. grind (arith, nat_tests) ] refl e

entity_room : (m : List EntityDef) (followed : Bool) (ts : List Token) → length m ≤ 64 → entity_kind m followed ts ≡ None → length (with_open m (entity_of ts)) ≤ 64
entity_room m followed (a ∷ name ∷ strategy ∷ versioning ∷ capacity ∷ []) h e = rw (length-append) (room_below (length m) Kind.ManyEntities _ e)
entity_room m followed ts h e = h

with_entity : (r : Reader) (e : Option EntityDef) → Keeps r → HasEntities r.outline.mapping e → Keeps (record r { entity = e })
with_entity r e k h = record {
  timeout = k.timeout;
  results = k.results;
  entities = h;
  rows = k.rows;
  queries = k.queries;
  sessions = k.sessions;
  orders = k.orders;
  fitting = k.fitting;
}

room_alone : (e : Option EntityDef) (followed : Bool) → Then e (λ d. (is_capacity d.strategy d.capacity ≡ true) × (followed ≡ true)) → Then e (λ d. is_capacity d.strategy d.capacity ≡ true)
room_alone None followed h = tt
room_alone (Some d) followed h = h.0

new_entity_keeps : (r : Reader) (followed : Bool) (ts : List Token) (kind : Option Kind) → Keeps r → length r.outline.mapping ≤ 64 →
    (kind ≡ None → (entity_kind r.outline.mapping followed ts ≡ None) × (is_name (name_in ts) ≡ true)) → Gives (lines.new_entity r ts kind) Keeps
new_entity_keeps r followed ts (Some x) k few h = tt
new_entity_keeps r followed ts None k few h =
    let fine : (entity_kind r.outline.mapping followed ts ≡ None) × (is_name (name_in ts) ≡ true) = h refl in
    behind_keeps (record r { entity = entity_of ts }) Part.Entities
    (with_entity r (entity_of ts) k (record {
      few = entity_room r.outline.mapping followed ts few fine.0;
      closed = k.entities.closed;
      opened = new_columns (length r.outline.mapping + 1) ts;
      bounded = k.entities.bounded;
      roomy = room_alone (entity_of ts) followed (columns.entity_room r.outline.mapping followed ts fine.0);
      names = k.entities.names;
      named = entity_fresh r.outline.mapping followed ts few fine.1 fine.0;
    }))

entity_keeps : (r : Reader) (followed : Bool) (ts : List Token) → length r.outline.mapping ≤ 64 → are_lexed ts ≡ true → Keeps r → Gives (lines.entity_line r followed ts) Keeps
entity_keeps r followed ts h l k =
    let kind : Option Kind = entity_kind r.outline.mapping followed ts in
    gives_cond (is_entity_line ts) (lines.new_entity r ts (lines.or_reserved (name_in ts) kind)) (Err Kind.Words) Keeps
    (λ f. new_entity_keeps r followed ts (lines.or_reserved (name_in ts) kind) k h
    (λ e. (no_kind (name_in ts) kind e, entity_named ts f l (not_reserved (name_in ts) kind e))))
    (λ _. tt)

-- the columns of the entity, which is still of that name
abbrev Widens : List EntityDef → EntityDef → EntityDef → Type 0
Widens m d e = (are_columns (length m + 1) e ≡ true) × (e.name ≡ d.name) × (is_entity e ≡ true)

columns_unless_keep : (m : List EntityDef) (d : EntityDef) (ts : List Token) (o : Option Kind) → are_lexed ts ≡ true → are_columns (length m + 1) d ≡ true → is_capacity d.strategy d.capacity ≡ true → is_column_line ts ≡ true →
    (o ≡ None → (column_kind m d ts ≡ None) × (is_name (name_in ts) ≡ true)) → Gives (lines.columns_unless m d ts o) (Widens m d)
columns_unless_keep m d ts (Some x) l h c i f = tt
columns_unless_keep m d ts None l h c i f = (column_more m d ts h l (f refl).1 (f refl).0, same_name m d ts, columns.column_room m d ts c i)

more_columns_keep : (m : List EntityDef) (d : EntityDef) (ts : List Token) → are_lexed ts ≡ true → are_columns (length m + 1) d ≡ true → is_capacity d.strategy d.capacity ≡ true → Gives (lines.more_columns m d ts) (Widens m d)
more_columns_keep m d ts l h c =
    gives_cond (is_column_line ts) (lines.columns_unless m d ts (lines.or_reserved (name_in ts) (column_kind m d ts))) (Err Kind.Words) (Widens m d)
    (λ f. columns_unless_keep m d ts (lines.or_reserved (name_in ts) (column_kind m d ts)) l h c f
    (λ e. (no_kind (name_in ts) (column_kind m d ts) e, column_named ts f l (not_reserved (name_in ts) (column_kind m d ts) e)))) (λ _. tt)

columns_keep : (r : Reader) (d : EntityDef) (e : Result EntityDef Kind) → Keeps r → HasEntities r.outline.mapping (Some d) → Gives e (Widens r.outline.mapping d) → Gives (lines.with_columns r e) Keeps
columns_keep r d (Err x) k h g = tt
columns_keep r d (Ok e) k h g =
    with_entity r (Some e) k (record {
      few = rw (one_more_length r.outline.mapping e) (rw (one_more_length r.outline.mapping d) at h.few);
      closed = h.closed;
      opened = g.0;
      bounded = h.bounded;
      roomy = (and_parts (is_capacity e.strategy e.capacity) (nat_le 1 (length e.columns)) g.2).0;
      names = h.names;
      named = subst (λ w. (is_name w ≡ true) × (list_any (λ (x : EntityDef). bytes_eq x.name w) r.outline.mapping ≡ false)) (sym g.1) h.named;
    })

column_keeps : (r : Reader) (e : Option EntityDef) (ts : List Token) → are_lexed ts ≡ true → Keeps r → HasEntities r.outline.mapping e → Gives (lines.column_line r e ts) Keeps
column_keeps r None ts l k h = tt
column_keeps r (Some d) ts l k h = columns_keep r d (lines.more_columns r.outline.mapping d ts) k h (more_columns_keep r.outline.mapping d ts l h.opened h.roomy)

-- ---- rows and queries
row_keeps : (r : Reader) (x : Result (Key × Row) Kind) → Keeps r → Gives x (rows.Fitting r.outline.mapping r.outline.rows) → Gives (lines.with_row r x) Keeps
row_keeps r (Err e) k g = tt
row_keeps r (Ok x) k g =
    let more : Reader = record r { outline = record r.outline { rows = r.outline.rows ++ x ∷ [] } } in
    gives_cond (nat_lt (length r.outline.rows) 10000) (Ok (lines.behind Part.Rows more)) (Err Kind.Many) Keeps
    (λ h. behind_keeps more Part.Rows (record {
      timeout = k.timeout;
      results = k.results;
      entities = k.entities;
      rows = record {
        few = simp length-append (omega (arith, ltb-true (length r.outline.rows) 10000 h));
        below = all_more (λ (x : Key × Row). is_row_below (length r.outline.mapping) x) r.outline.rows x k.rows.below g.below;
        fit = all_more (λ (x : Key × Row). fits_entity (slice_get r.outline.mapping x.0.entity) x.0 x.1) r.outline.rows x k.rows.fit g.fits;
      };
      queries = k.queries;
      sessions = k.sessions;
      orders = k.orders;
      fitting = record {
        rows_so = rows_more r.outline.rows x k.fitting.rows_so g.given g.fresh;
        queries = k.fitting.queries;
        statements = k.fitting.statements;
        opened = k.fitting.opened;
        orders = k.fitting.orders;
      };
    }))
    (λ _. tt)

query_keeps : (r : Reader) (taken : Bool) (x : Result Said Kind) (ts : List Token) → has_name (query_names r.outline.queries) (name_in ts) ≡ taken → are_lexed ts ≡ true → Keeps r →
    Gives x (IsLineOf r.outline.mapping ts) → Gives x (sound.Keeps r.outline.mapping) → Gives (lines.with_query r taken x) Keeps
query_keeps r taken (Err e) ts t l k g s = tt
query_keeps r taken (Ok q) ts t l k g s =
    let more : Reader = record r { outline = record r.outline { queries = r.outline.queries ++ q ∷ [] } } in
    let room : After = cond (nat_lt (length r.outline.queries) 1000) (Ok (lines.behind Part.Queries more)) (Err Kind.Many) in
    gives_cond taken (Err Kind.Taken) room Keeps (λ _. tt)
    (λ f. gives_cond (nat_lt (length r.outline.queries) 1000) (Ok (lines.behind Part.Queries more)) (Err Kind.Many) Keeps
    (λ h. let free : (is_name q.name ≡ true) × (list_any (λ (p : Said). bytes_eq p.name q.name) r.outline.queries ≡ false) = query_named r.outline.mapping r.outline.queries ts q g l (t ∙ f) in
    behind_keeps more Part.Queries (record {
      timeout = k.timeout;
      results = k.results;
      entities = k.entities;
      rows = k.rows;
      queries = record {
        few = simp length-append (omega (arith, ltb-true (length r.outline.queries) 1000 h));
        below = all_more (λ (q : Said). is_said_below (length r.outline.mapping) q) r.outline.queries q k.queries.below g.below;
        names = named_more (λ (q : Said). q.name) r.outline.queries q k.queries.names free.0 free.1;
      };
      sessions = sessions_more r.outline.queries q r.outline.sessions r.place r.statements k.sessions;
      orders = k.orders;
      fitting = record {
        rows_so = k.fitting.rows_so;
        queries = queries_more r.outline.mapping r.outline.queries q k.fitting.queries s;
        statements = k.fitting.statements;
        opened = k.fitting.opened;
        orders = k.fitting.orders;
      };
    }))
    (λ _. tt))

-- ---- sessions
begun_keeps : (r : Reader) (w : List ℕ) → nat_lt (length r.outline.sessions) 1000 ≡ true → is_name w ≡ true → lines.has_session r.outline.sessions w ≡ false → Keeps r → Gives (lines.begun r w) Keeps
begun_keeps r w h i f k = record {
  timeout = k.timeout;
  results = k.results;
  entities = k.entities;
  rows = k.rows;
  queries = k.queries;
  sessions = record {
    few = omega (arith, ltb-true (length r.outline.sessions) 1000 h);
    counted = omega (arith, k.sessions.counted);
    statements = k.sessions.statements;
    over = k.sessions.over;
    known = k.sessions.known;
    opened = refl;
    names = k.sessions.names;
    named = (i, f);
  };
  orders = k.orders;
  fitting = fitting_at r.outline.mapping r.outline.rows r.outline.queries r.outline.sessions r.place (Place.Session (record { name = w; statements = [] })) r.outline.schedule k.fitting refl;
}

new_session_keeps : (r : Reader) (w : List ℕ) → (is_reserved w ≡ false → is_name w ≡ true) → Keeps r → Gives (lines.new_session r w) Keeps
new_session_keeps r w i k =
    let room : After = cond (nat_lt (length r.outline.sessions) 1000) (lines.begun r w) (Err Kind.Many) in
    gives_cond (is_reserved w) (Err Kind.Reserved) (cond (lines.has_session r.outline.sessions w) (Err Kind.Taken) room) Keeps (λ _. tt)
    (λ e. gives_cond (lines.has_session r.outline.sessions w) (Err Kind.Taken) room Keeps (λ _. tt)
    (λ f. gives_cond (nat_lt (length r.outline.sessions) 1000) (lines.begun r w) (Err Kind.Many) Keeps (λ h. begun_keeps r w h (i e) f k) (λ _. tt)))

session_keeps : (r : Reader) (ts : List Token) → are_lexed ts ≡ true → Keeps r → Gives (lines.session_line r ts) Keeps
session_keeps r (a ∷ name ∷ []) l k =
    gives_cond (is_a_word name) (lines.new_session r (word_of name)) (Err Kind.Words) Keeps
    (λ h. new_session_keeps r (word_of name) (λ e. name_from name h (second_lexed a name [] l) e) k) (λ _. tt)
session_keeps r _ l k = tt

-- the sessions with the open one, at a place that is known
at_place : (r : Reader) (s : SessionDef) → Keeps r → r.place ≡ Place.Session s → HasSessions (length r.outline.queries) r.outline.sessions (Place.Session s) r.statements
at_place r s k e = subst (λ p. HasSessions (length r.outline.queries) r.outline.sessions p r.statements) e k.sessions

open_so : (r : Reader) (s : SessionDef) → Keeps r → r.place ≡ Place.Session s → open_fits r.outline.mapping (Place.Session s) ≡ true
open_so r s k e = subst (λ p. open_fits r.outline.mapping p ≡ true) e k.fitting.opened

one_more_keeps : (r : Reader) (s : SessionDef) (t : Statement) → nat_lt r.statements 5000 ≡ true → Keeps r → r.place ≡ Place.Session s → is_known (length r.outline.queries) t ≡ true → fits_statement r.outline.mapping t ≡ true → Keeps (lines.one_more r s t)
one_more_keeps r s t h k e i g =
    let o : HasSessions (length r.outline.queries) r.outline.sessions (Place.Session s) r.statements = at_place r s k e in
    record {
      timeout = k.timeout;
      results = k.results;
      entities = k.entities;
      rows = k.rows;
      queries = k.queries;
      sessions = record {
        few = o.few;
        counted = simp length-append (omega (arith, o.counted));
        statements = omega (arith, ltb-true r.statements 5000 h);
        over = o.over;
        known = o.known;
        opened = all_more (λ (t : Statement). is_known (length r.outline.queries) t) s.statements t o.opened i;
        names = o.names;
        named = o.named;
      };
      orders = k.orders;
      fitting = fitting_at r.outline.mapping r.outline.rows r.outline.queries r.outline.sessions r.place (Place.Session (record s { statements = s.statements ++ t ∷ [] })) r.outline.schedule k.fitting
          (all_more (λ (t : Statement). fits_statement r.outline.mapping t) s.statements t (open_so r s k e) g);
    }

statement_keeps : (r : Reader) (s : SessionDef) (t : Result Statement Kind) → Keeps r → r.place ≡ Place.Session s → Gives t (λ x. is_known (length r.outline.queries) x ≡ true) →
    Gives t (λ x. fits_statement r.outline.mapping x ≡ true) → Gives (lines.with_statement r s t) Keeps
statement_keeps r s (Err x) k e g f = tt
statement_keeps r s (Ok t) k e g f =
    gives_cond (nat_lt r.statements 5000) (Ok (lines.one_more r s t)) (Err Kind.Many) Keeps (λ h. one_more_keeps r s t h k e g f) (λ _. tt)

count_more : (ss : List SessionDef) (s : SessionDef) → statement_count (ss ++ s ∷ []) ≡ statement_count ss + length s.statements
count_more ss s = rw (sum_by-append) (omega arith)

with_session_keeps : (r : Reader) (s : SessionDef) → are_over s.statements ≡ true → Keeps r → r.place ≡ Place.Session s → Keeps (lines.with_session r s)
with_session_keeps r s h k e =
    let o : HasSessions (length r.outline.queries) r.outline.sessions (Place.Session s) r.statements = at_place r s k e in
    record {
      timeout = k.timeout;
      results = k.results;
      entities = k.entities;
      rows = k.rows;
      queries = k.queries;
      sessions = record {
        few = simp length-append (omega (arith, o.few));
        counted = rw (count_more r.outline.sessions s) (omega (arith, o.counted));
        statements = o.statements;
        over = all_more (λ (d : SessionDef). is_over d) r.outline.sessions s o.over h;
        known = all_more (λ (d : SessionDef). lists_known (length r.outline.queries) d) r.outline.sessions s o.known o.opened;
        opened = refl;
        names = named_more (λ (d : SessionDef). d.name) r.outline.sessions s o.names o.named.0 o.named.1;
        named = tt;
      };
      orders = k.orders;
      fitting = session_fitting r.outline.mapping r.outline.rows r.outline.queries r.outline.sessions s (Place.Behind Part.Sessions) r.outline.schedule
          (fitting_at r.outline.mapping r.outline.rows r.outline.queries r.outline.sessions r.place (Place.Session s) r.outline.schedule k.fitting (open_so r s k e)) refl;
    }

end_keeps : (r : Reader) (s : SessionDef) (ts : List Token) → Keeps r → r.place ≡ Place.Session s → Gives (lines.end_line r s ts) Keeps
end_keeps r s ts k e =
    let over_now : After = cond (are_over s.statements) (Ok (lines.with_session r s)) (Err Kind.Last) in
    gives_cond (lines.is_alone ts) over_now (Err Kind.Words) Keeps
    (λ _. gives_cond (are_over s.statements) (Ok (lines.with_session r s)) (Err Kind.Last) Keeps (λ h. with_session_keeps r s h k e) (λ _. tt))
    (λ _. tt)

statement_given : (r : Reader) (ts : List Token) → Gives (statement_of r.outline.mapping (query_names r.outline.queries) ts) (λ x. is_known (length r.outline.queries) x ≡ true)
statement_given r ts =
    subst (λ n. Gives (statement_of r.outline.mapping (query_names r.outline.queries) ts) (λ x. is_known n x ≡ true)) (length-map r.outline.queries (λ q. q.name))
    (statement_known r.outline.mapping (query_names r.outline.queries) ts)

in_session_keeps : (r : Reader) (s : SessionDef) (ts : List Token) → are_lexed ts ≡ true → Keeps r → r.place ≡ Place.Session s → Gives (lines.in_session r s ts) Keeps
in_session_keeps r s ts l k e =
    gives_cond (begins (codes "end") ts) (lines.end_line r s ts) (lines.statement_line r s ts) Keeps
    (λ _. end_keeps r s ts k e)
    (λ _. statement_keeps r s (statement_of r.outline.mapping (query_names r.outline.queries) ts) k e (statement_given r ts) (statement_fits r.outline.mapping (query_names r.outline.queries) ts l))

-- ---- the schedule
schedule_line_keeps : (r : Reader) (ts : List Token) → Keeps r → Gives (lines.schedule_line r ts) Keeps
schedule_line_keeps r ts k = gives_cond (lines.is_alone ts) (Ok (lines.at Place.Schedule r)) (Err Kind.Words) Keeps (λ _. schedule_keeps r k) (λ _. tt)

order_keeps : (r : Reader) (o : Result Order Kind) → Keeps r → Gives o (λ x. evicts_cached r.outline.mapping x ≡ true) → Gives o (λ x. is_order_in (length r.outline.sessions) x ≡ true) → Gives (lines.with_order r o) Keeps
order_keeps r (Err x) k g f = tt
order_keeps r (Ok o) k g f =
    gives_cond (nat_lt (length r.outline.schedule) 20000) (Ok (record r { outline = record r.outline { schedule = r.outline.schedule ++ o ∷ [] } })) (Err Kind.Many) Keeps
    (λ h. record {
      timeout = k.timeout;
      results = k.results;
      entities = k.entities;
      rows = k.rows;
      queries = k.queries;
      sessions = k.sessions;
      orders = record {
        few = simp length-append (omega (arith, ltb-true (length r.outline.schedule) 20000 h));
        cached = all_more (λ (o : Order). evicts_cached r.outline.mapping o) r.outline.schedule o k.orders.cached g;
      };
      fitting = record {
        rows_so = k.fitting.rows_so;
        queries = k.fitting.queries;
        statements = k.fitting.statements;
        opened = k.fitting.opened;
        orders = all_more (λ (o : Order). is_order_in (length r.outline.sessions) o) r.outline.schedule o k.fitting.orders f;
      };
    })
    (λ _. tt)

schedule_end_keeps : (r : Reader) (ts : List Token) → Keeps r → Gives (lines.schedule_end r ts) Keeps
schedule_end_keeps r ts k = gives_cond (lines.is_alone ts) (Ok (lines.behind Part.Schedule r)) (Err Kind.Words) Keeps (λ _. behind_keeps r Part.Schedule k) (λ _. tt)

in_schedule_keeps : (r : Reader) (ts : List Token) → are_lexed ts ≡ true → Keeps r → Gives (lines.in_schedule r ts) Keeps
in_schedule_keeps r ts l k =
    gives_cond (begins (codes "end") ts) (lines.schedule_end r ts) (lines.with_order r (order_of r.outline.mapping r.outline.sessions ts)) Keeps
    (λ _. schedule_end_keeps r ts k)
    (λ _. order_keeps r (order_of r.outline.mapping r.outline.sessions ts) k (order_cached r.outline.mapping r.outline.sessions ts) (order_in r.outline.mapping r.outline.sessions ts l))

-- ---- each line keeps it
part_keeps : (r : Reader) (p : Part) (followed : Bool) (ts : List Token) → length r.outline.mapping ≤ 64 → are_lexed ts ≡ true → Keeps r → Gives (lines.part_line r p followed ts) Keeps
part_keeps r Part.Header followed ts h l k = tt
part_keeps r Part.Timeout followed ts h l k = timeout_keeps r (lines.number_line 1000000 ts) k (line_limits 1000000 ts)
part_keeps r Part.Results followed ts h l k = results_keep r (lines.number_line 100000 ts) k (line_limits 100000 ts)
part_keeps r Part.Entities followed ts h l k = entity_keeps r followed ts h l k
part_keeps r Part.Rows followed ts h l k = row_keeps r (row_of r.outline.mapping r.outline.rows ts) k (row_fits r.outline.mapping r.outline.rows ts l)
part_keeps r Part.Queries followed ts h l k =
    query_keeps r (lines.is_taken r ts) (query_of r.outline.mapping ts) ts refl l k (line_of r.outline.mapping ts (linked r.outline.mapping k.entities.closed)) (sound.line_keeps r.outline.mapping ts l)
part_keeps r Part.Sessions followed ts h l k = session_keeps r ts l k
part_keeps r Part.Schedule followed ts h l k = schedule_line_keeps r ts k

next_keeps : (r : Reader) (last : Part) (next : Option Part) (followed : Bool) (ts : List Token) → are_lexed ts ≡ true → Keeps r → IsFilled r.entity → Gives (lines.next_part r last next followed ts) Keeps
next_keeps r last None followed ts l k f = tt
next_keeps r last (Some p) followed ts l k f =
    gives_cond (may_follow last p) (lines.part_line (lines.closed r) p followed ts) (Err Kind.Line) Keeps
    (λ _. part_keeps (lines.closed r) p followed ts k.entities.few l (closed_keeps r k f))
    (λ _. tt)

behind_part_keeps : (r : Reader) (last : Part) (followed : Bool) (ts : List Token) → are_lexed ts ≡ true → Keeps r → (begins (codes "column") ts ≡ false → IsFilled r.entity) → Gives (lines.behind_part r last followed ts) Keeps
behind_part_keeps r last followed ts l k f =
    gives_cond (begins (codes "column") ts) (lines.column_line r r.entity ts) (lines.next_part r last (part_of ts) followed ts) Keeps
    (λ _. column_keeps r r.entity ts l k k.entities)
    (λ h. next_keeps r last (part_of ts) followed ts l k (f h))

pub line_keeps : (r : Reader) (p : Place) (followed : Bool) (ts : List Token) → are_lexed ts ≡ true → Keeps r → (begins (codes "column") ts ≡ false → IsFilled r.entity) → r.place ≡ p → Gives (lines.line_at r p followed ts) Keeps
line_keeps r Place.Start followed ts l k f e = header_keeps r ts k
line_keeps r (Place.Behind last) followed ts l k f e = behind_part_keeps r last followed ts l k f
line_keeps r (Place.Session s) followed ts l k f e = in_session_keeps r s ts l k e
line_keeps r Place.Schedule followed ts l k f e = in_schedule_keeps r ts l k
