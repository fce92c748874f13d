-- An entity has a column before the line that closes it: a column's line follows the line of an entity.
use Rattle.std.proofs.Common.{◌≡◌, ℕ, Bool, true, false, cond, nat_lt, nat_le, List, [], ◌∷◌, ◌++◌, length, Option, Some, None, codes, Result, Ok, Err, refl, sym, ◌∙◌, subst}
use Rattle.std.proofs.lemmas.Bool.{true≢false}
use Rattle.hib_base.specs.Valid.{is_capacity}
use Rattle.hib_base.specs.declared.numbers.Key.{Key}
use Rattle.hib_base.specs.declared.refusals.Kind.{Kind}
use Rattle.hib_base.specs.declared.rows.Row.{Row}
use Rattle.hib_base.specs.declared.scripts.EntityDef.{EntityDef}
use Rattle.hib_base.specs.declared.scripts.Order.{Order}
use Rattle.hib_base.specs.declared.scripts.SessionDef.{SessionDef}
use Rattle.hib_base.specs.declared.scripts.Statement.{Statement}
use Rattle.hib_base.specs.Scripts.{are_over}
use Rattle.hib_base.specs.Words.{is_reserved}
use Rattle.hib_base.proofs.Gives.{Gives, gives_cond, Then}
use Rattle.hib_criteria.specs.Query.{Said, query_of}
use Rattle.hib_lex.specs.Words.{begins}
use Rattle.hib_lex.specs.declared.lexer.Token.{Token}
use Rattle.hib_mapping.specs.Declarations.{is_entity_line, entity_kind, entity_of, is_column_line, column_kind}
use Rattle.hib_mapping.specs.Parts.{is_a_word, word_of, name_in}
use Rattle.hib_mapping.proofs.Columns.{entity_room, column_filled}
use Rattle.hib_statements.specs.Orders.{order_of}
use Rattle.hib_statements.specs.Rows.{row_of}
use Rattle.hib_statements.specs.Statements.{statement_of}
use Rattle.hib_script.specs.Lines as lines
use Rattle.hib_script.specs.Lines.{Reader, After}
use Rattle.hib_script.specs.Outline.{query_names}
use Rattle.hib_script.specs.Places.{may_follow, part_of}
use Rattle.hib_script.specs.declared.places.Part.{Part}
use Rattle.hib_script.specs.declared.places.Place.{Place}
use Rattle.hib_script.proofs.Keeps.{IsFilled}

-- columns are read after the line of a part alone
abbrev IsIdle : Place → Option EntityDef → Type 0
IsIdle (Place.Behind p) e = Unit {0}
IsIdle _ e = e ≡ None

-- next: the next line is a column's
pub record Full (next : Bool) (r : Reader) : Type 0 where
  pub filled : next ≡ false → IsFilled r.entity
  pub idle : IsIdle r.place r.entity

no_entity : (e : Option EntityDef) → e ≡ None → IsFilled e
no_entity e h = subst IsFilled (sym h) tt

idle_so : (p : Place) (e : Option EntityDef) → e ≡ None → IsIdle p e
idle_so (Place.Behind p) e h = tt
idle_so Place.Start e h = h
idle_so (Place.Session s) e h = h
idle_so Place.Schedule e h = h

-- where no columns are read
idle : (next : Bool) (r : Reader) → r.entity ≡ None → Full next r
idle next r h = record { filled = λ _. no_entity r.entity h; idle = idle_so r.place r.entity h }

-- ---- lines of parts other than entities
timeout_full : (next : Bool) (r : Reader) (n : Result ℕ Kind) → r.entity ≡ None → Gives (lines.with_timeout r n) (Full next)
timeout_full next r (Err k) h = tt
timeout_full next r (Ok n) h = idle next (lines.behind Part.Timeout (record r { outline = record r.outline { timeout = n } })) h

results_full : (next : Bool) (r : Reader) (n : Result ℕ Kind) → r.entity ≡ None → Gives (lines.with_results r n) (Full next)
results_full next r (Err k) h = tt
results_full next r (Ok n) h = idle next (lines.behind Part.Results (record r { outline = record r.outline { results = n } })) h

row_full : (next : Bool) (r : Reader) (x : Result (Key × Row) Kind) → r.entity ≡ None → Gives (lines.with_row r x) (Full next)
row_full next r (Err k) h = tt
row_full next r (Ok x) h =
    let more : Reader = lines.behind Part.Rows (record r { outline = record r.outline { rows = r.outline.rows ++ x ∷ [] } }) in
    gives_cond (nat_lt (length r.outline.rows) 10000) (Ok more) (Err Kind.Many) (Full next) (λ _. idle next more h) (λ _. tt)

query_full : (next : Bool) (r : Reader) (taken : Bool) (x : Result Said Kind) → r.entity ≡ None → Gives (lines.with_query r taken x) (Full next)
query_full next r taken (Err k) h = tt
query_full next r taken (Ok q) h =
    let more : Reader = lines.behind Part.Queries (record r { outline = record r.outline { queries = r.outline.queries ++ q ∷ [] } }) in
    gives_cond taken (Err Kind.Taken) (cond (nat_lt (length r.outline.queries) 1000) (Ok more) (Err Kind.Many)) (Full next) (λ _. tt)
    (λ _. gives_cond (nat_lt (length r.outline.queries) 1000) (Ok more) (Err Kind.Many) (Full next) (λ _. idle next more h) (λ _. tt))

begun_full : (next : Bool) (r : Reader) (w : List ℕ) → r.entity ≡ None → Gives (lines.new_session r w) (Full next)
begun_full next r w h =
    let room : After = cond (nat_lt (length r.outline.sessions) 1000) (lines.begun r w) (Err Kind.Many) in
    gives_cond (is_reserved w) (Err Kind.Reserved) (cond (lines.has_session r.outline.sessions w) (Err Kind.Taken) room) (Full next) (λ _. tt)
    (λ _. gives_cond (lines.has_session r.outline.sessions w) (Err Kind.Taken) room (Full next) (λ _. tt)
    (λ _. gives_cond (nat_lt (length r.outline.sessions) 1000) (lines.begun r w) (Err Kind.Many) (Full next)
    (λ _. idle next (record r { place = Place.Session (record { name = w; statements = [] }) }) h) (λ _. tt)))

session_full : (next : Bool) (r : Reader) (ts : List Token) → r.entity ≡ None → Gives (lines.session_line r ts) (Full next)
session_full next r (a ∷ name ∷ []) h = gives_cond (is_a_word name) (lines.new_session r (word_of name)) (Err Kind.Words) (Full next) (λ _. begun_full next r (word_of name) h) (λ _. tt)
session_full next r _ h = tt

schedule_full : (next : Bool) (r : Reader) (ts : List Token) → r.entity ≡ None → Gives (lines.schedule_line r ts) (Full next)
schedule_full next r ts h = gives_cond (lines.is_alone ts) (Ok (record r { place = Place.Schedule })) (Err Kind.Words) (Full next) (λ _. idle next (record r { place = Place.Schedule }) h) (λ _. tt)

-- ---- entities and columns
followed_so : (e : Option EntityDef) (next : Bool) → Then e (λ d. (is_capacity d.strategy d.capacity ≡ true) × (next ≡ true)) → next ≡ false → IsFilled e
followed_so None next h f = tt
followed_so (Some d) next h f = absurd (true≢false (sym h.1 ∙ f))

no_kind : (w : List ℕ) (k : Option Kind) → lines.or_reserved w k ≡ None → k ≡ None
no_kind w (Some k) e = e
no_kind w None e = refl

new_full : (next : Bool) (r : Reader) (ts : List Token) (k : Option Kind) → (k ≡ None → entity_kind r.outline.mapping next ts ≡ None) → Gives (lines.new_entity r ts k) (Full next)
new_full next r ts (Some k) h = tt
new_full next r ts None h = record { filled = λ f. followed_so (entity_of ts) next (entity_room r.outline.mapping next ts (h refl)) f; idle = tt }

entity_full : (next : Bool) (r : Reader) (ts : List Token) → Gives (lines.entity_line r next ts) (Full next)
entity_full next r ts =
    let kind : Option Kind = entity_kind r.outline.mapping next ts in
    gives_cond (is_entity_line ts) (lines.new_entity r ts (lines.or_reserved (name_in ts) kind)) (Err Kind.Words) (Full next)
    (λ _. new_full next r ts (lines.or_reserved (name_in ts) kind) (λ e. no_kind (name_in ts) kind e)) (λ _. tt)

unless_full : (m : List EntityDef) (d : EntityDef) (ts : List Token) (o : Option Kind) → is_column_line ts ≡ true → Gives (lines.columns_unless m d ts o) (λ e. nat_le 1 (length e.columns) ≡ true)
unless_full m d ts (Some k) i = tt
unless_full m d ts None i = column_filled m d ts i

more_full : (m : List EntityDef) (d : EntityDef) (ts : List Token) → Gives (lines.more_columns m d ts) (λ e. nat_le 1 (length e.columns) ≡ true)
more_full m d ts =
    gives_cond (is_column_line ts) (lines.columns_unless m d ts (lines.or_reserved (name_in ts) (column_kind m d ts))) (Err Kind.Words) (λ e. nat_le 1 (length e.columns) ≡ true)
    (λ i. unless_full m d ts (lines.or_reserved (name_in ts) (column_kind m d ts)) i) (λ _. tt)

columns_full : (next : Bool) (r : Reader) (e : Result EntityDef Kind) (p : Part) → r.place ≡ Place.Behind p → Gives e (λ e. nat_le 1 (length e.columns) ≡ true) → Gives (lines.with_columns r e) (Full next)
columns_full next r (Err k) p h g = tt
columns_full next r (Ok e) p h g = record { filled = λ _. g; idle = subst (λ q. IsIdle q (Some e)) (sym h) tt }

column_full : (next : Bool) (r : Reader) (e : Option EntityDef) (ts : List Token) (p : Part) → r.place ≡ Place.Behind p → Gives (lines.column_line r e ts) (Full next)
column_full next r None ts p h = tt
column_full next r (Some d) ts p h = columns_full next r (lines.more_columns r.outline.mapping d ts) p h (more_full r.outline.mapping d ts)

-- ---- each line
part_full : (next : Bool) (r : Reader) (p : Part) (ts : List Token) → r.entity ≡ None → Gives (lines.part_line r p next ts) (Full next)
part_full next r Part.Header ts h = tt
part_full next r Part.Timeout ts h = timeout_full next r (lines.number_line 1000000 ts) h
part_full next r Part.Results ts h = results_full next r (lines.number_line 100000 ts) h
part_full next r Part.Entities ts h = entity_full next r ts
part_full next r Part.Rows ts h = row_full next r (row_of r.outline.mapping r.outline.rows ts) h
part_full next r Part.Queries ts h = query_full next r (lines.is_taken r ts) (query_of r.outline.mapping ts) h
part_full next r Part.Sessions ts h = session_full next r ts h
part_full next r Part.Schedule ts h = schedule_full next r ts h

next_full : (next : Bool) (r : Reader) (last : Part) (o : Option Part) (ts : List Token) → Gives (lines.next_part r last o next ts) (Full next)
next_full next r last None ts = tt
next_full next r last (Some p) ts = gives_cond (may_follow last p) (lines.part_line (lines.closed r) p next ts) (Err Kind.Line) (Full next) (λ _. part_full next (lines.closed r) p ts refl) (λ _. tt)

statement_full : (next : Bool) (r : Reader) (s : SessionDef) (t : Result Statement Kind) → r.entity ≡ None → Gives (lines.with_statement r s t) (Full next)
statement_full next r s (Err k) h = tt
statement_full next r s (Ok t) h =
    gives_cond (nat_lt r.statements 5000) (Ok (lines.one_more r s t)) (Err Kind.Many) (Full next) (λ _. idle next (lines.one_more r s t) h) (λ _. tt)

end_full : (next : Bool) (r : Reader) (s : SessionDef) (ts : List Token) → r.entity ≡ None → Gives (lines.end_line r s ts) (Full next)
end_full next r s ts h =
    let over : After = cond (are_over s.statements) (Ok (lines.with_session r s)) (Err Kind.Last) in
    gives_cond (lines.is_alone ts) over (Err Kind.Words) (Full next)
    (λ _. gives_cond (are_over s.statements) (Ok (lines.with_session r s)) (Err Kind.Last) (Full next) (λ _. idle next (lines.with_session r s) h) (λ _. tt)) (λ _. tt)

order_full : (next : Bool) (r : Reader) (o : Result Order Kind) → r.entity ≡ None → Gives (lines.with_order r o) (Full next)
order_full next r (Err k) h = tt
order_full next r (Ok o) h =
    let more : Reader = record r { outline = record r.outline { schedule = r.outline.schedule ++ o ∷ [] } } in
    gives_cond (nat_lt (length r.outline.schedule) 20000) (Ok more) (Err Kind.Many) (Full next) (λ _. idle next more h) (λ _. tt)

schedule_end_full : (next : Bool) (r : Reader) (ts : List Token) → r.entity ≡ None → Gives (lines.schedule_end r ts) (Full next)
schedule_end_full next r ts h = gives_cond (lines.is_alone ts) (Ok (lines.behind Part.Schedule r)) (Err Kind.Words) (Full next) (λ _. idle next (lines.behind Part.Schedule r) h) (λ _. tt)

-- what is idle at a place that is known
idle_at : (r : Reader) (p : Place) → IsIdle r.place r.entity → r.place ≡ p → IsIdle p r.entity
idle_at r p i e = subst (λ q. IsIdle q r.entity) e i

pub line_full : (next : Bool) (r : Reader) (p : Place) (ts : List Token) → IsIdle r.place r.entity → r.place ≡ p → Gives (lines.line_at r p next ts) (Full next)
line_full next r Place.Start ts i e = gives_cond (lines.is_header ts) (Ok (lines.behind Part.Header r)) (Err Kind.Header) (Full next) (λ _. idle next (lines.behind Part.Header r) (idle_at r Place.Start i e)) (λ _. tt)
line_full next r (Place.Behind last) ts i e =
    gives_cond (begins (codes "column") ts) (lines.column_line r r.entity ts) (lines.next_part r last (part_of ts) next ts) (Full next)
    (λ _. column_full next r r.entity ts last e) (λ _. next_full next r last (part_of ts) ts)
line_full next r (Place.Session s) ts i e =
    gives_cond (begins (codes "end") ts) (lines.end_line r s ts) (lines.statement_line r s ts) (Full next)
    (λ _. end_full next r s ts (idle_at r (Place.Session s) i e))
    (λ _. statement_full next r s (statement_of r.outline.mapping (query_names r.outline.queries) ts) (idle_at r (Place.Session s) i e))
line_full next r Place.Schedule ts i e =
    gives_cond (begins (codes "end") ts) (lines.schedule_end r ts) (lines.with_order r (order_of r.outline.mapping r.outline.sessions ts)) (Full next)
    (λ _. schedule_end_full next r ts (idle_at r Place.Schedule i e))
    (λ _. order_full next r (order_of r.outline.mapping r.outline.sessions ts) (idle_at r Place.Schedule i e))
