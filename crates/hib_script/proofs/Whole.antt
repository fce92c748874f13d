-- A text that is a script gives a valid one.
use Rattle.std.proofs.Common.{◌≡◌, ℕ, ◌≤◌, Bool, true, false, nat_lt, List, [], ◌∷◌, length, map, None, Result, Ok, Err, refl, sym, ◌∙◌, subst, arith, IfOk}
use Rattle.std.specs.List.{list_all}
use Rattle.std.proofs.lemmas.List.{length-map}
use Rattle.std.proofs.lemmas.Bool.{and_parts, and_from}
use Rattle.hib_base.specs.declared.refusals.Refused.{Refused}
use Rattle.hib_base.specs.declared.scripts.Query.{Query}
use Rattle.hib_base.specs.declared.scripts.Script.{Script}
use Rattle.hib_base.specs.declared.scripts.SessionDef.{SessionDef}
use Rattle.hib_base.specs.Scripts.{lists_known, is_declared}
use Rattle.hib_base.specs.Valid.{is_nested_in, is_valid}
use Rattle.hib_base.specs.Words.{are_names}
use Rattle.hib_base.proofs.Gives.{Gives, given}
use Rattle.hib_base.proofs.Valid as rules
use Rattle.hib_criteria.specs.Query.{said, parts_in}
use Rattle.hib_criteria.proofs.Declared.{is_said_below, are_nodes_below, targets_below}
use Rattle.hib_lex.specs.Lines.{lex_after, lex_of}
use Rattle.hib_lex.specs.declared.lines.Line.{Line}
use Rattle.hib_lex.specs.declared.lines.Lines.{Lines}
use Rattle.hib_lex.proofs.Lexed.{are_lexed, are_lines_lexed, text_lexed}
use Rattle.hib_script.specs.Script.{begins_column}
use Rattle.hib_script.specs.Lines as lines
use Rattle.hib_script.specs.Lines.{Reader, After}
use Rattle.hib_script.specs.Outline.{Outline, outline_of}
use Rattle.hib_script.specs.Script.{at_line, step, reading, ended_at, ended, start, script_in, script_of}
use Rattle.hib_script.specs.declared.errors.ScriptError.{ScriptError}
use Rattle.hib_script.specs.declared.places.Place.{Place}
use Rattle.hib_criteria.proofs.Depth.{are_shallow, nested_in}
use Rattle.hib_script.proofs.Filled.{Full, line_full}
use Rattle.hib_script.proofs.Keeps.{Keeps}
use Rattle.hib_script.proofs.Queries.{names_of_said}
use Rattle.hib_script.proofs.Valid.{start_keeps, closed_keeps, schedule_keeps, line_keeps}

-- ---- all lines
at_keeps : (next : Bool) (l : Line) (x : After) → Gives x (λ r. Keeps r × Full next r) → Gives (at_line l x) (λ r. Keeps r × Full next r)
at_keeps next l (Err x) g = tt
at_keeps next l (Ok r) g = g

-- with the lines that are left
abbrev Both : Bool → Reader → Type 0
Both next r = Keeps r × Full next r

both_given : (next : Bool) (x : After) → Gives x Keeps → Gives x (Full next) → Gives x (Both next)
both_given next (Err k) f g = tt
both_given next (Ok r) f g = (f, g)

reading_keeps : (x : Result Reader Refused) (ls : List Line) → are_lines_lexed ls ≡ true → Gives x (Both (begins_column ls)) → Gives (reading x ls) (Both false)
reading_keeps (Err x) ls h g = tt
reading_keeps (Ok r) [] h g = g
reading_keeps (Ok r) (l ∷ ls) h g =
    let both : (are_lexed l.tokens ≡ true) × (are_lines_lexed ls ≡ true) = and_parts (are_lexed l.tokens) (are_lines_lexed ls) h in
    reading_keeps (step r (begins_column ls) l) ls both.1
    (at_keeps (begins_column ls) l (lines.after_line r (begins_column ls) l.tokens)
    (both_given (begins_column ls) (lines.after_line r (begins_column ls) l.tokens) (line_keeps r r.place (begins_column ls) l.tokens both.0 g.0 (λ e. g.1.filled e) refl)
    (line_full (begins_column ls) r r.place l.tokens g.1.idle refl)))

-- ---- the script at the end
abbrev at_end : Outline → ℕ → Reader
at_end o n = record { outline = o; entity = None; statements = n; place = Place.Schedule }

record IsKept (o : Outline) : Type 0 where
  statements : ℕ
  keeps : Keeps (at_end o statements)

ended_at_kept : (n : ℕ) (r : Reader) (p : Place) → Both false r → Gives (ended_at n r p) IsKept
ended_at_kept n r Place.Start k = tt
ended_at_kept n r (Place.Behind last) k = record { statements = r.statements; keeps = schedule_keeps (lines.closed r) (closed_keeps r k.0 (k.1.filled refl)) }
ended_at_kept n r (Place.Session s) k = tt
ended_at_kept n r Place.Schedule k = tt

ended_kept : (n : ℕ) (x : Result Reader Refused) → Gives x (Both false) → Gives (ended n x) IsKept
ended_kept n (Err x) g = tt
ended_kept n (Ok r) g = ended_at_kept n r r.place g

lines_kept : (l : Lines) → are_lines_lexed l.lines ≡ true → Gives (script_in (Ok l)) IsKept
lines_kept l h = ended_kept l.count (reading (Ok start) l.lines) (reading_keeps (Ok start) l.lines h (start_keeps, record { filled = λ _. tt; idle = refl }))

declared_one : (s : Script) (q : Query) → is_said_below (length s.mapping) (said q) ≡ true → is_declared s q ≡ true
declared_one s q h =
    let both : (nat_lt q.entity (length s.mapping) ≡ true) × (are_nodes_below (length s.mapping) (parts_in q.condition) ≡ true) =
    and_parts (nat_lt q.entity (length s.mapping)) (are_nodes_below (length s.mapping) (parts_in q.condition)) h in
    and_from (nat_lt q.entity (length s.mapping)) _ both.0 (targets_below (length s.mapping) q.condition both.1)

declared_all : (s : Script) (qs : List Query) → list_all (λ q. is_said_below (length s.mapping) q) (map said qs) ≡ true → list_all (λ q. is_declared s q) qs ≡ true
declared_all s [] h = refl
declared_all s (q ∷ qs) h =
    let both : (is_said_below (length s.mapping) (said q) ≡ true) × (list_all (λ q. is_said_below (length s.mapping) q) (map said qs) ≡ true) =
    and_parts (is_said_below (length s.mapping) (said q)) (list_all (λ q. is_said_below (length s.mapping) q) (map said qs)) h in
    and_from (is_declared s q) (list_all (λ q. is_declared s q) qs) (declared_one s q both.0) (declared_all s qs both.1)

nested_all : (qs : List Query) → list_all (λ q. are_shallow [] q.parts) (map said qs) ≡ true → list_all (λ q. is_nested_in q.condition) qs ≡ true
nested_all [] h = refl
nested_all (q ∷ qs) h =
    let both : (are_shallow [] (parts_in q.condition) ≡ true) × (list_all (λ q. are_shallow [] q.parts) (map said qs) ≡ true) = and_parts (are_shallow [] (parts_in q.condition)) (list_all (λ q. are_shallow [] q.parts) (map said qs)) h in
    and_from (is_nested_in q.condition) (list_all (λ q. is_nested_in q.condition) qs) (nested_in q.condition both.0) (nested_all qs both.1)

valid : (s : Script) → IsKept (outline_of s) → is_valid s ≡ true
valid s i =
    let k : Keeps (at_end (outline_of s) i.statements) = i.keeps in
    let queries : length s.queries ≤ 1000 = rw (length-map) at k.queries.few in
    rules.valid s (record {
      timeout_low = k.timeout.0;
      timeout = k.timeout.1;
      results_low = k.results.0;
      results = k.results.1;
      entities = k.entities.few;
      columns = k.entities.closed;
      bounded = k.entities.bounded;
      entity_names = k.entities.names;
      rows = k.rows.few;
      rows_below = k.rows.below;
      fit = k.rows.fit;
      given = k.fitting.rows_so.0;
      keys = k.fitting.rows_so.1;
      queries = queries;
      declared = declared_all s s.queries k.queries.below;
      nested = nested_all s.queries k.fitting.queries.shallow;
      short = k.fitting.queries.short;
      cut = k.fitting.queries.cut;
      query_fit = k.fitting.queries.fit;
      query_names = subst (λ ws. are_names ws ≡ true) (names_of_said s.queries) k.queries.names;
      sessions = omega (arith, k.sessions.few);
      statements = omega (arith, k.sessions.counted, k.sessions.statements);
      over = k.sessions.over;
      known = subst (λ n. list_all (λ (d : SessionDef). lists_known n d) s.sessions ≡ true) (length-map s.queries said) k.sessions.known;
      statement_fit = k.fitting.statements;
      session_names = k.sessions.names;
      orders = k.orders.few;
      order_fit = k.fitting.orders;
      cached = k.orders.cached;
    })

-- a script that the lines of a text are
pub read_valid : (before : ℕ) (text : List ℕ) (l : Lines) (x : Result Script ScriptError) → lex_after before text ≡ Ok l → IfOk x (λ s. script_in (Ok l) ≡ Ok (outline_of s)) → IfOk x (λ s. is_valid s ≡ true)
read_valid before text l (Ok s) e h =
    valid s (given (script_in (Ok l)) IsKept (outline_of s) (lines_kept l (given (lex_after before text) (λ l. are_lines_lexed l.lines ≡ true) l (text_lexed before text) e)) h)
read_valid before text l (Err x) e h = h

pub text_valid : (text : List ℕ) (s : Script) → script_of text ≡ Ok (outline_of s) → is_valid s ≡ true
text_valid text s h = by_lines (lex_of text) refl h
  where
    by_lines : (q : Result Lines Refused) → lex_of text ≡ q → script_in q ≡ Ok (outline_of s) → is_valid s ≡ true
    by_lines (Err x) e g = absurd (cc)
    by_lines (Ok l) e g = read_valid 0 text l (Ok s) e g

pub valid_if : (text : List ℕ) (r : Result Script ScriptError) → IfOk r (λ s. script_of text ≡ Ok (outline_of s)) → IfOk r (λ s. is_valid s ≡ true)
valid_if text (Ok s) h = text_valid text s h
valid_if text (Err x) h = h
