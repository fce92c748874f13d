-- Sessions and the schedule of a printed script, read back.
use Rattle.std.proofs.Common.{◌≡◌, ℕ, ◌+◌, ◌≤◌, ◌<◌, Bool, true, false, cond, List, [], ◌∷◌, ◌++◌, length, map, flat_map, codes, None, Ok, refl, sym, ap, subst, ◌∙◌, append_assoc, length-append, arith}
use Rattle.std.specs.List.{list_all}
use Rattle.std.proofs.lemmas.Bool.{and_parts, lt-ltb}
use Rattle.std.proofs.lemmas.List.{append-nil}
use Rattle.std.proofs.lemmas.List.Sums.{sum_by-cons}
use Rattle.hib_base.specs.declared.numbers.Key.{Key}
use Rattle.hib_base.specs.declared.rows.Row.{Row}
use Rattle.hib_base.specs.declared.scripts.Statement.{Statement}
use Rattle.hib_base.specs.declared.scripts.SessionDef.{SessionDef}
use Rattle.hib_base.specs.declared.scripts.Order.{Order}
use Rattle.hib_base.specs.declared.scripts.Script.{Script}
use Rattle.hib_base.specs.Fits.{fits_statement}
use Rattle.hib_base.specs.Queries.{Said}
use Rattle.hib_base.specs.Scripts.{are_over, is_over, statement_count, is_known, lists_known, evicts_cached}
use Rattle.hib_base.specs.Valid.{is_order_in}
use Rattle.hib_base.specs.Words.{are_names, is_reserved}
use Rattle.hib_lex.specs.Words.{begins}
use Rattle.hib_lex.specs.declared.lexer.Token.{Token}
use Rattle.hib_statements.specs.Statements.{statement_of}
use Rattle.hib_statements.specs.Orders.{order_of}
use Rattle.hib_script.specs.Lines as reader
use Rattle.hib_script.specs.Outline.{Outline, query_names}
use Rattle.hib_script.specs.declared.places.Part.{Part}
use Rattle.hib_script.specs.declared.places.Place.{Place}
use Rattle.hib_print.specs.Lines as lines
use Rattle.hib_reads_back.proofs.Named.{new_name, names_apart, name_at, name_free, got_middle}
use Rattle.hib_reads_back.proofs.Cells.{Mapped}
use Rattle.hib_reads_back.proofs.Orders.{order_back, Sessioned}
use Rattle.hib_reads_back.proofs.Parts.{stage, Arrives}
use Rattle.hib_reads_back.proofs.Statements.{Queried, statement_back}
use Rattle.hib_reads_back.proofs.Steps.{leads, Goes, goes_both, between, Reached, reached, higher, part_read, sessions_follow, schedule_follows}

-- ---- statements
abbrev session_of : List ℕ → List Statement → SessionDef
session_of name ts = record { name = name; statements = ts }

-- a reader within a session
abbrev inside : Outline → ℕ → SessionDef → reader.Reader
inside o n d = record { outline = o; entity = None; statements = n; place = Place.Session d }

not_end : (s : Script) (t : Statement) → begins (codes "end") (lines.statement_line s t) ≡ false
not_end s (Statement.Find k) = refl
not_end s (Statement.Persist k cs) = refl
not_end s (Statement.Set k xs) = refl
not_end s (Statement.Remove k) = refl
not_end s (Statement.List q) = refl
not_end s Statement.Flush = refl
not_end s Statement.Clear = refl
not_end s (Statement.Mode m) = refl
not_end s Statement.Commit = refl
not_end s Statement.Rollback = refl

statement_read : (s : Script) (o : Outline) (n : ℕ) (d : SessionDef) (t : Statement) (f : Bool) → o.mapping ≡ s.mapping → Mapped s.mapping → Queried s (query_names o.queries) → fits_statement s.mapping t ≡ true →
    is_known (length s.queries) t ≡ true → n < 5000 →
    reader.after_line (inside o n d) f (lines.statement_line s t) ≡ Ok (inside o (n + 1) (session_of d.name (d.statements ++ t ∷ [])))
statement_read s o n d t f same w q fit known few =
    let r : reader.Reader = inside o n d in
    ap (λ b. cond b (reader.end_line r d (lines.statement_line s t)) (reader.statement_line r d (lines.statement_line s t))) (not_end s t)
    ∙ (ap (λ m. reader.with_statement r d (statement_of m (query_names o.queries) (lines.statement_line s t))) same
    ∙ (ap (λ x. reader.with_statement r d x) (statement_back s (query_names o.queries) t w q fit known) ∙ rw (lt-ltb n 5000 few) refl))

statements_go : (s : Script) (o : Outline) (n : ℕ) (name : List ℕ) (done xs : List Statement) (b : Bool) → o.mapping ≡ s.mapping → Mapped s.mapping → Queried s (query_names o.queries) →
    list_all (λ t. fits_statement s.mapping t) xs ≡ true → list_all (λ t. is_known (length s.queries) t) xs ≡ true → n + length xs ≤ 5000 →
    Goes (inside o n (session_of name done)) (map (λ t. lines.statement_line s t) xs) b (inside o (n + length xs) (session_of name (done ++ xs)))
statements_go s o n name done [] b same w q fit known few =
    ap (λ ts. inside o n (session_of name ts)) (sym (append-nil done)) ∙ (let e : n ≡ n + 0 = omega arith in ap (λ k. inside o k (session_of name (done ++ []))) e)
statements_go s o n name done (x ∷ xs) b same w q fit known few =
    let fits : (fits_statement s.mapping x ≡ true) × (list_all (λ t. fits_statement s.mapping t) xs ≡ true) = and_parts (fits_statement s.mapping x) (list_all (λ t. fits_statement s.mapping t) xs) fit in
    let knows : (is_known (length s.queries) x ≡ true) × (list_all (λ t. is_known (length s.queries) t) xs ≡ true) =
    and_parts (is_known (length s.queries) x) (list_all (λ t. is_known (length s.queries) t) xs) known in
    let m : reader.Reader = inside o (n + 1) (session_of name (done ++ x ∷ [])) in
    let rest : Goes m (map (λ t. lines.statement_line s t) xs) b (inside o ((n + 1) + length xs) (session_of name ((done ++ x ∷ []) ++ xs))) =
    statements_go s o (n + 1) name (done ++ x ∷ []) xs b same w q fits.1 knows.1 (omega (arith, few)) in
    let count : (n + 1) + length xs ≡ n + length (x ∷ xs) = omega arith in
    let there : Goes m (map (λ t. lines.statement_line s t) xs) b (inside o (n + length (x ∷ xs)) (session_of name (done ++ x ∷ xs))) =
    subst (λ k. Goes m (map (λ t. lines.statement_line s t) xs) b (inside o k (session_of name (done ++ x ∷ xs)))) count
    (subst (λ ts. Goes m (map (λ t. lines.statement_line s t) xs) b (inside o ((n + 1) + length xs) (session_of name ts))) (append_assoc done (x ∷ []) xs) rest) in
    (m, (statement_read s o n (session_of name done) x (leads b (map (λ t. lines.statement_line s t) xs)) same w q fits.0 knows.0 (omega (arith, few)), there))

-- ---- a session
pub record SessionRules (s : Script) (done xs : List SessionDef) (n : ℕ) : Type 0 where
  pub fit : list_all (λ d. list_all (λ t. fits_statement s.mapping t) d.statements) xs ≡ true
  pub known : list_all (λ d. lists_known (length s.queries) d) xs ≡ true
  pub over : list_all is_over xs ≡ true
  pub names : are_names (map (λ d. d.name) (done ++ xs)) ≡ true
  pub few : length (done ++ xs) ≤ 1000
  pub statements : n + statement_count xs ≤ 5000

sessions_on : (s : Script) (done : List SessionDef) (x : SessionDef) (xs : List SessionDef) (n : ℕ) → SessionRules s done (x ∷ xs) n → SessionRules s (done ++ x ∷ []) xs (n + length x.statements)
sessions_on s done x xs n r =
    let together : done ++ x ∷ xs ≡ (done ++ x ∷ []) ++ xs = sym (append_assoc done (x ∷ []) xs) in
    let count : statement_count (x ∷ xs) ≡ length x.statements + statement_count xs = sum_by-cons (λ d. length d.statements) x xs in
    let few : n + statement_count (x ∷ xs) ≤ 5000 = r.statements in
    record {
      fit = (and_parts (list_all (λ t. fits_statement s.mapping t) x.statements) (list_all (λ d. list_all (λ t. fits_statement s.mapping t) d.statements) xs) r.fit).1;
      known = (and_parts (lists_known (length s.queries) x) (list_all (λ d. lists_known (length s.queries) d) xs) r.known).1;
      over = (and_parts (is_over x) (list_all is_over xs) r.over).1;
      names = subst (λ ys. are_names (map (λ d. d.name) ys) ≡ true) together r.names;
      few = subst (λ ys. length ys ≤ 1000) together r.few;
      statements = omega (arith, count, few);
    }

begun : (r : reader.Reader) (w : List ℕ) → is_reserved w ≡ false → reader.has_session r.outline.sessions w ≡ false → length r.outline.sessions < 1000 → reader.new_session r w ≡ reader.begun r w
begun r w a b c = rw (a, b, lt-ltb (length r.outline.sessions) 1000 c) refl

ended : (o : Outline) (n : ℕ) (d : SessionDef) (f : Bool) → are_over d.statements ≡ true →
    reader.after_line (inside o n d) f lines.end_line ≡ Ok (between (record o { sessions = o.sessions ++ d ∷ [] }) n Part.Sessions)
ended o n d f h = rw h refl

session_go : (s : Script) (rows : List (Key × Row)) (queries : List Said) (done : List SessionDef) (d : SessionDef) (ds : List SessionDef) (n : ℕ) (r : reader.Reader) (b : Bool) → Mapped s.mapping →
    Queried s (query_names queries) → SessionRules s done (d ∷ ds) n → Reached r (stage s rows queries done []) n 6 →
    Goes r (lines.session_lines s d) b (between (stage s rows queries (done ++ d ∷ []) []) (n + length d.statements) Part.Sessions)
session_go s rows queries done d ds n r b w q rules g =
    let o : Outline = stage s rows queries done [] in
    let here : reader.Reader = between o n g.last in
    let inner : reader.Reader = inside o n (session_of d.name []) in
    let count : statement_count (d ∷ ds) ≡ length d.statements + statement_count ds = sum_by-cons (λ x. length x.statements) d ds in
    let room : n + statement_count (d ∷ ds) ≤ 5000 = rules.statements in
    let free : is_reserved d.name ≡ false = name_free d.name (name_at (λ x. x.name) (done ++ d ∷ ds) (length done) d rules.names (got_middle done d ds)) in
    let taken : reader.has_session done d.name ≡ false = new_name (λ x. x.name) done d ds (names_apart (map (λ x. x.name) (done ++ d ∷ ds)) rules.names) in
    let few : length (done ++ d ∷ ds) ≤ 1000 = rules.few in
    let size : length done < 1000 = omega (arith, length-append done (d ∷ ds)) in
    let fits = (and_parts (list_all (λ t. fits_statement s.mapping t) d.statements) (list_all (λ x. list_all (λ t. fits_statement s.mapping t) x.statements) ds) rules.fit).0 in
    let known = (and_parts (lists_known (length s.queries) d) (list_all (λ x. lists_known (length s.queries) x) ds) rules.known).0 in
    let over : is_over d ≡ true = (and_parts (is_over d) (list_all is_over ds) rules.over).0 in
    let last : reader.Reader = inside o (n + length d.statements) d in
    let final : reader.Reader = between (stage s rows queries (done ++ d ∷ []) []) (n + length d.statements) Part.Sessions in
    let body : Goes inner (map (λ t. lines.statement_line s t) d.statements) (leads b (lines.end_line ∷ [])) last =
    statements_go s o n d.name [] d.statements (leads b (lines.end_line ∷ [])) refl w q fits known (omega (arith, count, room)) in
    let ending : Goes last (lines.end_line ∷ []) b final = (final, (ended o (n + length d.statements) d b over, refl)) in (
      inner,
      (
        part_read r inner o n 6 Part.Sessions (leads b (map (λ t. lines.statement_line s t) d.statements ++ lines.end_line ∷ [])) (Token.Word (codes "session") ∷ Token.Word d.name ∷ []) g refl refl
            (sessions_follow g.last g.low) (begun here d.name free taken size),
        goes_both inner last final (map (λ t. lines.statement_line s t) d.statements) (lines.end_line ∷ []) b body ending,
      ),
    )

pub sessions_go : (s : Script) (rows : List (Key × Row)) (queries : List Said) (done xs : List SessionDef) (n : ℕ) (r : reader.Reader) (b : Bool) → Mapped s.mapping → Queried s (query_names queries) → SessionRules s done xs n →
    Reached r (stage s rows queries done []) n 6 → Arrives r (flat_map (λ d. lines.session_lines s d) xs) b (stage s rows queries (done ++ xs) []) (n + statement_count xs) 6
sessions_go s rows queries done [] n r b w q rules g =
    let e : n ≡ n + 0 = omega arith in
    record {
      reader = r;
      goes = refl;
      there = subst (λ k. Reached r (stage s rows queries (done ++ []) []) k 6) e (subst (λ ys. Reached r (stage s rows queries ys []) n 6) (sym (append-nil done)) g);
    }
sessions_go s rows queries done (x ∷ xs) n r b w q rules g =
    let k : ℕ = n + length x.statements in
    let m : reader.Reader = between (stage s rows queries (done ++ x ∷ []) []) k Part.Sessions in
    let ls : List (List Token) = flat_map (λ d. lines.session_lines s d) xs in
    let rest : Arrives m ls b (stage s rows queries ((done ++ x ∷ []) ++ xs) []) (k + statement_count xs) 6 =
    sessions_go s rows queries (done ++ x ∷ []) xs k m b w q (sessions_on s done x xs n rules) (reached (stage s rows queries (done ++ x ∷ []) []) k Part.Sessions 6 (omega arith)) in
    let all : Arrives m ls b (stage s rows queries (done ++ x ∷ xs) []) (k + statement_count xs) 6 =
    subst (λ ys. Arrives m ls b (stage s rows queries ys []) (k + statement_count xs) 6) (append_assoc done (x ∷ []) xs) rest in
    let count : k + statement_count xs ≡ n + statement_count (x ∷ xs) = omega (arith, sum_by-cons (λ d. length d.statements) x xs) in
    let first : Goes r (lines.session_lines s x) (leads b ls) m = session_go s rows queries done x xs n r (leads b ls) w q rules g in
    record {
      reader = all.reader;
      goes = goes_both r m all.reader (lines.session_lines s x) ls b first all.goes;
      there = subst (λ j. Reached all.reader (stage s rows queries (done ++ x ∷ xs) []) j 6) count all.there;
    }

-- ---- the schedule
abbrev scheduling : Outline → ℕ → reader.Reader
scheduling o n = record { outline = o; entity = None; statements = n; place = Place.Schedule }

order_no_end : (s : Script) (x : Order) → begins (codes "end") (lines.order_line s x) ≡ false
order_no_end s (Order.Run n k) = refl
order_no_end s (Order.Kill n) = refl
order_no_end s (Order.Evict k) = refl
order_no_end s Order.Restart = refl

orders_go : (s : Script) (rows : List (Key × Row)) (queries : List Said) (done xs : List Order) (n : ℕ) (b : Bool) → Mapped s.mapping → Sessioned s → list_all (λ o. is_order_in (length s.sessions) o) xs ≡ true →
    list_all (λ o. evicts_cached s.mapping o) xs ≡ true → length (done ++ xs) ≤ 20000 →
    Goes (scheduling (stage s rows queries s.sessions done) n) (map (λ x. lines.order_line s x) xs) b (scheduling (stage s rows queries s.sessions (done ++ xs)) n)
orders_go s rows queries done [] n b w q fit cached few = ap (λ ys. scheduling (stage s rows queries s.sessions ys) n) (sym (append-nil done))
orders_go s rows queries done (x ∷ xs) n b w q fit cached few =
    let r : reader.Reader = scheduling (stage s rows queries s.sessions done) n in
    let m : reader.Reader = scheduling (stage s rows queries s.sessions (done ++ x ∷ [])) n in
    let fits : (is_order_in (length s.sessions) x ≡ true) × (list_all (λ o. is_order_in (length s.sessions) o) xs ≡ true) = and_parts (is_order_in (length s.sessions) x) (list_all (λ o. is_order_in (length s.sessions) o) xs) fit in
    let caches : (evicts_cached s.mapping x ≡ true) × (list_all (λ o. evicts_cached s.mapping o) xs ≡ true) = and_parts (evicts_cached s.mapping x) (list_all (λ o. evicts_cached s.mapping o) xs) cached in
    let together : done ++ x ∷ xs ≡ (done ++ x ∷ []) ++ xs = sym (append_assoc done (x ∷ []) xs) in
    let size : length done < 20000 = omega (arith, length-append done (x ∷ xs), few) in
    let line : List Token = lines.order_line s x in
    let read : reader.after_line r (leads b (map (λ y. lines.order_line s y) xs)) line ≡ Ok m =
    ap (λ t. cond t (reader.schedule_end r line) (reader.with_order r (order_of s.mapping s.sessions line))) (order_no_end s x)
    ∙ (ap (λ c. reader.with_order r c) (order_back s x w q fits.0 caches.0) ∙ rw (lt-ltb (length done) 20000 size) refl) in
    let rest : Goes m (map (λ y. lines.order_line s y) xs) b (scheduling (stage s rows queries s.sessions ((done ++ x ∷ []) ++ xs)) n) =
    orders_go s rows queries (done ++ x ∷ []) xs n b w q fits.1 caches.1 (subst (λ ys. length ys ≤ 20000) together few) in
    (m, (read, subst (λ ys. Goes m (map (λ y. lines.order_line s y) xs) b (scheduling (stage s rows queries s.sessions ys) n)) (append_assoc done (x ∷ []) xs) rest))

pub schedule_go : (s : Script) (rows : List (Key × Row)) (queries : List Said) (xs : List Order) (n : ℕ) (r : reader.Reader) (b : Bool) → Mapped s.mapping → Sessioned s →
    list_all (λ o. is_order_in (length s.sessions) o) xs ≡ true → list_all (λ o. evicts_cached s.mapping o) xs ≡ true → length xs ≤ 20000 → Reached r (stage s rows queries s.sessions []) n 6 →
    Arrives r (lines.schedule_lines s xs) b (stage s rows queries s.sessions xs) n 7
schedule_go s rows queries [] n r b w q fit cached few g = record { reader = r; goes = refl; there = higher 6 7 (omega arith) g }
schedule_go s rows queries (x ∷ xs) n r b w q fit cached few g =
    let start : reader.Reader = scheduling (stage s rows queries s.sessions []) n in
    let last : reader.Reader = scheduling (stage s rows queries s.sessions (x ∷ xs)) n in
    let final : reader.Reader = between (stage s rows queries s.sessions (x ∷ xs)) n Part.Schedule in
    let body : Goes start (map (λ y. lines.order_line s y) (x ∷ xs)) (leads b (lines.end_line ∷ [])) last = orders_go s rows queries [] (x ∷ xs) n (leads b (lines.end_line ∷ [])) w q fit cached few in
    let ending : Goes last (lines.end_line ∷ []) b final = (final, (refl, refl)) in
    record {
      reader = final;
      goes = (
        start,
        (
          part_read r start (stage s rows queries s.sessions []) n 6 Part.Schedule (leads b (map (λ y. lines.order_line s y) (x ∷ xs) ++ lines.end_line ∷ [])) (Token.Word (codes "schedule") ∷ []) g refl refl
              (schedule_follows g.last g.low) refl,
          goes_both start last final (map (λ y. lines.order_line s y) (x ∷ xs)) (lines.end_line ∷ []) b body ending,
        ),
      );
      there = reached (stage s rows queries s.sessions (x ∷ xs)) n Part.Schedule 7 (omega arith);
    }
