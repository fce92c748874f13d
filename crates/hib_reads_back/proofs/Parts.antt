-- The parts of a printed script, each read back.
use Rattle.std.proofs.Common.{◌≡◌, ℕ, ◌≤◌, ◌<◌, Bool, true, false, List, [], ◌∷◌, ◌++◌, length, map, slice_get, bytes_eq, Ok, refl, sym, ap, subst, ◌∙◌, append_assoc, length-append, arith}
use Rattle.std.specs.List.{list_all, list_any}
use Rattle.std.proofs.lemmas.Bool.{and_parts, lt-ltb, ltb-true, false_from_ne_true, true≢false}
use Rattle.std.proofs.lemmas.List.{append-nil, length-map}
use Rattle.hib_base.specs.declared.numbers.Key.{Key}
use Rattle.hib_base.specs.declared.rows.Row.{Row}
use Rattle.hib_base.specs.declared.scripts.Query.{Query}
use Rattle.hib_base.specs.declared.scripts.SessionDef.{SessionDef}
use Rattle.hib_base.specs.declared.scripts.Order.{Order}
use Rattle.hib_base.specs.declared.scripts.Script.{Script}
use Rattle.hib_base.specs.Apart.{are_apart_by}
use Rattle.hib_base.specs.Fits.{fits, fits_entity}
use Rattle.hib_base.specs.Keys.{same_key}
use Rattle.hib_base.specs.Queries.{Said, said}
use Rattle.hib_base.specs.Scripts.{is_row_below}
use Rattle.hib_base.specs.Valid.{is_given}
use Rattle.hib_base.specs.Words.{are_names, has_name}
use Rattle.hib_base.proofs.Tables.{same_key_eq, same_key_refl}
use Rattle.hib_lex.specs.declared.lexer.Token.{Token}
use Rattle.hib_statements.specs.Rows.{has_key}
use Rattle.hib_script.specs.Lines.{Reader, with_row, with_query, after_line}
use Rattle.hib_script.specs.Outline.{Outline, query_names}
use Rattle.hib_script.specs.declared.places.Part.{Part}
use Rattle.hib_script.specs.declared.places.Place.{Place}
use Rattle.hib_print.specs.Lines as lines
use Rattle.hib_reads_back.proofs.Named.{new_by, new_name, names_apart}
use Rattle.hib_reads_back.proofs.Cells.{Mapped}
use Rattle.hib_reads_back.proofs.Orders.{row_back}
use Rattle.hib_reads_back.proofs.Queries.{Asked, query_back}
use Rattle.hib_reads_back.proofs.Steps.{leads, Goes, between, Reached, reached, part_read, rows_follow, queries_follow}

-- a script as far as it was read, after its entities
abbrev pub stage : Script → List (Key × Row) → List Said → List SessionDef → List Order → Outline
stage s rows queries sessions schedule = record { timeout = s.timeout; results = s.results; mapping = s.mapping; rows = rows; queries = queries; sessions = sessions; schedule = schedule }

-- lines are read, and lead to a reader that has read this much
pub record Arrives (r : Reader) (ls : List (List Token)) (b : Bool) (o : Outline) (n top : ℕ) : Type 0 where
  pub reader : Reader
  pub goes : Goes r ls b reader
  pub there : Reached reader o n top

-- one line, and then others
arrives_more : (r m : Reader) (ts : List Token) (ls : List (List Token)) (b : Bool) (o : Outline) (n top : ℕ) → after_line r (leads b ls) ts ≡ Ok m → Arrives m ls b o n top → Arrives r (ts ∷ ls) b o n top
arrives_more r m ts ls b o n top e a = record { reader = a.reader; goes = (m, (e, a.goes)); there = a.there }

-- ---- rows
same_key_turn : (a b : Key) → same_key a b ≡ false → same_key b a ≡ false
same_key_turn a b h = false_from_ne_true (same_key b a) (λ e. true≢false (sym (subst (λ k. same_key a k ≡ true) (sym (same_key_eq b a e)) (same_key_refl a)) ∙ h))

-- what is asked of rows that stand after others
pub record RowRules (s : Script) (done xs : List (Key × Row)) : Type 0 where
  pub below : list_all (λ x. is_row_below (length s.mapping) x) xs ≡ true
  pub fit : fits s.mapping xs ≡ true
  pub given : list_all is_given xs ≡ true
  pub apart : are_apart_by same_key (map (λ x. x.0) (done ++ xs)) ≡ true
  pub few : length (done ++ xs) ≤ 10000

rows_on : (s : Script) (done : List (Key × Row)) (x : Key × Row) (xs : List (Key × Row)) → RowRules s done (x ∷ xs) → RowRules s (done ++ x ∷ []) xs
rows_on s done x xs r =
    let together : done ++ x ∷ xs ≡ (done ++ x ∷ []) ++ xs = sym (append_assoc done (x ∷ []) xs) in
    record {
      below = (and_parts (is_row_below (length s.mapping) x) (list_all (λ y. is_row_below (length s.mapping) y) xs) r.below).1;
      fit = (and_parts (fits_entity (slice_get s.mapping x.0.entity) x.0 x.1) (fits s.mapping xs) r.fit).1;
      given = (and_parts (is_given x) (list_all is_given xs) r.given).1;
      apart = subst (λ ys. are_apart_by same_key (map (λ y. y.0) ys) ≡ true) together r.apart;
      few = subst (λ ys. length ys ≤ 10000) together r.few;
    }

row_taken : (r : Reader) (x : Key × Row) → length r.outline.rows < 10000 →
    with_row r (Ok x) ≡ Ok (record r { outline = record r.outline { rows = r.outline.rows ++ x ∷ [] }; place = Place.Behind Part.Rows })
row_taken r x h = rw (lt-ltb (length r.outline.rows) 10000 h) refl

pub rows_go : (s : Script) (done xs : List (Key × Row)) (r : Reader) (b : Bool) → Mapped s.mapping → RowRules s done xs → Reached r (stage s done [] [] []) 0 4 →
    Arrives r (map (λ x. lines.row_line s x) xs) b (stage s (done ++ xs) [] [] []) 0 4
rows_go s done [] r b w rules g = record { reader = r; goes = refl; there = subst (λ ys. Reached r (stage s ys [] [] []) 0 4) (sym (append-nil done)) g }
rows_go s done (x ∷ xs) r b w rules g =
    let here : Reader = between (stage s done [] [] []) 0 g.last in
    let m : Reader = between (stage s (done ++ x ∷ []) [] [] []) 0 Part.Rows in
    let low : is_row_below (length s.mapping) x ≡ true = (and_parts (is_row_below (length s.mapping) x) (list_all (λ y. is_row_below (length s.mapping) y) xs) rules.below).0 in
    let fit : fits_entity (slice_get s.mapping x.0.entity) x.0 x.1 ≡ true = (and_parts (fits_entity (slice_get s.mapping x.0.entity) x.0 x.1) (fits s.mapping xs) rules.fit).0 in
    let given : is_given x ≡ true = (and_parts (is_given x) (list_all is_given xs) rules.given).0 in
    let free : has_key done x.0 ≡ false = new_by same_key same_key_turn (λ y. y.0) done x xs rules.apart in
    let few : length (done ++ x ∷ xs) ≤ 10000 = rules.few in
    let size : length done < 10000 = omega (arith, length-append done (x ∷ xs)) in
    let read = ap (λ a. with_row here a) (row_back s done x w (ltb-true x.0.entity (length s.mapping) low) fit given free) ∙ row_taken here x size in
    let rest : Arrives m (map (λ y. lines.row_line s y) xs) b (stage s ((done ++ x ∷ []) ++ xs) [] [] []) 0 4 =
    rows_go s (done ++ x ∷ []) xs m b w (rows_on s done x xs rules) (reached (stage s (done ++ x ∷ []) [] [] []) 0 Part.Rows 4 (omega arith)) in
    let whole : Arrives m (map (λ y. lines.row_line s y) xs) b (stage s (done ++ x ∷ xs) [] [] []) 0 4 =
    subst (λ ys. Arrives m (map (λ y. lines.row_line s y) xs) b (stage s ys [] [] []) 0 4) (append_assoc done (x ∷ []) xs) rest in
    arrives_more r m (lines.row_line s x) (map (λ y. lines.row_line s y) xs) b (stage s (done ++ x ∷ xs) [] [] []) 0 4
    (part_read r m (stage s done [] [] []) 0 4 Part.Rows (leads b (map (λ y. lines.row_line s y) xs)) (lines.row_line s x) g refl refl (rows_follow g.last g.low) read) whole

-- ---- queries
pub record QueryRules (s : Script) (done xs : List Query) : Type 0 where
  pub asked : (q : Query) (ys zs : List Query) → xs ≡ ys ++ q ∷ zs → Asked s q
  pub names : are_names (map (λ q. q.name) (done ++ xs)) ≡ true
  pub few : length (done ++ xs) ≤ 1000

queries_on : (s : Script) (done : List Query) (x : Query) (xs : List Query) → QueryRules s done (x ∷ xs) → QueryRules s (done ++ x ∷ []) xs
queries_on s done x xs r =
    let together : done ++ x ∷ xs ≡ (done ++ x ∷ []) ++ xs = sym (append_assoc done (x ∷ []) xs) in
    record {
      asked = λ q ys zs e. r.asked q (x ∷ ys) zs (ap (λ l. x ∷ l) e);
      names = subst (λ ys. are_names (map (λ q. q.name) ys) ≡ true) together r.names;
      few = subst (λ ys. length ys ≤ 1000) together r.few;
    }

taken_names : (qs : List Query) (w : List ℕ) → has_name (query_names (map said qs)) w ≡ list_any (λ q. bytes_eq q.name w) qs
taken_names [] w = refl
taken_names (q ∷ qs) w = rw (taken_names qs w) refl

said_more : (qs : List Query) (q : Query) → map said (qs ++ q ∷ []) ≡ map said qs ++ said q ∷ []
said_more [] q = refl
said_more (p ∷ qs) q = rw (said_more qs q) refl

query_taken : (r : Reader) (taken : Bool) (q : Said) → taken ≡ false → length r.outline.queries < 1000 →
    with_query r taken (Ok q) ≡ Ok (record r { outline = record r.outline { queries = r.outline.queries ++ q ∷ [] }; place = Place.Behind Part.Queries })
query_taken r taken q e h = rw (e, lt-ltb (length r.outline.queries) 1000 h) refl

pub queries_go : (s : Script) (rows : List (Key × Row)) (done xs : List Query) (r : Reader) (b : Bool) → Mapped s.mapping → QueryRules s done xs → Reached r (stage s rows (map said done) [] []) 0 5 →
    Arrives r (map (λ q. lines.query_line s q) xs) b (stage s rows (map said (done ++ xs)) [] []) 0 5
queries_go s rows done [] r b w rules g = record { reader = r; goes = refl; there = subst (λ ys. Reached r (stage s rows (map said ys) [] []) 0 5) (sym (append-nil done)) g }
queries_go s rows done (x ∷ xs) r b w rules g =
    let here : Reader = between (stage s rows (map said done) [] []) 0 g.last in
    let m : Reader = between (stage s rows (map said done ++ said x ∷ []) [] []) 0 Part.Queries in
    let a : Asked s x = rules.asked x [] xs refl in
    let free : has_name (query_names (map said done)) x.name ≡ false =
    taken_names done x.name ∙ new_name (λ q. q.name) done x xs (names_apart (map (λ q. q.name) (done ++ x ∷ xs)) rules.names) in
    let few : length (done ++ x ∷ xs) ≤ 1000 = rules.few in
    let size : length (map said done) < 1000 = omega (arith, length-append done (x ∷ xs), length-map done said) in
    let read = ap (λ c. with_query here (has_name (query_names (map said done)) x.name) c) (query_back s x w a) ∙ query_taken here (has_name (query_names (map said done)) x.name) (said x) free size in
    let here_now : Reached m (stage s rows (map said (done ++ x ∷ [])) [] []) 0 5 =
    subst (λ qs. Reached m (stage s rows qs [] []) 0 5) (sym (said_more done x)) (reached (stage s rows (map said done ++ said x ∷ []) [] []) 0 Part.Queries 5 (omega arith)) in
    let rest : Arrives m (map (λ q. lines.query_line s q) xs) b (stage s rows (map said ((done ++ x ∷ []) ++ xs)) [] []) 0 5 = queries_go s rows (done ++ x ∷ []) xs m b w (queries_on s done x xs rules) here_now in
    let whole : Arrives m (map (λ q. lines.query_line s q) xs) b (stage s rows (map said (done ++ x ∷ xs)) [] []) 0 5 =
    subst (λ ys. Arrives m (map (λ q. lines.query_line s q) xs) b (stage s rows (map said ys) [] []) 0 5) (append_assoc done (x ∷ []) xs) rest in
    arrives_more r m (lines.query_line s x) (map (λ q. lines.query_line s q) xs) b (stage s rows (map said (done ++ x ∷ xs)) [] []) 0 5
    (part_read r m (stage s rows (map said done) [] []) 0 5 Part.Queries (leads b (map (λ q. lines.query_line s q) xs)) (lines.query_line s x) g refl refl (queries_follow g.last g.low) read) whole
