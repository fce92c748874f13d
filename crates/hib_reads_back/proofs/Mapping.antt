-- What stands before the rows of a printed script, read back.
use Rattle.std.proofs.Common.{◌≡◌, ℕ, ◌+◌, ◌≤◌, Bool, true, false, cond, nat_le, List, [], ◌∷◌, ◌++◌, length, map, flat_map, Some, None, Option, Ok, Err, refl, sym, ap, subst, ◌∙◌, append_assoc, length-append, arith}
use Rattle.std.specs.List.{list_all}
use Rattle.std.proofs.lemmas.Bool.{and_parts, le-leb, leb-true}
use Rattle.std.proofs.lemmas.List.{append-nil}
use Rattle.hib_base.specs.declared.scripts.ColumnDef.{ColumnDef}
use Rattle.hib_base.specs.declared.scripts.EntityDef.{EntityDef}
use Rattle.hib_base.specs.declared.scripts.Script.{Script}
use Rattle.hib_base.specs.declared.refusals.Kind.{Kind}
use Rattle.hib_base.specs.Valid.{is_capacity, is_entity, are_columns, have_columns}
use Rattle.hib_base.specs.Fits.{are_defaults}
use Rattle.hib_base.specs.Words.{is_reserved, are_names}
use Rattle.hib_base.proofs.Columns.{HasColumns, columns_of}
use Rattle.hib_base.specs.Scripts.{is_type_below}
use Rattle.hib_lex.specs.declared.lexer.Token.{Token}
use Rattle.hib_mapping.specs.Declarations as declarations
use Rattle.hib_script.specs.Lines as reader
use Rattle.hib_script.specs.Outline.{Outline}
use Rattle.hib_script.specs.Places.{rank, may_follow}
use Rattle.hib_script.specs.Script.{start}
use Rattle.hib_script.specs.declared.places.Part.{Part}
use Rattle.hib_script.specs.declared.places.Place.{Place}
use Rattle.hib_print.specs.Lines as lines
use Rattle.hib_print.specs.Printed.{head_lines}
use Rattle.hib_reads_back.proofs.Named.{name_at, name_free, got_middle}
use Rattle.hib_reads_back.proofs.Entities.{Among, bare, with_columns, entity_ruled, entity_formed, entity_declared, column_read}
use Rattle.hib_reads_back.proofs.Parts.{Arrives}
use Rattle.hib_reads_back.proofs.Steps.{leads, Goes, goes_both, between, Reached, part_read}

-- a script with some of its entities, and nothing after them
abbrev pub early : Script → List EntityDef → Outline
early s m = record { timeout = s.timeout; results = s.results; mapping = m; rows = []; queries = []; sessions = []; schedule = [] }

-- ---- the head
pub record Limits (s : Script) : Type 0 where
  pub timeout_low : nat_le 1 s.timeout ≡ true
  pub timeout : nat_le s.timeout 1000000 ≡ true
  pub results_low : nat_le 1 s.results ≡ true
  pub results : nat_le s.results 100000 ≡ true

pub limits : (s : Script) → 1 ≤ s.timeout → s.timeout ≤ 1000000 → 1 ≤ s.results → s.results ≤ 100000 → Limits s
limits s a b c d = record { timeout_low = le-leb 1 s.timeout a; timeout = le-leb s.timeout 1000000 b; results_low = le-leb 1 s.results c; results = le-leb s.results 100000 d }

timed : Script → reader.Reader
timed s = record { outline = record { timeout = s.timeout; results = 100; mapping = []; rows = []; queries = []; sessions = []; schedule = [] }; entity = None; statements = 0; place = Place.Behind Part.Timeout }

pub head_go : (s : Script) (b : Bool) → Limits s → Goes start (head_lines s) b (between (early s []) 0 Part.Results)
unfolding timed
head_go s b l =
    (reader.behind Part.Header start, (refl, (timed s, (rw (l.timeout_low, l.timeout) refl, (between (early s []) 0 Part.Results, (rw (l.results_low, l.results) refl, refl))))))

-- ---- entities
-- a reader among the columns of an entity
abbrev among : Script → List EntityDef → EntityDef → List ColumnDef → reader.Reader
among s done e ds = record { outline = early s done; entity = Some (with_columns e ds); statements = 0; place = Place.Behind Part.Entities }

entities_follow : (last : Part) → rank last ≤ 3 → may_follow last Part.Entities ≡ true
entities_follow Part.Header h = refl
entities_follow Part.Timeout h = refl
entities_follow Part.Results h = refl
entities_follow Part.Entities h = refl
entities_follow Part.Rows h = absurd (omega (arith, h))
entities_follow Part.Queries h = absurd (omega (arith, h))
entities_follow Part.Sessions h = absurd (omega (arith, h))
entities_follow Part.Schedule h = absurd (omega (arith, h))

columns_go : (s : Script) (done : List EntityDef) (e : EntityDef) (rest : List EntityDef) (ds es : List ColumnDef) (b : Bool) → Among s done e rest → list_all (λ d. is_type_below (length done + 1) d.kind) es ≡ true →
    length (ds ++ es) ≤ 16 → are_names (map (λ d. d.name) (ds ++ es)) ≡ true → are_defaults (ds ++ es) ≡ true →
    Goes (among s done e ds) (map (λ d. lines.column_line s d) es) b (among s done e (ds ++ es))
columns_go s done e rest ds [] b a h few names defaults = ap (λ cs. among s done e cs) (sym (append-nil ds))
columns_go s done e rest ds (d ∷ es) b a h few names defaults =
    let parts : (is_type_below (length done + 1) d.kind ≡ true) × (list_all (λ x. is_type_below (length done + 1) x.kind) es ≡ true) = and_parts (is_type_below (length done + 1) d.kind) (list_all (λ x. is_type_below (length done + 1) x.kind) es) h in
    let together : ds ++ d ∷ es ≡ (ds ++ d ∷ []) ++ es = sym (append_assoc ds (d ∷ []) es) in
    let m : reader.Reader = among s done e (ds ++ d ∷ []) in
    let rest_go : Goes m (map (λ x. lines.column_line s x) es) b (among s done e ((ds ++ d ∷ []) ++ es)) =
    columns_go s done e rest (ds ++ d ∷ []) es b a parts.1 (subst (λ cs. length cs ≤ 16) together few) (subst (λ cs. are_names (map (λ x. x.name) cs) ≡ true) together names) (subst (λ cs. are_defaults cs ≡ true) together defaults) in (
      m,
      (
        ap (λ x. reader.with_columns (among s done e ds) x) (column_read s done e rest ds d es a parts.0 few names defaults),
        subst (λ cs. Goes m (map (λ x. lines.column_line s x) es) b (among s done e cs)) (append_assoc ds (d ∷ []) es) rest_go,
      ),
    )

leads_columns : (s : Script) (b : Bool) (ds : List ColumnDef) → 1 ≤ length ds → leads b (map (λ d. lines.column_line s d) ds) ≡ true
leads_columns s b [] h = absurd (omega (arith, h))
leads_columns s b (d ∷ ds) h = refl

-- what is asked of an entity
pub record EntityRules (e : EntityDef) (n : ℕ) : Type 0 where
  pub capacity : is_capacity e.strategy e.capacity ≡ true
  pub some : 1 ≤ length e.columns
  pub few : length e.columns ≤ 16
  pub names : are_names (map (λ d. d.name) e.columns) ≡ true
  pub leads : list_all (λ d. is_type_below (n + 1) d.kind) e.columns ≡ true
  pub defaults : are_defaults e.columns ≡ true

entity_begun : (r : reader.Reader) (ts : List Token) (w : List ℕ) (k : Option Kind) (e : EntityDef) → declarations.is_entity_line ts ≡ true → k ≡ None → is_reserved w ≡ false → declarations.entity_of ts ≡ Some e →
    cond (declarations.is_entity_line ts) (reader.new_entity r ts (reader.or_reserved w k)) (Err Kind.Words) ≡ Ok (reader.behind Part.Entities (record r { entity = Some e }))
entity_begun r ts w k e a b c d = rw (a, b, c) (ap (λ o. Ok (reader.behind Part.Entities (record r { entity = o }))) d)

entity_go : (s : Script) (done : List EntityDef) (e : EntityDef) (rest : List EntityDef) (r : reader.Reader) (b : Bool) → Among s done e rest → EntityRules e (length done) → Reached r (early s done) 0 3 →
    Goes r (lines.entity_lines s e) b (among s done e e.columns)
entity_go s done e rest r b a rules g =
    let m : reader.Reader = among s done e [] in
    let here : reader.Reader = between (early s done) 0 g.last in
    let free : is_reserved e.name ≡ false =
    name_free e.name (name_at (λ x. x.name) (done ++ e ∷ rest) (length done) e (subst (λ x. are_names (map (λ y. y.name) x) ≡ true) a.whole a.names) (got_middle done e rest)) in
    let first : reader.after_line r true (lines.entity_line e) ≡ Ok m =
    part_read r m (early s done) 0 3 Part.Entities true (lines.entity_line e) g refl refl (entities_follow g.last g.low)
    (entity_begun here (lines.entity_line e) e.name (declarations.entity_kind done true (lines.entity_line e)) (bare e) (entity_formed e) (entity_ruled s done e rest a rules.capacity) free (entity_declared e rules.capacity)) in
    (m, (ap (λ f. reader.after_line r f (lines.entity_line e)) (leads_columns s b e.columns rules.some) ∙ first, columns_go s done e rest [] e.columns b a rules.leads rules.few rules.names rules.defaults))

entities_on : (s : Script) (done : List EntityDef) (e : EntityDef) (ds : List ColumnDef) → Reached (among s done e e.columns) (early s (done ++ e ∷ [])) 0 3
entities_on s done e ds = record { last = Part.Entities; place = refl; whole = refl; low = omega arith }

-- the rules of entities after others
pub record AreRuled (s : Script) (done xs : List EntityDef) : Type 0 where
  pub whole : s.mapping ≡ done ++ xs
  pub few : length s.mapping ≤ 64
  pub names : are_names (map (λ e. e.name) s.mapping) ≡ true
  pub bounded : list_all is_entity xs ≡ true
  pub columns : have_columns (length done) xs ≡ true

pub entities_go : (s : Script) (done xs : List EntityDef) (r : reader.Reader) (b : Bool) → AreRuled s done xs → Reached r (early s done) 0 3 → Arrives r (flat_map (λ e. lines.entity_lines s e) xs) b (early s (done ++ xs)) 0 3
entities_go s done [] r b rules g = record { reader = r; goes = refl; there = subst (λ m. Reached r (early s m) 0 3) (sym (append-nil done)) g }
entities_go s done (e ∷ xs) r b rules g =
    let together : done ++ e ∷ xs ≡ (done ++ e ∷ []) ++ xs = sym (append_assoc done (e ∷ []) xs) in
    let bounds : (is_entity e ≡ true) × (list_all is_entity xs ≡ true) = and_parts (is_entity e) (list_all is_entity xs) rules.bounded in
    let room : (is_capacity e.strategy e.capacity ≡ true) × (nat_le 1 (length e.columns) ≡ true) = and_parts (is_capacity e.strategy e.capacity) (nat_le 1 (length e.columns)) bounds.0 in
    let cols : (are_columns (length done + 1) e ≡ true) × (have_columns (length done + 1) xs ≡ true) = and_parts (are_columns (length done + 1) e) (have_columns (length done + 1) xs) rules.columns in
    let c : HasColumns (length done + 1) e.columns = columns_of (length done + 1) e cols.0 in
    let one : EntityRules e (length done) = record {
      capacity = room.0;
      some = leb-true 1 (length e.columns) room.1;
      few = leb-true (length e.columns) 16 c.few;
      names = c.named;
      leads = c.below;
      defaults = c.defaults;
    } in
    let a : Among s done e xs = record { whole = rules.whole; few = rules.few; names = rules.names } in
    let m : reader.Reader = among s done e e.columns in
    let ls : List (List Token) = flat_map (λ x. lines.entity_lines s x) xs in
    let count : length done + 1 ≡ length (done ++ e ∷ []) = omega (arith, length-append done (e ∷ [])) in
    let on : AreRuled s (done ++ e ∷ []) xs = record {
      whole = rules.whole ∙ together;
      few = rules.few;
      names = rules.names;
      bounded = bounds.1;
      columns = subst (λ n. have_columns n xs ≡ true) count cols.1;
    } in
    let rest : Arrives m ls b (early s ((done ++ e ∷ []) ++ xs)) 0 3 = entities_go s (done ++ e ∷ []) xs m b on (entities_on s done e e.columns) in
    let all : Arrives m ls b (early s (done ++ e ∷ xs)) 0 3 = subst (λ es. Arrives m ls b (early s es) 0 3) (append_assoc done (e ∷ []) xs) rest in
    record {
      reader = all.reader;
      goes = goes_both r m all.reader (lines.entity_lines s e) ls b (entity_go s done e xs r (leads b ls) a one g) all.goes;
      there = all.there;
    }
