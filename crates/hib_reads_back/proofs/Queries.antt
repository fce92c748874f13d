-- Queries, read back from their lines.
use Rattle.std.proofs.Common.{◌≡◌, ℕ, ◌<◌, Bool, true, false, not, cond, ◌&&◌, ◌||◌, ◌==◌, nat_le, List, [], ◌∷◌, ◌++◌, length, slice_get, codes, flat_map, bytes_eq, Some, None, Option, Ok, refl, sym, ap, subst, ◌∙◌, append_assoc, arith, eqb-true}
use Rattle.std.specs.List.{list_all, list_any}
use Rattle.std.proofs.lemmas.Bool.{and_parts, or_parts, le-leb, ltb-true}
use Rattle.std.proofs.lemmas.List.{append-nil}
use Rattle.hib_base.specs.declared.scripts.ColumnType.{ColumnType}
use Rattle.hib_base.specs.declared.scripts.EntityDef.{EntityDef}
use Rattle.hib_base.specs.declared.scripts.Cond.{Cond}
use Rattle.hib_base.specs.declared.scripts.Sort.{Sort}
use Rattle.hib_base.specs.declared.scripts.Select.{Select}
use Rattle.hib_base.specs.declared.scripts.Query.{Query}
use Rattle.hib_base.specs.declared.scripts.Script.{Script}
use Rattle.hib_base.specs.declared.scripts.Node.{Node}
use Rattle.hib_base.specs.Fits.{columns_in, entity_columns, kind_in, type_at, fits_part, fits_sort, fits_select, fits_query}
use Rattle.hib_base.specs.Queries.{parts_of, parts_in, Said, said}
use Rattle.hib_base.specs.Valid.{is_nested_in, is_short, is_cut, counts_all}
use Rattle.hib_base.specs.Words.{is_reserved}
use Rattle.hib_lex.specs.declared.lexer.Token.{Token}
use Rattle.hib_lex.specs.Words.{is_the_word}
use Rattle.hib_columns.specs.Columns.{plain_column}
use Rattle.hib_columns.specs.declared.columns.Found.{Found}
use Rattle.hib_criteria.specs.Form.{at, chosen, with_sort, is_clause, step_clauses, step_sorting, sorted, unless, select_column, form_from, form_of, empty}
use Rattle.hib_criteria.specs.Query.{is_one, count_of, are_whole, said_by, judged, read, query_of}
use Rattle.hib_criteria.specs.declared.forms.Form.{Form}
use Rattle.hib_criteria.specs.declared.forms.Place.{Place}
use Rattle.hib_criteria.proofs.Parts.{parts_ended}
use Rattle.hib_print.specs.Lines as lines
use Rattle.hib_texts.specs.Texts.{column_name, column_text}
use Rattle.hib_reads_back.proofs.Named.{got, name_at, name_free}
use Rattle.hib_reads_back.proofs.Cells.{Mapped, entity_back}
use Rattle.hib_reads_back.proofs.Conditions.{Head, form, column_shown, column_back, Fitting, opens, condition_read}

-- ---- words that are no reserved ones
-- a word that is free is none of those that the reader looks for
record Free (w : List ℕ) : Type 0 where
  no_desc : bytes_eq w (codes "desc") ≡ false
  no_offset : bytes_eq w (codes "offset") ≡ false
  no_limit : bytes_eq w (codes "limit") ≡ false
  no_select : bytes_eq w (codes "select") ≡ false
  no_ids : bytes_eq w (codes "ids") ≡ false
  no_count : bytes_eq w (codes "count") ≡ false

behind_one : (b : Bool) (w r : List ℕ) (rs : List (List ℕ)) → list_any (λ v. bytes_eq w v) (r ∷ rs) ≡ false → (bytes_eq w r ≡ false) × (list_any (λ v. bytes_eq w v) rs ≡ false)
behind_one b w r rs h = or_parts (bytes_eq w r) (list_any (λ v. bytes_eq w v) rs) h

free : (w : List ℕ) → is_reserved w ≡ false → Free w
free w h =
    let r1 = codes "count" ∷ codes "true" ∷ codes "false" ∷ codes "none" ∷ codes "default" ∷ [] in
    let r2 = codes "ids" ∷ r1 in
    let r3 = codes "select" ∷ r2 in
    let r4 = codes "limit" ∷ r3 in
    let r5 = codes "offset" ∷ r4 in
    let r6 = codes "desc" ∷ r5 in
    let r7 = codes "order" ∷ r6 in
    let r8 = codes "where" ∷ r7 in
    let r9 = codes "from" ∷ r8 in
    let s9 = behind_one true w (codes "cached") r9 h in
    let s8 = behind_one true w (codes "from") r8 s9.1 in
    let s7 = behind_one true w (codes "where") r7 s8.1 in
    let s6 = behind_one true w (codes "order") r6 s7.1 in
    let s5 = behind_one true w (codes "desc") r5 s6.1 in
    let s4 = behind_one true w (codes "offset") r4 s5.1 in
    let s3 = behind_one true w (codes "limit") r3 s4.1 in
    let s2 = behind_one true w (codes "select") r2 s3.1 in
    let s1 = behind_one true w (codes "ids") r1 s2.1 in
    let s0 = behind_one true w (codes "count") (codes "true" ∷ codes "false" ∷ codes "none" ∷ codes "default" ∷ []) s1.1 in
    record { no_desc = s5.0; no_offset = s4.0; no_limit = s3.0; no_select = s2.0; no_ids = s1.0; no_count = s0.0 }

-- ---- the head of the line
abbrev head_of : Query → Head
head_of q = record { name = q.name; cached = q.cached; entity = q.entity }

head_read : (script : Script) (name : List ℕ) (cached : Bool) (e : ℕ) (rest : List Token) → Mapped script.mapping → e < length script.mapping →
    form_from script.mapping (at empty [] Place.Start) (Token.Word (codes "query") ∷ Token.Word name ∷ (lines.cached_tokens cached ++ (lines.from_tokens script e ++ rest))) ≡
    form_from script.mapping (at (form (record { name = name; cached = cached; entity = e }) []) [] Place.Chosen) rest
head_read script name true e rest w l = ap (λ o. form_from script.mapping (at (chosen (record empty { name = name; cached = true }) o) [] Place.Chosen) rest) (entity_back script e w l)
head_read script name false e rest w l = ap (λ o. form_from script.mapping (at (chosen (record empty { name = name; cached = false }) o) [] Place.Chosen) rest) (entity_back script e w l)

-- ---- what stands after the condition
abbrev sorting : Head → List Node → List Sort → Form
sorting h ns os = record (form h ns) { order = os }

abbrev ending : Script → Query → List Token
ending script q = lines.page_tokens q.select q.offset q.limit ++ lines.select_tokens script q.entity q.select

abbrev tail : Script → Query → List Token
tail script q = lines.order_tokens script q.entity q.order ++ ending script q

chosen_clauses : (script : Script) (e : ℕ) (os : List Sort) (s : Select) (off lim : ℕ) (f : Form) →
    form_from script.mapping (at f [] Place.Chosen) (lines.order_tokens script e os ++ (lines.page_tokens s off lim ++ lines.select_tokens script e s)) ≡
    form_from script.mapping (at f [] Place.Clauses) (lines.order_tokens script e os ++ (lines.page_tokens s off lim ++ lines.select_tokens script e s))
chosen_clauses script e [] Select.Ids off lim f = refl
chosen_clauses script e [] Select.Count off lim f = refl
chosen_clauses script e [] (Select.Column c) off lim f = refl
chosen_clauses script e (o ∷ os) s off lim f = refl

where_read : (script : Script) (h : Head) (c : Option Cond) (ts : List Token) → Mapped script.mapping → ((x : Cond) → c ≡ Some x → Fitting script.mapping h.entity x) → is_nested_in c ≡ true →
    ((f : Form) → form_from script.mapping (at f [] Place.Chosen) ts ≡ form_from script.mapping (at f [] Place.Clauses) ts) →
    form_from script.mapping (at (form h []) [] Place.Chosen) (lines.where_tokens script h.entity c ++ ts) ≡ form_from script.mapping (at (form h (parts_in c)) [] Place.Clauses) ts
where_read script h None ts w f d same = same (form h [])
where_read script h (Some c) ts w f d same =
    ap (λ us. form_from script.mapping (at (form h []) [] Place.Condition) (us ++ ts)) (opens script h.entity c)
    ∙ condition_read script h w c (f c refl) [] [] ts 16 d (omega arith)

-- ---- order
pub sort_column : (script : Script) (e : ℕ) (s : Sort) → fits_sort (entity_columns script.mapping e) s ≡ true → (k : ColumnType) × (type_at (entity_columns script.mapping e) s.column ≡ Some k)
sort_column script e s h =
    let g = got (entity_columns script.mapping e) s.column (ltb-true s.column (length (entity_columns script.mapping e)) h) in
    (g.value.kind, ap (λ o. kind_in o) g.there)

-- the name of a column that is there is free
column_free : (script : Script) (e c : ℕ) (k : ColumnType) → Mapped script.mapping → e < length script.mapping → c < length (entity_columns script.mapping e) → is_reserved (column_text script e c) ≡ false
column_free script e c k w l b =
    let m : List EntityDef = script.mapping in
    let g = got m e l in
    let columns : entity_columns m e ≡ g.value.columns = ap (λ o. columns_in o) g.there in
    let d = got (entity_columns m e) c b in
    let there : slice_get g.value.columns c ≡ Some d.value = ap (λ x. slice_get x c) (sym columns) ∙ d.there in
    let free : is_reserved d.value.name ≡ false = name_free d.value.name (name_at (λ x. x.name) g.value.columns c d.value (w.column_names e g.value g.there) there) in
    let shown : column_text script e c ≡ d.value.name = column_shown script e c ∙ ap (λ o. column_name o) d.there in
    ap (λ x. is_reserved x) shown ∙ free

-- a word that is no `desc` doesn't belong to the column before it
not_desc : (m : List EntityDef) (f : Form) (c : ℕ) (t : Token) (ts : List Token) → is_the_word (codes "desc") t ≡ false →
    form_from m (at f [] (Place.Sorted c)) (t ∷ ts) ≡ form_from m (at (with_sort f c false) [] Place.Sorting) (t ∷ ts)
not_desc m f c t ts h = ap (λ b. form_from m (cond b (at (with_sort f c true) [] Place.Sorting) (step_sorting m (with_sort f c false) [] t)) ts) h

no_clause : (w : List ℕ) → is_reserved w ≡ false → is_clause (Token.Word w) ≡ false
no_clause w h = let f = free w h in rw (f.no_offset, f.no_limit, f.no_select) refl

name_read : (script : Script) (h : Head) (ns : List Node) (os : List Sort) (s : Sort) (k : ColumnType) (rest : List Token) → Mapped script.mapping → type_at (entity_columns script.mapping h.entity) s.column ≡ Some k →
    is_reserved (column_text script h.entity s.column) ≡ false →
    form_from script.mapping (at (sorting h ns os) [] Place.Sorting) (Token.Word (column_text script h.entity s.column) ∷ rest) ≡ form_from script.mapping (at (sorting h ns os) [] (Place.Sorted s.column)) rest
name_read script h ns os s k rest w t r =
    let m : List EntityDef = script.mapping in
    let name : List ℕ = column_text script h.entity s.column in
    ap (λ b. form_from m (cond b (step_clauses (sorting h ns os) [] (Token.Word name)) (cond (not b) (sorted (sorting h ns os) [] (plain_column (entity_columns m h.entity) name)) None)) rest) (no_clause name r)
    ∙ ap (λ c. form_from m (sorted (sorting h ns os) [] c) rest) (column_back script h.entity s.column k w t)

order_begins : (script : Script) (h : Head) (ns : List Node) (os : List Sort) (s : Sort) (rest : List Token) → is_reserved (column_text script h.entity s.column) ≡ false →
    form_from script.mapping (at (sorting h ns os) [] Place.Order) (Token.Word (column_text script h.entity s.column) ∷ rest) ≡
    form_from script.mapping (at (sorting h ns os) [] Place.Sorting) (Token.Word (column_text script h.entity s.column) ∷ rest)
order_begins script h ns os s rest r =
    let m : List EntityDef = script.mapping in
    let name : List ℕ = column_text script h.entity s.column in
    let f : Form = sorting h ns os in
    let order : Bool → Option Rattle.hib_criteria.specs.declared.forms.Draft.Draft = λ b. cond (not b) (sorted f [] (plain_column (entity_columns m h.entity) name)) None in
    ap (λ b. form_from m (order b) rest) (no_clause name r)
    ∙ sym (ap (λ b. form_from m (cond b (step_clauses f [] (Token.Word name)) (order b)) rest) (no_clause name r))

-- what may stand after a column
abbrev IsBehind : Script → List Token → Type 0
IsBehind script ts = (f : Form) (c : ℕ) → form_from script.mapping (at f [] (Place.Sorted c)) ts ≡ form_from script.mapping (at (with_sort f c false) [] Place.Sorting) ts

sort_read : (script : Script) (h : Head) (ns : List Node) (os : List Sort) (s : Sort) (k : ColumnType) (rest : List Token) → Mapped script.mapping → type_at (entity_columns script.mapping h.entity) s.column ≡ Some k →
    is_reserved (column_text script h.entity s.column) ≡ false → IsBehind script rest →
    form_from script.mapping (at (sorting h ns os) [] Place.Sorting) (lines.sort_tokens script h.entity s ++ rest) ≡ form_from script.mapping (at (sorting h ns (os ++ s ∷ [])) [] Place.Sorting) rest
sort_read script h ns os s k rest w t r b =
    name_read script h ns os s k (lines.desc_tokens s.desc ++ rest) w t r ∙ by_way s.desc
  where
    by_way : (d : Bool) → form_from script.mapping (at (sorting h ns os) [] (Place.Sorted s.column)) (lines.desc_tokens d ++ rest) ≡
        form_from script.mapping (at (sorting h ns (os ++ record { column = s.column; desc = d } ∷ [])) [] Place.Sorting) rest
    by_way true = refl
    by_way false = b (sorting h ns os) s.column

sorts_behind : (script : Script) (e : ℕ) (ss : List Sort) (ts : List Token) → Mapped script.mapping → e < length script.mapping → list_all (λ s. fits_sort (entity_columns script.mapping e) s) ss ≡ true → IsBehind script ts →
    IsBehind script (flat_map (λ s. lines.sort_tokens script e s) ss ++ ts)
sorts_behind script e [] ts w l h b f c = b f c
sorts_behind script e (s ∷ ss) ts w l h b f c =
    let fit : fits_sort (entity_columns script.mapping e) s ≡ true = (and_parts (fits_sort (entity_columns script.mapping e) s) (list_all (λ x. fits_sort (entity_columns script.mapping e) x) ss) h).0 in
    let k = sort_column script e s fit in
    let r : is_reserved (column_text script e s.column) ≡ false = column_free script e s.column k.0 w l (ltb-true s.column (length (entity_columns script.mapping e)) fit) in
    not_desc script.mapping f c (Token.Word (column_text script e s.column)) ((lines.desc_tokens s.desc ++ flat_map (λ x. lines.sort_tokens script e x) ss) ++ ts) (free (column_text script e s.column) r).no_desc

sorts_read : (script : Script) (h : Head) (ns : List Node) (os ss : List Sort) (ts : List Token) → Mapped script.mapping → h.entity < length script.mapping →
    list_all (λ s. fits_sort (entity_columns script.mapping h.entity) s) ss ≡ true → IsBehind script ts →
    form_from script.mapping (at (sorting h ns os) [] Place.Sorting) (flat_map (λ s. lines.sort_tokens script h.entity s) ss ++ ts) ≡ form_from script.mapping (at (sorting h ns (os ++ ss)) [] Place.Sorting) ts
sorts_read script h ns os [] ts w l f b = ap (λ z. form_from script.mapping (at (sorting h ns z) [] Place.Sorting) ts) (sym (append-nil os))
sorts_read script h ns os (s ∷ ss) ts w l f b =
    let m : List EntityDef = script.mapping in
    let parts : (fits_sort (entity_columns m h.entity) s ≡ true) × (list_all (λ x. fits_sort (entity_columns m h.entity) x) ss ≡ true) =
    and_parts (fits_sort (entity_columns m h.entity) s) (list_all (λ x. fits_sort (entity_columns m h.entity) x) ss) f in
    let k = sort_column script h.entity s parts.0 in
    let r : is_reserved (column_text script h.entity s.column) ≡ false = column_free script h.entity s.column k.0 w l (ltb-true s.column (length (entity_columns m h.entity)) parts.0) in
    let rest : List Token = flat_map (λ x. lines.sort_tokens script h.entity x) ss ++ ts in
    ap (λ us. form_from m (at (sorting h ns os) [] Place.Sorting) us) (append_assoc (lines.sort_tokens script h.entity s) (flat_map (λ x. lines.sort_tokens script h.entity x) ss) ts)
    ∙ (sort_read script h ns os s k.0 rest w k.1 r (sorts_behind script h.entity ss ts w l parts.1 b)
    ∙ (sorts_read script h ns (os ++ s ∷ []) ss ts w l parts.1 b ∙ ap (λ z. form_from m (at (sorting h ns z) [] Place.Sorting) ts) (append_assoc os (s ∷ []) ss)))

ending_behind : (script : Script) (e : ℕ) (s : Select) (off lim : ℕ) → IsBehind script (lines.page_tokens s off lim ++ lines.select_tokens script e s)
ending_behind script e Select.Ids off lim f c = refl
ending_behind script e Select.Count off lim f c = refl
ending_behind script e (Select.Column d) off lim f c = refl

ending_clauses : (script : Script) (e : ℕ) (s : Select) (off lim : ℕ) (f : Form) →
    form_from script.mapping (at f [] Place.Sorting) (lines.page_tokens s off lim ++ lines.select_tokens script e s) ≡ form_from script.mapping (at f [] Place.Clauses) (lines.page_tokens s off lim ++ lines.select_tokens script e s)
ending_clauses script e Select.Ids off lim f = refl
ending_clauses script e Select.Count off lim f = refl
ending_clauses script e (Select.Column d) off lim f = refl

order_read : (script : Script) (h : Head) (ns : List Node) (ss : List Sort) (s : Select) (off lim : ℕ) → Mapped script.mapping → h.entity < length script.mapping →
    list_all (λ x. fits_sort (entity_columns script.mapping h.entity) x) ss ≡ true →
    form_from script.mapping (at (form h ns) [] Place.Clauses) (lines.order_tokens script h.entity ss ++ (lines.page_tokens s off lim ++ lines.select_tokens script h.entity s)) ≡
    form_from script.mapping (at (sorting h ns ss) [] Place.Clauses) (lines.page_tokens s off lim ++ lines.select_tokens script h.entity s)
order_read script h ns [] s off lim w l f = refl
order_read script h ns (x ∷ xs) s off lim w l f =
    let m : List EntityDef = script.mapping in
    let ts : List Token = lines.page_tokens s off lim ++ lines.select_tokens script h.entity s in
    let fit : fits_sort (entity_columns m h.entity) x ≡ true = (and_parts (fits_sort (entity_columns m h.entity) x) (list_all (λ y. fits_sort (entity_columns m h.entity) y) xs) f).0 in
    let k = sort_column script h.entity x fit in
    let r : is_reserved (column_text script h.entity x.column) ≡ false = column_free script h.entity x.column k.0 w l (ltb-true x.column (length (entity_columns m h.entity)) fit) in
    order_begins script h ns [] x ((lines.desc_tokens x.desc ++ flat_map (λ y. lines.sort_tokens script h.entity y) xs) ++ ts) r
    ∙ (sorts_read script h ns [] (x ∷ xs) ts w l f (ending_behind script h.entity s off lim) ∙ ending_clauses script h.entity s off lim (sorting h ns (x ∷ xs)))

-- ---- offset, limit, select
abbrev cut_form : Head → List Node → List Sort → ℕ → ℕ → Select → Form
cut_form h ns os off lim s = record (sorting h ns os) { offset = Some off; limit = Some lim; select = s }

ids_read : (m : List EntityDef) (h : Head) (ns : List Node) (os : List Sort) (off lim : ℕ) → nat_le off 1000000 ≡ true → nat_le 1 lim ≡ true → nat_le lim 200 ≡ true →
    form_from m (at (sorting h ns os) [] Place.Clauses)
    (Token.Word (codes "offset") ∷ lines.natural off ∷ Token.Word (codes "limit") ∷ lines.natural lim ∷ Token.Word (codes "select") ∷ Token.Word (codes "ids") ∷ []) ≡ Some (cut_form h ns os off lim Select.Ids)
ids_read m h ns os off lim a b c = rw (le-leb 0 off (omega arith), a, b, c) refl

-- the form after the offset and the limit
abbrev paged : Head → List Node → List Sort → ℕ → ℕ → Form
paged h ns os off lim = record (sorting h ns os) { offset = Some off; limit = Some lim }

pages_read : (m : List EntityDef) (h : Head) (ns : List Node) (os : List Sort) (off lim : ℕ) (ts : List Token) → nat_le off 1000000 ≡ true → nat_le 1 lim ≡ true → nat_le lim 200 ≡ true →
    form_from m (at (sorting h ns os) [] Place.Clauses) (Token.Word (codes "offset") ∷ lines.natural off ∷ Token.Word (codes "limit") ∷ lines.natural lim ∷ Token.Word (codes "select") ∷ ts) ≡
    form_from m (at (paged h ns os off lim) [] Place.Select) ts
pages_read m h ns os off lim ts a b d = by_tests (nat_le 0 off) (nat_le off 1000000) (nat_le 1 lim) (nat_le lim 200) (le-leb 0 off (omega arith)) a b d
  where
    by_tests : (u x z y : Bool) → u ≡ true → x ≡ true → z ≡ true → y ≡ true →
        form_from m (at (record (sorting h ns os) { offset = Some (cond x off 0); limit = Some (cond y lim 0); bad_number = not (u && x) || not (z && y) }) [] Place.Select) ts ≡
        form_from m (at (paged h ns os off lim) [] Place.Select) ts
    by_tests u x z y e f g i = rw (e, f, g, i) refl

column_read : (m : List EntityDef) (h : Head) (ns : List Node) (os : List Sort) (off lim : ℕ) (w : List ℕ) (c : ℕ) (k : ColumnType) → nat_le off 1000000 ≡ true → nat_le 1 lim ≡ true → nat_le lim 200 ≡ true →
    Free w → plain_column (entity_columns m h.entity) w ≡ Some (record { place = c; kind = k }) →
    form_from m (at (sorting h ns os) [] Place.Clauses)
    (Token.Word (codes "offset") ∷ lines.natural off ∷ Token.Word (codes "limit") ∷ lines.natural lim ∷ Token.Word (codes "select") ∷ Token.Word w ∷ []) ≡ Some (cut_form h ns os off lim (Select.Column c))
column_read m h ns os off lim w c k a b d f e =
    pages_read m h ns os off lim (Token.Word w ∷ []) a b d
    ∙ by_tests (bytes_eq w (codes "ids")) (bytes_eq w (codes "count")) (plain_column (entity_columns m h.entity) w) f.no_ids f.no_count e
  where
    by_tests : (x y : Bool) (o : Option Found) → x ≡ false → y ≡ false → o ≡ Some (record { place = c; kind = k }) →
        form_from m (cond x (at (record (paged h ns os off lim) { select = Select.Ids }) [] Place.Over)
        (cond y (unless true (at (record (paged h ns os off lim) { select = Select.Count }) [] Place.Over)) (select_column (paged h ns os off lim) [] o))) [] ≡ Some (cut_form h ns os off lim (Select.Column c))
    by_tests x y o e f g = rw (e, f, g) refl

count_read : (m : List EntityDef) (h : Head) (ns : List Node) →
    form_from m (at (sorting h ns []) [] Place.Clauses) (Token.Word (codes "select") ∷ Token.Word (codes "count") ∷ []) ≡ Some (record (form h ns) { select = Select.Count })
count_read m h ns = refl

-- ---- the form is judged
whole : (c : Option Cond) → are_whole (parts_in c) ≡ true
whole None = refl
whole (Some c) = one c
  where
    built : (c : Cond) → is_one (count_of (parts_of c)) ≡ true
    built c = (parts_ended (parts_of c) [] (c ∷ []) (Some c) refl refl refl).0

    one : (c : Cond) → are_whole (parts_of c) ≡ true
    one (Cond.And' p a q b) = built (Cond.And' p a q b)
    one (Cond.Or' p a q b) = built (Cond.Or' p a q b)
    one (Cond.Not' p a) = built (Cond.Not' p a)
    one (Cond.Test op p x) = refl
    one (Cond.Among p xs) = refl

-- nothing is wrong with it
record Sound (f : Form) : Type 0 where
  whole : are_whole f.nodes ≡ true
  free : is_reserved f.name ≡ false
  known : f.unknown ≡ false
  numbered : f.bad_number ≡ false
  typed : f.mistyped ≡ false
  shallow : f.deep ≡ false

sound_read : (f : Form) → Sound f → judged f ≡ Ok (said_by f)
sound_read f s = rw (s.whole, s.free, s.known, s.numbered, s.typed, s.shallow) refl

-- what is asked of a query
pub record Asked (script : Script) (q : Query) : Type 0 where
  pub declared : q.entity < length script.mapping
  pub free : is_reserved q.name ≡ false
  pub nested : is_nested_in q.condition ≡ true
  pub short : list_all is_short (parts_in q.condition) ≡ true
  pub cut : is_cut (said q) ≡ true
  pub fit : fits_query script.mapping (said q) ≡ true

arranged : (a b c d e f : List Token) → ((((a ++ b) ++ c) ++ d) ++ e) ++ f ≡ a ++ (b ++ (c ++ (d ++ (e ++ f))))
arranged a b c d e f =
    append_assoc ((((a ++ b) ++ c) ++ d)) e f
    ∙ (append_assoc ((a ++ b) ++ c) d (e ++ f) ∙ (append_assoc (a ++ b) c (d ++ (e ++ f)) ∙ append_assoc a b (c ++ (d ++ (e ++ f)))))

-- the form up to the select
front_read : (script : Script) (q : Query) → Mapped script.mapping → Asked script q →
    form_of script.mapping (lines.query_line script q) ≡ form_from script.mapping (at (sorting (head_of q) (parts_in q.condition) q.order) [] Place.Clauses) (ending script q)
front_read script q w a =
    let m : List EntityDef = script.mapping in
    let fit : (list_all (λ x. fits_part m q.entity x) (parts_in q.condition) ≡ true) ×
    ((list_all (λ s. fits_sort (entity_columns m q.entity) s) q.order && fits_select (entity_columns m q.entity) q.select) ≡ true) =
    and_parts (list_all (λ x. fits_part m q.entity x) (parts_in q.condition)) (list_all (λ s. fits_sort (entity_columns m q.entity) s) q.order && fits_select (entity_columns m q.entity) q.select) a.fit in
    let sorts : list_all (λ s. fits_sort (entity_columns m q.entity) s) q.order ≡ true =
    (and_parts (list_all (λ s. fits_sort (entity_columns m q.entity) s) q.order) (fits_select (entity_columns m q.entity) q.select) fit.1).0 in
    let fitting : (x : Cond) → q.condition ≡ Some x → Fitting m q.entity x = λ (x : Cond) (e : q.condition ≡ Some x). record {
      fit = subst (λ o. list_all (λ y. fits_part m q.entity y) (parts_in o) ≡ true) e fit.0;
      short = subst (λ o. list_all is_short (parts_in o) ≡ true) e a.short;
    } in
    ap (λ ts. form_from m (at empty [] Place.Start) ts)
    (arranged (Token.Word (codes "query") ∷ Token.Word q.name ∷ lines.cached_tokens q.cached) (lines.from_tokens script q.entity) (lines.where_tokens script q.entity q.condition)
    (lines.order_tokens script q.entity q.order) (lines.page_tokens q.select q.offset q.limit) (lines.select_tokens script q.entity q.select))
    ∙ (head_read script q.name q.cached q.entity (lines.where_tokens script q.entity q.condition ++ tail script q) w a.declared
    ∙ (where_read script (head_of q) q.condition (tail script q) w fitting a.nested (chosen_clauses script q.entity q.order q.select q.offset q.limit)
    ∙ order_read script (head_of q) (parts_in q.condition) q.order q.select q.offset q.limit w a.declared sorts))

-- what a cut form says
said_cut : (q : Query) (s : Select) → q.select ≡ s → said_by (cut_form (head_of q) (parts_in q.condition) q.order q.offset q.limit s) ≡ said q
said_cut q s e = ap (λ x. said_by (cut_form (head_of q) (parts_in q.condition) q.order q.offset q.limit x)) (sym e)

cut_sound : (q : Query) (s : Select) → is_reserved q.name ≡ false → Sound (cut_form (head_of q) (parts_in q.condition) q.order q.offset q.limit s)
cut_sound q s r = record { whole = whole q.condition; free = r; known = refl; numbered = refl; typed = refl; shallow = refl }

record Cut (q : Query) : Type 0 where
  offset : nat_le q.offset 1000000 ≡ true
  some : nat_le 1 q.limit ≡ true
  limit : nat_le q.limit 200 ≡ true
  count : counts_all (said q) q.select ≡ true

cut_of : (q : Query) → is_cut (said q) ≡ true → Cut q
cut_of q h =
    let one : (nat_le q.offset 1000000 ≡ true) × ((nat_le 1 q.limit && (nat_le q.limit 200 && counts_all (said q) q.select)) ≡ true) =
    and_parts (nat_le q.offset 1000000) (nat_le 1 q.limit && (nat_le q.limit 200 && counts_all (said q) q.select)) h in
    let two : (nat_le 1 q.limit ≡ true) × ((nat_le q.limit 200 && counts_all (said q) q.select) ≡ true) = and_parts (nat_le 1 q.limit) (nat_le q.limit 200 && counts_all (said q) q.select) one.1 in
    let three : (nat_le q.limit 200 ≡ true) × (counts_all (said q) q.select ≡ true) = and_parts (nat_le q.limit 200) (counts_all (said q) q.select) two.1 in
    record { offset = one.0; some = two.0; limit = three.0; count = three.1 }

no_sorts : (ss : List Sort) → length ss ≡ 0 → ss ≡ []
no_sorts [] h = refl
no_sorts (s ∷ ss) h = absurd (omega (arith, h))

-- what a count says
abbrev said_with : Query → List Sort → ℕ → ℕ → Select → Said
said_with q os off lim s = record { name = q.name; cached = q.cached; entity = q.entity; parts = parts_in q.condition; order = os; offset = off; limit = lim; select = s }

said_count : (q : Query) → q.order ≡ [] → q.offset ≡ 0 → q.limit ≡ 200 → q.select ≡ Select.Count → said_with q [] 0 200 Select.Count ≡ said q
said_count q a b c d =
    ap (λ x. said_with q x 0 200 Select.Count) (sym a)
    ∙ (ap (λ x. said_with q q.order x 200 Select.Count) (sym b) ∙ (ap (λ x. said_with q q.order q.offset x Select.Count) (sym c) ∙ ap (λ x. said_with q q.order q.offset q.limit x) (sym d)))

-- by what it selects
selecting : (script : Script) (q : Query) (s : Select) → q.select ≡ s → Mapped script.mapping → Asked script q → query_of script.mapping (lines.query_line script q) ≡ Ok (said q)
selecting script q Select.Ids e w a =
    let m : List EntityDef = script.mapping in
    let h : Head = head_of q in
    let ns : List Node = parts_in q.condition in
    let c : Cut q = cut_of q a.cut in
    let f : form_of m (lines.query_line script q) ≡ Some (cut_form h ns q.order q.offset q.limit Select.Ids) =
    front_read script q w a
    ∙ (ap (λ s. form_from m (at (sorting h ns q.order) [] Place.Clauses) (lines.page_tokens s q.offset q.limit ++ lines.select_tokens script q.entity s)) e ∙ ids_read m h ns q.order q.offset q.limit c.offset c.some c.limit) in
    ap (λ o. read o) f ∙ (sound_read (cut_form h ns q.order q.offset q.limit Select.Ids) (cut_sound q Select.Ids a.free) ∙ ap (λ x. Ok x) (said_cut q Select.Ids e))
selecting script q Select.Count e w a =
    let m : List EntityDef = script.mapping in
    let h : Head = head_of q in
    let ns : List Node = parts_in q.condition in
    let c : Cut q = cut_of q a.cut in
    let count : ((length q.order == 0) && ((q.offset == 0) && (q.limit == 200))) ≡ true = subst (λ s. counts_all (said q) s ≡ true) e c.count in
    let one : ((length q.order == 0) ≡ true) × (((q.offset == 0) && (q.limit == 200)) ≡ true) = and_parts (length q.order == 0) ((q.offset == 0) && (q.limit == 200)) count in
    let two : ((q.offset == 0) ≡ true) × ((q.limit == 200) ≡ true) = and_parts (q.offset == 0) (q.limit == 200) one.1 in
    let none : q.order ≡ [] = no_sorts q.order (eqb-true (length q.order) 0 one.0) in
    let final : Form = record (form h ns) { select = Select.Count } in
    let f : form_of m (lines.query_line script q) ≡ Some final =
    front_read script q w a
    ∙ (ap (λ s. form_from m (at (sorting h ns q.order) [] Place.Clauses) (lines.page_tokens s q.offset q.limit ++ lines.select_tokens script q.entity s)) e
    ∙ (ap (λ os. form_from m (at (sorting h ns os) [] Place.Clauses) (Token.Word (codes "select") ∷ Token.Word (codes "count") ∷ [])) none ∙ count_read m h ns)) in
    let sound : Sound final = record { whole = whole q.condition; free = a.free; known = refl; numbered = refl; typed = refl; shallow = refl } in
    let told : said_by final ≡ said q = said_count q none (eqb-true q.offset 0 two.0) (eqb-true q.limit 200 two.1) e in
    ap (λ o. read o) f ∙ (sound_read final sound ∙ ap (λ x. Ok x) told)
selecting script q (Select.Column c) e w a =
    let m : List EntityDef = script.mapping in
    let h : Head = head_of q in
    let ns : List Node = parts_in q.condition in
    let z : Cut q = cut_of q a.cut in
    let fit : ((list_all (λ s. fits_sort (entity_columns m q.entity) s) q.order && fits_select (entity_columns m q.entity) q.select)) ≡ true =
    (and_parts (list_all (λ x. fits_part m q.entity x) (parts_in q.condition)) (list_all (λ s. fits_sort (entity_columns m q.entity) s) q.order && fits_select (entity_columns m q.entity) q.select) a.fit).1 in
    let selects : fits_select (entity_columns m q.entity) q.select ≡ true = (and_parts (list_all (λ s. fits_sort (entity_columns m q.entity) s) q.order) (fits_select (entity_columns m q.entity) q.select) fit).1 in
    let low : c < length (entity_columns m q.entity) = ltb-true c (length (entity_columns m q.entity)) (subst (λ s. fits_select (entity_columns m q.entity) s ≡ true) e selects) in
    let g = got (entity_columns m q.entity) c low in
    let kind : type_at (entity_columns m q.entity) c ≡ Some g.value.kind = ap (λ o. kind_in o) g.there in
    let name : List ℕ = column_text script q.entity c in
    let f : form_of m (lines.query_line script q) ≡ Some (cut_form h ns q.order q.offset q.limit (Select.Column c)) =
    front_read script q w a
    ∙ (ap (λ s. form_from m (at (sorting h ns q.order) [] Place.Clauses) (lines.page_tokens s q.offset q.limit ++ lines.select_tokens script q.entity s)) e
    ∙ column_read m h ns q.order q.offset q.limit name c g.value.kind z.offset z.some z.limit (free name (column_free script q.entity c g.value.kind w a.declared low))
    (column_back script q.entity c g.value.kind w kind)) in
    ap (λ o. read o) f ∙ (sound_read (cut_form h ns q.order q.offset q.limit (Select.Column c)) (cut_sound q (Select.Column c) a.free) ∙ ap (λ x. Ok x) (said_cut q (Select.Column c) e))

pub query_back : (script : Script) (q : Query) → Mapped script.mapping → Asked script q → query_of script.mapping (lines.query_line script q) ≡ Ok (said q)
query_back script q w a = selecting script q q.select refl w a
