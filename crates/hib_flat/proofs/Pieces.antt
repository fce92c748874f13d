-- Pieces of lines, in order.
use Rattle.std.proofs.Common.{◌≡◌, ℕ, zero, suc, ◌+◌, ◌<◌, List, [], ◌∷◌, ◌++◌, length, drop, map, refl, ap, sym, ◌∙◌, false, arith, append_assoc, add-one, bytes_eq, flat_map, codes}
use Rattle.std.specs.Prelude.{slice_get}
use Rattle.std.specs.List.{join_by}
use Rattle.std.proofs.lemmas.Grind.{flat_map-append}
use Rattle.hib_journal.specs.Types.{Cell, ColumnDef, Entry, Script}
use Rattle.hib_texts.specs.Texts.{column_name, entity_text}
use Rattle.hib_flat.specs.declared.form.Form.{Form}
use Rattle.hib_flat.specs.Columns.{columns}
use Rattle.hib_flat.specs.Forms.{piece, pieces}
use Rattle.hib_flat.specs.Members.{Member, headings, subjects, results, times, marks, members, cells_from}
use Rattle.hib_flat.specs.Lines.{in_quotes, cell_at, header}

-- ---- cells

step_on : (name : List ℕ) (ds : List ColumnDef) (n i : ℕ) (row : List Cell) → i < length row → bytes_eq (column_name (slice_get ds n)) name ≡ false
    → cell_at name (cells_from ds n (drop i row)) ≡ cell_at name (cells_from ds (suc n) (drop (suc i) row))
step_on name ds n i [] lt e = absurd (omega arith)
step_on name ds n zero (c ∷ cs) lt e = rw e refl
step_on name ds n (suc i) (c ∷ cs) lt e = step_on name ds n i cs (omega (arith, lt)) e

-- a cell of another name is passed over
pub cell_step : (name : List ℕ) (ds : List ColumnDef) (i : ℕ) (row : List Cell) → i < length row → bytes_eq (column_name (slice_get ds i)) name ≡ false
    → cell_at name (cells_from ds i (drop i row)) ≡ cell_at name (cells_from ds (i + 1) (drop (i + 1) row))
cell_step name ds i row lt e = rw add-one (step_on name ds i i row lt e)

-- ---- names

more_names : (script : Script) (rest : List ℕ) → flat_map (λ n. codes "," ++ in_quotes (entity_text script n)) rest ≡ flat_map (λ w. codes "," ++ in_quotes w) (map (entity_text script) rest)
more_names script [] = refl
more_names script (n ∷ rest) = ap (λ (s : List ℕ). (codes "," ++ in_quotes (entity_text script n)) ++ s) (more_names script rest)

pub joined_names : (script : Script) (first : ℕ) (rest names o0 o1 o2 : List ℕ) → names ≡ first ∷ rest → o1 ≡ o0 ++ in_quotes (entity_text script first)
    → o2 ≡ o1 ++ flat_map (λ n. codes "," ++ in_quotes (entity_text script n)) rest → o2 ≡ o0 ++ join_by in_quotes (codes ",") (map (entity_text script) names)
joined_names script first rest names o0 o1 o2 e e1 e2 =
    e2 ∙ ap (λ (o : List ℕ). o ++ flat_map (λ n. codes "," ++ in_quotes (entity_text script n)) rest) e1
    ∙ append_assoc o0 (in_quotes (entity_text script first)) (flat_map (λ n. codes "," ++ in_quotes (entity_text script n)) rest)
    ∙ ap (λ (s : List ℕ). o0 ++ (in_quotes (entity_text script first) ++ s)) (more_names script rest)
    ∙ ap (λ (ns : List ℕ). o0 ++ join_by in_quotes (codes ",") (map (entity_text script) ns)) (sym e)

-- ---- members

regroup : (f : Member → List ℕ) (a b c d m : List Member) (o : List ℕ) → ((((o ++ flat_map f a) ++ flat_map f b) ++ flat_map f c) ++ flat_map f d) ++ flat_map f m ≡ o ++ flat_map f (a ++ (b ++ (c ++ (d ++ m))))
regroup f a b c d m o = simp (flat_map-append, append_assoc)

pub members_put : (form : Form) (script : Script) (e : Entry) (o0 o1 o2 o3 o4 o5 : List ℕ) → o1 ≡ o0 ++ pieces form (headings script e) → o2 ≡ o1 ++ pieces form (subjects script e) → o3 ≡ o2 ++ pieces form (results script e)
    → o4 ≡ o3 ++ pieces form (times e) → o5 ≡ o4 ++ pieces form (marks e) → o5 ≡ o0 ++ pieces form (members script e)
members_put form script e o0 o1 o2 o3 o4 o5 e1 e2 e3 e4 e5 =
    e5
    ∙ ap (λ (o : List ℕ). o ++ pieces form (marks e)) (e4
    ∙ ap (λ (o : List ℕ). o ++ pieces form (times e)) (e3
    ∙ ap (λ (o : List ℕ). o ++ pieces form (results script e)) (e2
    ∙ ap (λ (o : List ℕ). o ++ pieces form (subjects script e)) e1)))
    ∙ regroup (piece form) (headings script e) (subjects script e) (results script e) (times e) (marks e) o0

-- ---- the line of names

pub header_put : (script : Script) (names : List (List ℕ)) (o0 o1 o2 o3 : List ℕ) → names ≡ columns script
    → o1 ≡ o0 ++ (codes "tick,session,part,act,reply,cause,killed,entity,id,version,expected,found,query,dropped,list,tables,table,stamp," ++ codes "time,floor,lock,until,released,stored,holders,evicted,late")
    → o2 ≡ o1 ++ flat_map (λ name. codes ",cell_" ++ name) names → o3 ≡ o2 ++ codes "\n" → o3 ≡ o0 ++ (header script ++ codes "\n")
header_put script names o0 o1 o2 o3 q e1 e2 e3 =
    e3
    ∙ ap (λ (o : List ℕ). o ++ codes "\n") (e2
    ∙ ap (λ (ns : List (List ℕ)). o1 ++ flat_map (λ name. codes ",cell_" ++ name) ns) q
    ∙ ap (λ (o : List ℕ). o ++ flat_map (λ name. codes ",cell_" ++ name) (columns script)) e1
    ∙ append_assoc o0 _ (flat_map (λ name. codes ",cell_" ++ name) (columns script)))
    ∙ append_assoc o0 (header script) (codes "\n")
