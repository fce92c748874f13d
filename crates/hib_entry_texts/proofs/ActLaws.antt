-- Acts that were written are read again: registry, own, store, stamps and results.
use Rattle.std.proofs.Common.{◌≡◌, ℕ, ◌^◌, ◌<◌, List, [], ◌∷◌, ◌++◌, drop, length, Option, refl, ap, ◌∙◌, true, arith, codes}
use Rattle.std.specs.Fmt.{decimal}
use Rattle.hib_journal.specs.Types.{Key, Cell, Row, Change, Act, Script}
use Rattle.hib_report.specs.Lines.{act_text}
use Rattle.hib_texts.specs.Texts.{key_text, query_text, session_text, version_text, row_text, list_text, sets_text}
use Rattle.hib_entry_fields.specs.Fields.{piece, behind, next, after, number_of, version_of, query_of, session_of, key_at, after_key, cells_at, row_at, sets_from}
use Rattle.hib_entry_fields.specs.Known.{are_tables, are_sets}
use Rattle.hib_entry_fields.proofs.PieceLaws.{after_again, decimal_plain}
use Rattle.hib_entry_fields.proofs.CellLaws.{IsVersion, IsRow, AreCells, version_plain, list_again}
use Rattle.hib_entry_fields.proofs.NameLaws.{IsNamed, IsQuery, IsSession}
use Rattle.hib_entry_fields.proofs.FieldLaws.{IsKey, name_next, name_end, number_next, number_end, version_next, version_end, key_again, after_key_again, key_end, row_end}
use Rattle.hib_entry_fields.proofs.ListLaws.{tables_again, some_tables, sets_read_again, sets_stop}
use Rattle.hib_entry_texts.specs.Acts.{act_of, persist_of, set_of, insert_of, update_of, delete_of, check_of, keep_of}
use Rattle.hib_entry_texts.proofs.Pieces.{regroup3, regroup4, regroup6, label_at}

-- ---- registry

pub kill_again : (script : Script) (s : ℕ) → IsSession script s → act_of script (codes "registry") (act_text script (Act.Kill s)) ≡ Act.Kill s
unfolding act_of piece behind
kill_again script s h = ap Act.Kill (name_end (session_of script) (session_text script s) s h)

-- ---- own

pub find_again : (script : Script) (k : Key) → IsKey script k → act_of script (codes "own") (act_text script (Act.Find k)) ≡ Act.Find k
unfolding act_of piece behind
find_again script k h = ap Act.Find (key_end script k h)

pub remove_again : (script : Script) (k : Key) → IsKey script k → act_of script (codes "own") (act_text script (Act.Remove k)) ≡ Act.Remove k
unfolding act_of piece behind
remove_again script k h = ap Act.Remove (key_end script k h)

persist_by : (script : Script) (b0 b1 : List ℕ) (k : Key) (r : Row) → key_at script b0 ≡ k → after_key b0 ≡ b1 → row_at b1 ≡ r → persist_of script b0 ≡ Act.Persist k r
persist_by script b0 b1 k r e1 e2 e3 = rw (e1, e2, e3) refl

pub persist_again : (script : Script) (k : Key) (r : Row) → IsKey script k → IsRow r → act_of script (codes "own") (act_text script (Act.Persist k r)) ≡ Act.Persist k r
unfolding act_of piece behind
persist_again script k r hk hr =
    let r1 : List ℕ = 32 ∷ row_text r in
    ap (act_of script (codes "own")) (regroup4 (codes "persist ") (key_text script k) (codes " ") (row_text r))
    ∙ persist_by script (32 ∷ (key_text script k ++ r1)) r1 k r (key_again script k r1 hk refl) (after_key_again script k r1 hk refl) (row_end r hr)

set_by : (script : Script) (b0 b1 : List ℕ) (k : Key) (xs : List (ℕ × Cell)) → key_at script b0 ≡ k → after_key b0 ≡ b1 → sets_from script k.entity (length b1) b1 ≡ xs → set_of script b0 ≡ Act.Set k xs
set_by script b0 b1 k xs e1 e2 e3 = rw (e1, e2, e3) refl

pub set_again : (script : Script) (k : Key) (xs : List (ℕ × Cell)) → IsNamed script → IsKey script k → are_sets script k.entity xs ≡ true → act_of script (codes "own") (act_text script (Act.Set k xs)) ≡ Act.Set k xs
unfolding act_of piece behind
set_again script k xs h hk w =
    let r1 : List ℕ = sets_text script k.entity xs in
    ap (act_of script (codes "own")) (regroup3 (codes "set ") (key_text script k) r1)
    ∙ set_by script (32 ∷ (key_text script k ++ r1)) r1 k xs (key_again script k r1 hk (sets_stop script k.entity xs)) (after_key_again script k r1 hk (sets_stop script k.entity xs)) (sets_read_again script k.entity xs h w)

-- ---- store

pub load_again : (script : Script) (k : Key) → IsKey script k → act_of script (codes "store") (act_text script (Act.Load k)) ≡ Act.Load k
unfolding act_of piece behind
load_again script k h = ap Act.Load (key_end script k h)

pub list_act_again : (script : Script) (q : ℕ) → IsQuery script q → act_of script (codes "store") (act_text script (Act.List q)) ≡ Act.List q
unfolding act_of piece behind
list_act_again script q h = ap Act.List (name_end (query_of script) (query_text script q) q h)

insert_by : (script : Script) (b0 b1 : List ℕ) (k : Key) (r : Row) → key_at script b0 ≡ k → after_key b0 ≡ b1 → row_at b1 ≡ r → insert_of script b0 ≡ Act.Write (Change.Insert k r)
insert_by script b0 b1 k r e1 e2 e3 = rw (e1, e2, e3) refl

pub insert_again : (script : Script) (k : Key) (r : Row) → IsKey script k → IsRow r → act_of script (codes "store") (act_text script (Act.Write (Change.Insert k r))) ≡ Act.Write (Change.Insert k r)
unfolding act_of piece behind
insert_again script k r hk hr =
    let r1 : List ℕ = 32 ∷ row_text r in
    ap (act_of script (codes "store")) (regroup4 (codes "insert ") (key_text script k) (codes " ") (row_text r))
    ∙ insert_by script (32 ∷ (key_text script k ++ r1)) r1 k r (key_again script k r1 hk refl) (after_key_again script k r1 hk refl) (row_end r hr)

update_by : (script : Script) (b0 b1 b2 : List ℕ) (k : Key) (v : Option ℕ) (r : Row) → key_at script b0 ≡ k → after_key b0 ≡ b1 → version_of (next b1) ≡ v → after b1 ≡ b2 → row_at b2 ≡ r → update_of script b0 ≡ Act.Write (Change.Update k v r)
update_by script b0 b1 b2 k v r e1 e2 e3 e4 e5 = rw (e1, e2, e3, e4, e5) refl

pub update_again : (script : Script) (k : Key) (v : Option ℕ) (r : Row) → IsKey script k → IsVersion v → IsRow r → act_of script (codes "store") (act_text script (Act.Write (Change.Update k v r))) ≡ Act.Write (Change.Update k v r)
unfolding act_of piece behind
update_again script k v r hk hv hr =
    let r2 : List ℕ = 32 ∷ row_text r in
    let r1 : List ℕ = 32 ∷ (version_text v ++ r2) in
    ap (act_of script (codes "store")) (regroup6 (codes "update ") (key_text script k) (codes " ") (version_text v) (codes " ") (row_text r))
    ∙ update_by script (32 ∷ (key_text script k ++ r1)) r1 r2 k v r (key_again script k r1 hk refl) (after_key_again script k r1 hk refl) (version_next v r2 hv refl) (after_again (version_text v) r2 (version_plain v hv) refl) (row_end r hr)

delete_by : (script : Script) (b0 b1 : List ℕ) (k : Key) (v : Option ℕ) → key_at script b0 ≡ k → after_key b0 ≡ b1 → version_of (next b1) ≡ v → delete_of script b0 ≡ Act.Write (Change.Delete k v)
delete_by script b0 b1 k v e1 e2 e3 = rw (e1, e2, e3) refl

pub delete_again : (script : Script) (k : Key) (v : Option ℕ) → IsKey script k → IsVersion v → act_of script (codes "store") (act_text script (Act.Write (Change.Delete k v))) ≡ Act.Write (Change.Delete k v)
unfolding act_of piece behind
delete_again script k v hk hv =
    let r1 : List ℕ = 32 ∷ version_text v in
    ap (act_of script (codes "store")) (regroup4 (codes "delete ") (key_text script k) (codes " ") (version_text v))
    ∙ delete_by script (32 ∷ (key_text script k ++ r1)) r1 k v (key_again script k r1 hk refl) (after_key_again script k r1 hk refl) (version_end v hv)

-- ---- stamps

pub pre_again : (script : Script) (ts : List ℕ) → IsNamed script → are_tables script ts ≡ true → act_of script (codes "stamps") (act_text script (Act.Pre ts)) ≡ Act.Pre ts
unfolding act_of piece behind
pre_again script [] h w = absurd (omega (arith, some_tables script [] w))
pre_again script (t ∷ ts) h w = ap Act.Pre (tables_again script (t ∷ ts) h w)

pub stamp_again : (script : Script) (ts : List ℕ) → IsNamed script → are_tables script ts ≡ true → act_of script (codes "stamps") (act_text script (Act.Stamp ts)) ≡ Act.Stamp ts
unfolding act_of piece behind
stamp_again script [] h w = absurd (omega (arith, some_tables script [] w))
stamp_again script (t ∷ ts) h w = ap Act.Stamp (tables_again script (t ∷ ts) h w)

check_by : (script : Script) (b0 b1 b2 : List ℕ) (q t : ℕ) → query_of script (next b0) ≡ q → after b0 ≡ b1 → after b1 ≡ b2 → number_of (next b2) ≡ t → check_of script b0 ≡ Act.Check q t
check_by script b0 b1 b2 q t e1 e2 e3 e4 = rw (e1, e2, e3, e4) refl

pub check_again : (script : Script) (q t : ℕ) → IsQuery script q → t < 2 ^ 64 → act_of script (codes "stamps") (act_text script (Act.Check q t)) ≡ Act.Check q t
unfolding act_of piece behind
check_again script q t h lt =
    let name : List ℕ = query_text script q in
    let rest : List ℕ = codes " at " ++ decimal t in
    ap (act_of script (codes "stamps")) (regroup4 (codes "check ") name (codes " at ") (decimal t))
    ∙ check_by script (32 ∷ (name ++ rest)) rest (32 ∷ decimal t) q t (name_next (query_of script) name q rest h refl) (after_again name rest h.plain refl) (label_at (decimal t)) (number_end t lt)

-- ---- results

pub look_again : (script : Script) (q : ℕ) → IsQuery script q → act_of script (codes "results") (act_text script (Act.Look q)) ≡ Act.Look q
unfolding act_of piece behind
look_again script q h = ap Act.Look (name_end (query_of script) (query_text script q) q h)

keep_by : (script : Script) (b0 b1 b2 b3 : List ℕ) (q t : ℕ) (l : List Cell) → query_of script (next b0) ≡ q → after b0 ≡ b1 → after b1 ≡ b2 → number_of (next b2) ≡ t → after b2 ≡ b3 → (cells_at (drop 1 b3)).0 ≡ l → keep_of script b0 ≡ Act.Keep q t l
keep_by script b0 b1 b2 b3 q t l e1 e2 e3 e4 e5 e6 = rw (e1, e2, e3, e4, e5, e6) refl

pub keep_again : (script : Script) (q t : ℕ) (l : List Cell) → IsQuery script q → t < 2 ^ 64 → AreCells l → act_of script (codes "results") (act_text script (Act.Keep q t l)) ≡ Act.Keep q t l
unfolding act_of piece behind
keep_again script q t l h lt hl =
    let name : List ℕ = query_text script q in
    let r2 : List ℕ = codes " " ++ list_text l in
    let r1 : List ℕ = codes " at " ++ (decimal t ++ r2) in
    ap (act_of script (codes "results")) (regroup6 (codes "keep ") name (codes " at ") (decimal t) (codes " ") (list_text l))
    ∙ keep_by script (32 ∷ (name ++ r1)) r1 (32 ∷ (decimal t ++ r2)) r2 q t l (name_next (query_of script) name q r1 h refl) (after_again name r1 h.plain refl) (label_at (decimal t ++ r2))
    (number_next t r2 lt refl) (after_again (decimal t) r2 (decimal_plain t lt) refl) (list_again l hl)
