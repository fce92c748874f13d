-- Acts on regions that were written are read again.
use Rattle.std.proofs.Common.{◌≡◌, ℕ, ◌^◌, ◌<◌, List, ◌∷◌, ◌++◌, Option, refl, ap, ◌∙◌, codes}
use Rattle.std.specs.Fmt.{decimal}
use Rattle.hib_journal.specs.Types.{Key, Row, Act, Script}
use Rattle.hib_report.specs.Lines.{act_text}
use Rattle.hib_texts.specs.Texts.{key_text, version_text, row_text}
use Rattle.hib_entry_fields.specs.Fields.{piece, behind, next, after, number_of, version_of, key_at, after_key, row_at, after_row}
use Rattle.hib_entry_fields.proofs.PieceLaws.{after_again, decimal_plain}
use Rattle.hib_entry_fields.proofs.CellLaws.{IsVersion, IsRow, version_plain, after_row_again, row_again}
use Rattle.hib_entry_fields.proofs.FieldLaws.{IsKey, number_next, number_end, version_next, key_again, after_key_again, key_end, row_end}
use Rattle.hib_entry_texts.specs.Acts.{act_of, get_of, put_of, lock_of, unlock_of, after_insert_of, after_update_of}
use Rattle.hib_entry_texts.proofs.Pieces.{regroup4, regroup6, regroup8, label_at, label_floor, label_lock, at_ends, floor_ends}

get_by : (script : Script) (b0 b1 b2 : List ℕ) (k : Key) (t : ℕ) → key_at script b0 ≡ k → after_key b0 ≡ b1 → after b1 ≡ b2 → number_of (next b2) ≡ t → get_of script b0 ≡ Act.Get k t
get_by script b0 b1 b2 k t e1 e2 e3 e4 = rw (e1, e2, e3, e4) refl

pub get_again : (script : Script) (k : Key) (t : ℕ) → IsKey script k → t < 2 ^ 64 → act_of script (codes "region") (act_text script (Act.Get k t)) ≡ Act.Get k t
unfolding act_of piece behind
get_again script k t hk ht =
    let r1 : List ℕ = codes " at " ++ decimal t in
    ap (act_of script (codes "region")) (regroup4 (codes "get ") (key_text script k) (codes " at ") (decimal t))
    ∙ get_by script (32 ∷ (key_text script k ++ r1)) r1 (32 ∷ decimal t) k t (key_again script k r1 hk refl) (after_key_again script k r1 hk refl) (label_at (decimal t)) (number_end t ht)

unlock_by : (script : Script) (b0 b1 b2 : List ℕ) (k : Key) (t : ℕ) → key_at script b0 ≡ k → after_key b0 ≡ b1 → after b1 ≡ b2 → number_of (next b2) ≡ t → unlock_of script b0 ≡ Act.Unlock k t
unlock_by script b0 b1 b2 k t e1 e2 e3 e4 = rw (e1, e2, e3, e4) refl

pub unlock_again : (script : Script) (k : Key) (t : ℕ) → IsKey script k → t < 2 ^ 64 → act_of script (codes "region") (act_text script (Act.Unlock k t)) ≡ Act.Unlock k t
unfolding act_of piece behind
unlock_again script k t hk ht =
    let r1 : List ℕ = codes " lock " ++ decimal t in
    ap (act_of script (codes "region")) (regroup4 (codes "unlock ") (key_text script k) (codes " lock ") (decimal t))
    ∙ unlock_by script (32 ∷ (key_text script k ++ r1)) r1 (32 ∷ decimal t) k t (key_again script k r1 hk refl) (after_key_again script k r1 hk refl) (label_lock (decimal t)) (number_end t ht)

put_by : (script : Script) (b0 b1 b2 b3 b4 b5 : List ℕ) (k : Key) (r : Row) (t f : ℕ) → key_at script b0 ≡ k → after_key b0 ≡ b1 → row_at b1 ≡ r → after_row b1 ≡ b2 → after b2 ≡ b3
    → number_of (next b3) ≡ t → after b3 ≡ b4 → after b4 ≡ b5 → number_of (next b5) ≡ f → put_of script b0 ≡ Act.Put k r t f
put_by script b0 b1 b2 b3 b4 b5 k r t f e1 e2 e3 e4 e5 e6 e7 e8 e9 = rw (e1, e2, e3, e4, e5, e6, e7, e8, e9) refl

pub put_again : (script : Script) (k : Key) (r : Row) (t f : ℕ) → IsKey script k → IsRow r → t < 2 ^ 64 → f < 2 ^ 64 → act_of script (codes "region") (act_text script (Act.Put k r t f)) ≡ Act.Put k r t f
unfolding act_of piece behind
put_again script k r t f hk hr ht hf =
    let r3 : List ℕ = codes " floor " ++ decimal f in
    let r2 : List ℕ = codes " at " ++ (decimal t ++ r3) in
    let r1 : List ℕ = 32 ∷ (row_text r ++ r2) in
    ap (act_of script (codes "region")) (regroup8 (codes "put ") (key_text script k) (codes " ") (row_text r) (codes " at ") (decimal t) (codes " floor ") (decimal f))
    ∙ put_by script (32 ∷ (key_text script k ++ r1)) r1 r2 (32 ∷ (decimal t ++ r3)) r3 (32 ∷ decimal f) k r t f
    (key_again script k r1 hk refl) (after_key_again script k r1 hk refl)
    (row_again r r2 hr (at_ends (decimal t ++ r3))) (after_row_again r r2 hr (at_ends (decimal t ++ r3)))
    (label_at (decimal t ++ r3)) (number_next t r3 ht refl) (after_again (decimal t) r3 (decimal_plain t ht) refl)
    (label_floor (decimal f)) (number_end f hf)

lock_by : (script : Script) (b0 b1 b2 b3 : List ℕ) (k : Key) (v : Option ℕ) (f : ℕ) → key_at script b0 ≡ k → after_key b0 ≡ b1 → version_of (next b1) ≡ v → after b1 ≡ b2 → after b2 ≡ b3
    → number_of (next b3) ≡ f → lock_of script b0 ≡ Act.Lock k v f
lock_by script b0 b1 b2 b3 k v f e1 e2 e3 e4 e5 e6 = rw (e1, e2, e3, e4, e5, e6) refl

pub lock_again : (script : Script) (k : Key) (v : Option ℕ) (f : ℕ) → IsKey script k → IsVersion v → f < 2 ^ 64 → act_of script (codes "region") (act_text script (Act.Lock k v f)) ≡ Act.Lock k v f
unfolding act_of piece behind
lock_again script k v f hk hv hf =
    let r2 : List ℕ = codes " floor " ++ decimal f in
    let r1 : List ℕ = 32 ∷ (version_text v ++ r2) in
    ap (act_of script (codes "region")) (regroup6 (codes "lock ") (key_text script k) (codes " ") (version_text v) (codes " floor ") (decimal f))
    ∙ lock_by script (32 ∷ (key_text script k ++ r1)) r1 r2 (32 ∷ decimal f) k v f
    (key_again script k r1 hk refl) (after_key_again script k r1 hk refl) (version_next v r2 hv refl) (after_again (version_text v) r2 (version_plain v hv) refl)
    (label_floor (decimal f)) (number_end f hf)

after_insert_by : (script : Script) (b0 b1 b2 b3 : List ℕ) (k : Key) (r : Row) (f : ℕ) → key_at script b0 ≡ k → after_key b0 ≡ b1 → row_at b1 ≡ r → after_row b1 ≡ b2 → after b2 ≡ b3
    → number_of (next b3) ≡ f → after_insert_of script b0 ≡ Act.AfterInsert k r f
after_insert_by script b0 b1 b2 b3 k r f e1 e2 e3 e4 e5 e6 = rw (e1, e2, e3, e4, e5, e6) refl

pub after_insert_again : (script : Script) (k : Key) (r : Row) (f : ℕ) → IsKey script k → IsRow r → f < 2 ^ 64 → act_of script (codes "region") (act_text script (Act.AfterInsert k r f)) ≡ Act.AfterInsert k r f
unfolding act_of piece behind
after_insert_again script k r f hk hr hf =
    let r2 : List ℕ = codes " floor " ++ decimal f in
    let r1 : List ℕ = 32 ∷ (row_text r ++ r2) in
    ap (act_of script (codes "region")) (regroup6 (codes "after-insert ") (key_text script k) (codes " ") (row_text r) (codes " floor ") (decimal f))
    ∙ after_insert_by script (32 ∷ (key_text script k ++ r1)) r1 r2 (32 ∷ decimal f) k r f
    (key_again script k r1 hk refl) (after_key_again script k r1 hk refl) (row_again r r2 hr (floor_ends (decimal f))) (after_row_again r r2 hr (floor_ends (decimal f)))
    (label_floor (decimal f)) (number_end f hf)

after_update_by : (script : Script) (b0 b1 b2 b3 : List ℕ) (k : Key) (i : ℕ) (r : Row) → key_at script b0 ≡ k → after_key b0 ≡ b1 → after b1 ≡ b2 → number_of (next b2) ≡ i → after b2 ≡ b3
    → row_at b3 ≡ r → after_update_of script b0 ≡ Act.AfterUpdate k i r
after_update_by script b0 b1 b2 b3 k i r e1 e2 e3 e4 e5 e6 = rw (e1, e2, e3, e4, e5, e6) refl

pub after_update_again : (script : Script) (k : Key) (i : ℕ) (r : Row) → IsKey script k → i < 2 ^ 64 → IsRow r → act_of script (codes "region") (act_text script (Act.AfterUpdate k i r)) ≡ Act.AfterUpdate k i r
unfolding act_of piece behind
after_update_again script k i r hk hi hr =
    let r2 : List ℕ = 32 ∷ row_text r in
    let r1 : List ℕ = codes " lock " ++ (decimal i ++ r2) in
    ap (act_of script (codes "region")) (regroup6 (codes "after-update ") (key_text script k) (codes " lock ") (decimal i) (codes " ") (row_text r))
    ∙ after_update_by script (32 ∷ (key_text script k ++ r1)) r1 (32 ∷ (decimal i ++ r2)) r2 k i r
    (key_again script k r1 hk refl) (after_key_again script k r1 hk refl) (label_lock (decimal i ++ r2)) (number_next i r2 hi refl) (after_again (decimal i) r2 (decimal_plain i hi) refl) (row_end r hr)

pub region_remove_again : (script : Script) (k : Key) → IsKey script k → act_of script (codes "region") (act_text script (Act.RegionRemove k)) ≡ Act.RegionRemove k
unfolding act_of piece behind
region_remove_again script k h = ap Act.RegionRemove (key_end script k h)

pub evict_again : (script : Script) (k : Key) → IsKey script k → act_of script (codes "region") (act_text script (Act.Evict k)) ≡ Act.Evict k
unfolding act_of piece behind
evict_again script k h = ap Act.Evict (key_end script k h)
