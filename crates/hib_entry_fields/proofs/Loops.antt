-- Texts, cells and names, read one after the other.
use Rattle.std.proofs.Common.{◌≡◌, ℕ, zero, suc, ◌+◌, ◌-◌, ◌<◌, ◌≤◌, ◌≢◌, List, [], ◌∷◌, ◌++◌, length, take, drop, get_or, ◌==◌, Bool, true, false, refl, ap, sym, ◌∙◌, arith, add-one, drop-cons, append_assoc, Some, None}
use Rattle.std.proofs.lemmas.List.{drop_all, append-nil, length-drop, take_all, nil_from_length}
use Rattle.std.proofs.lemmas.Bool.Decides.{nat_tests}
use Rattle.hib_journal.specs.Types.{Cell, Script}
use Rattle.hib_entry_fields.specs.Fields.{quoted, cells_from, cell_at, names_from, entity_of, set_at, sets_from, next, after}

-- what was read before, and what is still read
abbrev pub with_front : {X : Type 0} → List X → List X × List ℕ → List X × List ℕ
with_front front read = (front ++ read.0, read.1)

regroup : {X : Type 0} (front : List X) (x : X) (read : List X × List ℕ) → with_front (front ++ x ∷ []) read ≡ with_front front (x ∷ read.0, read.1)
regroup {X = X} front x read = ap (λ (xs : List X). (xs, read.1)) (append_assoc front (x ∷ []) read.0)

is34 : (b : ℕ) → b ≡ 34 → (b == 34) ≡ true
is34 b h = grind (arith, nat_tests)

not34 : (b : ℕ) → b ≢ 34 → (b == 34) ≡ false
not34 b h = grind (arith, nat_tests)

is92 : (b : ℕ) → b ≡ 92 → (b == 92) ≡ true
is92 b h = grind (arith, nat_tests)

not92 : (b : ℕ) → b ≢ 92 → (b == 92) ≡ false
not92 b h = grind (arith, nat_tests)

pub quoted_escaped : (front : List ℕ) (e : Bool) (bs : List ℕ) (i : ℕ) (total : List ℕ × List ℕ) → i < length bs → e ≡ true → with_front front (quoted e (drop i bs)) ≡ total
    → with_front (front ++ get_or bs i 0 ∷ []) (quoted false (drop (i + 1) bs)) ≡ total
unfolding quoted
quoted_escaped front e bs i total lt h so_far =
    let one : quoted e (drop i bs) ≡ (get_or bs i 0 ∷ (quoted false (drop (i + 1) bs)).0, (quoted false (drop (i + 1) bs)).1) = rw (h, add-one, drop-cons bs i 0) refl in
    regroup front (get_or bs i 0) (quoted false (drop (i + 1) bs)) ∙ ap (with_front front) (sym one) ∙ so_far

pub quoted_plain : (front : List ℕ) (e : Bool) (bs : List ℕ) (i : ℕ) (total : List ℕ × List ℕ) → i < length bs → e ≡ false → get_or bs i 0 ≢ 34 → get_or bs i 0 ≢ 92 → with_front front (quoted e (drop i bs)) ≡ total
    → with_front (front ++ get_or bs i 0 ∷ []) (quoted e (drop (i + 1) bs)) ≡ total
unfolding quoted
quoted_plain front e bs i total lt h p q so_far =
    let one : quoted e (drop i bs) ≡ (get_or bs i 0 ∷ (quoted e (drop (i + 1) bs)).0, (quoted e (drop (i + 1) bs)).1) = rw (h, add-one, drop-cons bs i 0) (rw (not34 (get_or bs i 0) p, not92 (get_or bs i 0) q) refl) in
    regroup front (get_or bs i 0) (quoted e (drop (i + 1) bs)) ∙ ap (with_front front) (sym one) ∙ so_far

pub quoted_escapes : (front : List ℕ) (e : Bool) (bs : List ℕ) (i : ℕ) (total : List ℕ × List ℕ) → i < length bs → e ≡ false → get_or bs i 0 ≢ 34 → get_or bs i 0 ≡ 92 → with_front front (quoted e (drop i bs)) ≡ total
    → with_front front (quoted true (drop (i + 1) bs)) ≡ total
unfolding quoted
quoted_escapes front e bs i total lt h p q so_far =
    let one : quoted e (drop i bs) ≡ quoted true (drop (i + 1) bs) = rw (h, add-one, drop-cons bs i 0) (rw (not34 (get_or bs i 0) p, is92 (get_or bs i 0) q) refl) in
    ap (with_front front) (sym one) ∙ so_far

pub quoted_closes : (front : List ℕ) (e : Bool) (bs : List ℕ) (i : ℕ) (total : List ℕ × List ℕ) → i < length bs → e ≡ false → get_or bs i 0 ≡ 34 → with_front front (quoted e (drop i bs)) ≡ total
    → (front, drop (i + 1) bs) ≡ total
unfolding quoted
quoted_closes front e bs i total lt h p so_far =
    let one : quoted e (drop i bs) ≡ ([], drop (i + 1) bs) = rw (h, add-one, drop-cons bs i 0) (rw (is34 (get_or bs i 0) p) refl) in
    ap (λ (t : List ℕ). (t, drop (i + 1) bs)) (sym (append-nil front)) ∙ ap (with_front front) (sym one) ∙ so_far

quoted_none : (e : Bool) → quoted e [] ≡ ([], [])
unfolding quoted
quoted_none true = refl
quoted_none false = refl

pub quoted_open : (front : List ℕ) (e : Bool) (bs : List ℕ) (i : ℕ) (total : List ℕ × List ℕ) → length bs ≤ i → with_front front (quoted e (drop i bs)) ≡ total → (front, drop (length bs) bs) ≡ total
quoted_open front e bs i total le so_far =
    let one : quoted e (drop i bs) ≡ ([], []) = rw (drop_all i bs le) (quoted_none e) in
    rw (drop_all (length bs) bs (omega arith)) (ap (λ (t : List ℕ). (t, [])) (sym (append-nil front)) ∙ ap (with_front front) (sym one) ∙ so_far)

-- ---- cells

pub cells_go_on : (front : List Cell) (count i : ℕ) (rest : List ℕ) (c : Cell) (more : List ℕ) (total : List Cell × List ℕ) → i < count → cell_at (drop 1 rest) ≡ Some (c, more) → with_front front (cells_from (count - i) rest) ≡ total
    → with_front (front ++ c ∷ []) (cells_from (count - (i + 1)) more) ≡ total
unfolding cells_from
cells_go_on front count i rest c more total lt h so_far =
    let k : count - i ≡ suc (count - (i + 1)) = omega arith in
    let one : cells_from (count - i) rest ≡ (c ∷ (cells_from (count - (i + 1)) more).0, (cells_from (count - (i + 1)) more).1) = rw (k, h) refl in
    regroup front c (cells_from (count - (i + 1)) more) ∙ ap (with_front front) (sym one) ∙ so_far

pub cells_stop_at : (front : List Cell) (count i : ℕ) (rest : List ℕ) (total : List Cell × List ℕ) → i < count → cell_at (drop 1 rest) ≡ None → with_front front (cells_from (count - i) rest) ≡ total → (front, rest) ≡ total
unfolding cells_from
cells_stop_at front count i rest total lt h so_far =
    let k : count - i ≡ suc (count - (i + 1)) = omega arith in
    let one : cells_from (count - i) rest ≡ ([], rest) = rw (k, h) refl in
    ap (λ (t : List Cell). (t, rest)) (sym (append-nil front)) ∙ ap (with_front front) (sym one) ∙ so_far

pub cells_end : (front : List Cell) (count i : ℕ) (rest : List ℕ) (total : List Cell × List ℕ) → count ≤ i → with_front front (cells_from (count - i) rest) ≡ total → (front, rest) ≡ total
unfolding cells_from
cells_end front count i rest total le so_far =
    let k : count - i ≡ 0 = omega arith in
    let one : cells_from (count - i) rest ≡ ([], rest) = rw k refl in
    ap (λ (t : List Cell). (t, rest)) (sym (append-nil front)) ∙ ap (with_front front) (sym one) ∙ so_far

-- ---- names

names_one : (script : Script) (n : ℕ) (bs : List ℕ) → 0 < length bs → names_from script (suc n) bs ≡ entity_of script (next bs) ∷ names_from script n (after bs)
unfolding names_from
names_one script n [] h = absurd (omega arith)
names_one script n (b ∷ bs) h = refl

names_none : (script : Script) (n : ℕ) → names_from script n [] ≡ []
unfolding names_from
names_none script zero = refl
names_none script (suc n) = refl

pub names_go_on : (script : Script) (front : List ℕ) (count i : ℕ) (rest : List ℕ) (total : List ℕ) → i < count → 0 < length rest → front ++ names_from script (count - i) rest ≡ total
    → (front ++ entity_of script (next rest) ∷ []) ++ names_from script (count - (i + 1)) (after rest) ≡ total
names_go_on script front count i rest total lt h so_far =
    let k : count - i ≡ suc (count - (i + 1)) = omega arith in
    let one : names_from script (count - i) rest ≡ entity_of script (next rest) ∷ names_from script (count - (i + 1)) (after rest) = rw k (names_one script (count - (i + 1)) rest h) in
    append_assoc front (entity_of script (next rest) ∷ []) (names_from script (count - (i + 1)) (after rest)) ∙ ap (λ (t : List ℕ). front ++ t) (sym one) ∙ so_far

pub names_stop : (script : Script) (front : List ℕ) (n : ℕ) (rest : List ℕ) (total : List ℕ) → rest ≡ [] → front ++ names_from script n rest ≡ total → front ≡ total
names_stop script front n rest total h so_far =
    let one : names_from script n rest ≡ [] = rw h (names_none script n) in
    sym (append-nil front) ∙ ap (λ (t : List ℕ). front ++ t) (sym one) ∙ so_far

pub names_end : (script : Script) (front : List ℕ) (count i : ℕ) (rest : List ℕ) (total : List ℕ) → count ≤ i → front ++ names_from script (count - i) rest ≡ total → front ≡ total
unfolding names_from
names_end script front count i rest total le so_far =
    let k : count - i ≡ 0 = omega arith in
    let one : names_from script (count - i) rest ≡ [] = rw k refl in
    sym (append-nil front) ∙ ap (λ (t : List ℕ). front ++ t) (sym one) ∙ so_far

-- ---- sets

pub sets_go_on : (script : Script) (entity : ℕ) (front : List (ℕ × Cell)) (count i : ℕ) (rest : List ℕ) (x : ℕ × Cell) (more : List ℕ) (total : List (ℕ × Cell)) → i < count → set_at script entity rest ≡ Some (x, more)
    → front ++ sets_from script entity (count - i) rest ≡ total → (front ++ x ∷ []) ++ sets_from script entity (count - (i + 1)) more ≡ total
unfolding sets_from
sets_go_on script entity front count i rest x more total lt h so_far =
    let k : count - i ≡ suc (count - (i + 1)) = omega arith in
    let one : sets_from script entity (count - i) rest ≡ x ∷ sets_from script entity (count - (i + 1)) more = rw (k, h) refl in
    append_assoc front (x ∷ []) (sets_from script entity (count - (i + 1)) more) ∙ ap (λ (t : List (ℕ × Cell)). front ++ t) (sym one) ∙ so_far

pub sets_stop : (script : Script) (entity : ℕ) (front : List (ℕ × Cell)) (count i : ℕ) (rest : List ℕ) (total : List (ℕ × Cell)) → i < count → set_at script entity rest ≡ None
    → front ++ sets_from script entity (count - i) rest ≡ total → front ≡ total
unfolding sets_from
sets_stop script entity front count i rest total lt h so_far =
    let k : count - i ≡ suc (count - (i + 1)) = omega arith in
    let one : sets_from script entity (count - i) rest ≡ [] = rw (k, h) refl in
    sym (append-nil front) ∙ ap (λ (t : List (ℕ × Cell)). front ++ t) (sym one) ∙ so_far

pub sets_end : (script : Script) (entity : ℕ) (front : List (ℕ × Cell)) (count i : ℕ) (rest : List ℕ) (total : List (ℕ × Cell)) → count ≤ i → front ++ sets_from script entity (count - i) rest ≡ total → front ≡ total
unfolding sets_from
sets_end script entity front count i rest total le so_far =
    let k : count - i ≡ 0 = omega arith in
    let one : sets_from script entity (count - i) rest ≡ [] = rw k refl in
    sym (append-nil front) ∙ ap (λ (t : List (ℕ × Cell)). front ++ t) (sym one) ∙ so_far

-- the bytes from a place on, as code takes them
pub whole_rest : (bs : List ℕ) (i : ℕ) → take (length bs - i) (drop i bs) ≡ drop i bs
whole_rest bs i = take_all (length bs - i) (drop i bs) (simp length-drop (omega arith))

pub same_pair : {X : Type 0} (x y : X) (bs cs : List ℕ) (total : X × List ℕ) → x ≡ y → bs ≡ cs → (y, cs) ≡ total → (x, bs) ≡ total
same_pair x y bs cs total e f h = rw (e, f) h

zero_is : (n : ℕ) (b : Bool) → b ≡ (n == 0) → b ≡ true → n ≡ 0
zero_is n b e h = grind (arith, nat_tests)

pub empty_is : (bs : List ℕ) (b : Bool) → b ≡ (length bs == 0) → b ≡ true → bs ≡ []
empty_is bs b e h = nil_from_length bs (zero_is (length bs) b e h)
