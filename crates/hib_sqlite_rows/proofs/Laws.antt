-- Packing and unpacking are inverse to each other.
use Rattle.std.proofs.Common.{◌≡◌, ◌≤◌, ◌<◌, ◌^◌, ℕ, zero, suc, ℤ, Bool, true, false, cond, nat_le, List, [], ◌∷◌, ◌++◌, length, take, drop, get_or, slice_index, ◌==◌, Some, None, Option, refl, sym, ◌∙◌, subst, ap, arith, FitsSigned, w64, length-append, IsSome, IfSome, Fits, w8, slice_index_or, ◌↔◌, true≢false}
use Rattle.std.specs.List.{AllByRecursion}
use Rattle.std.specs.Option.{option_map}
use Rattle.std.specs.Int.{to_be_bytes, from_be_bytes, cast_signed, cast_unsigned}
use Rattle.std.proofs.lemmas.Bool.{leb-true, le-leb, eqb-true}
use Rattle.std.proofs.lemmas.Int.{to_z-of_z, of_z-to_z, ints}
use Rattle.std.proofs.lemmas.Nat.{from_be_bytes-to_be_bytes_8, be_bytes_8}
use Rattle.std.proofs.lemmas.List.Elements.{recursion_from_All, All-from_recursion, All-from_get_or}
use Rattle.std.proofs.lemmas.List.{length-take, take-append-drop}
use Rattle.std.proofs.Math.Seq.{take-append_seam, drop-append_seam}
use Rattle.std.proofs.Math.Facts.{Fits-of_z}
use Rattle.hib_base.specs.declared.rows.Cell.{Cell}
use Rattle.hib_base.specs.declared.rows.Cell.TheVariants.{Int, Text, Bool as Truth}
use Rattle.hib_sqlite_rows.specs.Body.{packed_cell, packed_cells, packed, taken, taken_number, taken_text, taken_truth, with_more, unpacked_cells, unpacked, IsPackableCell, IsPackable, IsBodyOf, IsBody}

number_back : (n : ℤ) (rest : List ℕ) → FitsSigned w64 n → taken (packed_cell (Int n) ++ rest) ≡ Some (Int n, rest)
number_back n rest fits =
    let u = cast_unsigned w64 n in
    let back : from_be_bytes w64 (to_be_bytes w64 u) ≡ u = from_be_bytes-to_be_bytes_8 u (Fits-of_z {w = w64} {z = n} fits).fits in
    let there : cast_signed w64 u ≡ n = to_z-of_z w64 n fits in
    let be = to_be_bytes w64 u in
    let enough : nat_le 8 (length (be ++ rest)) ≡ true = le-leb 8 (length (be ++ rest)) (omega (arith, length-append be rest)) in
    rw enough (ap (λ (x : ℕ). Some (Int (cast_signed w64 x), rest)) back ∙ ap (λ (x : ℤ). Some (Int x, rest)) there)

text_back : (t rest : List ℕ) → taken (packed_cell (Text t) ++ rest) ≡ Some (Text t, rest)
text_back t rest =
    let fits : nat_le (length t) (length (t ++ rest)) ≡ true = le-leb (length t) (length (t ++ rest)) (omega (arith, length-append t rest)) in
    rw (fits, take-append_seam t rest, drop-append_seam t rest) refl

pub cell_back : (c : Cell) (rest : List ℕ) → IsPackableCell c → taken (packed_cell c ++ rest) ≡ Some (c, rest)
cell_back (Int n) rest fits = number_back n rest fits
cell_back (Text t) rest fits = text_back t rest
cell_back (Truth true) rest fits = refl
cell_back (Truth false) rest fits = refl

cells_back : (cells : List Cell) → AllByRecursion IsPackableCell cells → unpacked_cells (length cells) (packed_cells cells) ≡ Some cells
cells_back [] all = refl
cells_back (c ∷ cs) all =
    ap (λ t. with_more t (unpacked_cells (length cs))) (cell_back c (packed_cells cs) all.0) ∙ ap (option_map (λ x. c ∷ x)) (cells_back cs all.1)

-- the cells of the bytes of cells are those
pub unpacked_packed : (cells : List Cell) → IsPackable cells → unpacked (packed cells) ≡ Some cells
unpacked_packed cells fits = cells_back cells (recursion_from_All IsPackableCell cells fits.each)

-- ---- the other way

abbrev pub AreBytes : List ℕ → Type 0
AreBytes = AllByRecursion (λ b. b < 256)

each_byte : (bs : List ℕ) → AreBytes bs → (i : ℕ) → get_or bs i 0 < 256
each_byte [] all i = omega arith
each_byte (b ∷ bs) all zero = all.0
each_byte (b ∷ bs) all (suc i) = each_byte bs all.1 i

front_bytes : (n : ℕ) (bs : List ℕ) → AreBytes bs → AreBytes (take n bs)
front_bytes zero bs all = tt
front_bytes (suc n) [] all = tt
front_bytes (suc n) (b ∷ bs) all = (all.0, front_bytes n bs all.1)

back_bytes : (n : ℕ) (bs : List ℕ) → AreBytes bs → AreBytes (drop n bs)
back_bytes zero bs all = all
back_bytes (suc n) [] all = tt
back_bytes (suc n) (b ∷ bs) all = back_bytes n bs all.1

abbrev Packs : List ℕ → Option (Cell × List ℕ) → Type 0
Packs bs None = Unit {0}
Packs bs (Some p) = (packed_cell p.0 ++ p.1 ≡ bs) × AreBytes p.1 × IsPackableCell p.0

signed : (n : ℕ) → n < 2 ^ 64 → FitsSigned w64 (cast_signed w64 n)
signed n low = omega (arith, ints)

number_packs : (rest : List ℕ) → AreBytes rest → (b : Bool) → nat_le 8 (length rest) ≡ b → Packs (1 ∷ rest) (cond b (Some (Int (cast_signed w64 (from_be_bytes w64 (take 8 rest))), drop 8 rest)) None)
number_packs rest all false is = tt
number_packs rest all true is =
    let enough : 8 ≤ length rest = leb-true 8 (length rest) is in
    let front = take 8 rest in
    let n = from_be_bytes w64 front in
    let long : length front ≡ 8 = length-take 8 rest ∙ omega arith in
    let bytes : to_be_bytes w64 n ≡ front = be_bytes_8 front n long (each_byte front (front_bytes 8 rest all)) refl in
    let small : (i : ℕ) → slice_index front i < 256 = each_byte front (front_bytes 8 rest all) in
    let fits : n < 2 ^ 64 = omega (arith, small 0, small 1, small 2, small 3, small 4, small 5, small 6, small 7) in
    let back : cast_unsigned w64 (cast_signed w64 n) ≡ n = of_z-to_z w64 n fits in
    (ap (λ x. 1 ∷ (to_be_bytes w64 x ++ drop 8 rest)) back ∙ ap (λ l. 1 ∷ (l ++ drop 8 rest)) bytes ∙ ap (λ l. 1 ∷ l) (take-append-drop 8 rest), back_bytes 8 rest all, signed n fits)

text_packs : (rest : List ℕ) → AreBytes rest → Packs (2 ∷ rest) (taken_text rest)
text_packs [] all = tt
text_packs (n ∷ rest) all = by (nat_le n (length rest)) refl
  where
    by : (b : Bool) → nat_le n (length rest) ≡ b → Packs (2 ∷ n ∷ rest) (cond b (Some (Text (take n rest), drop n rest)) None)
    by false is = tt
    by true is =
        let enough : n ≤ length rest = leb-true n (length rest) is in
        let long : length (take n rest) ≡ n = length-take n rest ∙ omega arith in
        ((λ i. 2 ∷ long i ∷ take-append-drop n rest i), back_bytes n rest all.1, (let low : n < 256 = all.0 in omega arith))

truth_packs : (rest : List ℕ) → AreBytes rest → Packs (3 ∷ rest) (taken_truth rest)
truth_packs [] all = tt
truth_packs (t ∷ rest) all = by (t == 0) refl (t == 1) refl
  where
    by : (a : Bool) → (t == 0) ≡ a → (b : Bool) → (t == 1) ≡ b → Packs (3 ∷ t ∷ rest) (cond a (Some (Truth false, rest)) (cond b (Some (Truth true, rest)) None))
    by true p b q = (ap (λ x. 3 ∷ x ∷ rest) (sym (eqb-true t 0 p)), all.1, tt)
    by false p true q = (ap (λ x. 3 ∷ x ∷ rest) (sym (eqb-true t 1 q)), all.1, tt)
    by false p false q = tt

cell_packs : (bs : List ℕ) → AreBytes bs → Packs bs (taken bs)
cell_packs [] all = tt
cell_packs (tag ∷ rest) all = by (tag == 1) refl (tag == 2) refl (tag == 3) refl
  where
    by : (a : Bool) → (tag == 1) ≡ a → (b : Bool) → (tag == 2) ≡ b → (c : Bool) → (tag == 3) ≡ c
        → Packs (tag ∷ rest) (cond a (taken_number rest) (cond b (taken_text rest) (cond c (taken_truth rest) None)))
    by true p b q c r = subst (λ t. Packs (t ∷ rest) (taken_number rest)) (sym (eqb-true tag 1 p)) (number_packs rest all.1 (nat_le 8 (length rest)) refl)
    by false p true q c r = subst (λ t. Packs (t ∷ rest) (taken_text rest)) (sym (eqb-true tag 2 q)) (text_packs rest all.1)
    by false p false q true r = subst (λ t. Packs (t ∷ rest) (taken_truth rest)) (sym (eqb-true tag 3 r)) (truth_packs rest all.1)
    by false p false q false r = tt

abbrev PackAll : ℕ → List ℕ → Option (List Cell) → Type 0
PackAll n bs None = Unit {0}
PackAll n bs (Some cells) = (length cells ≡ n) × (packed_cells cells ≡ bs) × AllByRecursion IsPackableCell cells

cells_pack : (n : ℕ) (bs : List ℕ) → AreBytes bs → PackAll n bs (unpacked_cells n bs)
cells_pack zero [] all = (refl, refl, tt)
cells_pack zero (b ∷ bs) all = tt
cells_pack (suc n) bs all = by (taken bs) (cell_packs bs all) (cells_pack n)
  where
    one : (c : Cell) (rest : List ℕ) (o : Option (List Cell)) → packed_cell c ++ rest ≡ bs → IsPackableCell c → PackAll n rest o → PackAll (suc n) bs (option_map (λ cs. c ∷ cs) o)
    one c rest None e fits h = tt
    one c rest (Some cs) e fits h = (ap (λ k. suc k) h.0, ap (λ l. packed_cell c ++ l) h.1 ∙ e, (fits, h.2))

    by : (o : Option (Cell × List ℕ)) → Packs bs o → ((r : List ℕ) → AreBytes r → PackAll n r (unpacked_cells n r)) → PackAll (suc n) bs (with_more o (unpacked_cells n))
    by None h more = tt
    by (Some p) h more = one p.0 p.1 (unpacked_cells n p.1) h.0 h.2 (more p.1 h.1)

abbrev pub PacksTo : List ℕ → Option (List Cell) → Type 0
PacksTo bs None = Unit {0}
PacksTo bs (Some cells) = IsBodyOf cells bs

-- bytes that are of cells are the body of those
pub packed_unpacked : (bs : List ℕ) → AreBytes bs → PacksTo bs (unpacked bs)
packed_unpacked [] all = tt
packed_unpacked (n ∷ bs) all = by (unpacked_cells n bs) (cells_pack n bs all.1)
  where
    by : (o : Option (List Cell)) → PackAll n bs o → PacksTo (n ∷ bs) o
    by None h = tt
    by (Some cells) h = record {
      packable = record { count = (let few : length cells ≡ n = h.0 in let low : n < 256 = all.0 in omega arith); each = All-from_recursion IsPackableCell cells h.2 };
      is = λ i. h.0 i ∷ h.1 i;
    }

-- bytes after a slice
abbrev pub Fit : List ℕ → Type 0
Fit bs = (i : ℕ) → Fits w8 (slice_index_or bs i 0)

are_bytes : (bs : List ℕ) → Fit bs → AreBytes bs
are_bytes bs fit = recursion_from_All (λ b. b < 256) bs (All-from_get_or (λ b. b < 256) bs 0 (λ i low. (fit i).fits))

-- what `unpack` answers is given exactly if the bytes are a body
pub gives_exactly : (o : Option (List Cell)) (bs : List ℕ) → Fit bs → o ≡ unpacked bs → IsSome o ↔ IsBody bs
gives_exactly o bs all is = (there o (subst (PacksTo bs) (sym is) (packed_unpacked bs (are_bytes bs all))), back)
  where
    there : (o : Option (List Cell)) → PacksTo bs o → IsSome o → IsBody bs
    there None h some = absurd (true≢false (sym some))
    there (Some cells) h some = (cells, h)

    back : IsBody bs → IsSome o
    back body =
        let given : o ≡ Some body.0 = is ∙ ap unpacked (sym body.1.is) ∙ unpacked_packed body.0 body.1.packable in
        rw given refl

pub gives_back : (o : Option (List Cell)) (bs : List ℕ) → Fit bs → o ≡ unpacked bs → IfSome o (λ cells. packed cells ≡ bs)
gives_back o bs all is = by o (subst (PacksTo bs) (sym is) (packed_unpacked bs (are_bytes bs all)))
  where
    by : (o : Option (List Cell)) → PacksTo bs o → IfSome o (λ cells. packed cells ≡ bs)
    by None h = tt
    by (Some cells) h = h.is
