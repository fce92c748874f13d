-- One cell more.
use Rattle.std.proofs.Common.{◌≡◌, ◌<◌, ◌≤◌, ◌+◌, ◌-◌, ℕ, suc, List, [], ◌∷◌, ◌++◌, length, take, drop, get_or, Some, None, Option, refl, sym, ◌∙◌, ap, arith, append_assoc, append-nil}
use Rattle.std.specs.Option.{option_map}
use Rattle.std.proofs.lemmas.List.{drop-drop, take_all, length-drop}
use Rattle.hib_base.specs.declared.rows.Cell.{Cell}
use Rattle.hib_sqlite_rows.specs.Body.{taken, with_more, unpacked_cells, unpacked}

-- the cells before, and those of the bytes that are left
abbrev pub after_these : List Cell → Option (List Cell) → Option (List Cell)
after_these front = option_map (λ cs. front ++ cs)

nil_after : (o : Option (List Cell)) → after_these [] o ≡ o
nil_after None = refl
nil_after (Some cs) = refl

cons_after : (front : List Cell) (c : Cell) (o : Option (List Cell)) → after_these front (option_map (λ cs. c ∷ cs) o) ≡ after_these (front ++ c ∷ []) o
cons_after front c None = refl
cons_after front c (Some cs) = ap (λ x. Some x) (sym (append_assoc front (c ∷ []) cs))

pub starts : (bs : List ℕ) (n : ℕ) → 0 < length bs → n ≡ get_or bs 0 n → unpacked bs ≡ after_these [] (unpacked_cells n (drop 1 bs))
starts [] n h is = absurd (omega arith)
starts (b ∷ bs) n h is = rw is (sym (nil_after (unpacked_cells b bs)))

pub goes_on : (bs : List ℕ) (m k at size : ℕ) (front : List Cell) (c : Cell) (o : Option (List Cell)) → k ≡ suc m → taken (drop at bs) ≡ Some (c, drop size (drop at bs))
    → o ≡ after_these front (unpacked_cells k (drop at bs)) → o ≡ after_these (front ++ c ∷ []) (unpacked_cells m (drop (at + size) bs))
goes_on bs m k at size front c o more found so_far =
    so_far ∙ ap (λ j. after_these front (unpacked_cells j (drop at bs))) more ∙ ap (λ t. after_these front (with_more t (unpacked_cells m))) found
    ∙ cons_after front c (unpacked_cells m (drop size (drop at bs))) ∙ ap (λ l. after_these (front ++ c ∷ []) (unpacked_cells m l)) (drop-drop size at bs)

pub stops : (bs : List ℕ) (m k at : ℕ) (front : List Cell) (o : Option (List Cell)) → k ≡ suc m → taken (drop at bs) ≡ None
    → o ≡ after_these front (unpacked_cells k (drop at bs)) → o ≡ None
stops bs m k at front o more none so_far =
    so_far ∙ ap (λ j. after_these front (unpacked_cells j (drop at bs))) more ∙ ap (λ t. after_these front (with_more t (unpacked_cells m))) none

pub ends : (bs : List ℕ) (k at : ℕ) (front : List Cell) (o : Option (List Cell)) → k ≡ 0 → drop at bs ≡ [] → o ≡ after_these front (unpacked_cells k (drop at bs)) → o ≡ Some front
ends bs k at front o none over so_far =
    so_far ∙ ap (λ j. after_these front (unpacked_cells j (drop at bs))) none ∙ ap (λ l. after_these front (unpacked_cells 0 l)) over ∙ ap (λ x. Some x) (append-nil front)

pub ends_early : (bs : List ℕ) (k : ℕ) (front : List Cell) (o : Option (List Cell)) → k ≡ 0 → 0 < length bs → o ≡ after_these front (unpacked_cells k bs) → o ≡ None
ends_early [] k front o none over so_far = absurd (omega arith)
ends_early (b ∷ bs) k front o none over so_far = so_far ∙ ap (λ j. after_these front (unpacked_cells j (b ∷ bs))) none

-- the bytes from a place to the end
pub rest_is : (bs : List ℕ) (at : ℕ) → at ≤ length bs → take (length bs - at) (drop at bs) ≡ drop at bs
rest_is bs at h = take_all (length bs - at) (drop at bs) (omega (arith, length-drop at bs))

pub taken_there : (bs : List ℕ) (at size : ℕ) (c : Cell) → at ≤ length bs
    → (size ≤ length (take (length bs - at) (drop at bs))) × (taken (take (length bs - at) (drop at bs)) ≡ Some (c, drop size (take (length bs - at) (drop at bs))))
    → (at + size ≤ length bs) × (taken (drop at bs) ≡ Some (c, drop size (drop at bs)))
taken_there bs at size c h found =
    let it = rw (rest_is bs at h) at found in
    (omega (arith, it.0, length-drop at bs), it.1)
