-- Texts that are added one after another.
use Rattle.std.proofs.Common.{◌≡◌, ℕ, zero, suc, ◌+◌, ◌<◌, List, [], ◌∷◌, ◌++◌, take, length, get_or, flat_map, sym, ap, ◌∙◌, append_assoc, arith}
use Rattle.std.proofs.lemmas.Grind.{flat_map-append}
use Rattle.std.proofs.lemmas.List.{append-nil, take_more}
use Rattle.hib_collections_law.specs.declared.entries.Def.{Def}
use Rattle.hib_collections_law.specs.declared.entries.GatherEntry.{GatherEntry}
use Rattle.hib_collections.specs.Text.{count_text, counts_text}

pub each_at : {A : Type 0} (f : A → List ℕ) (xs : List A) (i : ℕ) (x : A) → i < length xs → x ≡ get_or xs i x → (start old new : List ℕ) → old ≡ start ++ flat_map f (take i xs) → new ≡ old ++ f x → new ≡ start ++ flat_map f (take (i + 1) xs)
each_at f xs i x h e start old new p q =
    q ∙ (ap (λ t. t ++ f x) p ∙ (append_assoc start (flat_map f (take i xs)) (f x)
    ∙ ap (λ t. start ++ t) (ap (λ y. flat_map f (take i xs) ++ f y) e
    ∙ sym (ap (λ ys. flat_map f ys) (take_more xs i x h) ∙ (flat_map-append f (take i xs) (get_or xs i x ∷ []) ∙ ap (λ y. flat_map f (take i xs) ++ y) (append-nil (f (get_or xs i x))))))))

pub counts_more : (es : List GatherEntry) (n : ℕ) (ds : List Def) (i : ℕ) (d : Def) → i < length ds → counts_text es n (take (suc i) ds) ≡ counts_text es n (take i ds) ++ count_text es (n + i) (get_or ds i d)
counts_more es n [] i d h = absurd (omega (arith, h))
counts_more es n (x ∷ ds) zero d h = let e : n + 0 ≡ n = omega arith in append-nil (count_text es n x) ∙ ap (λ m. count_text es m x) (sym e)
counts_more es n (x ∷ ds) (suc i) d h =
    let e : n + 1 + i ≡ n + suc i = omega arith in
    let l : i < length ds = omega (arith, h) in
    ap (λ t. count_text es n x ++ t) (counts_more es (n + 1) ds i d l ∙ ap (λ m. counts_text es (n + 1) (take i ds) ++ count_text es m (get_or ds i d)) e)
    ∙ sym (append_assoc (count_text es n x) (counts_text es (n + 1) (take i ds)) (count_text es (n + suc i) (get_or ds i d)))

pub counts_at : (es : List GatherEntry) (xs ds : List Def) (i : ℕ) (d : Def) → xs ≡ ds → i < length ds → d ≡ get_or xs i d → (start old new : List ℕ) → old ≡ start ++ counts_text es 0 (take i ds) → new ≡ old ++ count_text es i d →
    new ≡ start ++ counts_text es 0 (take (i + 1) ds)
counts_at es xs ds i d e h r start old new p q =
    let f : d ≡ get_or ds i d = r ∙ ap (λ (ys : List Def). get_or ys i d) e in
    let o : 0 + i ≡ i = omega arith in
    let u : suc i ≡ i + 1 = omega arith in
    let more : counts_text es 0 (take (suc i) ds) ≡ counts_text es 0 (take i ds) ++ count_text es i (get_or ds i d) =
    counts_more es 0 ds i d h ∙ ap (λ m. counts_text es 0 (take i ds) ++ count_text es m (get_or ds i d)) o in
    q ∙ (ap (λ t. t ++ count_text es i d) p ∙ (append_assoc start (counts_text es 0 (take i ds)) (count_text es i d)
    ∙ ap (λ t. start ++ t) (ap (λ (x : Def). counts_text es 0 (take i ds) ++ count_text es i x) f ∙ (sym more ∙ ap (λ m. counts_text es 0 (take m ds)) u))))
