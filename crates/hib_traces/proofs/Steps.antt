-- Marks in the order of stairs.
use Rattle.std.proofs.Common.{◌≡◌, ◌≤◌, ◌<◌, ◌+◌, ◌-◌, inl, inr, ℕ, Bool, true, false, List, [], ◌∷◌, ◌++◌, length, get_or, take, Result, Ok, Err, IfOk, refl, sym, ◌∙◌, ap, subst, arith}
use Rattle.std.specs.Prelude.{◌&&◌, ◌||◌, nat_lt}
use Rattle.std.specs.Prelude.{◌==◌}
use Rattle.std.specs.List.Sorted.{IsNonDecreasingBy}
use Rattle.std.proofs.lemmas.Bool.{true≢false, and_parts, and_from, and_left, and_right, ltb-true, ltb-false, lt-ltb, le-ltb, cases_lt, or_cases, or_parts, eqb-true, eqb-false}
use Rattle.std.proofs.lemmas.List.{get_or_append_left, get_or_default, length-append, take_more}
use Rattle.std.proofs.Math.Seq.{get_or-append_seam}
use Rattle.std.proofs.lemmas.List.Folds.{list_any_at, list_any_none, list_any-append}
use Rattle.hib_traces.specs.declared.marks.Mark.{Mark}
use Rattle.hib_traces.specs.Marks.{asks, far_of, is_lowest, IsStairs}

-- a fact of each element of a longer list, from the list and its last element
pub at_each : (ms : List Mark) (m : Mark) (P : Mark → Type 0) (i : ℕ) (d : Mark) → i < length ms + 1 → (i < length ms → P (get_or ms i d)) → P m → P (get_or (ms ++ m ∷ []) i d)
at_each ms m P i d l f p = elim (cases_lt i (length ms)) [
  | inl q ↦ subst P (sym (get_or_append_left ms (m ∷ []) d i q)) (f q)
  | inr q ↦ let e : length ms ≡ i = omega (arith, l, q) in
      subst P (ap (λ k. get_or (ms ++ m ∷ []) k d) e) (subst P (sym (get_or-append_seam ms m [] d)) p)
]

-- each mark lies at a place or beyond it
abbrev pub IsBeyond : List Mark → ℕ → Type 0
IsBeyond ms k = (i : ℕ) (d : Mark) → i < length ms → k ≤ (get_or ms i d).at

or_false : (b : Bool) → (b || false) ≡ b
or_false true = refl
or_false false = refl

pub asks_more : (k t : ℕ) (ms : List Mark) (m : Mark) → asks k t (ms ++ m ∷ []) ≡ (asks k t ms || (nat_lt k m.at && nat_lt m.value t))
asks_more k t ms m =
    list_any-append (λ (n : Mark). nat_lt k n.at && nat_lt n.value t) ms (m ∷ [])
    ∙ ap (λ b. asks k t ms || b) (or_false (nat_lt k m.at && nat_lt m.value t))

-- a mark whose number isn't lower than that of a mark beyond it says nothing new
pub asks_skipped : (ms : List Mark) (m e : Mark) (i : ℕ) → i < length ms → m.at ≤ (get_or ms i e).at → (get_or ms i e).value ≤ m.value →
    (k t : ℕ) → asks k t ms ≡ asks k t (ms ++ m ∷ [])
asks_skipped ms m e i l a v k t = by (asks k t ms) refl ∙ sym (asks_more k t ms m)
  where
    no : asks k t ms ≡ false → (nat_lt k m.at && nat_lt m.value t) ≡ true → ⊥
    no f p =
        let q : (nat_lt k m.at ≡ true) × (nat_lt m.value t ≡ true) = and_parts (nat_lt k m.at) (nat_lt m.value t) p in
        let x : k < m.at = ltb-true k m.at q.0 in
        let y : m.value < t = ltb-true m.value t q.1 in
        true≢false (sym (list_any_at (λ (n : Mark). nat_lt k n.at && nat_lt n.value t) ms i e l
        (and_from (nat_lt k (get_or ms i e).at) (nat_lt (get_or ms i e).value t)
        (lt-ltb k (get_or ms i e).at (omega (arith, x, a))) (lt-ltb (get_or ms i e).value t (omega (arith, y, v))))) ∙ f)

    last : (b : Bool) → asks k t ms ≡ false → (nat_lt k m.at && nat_lt m.value t) ≡ b → false ≡ (false || b)
    last true f p = absurd (no f p)
    last false f p = refl

    by : (b : Bool) → asks k t ms ≡ b → b ≡ (b || (nat_lt k m.at && nat_lt m.value t))
    by true f = refl
    by false f = last (nat_lt k m.at && nat_lt m.value t) f refl

pub beyond_more : (ms : List Mark) (m : Mark) (k : ℕ) → IsBeyond ms k → k ≤ m.at → IsBeyond (ms ++ m ∷ []) k
beyond_more ms m k b l i d n =
    at_each ms m (λ x. k ≤ x.at) i d (subst (λ j. i < j) (length-append ms (m ∷ [])) n) (b i d) l

-- a lower and nearer mark makes the stairs longer
pub stairs_more : (ms : List Mark) (m : Mark) → IsStairs ms → IsBeyond ms m.at → ((i : ℕ) (d : Mark) → i < length ms → m.value ≤ (get_or ms i d).value) →
    IsStairs (ms ++ m ∷ [])
stairs_more ms m s b v = record {
  at = λ i j d l n. let e : j < length ms + 1 = subst (λ k. j < k) (length-append ms (m ∷ [])) n in
      at_each ms m (λ x. x.at ≤ (get_or (ms ++ m ∷ []) i d).at) j d e
      (λ q. subst (λ (x : Mark). (get_or ms j d).at ≤ x.at) (sym (get_or_append_left ms (m ∷ []) d i (omega (arith, l, q)))) (s.at i j d l q))
      (at_each ms m (λ x. m.at ≤ x.at) i d (omega (arith, l, e)) (b i d) (omega arith));
  value = λ i j d l n. let e : j < length ms + 1 = subst (λ k. j < k) (length-append ms (m ∷ [])) n in
      at_each ms m (λ x. x.value ≤ (get_or (ms ++ m ∷ []) i d).value) j d e
      (λ q. subst (λ (x : Mark). (get_or ms j d).value ≤ x.value) (sym (get_or_append_left ms (m ∷ []) d i (omega (arith, l, q)))) (s.value i j d l q))
      (at_each ms m (λ x. m.value ≤ x.value) i d (omega (arith, l, e)) (v i d) (omega arith));
}

pub none_beyond : (ms : List Mark) (k t : ℕ) → ((i : ℕ) (d : Mark) → i < length ms → (get_or ms i d).at ≤ k) → asks k t ms ≡ false
none_beyond ms k t f = list_any_none (λ (n : Mark). nat_lt k n.at && nat_lt n.value t) ms
    (λ i d l. and_left (nat_lt k (get_or ms i d).at) (nat_lt (get_or ms i d).value t) (le-ltb k (get_or ms i d).at (f i d l)))

-- of those beyond a place the last one has the least number
pub last_beyond : (ms : List Mark) (k t n : ℕ) (e : Mark) → IsStairs ms → n < length ms → ((i : ℕ) (d : Mark) → i < n + 1 → k < (get_or ms i d).at) →
    ((i : ℕ) (d : Mark) → n + 1 ≤ i → i < length ms → (get_or ms i d).at ≤ k) → asks k t ms ≡ nat_lt (get_or ms n e).value t
last_beyond ms k t n e s l f g = by (nat_lt (get_or ms n e).value t) refl
  where
    miss : nat_lt (get_or ms n e).value t ≡ false → (i : ℕ) (d : Mark) → i < length ms → (nat_lt k (get_or ms i d).at && nat_lt (get_or ms i d).value t) ≡ false
    miss q i d m = elim (cases_lt i (n + 1)) [
      | inl r ↦ let w : t ≤ (get_or ms n e).value = ltb-false (get_or ms n e).value t q in
          let z : get_or ms n d ≡ get_or ms n e = get_or_default ms n d e l in
          let y : (get_or ms n d).value ≤ (get_or ms i d).value = s.value i n d (omega (arith, r)) l in
          let x : t ≤ (get_or ms n d).value = subst (λ (a : Mark). t ≤ a.value) (sym z) w in
          and_right (nat_lt k (get_or ms i d).at) (nat_lt (get_or ms i d).value t) (le-ltb (get_or ms i d).value t (omega (arith, x, y)))
      | inr r ↦ and_left (nat_lt k (get_or ms i d).at) (nat_lt (get_or ms i d).value t) (le-ltb k (get_or ms i d).at (g i d r m))
    ]

    by : (b : Bool) → nat_lt (get_or ms n e).value t ≡ b → asks k t ms ≡ b
    by true q = list_any_at (λ (x : Mark). nat_lt k x.at && nat_lt x.value t) ms n e l
        (and_from (nat_lt k (get_or ms n e).at) (nat_lt (get_or ms n e).value t) (lt-ltb k (get_or ms n e).at (f n e (omega arith))) q)
    by false q = list_any_none (λ (x : Mark). nat_lt k x.at && nat_lt x.value t) ms (miss q)

pub far_enough : (s : List Mark) (n k : ℕ) (d e : Mark) (limit : ℕ) → IsStairs s → n < length s → limit < (get_or s n e).at → k < n + 1 → limit < (get_or s k d).at
far_enough s n k d e limit f l p q =
    let g : (get_or s n d).at ≤ (get_or s k d).at = f.at k n d (omega (arith, q)) l in
    let r : limit < (get_or s n d).at = subst (λ (m : Mark). limit < m.at) (get_or_default s n e d l) p in
    omega (arith, g, r)

pub near_enough : (s : List Mark) (n k : ℕ) (d e : Mark) (limit : ℕ) → IsStairs s → (get_or s n e).at ≤ limit → n ≤ k → k < length s → (get_or s k d).at ≤ limit
near_enough s n k d e limit f p q l =
    let g : (get_or s k d).at ≤ (get_or s n d).at = f.at n k d q l in
    let r : (get_or s n d).at ≤ limit = subst (λ (m : Mark). m.at ≤ limit) (get_or_default s n e d (omega (arith, q, l))) p in
    omega (arith, g, r)

pub high_enough : (s : List Mark) (n k : ℕ) (d e : Mark) (limit : ℕ) → IsStairs s → n < length s → limit ≤ (get_or s n e).value → k < n + 1 → limit ≤ (get_or s k d).value
high_enough s n k d e limit f l p q =
    let g : (get_or s n d).value ≤ (get_or s k d).value = f.value k n d (omega (arith, q)) l in
    let r : limit ≤ (get_or s n d).value = subst (λ (m : Mark). limit ≤ m.value) (get_or_default s n e d l) p in
    omega (arith, g, r)

pub low_enough : (s : List Mark) (n k : ℕ) (d e : Mark) (limit : ℕ) → IsStairs s → (get_or s n e).value < limit → n ≤ k → k < length s → (get_or s k d).value < limit
low_enough s n k d e limit f p q l =
    let g : (get_or s k d).value ≤ (get_or s n d).value = f.value n k d q l in
    let r : (get_or s n d).value < limit = subst (λ (m : Mark). m.value < limit) (get_or_default s n e d (omega (arith, q, l))) p in
    omega (arith, g, r)

-- of the marks with numbers below a limit the first one lies furthest
pub none_below : (ms : List Mark) (k t : ℕ) → ((i : ℕ) (d : Mark) → i < length ms → t ≤ (get_or ms i d).value) → asks k t ms ≡ false
none_below ms k t f = list_any_none (λ (n : Mark). nat_lt k n.at && nat_lt n.value t) ms
    (λ i d l. and_right (nat_lt k (get_or ms i d).at) (nat_lt (get_or ms i d).value t) (le-ltb (get_or ms i d).value t (f i d l)))

pub first_below : (ms : List Mark) (k t n : ℕ) (e : Mark) → IsStairs ms → n < length ms → ((i : ℕ) (d : Mark) → i < n → t ≤ (get_or ms i d).value) →
    ((i : ℕ) (d : Mark) → n ≤ i → i < length ms → (get_or ms i d).value < t) → asks k t ms ≡ nat_lt k (get_or ms n e).at
first_below ms k t n e s l f g = by (nat_lt k (get_or ms n e).at) refl
  where
    miss : nat_lt k (get_or ms n e).at ≡ false → (i : ℕ) (d : Mark) → i < length ms → (nat_lt k (get_or ms i d).at && nat_lt (get_or ms i d).value t) ≡ false
    miss q i d m = elim (cases_lt i n) [
      | inl r ↦ and_right (nat_lt k (get_or ms i d).at) (nat_lt (get_or ms i d).value t) (le-ltb (get_or ms i d).value t (f i d r))
      | inr r ↦ let w : (get_or ms n e).at ≤ k = ltb-false k (get_or ms n e).at q in
          let y : (get_or ms i d).at ≤ (get_or ms n d).at = s.at n i d r m in
          let x : (get_or ms n d).at ≤ k = subst (λ (a : Mark). a.at ≤ k) (get_or_default ms n e d l) w in
          and_left (nat_lt k (get_or ms i d).at) (nat_lt (get_or ms i d).value t) (le-ltb k (get_or ms i d).at (omega (arith, x, y)))
    ]

    by : (b : Bool) → nat_lt k (get_or ms n e).at ≡ b → asks k t ms ≡ b
    by true q = list_any_at (λ (x : Mark). nat_lt k x.at && nat_lt x.value t) ms n e l
        (and_from (nat_lt k (get_or ms n e).at) (nat_lt (get_or ms n e).value t) q (lt-ltb (get_or ms n e).value t (g n e (omega arith) l)))
    by false q = list_any_none (λ (x : Mark). nat_lt k x.at && nat_lt x.value t) ms (miss q)

-- how far the stairs have come
pub record IsStepped (xs : List Mark) (i : ℕ) (ms : List Mark) : Type 0 where
  pub same : (k t : ℕ) → asks k t ms ≡ asks k t (take i xs)
  pub falls : IsStairs ms
  pub far : (a b : ℕ) (d e : Mark) → a < length ms → i ≤ b → b < length xs → far_of (get_or ms a d) ≤ far_of (get_or xs b e)

module _ (xs ms : List Mark) (i : ℕ) (e : Mark) (l : i < length xs) (s : IsStepped xs i ms) (fits : (get_or xs i e).at < 18446744073709551616) where
  all_beyond : IsBeyond ms (get_or xs i e).at
  all_beyond k d h = let f : far_of (get_or ms k d) ≤ far_of (get_or xs i e) = s.far k i d e h (omega arith) l in omega (arith, f, fits)

  same_more : (ns : List Mark) → ((k t : ℕ) → asks k t ns ≡ asks k t (ms ++ get_or xs i e ∷ [])) → (k t : ℕ) → asks k t ns ≡ asks k t (take (i + 1) xs)
  same_more ns f k t =
      f k t ∙ asks_more k t ms (get_or xs i e) ∙ ap (λ b. b || (nat_lt k (get_or xs i e).at && nat_lt (get_or xs i e).value t)) (s.same k t)
      ∙ sym (asks_more k t (take i xs) (get_or xs i e)) ∙ sym (ap (asks k t) (take_more xs i e l))

  pub stepped : IsNonDecreasingBy far_of xs → is_lowest ms (get_or xs i e) ≡ true → IsStepped xs (i + 1) (ms ++ get_or xs i e ∷ [])
  stepped o p = record {
    same = same_more (ms ++ get_or xs i e ∷ []) (λ k t. refl);
    falls = stairs_more ms (get_or xs i e) s.falls all_beyond low;
    far = λ a b d f h j m. at_each ms (get_or xs i e) (λ x. far_of x ≤ far_of (get_or xs b f)) a d (subst (λ n. a < n) (length-append ms (get_or xs i e ∷ [])) h)
        (λ q. s.far a b d f q (omega (arith, j)) m)
        (subst (λ (x : Mark). far_of x ≤ far_of (get_or xs b f)) (get_or_default xs i f e l) (o i b f (omega (arith, j)) m));
  }
    where
      low : (k : ℕ) (d : Mark) → k < length ms → (get_or xs i e).value ≤ (get_or ms k d).value
      low k d h = elim (or_cases (length ms == 0) (nat_lt (get_or xs i e).value (get_or ms (length ms - 1) (record { at = 0; value = 0 })).value) p) [
        | inl q ↦ let z : length ms ≡ 0 = eqb-true (length ms) 0 q in absurd (omega (arith, z, h))
        | inr q ↦ let z : (get_or xs i e).value < (get_or ms (length ms - 1) (record { at = 0; value = 0 })).value =
            ltb-true (get_or xs i e).value (get_or ms (length ms - 1) (record { at = 0; value = 0 })).value q in
            let n : length ms - 1 < length ms = omega (arith, h) in
            let y : (get_or xs i e).value < (get_or ms (length ms - 1) d).value =
            subst (λ (x : Mark). (get_or xs i e).value < x.value) (get_or_default ms (length ms - 1) (record { at = 0; value = 0 }) d n) z in
            let v : (get_or ms (length ms - 1) d).value ≤ (get_or ms k d).value = s.falls.value k (length ms - 1) d (omega (arith, h)) n in
            omega (arith, y, v)
      ]

  pub skipped : is_lowest ms (get_or xs i e) ≡ false → IsStepped xs (i + 1) ms
  skipped p =
      let q : ((length ms == 0) ≡ false) × (nat_lt (get_or xs i e).value (get_or ms (length ms - 1) (record { at = 0; value = 0 })).value ≡ false) =
      or_parts (length ms == 0) (nat_lt (get_or xs i e).value (get_or ms (length ms - 1) (record { at = 0; value = 0 })).value) p in
      let z : length ms ≡ 0 → ⊥ = eqb-false (length ms) 0 q.0 in
      let n : length ms - 1 < length ms = omega (arith, z) in
      let v : (get_or ms (length ms - 1) (record { at = 0; value = 0 })).value ≤ (get_or xs i e).value =
      ltb-false (get_or xs i e).value (get_or ms (length ms - 1) (record { at = 0; value = 0 })).value q.1 in
      record {
        same = same_more ms (asks_skipped ms (get_or xs i e) (record { at = 0; value = 0 }) (length ms - 1) n (all_beyond (length ms - 1) (record { at = 0; value = 0 }) n) v);
        falls = s.falls;
        far = λ a b d f h j m. s.far a b d f h (omega (arith, j)) m;
      }

pub if_ok : {A E : Type 0} (r : Result A E) (P Q : A → Type 0) → ((v : A) → P v → Q v) → IfOk r P → IfOk r Q
if_ok (Ok v) P Q f p = f v p
if_ok (Err e) P Q f p = tt
