-- Results follow a journal.
use Rattle.std.proofs.Common.{◌≡◌, ◌≢◌, ℕ, zero, suc, ◌+◌, ◌-◌, ◌<◌, ◌≤◌, inl, inr, ◌⊎◌, Bool, true, false, cond, not, ◌&&◌, ◌||◌, ◌==◌, List, [], ◌∷◌, length, take, slice_get, Some, None, Option, refl, ap, sym, ◌∙◌, subst, arith}
use Rattle.std.specs.Prelude.{nat_eq, nat_lt, is_some}
use Rattle.std.specs.Option.{option_map_or}
use Rattle.std.specs.List.{find, range_with_len}
use Rattle.std.proofs.lemmas.Bool.{eqb-true, ne_eqb, true≢false, lt-ltb, le-ltb}
use Rattle.std.proofs.lemmas.List.{length-take, take_all}
use Rattle.hib_base.proofs.Tables.{Tested, tested}
use Rattle.hib_journal.specs.Types.{Act, Reply, Entry}
use Rattle.hib_journal.specs.Sessions.{Journal, is_restart}
use Rattle.hib_journal.specs.Room.{add_once}
use Rattle.hib_journal.specs.Stamps.{names}
use Rattle.hib_journal.specs.Results as told
use Rattle.hib_journal.specs.Results.{Result, others, others_after, last_kept, kept_after, dropped}
use Rattle.hib_query_cache.specs.Ranked.{Kept, Ranked, result_of, used, with_result, dropped_for}
use Rattle.hib_query_cache.specs.Standing.{place, is_ahead, AreRanked, IsResults, results_after, IsAnswered}
use Rattle.hib_query_cache.proofs.Places as places
use Rattle.hib_query_cache.proofs.Places.{taken, flip, apart}

-- a query goes first, and the last one goes if there is no room
abbrev first : ℕ → Result → Ranked → List Kept
first q x r = (q, x) ∷ take (r.capacity - 1) (taken q r.kept)

with_result_first : (q : ℕ) (x : Result) (r : Ranked) → length r.kept ≤ r.capacity → with_result q x r ≡ first q x r
with_result_first q x r l = at (places.entry q r.kept)
  where
    at : places.Entry q r.kept → with_result q x r ≡ first q x r
    at (inl h) = rw (h.0, h.2) refl
    at (inr h) =
        let n : length (taken q r.kept) + 1 ≡ length r.kept = h.3 in
        let m : length (taken q r.kept) ≤ r.capacity - 1 = omega arith in
        rw h.1 (ap (λ es. (q, x) ∷ es) (sym (take_all (r.capacity - 1) (taken q r.kept) m)))

used_first : (q : ℕ) (x : Result) (r : Ranked) → length r.kept ≤ r.capacity → result_of q r.kept ≡ Some x → used q r.kept ≡ first q x r
used_first q x r l k = at (places.entry q r.kept)
  where
    at : places.Entry q r.kept → used q r.kept ≡ first q x r
    at (inl h) = absurd (cc)
    at (inr h) =
        let n : length (taken q r.kept) + 1 ≡ length r.kept = h.3 in
        let m : length (taken q r.kept) ≤ r.capacity - 1 = omega arith in
        let same : h.0 ≡ x = cc in
        rw h.1 (rw (take_all (r.capacity - 1) (taken q r.kept) m) (ap (λ y. (q, y) ∷ taken q r.kept) same))

used_absent : (q : ℕ) (r : Ranked) → result_of q r.kept ≡ None → used q r.kept ≡ r.kept
used_absent q r k = at (places.entry q r.kept)
  where
    at : places.Entry q r.kept → used q r.kept ≡ r.kept
    at (inl h) = rw h.0 refl
    at (inr h) = absurd (cc)

counted : (b c : Bool) (l lo pk pr : ℕ) → l ≡ lo + cond c 0 1 → c ≡ b → lo ≡ pk → pr + cond b 1 0 ≡ pk → l ≡ 1 + pr
counted true true l lo pk pr e f g h = omega arith
counted false false l lo pk pr e f g h = omega arith
counted true false l lo pk pr e f g h = absurd (true≢false (sym f))
counted false true l lo pk pr e f g h = absurd (true≢false f)

module _ (n : ℕ) (r : Ranked) (oth : ℕ → List ℕ) (lst : ℕ → Option Result) (stands : AreRanked n r oth lst) where
  used_others : ℕ → ℕ → List ℕ
  used_others q y = others_after y (Some q) (oth y)

  -- how many others a query has after its last use, after a use of q
  one_more : (q y : ℕ) (v : Result) → y ≢ q → result_of y r.kept ≡ Some v → length (add_once q (oth y)) ≡ 1 + place y (taken q r.kept)
  one_more q y v ne old =
      counted (is_ahead q y r.kept) (names q (oth y)) (length (add_once q (oth y))) (length (oth y)) (place y r.kept) (place y (taken q r.kept))
      (places.length-add_once q (oth y)) (stands.ahead y v old q) (stands.count y v old) (places.taken_place q y r.kept ne)

  pub goes_first : (q : ℕ) (x : Result) → q < n
      → AreRanked n (record r { kept = first q x r }) (λ y. others_after y (Some q) (oth y)) (λ y. cond (q == y) (Some x) (lst y))
  goes_first q x below = record {
    positive = stands.positive;
    bounded = within;
    distinct = (
      places.take_absent (r.capacity - 1) (taken q r.kept) q (places.taken_gone q r.kept stands.distinct),
      places.take_distinct (r.capacity - 1) (taken q r.kept) (places.taken_distinct q r.kept stands.distinct),
    );
    below = λ y v h. below_at y v (tested (nat_eq y q)) h;
    last = λ y v h. last_at y v (tested (nat_eq y q)) h;
    count = λ y v h. count_at y v (tested (nat_eq y q)) h;
    ahead = λ y v h p. ahead_at y v p (tested (nat_eq y q)) (tested (nat_eq p q)) h;
    gone = λ y h. gone_at y (tested (nat_eq y q)) h;
  }
    where
      rest : List Kept
      rest = take (r.capacity - 1) (taken q r.kept)

      within : length (first q x r) ≤ r.capacity
      within = let p : 0 < r.capacity = stands.positive in omega (arith, length-take (r.capacity - 1) (taken q r.kept))

      -- of another query that is left
      was : (y : ℕ) (v : Result) → nat_eq y q ≡ false → result_of y (first q x r) ≡ Some v → result_of y r.kept ≡ Some v
      was y v t h = sym (places.taken_other q y r.kept (apart y q t)) ∙ (places.take_found (r.capacity - 1) (taken q r.kept) y v (rw t at h)).0

      below_at : (y : ℕ) (v : Result) → Tested (nat_eq y q) → result_of y (first q x r) ≡ Some v → y < n
      below_at y v (inl t) h = subst (λ z. z < n) (sym (eqb-true y q t)) below
      below_at y v (inr t) h = stands.below y v (was y v t h)

      last_at : (y : ℕ) (v : Result) → Tested (nat_eq y q) → result_of y (first q x r) ≡ Some v → cond (q == y) (Some x) (lst y) ≡ Some v
      last_at y v (inl t) h = let g : Some x ≡ Some v = rw t at h in rw (flip y q true t) g
      last_at y v (inr t) h = rw (flip y q false t) (stands.last y v (was y v t h))

      count_at : (y : ℕ) (v : Result) → Tested (nat_eq y q) → result_of y (first q x r) ≡ Some v → length (others_after y (Some q) (oth y)) ≡ place y (first q x r)
      count_at y v (inl t) h = rw (flip y q true t, t) refl
      count_at y v (inr t) h =
          rw (flip y q false t, t) (one_more q y v (apart y q t) (was y v t h)
          ∙ ap (λ m. 1 + m) (sym (places.take_found (r.capacity - 1) (taken q r.kept) y v (rw t at h)).1))

      ahead_at : (y : ℕ) (v : Result) (p : ℕ) → Tested (nat_eq y q) → Tested (nat_eq p q) → result_of y (first q x r) ≡ Some v
          → names p (others_after y (Some q) (oth y)) ≡ is_ahead p y (first q x r)
      ahead_at y v p (inl t) u h = rw (flip y q true t, t) refl
      ahead_at y v p (inr t) (inl u) h = rw (flip y q false t, t, u) (places.names-add_once p q (oth y) ∙ ap (λ b. b || names p (oth y)) (flip p q true u))
      ahead_at y v p (inr t) (inr u) h =
          rw (flip y q false t, t, u) (places.names-add_once p q (oth y) ∙ ap (λ b. b || names p (oth y)) (flip p q false u)
          ∙ stands.ahead y v (was y v t h) p ∙ sym (places.taken_ahead q y p r.kept (apart y q t) (apart p q u))
          ∙ sym ((places.take_found (r.capacity - 1) (taken q r.kept) y v (rw t at h)).3 p))

      gone_at : (y : ℕ) → Tested (nat_eq y q) → result_of y (first q x r) ≡ None
          → (cond (q == y) (Some x) (lst y) ≡ None) ⊎ (r.capacity ≤ length (others_after y (Some q) (oth y)))
      gone_at y (inl t) h = let g : Some x ≡ None = rw t at h in absurd (cc)
      gone_at y (inr t) h = by_entry (result_of y r.kept) refl
        where
          g : result_of y (take (r.capacity - 1) (taken q r.kept)) ≡ None
          g = rw t at h

          by_entry : (o : Option Result) → result_of y r.kept ≡ o → (cond (q == y) (Some x) (lst y) ≡ None) ⊎ (r.capacity ≤ length (others_after y (Some q) (oth y)))
          by_entry None k = rw (flip y q false t) (by_gone (stands.gone y k))
            where
              by_gone : (lst y ≡ None) ⊎ (r.capacity ≤ length (oth y)) → (lst y ≡ None) ⊎ (r.capacity ≤ length (add_once q (oth y)))
              by_gone (inl e) = inl e
              by_gone (inr l) = inr (omega (arith, places.length-add_once q (oth y)))
          by_entry (Some v) k =
              let one : length (add_once q (oth y)) ≡ 1 + place y (taken q r.kept) = one_more q y v (apart y q t) k in
              let lost : r.capacity - 1 ≤ place y (taken q r.kept) =
              places.take_lost (r.capacity - 1) (taken q r.kept) y v g (places.taken_other q y r.kept (apart y q t) ∙ k) in
              rw (flip y q false t) (inr (omega arith))

  -- the result of a query, by how many others were used since
  pub answer : (q : ℕ) → result_of q r.kept ≡ cond (nat_lt (length (oth q)) r.capacity) (lst q) None
  answer q = by_entry (result_of q r.kept) refl
    where
      by_entry : (o : Option Result) → result_of q r.kept ≡ o → o ≡ cond (nat_lt (length (oth q)) r.capacity) (lst q) None
      by_entry None k = by_gone (stands.gone q k)
        where
          by_gone : (lst q ≡ None) ⊎ (r.capacity ≤ length (oth q)) → None ≡ cond (nat_lt (length (oth q)) r.capacity) (lst q) None
          by_gone (inl e) = both (nat_lt (length (oth q)) r.capacity)
            where
              both : (b : Bool) → None ≡ cond b (lst q) None
              both true = sym e
              both false = refl
          by_gone (inr l) = rw (le-ltb (length (oth q)) r.capacity l) refl
      by_entry (Some v) k =
          let c : length (oth q) ≡ place q r.kept = stands.count q v k in
          let w : place q r.kept < length r.kept = places.place_within q r.kept v k in
          let b : length r.kept ≤ r.capacity = stands.bounded in
          let l : length (oth q) < r.capacity = omega arith in
          rw (lt-ltb (length (oth q)) r.capacity l) (sym (stands.last q v k))

empty : (n capacity : ℕ) → 0 < capacity → AreRanked n (record { capacity = capacity; kept = [] }) (λ y. []) (λ y. None)
empty n capacity p = record {
  positive = p;
  bounded = omega arith;
  distinct = tt;
  below = λ y v h. absurd (cc);
  last = λ y v h. absurd (cc);
  count = λ y v h. absurd (cc);
  ahead = λ y v h p. absurd (cc);
  gone = λ y h. inl refl;
}

follow : (n : ℕ) (r : Ranked) (oth : ℕ → List ℕ) (lst : ℕ → Option Result) → AreRanked n r oth lst → (a : Act) (reply : Reply) → IsAnswered n r a reply
    → AreRanked n (results_after a reply r) (λ y. cond (is_restart a) [] (others_after y (told.used a reply) (oth y))) (λ y. kept_after y a (lst y))
follow n r oth lst stands (Act.Keep q t l) reply below =
    subst (λ es. AreRanked n (record r { kept = es }) (λ y. others_after y (Some q) (oth y)) (λ y. cond (q == y) (Some (t, l)) (lst y)))
    (sym (with_result_first q (t, l) r stands.bounded)) (goes_first n r oth lst stands q (t, l) below)
follow n r oth lst stands (Act.Look q) reply answered =
    by_result (result_of q r.kept) refl reply answered
  where
    by_result : (o : Option Result) → result_of q r.kept ≡ o → (reply : Reply) → reply ≡ option_map_or (λ x. Reply.Found x.0 x.1) (result_of q r.kept) Reply.Absent
        → AreRanked n (record r { kept = used q r.kept }) (λ y. others_after y (told.used (Act.Look q) reply) (oth y)) lst
    by_result None k reply e =
        let is : Reply.Absent ≡ reply = sym (e ∙ ap (λ (o : Option Result). option_map_or (λ r. Reply.Found r.0 r.1) o Reply.Absent) k) in
        subst (λ rep. AreRanked n (record r { kept = used q r.kept }) (λ y. others_after y (told.used (Act.Look q) rep) (oth y)) lst) is
        (subst (λ es. AreRanked n (record r { kept = es }) oth lst) (sym (used_absent q r k)) stands)
    by_result (Some x) k reply e =
        let is : Reply.Found x.0 x.1 ≡ reply = sym (e ∙ ap (λ (o : Option Result). option_map_or (λ r. Reply.Found r.0 r.1) o Reply.Absent) k) in
        subst (λ rep. AreRanked n (record r { kept = used q r.kept }) (λ y. others_after y (told.used (Act.Look q) rep) (oth y)) lst) is
        (subst (λ es. AreRanked n (record r { kept = es }) (λ y. others_after y (Some q) (oth y)) lst) (sym (used_first q x r stands.bounded k))
        (subst (λ f. AreRanked n (record r { kept = first q x r }) (λ y. others_after y (Some q) (oth y)) f) (λ i y. same y i)
        (goes_first n r oth lst stands q x (stands.below q x k))))
      where
        same : (y : ℕ) → cond (q == y) (Some x) (lst y) ≡ lst y
        same y = at (tested (q == y))
          where
            at : Tested (q == y) → cond (q == y) (Some x) (lst y) ≡ lst y
            at (inl t) = rw t (subst (λ z. Some x ≡ lst z) (eqb-true q y t) (sym (stands.last q x k)))
            at (inr t) = rw t refl
follow n r oth lst stands Act.Restart reply answered = empty n r.capacity stands.positive
follow n r oth lst stands _ reply answered = stands

pub followed : (queries : ℕ) (r : Ranked) (h : Journal) (e : Entry) → IsResults queries r h → IsAnswered queries r e.act e.reply
    → IsResults queries (results_after e.act e.reply r) (e ∷ h)
followed queries r h e stands answered = follow queries r (λ q. others q h) (λ q. last_kept q h) stands e.act e.reply answered

pub answers : (queries : ℕ) (r : Ranked) (h : Journal) → IsResults queries r h → (q : ℕ) → result_of q r.kept ≡ told.result r.capacity q h
unfolding told.result
answers queries r h stands q = answer queries r (λ q. others q h) (λ q. last_kept q h) stands q

-- the query that goes

find_none : (p : ℕ → Bool) (xs : List ℕ) → ((x : ℕ) → p x ≡ false) → find p xs ≡ None
find_none p [] h = refl
find_none p (x ∷ xs) h = rw (h x) (find_none p xs h)

find_one : (p : ℕ → Bool) (a m y : ℕ) → a ≤ y → y < a + m → p y ≡ true → ((x : ℕ) → x ≢ y → p x ≡ false) → find p (range_with_len a m) ≡ Some y
find_one p a zero y l u t others = absurd (omega arith)
find_one p a (suc m) y l u t others = at (tested (a == y)) (λ w. find_one p (a + 1) m y w (omega arith) t others)
  where
    at : Tested (a == y) → (a + 1 ≤ y → find p (range_with_len (a + 1) m) ≡ Some y) → find p (range_with_len a (suc m)) ≡ Some y
    at (inl e) f = let same : a ≡ y = eqb-true a y e in rw (subst (λ z. p z ≡ true) (sym same) t) (ap (λ z. Some z) same)
    at (inr e) f = let ne : a ≢ y = apart a y e in rw (others a ne) (f (omega arith))

module _ (n : ℕ) (r : Ranked) (oth : ℕ → List ℕ) (lst : ℕ → Option Result) (stands : AreRanked n r oth lst) (q : ℕ) where
  -- whether the result of p goes for one of q
  abbrev goes : ℕ → Bool
  goes p = is_some (cond (nat_lt (length (oth p)) r.capacity) (lst p) None) && not (nat_lt (length (others_after p (Some q) (oth p))) r.capacity)

  absent_stays : (p : ℕ) → result_of p r.kept ≡ None → goes p ≡ false
  absent_stays p k = rw (sym (answer n r oth lst stands p) ∙ k) refl

  and_false : (b : Bool) → b && false ≡ false
  and_false true = refl
  and_false false = refl

  itself_stays : (p : ℕ) → nat_eq p q ≡ true → goes p ≡ false
  itself_stays p t = rw (flip p q true t, lt-ltb 0 r.capacity stands.positive) (and_false (is_some (cond (nat_lt (length (oth p)) r.capacity) (lst p) None)))

  early_stays : (p : ℕ) → nat_eq p q ≡ false → length (add_once q (oth p)) < r.capacity → goes p ≡ false
  early_stays p t l = rw (flip p q false t, lt-ltb (length (add_once q (oth p))) r.capacity l) (and_false (is_some (cond (nat_lt (length (oth p)) r.capacity) (lst p) None)))

  -- if q is kept, nothing goes
  none_goes : (w : Result) → result_of q r.kept ≡ Some w → (p : ℕ) → goes p ≡ false
  none_goes w k p = at (tested (nat_eq p q)) (result_of p r.kept) refl (tested (is_ahead q p r.kept))
    where
      at : Tested (nat_eq p q) → (o : Option Result) → result_of p r.kept ≡ o → Tested (is_ahead q p r.kept) → goes p ≡ false
      at (inl t) o e a = itself_stays p t
      at (inr t) None e a = absent_stays p e
      at (inr t) (Some v) e a = early_stays p t (early a)
        where
          within : length r.kept ≤ r.capacity
          within = stands.bounded

          grown : length (add_once q (oth p)) ≡ length (oth p) + cond (is_ahead q p r.kept) 0 1
          grown = places.length-add_once q (oth p) ∙ ap (λ b. length (oth p) + cond b 0 1) (stands.ahead p v e q)

          early : Tested (is_ahead q p r.kept) → length (add_once q (oth p)) < r.capacity
          early (inl b) =
              let g : length (add_once q (oth p)) ≡ length (oth p) + 0 = rw b at grown in
              let c : length (oth p) ≡ place p r.kept = stands.count p v e in
              let w : place p r.kept < length r.kept = places.place_within p r.kept v e in
              omega arith
          early (inr b) =
              let g : length (add_once q (oth p)) ≡ length (oth p) + 1 = rw b at grown in
              let c : length (oth p) ≡ place p r.kept = stands.count p v e in
              let l : place p r.kept < place q r.kept = places.behind q p r.kept w v (apart p q t) k e b in
              let m : place q r.kept < length r.kept = places.place_within q r.kept w k in
              omega arith

  -- if q isn't kept, each result but the one at the last place stays
  other_stays : result_of q r.kept ≡ None → (p : ℕ) → ((v : Result) → result_of p r.kept ≡ Some v → place p r.kept ≡ r.capacity - 1 → ⊥) → goes p ≡ false
  other_stays k p elsewhere = at (tested (nat_eq p q)) (result_of p r.kept) refl
    where
      at : Tested (nat_eq p q) → (o : Option Result) → result_of p r.kept ≡ o → goes p ≡ false
      at (inl t) o e = itself_stays p t
      at (inr t) None e = absent_stays p e
      at (inr t) (Some v) e =
          let g : length (add_once q (oth p)) ≡ length (oth p) + 1 =
          places.length-add_once q (oth p) ∙ ap (λ b. length (oth p) + cond b 0 1) (stands.ahead p v e q ∙ places.absent_not_ahead q p r.kept k) in
          let c : length (oth p) ≡ place p r.kept = stands.count p v e in
          let w : place p r.kept < length r.kept = places.place_within p r.kept v e in
          let b : length r.kept ≤ r.capacity = stands.bounded in
          let ne : place p r.kept ≢ r.capacity - 1 = elsewhere v e in
          early_stays p t (omega arith)

  last_goes : result_of q r.kept ≡ None → (e : Kept) → slice_get r.kept (r.capacity - 1) ≡ Some e → goes e.0 ≡ true
  last_goes k e h =
      let o : (place e.0 r.kept ≡ r.capacity - 1) × (result_of e.0 r.kept ≡ Some e.1) = places.place_of r.kept (r.capacity - 1) e stands.distinct h in
      let ne : nat_eq e.0 q ≡ false = ne_eqb e.0 q (λ s. none_some (sym k ∙ subst (λ y. result_of y r.kept ≡ Some e.1) s o.1)) in
      let at : place e.0 r.kept ≡ r.capacity - 1 = o.0 in
      let g : length (add_once q (oth e.0)) ≡ length (oth e.0) + 1 =
      places.length-add_once q (oth e.0) ∙ ap (λ b. length (oth e.0) + cond b 0 1) (stands.ahead e.0 e.1 o.1 q ∙ places.absent_not_ahead q e.0 r.kept k) in
      let c : length (oth e.0) ≡ place e.0 r.kept = stands.count e.0 e.1 o.1 in
      let pos : 0 < r.capacity = stands.positive in
      rw (flip e.0 q false ne, sym (answer n r oth lst stands e.0) ∙ o.1, le-ltb (length (add_once q (oth e.0))) r.capacity (omega arith)) refl
    where
      none_some : {x : Result} → None ≡ Some x → ⊥
      none_some {x} h = absurd (cc)

  pub goes_first_found : dropped_for q r ≡ find goes (range_with_len 0 n)
  goes_first_found = by_entry (result_of q r.kept) refl (slice_get r.kept (r.capacity - 1)) refl
    where
      by_entry : (o : Option Result) → result_of q r.kept ≡ o → (l : Option Kept) → slice_get r.kept (r.capacity - 1) ≡ l → dropped_for q r ≡ find goes (range_with_len 0 n)
      by_entry (Some w) k l h = rw k (sym (find_none goes (range_with_len 0 n) (none_goes w k)))
      by_entry None k None h =
          rw (k, h) (sym (find_none goes (range_with_len 0 n) (λ p. other_stays k p (λ v e s.
          none_some (sym h ∙ subst (λ i. slice_get r.kept i ≡ Some (p, v)) s (places.at_place p r.kept v e))))))
        where
          none_some : {x : Kept} → None ≡ Some x → ⊥
          none_some {x} h = absurd (cc)
      by_entry None k (Some e) h =
          let o : (place e.0 r.kept ≡ r.capacity - 1) × (result_of e.0 r.kept ≡ Some e.1) = places.place_of r.kept (r.capacity - 1) e stands.distinct h in
          let below : e.0 < n = stands.below e.0 e.1 o.1 in
          rw (k, h) (sym (find_one goes 0 n e.0 (omega arith) (omega arith) (last_goes k e h)
          (λ p ne. other_stays k p (λ v f s. ne (same (sym (subst (λ i. slice_get r.kept i ≡ Some (p, v)) s (places.at_place p r.kept v f)) ∙ h))))))
        where
          same : {a b : Kept} → Some a ≡ Some b → a.0 ≡ b.0
          same {a} {b} h = let t : a ≡ b = cc in ap (λ y. y.0) t

pub names_dropped : (queries : ℕ) (r : Ranked) (h : Journal) → IsResults queries r h → (q : ℕ) → dropped_for q r ≡ dropped r.capacity queries q h
unfolding dropped told.result
names_dropped queries r h stands q = goes_first_found queries r (λ q. others q h) (λ q. last_kept q h) stands q
