-- A run that goes on by the definition of what is played.
use Rattle.std.specs.Prelude.{option_and_then, slice_get}
use Rattle.std.specs.Option.{option_map_or}
use Rattle.std.specs.List.{range_with_len}
use Rattle.std.proofs.Common.{◌≡◌, ◌≢◌, ℕ, zero, suc, ◌+◌, ◌-◌, ◌<◌, ◌≤◌, ◌==◌, add-one, Bool, true, false, List, [], ◌∷◌, ◌++◌, reverse, drop, length, append_assoc, append-nil, Some, Option, refl, sym, ap, ◌∙◌, subst, arith}
use Rattle.std.proofs.lemmas.Bool.{true≢false, eqb-true, eq-eqb}
use Rattle.std.proofs.lemmas.List.{reverse-append, reverse-reverse, drop_all}
use Rattle.hib_playing.specs.Playing.{Playing, Play, GoesOn, Leads, is_all, play_all, play_each, play_steps, play_then, played, plays}

module _ {E : Type 0} where
  pub leads_none : (all left : Play E) (h : List E) → ((rest : List E) → all h rest ≡ left h rest) → Leads all left h h
  leads_none all left h f = record { added = []; grown = refl; plays = f }

  pub leads_on : (a b c : Play E) (old mid new : List E) → Leads a b old mid → Leads b c mid new → Leads a c old new
  leads_on a b c old mid new x y = record {
    added = x.added ++ y.added;
    grown = y.grown ∙ (ap (λ m. reverse y.added ++ m) x.grown
        ∙ (sym (append_assoc (reverse y.added) (reverse x.added) old) ∙ ap (λ r. r ++ old) (sym (reverse-append x.added y.added))));
    plays = λ rest. ap (a old) (append_assoc x.added y.added rest) ∙ (x.plays (y.added ++ rest) ∙ y.plays rest);
  }

  -- ---- a list that has gone on

  pub goes_by : (p q : Play E) (old new : List E) → Leads p q old new → GoesOn old new
  goes_by p q old new w = (reverse w.added, w.grown)

  pub goes_then : (old mid new : List E) → GoesOn old mid → GoesOn mid new → GoesOn old new
  goes_then old mid new a b = (b.0 ++ a.0, b.1 ∙ (ap (λ m. b.0 ++ m) a.1 ∙ sym (append_assoc b.0 a.0 old)))

  pub goes_same : (old new : List E) → new ≡ old → GoesOn old new
  goes_same old new e = ([], e)

  pub goes_one : (old new : List E) (x : E) → new ≡ x ∷ old → GoesOn old new
  goes_one old new x e = (x ∷ [], e)

  -- ---- one piece after the other

  pub then_leads : (p q : Play E) (old mid new : List E) → Leads p played old mid → Leads q played mid new → Leads (play_then p q) played old new
  then_leads p q old mid new x y = leads_on (play_then p q) q played old mid new (bound p q old mid x) y
    where
      bound : (p q : Play E) (old mid : List E) → Leads p played old mid → Leads (play_then p q) q old mid
      bound p q old mid w = record { added = w.added; grown = w.grown; plays = λ rest. ap (λ (o : Option (Playing E)). option_and_then (λ x. q x.0 x.1) o) (w.plays rest) }

  -- all of it
  pub all_played : (p : Play E) (h : List E) → Leads p played [] h → plays p h ≡ true
  all_played p h z = ap (λ (o : Option (Playing E)). option_map_or is_all o false) (ap (p []) at_once ∙ z.plays [])
    where
      at_once : reverse h ≡ z.added ++ []
      at_once = ap reverse (z.grown ∙ append-nil (reverse z.added)) ∙ (reverse-reverse z.added ∙ sym (append-nil z.added))

-- ---- a piece for each

module _ {E A : Type 0} (f : A → Play E) where
  first_leads : (x : A) (xs : List A) (mid new : List E) → Leads (f x) played mid new → Leads (play_each f (x ∷ xs)) (play_each f xs) mid new
  first_leads x xs mid new w =
      record { added = w.added; grown = w.grown; plays = λ rest. ap (λ (o : Option (Playing E)). option_and_then (λ p. play_each f xs p.0 p.1) o) (w.plays rest) }

  drop_at : (xs : List A) (i : ℕ) (x : A) → slice_get xs i ≡ Some x → drop i xs ≡ x ∷ drop (suc i) xs
  drop_at [] i x e = absurd (cc)
  drop_at (y ∷ xs) zero x e = let s : y ≡ x = cc in rw s refl
  drop_at (y ∷ xs) (suc i) x e = drop_at xs i x e

  -- the pieces of the first i, and one more
  pub each_more : (xs : List A) (i : ℕ) (x : A) (all : Play E) (old mid new : List E) → slice_get xs i ≡ Some x →
      Leads all (play_each f (drop i xs)) old mid → Leads (f x) played mid new → Leads all (play_each f (drop (i + 1) xs)) old new
  each_more xs i x all old mid new e v w = rw add-one
      (leads_on all (play_each f (drop i xs)) (play_each f (drop (suc i) xs)) old mid new v
      (subst (λ ys. Leads (play_each f ys) (play_each f (drop (suc i) xs)) mid new) (sym (drop_at xs i x e)) (first_leads x (drop (suc i) xs) mid new w)))

  pub each_done : (xs : List A) (n : ℕ) (all : Play E) (old new : List E) → length xs ≤ n → Leads all (play_each f (drop n xs)) old new → Leads all played old new
  each_done xs n all old new e v =
      leads_on all (play_each f []) played old new new (subst (λ ys. Leads all (play_each f ys) old new) (drop_all n xs e) v)
      (leads_none (play_each f []) played new (λ rest. refl))

module _ {E : Type 0} (f : ℕ → Play E) where
  -- the pieces of the numbers below s, and one more
  pub numbers_more : (s n : ℕ) (all : Play E) (old mid new : List E) → s < n →
      Leads all (play_each f (range_with_len s (n - s))) old mid → Leads (f s) played mid new → Leads all (play_each f (range_with_len (s + 1) (n - (s + 1)))) old new
  numbers_more s n all old mid new l x y =
      let e : n - s ≡ suc (n - (s + 1)) = omega (arith, l) in
      leads_on all (play_each f (range_with_len s (n - s))) (play_each f (range_with_len (s + 1) (n - (s + 1)))) old mid new x
      (subst (λ m. Leads (play_each f (range_with_len s m)) (play_each f (range_with_len (s + 1) (n - (s + 1)))) mid new) (sym e)
      (first_leads f s (range_with_len (s + 1) (n - (s + 1))) mid new y))

  pub numbers_done : (s n : ℕ) (all : Play E) (old new : List E) → n ≤ s → Leads all (play_each f (range_with_len s (n - s))) old new → Leads all played old new
  numbers_done s n all old new l x =
      let e : n - s ≡ 0 = omega (arith, l) in
      leads_on all (play_each f []) played old new new (subst (λ m. Leads all (play_each f (range_with_len s m)) old new) e x)
      (leads_none (play_each f []) played new (λ rest. refl))

-- ---- steps

module _ {E : Type 0} (due : List E → ℕ → Bool) (by : ℕ → E → Bool) where
  goes : (s n : ℕ) (h rest : List E) (x : E) → due h s ≡ true → by s x ≡ true → play_steps due by s (suc n) h (x ∷ rest) ≡ play_steps due by s n (x ∷ h) rest
  goes s n h rest x p q = rw (p, q) refl

  step_leads : (s n : ℕ) (h : List E) (x : E) → due h s ≡ true → by s x ≡ true → Leads (play_steps due by s (suc n)) (play_steps due by s n) h (x ∷ h)
  step_leads s n h x p q = record { added = x ∷ []; grown = refl; plays = λ rest. goes s n h rest x p q }

  all_leads : (s : ℕ) (h : List E) (x : E) → due h s ≡ true → by s x ≡ true → Leads (play_all due by s) (play_all due by s) h (x ∷ h)
  all_leads s h x p q = record { added = x ∷ []; grown = refl; plays = λ rest. goes s (suc (length rest)) h rest x p q }

  -- and none
  no_step : (s n : ℕ) (h : List E) → due h s ≡ false → (rest : List E) → play_steps due by s n h rest ≡ Some (h, rest)
  no_step s zero h p rest = refl
  no_step s (suc n) h p rest = rw p refl

  pub none_leads : (s n : ℕ) (h : List E) → due h s ≡ false → Leads (play_steps due by s n) played h h
  none_leads s n h p = leads_none (play_steps due by s n) played h (no_step s n h p)

  -- so many steps

  pub steps_more : (s i : ℕ) (old mid new : List E) (x : E) → ((n : ℕ) → Leads (play_steps due by s (i + n)) (play_steps due by s n) old mid) →
      new ≡ x ∷ mid → due mid s ≡ true → by s x ≡ true → (n : ℕ) → Leads (play_steps due by s (i + 1 + n)) (play_steps due by s n) old new
  steps_more s i old mid new x f g d b n =
      let e : i + suc n ≡ i + 1 + n = omega arith in
      subst (λ j. Leads (play_steps due by s (i + 1 + n)) (play_steps due by s n) old j) (sym g)
      (leads_on (play_steps due by s (i + 1 + n)) (play_steps due by s (suc n)) (play_steps due by s n) old mid (x ∷ mid)
      (subst (λ m. Leads (play_steps due by s m) (play_steps due by s (suc n)) old mid) e (f (suc n)))
      (step_leads s n mid x d b))

  pub steps_over : (s i n : ℕ) (old mid new : List E) → i ≤ n → ((m : ℕ) → Leads (play_steps due by s (i + m)) (play_steps due by s m) old mid) →
      new ≡ mid → due new s ≡ false → Leads (play_steps due by s n) played old new
  steps_over s i n old mid new l f same over =
      let e : i + (n - i) ≡ n = omega (arith, l) in
      subst (λ j. Leads (play_steps due by s n) played old j) (sym same)
      (leads_on (play_steps due by s n) (play_steps due by s (n - i)) played old mid mid
      (subst (λ m. Leads (play_steps due by s m) (play_steps due by s (n - i)) old mid) e (f (n - i)))
      (none_leads s (n - i) mid (subst (λ j. due j s ≡ false) same over)))

  pub steps_done : (s i n : ℕ) (old new : List E) → i ≤ n → n ≤ i → ((m : ℕ) → Leads (play_steps due by s (i + m)) (play_steps due by s m) old new) → Leads (play_steps due by s n) played old new
  steps_done s i n old new l k f =
      let e : i + 0 ≡ n = omega (arith, l, k) in
      leads_on (play_steps due by s n) (play_steps due by s 0) played old new new
      (subst (λ m. Leads (play_steps due by s m) (play_steps due by s 0) old new) e (f 0)) (leads_none (play_steps due by s 0) played new (λ rest. refl))

  -- to the end

  pub all_more : (s : ℕ) (old mid new : List E) (x : E) → Leads (play_all due by s) (play_all due by s) old mid →
      new ≡ x ∷ mid → due mid s ≡ true → by s x ≡ true → Leads (play_all due by s) (play_all due by s) old new
  all_more s old mid new x w g d b = subst (λ j. Leads (play_all due by s) (play_all due by s) old j) (sym g)
      (leads_on (play_all due by s) (play_all due by s) (play_all due by s) old mid (x ∷ mid) w (all_leads s mid x d b))

  pub all_over : (s : ℕ) (old mid new : List E) → Leads (play_all due by s) (play_all due by s) old mid → new ≡ mid → due new s ≡ false → Leads (play_all due by s) played old new
  all_over s old mid new w same over = subst (λ j. Leads (play_all due by s) played old j) (sym same)
      (leads_on (play_all due by s) (play_all due by s) played old mid mid w
      (leads_none (play_all due by s) played mid (λ rest. no_step s (suc (length rest)) mid (subst (λ j. due j s ≡ false) same over) rest)))

  -- those so far are at their end, and so is one more
  pub over_more : (n : ℕ) (mid new : List E) → ((s : ℕ) → s < n → due mid s ≡ false) → due new n ≡ false →
      ((s : ℕ) → (n == s) ≡ false → due new s ≡ due mid s) → (s : ℕ) → s < n + 1 → due new s ≡ false
  over_more n mid new f o g s l = by_test (n == s) refl
    where
      by_test : (b : Bool) → (n == s) ≡ b → due new s ≡ false
      by_test true p = let e : n ≡ s = eqb-true n s p in subst (λ m. due new m ≡ false) e o
      by_test false p = let d : n ≢ s = λ e. true≢false (sym (eq-eqb n s e) ∙ p) in g s p ∙ f s (omega (arith, l, d))
