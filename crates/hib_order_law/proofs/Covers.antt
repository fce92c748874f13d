-- Of two runs that begin alike, and of which the first kills no session after that, one is the other, or it begins as another order of that
-- one does.
use Rattle.std.specs.Prelude.{not, ◌&&◌, ◌||◌, ◌==◌, length}
use Rattle.std.proofs.Common.{◌≡◌, ◌+◌, ◌≤◌, ◌⊎◌, ℕ, zero, suc, inl, inr, Bool, true, false, cond, List, [], ◌∷◌, refl, sym, ap, ◌∙◌, subst, arith}
use Rattle.std.proofs.lemmas.Bool.{false≢true}
use Rattle.hib_base.specs.Tables.{Tables}
use Rattle.hib_base.proofs.Tables.{Tested, tested}
use Rattle.hib_journal.specs.Types.{Script, Entry}
use Rattle.hib_journal.specs.Sessions.{Journal}
use Rattle.hib_journal.specs.Played.{has_next}
use Rattle.hib_order_law.specs.Orders.{IsUndisturbed, comes, is_kill_step, is_unkilled, kills, onto, same_step, step_of, steps_in, begins, IsOther, IsRun, cost, switches, whose}
use Rattle.hib_order_law.specs.declared.step.Step.{Step}
use Rattle.hib_order_law.proofs.Begun.{Begins, and_left, and_right, begins_so, so_begins, step_is}
use Rattle.hib_order_law.proofs.Made.{not_true, order_decides}
use Rattle.hib_order_law.proofs.Later.{base, has_comes, head_due, head_has, is_free, later}

pub heads : {A : Type 0} {x y : A} {xs ys : List A} → x ∷ xs ≡ y ∷ ys → x ≡ y
heads e = cc

-- what begins another order kills no more often
few_kills : (most_kills : ℕ) (other order : List Step) → Begins other order → kills order ≤ most_kills → kills other ≤ most_kills
few_kills most_kills other order b l = below (kills other) (kills order) (fewer other order b) l
  where
    below : (x y : ℕ) → x ≤ y → y ≤ most_kills → x ≤ most_kills
    below x y p q = omega arith

    fewer : (xs ys : List Step) → Begins xs ys → kills xs ≤ kills ys
    fewer [] ys c = omega arith
    fewer (x ∷ xs) [] c = absurd c
    fewer (x ∷ xs) (y ∷ ys) c = more (cond (is_kill_step x) 1 0) (cond (is_kill_step y) 1 0) (kills xs) (kills ys) (ap (λ t. cond (is_kill_step t) 1 0) c.0) (fewer xs ys c.1)
      where
        more : (a b k l : ℕ) → a ≡ b → k ≤ l → a + k ≤ b + l
        more a b k l p q = omega arith

module _ (script : Script) (start : Tables) where
  -- over the same journal two entries are one if their steps are
  pub same_head : (h : Journal) (a b : Entry) → IsUndisturbed script start (a ∷ h) → IsUndisturbed script start (b ∷ h) → step_of a ≡ step_of b → a ≡ b
  same_head h a b u v s = heads (order_decides script start (a ∷ h) (b ∷ h) u v (ap (λ t. t ∷ steps_in h) s))

  abbrev Covered : Journal → ℕ → List Entry → List Entry → Type 0
  Covered h n es ds = (es ≡ ds) ⊎ ((other : List Step) × IsOther script h n es other × Begins other (steps_in ds))

  -- both go on from a journal, and are over
  record Goes (h : Journal) (es : List Entry) : Type 0 where
    whole : IsUndisturbed script start (onto es h)
    over : (s : ℕ) → has_next script (onto es h) s ≡ false

  step_on : (e : Entry) (h : Journal) (es : List Entry) → Goes h (e ∷ es) → Goes (e ∷ h) es
  step_on e h es g = record { whole = g.whole; over = g.over }

  first : (e : Entry) (h : Journal) (es : List Entry) → Goes h (e ∷ es) → IsUndisturbed script start (e ∷ h)
  first e h es g = base script start es (e ∷ h) g.whole

  -- over a journal at whose end nothing is due, no step is a session's own
  none_own : (e : Entry) (h : Journal) (es : List Entry) → Goes h (e ∷ es) → is_kill_step (step_of e) ≡ false → Goes h [] → ⊥
  none_own e h es g k f = false≢true (sym (f.over (whose (step_of e))) ∙ head_has script start e h (first e h es g) k)

  add : (h : Journal) (n m : ℕ) (e : Entry) (es ds : List Entry) →
      ((other : List Step) → IsOther script (e ∷ h) n es other → IsOther script h m (e ∷ es) (step_of e ∷ other)) →
      Covered (e ∷ h) n es ds → Covered h m (e ∷ es) (e ∷ ds)
  add h n m e es ds f (inl p) = inl (ap (λ l. e ∷ l) p)
  add h n m e es ds f (inr x) = inr (step_of e ∷ x.0, f x.0 x.1, (refl, x.2))

  free : (h : Journal) (es ds : List Entry) → Goes h es → Goes h ds → is_free (steps_in es) ≡ true → Covered h zero es ds
  free h [] [] g f k = inl refl
  free h [] (d ∷ ds) g f k = inr (step_of d ∷ [], (refl, head_due script start d h (first d h ds f)), (refl, tt))
  free h (e ∷ es) [] g f k = absurd (none_own e h es g (not_true (is_kill_step (step_of e)) (and_left (not (is_kill_step (step_of e))) (is_free (steps_in es)) k)) f)
  free h (e ∷ es) (d ∷ ds) g f k =
      by (tested (same_step (step_of e) (step_of d))) (λ there. free (e ∷ h) es ds (step_on e h es g) there (and_right (not (is_kill_step (step_of e))) (is_free (steps_in es)) k))
    where
      by : Tested (same_step (step_of e) (step_of d)) → (Goes (e ∷ h) ds → Covered (e ∷ h) zero es ds) → Covered h zero (e ∷ es) (d ∷ ds)
      by (inl p) i =
          let same : e ≡ d = same_head h e d (first e h es g) (first d h ds f) (step_is (step_of e) (step_of d) p) in
          subst (λ x. Covered h zero (e ∷ es) (x ∷ ds)) same
          (add h zero zero e es ds (λ other o. inl (refl, o)) (i (subst (λ x. Goes (x ∷ h) ds) (sym same) (step_on d h ds f))))
      by (inr p) i = inr (step_of d ∷ [], inr (refl, p, head_due script start d h (first d h ds f)), (refl, tt))

  covers : (begun : List Step) (h : Journal) (es ds : List Entry) → Goes h es → Goes h ds → is_unkilled (length begun) (steps_in es) ≡ true → Begins begun (steps_in es) →
      Begins begun (steps_in ds) → Covered h (length begun) es ds
  covers [] h es ds g f k b c = free h es ds g f k
  covers (s ∷ begun) h [] ds g f k b c = absurd b
  covers (s ∷ begun) h (e ∷ es) [] g f k b c = absurd c
  covers (s ∷ begun) h (e ∷ es) (d ∷ ds) g f k b c =
      let same : e ≡ d = same_head h e d (first e h es g) (first d h ds f) (sym b.0 ∙ c.0) in
      subst (λ x. Covered h (length (s ∷ begun)) (e ∷ es) (x ∷ ds)) same
      (add h (length begun) (suc (length begun)) e es ds (λ other o. (refl, o))
      (covers begun (e ∷ h) es ds (step_on e h es g) (subst (λ x. Goes (x ∷ h) ds) (sym same) (step_on d h ds f)) k b.1 c.1))

  -- what the first steps cost

  -- what comes in the one comes in the other
  both_come : (begun : List Step) (h : Journal) (es ds : List Entry) (s : ℕ) → Goes h es → Goes h ds → is_unkilled (length begun) (steps_in es) ≡ true →
      Begins begun (steps_in es) → Begins begun (steps_in ds) → comes s (steps_in es) ≡ true → comes s (steps_in ds) ≡ true
  both_come [] h es ds s g f k b c x = has_comes script start ds h s f.whole (f.over s) (later script start es h s g.whole k (g.over s) ∙ x)
  both_come (t ∷ begun) h [] ds s g f k b c x = absurd b
  both_come (t ∷ begun) h (e ∷ es) [] s g f k b c x = absurd c
  both_come (t ∷ begun) h (e ∷ es) (d ∷ ds) s g f k b c x =
      let same : e ≡ d = same_head h e d (first e h es g) (first d h ds f) (sym b.0 ∙ c.0) in
      by (tested (whose (step_of e) == s)) (sym b.0 ∙ c.0) x
      (both_come begun (e ∷ h) es ds s (step_on e h es g) (subst (λ x. Goes (x ∷ h) ds) (sym same) (step_on d h ds f)) k b.1 c.1)
    where
      by : Tested (whose (step_of e) == s) → step_of e ≡ step_of d → ((whose (step_of e) == s) || comes s (steps_in es)) ≡ true →
          (comes s (steps_in es) ≡ true → comes s (steps_in ds) ≡ true) → ((whose (step_of d) == s) || comes s (steps_in ds)) ≡ true
      by (inl p) q x i = rw (sym (ap (λ t. whose t == s) q) ∙ p) refl
      by (inr p) q x i = rw (sym (ap (λ t. whose t == s) q) ∙ p) (i (subst (λ v. (v || comes s (steps_in es)) ≡ true) p x))

  -- that the first step is shared, and how the rest goes on
  record Shares (h : Journal) (e : Entry) (es ds : List Entry) (t : Step) (other : List Step) : Type 0 where
    step : step_of e ≡ t
    begun : List Step
    more : IsOther script (e ∷ h) (length begun) es other
    free_after : is_unkilled (length begun) (steps_in es) ≡ true
    begins_here : Begins begun (steps_in es)
    begins_there : Begins begun (steps_in ds)

  shares : (begun : List Step) (h : Journal) (e d : Entry) (es ds : List Entry) (t u : Step) (ts : List Step) → IsOther script h (length begun) (e ∷ es) (t ∷ u ∷ ts) →
      is_unkilled (length begun) (steps_in (e ∷ es)) ≡ true → Begins begun (steps_in (e ∷ es)) → Begins begun (steps_in (d ∷ ds)) → Shares h e es ds t (u ∷ ts)
  shares [] h e d es ds t u ts (inl o) k b c =
      record { step = o.0; begun = []; more = o.1; free_after = and_right (not (is_kill_step (step_of e))) (is_free (steps_in es)) k; begins_here = tt; begins_there = tt }
  shares [] h e d es ds t u ts (inr o) k b c = absurd (not_nil o.0)
    where
      not_nil : ◌≡◌ {A = List Step} (u ∷ ts) [] → ⊥
      not_nil q = cc
  shares (s ∷ begun) h e d es ds t u ts o k b c = record { step = o.0; begun = begun; more = o.1; free_after = k; begins_here = b.1; begins_there = c.1 }

  -- a step that is left in the one is left in the other
  left : (s t u v : Step) (ss vs : List Step) (x y : ℕ) → t ≡ s → u ≡ v → (comes (whose t) ss ≡ true → ((whose v == whose t) || comes (whose t) vs) ≡ true) → x ≤ y →
      cond (not (whose u == whose t) && comes (whose t) ss) 1 0 + x ≤ cond (not (whose v == whose s) && comes (whose s) vs) 1 0 + y
  left s t u v ss vs x y p q c l =
      subst (λ i. cond (not (whose u == whose t) && comes (whose t) ss) 1 0 + x ≤ cond (not (whose v == whose i) && comes (whose i) vs) 1 0 + y) p
      (subst (λ i. cond (not (whose i == whose t) && comes (whose t) ss) 1 0 + x ≤ cond (not (whose v == whose t) && comes (whose t) vs) 1 0 + y) (sym q)
      (by (whose v == whose t) (comes (whose t) ss) (comes (whose t) vs) c))
    where
      by : (n a b : Bool) → (a ≡ true → (n || b) ≡ true) → cond (not n && a) 1 0 + x ≤ cond (not n && b) 1 0 + y
      by true a b f = omega arith
      by false false true f = omega arith
      by false false false f = omega arith
      by false true true f = omega arith
      by false true false f = absurd (false≢true (f refl))

  costs : (begun other : List Step) (h : Journal) (es ds : List Entry) → Goes h es → Goes h ds → is_unkilled (length begun) (steps_in es) ≡ true → Begins begun (steps_in es) →
      Begins begun (steps_in ds) → IsOther script h (length begun) es other → Begins other (steps_in ds) → cost (steps_in es) other ≤ switches (steps_in ds)
  costs begun [] h es ds g f k b c o x = omega arith
  costs begun (t ∷ []) h [] ds g f k b c o x = omega arith
  costs begun (t ∷ []) h (e ∷ es) ds g f k b c o x = omega arith
  costs begun (t ∷ u ∷ ts) h [] ds g f k b c o x = omega arith
  costs begun (t ∷ u ∷ ts) h (e ∷ es) [] g f k b c o x = absurd x
  costs begun (t ∷ u ∷ ts) h (e ∷ es) (d ∷ []) g f k b c o x = absurd x.1
  costs begun (t ∷ u ∷ ts) h (e ∷ es) (d ∷ q ∷ ds) g f k b c o x =
      let s : Shares h e es (q ∷ ds) t (u ∷ ts) = shares begun h e d es (q ∷ ds) t u ts o k b c in
      let same : e ≡ d = same_head h e d (first e h es g) (first d h (q ∷ ds) f) (s.step ∙ x.0) in
      let there : Goes (e ∷ h) (q ∷ ds) = subst (λ x. Goes (x ∷ h) (q ∷ ds)) (sym same) (step_on d h (q ∷ ds) f) in
      let more : cost (steps_in es) (u ∷ ts) ≤ switches (steps_in (q ∷ ds)) =
      costs s.begun (u ∷ ts) (e ∷ h) es (q ∷ ds) (step_on e h es g) there s.free_after s.begins_here s.begins_there s.more x.1 in
      left (step_of d) t u (step_of q) (steps_in es) (steps_in ds) (cost (steps_in es) (u ∷ ts)) (switches (steps_in (q ∷ ds))) x.0 x.1.0
      (both_come s.begun (e ∷ h) es (q ∷ ds) (whose t) (step_on e h es g) there s.free_after s.begins_here s.begins_there) more

  -- of two runs that begin so, one is the other, or it begins as another order of that one does
  abbrev pub IsCovered : ℕ → ℕ → List Entry → List Entry → Type 0
  IsCovered most_kills n es ds =
      (es ≡ ds) ⊎ ((other : List Step) × IsOther script [] n es other × (begins other (steps_in ds) ≡ true) × (kills other ≤ most_kills)
      × (cost (steps_in es) other ≤ switches (steps_in ds)))

  pub runs_covered : (most_kills : ℕ) (begun : List Step) (es ds : List Entry) → IsRun script start most_kills es → IsRun script start most_kills ds →
      is_unkilled (length begun) (steps_in es) ≡ true → begins begun (steps_in es) ≡ true → begins begun (steps_in ds) ≡ true → IsCovered most_kills (length begun) es ds
  runs_covered most_kills begun es ds r q k b c = told (covers begun [] es ds g f k here there)
    where
      g : Goes [] es
      g = record { whole = r.undisturbed; over = r.over }

      f : Goes [] ds
      f = record { whole = q.undisturbed; over = q.over }

      here : Begins begun (steps_in es)
      here = begins_so begun (steps_in es) b

      there : Begins begun (steps_in ds)
      there = begins_so begun (steps_in ds) c

      told : Covered [] (length begun) es ds → IsCovered most_kills (length begun) es ds
      told (inl p) = inl p
      told (inr x) =
          inr (x.0, x.1, so_begins x.0 (steps_in ds) x.2, few_kills most_kills x.0 (steps_in ds) x.2 q.few_kills, costs begun x.0 [] es ds g f k here there x.1 x.2)
