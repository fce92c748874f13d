-- Who holds the lock of a read-write key: an open session exactly if its own entries say so, and once.
use Rattle.std.specs.Prelude.{option_to_list, ◌++◌}
use Rattle.std.specs.Option.{option_map_or}
use Rattle.std.proofs.Common.{◌≡◌, ℕ, suc, ◌≤◌, inl, inr, Bool, true, false, cond, ◌&&◌, ◌==◌, List, [], ◌∷◌, Some, None, Option, refl, ap, sym, ◌∙◌, subst, arith, eq-eqb}
use Rattle.std.proofs.lemmas.Bool.{true≢false, false≢true, eqb-true}
use Rattle.hib_journal.specs.Types.{Key, Strategy, Script, Act}
use Rattle.hib_base.specs.Tables.{Tables}
use Rattle.hib_journal.specs.Sessions.{Journal, is_by, is_session, own, is_open, is_restart}
use Rattle.hib_journal.specs.Held.{is_begin}
use Rattle.hib_journal.specs.Next.{strategy}
use Rattle.hib_journal.specs.Legal.{IsLegal}
use Rattle.hib_journal.specs.Coherence.{holders, takes, gives_back, remove}
use Rattle.hib_base.proofs.Tables.{Tested, tested}
use Rattle.hib_journal.proofs.Sessions.{is_some_session}
use Rattle.hib_law.proofs.Guarded.{In}
use Rattle.hib_law.proofs.Coherent.{open_before, closed}
use Rattle.hib_law.proofs.Working.{Allowed, holds, holds_after}
use Rattle.hib_law.proofs.Blocks.{AreAllowed, are_allowed}

-- how often a session stands in a list

abbrev pub count : ℕ → List ℕ → ℕ
count t [] = 0
count t (x ∷ xs) = cond (x == t) (suc (count t xs)) (count t xs)

pub count_in : (t : ℕ) (xs : List ℕ) → 1 ≤ count t xs → In t xs
count_in t [] l = absurd (omega arith)
count_in t (x ∷ xs) l = by_test (tested (x == t)) l (count_in t xs)
  where
    by_test : Tested (x == t) → 1 ≤ count t (x ∷ xs) → (1 ≤ count t xs → In t xs) → In t (x ∷ xs)
    by_test (inl p) l i = inl (eqb-true x t p)
    by_test (inr p) l i = let g : 1 ≤ count t xs = rw p at l in inr (i g)

pub in_count : (t : ℕ) (xs : List ℕ) → In t xs → 1 ≤ count t xs
in_count t [] h = absurd h
in_count t (x ∷ xs) (inl p) = rw (eq-eqb x t p) (omega arith)
in_count t (x ∷ xs) (inr h) = by_test (x == t) (in_count t xs h)
  where
    by_test : (b : Bool) → 1 ≤ count t xs → 1 ≤ cond b (suc (count t xs)) (count t xs)
    by_test true l = omega arith
    by_test false l = l

count_less : (t n : ℕ) (xs : List ℕ) → count t xs ≤ suc n → count t (remove t xs) ≤ n
count_less t n [] l = omega arith
count_less t n (x ∷ xs) l = by_test (tested (x == t)) l (count_less t n xs)
  where
    by_test : Tested (x == t) → count t (x ∷ xs) ≤ suc n → (count t xs ≤ suc n → count t (remove t xs) ≤ n) → count t (remove t (x ∷ xs)) ≤ n
    by_test (inl p) l i = let g : suc (count t xs) ≤ suc n = rw p at l in rw p (omega arith)
    by_test (inr p) l i = let g : count t xs ≤ suc n = rw p at l in rw (p, p) (i g)

pub count_other : (s t : ℕ) (xs : List ℕ) → (s == t) ≡ false → count t (remove s xs) ≡ count t xs
count_other s t [] d = refl
count_other s t (x ∷ xs) d = by_test (tested (x == s)) (count_other s t xs d)
  where
    by_test : Tested (x == s) → count t (remove s xs) ≡ count t xs → count t (remove s (x ∷ xs)) ≡ count t (x ∷ xs)
    by_test (inl p) i = let q : (x == t) ≡ false = subst (λ y. (y == t) ≡ false) (sym (eqb-true x s p)) d in rw (p, q) refl
    by_test (inr p) i = rw p (ap (λ n. cond (x == t) (suc n) n) i)

with_other : (t : ℕ) (o : Option ℕ) (xs : List ℕ) → is_session t o ≡ false → count t (option_to_list o ++ xs) ≡ count t xs
with_other t None xs d = refl
with_other t (Some s) xs d = rw d refl

without_other : (t : ℕ) (o : Option ℕ) (xs : List ℕ) → is_session t o ≡ false → count t (option_map_or (λ s. remove s xs) o xs) ≡ count t xs
without_other t None xs d = refl
without_other t (Some s) xs d = count_other s t xs d

-- what a session's rules say of a lock and of a Begin
lock_says : (script : Script) (k : Key) (m : Journal) (a : Act) → takes k a ≡ true → Allowed script k m a → holds k m ≡ false
lock_says script k m (Act.Lock j v f) s w = (w s).5
lock_says script k m _ s w = absurd (false≢true s)

begin_says : (script : Script) (k : Key) (m : Journal) (a : Act) → is_begin a ≡ true → Allowed script k m a → holds k m ≡ false
begin_says script k m Act.Begin s w = w
begin_says script k m _ s w = absurd (false≢true s)

module _ (script : Script) (k : Key) where
  -- a session stands once at most among the holders, and only if its own entries hold the lock
  pub holders_le_by : (t : ℕ) (h : Journal) → AreAllowed script k h → count t (holders k h) ≤ cond (holds k (own t h)) 1 0
  holders_le_by t [] l = omega arith
  holders_le_by t (e ∷ h) l = by_restart (tested (is_restart e.act)) (holders_le_by t h l.0)
    where
      IH : Type 0
      IH = count t (holders k h) ≤ cond (holds k (own t h)) 1 0

      others : is_by t e ≡ false → Tested (takes k e.act) → Tested (gives_back k e.act) →
          count t (cond (takes k e.act) (option_to_list e.session ++ (holders k h)) (cond (gives_back k e.act) (option_map_or (λ s. remove s (holders k h)) e.session (holders k h)) (holders k h))) ≡ count t (holders k h)
      others p (inl a) b = rw a (with_other t e.session (holders k h) p)
      others p (inr a) (inl b) = rw (a, b) (without_other t e.session (holders k h) p)
      others p (inr a) (inr b) = rw (a, b) refl

      mine : is_by t e ≡ true → e.session ≡ Some t → Allowed script k (own t h) e.act → Tested (takes k e.act) → Tested (gives_back k e.act) → IH →
          count t (cond (takes k e.act) (option_to_list e.session ++ (holders k h)) (cond (gives_back k e.act) (option_map_or (λ s. remove s (holders k h)) e.session (holders k h)) (holders k h)))
          ≤ cond (holds_after k e.act (holds k (own t h))) 1 0
      mine p s w (inl a) b i =
          let z : holds k (own t h) ≡ false = lock_says script k (own t h) e.act a w in
          let g : count t (holders k h) ≤ 0 = rw z at i in
          rw (a, s, eq-eqb t t refl) (omega arith)
      mine p s w (inr a) (inl b) i =
          let g : count t (holders k h) ≤ 1 = at_most (holds k (own t h)) (count t (holders k h)) i in
          rw (a, b, s) (count_less t 0 (holders k h) g)
        where
          at_most : (b : Bool) (x : ℕ) → x ≤ cond b 1 0 → x ≤ 1
          at_most true x l = l
          at_most false x l = omega arith
      mine p s w (inr a) (inr b) i = rw (a, b) i

      by_session : is_restart e.act ≡ false → Tested (is_by t e) → IH → count t (holders k (e ∷ h)) ≤ cond (holds k (own t (e ∷ h))) 1 0
      by_session n (inr p) i = rw (n, p, others p (tested (takes k e.act)) (tested (gives_back k e.act))) i
      by_session n (inl p) i = rw (n, p)
          (mine p (is_some_session t e.session p) (l.1 t p) (tested (takes k e.act)) (tested (gives_back k e.act)) i)

      by_restart : Tested (is_restart e.act) → IH → count t (holders k (e ∷ h)) ≤ cond (holds k (own t (e ∷ h))) 1 0
      by_restart (inl r) i = rw r (omega arith)
      by_restart (inr n) i = by_session n (tested (is_by t e)) i

  pub holder_holds_by : (t : ℕ) (h : Journal) → AreAllowed script k h → In t (holders k h) → holds k (own t h) ≡ true
  holder_holds_by t h l i = by_test (tested (holds k (own t h))) (holders_le_by t h l)
    where
      by_test : Tested (holds k (own t h)) → count t (holders k h) ≤ cond (holds k (own t h)) 1 0 → holds k (own t h) ≡ true
      by_test (inl p) c = p
      by_test (inr p) c =
          let g : count t (holders k h) ≤ 0 = rw p at c in
          let j : 1 ≤ count t (holders k h) = in_count t (holders k h) i in absurd (omega arith)

  -- an open session that holds the lock is among the holders
  pub holds_holder_by : (t : ℕ) (h : Journal) → AreAllowed script k h → is_open t h ≡ true → holds k (own t h) ≡ true → In t (holders k h)
  holds_holder_by t h l o w = count_in t (holders k h) (held_count h l o w)
    where
      held_count : (h : Journal) → AreAllowed script k h → is_open t h ≡ true → holds k (own t h) ≡ true → 1 ≤ count t (holders k h)
      held_count [] l o w = absurd (false≢true o)
      held_count (e ∷ h) l o w = by_restart (tested (is_restart e.act)) (held_count h l.0)
        where
          IH : Type 0
          IH = is_open t h ≡ true → holds k (own t h) ≡ true → 1 ≤ count t (holders k h)

          others : is_by t e ≡ false → Tested (takes k e.act) → Tested (gives_back k e.act) →
              count t (cond (takes k e.act) (option_to_list e.session ++ (holders k h)) (cond (gives_back k e.act) (option_map_or (λ s. remove s (holders k h)) e.session (holders k h)) (holders k h))) ≡ count t (holders k h)
          others p (inl a) b = rw a (with_other t e.session (holders k h) p)
          others p (inr a) (inl b) = rw (a, b) (without_other t e.session (holders k h) p)
          others p (inr a) (inr b) = rw (a, b) refl

          was_open : (is_by t e && is_begin e.act) ≡ false → is_open t h ≡ true
          was_open p = open_before t e.session e.act (is_open t h) p o

          mine : is_by t e ≡ true → e.session ≡ Some t → Allowed script k (own t h) e.act → Tested (takes k e.act) → Tested (gives_back k e.act) → Tested (is_begin e.act) → IH →
              holds_after k e.act (holds k (own t h)) ≡ true →
              1 ≤ count t (cond (takes k e.act) (option_to_list e.session ++ (holders k h)) (cond (gives_back k e.act) (option_map_or (λ s. remove s (holders k h)) e.session (holders k h)) (holders k h)))
          mine p s w (inl a) b c i x = rw (a, s, eq-eqb t t refl) (omega arith)
          mine p s w (inr a) (inl b) c i x = let g : false ≡ true = rw (a, b) at x in absurd (false≢true g)
          mine p s w (inr a) (inr b) (inl c) i x =
              let g : holds k (own t h) ≡ true = rw (a, b) at x in
              absurd (true≢false (sym g ∙ begin_says script k (own t h) e.act c w))
          mine p s w (inr a) (inr b) (inr c) i x =
              let g : holds k (own t h) ≡ true = rw (a, b) at x in
              rw (a, b) (i (was_open (rw (p, c) refl)) g)

          by_session : is_restart e.act ≡ false → Tested (is_by t e) → IH → 1 ≤ count t (holders k (e ∷ h))
          by_session n (inr p) i =
              let g : holds k (own t h) ≡ true = rw p at w in
              rw (n, others p (tested (takes k e.act)) (tested (gives_back k e.act))) (i (was_open (rw p refl)) g)
          by_session n (inl p) i =
              let g : holds_after k e.act (holds k (own t h)) ≡ true = rw p at w in
              rw n (mine p (is_some_session t e.session p) (l.1 t p) (tested (takes k e.act)) (tested (gives_back k e.act)) (tested (is_begin e.act)) i g)

          by_restart : Tested (is_restart e.act) → IH → 1 ≤ count t (holders k (e ∷ h))
          by_restart (inl r) i = absurd (closed t e.session e.act (is_open t h) r o)
          by_restart (inr n) i = by_session n (tested (is_by t e)) i

module _ (script : Script) (start : Tables) (k : Key) (rw_k : strategy script k.entity ≡ Strategy.ReadWrite) where
  pub holders_le : (t : ℕ) (h : Journal) → IsLegal script (Some start) h → count t (holders k h) ≤ cond (holds k (own t h)) 1 0
  holders_le t h l = holders_le_by script k t h (are_allowed script start k rw_k h l)

  pub holder_holds : (t : ℕ) (h : Journal) → IsLegal script (Some start) h → In t (holders k h) → holds k (own t h) ≡ true
  holder_holds t h l i = holder_holds_by script k t h (are_allowed script start k rw_k h l) i

  pub holds_holder : (t : ℕ) (h : Journal) → IsLegal script (Some start) h → is_open t h ≡ true → holds k (own t h) ≡ true → In t (holders k h)
  holds_holder t h l o w = holds_holder_by script k t h (are_allowed script start k rw_k h l) o w
