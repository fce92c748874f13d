-- The kills that may come at a place of an order.
use Rattle.std.specs.Prelude.{not, length, map, slice_index_or, take, ◌&&◌, ◌||◌, ◌==◌}
use Rattle.std.specs.List.{filter, list_all}
use Rattle.std.proofs.Common.{◌≡◌, ◌++◌, ◌+◌, ◌<◌, ◌≤◌, ◌⊎◌, ℕ, zero, suc, inl, inr, Bool, true, false, cond, List, [], ◌∷◌, refl, sym, ap, ◌∙◌, subst, arith, get_or}
use Rattle.std.proofs.lemmas.Bool.{false≢true, eqb-true}
use Rattle.std.proofs.lemmas.List.{length-map, map-append, take_more}
use Rattle.hib_base.proofs.Tables.{Tested, tested}
use Rattle.hib_order_law.specs.Orders.{comes, is_kill_step, kills, whose}
use Rattle.hib_order_law.specs.declared.step.Step.{Step}
use Rattle.hib_order_law.specs.declared.step.Turn.{Turn}
use Rattle.hib_order_law.proofs.Begun.{and_both, and_left, and_right}
use Rattle.hib_order_tries.specs.Left.{AreOpen, AreOpenings, open_with, opens, turn_of}
use Rattle.hib_order_tries.specs.Tail.{AreKills, count_of}
use Rattle.hib_order_tries.proofs.Tails.{all-push, comes-push, once-push}

-- how often some steps kill

pub kills-push : (xs : List Step) (t : Step) → kills (xs ++ t ∷ []) ≡ kills xs + cond (is_kill_step t) 1 0
kills-push [] t = plain (cond (is_kill_step t) 1 0)
  where
    plain : (n : ℕ) → n + 0 ≡ 0 + n
    plain n = omega arith
kills-push (x ∷ xs) t = more (cond (is_kill_step x) 1 0) (kills (xs ++ t ∷ [])) (kills xs) (cond (is_kill_step t) 1 0) (kills-push xs t)
  where
    more : (a b c d : ℕ) → b ≡ c + d → a + b ≡ (a + c) + d
    more a b c d p = omega arith

pub kills-more : (order : List Step) (place count : ℕ) (d : Step) → place < length order → count ≡ kills (take place order) →
    (is_kill_step (get_or order place d) ≡ true → count + 1 ≡ kills (take (place + 1) order)) × (is_kill_step (get_or order place d) ≡ false → count ≡ kills (take (place + 1) order))
kills-more order place count d l e = (
  λ p. sum count (kills (take (place + 1) order)) (kills (take place order)) (cond (is_kill_step (get_or order place d)) 1 0) 1 all e (ap (λ b. cond b 1 0) p),
  λ p. none count (kills (take (place + 1) order)) (kills (take place order)) (cond (is_kill_step (get_or order place d)) 1 0) all e (ap (λ b. cond b 1 0) p),
)
  where
    all : kills (take (place + 1) order) ≡ kills (take place order) + cond (is_kill_step (get_or order place d)) 1 0
    all = ap (λ x. kills x) (take_more order place d l) ∙ kills-push (take place order) (get_or order place d)

    sum : (n m k c x : ℕ) → m ≡ k + c → n ≡ k → c ≡ x → n + x ≡ m
    sum n m k c x p q r = omega arith

    none : (n m k c : ℕ) → m ≡ k + c → n ≡ k → c ≡ 0 → n ≡ m
    none n m k c p q r = omega arith

-- the steps of all sessions but one

abbrev pub others_of : ℕ → List Step → List Step
others_of n xs = filter (λ t. not (whose t == n)) xs

comes-others : (x n : ℕ) (xs : List Step) → comes x (others_of n xs) ≡ cond (n == x) false (comes x xs)
comes-others x n [] = by (n == x)
  where
    by : (b : Bool) → false ≡ cond b false false
    by true = refl
    by false = refl
comes-others x n (t ∷ ts) = by (tested (whose t == n)) (tested (n == x)) (comes-others x n ts)
  where
    is : (whose t == n) ≡ true → (whose t == x) ≡ (n == x)
    is p = ap (λ i. i == x) (eqb-true (whose t) n p)

    isnt : (whose t == n) ≡ false → (n == x) ≡ true → (whose t == x) ≡ false
    isnt p q = subst (λ i. (whose t == i) ≡ false) (eqb-true n x q) p

    by : Tested (whose t == n) → Tested (n == x) → comes x (others_of n ts) ≡ cond (n == x) false (comes x ts) →
        comes x (cond (not (whose t == n)) (t ∷ others_of n ts) (others_of n ts)) ≡ cond (n == x) false ((whose t == x) || comes x ts)
    by (inl p) (inl q) i = rw (p, q) (subst (λ b. comes x (others_of n ts) ≡ cond b false (comes x ts)) q i)
    by (inl p) (inr q) i = rw (p, q, is p ∙ q) (subst (λ b. comes x (others_of n ts) ≡ cond b false (comes x ts)) q i)
    by (inr p) (inl q) i = rw (p, q, isnt p q) (subst (λ b. comes x (others_of n ts) ≡ cond b false (comes x ts)) q i)
    by (inr p) (inr q) i = rw (p, q) (ap (λ b. (whose t == x) || b) (subst (λ b. comes x (others_of n ts) ≡ cond b false (comes x ts)) q i))

count-others : (x : ℕ) (p : Step → Bool) (xs : List Step) → count_of x (filter p xs) ≤ count_of x xs
count-others x p [] = omega arith
count-others x p (t ∷ ts) = by (p t) (count-others x p ts)
  where
    more : (c a b : ℕ) → a ≤ b → c + a ≤ c + b
    more c a b l = omega arith

    less : (c a b : ℕ) → a ≤ b → a ≤ c + b
    less c a b l = omega arith

    by : (b : Bool) → count_of x (filter p ts) ≤ count_of x ts → count_of x (cond b (t ∷ filter p ts) (filter p ts)) ≤ cond (whose t == x) 1 0 + count_of x ts
    by true l = more (cond (whose t == x) 1 0) (count_of x (filter p ts)) (count_of x ts) l
    by false l = less (cond (whose t == x) 1 0) (count_of x (filter p ts)) (count_of x ts) l

all-others : (q p : Step → Bool) (xs : List Step) → list_all q xs ≡ true → list_all q (filter p xs) ≡ true
all-others q p [] a = refl
all-others q p (t ∷ ts) a = by (p t) (all-others q p ts (and_right (q t) (list_all q ts) a))
  where
    by : (b : Bool) → list_all q (filter p ts) ≡ true → list_all q (cond b (t ∷ filter p ts) (filter p ts)) ≡ true
    by true i = and_both (q t) (list_all q (filter p ts)) (and_left (q t) (list_all q ts) a) i
    by false i = i

kills-others : (n : ℕ) (xs : List Step) → AreKills xs → AreKills (others_of n xs)
kills-others n xs k = record {
  once = λ x. chain (count_of x (others_of n xs)) (count_of x xs) (count-others x (λ t. not (whose t == n)) xs) (k.once x);
  kill = all-others is_kill_step (λ t. not (whose t == n)) xs k.kill;
}
  where
    chain : (a b : ℕ) → a ≤ b → b ≤ 1 → a ≤ 1
    chain a b p q = omega arith

-- after a step
pub record AreOpened (olds new : List Step) (step : Step) (turn : Turn) : Type 0 where
  pub each : AreKills olds → AreKills new
  pub all : (s : ℕ) → comes s new ≡ open_with s step turn (comes s olds)

pub opened_same : (olds new : List Step) (step : Step) (turn : Turn) → turn_of step turn ≡ Turn.GoesOn → new ≡ olds → AreOpened olds new step turn
opened_same olds new step turn t e = record { each = λ k. subst (λ x. AreKills x) (sym e) k; all = λ s. rw (t, e) refl }

pub opened_closes : (olds new : List Step) (step : Step) (turn : Turn) (n : ℕ) → turn_of step turn ≡ Turn.Closes → n ≡ whose step → new ≡ others_of n olds → AreOpened olds new step turn
opened_closes olds new step turn n t w e = record {
  each = λ k. subst (λ x. AreKills x) (sym e) (kills-others n olds k);
  all = λ s. rw (t, e) (comes-others s n olds ∙ ap (λ i. cond (i == s) false (comes s olds)) w);
}

pub opened_opens : (olds new : List Step) (step : Step) (turn : Turn) (n : ℕ) → turn_of step turn ≡ Turn.Opens → n ≡ whose step → new ≡ others_of n olds ++ Step.Kill n ∷ [] →
    AreOpened olds new step turn
opened_opens olds new step turn n t w e = record {
  each = λ k. subst (λ x. AreKills x) (sym e) (kept (kills-others n olds k));
  all = λ s. rw (t, e) (comes-push s (others_of n olds) (Step.Kill n) ∙ by s (tested (n == s)) ∙ ap (λ i. (i == s) || comes s olds) w);
}
  where
    none : comes n (others_of n olds) ≡ false
    none = comes-others n n olds ∙ self (tested (n == n))
      where
        self : Tested (n == n) → cond (n == n) false (comes n olds) ≡ false
        self (inl p) = rw p refl
        self (inr p) = absurd (false≢true (sym p ∙ same n))
          where
            same : (n : ℕ) → (n == n) ≡ true
            same n = grind arith

    kept : AreKills (others_of n olds) → AreKills (others_of n olds ++ Step.Kill n ∷ [])
    kept k = record {
      once = λ x. once-push x (others_of n olds) (Step.Kill n) none (k.once x);
      kill = all-push is_kill_step (others_of n olds) (Step.Kill n) k.kill refl;
    }

    by : (s : ℕ) → Tested (n == s) → ((n == s) || comes s (others_of n olds)) ≡ ((n == s) || comes s olds)
    by s (inl p) = rw p refl
    by s (inr p) = ap (λ b. (n == s) || b) (comes-others s n olds ∙ ap (λ b. cond b false (comes s olds)) p)

-- at each place

opens-push : (s : ℕ) (ts : List Step) (us : List Turn) (t : Step) (u : Turn) (o : Bool) → length us ≡ length ts → opens s (ts ++ t ∷ []) (us ++ u ∷ []) o ≡ open_with s t u (opens s ts us o)
opens-push s [] [] t u o l = refl
opens-push s [] (v ∷ us) t u o l = absurd (no (length us) l)
  where
    no : (n : ℕ) → suc n ≡ 0 → ⊥
    no n l = omega arith
opens-push s (x ∷ ts) [] t u o l = absurd (no (length ts) l)
  where
    no : (n : ℕ) → 0 ≡ suc n → ⊥
    no n l = omega arith
opens-push s (x ∷ ts) (v ∷ us) t u o l = opens-push s ts us t u (open_with s x v o) (same (length us) (length ts) l)
  where
    same : (n m : ℕ) → suc n ≡ suc m → n ≡ m
    same n m l = omega arith

length-taken : {X Y : Type 0} (n : ℕ) (xs : List X) (ys : List Y) → length xs ≡ length ys → length (take n xs) ≡ length (take n ys)
length-taken zero xs ys l = refl
length-taken (suc n) [] [] l = refl
length-taken (suc n) [] (y ∷ ys) l = absurd (no (length ys) l)
  where
    no : (n : ℕ) → 0 ≡ suc n → ⊥
    no n l = omega arith
length-taken (suc n) (x ∷ xs) [] l = absurd (no (length xs) l)
  where
    no : (n : ℕ) → suc n ≡ 0 → ⊥
    no n l = omega arith
length-taken (suc n) (x ∷ xs) (y ∷ ys) l = ap (λ k. suc k) (length-taken n xs ys (same (length xs) (length ys) l))
  where
    same : (n m : ℕ) → suc n ≡ suc m → n ≡ m
    same n m l = omega arith

pub none_open : (order : List Step) (turns : List Turn) → AreOpen true order turns 0 []
none_open order turns = record { all = λ s. refl; each = record { once = λ s. omega arith; kill = refl } }

pub next_open : (order : List Step) (turns : List Turn) (at : ℕ) (olds new : List Step) (step : Step) (turn : Turn) → length turns ≡ length order → at < length order →
    step ≡ get_or order at step → turn ≡ get_or turns at turn → AreOpen true order turns at olds → AreOpened olds new step turn → AreOpen true order turns (at + 1) new
next_open order turns at olds new step turn l i p q a o = record { all = all; each = o.each a.each }
  where
    inside : at < length turns
    inside = less (length turns) (length order) l i
      where
        less : (n m : ℕ) → n ≡ m → at < m → at < n
        less n m p q = omega arith

    taken : take (at + 1) order ≡ take at order ++ step ∷ []
    taken = take_more order at step i ∙ ap (λ x. take at order ++ x ∷ []) (sym p)

    turned : take (at + 1) turns ≡ take at turns ++ turn ∷ []
    turned = take_more turns at turn inside ∙ ap (λ x. take at turns ++ x ∷ []) (sym q)

    all : (s : ℕ) → comes s new ≡ (true && opens s (take (at + 1) order) (take (at + 1) turns) false)
    all s = o.all s ∙ ap (λ b. open_with s step turn b) (a.all s) ∙ sym (opens-push s (take at order) (take at turns) step turn false (length-taken at turns order l))
        ∙ sym (ap (λ x. opens s x (take (at + 1) turns) false) taken ∙ ap (λ x. opens s (take at order ++ step ∷ []) x false) turned)

none_at : (at : ℕ) → ◌≡◌ {A = List Step} (slice_index_or [] at []) []
none_at zero = refl
none_at (suc at) = refl

pub none_may : (order : List Step) (turns : List Turn) (openings : List (List Step)) → openings ≡ [] → AreOpenings false order turns openings
none_may order turns openings e at l =
    subst (λ x. AreOpen false order turns at x) (sym (ap (λ x. slice_index_or x at []) e ∙ none_at at)) (record { all = λ s. refl; each = record { once = λ s. omega arith; kill = refl } })

at_before : (xs : List (List Step)) (x : List Step) (at : ℕ) → at < length xs → slice_index_or (xs ++ x ∷ []) at [] ≡ slice_index_or xs at []
at_before [] x at l = absurd (no at l)
  where
    no : (n : ℕ) → n < 0 → ⊥
    no n l = omega arith
at_before (y ∷ xs) x zero l = refl
at_before (y ∷ xs) x (suc at) l = at_before xs x at (omega arith)

at_last : (xs : List (List Step)) (x : List Step) (at : ℕ) → at ≡ length xs → slice_index_or (xs ++ x ∷ []) at [] ≡ x
at_last [] x at e = ap (λ i. slice_index_or (x ∷ []) i []) e
at_last (y ∷ xs) x zero e = absurd (no (length xs) e)
  where
    no : (n : ℕ) → 0 ≡ suc n → ⊥
    no n l = omega arith
at_last (y ∷ xs) x (suc at) e = at_last xs x at (same at (length xs) e)
  where
    same : (n m : ℕ) → suc n ≡ suc m → n ≡ m
    same n m l = omega arith

-- one place more
pub openings_more : {V : Type 0} (f : V → List Step) (order : List Step) (turns : List Turn) (place : ℕ) (xs : List V) (new : V) → length xs ≡ place + 1 →
    ((at : ℕ) → at ≤ place → AreOpen true order turns at (slice_index_or (map f xs) at [])) → AreOpen true order turns (place + 1) (f new) →
    (at : ℕ) → at ≤ place + 1 → AreOpen true order turns at (slice_index_or (map f (xs ++ new ∷ [])) at [])
openings_more f order turns place xs new l a b at i = by (cases (length xs) at)
  where
    many : length (map f xs) ≡ length xs
    many = length-map xs f

    split : map f (xs ++ new ∷ []) ≡ map f xs ++ f new ∷ []
    split = map-append f xs (new ∷ [])

    cases : (n k : ℕ) → (k < n) ⊎ (n ≤ k)
    cases zero k = inr (omega arith)
    cases (suc n) zero = inl (omega arith)
    cases (suc n) (suc k) = further (cases n k)
      where
        further : (k < n) ⊎ (n ≤ k) → (suc k < suc n) ⊎ (suc n ≤ suc k)
        further (inl p) = inl (omega arith)
        further (inr p) = inr (omega arith)

    inside : (n m : ℕ) → n ≡ m → at < m → at < n
    inside n m p q = omega arith

    below : (n : ℕ) → n ≡ place + 1 → at < n → at ≤ place
    below n p q = omega arith

    ends : (n m : ℕ) → m ≡ place + 1 → n ≡ m → m ≤ at → at ≤ place + 1 → at ≡ n
    ends n m p q r s = omega arith

    is_place : (n : ℕ) → n ≡ place + 1 → n ≤ at → at ≤ place + 1 → at ≡ place + 1
    is_place n p q r = omega arith

    by : (at < length xs) ⊎ (length xs ≤ at) → AreOpen true order turns at (slice_index_or (map f (xs ++ new ∷ [])) at [])
    by (inl p) =
        subst (λ x. AreOpen true order turns at x) (sym (ap (λ y. slice_index_or y at []) split ∙ at_before (map f xs) (f new) at (inside (length (map f xs)) (length xs) many p)))
        (a at (below (length xs) l p))
    by (inr p) =
        subst (λ x. AreOpen true order turns at x)
        (sym (ap (λ y. slice_index_or y at []) split ∙ at_last (map f xs) (f new) at (ends (length (map f xs)) (length xs) l many p i)))
        (subst (λ k. AreOpen true order turns k (f new)) (sym (is_place (length xs) l p i)) b)

pub length-push : {V : Type 0} (xs : List V) (x : V) → length (xs ++ x ∷ []) ≡ length xs + 1
length-push [] x = omega arith
length-push (y ∷ xs) x = more (length (xs ++ x ∷ [])) (length xs) (length-push xs x)
  where
    more : (n m : ℕ) → n ≡ m + 1 → suc n ≡ suc m + 1
    more n m p = omega arith
