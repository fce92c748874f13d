-- What the least ends and versions say of the rows that are too old, or too new.
use Rattle.std.proofs.Common.{◌≡◌, ℕ, Bool, true, false, Option, None, Some, List, [], ◌∷◌, refl, sym, ◌∙◌, ap}
use Rattle.std.specs.Prelude.{◌&&◌, ◌||◌, is_some, nat_lt}
use Rattle.std.specs.List.{list_any}
use Rattle.hib_trace_law.specs.declared.commits.Commit.{Commit}
use Rattle.hib_trace_law.specs.Certain.{ended_before, is_lower, is_before, is_old}
use Rattle.hib_traces.specs.Marks.{known_version}

any_same : (p q : Commit → Bool) → ((c : Commit) → p c ≡ q c) → (cs : List Commit) → list_any p cs ≡ list_any q cs
any_same p q f [] = refl
any_same p q f (c ∷ cs) = ap (λ b. b || list_any p cs) (f c) ∙ ap (λ b. q c || b) (any_same p q f cs)

any_false : (cs : List Commit) → list_any (λ c. false) cs ≡ false
any_false [] = refl
any_false (c ∷ cs) = any_false cs

or_swap : (a b c d : Bool) → ((a || b) || (c || d)) ≡ ((a || c) || (b || d))
or_swap true b c d = refl
or_swap false true true d = refl
or_swap false true false d = refl
or_swap false false true d = refl
or_swap false false false d = refl

any_or : (p q : Commit → Bool) (cs : List Commit) → list_any (λ c. p c || q c) cs ≡ (list_any p cs || list_any q cs)
any_or p q [] = refl
any_or p q (c ∷ cs) = ap (λ b. (p c || q c) || b) (any_or p q cs) ∙ or_swap (p c) (q c) (list_any p cs) (list_any q cs)

-- the test of one commit, by the end and the version of the other
abbrev old_test : Option ℕ → Option ℕ → ℕ → Commit → Bool
old_test x y t d = ((is_some x && is_some d.end && is_lower y d.version) || ended_before x d.begin) && ended_before d.end t

abbrev new_test : Option ℕ → Option ℕ → ℕ → Commit → Bool
new_test x y t d = (is_some d.end && is_some x && is_lower d.version y) && nat_lt t d.begin

unended : (a b : Bool) → ((a || b) && false) ≡ false
unended true b = refl
unended false true = refl
unended false false = refl

none_and : (b : Bool) → (b && false) ≡ false
none_and true = refl
none_and false = refl

pub old_none : (cs : List Commit) (c : Commit) (t : ℕ) → c.end ≡ None → is_old cs c t ≡ false
old_none cs c t e = ap (λ x. list_any (old_test x c.version t) cs) e ∙ any_false cs

by_call : (o : Option ℕ) (g : Bool) (t : ℕ) → (((is_some o && false) || g) && ended_before o t) ≡ (g && ended_before o t)
by_call None g t = refl
by_call (Some n) g t = refl

pub old_calls : (cs : List Commit) (c : Commit) (t e : ℕ) → c.end ≡ Some e → c.version ≡ None →
    is_old cs c t ≡ list_any (λ d. nat_lt e d.begin && ended_before d.end t) cs
old_calls cs c t e p q =
    ap (λ x. list_any (old_test x c.version t) cs) p
    ∙ ap (λ y. list_any (old_test (Some e) y t) cs) q
    ∙ any_same (old_test (Some e) None t) (λ d. nat_lt e d.begin && ended_before d.end t) (λ d. by_call d.end (nat_lt e d.begin) t) cs

by_both : (o : Option ℕ) (l g : Bool) (t : ℕ) → (((is_some o && l) || g) && ended_before o t) ≡ ((g && ended_before o t) || (l && ended_before o t))
by_both None true true t = refl
by_both None true false t = refl
by_both None false true t = refl
by_both None false false t = refl
by_both (Some n) l g t = split l g (nat_lt n t)
  where
    split : (l g b : Bool) → ((l || g) && b) ≡ ((g && b) || (l && b))
    split true true true = refl
    split true true false = refl
    split true false true = refl
    split true false false = refl
    split false true true = refl
    split false true false = refl
    split false false b = refl

pub old_both : (cs : List Commit) (c : Commit) (t e v : ℕ) → c.end ≡ Some e → c.version ≡ Some v →
    is_old cs c t ≡ (list_any (λ d. nat_lt e d.begin && ended_before d.end t) cs || list_any (λ d. is_lower (Some v) d.version && ended_before d.end t) cs)
old_both cs c t e v p q =
    ap (λ x. list_any (old_test x c.version t) cs) p
    ∙ ap (λ y. list_any (old_test (Some e) y t) cs) q
    ∙ any_same (old_test (Some e) (Some v) t) (λ d. (nat_lt e d.begin && ended_before d.end t) || (is_lower (Some v) d.version && ended_before d.end t))
    (λ d. by_both d.end (is_lower (Some v) d.version) (nat_lt e d.begin) t) cs
    ∙ any_or (λ d. nat_lt e d.begin && ended_before d.end t) (λ d. is_lower (Some v) d.version && ended_before d.end t) cs

no_order : (x y : Option ℕ) → known_version x y ≡ None → (s : Bool) (w : Option ℕ) → (s && is_some x && is_lower w y) ≡ false
no_order None y p true w = refl
no_order None y p false w = refl
no_order (Some e) None p true None = refl
no_order (Some e) None p true (Some w) = refl
no_order (Some e) None p false w = refl
no_order (Some e) (Some v) p s w = cc

pub new_none : (cs : List Commit) (c : Commit) (t : ℕ) → known_version c.end c.version ≡ None →
    list_any (λ d. is_before d c && nat_lt t d.begin) cs ≡ false
new_none cs c t p =
    any_same (new_test c.end c.version t) (λ d. false) (λ d. ap (λ b. b && nat_lt t d.begin) (no_order c.end c.version p (is_some d.end) d.version)) cs
    ∙ any_false cs

order_known : (x y : Option ℕ) (v : ℕ) → known_version x y ≡ Some v → (o w : Option ℕ) (b : Bool) →
    ((is_some o && is_some x && is_lower w y) && b) ≡ (b && ended_before (known_version o w) v)
order_known None y v p o w b = cc
order_known (Some e) None v p o w b = cc
order_known (Some e) (Some n) v p None w b = sym (none_and b)
order_known (Some e) (Some n) v p (Some m) None b = sym (none_and b)
order_known (Some e) (Some n) v p (Some m) (Some w) b = ap (λ z. nat_lt w z && b) (some_of p) ∙ turn (nat_lt w v) b
  where
    some_of : Some n ≡ Some v → n ≡ v
    some_of q = cc

    turn : (a c : Bool) → (a && c) ≡ (c && a)
    turn true true = refl
    turn true false = refl
    turn false true = refl
    turn false false = refl

pub new_some : (cs : List Commit) (c : Commit) (t v : ℕ) → known_version c.end c.version ≡ Some v →
    list_any (λ d. is_before d c && nat_lt t d.begin) cs ≡ list_any (λ d. nat_lt t d.begin && ended_before (known_version d.end d.version) v) cs
new_some cs c t v p =
    any_same (new_test c.end c.version t) (λ d. nat_lt t d.begin && ended_before (known_version d.end d.version) v)
    (λ d. order_known c.end c.version v p d.end d.version (nat_lt t d.begin)) cs
