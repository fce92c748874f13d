-- The instances that a memory keeps, in order of arrival.
use Rattle.std.specs.Prelude.{option_and_then}
use Rattle.std.proofs.Common.{◌≡◌, inl, inr, Bool, true, false, cond, not, List, [], ◌∷◌, ◌++◌, map, Some, None, Option, refl, sym, ap, ◌∙◌, subst}
use Rattle.std.proofs.lemmas.Bool.{false≢true, and_parts, and_from}
use Rattle.std.specs.List.{filter, filter_map, cons_option}
use Rattle.std.specs.Option.{option_map}
use Rattle.hib_base.specs.Keys.{same_key}
use Rattle.hib_base.proofs.Tables.{same_key_eq, Tested, tested}
use Rattle.hib_journal.specs.Types.{Key, Held}
use Rattle.hib_journal.specs.Sessions.{Journal}
use Rattle.hib_journal.specs.Held as held
use Rattle.hib_journal.specs.Held.{Instance, Stay, has_left, instance_of, stay, without_key}
use Rattle.hib_completion.proofs.Keys.{same_key_sym}
use Rattle.hib_identity_map.specs.Identity.{Pairs, look_in, is_absent, are_distinct, drop_in, add_in, change_in}
use Rattle.hib_identity_map.specs.Holds.{shown_of, shown}

-- an instance that is held of a key has that key

cond_key : (b : Bool) (k : Key) (s : Stay) (i : Instance) → cond b None (Some (instance_of k s)) ≡ Some i → i.key ≡ k
cond_key true k s i e = absurd (no e)
  where
    no : ◌≡◌ {A = Option Instance} None (Some i) → ⊥
    no x = cc
cond_key false k s i e = ap (λ j. j.key) (same e)
  where
    same : Some (instance_of k s) ≡ Some i → i ≡ instance_of k s
    same x = cc

by_key : (k : Key) (o : Option Stay) (i : Instance) → option_and_then (λ s. cond (has_left k s) None (Some (instance_of k s))) o ≡ Some i → i.key ≡ k
by_key k None i e = absurd (no e)
  where
    no : ◌≡◌ {A = Option Instance} None (Some i) → ⊥
    no x = cc
by_key k (Some s) i e = cond_key (has_left k s) k s i e

pub held_key : (k : Key) (m : Journal) (i : Instance) → held.held m k ≡ Some i → i.key ≡ k
unfolding held.held
held_key k m i e = by_key k (stay k m) i e

-- lists of instances by keys

pub none_map : (ks : List Key) (f : Key → Option Instance) → ((k : Key) → f k ≡ None) → filter_map f ks ≡ []
none_map [] f h = refl
none_map (k ∷ ks) f h = rw (h k) (none_map ks f h)

-- each instance after a write of its key
pub later_map : (g : Key → Instance → Instance) (f : Key → Option Instance) (ks : List Key) → ((k : Key) (i : Instance) → f k ≡ Some i → i.key ≡ k) →
    filter_map (λ k. option_map (g k) (f k)) ks ≡ map (λ i. g i.key i) (filter_map f ks)
later_map g f [] h = refl
later_map g f (k ∷ ks) h = at_key (f k) refl (later_map g f ks h)
  where
    at_key : (o : Option Instance) → f k ≡ o → filter_map (λ k. option_map (g k) (f k)) ks ≡ map (λ i. g i.key i) (filter_map f ks) →
        filter_map (λ k. option_map (g k) (f k)) (k ∷ ks) ≡ map (λ i. g i.key i) (filter_map f (k ∷ ks))
    at_key None e n = rw e n
    at_key (Some i) e n = rw (e, n) (ap (λ j. g j i ∷ map (λ i. g i.key i) (filter_map f ks)) (sym (h k i e)))

pub same_map : (f g : Key → Option Instance) (ks : List Key) → ((k : Key) → f k ≡ g k) → filter_map f ks ≡ filter_map g ks
same_map f g [] h = refl
same_map f g (k ∷ ks) h = rw (h k, same_map f g ks h) refl

-- if nothing is held of a key, it does not matter that the key is taken out
pub without_none : (f : Key → Option Instance) (j : Key) (ks : List Key) → f j ≡ None → filter_map f (without_key j ks) ≡ filter_map f ks
without_none f j [] n = refl
without_none f j (k ∷ ks) n = at_key (tested (same_key k j)) (without_none f j ks n)
  where
    at_key : Tested (same_key k j) → filter_map f (without_key j ks) ≡ filter_map f ks → filter_map f (without_key j (k ∷ ks)) ≡ filter_map f (k ∷ ks)
    at_key (inl p) i = let e : f k ≡ None = ap f (same_key_eq k j p) ∙ n in rw (p, e) i
    at_key (inr p) i = rw (p, i) refl

-- a key whose instance changes is taken out anyway
pub without_same : (f g : Key → Option Instance) (j : Key) (ks : List Key) → ((k : Key) → same_key j k ≡ false → f k ≡ g k) → filter_map f (without_key j ks) ≡ filter_map g (without_key j ks)
without_same f g j [] h = refl
without_same f g j (k ∷ ks) h = at_key (tested (same_key k j)) (without_same f g j ks h)
  where
    at_key : Tested (same_key k j) → filter_map f (without_key j ks) ≡ filter_map g (without_key j ks) → filter_map f (without_key j (k ∷ ks)) ≡ filter_map g (without_key j (k ∷ ks))
    at_key (inl p) i = rw p i
    at_key (inr p) i = let e : f k ≡ g k = h k (same_key_sym j k ∙ p) in rw (p, e, i) refl

-- the instances of other keys
abbrev pub others : Key → List Instance → List Instance
others k is = filter (λ i. not (same_key k i.key)) is

-- and if the instance of a key is gone, those of the others stay
pub dropped_map : (f g : Key → Option Instance) (j : Key) (ks : List Key) → ((k : Key) (i : Instance) → g k ≡ Some i → i.key ≡ k) →
    ((k : Key) → f k ≡ cond (same_key j k) None (g k)) → filter_map f ks ≡ others j (filter_map g ks)
dropped_map f g j [] h e = refl
dropped_map f g j (k ∷ ks) h e = rw (e k) (at_key (same_key j k) (g k) refl refl (dropped_map f g j ks h e))
  where
    at_key : (b : Bool) (o : Option Instance) → same_key j k ≡ b → g k ≡ o → filter_map f ks ≡ others j (filter_map g ks) →
        cons_option (cond b None o) (filter_map f ks) ≡ others j (cons_option o (filter_map g ks))
    at_key true None p q i = i
    at_key false None p q i = i
    at_key true (Some x) p q i = let n : same_key j x.key ≡ true = ap (same_key j) (h k x q) ∙ p in rw n i
    at_key false (Some x) p q i = let n : same_key j x.key ≡ false = ap (same_key j) (h k x q) ∙ p in rw (n, i) refl

cons_append : (o : Option Instance) (xs ys : List Instance) → cons_option o (xs ++ ys) ≡ cons_option o xs ++ ys
cons_append None xs ys = refl
cons_append (Some i) xs ys = refl

pub join_map : (f : Key → Option Instance) (ks js : List Key) → filter_map f (ks ++ js) ≡ filter_map f ks ++ filter_map f js
join_map f [] js = refl
join_map f (k ∷ ks) js = ap (cons_option (f k)) (join_map f ks js) ∙ cons_append (f k) (filter_map f ks) (filter_map f js)

-- the list that is kept

absent_none : (o : Option Held) → is_absent o ≡ true → o ≡ None
absent_none None p = refl
absent_none (Some h) p = absurd (false≢true p)

none_absent : (o : Option Held) → o ≡ None → is_absent o ≡ true
none_absent None p = refl
none_absent (Some h) p = absurd (cc)

absent_head : (b : Bool) (h : Held) (o : Option Held) → cond b (Some h) o ≡ None → (b ≡ false) × (o ≡ None)
absent_head true h o e = absurd (cc)
absent_head false h o e = (refl, e)

flip : (a b : Key) (x : Bool) → same_key a b ≡ x → same_key b a ≡ x
flip a b x e = same_key_sym b a ∙ e

along : (a b c : Key) (x : Bool) → same_key a b ≡ true → same_key b c ≡ x → same_key a c ≡ x
along a b c x e f = subst (λ k. same_key k c ≡ x) (sym (same_key_eq a b e)) f

changed_none : (k q : Key) (f : Held → Held) → ◌≡◌ {A = Option Held} None (cond (same_key k q) (option_map f None) None)
changed_none k q f = by (same_key k q)
  where
    by : (b : Bool) → ◌≡◌ {A = Option Held} None (cond b (option_map f None) None)
    by true = refl
    by false = refl

pub look_changed : (k : Key) (f : Held → Held) (ps : Pairs) (q : Key) → look_in (change_in k f ps) q ≡ cond (same_key k q) (option_map f (look_in ps q)) (look_in ps q)
look_changed k f [] q = changed_none k q f
look_changed k f (p ∷ ps) q = by (tested (same_key k p.0)) (tested (same_key q p.0)) (look_changed k f ps q)
  where
    by : Tested (same_key k p.0) → Tested (same_key q p.0) → look_in (change_in k f ps) q ≡ cond (same_key k q) (option_map f (look_in ps q)) (look_in ps q) →
        look_in (change_in k f (p ∷ ps)) q ≡ cond (same_key k q) (option_map f (look_in (p ∷ ps) q)) (look_in (p ∷ ps) q)
    by (inl a) (inl b) i = let c : same_key k q ≡ true = along k p.0 q true a (flip q p.0 true b) in rw (a, b, c) refl
    by (inl a) (inr b) i = let c : same_key k q ≡ false = along k p.0 q false a (flip q p.0 false b) in rw (a, b, c) refl
    by (inr a) (inl b) i = let c : same_key k q ≡ false = flip q k false (along q p.0 k false b (flip k p.0 false a)) in rw (a, b, c) refl
    by (inr a) (inr b) i = rw (a, b) i

pub both : (p : Key × Held) (ps : Pairs) → are_distinct (p ∷ ps) ≡ true → (look_in ps p.0 ≡ None) × (are_distinct ps ≡ true)
both p ps d = let a : (is_absent (look_in ps p.0) ≡ true) × (are_distinct ps ≡ true) = and_parts (is_absent (look_in ps p.0)) (are_distinct ps) d in (absent_none (look_in ps p.0) a.0, a.1)

dropped_none : (k q : Key) → ◌≡◌ {A = Option Held} None (cond (same_key k q) None None)
dropped_none k q = by (same_key k q)
  where
    by : (b : Bool) → ◌≡◌ {A = Option Held} None (cond b None None)
    by true = refl
    by false = refl

pub look_dropped : (k : Key) (ps : Pairs) (q : Key) → are_distinct ps ≡ true → look_in (drop_in k ps) q ≡ cond (same_key k q) None (look_in ps q)
look_dropped k [] q d = dropped_none k q
look_dropped k (p ∷ ps) q d = by (tested (same_key k p.0)) (tested (same_key q p.0)) (look_dropped k ps q (both p ps d).1)
  where
    by : Tested (same_key k p.0) → Tested (same_key q p.0) → look_in (drop_in k ps) q ≡ cond (same_key k q) None (look_in ps q) →
        look_in (drop_in k (p ∷ ps)) q ≡ cond (same_key k q) None (look_in (p ∷ ps) q)
    by (inl a) (inl b) i =
        let c : same_key k q ≡ true = along k p.0 q true a (flip q p.0 true b) in
        let n : look_in ps q ≡ None = ap (look_in ps) (same_key_eq q p.0 b) ∙ (both p ps d).0 in
        rw (a, c, n) refl
    by (inl a) (inr b) i = let c : same_key k q ≡ false = along k p.0 q false a (flip q p.0 false b) in rw (a, b, c) refl
    by (inr a) (inl b) i = let c : same_key k q ≡ false = flip q k false (along q p.0 k false b (flip k p.0 false a)) in rw (a, b, c) refl
    by (inr a) (inr b) i = rw (a, b) i

pub look_added : (k : Key) (h : Held) (ps : Pairs) (q : Key) → look_in ps k ≡ None → look_in (add_in k h ps) q ≡ cond (same_key k q) (Some h) (look_in ps q)
look_added k h [] q n = by (same_key q k) (same_key k q) (same_key_sym q k)
  where
    by : (a b : Bool) → a ≡ b → ◌≡◌ {A = Option Held} (cond a (Some h) None) (cond b (Some h) None)
    by a b e = rw e refl
look_added k h (p ∷ ps) q n = by (tested (same_key q p.0)) (look_added k h ps q away.1)
  where
    away : (same_key k p.0 ≡ false) × (look_in ps k ≡ None)
    away = absent_head (same_key k p.0) p.1 (look_in ps k) n

    by : Tested (same_key q p.0) → look_in (add_in k h ps) q ≡ cond (same_key k q) (Some h) (look_in ps q) → look_in (add_in k h (p ∷ ps)) q ≡ cond (same_key k q) (Some h) (look_in (p ∷ ps) q)
    by (inl b) i = let c : same_key k q ≡ false = flip q k false (along q p.0 k false b (flip k p.0 false away.0)) in rw (b, c) refl
    by (inr b) i = rw b i

absent_changed : (b : Bool) (f : Held → Held) (o : Option Held) → is_absent (cond b (option_map f o) o) ≡ is_absent o
absent_changed true f None = refl
absent_changed true f (Some h) = refl
absent_changed false f o = refl

pub distinct_changed : (k : Key) (f : Held → Held) (ps : Pairs) → are_distinct (change_in k f ps) ≡ are_distinct ps
distinct_changed k f [] = refl
distinct_changed k f (p ∷ ps) = by (tested (same_key k p.0)) (distinct_changed k f ps)
  where
    by : Tested (same_key k p.0) → are_distinct (change_in k f ps) ≡ are_distinct ps → are_distinct (change_in k f (p ∷ ps)) ≡ are_distinct (p ∷ ps)
    by (inl a) i = rw a refl
    by (inr a) i = rw (a, look_changed k f ps p.0, absent_changed (same_key k p.0) f (look_in ps p.0), i) refl

pub distinct_dropped : (k : Key) (ps : Pairs) → are_distinct ps ≡ true → are_distinct (drop_in k ps) ≡ true
distinct_dropped k [] d = refl
distinct_dropped k (p ∷ ps) d = by (tested (same_key k p.0)) (distinct_dropped k ps (both p ps d).1)
  where
    by : Tested (same_key k p.0) → are_distinct (drop_in k ps) ≡ true → are_distinct (drop_in k (p ∷ ps)) ≡ true
    by (inl a) i = rw a (both p ps d).1
    by (inr a) i =
        let n : look_in (drop_in k ps) p.0 ≡ None = look_dropped k ps p.0 (both p ps d).1 ∙ rw a (both p ps d).0 in
        rw a (and_from (is_absent (look_in (drop_in k ps) p.0)) (are_distinct (drop_in k ps)) (none_absent (look_in (drop_in k ps) p.0) n) i)

pub distinct_added : (k : Key) (h : Held) (ps : Pairs) → look_in ps k ≡ None → are_distinct ps ≡ true → are_distinct (add_in k h ps) ≡ true
distinct_added k h [] n d = refl
distinct_added k h (p ∷ ps) n d =
    let a : (same_key k p.0 ≡ false) × (look_in ps k ≡ None) = absent_head (same_key k p.0) p.1 (look_in ps k) n in
    let x : look_in (add_in k h ps) p.0 ≡ None = look_added k h ps p.0 a.1 ∙ rw a.0 (both p ps d).0 in
    and_from (is_absent (look_in (add_in k h ps) p.0)) (are_distinct (add_in k h ps)) (none_absent (look_in (add_in k h ps) p.0) x) (distinct_added k h ps a.1 (both p ps d).1)

-- what is shown of them
abbrev pub change_at : Key → (Instance → Instance) → Instance → Instance
change_at k g i = cond (same_key k i.key) (g i) i

untouched : (k : Key) (g : Instance → Instance) (ps : Pairs) → look_in ps k ≡ None → map (change_at k g) (map shown ps) ≡ map shown ps
untouched k g [] n = refl
untouched k g (p ∷ ps) n =
    let a : (same_key k p.0 ≡ false) × (look_in ps k ≡ None) = absent_head (same_key k p.0) p.1 (look_in ps k) n in
    rw (a.0, untouched k g ps a.1) refl

pub shown_changed : (k : Key) (f : Held → Held) (g : Instance → Instance) (ps : Pairs) → ((j : Key) (h : Held) → shown_of j (f h) ≡ g (shown_of j h)) → are_distinct ps ≡ true →
    map shown (change_in k f ps) ≡ map (change_at k g) (map shown ps)
shown_changed k f g [] s d = refl
shown_changed k f g (p ∷ ps) s d = by (tested (same_key k p.0)) (shown_changed k f g ps s (both p ps d).1)
  where
    by : Tested (same_key k p.0) → map shown (change_in k f ps) ≡ map (change_at k g) (map shown ps) → map shown (change_in k f (p ∷ ps)) ≡ map (change_at k g) (map shown (p ∷ ps))
    by (inl a) i =
        let n : look_in ps k ≡ None = ap (look_in ps) (same_key_eq k p.0 a) ∙ (both p ps d).0 in
        rw (a, s p.0 p.1, untouched k g ps n) refl
    by (inr a) i = rw (a, i) refl

kept_all : (k : Key) (ps : Pairs) → look_in ps k ≡ None → others k (map shown ps) ≡ map shown ps
kept_all k [] n = refl
kept_all k (p ∷ ps) n =
    let a : (same_key k p.0 ≡ false) × (look_in ps k ≡ None) = absent_head (same_key k p.0) p.1 (look_in ps k) n in
    rw (a.0, kept_all k ps a.1) refl

pub shown_dropped : (k : Key) (ps : Pairs) → are_distinct ps ≡ true → map shown (drop_in k ps) ≡ others k (map shown ps)
shown_dropped k [] d = refl
shown_dropped k (p ∷ ps) d = by (tested (same_key k p.0)) (shown_dropped k ps (both p ps d).1)
  where
    by : Tested (same_key k p.0) → map shown (drop_in k ps) ≡ others k (map shown ps) → map shown (drop_in k (p ∷ ps)) ≡ others k (map shown (p ∷ ps))
    by (inl a) i =
        let n : look_in ps k ≡ None = ap (look_in ps) (same_key_eq k p.0 a) ∙ (both p ps d).0 in
        rw a (sym (kept_all k ps n))
    by (inr a) i = rw (a, i) refl

pub shown_added : (k : Key) (h : Held) (ps : Pairs) → map shown (add_in k h ps) ≡ map shown ps ++ shown_of k h ∷ []
shown_added k h [] = refl
shown_added k h (p ∷ ps) = ap (λ is. shown p ∷ is) (shown_added k h ps)
