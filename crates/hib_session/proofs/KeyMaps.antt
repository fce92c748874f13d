-- Maps and sets of keys, and one key more.
use Rattle.std.proofs.Common.{◌≡◌, inl, inr, Bool, true, false, cond, ◌||◌, List, [], ◌∷◌, ◌++◌, Some, refl, sym, ap, ◌∙◌}
use Rattle.std.specs.List.{list_any}
use Rattle.std.specs.Map.{lookup}
use Rattle.hib_base.specs.Keys.{same_key}
use Rattle.hib_base.specs.Tables.{key_of}
use Rattle.hib_base.proofs.Tables.{same_key_eq, Tested, tested}
use Rattle.hib_journal.specs.Types.{Key, Change}
use Rattle.hib_journal.specs.Next.{is_in}
use Rattle.hib_completion.specs.Completed.{is_key_in}
use Rattle.hib_completion.proofs.Keys.{same_key_sym, in_more}
use Rattle.indexmap.specs.IndexMap.{insert_entry}
use Rattle.indexmap.specs.IndexSet.{insert_key}

-- the value of a key after one was put
pub value_more : {V : Type 0} (k j : Key) (v : V) (ps : List (Key × V)) → lookup (same_key k) (insert_entry same_key ps j v) ≡ cond (same_key j k) (Some v) (lookup (same_key k) ps)
value_more k j v [] = rw (same_key_sym k j) refl
value_more {V} k j v (p ∷ ps) = by (tested (same_key j p.0)) (tested (same_key j k)) (value_more k j v ps)
  where
    by : Tested (same_key j p.0) → Tested (same_key j k) → lookup (same_key k) (insert_entry same_key ps j v) ≡ cond (same_key j k) (Some v) (lookup (same_key k) ps) →
        lookup (same_key k) (insert_entry same_key (p ∷ ps) j v) ≡ cond (same_key j k) (Some v) (lookup (same_key k) (p ∷ ps))
    by (inl d) (inl t) h = let e : same_key k p.0 ≡ true = rw (sym (same_key_eq j k t)) d in rw (d, t, e) refl
    by (inl d) (inr t) h = let e : same_key k p.0 ≡ false = same_key_sym k p.0 ∙ rw (sym (same_key_eq j p.0 d)) t in rw (d, t, e) refl
    by (inr d) (inl t) h = let e : same_key k p.0 ≡ false = rw (sym (same_key_eq j k t)) d in rw (d, t, e) (h ∙ rw t refl)
    by (inr d) (inr t) h = rw (d, t) (ap (λ o. cond (same_key k p.0) (Some p.1) o) (h ∙ rw t refl))

-- a key among others is the same as others that have the key
pub any_among : (k : Key) (ks : List Key) → list_any (same_key k) ks ≡ is_key_in k ks
any_among k [] = refl
any_among k (j ∷ ks) = rw (same_key_sym k j, any_among k ks) refl

or_there : (a b : Bool) → a ≡ true → a ≡ (a || b)
or_there true b e = refl
or_there false b e = absurd (cc)

-- whether a key is among these after one was added
pub key_more : (k j : Key) (ks : List Key) → is_key_in k (insert_key same_key ks j) ≡ (is_key_in k ks || same_key j k)
key_more k j ks = by (tested (list_any (same_key j) ks)) (tested (same_key j k))
  where
    by : Tested (list_any (same_key j) ks) → Tested (same_key j k) → is_key_in k (insert_key same_key ks j) ≡ (is_key_in k ks || same_key j k)
    by (inr n) t = rw n (in_more k ks j)
    by (inl n) (inl t) = let e : is_key_in k ks ≡ true = rw (sym (same_key_eq j k t)) (sym (any_among j ks) ∙ n) in rw (n, e) refl
    by (inl n) (inr t) = rw (n, t) (no_more (is_key_in k ks))
      where
        no_more : (b : Bool) → b ≡ (b || false)
        no_more true = refl
        no_more false = refl

-- whether a key is in the changes after one more was written
pub change_more : (k : Key) (cs : List Change) (c : Change) → is_in k (cs ++ c ∷ []) ≡ (is_in k cs || same_key (key_of c) k)
change_more k [] c = by (same_key (key_of c) k)
  where
    by : (b : Bool) → (b || false) ≡ b
    by true = refl
    by false = refl
change_more k (d ∷ cs) c = by (same_key (key_of d) k) (change_more k cs c)
  where
    by : (b : Bool) → is_in k (cs ++ c ∷ []) ≡ (is_in k cs || same_key (key_of c) k) → (b || is_in k (cs ++ c ∷ [])) ≡ ((b || is_in k cs) || same_key (key_of c) k)
    by true i = refl
    by false i = i
