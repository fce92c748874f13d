-- Entries of a map that keeps the order of insertion, and the instances that contracts see.
use Rattle.std.proofs.Common.{◌≡◌, ℕ, Bool, true, false, cond, [], ◌∷◌, Some, None, is_some, position, slice_get, refl, sym, ap, ◌∙◌}
use Rattle.std.specs.Map.{keys_of, values_of, lookup}
use Rattle.hib_journal.specs.Types.{Key, Held}
use Rattle.hib_base.specs.Keys.{same_key}
use Rattle.indexmap.specs.IndexMap.{insert_entry, set_value_at}
use Rattle.indexmap.proofs.MapLemmas.{Found-position, insert_entry-first}
use Rattle.hib_identity_map.specs.Identity.{Pairs, look_in, put_in, add_in, change_in}

pub look_same : (k : Key) (ps : Pairs) → lookup (same_key k) ps ≡ look_in ps k
look_same k [] = refl
look_same k (p ∷ ps) = by (same_key k p.0) (look_same k ps)
  where
    by : (b : Bool) → lookup (same_key k) ps ≡ look_in ps k → cond b (Some p.1) (lookup (same_key k) ps) ≡ cond b (Some p.1) (look_in ps k)
    by true i = refl
    by false i = i

put_same : (k : Key) (h : Held) (ps : Pairs) → insert_entry same_key ps k h ≡ put_in k h ps
put_same k h [] = refl
put_same k h (p ∷ ps) = by (same_key k p.0) (put_same k h ps)
  where
    by : (b : Bool) → insert_entry same_key ps k h ≡ put_in k h ps → cond b ((p.0, h) ∷ ps) (p ∷ insert_entry same_key ps k h) ≡ cond b ((p.0, h) ∷ ps) (p ∷ put_in k h ps)
    by true i = refl
    by false i = ap (λ xs. p ∷ xs) i

-- a new key comes last
pub add_same : (k : Key) (h : Held) (ps : Pairs) → look_in ps k ≡ None → insert_entry same_key ps k h ≡ add_in k h ps
add_same k h [] n = refl
add_same k h (p ∷ ps) n = by (same_key k p.0) n (λ e. add_same k h ps e)
  where
    by : (b : Bool) → cond b (Some p.1) (look_in ps k) ≡ None → (look_in ps k ≡ None → insert_entry same_key ps k h ≡ add_in k h ps) → cond b ((p.0, h) ∷ ps) (p ∷ insert_entry same_key ps k h) ≡ p ∷ add_in k h ps
    by true e i = absurd (cc)
    by false e i = ap (λ xs. p ∷ xs) (i e)

-- a write by place is a write by key
pub written : (k : Key) (i : ℕ) (ps : Pairs) (h : Held) → position (same_key k) (keys_of ps) ≡ Some i → set_value_at ps i h ≡ put_in k h ps
written k i ps h at = sym (insert_entry-first same_key k h ps i (Found-position (same_key k) ps i at).first) ∙ put_same k h ps

change_same : (k : Key) (f : Held → Held) (ps : Pairs) (h : Held) → lookup (same_key k) ps ≡ Some h → put_in k (f h) ps ≡ change_in k f ps
change_same k f [] h e = absurd (cc)
change_same k f (p ∷ ps) h e = by (same_key k p.0) e (λ x. change_same k f ps h x)
  where
    by : (b : Bool) → cond b (Some p.1) (lookup (same_key k) ps) ≡ Some h → (lookup (same_key k) ps ≡ Some h → put_in k (f h) ps ≡ change_in k f ps) →
        cond b ((p.0, f h) ∷ ps) (p ∷ put_in k (f h) ps) ≡ cond b ((p.0, f p.1) ∷ ps) (p ∷ change_in k f ps)
    by true e i = let s : p.1 ≡ h = cc in ap (λ x. (p.0, f x) ∷ ps) (sym s)
    by false e i = ap (λ xs. p ∷ xs) (i e)

-- a change by place is a change by key
pub changed : (k : Key) (i : ℕ) (f : Held → Held) (ps : Pairs) (h : Held) → position (same_key k) (keys_of ps) ≡ Some i → slice_get (values_of ps) i ≡ Some h → set_value_at ps i (f h) ≡ change_in k f ps
changed k i f ps h at is = written k i ps (f h) at ∙ change_same k f ps h ((Found-position (same_key k) ps i at).value ∙ is)

-- nothing changes if the instance stays as it is
pub kept_same : (k : Key) (ps : Pairs) → change_in k (λ h. h) ps ≡ ps
kept_same k [] = refl
kept_same k (p ∷ ps) = by (same_key k p.0) (kept_same k ps)
  where
    by : (b : Bool) → change_in k (λ h. h) ps ≡ ps → cond b ((p.0, p.1) ∷ ps) (p ∷ change_in k (λ h. h) ps) ≡ p ∷ ps
    by true e = refl
    by false e = ap (λ xs. p ∷ xs) e

absent_same : (k : Key) (f : Held → Held) (ps : Pairs) → is_some (lookup (same_key k) ps) ≡ false → change_in k f ps ≡ ps
absent_same k f [] e = refl
absent_same k f (p ∷ ps) e = by (same_key k p.0) e (λ x. absent_same k f ps x)
  where
    by : (b : Bool) → is_some (cond b (Some p.1) (lookup (same_key k) ps)) ≡ false → (is_some (lookup (same_key k) ps) ≡ false → change_in k f ps ≡ ps) →
        cond b ((p.0, f p.1) ∷ ps) (p ∷ change_in k f ps) ≡ p ∷ ps
    by true e i = absurd (cc)
    by false e i = ap (λ xs. p ∷ xs) (i e)

-- nothing changes if the key is not there
pub unchanged : (k : Key) (f : Held → Held) (ps : Pairs) → false ≡ is_some (lookup (same_key k) ps) → ps ≡ change_in k f ps
unchanged k f ps e = sym (absent_same k f ps (sym e))
