-- What is noted of keys, one change after another.
use Rattle.std.specs.Option.{option_or}
use Rattle.std.proofs.Common.{◌≡◌, ℕ, zero, suc, ◌+◌, ◌<◌, length, get_or, add-one, arith, Bool, true, false, cond, ◌||◌, List, [], ◌∷◌, ◌++◌, Some, None, Option, is_some, slice_get, drop, refl, sym, ap, ◌∙◌, append_assoc}
use Rattle.std.specs.List.{flat_map}
use Rattle.std.specs.Map.{keys_of as keys_in, lookup}
use Rattle.indexmap.specs.IndexMap.{insert_entry}
use Rattle.hib_base.specs.Keys.{same_key}
use Rattle.hib_journal.specs.Types.{Key, Change, Act}
use Rattle.hib_journal.specs.Next.{add_key}
use Rattle.hib_completion.specs.Completed.{is_key_in}
use Rattle.hib_completion.specs.Touched.{at_place, or_place, with_key}
use Rattle.hib_completion.proofs.Keys.{less, keep_there, keep_new, same_key_sym}

-- the item at a place, and those behind it
drop_at : {A : Type 0} (xs : List A) (i : ℕ) (x : A) → slice_get xs i ≡ Some x → drop i xs ≡ x ∷ drop (suc i) xs
drop_at [] i x e = absurd (cc)
drop_at (y ∷ ys) zero x e = let s : y ≡ x = cc in rw s refl
drop_at (y ∷ ys) (suc i) x e = drop_at ys i x e

pub next_one : {A : Type 0} (xs : List A) (i : ℕ) (x : A) → slice_get xs i ≡ Some x → drop i xs ≡ x ∷ drop (i + 1) xs
next_one xs i x e = rw add-one (drop_at xs i x e)

pub got_at : {A : Type 0} (xs : List A) (i : ℕ) (x : A) → i < length xs → x ≡ get_or xs i x → slice_get xs i ≡ Some x
got_at [] i x l e = absurd (omega (arith, l))
got_at (y ∷ ys) zero x l e = ap Some (sym e)
got_at (y ∷ ys) (suc i) x l e = let m : i < length ys = omega (arith, l) in got_at ys i x m e

-- a key has something exactly if it is among the keys
pub is_there : {V : Type 0} (k : Key) (ps : List (Key × V)) → is_some (lookup (same_key k) ps) ≡ is_key_in k (keys_in ps)
is_there k [] = refl
is_there k (p ∷ ps) = rw (same_key_sym k p.0) (by (same_key p.0 k) (is_there k ps))
  where
    by : (b : Bool) → is_some (lookup (same_key k) ps) ≡ is_key_in k (keys_in ps) → is_some (cond b (Some p.1) (lookup (same_key k) ps)) ≡ (b || is_key_in k (keys_in ps))
    by true i = refl
    by false i = i

-- one key more, and the rest
pub keys_more : (ks : List Key) (k : Key) (js whole : List Key) → ks ++ less ks (add_key k js) ≡ whole → with_key k ks ++ less (with_key k ks) js ≡ whole
keys_more ks k js whole h = by (is_key_in k ks) refl
  where
    by : (b : Bool) → is_key_in k ks ≡ b → cond b ks (ks ++ k ∷ []) ++ less (cond b ks (ks ++ k ∷ [])) js ≡ whole
    by true e = keep_there ks k js whole e h
    by false e = keep_new ks k js whole e h

-- each place that is noted is one of a change
pub there_more : (cs : List Change) (a : Option ℕ) (b : Bool) (i : ℕ) (c : Change) → slice_get cs i ≡ Some c → is_some (at_place cs a) ≡ is_some a →
    is_some (at_place cs (or_place a (cond b (Some i) None))) ≡ is_some (or_place a (cond b (Some i) None))
there_more cs (Some p) b i c e t = t
there_more cs None true i c e t = ap is_some e
there_more cs None false i c e t = refl

-- the first of so far, of one more, and of the rest
pub first_more : (cs : List Change) (a : Option ℕ) (b : Bool) (i : ℕ) (c : Change) (rest whole : Option Change) → slice_get cs i ≡ Some c → is_some (at_place cs a) ≡ is_some a →
    option_or (at_place cs a) (cond b (Some c) rest) ≡ whole → option_or (at_place cs (or_place a (cond b (Some i) None))) rest ≡ whole
first_more cs (Some p) b i c rest whole e t h = by (slice_get cs p) t h
  where
    by : (o : Option Change) → is_some o ≡ true → option_or o (cond b (Some c) rest) ≡ whole → option_or o rest ≡ whole
    by (Some d) t h = h
    by None t h = absurd (cc)
first_more cs None true i c rest whole e t h = rw e h
first_more cs None false i c rest whole e t h = h

-- and the last
pub last_more : (cs : List Change) (a : Option ℕ) (rest : Option Change) (b : Bool) (i : ℕ) (c : Change) (whole : Option Change) → slice_get cs i ≡ Some c →
    option_or (option_or rest (cond b (Some c) None)) (at_place cs a) ≡ whole → option_or rest (at_place cs (cond b (Some i) a)) ≡ whole
last_more cs a (Some d) b i c whole e h = h
last_more cs a None true i c whole e h = rw e h
last_more cs a None false i c whole e h = h

-- what completes one key more
pub acts_more : (f : Key → List Act) (ks : List Key) (i : ℕ) (k : Key) (done acts whole : List Act) → slice_get ks i ≡ Some k → acts ≡ f k → done ++ flat_map f (drop i ks) ≡ whole →
    (done ++ acts) ++ flat_map f (drop (i + 1) ks) ≡ whole
acts_more f ks i k done acts whole e a h =
    let rest : List Act = flat_map f (drop (i + 1) ks) in
    append_assoc done acts rest ∙ (ap (λ (x : List Act). done ++ (x ++ rest)) a ∙ (ap (λ (x : List Key). done ++ flat_map f x) (sym (next_one ks i k e)) ∙ h))

-- a new key comes last
pub new_last : {V : Type 0} (k : Key) (v : V) (ps : List (Key × V)) → is_some (lookup (same_key k) ps) ≡ false → keys_in (insert_entry same_key ps k v) ≡ keys_in ps ++ k ∷ []
new_last k v [] e = refl
new_last {V} k v (p ∷ ps) e = by (same_key k p.0) e (λ x. new_last k v ps x)
  where
    by : (b : Bool) → is_some (cond b (Some p.1) (lookup (same_key k) ps)) ≡ false → (is_some (lookup (same_key k) ps) ≡ false → keys_in (insert_entry same_key ps k v) ≡ keys_in ps ++ k ∷ []) →
        keys_in (cond b ((p.0, v) ∷ ps) (p ∷ insert_entry same_key ps k v)) ≡ p.0 ∷ (keys_in ps ++ k ∷ [])
    by true e i = absurd (cc)
    by false e i = ap (λ ks. p.0 ∷ ks) (i e)
