-- Which keys changes change, and the rows that stand there.
use Rattle.std.specs.Option.{option_or}
use Rattle.std.proofs.Common.{◌≡◌, ℕ, ◌+◌, ◌<◌, ◌≤◌, Bool, true, false, cond, ◌&&◌, ◌||◌, List, [], ◌∷◌, ◌++◌, length, take, get_or, Some, None, Option, is_some, refl, ap, sym, ◌∙◌, subst, inl, inr}
use Rattle.std.specs.List.{list_any}
use Rattle.std.specs.Cmp.{unsigned_tied, nat_eq_equiv}
use Rattle.std.specs.Ordering.{ordering_then, nat_cmp, is_eq}
use Rattle.std.specs.declared.cmp.Ordering.{Ordering}
use Rattle.std.specs.declared.cmp.Ordering.TheVariants.{Less, Equal, Greater}
use Rattle.std.proofs.lemmas.Bool.{true≢false}
use Rattle.std.proofs.lemmas.List.{take_more, take_all}
use Rattle.std.proofs.lemmas.List.Folds.{list_any-append}
use Rattle.hib_base.specs.Keys.{same_key}
use Rattle.hib_base.specs.Tables.{Tables, row_at, row_left, key_of, after_change, after_changes, last_on}
use Rattle.hib_outside.proofs.Commits.{after_changes_push}
use Rattle.hib_base.proofs.Tables.{Tested, tested, same_key_eq, left_by, row_at_changes, row_at_change, row_at_other_change}
use Rattle.hib_journal.specs.Types.{Key, Row, Change}
use Rattle.hib_query_eval.specs.Found.{row_in}
use Rattle.hib_query_eval.specs.declared.own.Laid.{Laid}
use Rattle.hib_query_eval.specs.Views.{has_key, has_changed, is_changed, Lays}

-- the derived order of keys
abbrev pub key_cmp : Key → Key → Ordering
key_cmp a b = ordering_then (nat_cmp a.entity b.entity) (nat_cmp a.id b.id)

then_both : (o p : Ordering) → is_eq (ordering_then o p) ≡ (is_eq o && is_eq p)
then_both Less p = refl
then_both Equal p = refl
then_both Greater p = refl

pub key_ties : (k j : Key) → is_eq (key_cmp k j) ≡ same_key j k
key_ties k j =
    then_both (nat_cmp k.entity j.entity) (nat_cmp k.id j.id)
    ∙ (λ i. (unsigned_tied k.entity j.entity ∙ nat_eq_equiv.symm k.entity j.entity) i && (unsigned_tied k.id j.id ∙ nat_eq_equiv.symm k.id j.id) i)

pub key_there : (ks : List Key) (k : Key) → list_any (λ j. is_eq (key_cmp k j)) ks ≡ has_key ks k
key_there [] k = refl
key_there (j ∷ ks) k = λ i. key_ties k j i || key_there ks k i

pub key_added : (ks new : List Key) (k : Key)
    → ((q : Key) → list_any (λ j. is_eq (key_cmp q j)) new ≡ cond (is_eq (key_cmp k q)) true (list_any (λ j. is_eq (key_cmp q j)) ks))
    → (q : Key) → has_key new q ≡ has_key (k ∷ ks) q
key_added ks new k f q =
    sym (key_there new q) ∙ f q ∙ (λ i. cond ((key_ties k q ∙ symm k q) i) true (key_there ks q i)) ∙ at (same_key k q)
  where
    symm : (a b : Key) → same_key b a ≡ same_key a b
    symm a b = λ i. nat_eq_equiv.symm b.entity a.entity i && nat_eq_equiv.symm b.id a.id i

    at : (b : Bool) → cond b true (has_key ks q) ≡ (b || has_key ks q)
    at true = refl
    at false = refl

or_true : (b : Bool) → (b || true) ≡ true
or_true true = refl
or_true false = refl

or_false : (b : Bool) → (b || false) ≡ b
or_false true = refl
or_false false = refl

-- one change more
module _ (cs : List Change) (c : Change) (old new : Laid)
    (gone : (q : Key) → has_key new.gone.keys q ≡ cond (is_some (row_left c)) (has_key old.gone.keys q) (has_key (key_of c ∷ old.gone.keys) q))
    (left : new.left ≡ after_change c old.left) (x : Lays cs old) where
  row_here : (q : Key) → same_key (key_of c) q ≡ true → row_at new.left q ≡ row_left c
  row_here q s = ap (λ t. row_at t q) left ∙ row_at_change c old.left q s

  row_elsewhere : (q : Key) → same_key (key_of c) q ≡ false → row_at new.left q ≡ row_at old.left q
  row_elsewhere q s = ap (λ t. row_at t q) left ∙ row_at_other_change c old.left q s

  changed_more : (q : Key) (b : Bool) → same_key (key_of c) q ≡ b → is_changed q (cs ++ c ∷ []) ≡ (is_changed q cs || (b || false))
  changed_more q b s =
      list_any-append (λ d. same_key (key_of d) q) cs (c ∷ []) ∙ ap (λ v. is_changed q cs || (v || false)) s

  gone_elsewhere : (q : Key) → same_key (key_of c) q ≡ false → has_key new.gone.keys q ≡ has_key old.gone.keys q
  gone_elsewhere q s = gone q ∙ ap (λ v. cond (is_some (row_left c)) (has_key old.gone.keys q) (v || has_key old.gone.keys q)) s ∙ alike (is_some (row_left c))
    where
      alike : (b : Bool) → cond b (has_key old.gone.keys q) (has_key old.gone.keys q) ≡ has_key old.gone.keys q
      alike true = refl
      alike false = refl

  keys_more : (q : Key) → Tested (same_key (key_of c) q) → Tested (is_some (row_left c)) → has_changed new q ≡ is_changed q (cs ++ c ∷ [])
  keys_more q (inl s) (inl r) =
      ap (λ b. b || has_key new.gone.keys q) (ap is_some (row_here q s) ∙ r)
      ∙ sym (changed_more q true s ∙ or_true (is_changed q cs))
  keys_more q (inl s) (inr r) =
      ap (λ b. b || has_key new.gone.keys q) (ap is_some (row_here q s) ∙ r)
      ∙ gone q ∙ ap (λ b. cond b (has_key old.gone.keys q) (has_key (key_of c ∷ old.gone.keys) q)) r
      ∙ ap (λ b. b || has_key old.gone.keys q) s
      ∙ sym (changed_more q true s ∙ or_true (is_changed q cs))
  keys_more q (inr s) r =
      (λ i. is_some (row_elsewhere q s i) || gone_elsewhere q s i)
      ∙ x.keys q ∙ sym (changed_more q false s ∙ or_false (is_changed q cs))

  pub lays_more : Lays (cs ++ c ∷ []) new
  lays_more = record {
    keys = λ q. keys_more q (tested (same_key (key_of c) q)) (tested (is_some (row_left c)));
    left = left ∙ ap (after_change c) x.left ∙ sym (after_changes_push cs c []);
  }

pub lays_next : (cs : List Change) (i : ℕ) (c : Change) (new : Laid) → i < length cs → c ≡ get_or cs i c → Lays (take i cs ++ c ∷ []) new → Lays (take (i + 1) cs) new
lays_next cs i c new l e x = subst (λ ds. Lays ds new) (sym (take_more cs i c l ∙ ap (λ d. take i cs ++ d ∷ []) (sym e))) x

pub lays_all : (cs : List Change) (i : ℕ) (laid : Laid) → length cs ≤ i → Lays (take i cs) laid → Lays cs laid
lays_all cs i laid l x = subst (λ ds. Lays ds laid) (take_all i cs l) x

-- the last change on a key
changed_last : (k : Key) (cs : List Change) → is_changed k cs ≡ is_some (last_on k cs)
changed_last k [] = refl
changed_last k (c ∷ cs) = ap (λ b. same_key (key_of c) k || b) (changed_last k cs) ∙ at (last_on k cs) (same_key (key_of c) k)
  where
    at : (o : Option Change) (b : Bool) → (b || is_some o) ≡ is_some (option_or o (cond b (Some c) None))
    at (Some d) true = refl
    at (Some d) false = refl
    at None true = refl
    at None false = refl

pub row_changed : (k : Key) (cs : List Change) (t : Tables) → is_changed k cs ≡ true → row_at (after_changes cs []) k ≡ row_at (after_changes cs t) k
row_changed k cs t h = row_at_changes cs [] k ∙ at (last_on k cs) (sym (changed_last k cs) ∙ h) ∙ sym (row_at_changes cs t k)
  where
    at : (o : Option Change) → is_some o ≡ true → left_by o None ≡ left_by o (row_at t k)
    at None g = absurd (true≢false (sym g))
    at (Some c) g = refl

pub row_unchanged : (k : Key) (cs : List Change) (t : Tables) → is_changed k cs ≡ false → row_at t k ≡ row_at (after_changes cs t) k
row_unchanged k cs t h = at (last_on k cs) (sym (changed_last k cs) ∙ h) ∙ sym (row_at_changes cs t k)
  where
    at : (o : Option Change) → is_some o ≡ false → row_at t k ≡ left_by o (row_at t k)
    at None g = refl
    at (Some c) g = absurd (true≢false g)

-- a key with its row is its row
abbrev with_key : Key → Option Row → Option (Key × Row)
with_key k None = None
with_key k (Some r) = Some (k, r)

row_in_at : (t : Tables) (k : Key) → row_in t k ≡ with_key k (row_at t k)
row_in_at [] k = refl
row_in_at (e ∷ es) k = at (tested (same_key e.0 k)) (row_in_at es k)
  where
    at : Tested (same_key e.0 k) → row_in es k ≡ with_key k (row_at es k) → row_in (e ∷ es) k ≡ with_key k (row_at (e ∷ es) k)
    at (inl s) h = rw s (ap (λ j. Some (j, e.1)) (same_key_eq e.0 k s))
    at (inr s) h = rw s h

pub entry_same : (t u : Tables) (k : Key) → row_at t k ≡ row_at u k → row_in t k ≡ row_in u k
entry_same t u k h = row_in_at t k ∙ ap (with_key k) h ∙ sym (row_in_at u k)

-- the rows among which a key's row stands
module _ (rows : Tables) (cs : List Change) (laid : Laid) (x : Lays cs laid) where
  pub row_left_there : (k : Key) → has_changed laid k ≡ true → row_at laid.left k ≡ row_at (after_changes cs rows) k
  row_left_there k h = ap (λ t. row_at t k) x.left ∙ row_changed k cs rows (sym (x.keys k) ∙ h)

  pub row_kept_there : (k : Key) → has_changed laid k ≡ false → row_at rows k ≡ row_at (after_changes cs rows) k
  row_kept_there k h = row_unchanged k cs rows (sym (x.keys k) ∙ h)
