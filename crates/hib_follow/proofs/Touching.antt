-- What an entry does to each key, by what it does to the key that it names and to the one that leaves for it.
use Rattle.std.specs.Prelude.{option_to_list}
use Rattle.std.specs.List.{list_any}
use Rattle.std.specs.Option.{option_map_or}
use Rattle.std.proofs.Common.{◌≡◌, ℕ, ◌==◌, Bool, true, false, cond, ◌&&◌, ◌||◌, List, Some, None, Option, is_some, refl, sym, ap, ◌∙◌, subst, inl, inr}
use Rattle.std.proofs.Math.Bool.{and-false, or-false}
use Rattle.std.proofs.lemmas.Bool.{eqb-true, and_parts, true≢false}
use Rattle.std.proofs.lemmas.List.Folds.{list_any-append}
use Rattle.hib_base.specs.Keys.{same_key}
use Rattle.hib_base.proofs.Tables.{Tested, tested, same_key_eq}
use Rattle.hib_journal.specs.Types.{Key, Act, Reply, Entry, Strategy}
use Rattle.hib_journal.specs.Slot.{Touch, Slot, key_in, touch, touch_here, touch_at, evicted_in}
use Rattle.hib_follow.specs.Steps.{after}
use Rattle.hib_follow.specs.Shelves.{kept_slot}
use Rattle.hib_follow.specs.Touched.{leaving, is_key, touched_by, touched_keys}
use Rattle.hib_follow.specs.declared.kept.Kept.{Kept}

-- of any region, a key that leaves has nothing, and one that is not touched what it had
left_of : (g : Strategy) (timeout now : ℕ) (s : Slot) → after g timeout now (Some Touch.Leaves) s ≡ Slot.Vacant
left_of Strategy.ReadWrite timeout now s = refl
left_of Strategy.ReadOnly timeout now s = refl
left_of Strategy.Nonstrict timeout now s = refl
left_of Strategy.Uncached timeout now s = refl

rests : (g : Strategy) (timeout now : ℕ) (s : Slot) → after g timeout now None s ≡ s
rests Strategy.ReadWrite timeout now s = refl
rests Strategy.ReadOnly timeout now s = refl
rests Strategy.Nonstrict timeout now s = refl
rests Strategy.Uncached timeout now s = refl

-- the key that an entry names does not leave for itself
leaves_other : (k here : Key) (i : Option ℕ) → same_key here k ≡ true → is_key k (leaving here i) ≡ false
leaves_other k here None e = refl
leaves_other k here (Some i) e = by (tested (i == here.id))
  where
    ids : here.id ≡ k.id
    ids = eqb-true here.id k.id ((and_parts (here.entity == k.entity) (here.id == k.id) e).1)

    by : Tested (i == here.id) → is_key k (leaving here (Some i)) ≡ false
    by (inl p) = rw p refl
    by (inr p) = rw p (rw (← ids, p, and-false (here.entity == k.entity)) refl)

-- another key leaves if it is the one that is named as evicted
leaves_if : (k here : Key) (i : Option ℕ) → same_key here k ≡ false →
    is_key k (leaving here i) ≡ ((here.entity == k.entity) && option_map_or (λ j. j == k.id) i false)
leaves_if k here None e = sym (and-false (here.entity == k.entity))
leaves_if k here (Some i) e = by (tested (i == here.id))
  where
    by : Tested (i == here.id) → is_key k (leaving here (Some i)) ≡ ((here.entity == k.entity) && (i == k.id))
    by (inl p) = rw p (sym (subst (λ j. ((here.entity == k.entity) && (j == k.id)) ≡ false) (sym (eqb-true i here.id p)) e))
    by (inr p) = rw p refl

other : (g : Strategy) (timeout now : ℕ) (b : Bool) (old own new : Slot) → own ≡ old → new ≡ cond b Slot.Vacant own →
    new ≡ after g timeout now (cond b (Some Touch.Leaves) None) old
other g timeout now true old own new o n = n ∙ sym (left_of g timeout now old)
other g timeout now false old own new o n = n ∙ o ∙ sym (rests g timeout now old)

pub touched_slot : (g : Key → Strategy) (timeout now : ℕ) (k here : Key) (a : Act) (r : Reply) (old own : Key → Slot) (new : Slot) →
    own here ≡ after (g here) timeout now (touch_here a r) (old here) → ((j : Key) → same_key here j ≡ false → own j ≡ old j) →
    new ≡ cond (is_key k (leaving here (evicted_in r))) Slot.Vacant (own k) →
    new ≡ after (g k) timeout now (touch_at k here a r) (old k)
touched_slot g timeout now k here a r old own new o rest n = by (tested (same_key here k))
  where
    by : Tested (same_key here k) → new ≡ after (g k) timeout now (touch_at k here a r) (old k)
    by (inl p) =
        let m : new ≡ own k = rw (leaves_other k here (evicted_in r) p) at n in
        rw p (m ∙ subst (λ j. own j ≡ after (g j) timeout now (touch_here a r) (old j)) (same_key_eq here k p) o)
    by (inr p) =
        let m : new ≡ cond ((here.entity == k.entity) && option_map_or (λ j. j == k.id) (evicted_in r) false) Slot.Vacant (own k) =
        subst (λ b. new ≡ cond b Slot.Vacant (own k)) (leaves_if k here (evicted_in r) p) n in
        rw p (other (g k) timeout now ((here.entity == k.entity) && option_map_or (λ j. j == k.id) (evicted_in r) false) (old k) (own k) new (rest k p) m)

since_other : (b : Bool) (since : ℕ) (old own new : Option ℕ) → own ≡ old → new ≡ cond b (Some since) own →
    new ≡ cond (is_some (cond b (Some Touch.Leaves) None)) (Some since) old
since_other true since old own new o n = n
since_other false since old own new o n = n ∙ o

pub touched_since : (since : ℕ) (k here : Key) (a : Act) (r : Reply) (old own : Key → Option ℕ) (new : Option ℕ) →
    own here ≡ cond (is_some (touch_here a r)) (Some since) (old here) → ((j : Key) → same_key here j ≡ false → own j ≡ old j) →
    new ≡ cond (is_key k (leaving here (evicted_in r))) (Some since) (own k) →
    new ≡ cond (is_some (touch_at k here a r)) (Some since) (old k)
touched_since since k here a r old own new o rest n = by (tested (same_key here k))
  where
    by : Tested (same_key here k) → new ≡ cond (is_some (touch_at k here a r)) (Some since) (old k)
    by (inl p) =
        let m : new ≡ own k = rw (leaves_other k here (evicted_in r) p) at n in
        rw p (m ∙ subst (λ j. own j ≡ cond (is_some (touch_here a r)) (Some since) (old j)) (same_key_eq here k p) o)
    by (inr p) =
        let m : new ≡ cond ((here.entity == k.entity) && option_map_or (λ j. j == k.id) (evicted_in r) false) (Some since) (own k) =
        subst (λ b. new ≡ cond b (Some since) (own k)) (leaves_if k here (evicted_in r) p) n in
        rw p (since_other ((here.entity == k.entity) && option_map_or (λ j. j == k.id) (evicted_in r) false) since (old k) (own k) new (rest k p) m)

pub untouched : (g : Strategy) (timeout now : ℕ) (t : Option Touch) (s : Slot) → is_some t ≡ false → s ≡ after g timeout now t s
untouched g timeout now None s e = sym (rests g timeout now s)
untouched g timeout now (Some t) s e = absurd (true≢false e)

pub kept_if : (es : List Entry) (b : Bool) (old new : Kept) → new ≡ cond b Kept.Nothing old → kept_slot es new ≡ cond b Slot.Vacant (kept_slot es old)
kept_if es true old new e = ap (kept_slot es) e
kept_if es false old new e = ap (kept_slot es) e

-- the keys that an entry touches are those to which it does something

any_of : (k : Key) (o : Option Key) → list_any (λ j. same_key j k) (option_to_list o) ≡ is_key k o
any_of k None = refl
any_of k (Some j) = or-false (same_key j k)

key_if : (b : Bool) (k here : Key) → is_key k (cond b (Some here) None) ≡ (b && same_key here k)
key_if true k here = refl
key_if false k here = refl

and_true : (b : Bool) → (b && true) ≡ b
and_true true = refl
and_true false = refl

leaves_some : (b : Bool) → is_some (cond b (Some Touch.Leaves) None) ≡ b
leaves_some true = refl
leaves_some false = refl

touched_here : (k here : Key) (a : Act) (r : Reply) → list_any (λ j. same_key j k) (touched_by a r here) ≡ is_some (touch_at k here a r)
touched_here k here a r =
    list_any-append (λ j. same_key j k) (option_to_list (cond (is_some (touch_here a r)) (Some here) None)) (option_to_list (leaving here (evicted_in r)))
    ∙ (λ i. (any_of k (cond (is_some (touch_here a r)) (Some here) None) ∙ key_if (is_some (touch_here a r)) k here) i || any_of k (leaving here (evicted_in r)) i)
    ∙ by (tested (same_key here k))
  where
    by : Tested (same_key here k) → ((is_some (touch_here a r) && same_key here k) || is_key k (leaving here (evicted_in r))) ≡ is_some (touch_at k here a r)
    by (inl p) = rw (p, leaves_other k here (evicted_in r) p, and_true (is_some (touch_here a r)), or-false (is_some (touch_here a r))) refl
    by (inr p) =
        rw (p, leaves_if k here (evicted_in r) p, and-false (is_some (touch_here a r)))
        (sym (leaves_some ((here.entity == k.entity) && option_map_or (λ j. j == k.id) (evicted_in r) false)))

pub touched_any : (k : Key) (e : Entry) → list_any (λ j. same_key j k) (touched_keys e) ≡ is_some (touch k e)
touched_any k e = by (key_in e.act) refl
  where
    by : (o : Option Key) → key_in e.act ≡ o → list_any (λ j. same_key j k) (touched_keys e) ≡ is_some (touch k e)
    by None p = rw p refl
    by (Some here) p = rw p (touched_here k here e.act e.reply)
