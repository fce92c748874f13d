-- What listeners have heard of a run goes on with each entry that they are told.
use Rattle.std.proofs.Common.{◌≡◌, ℕ, ◌+◌, ◌-◌, ◌≤◌, ◌==◌, ◌||◌, inl, inr, nat_lt, Bool, true, false, not, cond, List, [], ◌∷◌, ◌++◌, length, Some, None, Option, refl, ap, sym, ◌∙◌, append_assoc, arith}
use Rattle.std.specs.Option.{option_map}
use Rattle.std.specs.List.{flat_map}
use Rattle.std.proofs.lemmas.List.{append-nil, length_push}
use Rattle.std.proofs.lemmas.Bool.{lt-ltb, le-ltb, ltb-true, ltb-false, ne_eqb}
use Rattle.hib_base.proofs.Tables.{Tested, tested}
use Rattle.hib_journal.specs.Types.{Entry}
use Rattle.hib_outside.specs.declared.listener.Heard.{Heard}
use Rattle.hib_outside.specs.Hears.{heard_after, left_after, IsDue}
use Rattle.hib_listeners.specs.Told.{Told, AreTold}
use Rattle.hib_listeners.specs.Heard.{Teller, teller, tellers, stays_for, after_hearing, after_entries, HaveHeard}

flat_append : {A B : Type 0} (f : A → List B) (xs ys : List A) → flat_map f (xs ++ ys) ≡ flat_map f xs ++ flat_map f ys
flat_append f [] ys = refl
flat_append f (x ∷ xs) ys = ap (λ zs. f x ++ zs) (flat_append f xs ys) ∙ sym (append_assoc (f x) (flat_map f xs) (flat_map f ys))

-- one entry is told

one_stays : (e : Entry) (heard : Option (List Entry)) (left : Option ℕ) → IsDue Heard.Stay heard left
    → teller (heard_after Heard.Stay e heard) (left_after Heard.Stay left) ≡ after_entries (e ∷ []) (teller heard left)
one_stays e None left due = refl
one_stays e (Some es) None due = refl
one_stays e (Some es) (Some n) due =
    at_order (tested (nat_lt 1 n))
  where
    at_order : Tested (nat_lt 1 n) → teller (heard_after Heard.Stay e (Some es)) (left_after Heard.Stay (Some n)) ≡ after_entries (e ∷ []) (teller (Some es) (Some n))
    at_order (inl p) = rw p refl
    at_order (inr p) = let no : Heard.Stay ≡ Heard.Leave = due.1 (ltb-false 1 n p) in absurd (cc)

one_leaves : (e : Entry) (heard : Option (List Entry)) (left : Option ℕ) → IsDue Heard.Leave heard left → after_entries (e ∷ []) (teller heard left) ≡ []
one_leaves e None left due = refl
one_leaves e (Some es) None due = absurd (due refl)
one_leaves e (Some es) (Some n) due = let few : n ≤ 1 = due.0 refl in rw (le-ltb 1 n few) refl

-- those in front hear it, and the others don't; if all are told there are no others
abbrev pub HearsInFront : Entry → Bool → List Teller → List Teller → Type 0
HearsInFront e whole before after =
    (front : List Teller) × (back : List Teller) × (before ≡ front ++ back) × (after ≡ after_entries (e ∷ []) front ++ back) × (whole ≡ true → back ≡ [])

hears : (e : Entry) (whole : Bool) (before after : List Told) → AreTold e whole before after → HearsInFront e whole (tellers before) (tellers after)
hears e whole before after (AreTold.All) = ([], [], refl, refl, λ h. refl)
hears e whole before after (AreTold.Stays one w os ns due told) =
    let r = hears e whole os ns told in
    let mine = teller one.heard one.left in (
      mine ++ r.0,
      r.1,
      ap (λ ts. mine ++ ts) r.2 ∙ sym (append_assoc mine r.0 r.1),
      ap (λ ts. ts ++ tellers ns) (one_stays e one.heard one.left due) ∙ ap (λ ts. after_entries (e ∷ []) mine ++ ts) r.3
          ∙ sym (append_assoc (after_entries (e ∷ []) mine) (after_entries (e ∷ []) r.0) r.1) ∙ ap (λ ts. ts ++ r.1) (sym (flat_append (after_hearing (e ∷ [])) mine r.0)),
      r.4,
    )
hears e whole before after (AreTold.Leaves one w os ns due told) =
    let r = hears e whole os after told in
    let mine = teller one.heard one.left in (
      mine ++ r.0,
      r.1,
      ap (λ ts. mine ++ ts) r.2 ∙ sym (append_assoc mine r.0 r.1),
      r.3 ∙ ap (λ ts. ts ++ r.1) (sym (flat_append (after_hearing (e ∷ [])) mine r.0 ∙ ap (λ ts. ts ++ after_entries (e ∷ []) r.0) (one_leaves e one.heard one.left due))),
      r.4,
    )
hears e whole before after (AreTold.Stops one others) = ([], tellers (one ∷ others), refl, refl, λ h. cc)

-- one entry more

still_more : (m n : ℕ) → nat_lt 1 (n - m) ≡ nat_lt (m + 1) n
still_more m n = at_order (tested (nat_lt (m + 1) n))
  where
    at_order : Tested (nat_lt (m + 1) n) → nat_lt 1 (n - m) ≡ nat_lt (m + 1) n
    at_order (inl p) = let l = ltb-true (m + 1) n p in lt-ltb 1 (n - m) (omega arith) ∙ sym p
    at_order (inr p) = let l = ltb-false (m + 1) n p in le-ltb 1 (n - m) (omega arith) ∙ sym p

abbrev hearing_by : ℕ → List Entry → List Entry → Option ℕ → List Teller
hearing_by count es heard left = cond (stays_for count left) ((heard ++ es, option_map (λ n. n - count) left) ∷ []) []

not_none : (m : ℕ) → (m + 1 == 0) ≡ false
not_none m = ne_eqb (m + 1) 0 (λ h. omega arith)

stays_more : (m n : ℕ) → stays_for (m + 1) (Some n) ≡ nat_lt (m + 1) n
stays_more m n = ap (λ b. b || nat_lt (m + 1) n) (not_none m)

-- one that stays no longer leaves at no later entry
gone : (m n : ℕ) → stays_for m (Some n) ≡ false → nat_lt (m + 1) n ≡ false
gone m n h = let l = ltb-false m n (or_none (m == 0) (nat_lt m n) h) in le-ltb (m + 1) n (omega arith)
  where
    or_none : (a b : Bool) → (a || b) ≡ false → b ≡ false
    or_none true b h = absurd (cc)
    or_none false b h = h

hear_more : (m n : ℕ) (heard es : List Entry) (e : Entry) → after_entries (e ∷ []) (hearing_by m es heard (Some n)) ≡ hearing_by (m + 1) (es ++ e ∷ []) heard (Some n)
hear_more m n heard es e = at_test (tested (stays_for m (Some n)))
  where
    at_test : Tested (stays_for m (Some n)) → after_entries (e ∷ []) (hearing_by m es heard (Some n)) ≡ hearing_by (m + 1) (es ++ e ∷ []) heard (Some n)
    at_test (inl p) =
        ap (λ b. after_entries (e ∷ []) (cond b ((heard ++ es, Some (n - m)) ∷ []) [])) p ∙ (append-nil (after_hearing (e ∷ []) (heard ++ es, Some (n - m))) ∙ same)
      where
        same : after_hearing (e ∷ []) (heard ++ es, Some (n - m)) ≡ hearing_by (m + 1) (es ++ e ∷ []) heard (Some n)
        same =
            let less : n - m - 1 ≡ n - (m + 1) = omega arith in
            λ i. cond ((still_more m n ∙ sym (stays_more m n)) i) ((append_assoc heard es (e ∷ []) i, Some (less i)) ∷ []) []
    at_test (inr p) =
        ap (λ b. after_entries (e ∷ []) (cond b ((heard ++ es, Some (n - m)) ∷ []) [])) p
        ∙ ap (λ b. cond b ((heard ++ (es ++ e ∷ []), Some (n - (m + 1))) ∷ []) []) (sym (stays_more m n ∙ gone m n p))

hearing_more : (es : List Entry) (e : Entry) (one : Teller) → after_entries (e ∷ []) (after_hearing es one) ≡ after_hearing (es ++ e ∷ []) one
hearing_more es e one = at_left one.1
  where
    at_left : (left : Option ℕ) → after_entries (e ∷ []) (after_hearing es (one.0, left)) ≡ after_hearing (es ++ e ∷ []) (one.0, left)
    at_left None = ap (λ hs. (hs, None) ∷ []) (append_assoc one.0 es (e ∷ []))
    at_left (Some n) = hear_more (length es) n one.0 es e ∙ ap (λ m. hearing_by m (es ++ e ∷ []) one.0 (Some n)) (sym (length_push es e))

entries_more : (es : List Entry) (e : Entry) (all : List Teller) → after_entries (e ∷ []) (after_entries es all) ≡ after_entries (es ++ e ∷ []) all
entries_more es e [] = refl
entries_more es e (one ∷ others) =
    flat_append (after_hearing (e ∷ [])) (after_hearing es one) (after_entries es others)
    ∙ ap (λ ts. ts ++ after_entries (e ∷ []) (after_entries es others)) (hearing_more es e one)
    ∙ ap (λ ts. after_hearing (es ++ e ∷ []) one ++ ts) (entries_more es e others)

-- those that are left fall apart as they did at the start
abbrev pub FallsApart : List Entry → List Teller → List Teller → List Teller → Type 0
FallsApart es all front back = (f : List Teller) × (b : List Teller) × (all ≡ f ++ b) × (after_entries es f ≡ front) × (after_entries es b ≡ back)

nothing_in_front : {A : Type 0} (xs ys : List A) → xs ++ ys ≡ [] → (xs ≡ []) × (ys ≡ [])
nothing_in_front [] ys h = (refl, h)
nothing_in_front (x ∷ xs) ys h = absurd (cc)

falls_apart : (es : List Entry) (all front back : List Teller) → after_entries es all ≡ front ++ back → FallsApart es all front back
falls_apart es [] front back h = let n = nothing_in_front front back (sym h) in ([], [], refl, sym n.0, sym n.1)
falls_apart es (one ∷ others) [] back h = ([], one ∷ others, refl, refl, h)
falls_apart es (one ∷ others) (x ∷ front) back h = at_test (stays_for (length es) one.1) (λ f b q. falls_apart es others f b q) refl h
  where
    at_test : (c : Bool) → ((f b : List Teller) → after_entries es others ≡ f ++ b → FallsApart es others f b) → stays_for (length es) one.1 ≡ c
        → cond c ((one.0 ++ es, option_map (λ n. n - length es) one.1) ∷ []) [] ++ after_entries es others ≡ (x ∷ front) ++ back → FallsApart es (one ∷ others) (x ∷ front) back
    at_test true go p q =
        let mine : Teller = (one.0 ++ es, option_map (λ n. n - length es) one.1) in
        let head : mine ≡ x = cc in
        let rest : after_entries es others ≡ front ++ back = cc in
        let r = go front back rest in
        let here : after_hearing es one ≡ mine ∷ [] = ap (λ c. cond c (mine ∷ []) []) p in
        (one ∷ r.0, r.1, ap (λ ts. one ∷ ts) r.2, ap (λ ts. ts ++ after_entries es r.0) here ∙ (λ i. head i ∷ r.3 i), r.4)
    at_test false go p q =
        let mine : Teller = (one.0 ++ es, option_map (λ n. n - length es) one.1) in
        let r = go (x ∷ front) back q in
        let here : after_hearing es one ≡ [] = ap (λ c. cond c (mine ∷ []) []) p in
        (one ∷ r.0, r.1, ap (λ ts. one ∷ ts) r.2, ap (λ ts. ts ++ after_entries es r.0) here ∙ r.3, r.4)

-- no entry at all

silent : (all : List Teller) → all ≡ after_entries [] all
silent [] = refl
silent (one ∷ others) = at_left one.1 ∙ ap (λ ts. after_hearing [] one ++ ts) (silent others)
  where
    at_left : (left : Option ℕ) → (one.0, left) ∷ others ≡ after_hearing [] (one.0, left) ++ others
    at_left None = ap (λ hs. (hs, None) ∷ others) (sym (append-nil one.0))
    at_left (Some n) = let same : n ≡ n - 0 = omega arith in λ i. (sym (append-nil one.0) i, Some (same i)) ∷ others

pub nothing_told : (start : List Told) → HaveHeard false [] start start
nothing_told start = silent (tellers start)

pub goes_on : (e : Entry) (whole : Bool) (es : List Entry) (start now next : List Told) → HaveHeard false es start now → AreTold e whole now next
    → HaveHeard (not whole) (es ++ e ∷ []) start next
goes_on e true es start now next g t =
    let r = hears e true now next t in
    let all : tellers now ≡ r.0 = r.2 ∙ (ap (λ ts. r.0 ++ ts) (r.4 refl) ∙ append-nil r.0) in
    r.3 ∙ (ap (λ ts. after_entries (e ∷ []) r.0 ++ ts) (r.4 refl) ∙ append-nil (after_entries (e ∷ []) r.0))
    ∙ ap (λ ts. after_entries (e ∷ []) ts) (sym all ∙ g) ∙ entries_more es e (tellers start)
goes_on e false es start now next g t =
    let r = hears e false now next t in
    let s = falls_apart es (tellers start) r.0 r.1 (sym g ∙ r.2) in (
      es,
      e,
      s.0,
      s.1,
      refl,
      s.2,
      r.3 ∙ ap (λ ts. after_entries (e ∷ []) ts ++ r.1) (sym s.3) ∙ ap (λ ts. ts ++ r.1) (entries_more es e s.0) ∙ ap (λ ts. after_entries (es ++ e ∷ []) s.0 ++ ts) (sym s.4),
    )
