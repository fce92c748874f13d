-- The keys that are not sound, chosen while they are collected, are those of all keys that aren't.
use Rattle.std.proofs.Common.{◌≡◌, ◌∷◌, Bool, true, false, cond, not, ◌&&◌, List, [], Some, None, Option, refl, ap, sym, ◌∙◌, inl, inr}
use Rattle.std.specs.List.{filter, list_all}
use Rattle.std.proofs.lemmas.Bool.{and_parts, and_from}
use Rattle.hib_base.specs.Keys.{same_key, is_before}
use Rattle.hib_base.proofs.Tables.{Tested, tested, same_key_eq}
use Rattle.hib_outside.proofs.Orders.{is_before_trans, is_before_total, before_differs}
use Rattle.hib_journal.specs.Types.{Key, Entry, Script}
use Rattle.hib_journal.specs.Sessions.{Journal}
use Rattle.hib_journal.specs.Next.{strategy}
use Rattle.hib_journal.specs.Sound.{is_sound}
use Rattle.hib_report.specs.Unsound.{named, is_read_write, with_key, with_named, with_unsound, keys_in}

-- ---- the keys rise
abbrev above : Key → List Key → Bool
above k js = list_all (λ j. is_before k j) js

abbrev rises : List Key → Bool
rises [] = true
rises (j ∷ js) = above j js && rises js

above_trans : (i k : Key) (js : List Key) → is_before i k ≡ true → above k js ≡ true → above i js ≡ true
above_trans i k [] b h = refl
above_trans i k (j ∷ js) b h =
    let w : (is_before k j ≡ true) × (above k js ≡ true) = and_parts (is_before k j) (above k js) h in
    and_from (is_before i j) (above i js) (is_before_trans i k j b w.0) (above_trans i k js b w.1)

above_with : (i k : Key) (js : List Key) → is_before i k ≡ true → above i js ≡ true → above i (with_key k js) ≡ true
above_with i k [] b h = and_from (is_before i k) true b refl
above_with i k (j ∷ js) b h =
    let w : (is_before i j ≡ true) × (above i js ≡ true) = and_parts (is_before i j) (above i js) h in
    at (same_key j k) (is_before k j) w.0 (above_with i k js b w.1)
  where
    at : (s p : Bool) → is_before i j ≡ true → above i (with_key k js) ≡ true → above i (cond s (j ∷ js) (cond p (k ∷ j ∷ js) (j ∷ with_key k js))) ≡ true
    at true p f g = h
    at false true f g = and_from (is_before i k) (above i (j ∷ js)) b h
    at false false f g = and_from (is_before i j) (above i (with_key k js)) f g

rises_with : (k : Key) (js : List Key) → rises js ≡ true → rises (with_key k js) ≡ true
rises_with k [] h = refl
rises_with k (j ∷ js) h =
    let w : (above j js ≡ true) × (rises js ≡ true) = and_parts (above j js) (rises js) h in
    at (tested (same_key j k)) (tested (is_before k j)) w.0 (rises_with k js w.1)
  where
    at : Tested (same_key j k) → Tested (is_before k j) → above j js ≡ true → rises (with_key k js) ≡ true → rises (with_key k (j ∷ js)) ≡ true
    at (inl s) b f g = ap (λ v. rises (cond v (j ∷ js) (cond (is_before k j) (k ∷ j ∷ js) (j ∷ with_key k js)))) s ∙ h
    at (inr s) (inl b) f g =
        (λ i. rises (cond (s i) (j ∷ js) (cond (b i) (k ∷ j ∷ js) (j ∷ with_key k js))))
        ∙ and_from (above k (j ∷ js)) (rises (j ∷ js)) (and_from (is_before k j) (above k js) b (above_trans k j js b f)) h
    at (inr s) (inr b) f g =
        (λ i. rises (cond (s i) (j ∷ js) (cond (b i) (k ∷ j ∷ js) (j ∷ with_key k js))))
        ∙ and_from (above j (with_key k js)) (rises (with_key k js)) (above_with j k js (is_before_total j k s b) f) g

rises_named : (script : Script) (o : Option Key) (js : List Key) → rises js ≡ true → rises (with_named script o js) ≡ true
rises_named script None js h = h
rises_named script (Some k) js h = at (is_read_write (strategy script k.entity))
  where
    at : (v : Bool) → rises (cond v (with_key k js) js) ≡ true
    at true = rises_with k js h
    at false = h

rises_in : (script : Script) (past : Journal) → rises (keys_in script past) ≡ true
rises_in script [] = refl
rises_in script (e ∷ past) = rises_named script (named e.act) (keys_in script past) (rises_in script past)

-- ---- a choice of the keys
module _ (P : Key → Bool) where
  above_chosen : (k : Key) (js : List Key) → above k js ≡ true → above k (filter P js) ≡ true
  above_chosen k [] h = refl
  above_chosen k (j ∷ js) h =
      let w : (is_before k j ≡ true) × (above k js ≡ true) = and_parts (is_before k j) (above k js) h in
      at (P j) w.0 (above_chosen k js w.1)
    where
      at : (v : Bool) → is_before k j ≡ true → above k (filter P js) ≡ true → above k (cond v (j ∷ filter P js) (filter P js)) ≡ true
      at true f g = and_from (is_before k j) (above k (filter P js)) f g
      at false f g = g

  goes_first : (k : Key) (js : List Key) → above k js ≡ true → k ∷ js ≡ with_key k js
  goes_first k [] h = refl
  goes_first k (j ∷ js) h =
      let w : (is_before k j ≡ true) × (above k js ≡ true) = and_parts (is_before k j) (above k js) h in
      let d : same_key j k ≡ false = before_differs k j w.0 in
      sym (λ i. cond (d i) (j ∷ js) (cond (w.0 i) (k ∷ j ∷ js) (j ∷ with_key k js)))

  kept_with : (k : Key) (js : List Key) → rises js ≡ true → P k ≡ true → with_key k (filter P js) ≡ filter P (with_key k js)
  kept_with k [] h p = sym (ap (λ v. cond v (k ∷ []) []) p)
  kept_with k (j ∷ js) h p =
      let w : (above j js ≡ true) × (rises js ≡ true) = and_parts (above j js) (rises js) h in
      at (tested (same_key j k)) (tested (is_before k j)) (tested (P j)) w.0 (kept_with k js w.1 p)
    where
      at : Tested (same_key j k) → Tested (is_before k j) → Tested (P j) → above j js ≡ true → with_key k (filter P js) ≡ filter P (with_key k js)
          → with_key k (cond (P j) (j ∷ filter P js) (filter P js)) ≡ filter P (cond (same_key j k) (j ∷ js) (cond (is_before k j) (k ∷ j ∷ js) (j ∷ with_key k js)))
      at (inl s) b q f g =
          let t : P j ≡ true = ap P (same_key_eq j k s) ∙ p in
          ap (λ v. with_key k (cond v (j ∷ filter P js) (filter P js))) t
          ∙ ap (λ v. cond v (j ∷ filter P js) (cond (is_before k j) (k ∷ j ∷ filter P js) (j ∷ with_key k (filter P js)))) s
          ∙ sym (λ i. cond (t i) (j ∷ filter P js) (filter P js))
          ∙ sym (ap (λ v. filter P (cond v (j ∷ js) (cond (is_before k j) (k ∷ j ∷ js) (j ∷ with_key k js)))) s)
      at (inr s) (inl b) q f g =
          sym (goes_first k (filter P (j ∷ js)) (above_chosen k (j ∷ js) (and_from (is_before k j) (above k js) b (above_trans k j js b f))))
          ∙ sym (λ i. cond (p i) (k ∷ filter P (j ∷ js)) (filter P (j ∷ js)))
          ∙ sym (λ i. filter P (cond (s i) (j ∷ js) (cond (b i) (k ∷ j ∷ js) (j ∷ with_key k js))))
      at (inr s) (inr b) (inl q) f g =
          ap (λ v. with_key k (cond v (j ∷ filter P js) (filter P js))) q
          ∙ (λ i. cond (s i) (j ∷ filter P js) (cond (b i) (k ∷ j ∷ filter P js) (j ∷ with_key k (filter P js))))
          ∙ ap (λ t. j ∷ t) g
          ∙ sym (λ i. cond (q i) (j ∷ filter P (with_key k js)) (filter P (with_key k js)))
          ∙ sym (λ i. filter P (cond (s i) (j ∷ js) (cond (b i) (k ∷ j ∷ js) (j ∷ with_key k js))))
      at (inr s) (inr b) (inr q) f g =
          ap (λ v. with_key k (cond v (j ∷ filter P js) (filter P js))) q ∙ g
          ∙ sym (λ i. cond (q i) (j ∷ filter P (with_key k js)) (filter P (with_key k js)))
          ∙ sym (λ i. filter P (cond (s i) (j ∷ js) (cond (b i) (k ∷ j ∷ js) (j ∷ with_key k js))))

  left_out : (k : Key) (js : List Key) → P k ≡ false → filter P js ≡ filter P (with_key k js)
  left_out k [] p = sym (ap (λ v. cond v (k ∷ []) []) p)
  left_out k (j ∷ js) p = at (same_key j k) (is_before k j) (left_out k js p)
    where
      at : (s b : Bool) → filter P js ≡ filter P (with_key k js) → filter P (j ∷ js) ≡ filter P (cond s (j ∷ js) (cond b (k ∷ j ∷ js) (j ∷ with_key k js)))
      at true b g = refl
      at false true g = sym (ap (λ v. cond v (k ∷ filter P (j ∷ js)) (filter P (j ∷ js))) p)
      at false false g = ap (λ t. cond (P j) (j ∷ t) t) g

with_chosen : (script : Script) (past : Journal) (o : Option Key) (js : List Key) → rises js ≡ true
    → with_unsound script past o (filter (λ k. not (is_sound k past)) js) ≡ filter (λ k. not (is_sound k past)) (with_named script o js)
with_chosen script past None js h = refl
with_chosen script past (Some k) js h = at (is_read_write (strategy script k.entity)) (tested (not (is_sound k past)))
  where
    at : (w : Bool) → Tested (not (is_sound k past))
        → cond (w && not (is_sound k past)) (with_key k (filter (λ k. not (is_sound k past)) js)) (filter (λ k. not (is_sound k past)) js)
        ≡ filter (λ k. not (is_sound k past)) (cond w (with_key k js) js)
    at false t = refl
    at true (inl t) = ap (λ v. cond v (with_key k (filter (λ k. not (is_sound k past)) js)) (filter (λ k. not (is_sound k past)) js)) t ∙ kept_with (λ k. not (is_sound k past)) k js h t
    at true (inr t) = ap (λ v. cond v (with_key k (filter (λ k. not (is_sound k past)) js)) (filter (λ k. not (is_sound k past)) js)) t ∙ left_out (λ k. not (is_sound k past)) k js t

-- one entry more, of the entries so far
pub chosen_more : (script : Script) (past h g : Journal) (e : Entry) (old new : List Key) → g ≡ e ∷ h → old ≡ filter (λ k. not (is_sound k past)) (keys_in script h)
    → new ≡ with_unsound script past (named e.act) old → new ≡ filter (λ k. not (is_sound k past)) (keys_in script g)
chosen_more script past h g e old new m f n =
    n ∙ ap (with_unsound script past (named e.act)) f ∙ with_chosen script past (named e.act) (keys_in script h) (rises_in script h)
    ∙ ap (λ j. filter (λ k. not (is_sound k past)) (keys_in script j)) (sym m)

-- nothing is chosen where all keys are sound
pub none_chosen : (past : Journal) (js : List Key) → ((k : Key) → is_sound k past ≡ true) → [] ≡ filter (λ k. not (is_sound k past)) js
none_chosen past [] h = refl
none_chosen past (j ∷ js) h = none_chosen past js h ∙ sym (ap (λ v. cond (not v) (j ∷ filter (λ k. not (is_sound k past)) js) (filter (λ k. not (is_sound k past)) js)) (h j))
