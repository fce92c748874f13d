-- Rows with changes laid over them, as a walk over both meets them.
use Rattle.std.proofs.Common.{◌≡◌, ℕ, zero, suc, ◌+◌, ◌<◌, ◌≤◌, Bool, true, false, cond, not, ◌&&◌, ◌==◌, List, [], ◌∷◌, ◌++◌, length, map, drop, get_or, Some, None, Option, refl, ap, sym, ◌∙◌, subst, inl, inr, arith}
use Rattle.std.specs.List.{filter}
use Rattle.std.specs.Option.{option_map_or}
use Rattle.std.proofs.lemmas.List.{drop_more, drop_all, map-append, append_assoc, append-nil, length-map}
use Rattle.std.proofs.lemmas.Bool.{true≢false, and_parts, and_from}
use Rattle.hib_base.specs.Keys.{same_key, is_before}
use Rattle.hib_base.specs.Tables.{Tables, row_at, after_changes, is_first, in_order}
use Rattle.hib_base.proofs.Tables.{Tested, tested, same_key_eq}
use Rattle.hib_outside.proofs.Orders.{is_before_trans, is_before_total, is_first_trans, rest_in_order, in_order_changes}
use Rattle.hib_journal.specs.Types.{Key, Row, Change, Query}
use Rattle.hib_journal.specs.Query.{holds}
use Rattle.hib_query_eval.specs.declared.own.Laid.{Laid}
use Rattle.hib_query_eval.specs.Enough.{is_enough, first_of, is_listed, IsFirst, HasEntity}
use Rattle.hib_query_eval.specs.Views.{has_changed, comes_first, laid_over, Lays}
use Rattle.hib_query_eval.proofs.Enough.{not_full, full}
use Rattle.hib_query_eval.proofs.Laid.{is_first_passed, same_tables, other_way}
use Rattle.hib_query_eval.proofs.Views.{row_changed, row_unchanged}

-- ---- the next row
alone : (left : Tables) (i : ℕ) → i < length left → comes_first [] (drop i left) ≡ true
alone [] i l = absurd (omega arith)
alone (b ∷ left) zero l = refl
alone (b ∷ left) (suc i) l = alone left i (omega arith)

pub second_alone : (rows left : Tables) (at behind : ℕ) → length rows ≤ at → behind < length left → true ≡ comes_first (drop at rows) (drop behind left)
second_alone rows left at behind l m = sym (ap (λ r. comes_first r (drop behind left)) (drop_all at rows l) ∙ alone left behind m)

module _ (has : Key → Bool) where
  pub second_next : (rows : Tables) (b : Key × Row) (left : Tables) → comes_first rows (b ∷ left) ≡ true → laid_over has rows (b ∷ left) ≡ b ∷ laid_over has rows left
  second_next [] b left h = refl
  second_next (a ∷ rows) b left h =
      ap (λ v. cond v (b ∷ laid_over has (a ∷ rows) left) (cond (has a.0) (laid_over has rows (b ∷ left)) (a ∷ laid_over has rows (b ∷ left)))) h

  pub first_next : (a : Key × Row) (rows left : Tables) → comes_first (a ∷ rows) left ≡ false → laid_over has (a ∷ rows) left ≡ cond (has a.0) (laid_over has rows left) (a ∷ laid_over has rows left)
  first_next a rows [] h = refl
  first_next a rows (b ∷ left) h =
      ap (λ v. cond v (b ∷ laid_over has (a ∷ rows) left) (cond (has a.0) (laid_over has rows (b ∷ left)) (a ∷ laid_over has rows (b ∷ left)))) h

-- ---- the walk
module _ {A : Type 0} (now : A → Key × Row) (P : Key × Row → Bool) (has : Key → Bool) (most : Option ℕ) (all rows left : Tables) (met : List A) (at behind : ℕ)
    (fits : first_of most (map now met) ≡ map now met) (done : filter P all ≡ map now met ++ filter P (laid_over has (drop at rows) (drop behind left))) where
  enough : is_enough (length (map now met)) most ≡ is_enough (length (first_of most (map now met))) most
  enough = ap (λ t. is_enough (length t) most) (sym fits)

  pub walk_enough : is_enough (length met) most ≡ true → map now met ≡ first_of most (filter P all)
  walk_enough f =
      sym fits ∙ sym (full most (map now met) (filter P (laid_over has (drop at rows) (drop behind left))) (sym enough ∙ ap (λ n. is_enough n most) (length-map met now) ∙ f))
      ∙ ap (first_of most) (sym done)

  pub walk_ends : length rows ≤ at → length left ≤ behind → map now met ≡ first_of most (filter P all)
  walk_ends l m =
      sym fits
      ∙ ap (first_of most) (sym (done ∙ (λ i. map now met ++ filter P (laid_over has (drop_all at rows l i) (drop_all behind left m i))) ∙ append-nil (map now met)))

  pub still_fits : (y : A) (new : List A) → is_enough (length met) most ≡ false → new ≡ met ++ y ∷ [] → first_of most (map now new) ≡ map now new
  still_fits y new f e =
      ap (λ t. first_of most (map now t)) e ∙ ap (first_of most) (map-append now met (y ∷ []))
      ∙ not_full most (map now met) (now y) (sym enough ∙ ap (λ n. is_enough n most) (length-map met now) ∙ f)
      ∙ ap (λ t. t ++ now y ∷ []) fits ∙ sym (map-append now met (y ∷ [])) ∙ sym (ap (map now) e)

  pushed : (y : A) (new : List A) (x : Key × Row) (rest : Tables) → new ≡ met ++ y ∷ [] → now y ≡ x → P x ≡ true
      → filter P all ≡ map now met ++ filter P (x ∷ rest) → filter P all ≡ map now new ++ filter P rest
  pushed y new x rest e n p h =
      h ∙ ap (λ b. map now met ++ cond b (x ∷ filter P rest) (filter P rest)) p
      ∙ ap (λ z. map now met ++ z ∷ filter P rest) (sym n) ∙ sym (append_assoc (map now met) (now y ∷ []) (filter P rest))
      ∙ ap (λ t. t ++ filter P rest) (sym (map-append now met (y ∷ [])) ∙ sym (ap (map now) e))

  passed_by : (new : List A) (x : Key × Row) (rest : Tables) → new ≡ met → P x ≡ false
      → filter P all ≡ map now met ++ filter P (x ∷ rest) → filter P all ≡ map now new ++ filter P rest
  passed_by new x rest e p h =
      h ∙ ap (λ b. map now met ++ cond b (x ∷ filter P rest) (filter P rest)) p ∙ ap (λ t. map now t ++ filter P rest) (sym e)

  second_is : (x : Key × Row) → behind < length left → x ≡ get_or left behind x → comes_first (drop at rows) (drop behind left) ≡ true
      → filter P all ≡ map now met ++ filter P (x ∷ laid_over has (drop at rows) (drop (behind + 1) left))
  second_is x l e f =
      let d : drop behind left ≡ x ∷ drop (behind + 1) left = drop_more left behind x l ∙ ap (λ y. y ∷ drop (behind + 1) left) (sym e) in
      done ∙ ap (λ t. map now met ++ filter P t)
      (ap (laid_over has (drop at rows)) d ∙ second_next has (drop at rows) x (drop (behind + 1) left) (sym (ap (comes_first (drop at rows)) d) ∙ f))

  pub second_pushed : (x : Key × Row) (y : A) (new : List A) → behind < length left → x ≡ get_or left behind x → comes_first (drop at rows) (drop behind left) ≡ true
      → P x ≡ true → now y ≡ x → new ≡ met ++ y ∷ [] → filter P all ≡ map now new ++ filter P (laid_over has (drop at rows) (drop (behind + 1) left))
  second_pushed x y new l e f p n g = pushed y new x (laid_over has (drop at rows) (drop (behind + 1) left)) g n p (second_is x l e f)

  pub second_passed : (x : Key × Row) (new : List A) → behind < length left → x ≡ get_or left behind x → comes_first (drop at rows) (drop behind left) ≡ true
      → P x ≡ false → new ≡ met → filter P all ≡ map now new ++ filter P (laid_over has (drop at rows) (drop (behind + 1) left))
  second_passed x new l e f p g = passed_by new x (laid_over has (drop at rows) (drop (behind + 1) left)) g p (second_is x l e f)

  first_is : (x : Key × Row) → at < length rows → x ≡ get_or rows at x → comes_first (drop at rows) (drop behind left) ≡ false
      → filter P all ≡ map now met ++ filter P (cond (has x.0) (laid_over has (drop (at + 1) rows) (drop behind left)) (x ∷ laid_over has (drop (at + 1) rows) (drop behind left)))
  first_is x l e f =
      let d : drop at rows ≡ x ∷ drop (at + 1) rows = drop_more rows at x l ∙ ap (λ y. y ∷ drop (at + 1) rows) (sym e) in
      done ∙ ap (λ t. map now met ++ filter P t)
      (ap (λ r. laid_over has r (drop behind left)) d ∙ first_next has x (drop (at + 1) rows) (drop behind left) (sym (ap (λ r. comes_first r (drop behind left)) d) ∙ f))

  pub first_pushed : (x : Key × Row) (y : A) (new : List A) → at < length rows → x ≡ get_or rows at x → comes_first (drop at rows) (drop behind left) ≡ false
      → P x ≡ true → has x.0 ≡ false → now y ≡ x → new ≡ met ++ y ∷ [] → filter P all ≡ map now new ++ filter P (laid_over has (drop (at + 1) rows) (drop behind left))
  first_pushed x y new l e f p k n g =
      let rest : Tables = laid_over has (drop (at + 1) rows) (drop behind left) in
      pushed y new x rest g n p (first_is x l e f ∙ ap (λ v. map now met ++ filter P (cond v rest (x ∷ rest))) k)

  pub first_passed : (x : Key × Row) (new : List A) → at < length rows → x ≡ get_or rows at x → comes_first (drop at rows) (drop behind left) ≡ false
      → (P x && not (has x.0)) ≡ false → new ≡ met → filter P all ≡ map now new ++ filter P (laid_over has (drop (at + 1) rows) (drop behind left))
  first_passed x new l e f p g = by (tested (has x.0)) (tested (P x))
    where
      rest : Tables
      rest = laid_over has (drop (at + 1) rows) (drop behind left)

      by : Tested (has x.0) → Tested (P x) → filter P all ≡ map now new ++ filter P rest
      by (inl k) q = first_is x l e f ∙ ap (λ v. map now met ++ filter P (cond v rest (x ∷ rest))) k ∙ ap (λ t. map now t ++ filter P rest) (sym g)
      by (inr k) (inr q) = passed_by new x rest g q (first_is x l e f ∙ ap (λ v. map now met ++ filter P (cond v rest (x ∷ rest))) k)
      by (inr k) (inl q) = absurd (true≢false (sym (λ i. q i && not (k i)) ∙ p))

-- ---- a test of the rows of both
comes_if_first : (b : Key × Row) (rows left : Tables) → is_first b.0 rows ≡ true → comes_first rows (b ∷ left) ≡ true
comes_if_first b [] left f = refl
comes_if_first b (a ∷ rows) left f = f

module _ (P : Key × Row → Bool) (has : Key → Bool) where
  not_earlier : (a : Key × Row) (rows left : Tables) → ((b : Key × Row) (bs : Tables) → left ≡ b ∷ bs → is_before b.0 a.0 ≡ false) → in_order left ≡ true
      → comes_first (a ∷ rows) (filter P left) ≡ false
  not_earlier a rows [] f o = refl
  not_earlier a rows (b ∷ bs) f o =
      let r : (is_first b.0 bs ≡ true) × (in_order bs ≡ true) = rest_in_order b bs o in
      at (tested (P b)) (not_earlier a rows bs (λ c cs e. later c cs e r.0) r.1)
    where
      later : (c : Key × Row) (cs : Tables) → bs ≡ c ∷ cs → is_first b.0 bs ≡ true → is_before c.0 a.0 ≡ false
      later c cs e g = by (tested (is_before c.0 a.0))
        where
          by : Tested (is_before c.0 a.0) → is_before c.0 a.0 ≡ false
          by (inl h) = absurd (true≢false (sym (is_before_trans b.0 c.0 a.0 (subst (λ t. is_first b.0 t ≡ true) e g) h) ∙ f b bs refl))
          by (inr h) = h

      at : Tested (P b) → comes_first (a ∷ rows) (filter P bs) ≡ false → comes_first (a ∷ rows) (filter P (b ∷ bs)) ≡ false
      at (inl p) h = ap (λ v. comes_first (a ∷ rows) (cond v (b ∷ filter P bs) (filter P bs))) p ∙ f b bs refl
      at (inr p) h = ap (λ v. comes_first (a ∷ rows) (cond v (b ∷ filter P bs) (filter P bs))) p ∙ h

  pub passed_over : (rows left : Tables) → in_order rows ≡ true → in_order left ≡ true → filter P (laid_over has rows left) ≡ laid_over has (filter P rows) (filter P left)
  passed_over [] left o u = refl
  passed_over (a ∷ rows) [] o u = at (tested (has a.0)) (tested (P a)) (passed_over rows [] (rest_in_order a rows o).1 refl)
    where
      none : (t : Tables) → laid_over has (a ∷ t) [] ≡ cond (has a.0) (laid_over has t []) (a ∷ laid_over has t [])
      none t = refl

      at : Tested (has a.0) → Tested (P a) → filter P (laid_over has rows []) ≡ laid_over has (filter P rows) []
          → filter P (laid_over has (a ∷ rows) []) ≡ laid_over has (filter P (a ∷ rows)) []
      at (inl k) (inl p) h = rw (k, p, k) h
      at (inl k) (inr p) h = rw (k, p) h
      at (inr k) (inl p) h = rw (k, p, k) (ap (λ t. a ∷ t) h)
      at (inr k) (inr p) h = rw (k, p) h
  passed_over (a ∷ rows) (b ∷ left) o u =
      at (tested (is_before b.0 a.0)) (tested (has a.0)) (tested (P a)) (tested (P b)) (passed_over (a ∷ rows) left o (rest_in_order b left u).1) (passed_over rows (b ∷ left) (rest_in_order a rows o).1 u)
    where
      Goal : Type 0
      Goal = filter P (laid_over has (a ∷ rows) (b ∷ left)) ≡ laid_over has (filter P (a ∷ rows)) (filter P (b ∷ left))

      step : (v : Bool) → is_before b.0 a.0 ≡ v
          → laid_over has (a ∷ rows) (b ∷ left) ≡ cond v (b ∷ laid_over has (a ∷ rows) left) (cond (has a.0) (laid_over has rows (b ∷ left)) (a ∷ laid_over has rows (b ∷ left)))
      step v e = ap (λ w. cond w (b ∷ laid_over has (a ∷ rows) left) (cond (has a.0) (laid_over has rows (b ∷ left)) (a ∷ laid_over has rows (b ∷ left)))) e

      not_first : is_before b.0 a.0 ≡ false → comes_first (a ∷ filter P rows) (filter P (b ∷ left)) ≡ false
      not_first e = not_earlier a (filter P rows) (b ∷ left) (λ c cs g. subst (λ t. head_before t) g e) u
        where
          head_before : Tables → Type 0
          head_before [] = Unit {0}
          head_before (c ∷ cs) = is_before c.0 a.0 ≡ false

      at : Tested (is_before b.0 a.0) → Tested (has a.0) → Tested (P a) → Tested (P b) → filter P (laid_over has (a ∷ rows) left) ≡ laid_over has (filter P (a ∷ rows)) (filter P left)
          → filter P (laid_over has rows (b ∷ left)) ≡ laid_over has (filter P rows) (filter P (b ∷ left)) → Goal
      at (inl e) k p (inl q) g h =
          ap (filter P) (step true e) ∙ ap (λ v. cond v (b ∷ filter P (laid_over has (a ∷ rows) left)) (filter P (laid_over has (a ∷ rows) left))) q ∙ ap (λ t. b ∷ t) g
          ∙ sym (ap (λ v. laid_over has (filter P (a ∷ rows)) (cond v (b ∷ filter P left) (filter P left))) q
          ∙ second_next has (filter P (a ∷ rows)) b (filter P left) (comes_if_first b (filter P (a ∷ rows)) (filter P left) (is_first_passed P b.0 (a ∷ rows) e o)))
      at (inl e) k p (inr q) g h =
          ap (filter P) (step true e) ∙ ap (λ v. cond v (b ∷ filter P (laid_over has (a ∷ rows) left)) (filter P (laid_over has (a ∷ rows) left))) q ∙ g
          ∙ sym (ap (λ v. laid_over has (filter P (a ∷ rows)) (cond v (b ∷ filter P left) (filter P left))) q)
      at (inr e) (inl k) (inl p) q g h =
          ap (filter P) (step false e) ∙ ap (λ v. filter P (cond v (laid_over has rows (b ∷ left)) (a ∷ laid_over has rows (b ∷ left)))) k ∙ h
          ∙ sym (ap (λ v. laid_over has (cond v (a ∷ filter P rows) (filter P rows)) (filter P (b ∷ left))) p
          ∙ first_next has a (filter P rows) (filter P (b ∷ left)) (not_first e)
          ∙ ap (λ v. cond v (laid_over has (filter P rows) (filter P (b ∷ left))) (a ∷ laid_over has (filter P rows) (filter P (b ∷ left)))) k)
      at (inr e) (inl k) (inr p) q g h =
          ap (filter P) (step false e) ∙ ap (λ v. filter P (cond v (laid_over has rows (b ∷ left)) (a ∷ laid_over has rows (b ∷ left)))) k ∙ h
          ∙ sym (ap (λ v. laid_over has (cond v (a ∷ filter P rows) (filter P rows)) (filter P (b ∷ left))) p)
      at (inr e) (inr k) (inl p) q g h =
          ap (filter P) (step false e) ∙ ap (λ v. filter P (cond v (laid_over has rows (b ∷ left)) (a ∷ laid_over has rows (b ∷ left)))) k
          ∙ ap (λ v. cond v (a ∷ filter P (laid_over has rows (b ∷ left))) (filter P (laid_over has rows (b ∷ left)))) p ∙ ap (λ t. a ∷ t) h
          ∙ sym (ap (λ v. laid_over has (cond v (a ∷ filter P rows) (filter P rows)) (filter P (b ∷ left))) p
          ∙ first_next has a (filter P rows) (filter P (b ∷ left)) (not_first e)
          ∙ ap (λ v. cond v (laid_over has (filter P rows) (filter P (b ∷ left))) (a ∷ laid_over has (filter P rows) (filter P (b ∷ left)))) k)
      at (inr e) (inr k) (inr p) q g h =
          ap (filter P) (step false e) ∙ ap (λ v. filter P (cond v (laid_over has rows (b ∷ left)) (a ∷ laid_over has rows (b ∷ left)))) k
          ∙ ap (λ v. cond v (a ∷ filter P (laid_over has rows (b ∷ left))) (filter P (laid_over has rows (b ∷ left)))) p ∙ h
          ∙ sym (ap (λ v. laid_over has (cond v (a ∷ filter P rows) (filter P rows)) (filter P (b ∷ left))) p)

-- ---- what is laid over rows is what the changes leave
module _ (has : Key → Bool) where
  abbrev Known : Tables → Type 0
  Known left = (k : Key) → has k ≡ false → row_at left k ≡ None

  rest_known : (b : Key × Row) (left : Tables) → Known (b ∷ left) → Known left
  rest_known b left f k h = at (tested (same_key b.0 k)) (f k h)
    where
      at : Tested (same_key b.0 k) → row_at (b ∷ left) k ≡ None → row_at left k ≡ None
      at (inl s) g = let c : Some b.1 ≡ None = rw s at g in cc
      at (inr s) g = rw s at g

  key_of_row : (a : Key × Row) (k : Key) → same_key a.0 k ≡ true → has a.0 ≡ has k
  key_of_row a k s = ap has (same_key_eq a.0 k s)

  row_at_laid : (rows left : Tables) (k : Key) → Known left → row_at (laid_over has rows left) k ≡ cond (has k) (row_at left k) (row_at rows k)
  row_at_laid [] left k f = at (tested (has k))
    where
      at : Tested (has k) → row_at left k ≡ cond (has k) (row_at left k) None
      at (inl h) = rw h refl
      at (inr h) = rw h (f k h)
  row_at_laid (a ∷ rows) [] k f = at (tested (has a.0)) (tested (same_key a.0 k)) (row_at_laid rows [] k f)
    where
      at : Tested (has a.0) → Tested (same_key a.0 k) → row_at (laid_over has rows []) k ≡ cond (has k) None (row_at rows k)
          → row_at (laid_over has (a ∷ rows) []) k ≡ cond (has k) None (row_at (a ∷ rows) k)
      at (inl h) (inl s) g = let c : has k ≡ true = sym (key_of_row a k s) ∙ h in rw (h, c) (rw c at g)
      at (inl h) (inr s) g = rw (h, s) g
      at (inr h) (inl s) g = let c : has k ≡ false = sym (key_of_row a k s) ∙ h in rw (h, c, s) refl
      at (inr h) (inr s) g = rw (h, s) g
  row_at_laid (a ∷ rows) (b ∷ left) k f =
      at (tested (is_before b.0 a.0)) (tested (has a.0)) (tested (has k)) (tested (same_key b.0 k)) (tested (same_key a.0 k))
      (row_at_laid (a ∷ rows) left k (rest_known b left f)) (row_at_laid rows (b ∷ left) k f)
    where
      at : Tested (is_before b.0 a.0) → Tested (has a.0) → Tested (has k) → Tested (same_key b.0 k) → Tested (same_key a.0 k)
          → row_at (laid_over has (a ∷ rows) left) k ≡ cond (has k) (row_at left k) (row_at (a ∷ rows) k)
          → row_at (laid_over has rows (b ∷ left)) k ≡ cond (has k) (row_at (b ∷ left) k) (row_at rows k)
          → row_at (laid_over has (a ∷ rows) (b ∷ left)) k ≡ cond (has k) (row_at (b ∷ left) k) (row_at (a ∷ rows) k)
      at (inl e) h (inl c) (inl s) t g i = rw (e, c, s) refl
      at (inl e) h (inr c) (inl s) t g i = let n : Some b.1 ≡ None = sym (ap (λ v. cond v (Some b.1) (row_at left k)) s) ∙ f k c in cc
      at (inl e) h c (inr s) t g i = rw (e, s) g
      at (inr e) (inl h) c s (inl t) g i = let d : has k ≡ true = sym (key_of_row a k t) ∙ h in rw (e, h, d) (rw d at i)
      at (inr e) (inl h) c s (inr t) g i = rw (e, h, t) i
      at (inr e) (inr h) c s (inl t) g i = let d : has k ≡ false = sym (key_of_row a k t) ∙ h in rw (e, h, d, t) refl
      at (inr e) (inr h) c s (inr t) g i = rw (e, h, t) i

  first_laid : (k : Key) (rows left : Tables) → in_order rows ≡ true → is_first k rows ≡ true → is_first k left ≡ true → is_first k (laid_over has rows left) ≡ true
  first_laid k [] left o f g = g
  first_laid k (a ∷ rows) [] o f g =
      let r : (is_first a.0 rows ≡ true) × (in_order rows ≡ true) = rest_in_order a rows o in
      at (has a.0) (first_laid k rows [] r.1 (is_first_trans k a.0 rows f r.0) g)
    where
      at : (v : Bool) → is_first k (laid_over has rows []) ≡ true → is_first k (cond v (laid_over has rows []) (a ∷ laid_over has rows [])) ≡ true
      at true h = h
      at false h = f
  first_laid k (a ∷ rows) (b ∷ left) o f g =
      let r : (is_first a.0 rows ≡ true) × (in_order rows ≡ true) = rest_in_order a rows o in
      at (is_before b.0 a.0) (has a.0) (first_laid k rows (b ∷ left) r.1 (is_first_trans k a.0 rows f r.0) g)
    where
      at : (w v : Bool) → is_first k (laid_over has rows (b ∷ left)) ≡ true
          → is_first k (cond w (b ∷ laid_over has (a ∷ rows) left) (cond v (laid_over has rows (b ∷ left)) (a ∷ laid_over has rows (b ∷ left)))) ≡ true
      at true v h = g
      at false true h = h
      at false false h = f

  laid_in_order : (rows left : Tables) → in_order rows ≡ true → in_order left ≡ true → Known left → in_order (laid_over has rows left) ≡ true
  laid_in_order [] left o u f = u
  laid_in_order (a ∷ rows) [] o u f =
      let r : (is_first a.0 rows ≡ true) × (in_order rows ≡ true) = rest_in_order a rows o in
      at (has a.0) (first_laid a.0 rows [] r.1 r.0 refl) (laid_in_order rows [] r.1 refl f)
    where
      at : (v : Bool) → is_first a.0 (laid_over has rows []) ≡ true → in_order (laid_over has rows []) ≡ true → in_order (cond v (laid_over has rows []) (a ∷ laid_over has rows [])) ≡ true
      at true g h = h
      at false g h = and_from (is_first a.0 (laid_over has rows [])) (in_order (laid_over has rows [])) g h
  laid_in_order (a ∷ rows) (b ∷ left) o u f =
      let r : (is_first a.0 rows ≡ true) × (in_order rows ≡ true) = rest_in_order a rows o in
      let w : (is_first b.0 left ≡ true) × (in_order left ≡ true) = rest_in_order b left u in
      at r.0 r.1 w.0 (tested (is_before b.0 a.0)) (tested (has a.0)) (laid_in_order (a ∷ rows) left o w.1 (rest_known b left f)) (laid_in_order rows (b ∷ left) r.1 u f)
    where
      differs : has a.0 ≡ false → same_key b.0 a.0 ≡ false
      differs h = by (tested (same_key b.0 a.0))
        where
          by : Tested (same_key b.0 a.0) → same_key b.0 a.0 ≡ false
          by (inl s) = let n : Some b.1 ≡ None = sym (ap (λ v. cond v (Some b.1) (row_at left a.0)) s) ∙ f a.0 h in cc
          by (inr s) = s

      at : is_first a.0 rows ≡ true → in_order rows ≡ true → is_first b.0 left ≡ true → Tested (is_before b.0 a.0) → Tested (has a.0)
          → in_order (laid_over has (a ∷ rows) left) ≡ true → in_order (laid_over has rows (b ∷ left)) ≡ true → in_order (laid_over has (a ∷ rows) (b ∷ left)) ≡ true
      at p r q (inl e) h g i =
          rw e (and_from (is_first b.0 (laid_over has (a ∷ rows) left)) (in_order (laid_over has (a ∷ rows) left)) (first_laid b.0 (a ∷ rows) left o e q) g)
      at p r q (inr e) (inl h) g i = rw (e, h) i
      at p r q (inr e) (inr h) g i =
          let d : is_before a.0 b.0 ≡ true = is_before_total a.0 b.0 (other_way b.0 a.0 (differs h)) e in
          rw (e, h) (and_from (is_first a.0 (laid_over has rows (b ∷ left))) (in_order (laid_over has rows (b ∷ left))) (first_laid a.0 rows (b ∷ left) r p d) i)

module _ (q : Query) (t : Tables) (cs : List Change) (laid : Laid) (o : in_order t ≡ true) (x : Lays cs laid) where
  left_in_order : in_order laid.left ≡ true
  left_in_order = subst (λ u. in_order u ≡ true) (sym x.left) (in_order_changes cs [] refl)

  known : Known (has_changed laid) laid.left
  known k h = ap (λ u. row_at u k) x.left ∙ sym (row_unchanged k cs [] (sym (x.keys k) ∙ h))

  laid_is : laid_over (has_changed laid) t laid.left ≡ after_changes cs t
  laid_is =
      same_tables (laid_over (has_changed laid) t laid.left) (after_changes cs t) (laid_in_order (has_changed laid) t laid.left o left_in_order known) (in_order_changes cs t o)
      (λ k. row_at_laid (has_changed laid) t laid.left k known ∙ at k (tested (has_changed laid k)))
    where
      at : (k : Key) → Tested (has_changed laid k) → cond (has_changed laid k) (row_at laid.left k) (row_at t k) ≡ row_at (after_changes cs t) k
      at k (inl h) = rw h (ap (λ u. row_at u k) x.left ∙ row_changed k cs t (sym (x.keys k) ∙ h))
      at k (inr h) = rw h (row_unchanged k cs t (sym (x.keys k) ∙ h))

  -- the rows of the query's entity are enough
  pub walked_first : (view own left met : Tables) (most : Option ℕ) → view ≡ after_changes cs t → in_order own ≡ true → HasEntity q.entity t own
      → in_order left ≡ true → HasEntity q.entity laid.left left
      → met ≡ first_of most (filter (is_listed q view) (laid_over (has_changed laid) own left)) → IsFirst most q view met
  walked_first view own left met most e a f b g h =
      inr (h ∙ ap (first_of most)
      (passed_over P (has_changed laid) own left a b ∙ (λ i. laid_over (has_changed laid) (f P own_row i) (g P own_row i))
      ∙ sym (passed_over P (has_changed laid) t laid.left o left_in_order) ∙ ap (filter P) (laid_is ∙ sym e)))
    where
      P : Key × Row → Bool
      P = is_listed q view

      own_row : (a : Key × Row) → P a ≡ true → (a.0.entity == q.entity) ≡ true
      own_row a p = (and_parts (a.0.entity == q.entity) (option_map_or (holds view a.1) q.condition true) p).0
