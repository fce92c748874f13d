-- The defaults of columns, and what stays so when a column is added.
use Rattle.std.proofs.Common.{◌≡◌, ◌⊎◌, inl, inr, ℕ, ◌+◌, ◌<◌, Bool, true, false, not, ◌||◌, List, [], ◌∷◌, ◌++◌, length, take, get_or, Some, None, Option, refl, sym, ap, ◌∙◌, subst, append_assoc}
use Rattle.std.specs.List.{list_all, list_any}
use Rattle.std.proofs.lemmas.Bool.{and_parts, and_from, or_parts, or_right}
use Rattle.std.proofs.lemmas.List.{take_more}
use Rattle.hib_base.specs.Types.{Cell, ColumnDef}
use Rattle.hib_base.specs.Fits.{has_default, is_default, ends_in_defaults, are_defaults}
use Rattle.hib_base.specs.Start.{before_default, defaults_of}
use Rattle.hib_base.proofs.Lists.{all_more}

defaults_push : (ds : List ColumnDef) (d : ColumnDef) → defaults_of (ds ++ d ∷ []) ≡ defaults_of ds ++ before_default d.default []
defaults_push [] d = refl
defaults_push (x ∷ ds) d = ap (before_default x.default) (defaults_push ds d) ∙ joined x.default (defaults_of ds) (before_default d.default [])
  where
    joined : (o : Option Cell) (cs es : List Cell) → before_default o (cs ++ es) ≡ before_default o cs ++ es
    joined None cs es = refl
    joined (Some c) cs es = refl

-- one column more
pub defaults_next : (from so_far new : List Cell) (ds : List ColumnDef) (n : ℕ) (d : ColumnDef) → n < length ds → d ≡ get_or ds n d → so_far ≡ from ++ defaults_of (take n ds)
    → new ≡ so_far ++ before_default d.default [] → new ≡ from ++ defaults_of (take (n + 1) ds)
defaults_next from so_far new ds n d low is done more =
    let past : take (n + 1) ds ≡ take n ds ++ d ∷ [] = take_more ds n d low ∙ ap (λ x. take n ds ++ x ∷ []) (sym is) in
    more ∙ ap (λ cs. cs ++ before_default d.default []) done ∙ append_assoc from (defaults_of (take n ds)) (before_default d.default [])
    ∙ ap (λ cs. from ++ cs) (sym (ap defaults_of past ∙ defaults_push (take n ds) d))

ends_more : (ds : List ColumnDef) (d : ColumnDef) → ends_in_defaults ds ≡ true → (has_default d ≡ true) ⊎ (list_any has_default ds ≡ false) → ends_in_defaults (ds ++ d ∷ []) ≡ true
ends_more [] d h (inl p) = and_from (not (has_default d) || true) true (or_right (not (has_default d)) true refl) refl
ends_more [] d h (inr p) = and_from (not (has_default d) || true) true (or_right (not (has_default d)) true refl) refl
ends_more (x ∷ ds) d h (inl p) =
    let both : ((not (has_default x) || list_all has_default ds) ≡ true) × (ends_in_defaults ds ≡ true) = and_parts (not (has_default x) || list_all has_default ds) (ends_in_defaults ds) h in
    and_from (not (has_default x) || list_all has_default (ds ++ d ∷ [])) (ends_in_defaults (ds ++ d ∷ [])) (by_first (has_default x) both.0) (ends_more ds d both.1 (inl p))
  where
    by_first : (b : Bool) → (not b || list_all has_default ds) ≡ true → (not b || list_all has_default (ds ++ d ∷ [])) ≡ true
    by_first true g = all_more has_default ds d g p
    by_first false g = refl
ends_more (x ∷ ds) d h (inr p) =
    let both : ((not (has_default x) || list_all has_default ds) ≡ true) × (ends_in_defaults ds ≡ true) = and_parts (not (has_default x) || list_all has_default ds) (ends_in_defaults ds) h in
    let none : (has_default x ≡ false) × (list_any has_default ds ≡ false) = or_parts (has_default x) (list_any has_default ds) p in
    and_from (not (has_default x) || list_all has_default (ds ++ d ∷ [])) (ends_in_defaults (ds ++ d ∷ []))
    (subst (λ b. (not b || list_all has_default (ds ++ d ∷ [])) ≡ true) (sym none.0) refl) (ends_more ds d both.1 (inr none.1))

-- a column whose default is of its type, and which has one if a column before it has one
pub defaults_more : (ds : List ColumnDef) (d : ColumnDef) → are_defaults ds ≡ true → is_default d.kind d.default ≡ true → (has_default d ≡ true) ⊎ (list_any has_default ds ≡ false) → are_defaults (ds ++ d ∷ []) ≡ true
defaults_more ds d h t e =
    let both : (list_all (λ (x : ColumnDef). is_default x.kind x.default) ds ≡ true) × (ends_in_defaults ds ≡ true) = and_parts (list_all (λ (x : ColumnDef). is_default x.kind x.default) ds) (ends_in_defaults ds) h in
    and_from (list_all (λ (x : ColumnDef). is_default x.kind x.default) (ds ++ d ∷ [])) (ends_in_defaults (ds ++ d ∷ []))
    (all_more (λ (x : ColumnDef). is_default x.kind x.default) ds d both.0 t) (ends_more ds d both.1 e)
