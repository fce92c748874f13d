-- What is kept of a query line as far as it was read: how deep its parts are, how they fit, and the limits.
use Rattle.std.proofs.Common.{◌≡◌, ℕ, Bool, true, false, ◌||◌, nat_lt, nat_le, List, [], ◌∷◌, ◌++◌, length, Option, refl, sym, ◌∙◌, ap, subst, arith}
use Rattle.std.specs.Prelude.{is_none, is_some, unwrap_or}
use Rattle.std.specs.List.{list_all}
use Rattle.std.proofs.lemmas.Bool.{or_parts, lt-ltb, true≢false, false≢true}
use Rattle.std.proofs.lemmas.Bool.Decides.{nat_tests}
use Rattle.hib_base.specs.Fits.{entity_columns, is_of_type_in, type_of_path, fits_part, fits_sort, fits_select}
use Rattle.hib_base.specs.Valid.{is_short}
use Rattle.hib_base.specs.declared.rows.Cell.{Cell}
use Rattle.hib_base.specs.declared.scripts.ColumnDef.{ColumnDef}
use Rattle.hib_base.specs.declared.scripts.EntityDef.{EntityDef}
use Rattle.hib_base.specs.declared.scripts.Node.{Node}
use Rattle.hib_base.specs.declared.scripts.Select.{Select}
use Rattle.hib_base.specs.declared.scripts.Sort.{Sort}
use Rattle.hib_base.proofs.Gives.{Then}
use Rattle.hib_base.proofs.Lists.{all_more}
use Rattle.hib_columns.specs.Columns.{path_or_first}
use Rattle.hib_columns.specs.declared.columns.Column.{Column}
use Rattle.hib_columns.proofs.Typed.{IsLed}
use Rattle.hib_criteria.specs.Query.{arity}
use Rattle.hib_criteria.specs.declared.forms.Frame.{Frame}
use Rattle.hib_criteria.specs.declared.forms.Place.{Place}
use Rattle.hib_criteria.proofs.Depth.{rid, used, after, are_shallow, used_same, after_more, shallow_more}

-- ---- how deep the parts are
abbrev pub counts : List Frame → List ℕ
counts [] = []
counts (Frame.Two ∷ fs) = 2 ∷ counts fs
counts (Frame.One ∷ fs) = 1 ∷ counts fs
counts (Frame.Closing ∷ fs) = 0 ∷ counts fs

pub counts_length : (fs : List Frame) → length (counts fs) ≡ length fs
counts_length [] = refl
counts_length (Frame.Two ∷ fs) = rw (counts_length fs) refl
counts_length (Frame.One ∷ fs) = rw (counts_length fs) refl
counts_length (Frame.Closing ∷ fs) = rw (counts_length fs) refl

-- after an open parenthesis whose part isn't noted yet
abbrev pub is_due : Place → Bool
is_due Place.Operator = true
is_due (Place.Subject t) = true
is_due (Place.Operand op c) = true
is_due (Place.Operands c xs) = true
is_due _ = false

abbrev pub is_open : Bool → List Node → Bool → List Frame → Type 0
is_open true ns deep fs = (used (after [] ns) ≡ counts fs) × (deep ≡ false → nat_lt (length (rid (after [] ns))) 16 ≡ true)
is_open false ns deep fs = rid (after [] ns) ≡ rid (counts fs)

pub record Nested (ns : List Node) (deep : Bool) (fs : List Frame) (w : Bool) : Type 0 where
  pub shallow : deep ≡ false → are_shallow [] ns ≡ true
  pub state : is_open w ns deep fs

-- one part more, which awaits as many conditions as its frame
pub noted : (ns : List Node) (deep : Bool) (fs gs : List Frame) (x : Node) → Nested ns deep fs true → rid (arity x ∷ counts fs) ≡ rid (counts gs) → Nested (ns ++ x ∷ []) deep gs false
noted ns deep fs gs x b e = record {
  shallow = λ h. shallow_more [] ns x (b.shallow h) (b.state.1 h);
  state = subst (λ (st : List ℕ). rid st ≡ rid (counts gs)) (sym (after_more [] ns x)) (ap (λ (st : List ℕ). rid (arity x ∷ st)) b.state.0 ∙ e);
}

-- if something may be too much
pub deeper : (ns : List Node) (deep more : Bool) (fs : List Frame) → Nested ns deep fs false → Nested ns (deep || more) fs false
deeper ns deep more fs b = record { shallow = λ h. b.shallow (or_parts deep more h).0; state = b.state }

pub above : (n : ℕ) → nat_le 16 n ≡ false → nat_lt n 16 ≡ true
above n h = lt-ltb n 16 (grind (arith, nat_tests))

pub opened : (ns : List Node) (deep : Bool) (fs gs : List Frame) → Nested ns deep fs false → used (counts fs) ≡ counts gs → length (rid (counts fs)) ≡ length fs → Nested ns (deep || nat_le 16 (length fs)) gs true
opened ns deep fs gs b e l = record {
  shallow = λ h. b.shallow (or_parts deep (nat_le 16 (length fs)) h).0;
  state = (
    used_same (after [] ns) (counts fs) b.state ∙ e,
    λ h. subst (λ n. nat_lt n 16 ≡ true) (sym (ap length b.state ∙ l)) (above (length fs) (or_parts deep (nat_le 16 (length fs)) h).1),
  );
}

-- ---- how parts, orders and selections fit
-- before an entity is chosen
abbrev pub is_head : Place → Bool
is_head Place.Start = true
is_head Place.Name = true
is_head Place.Named = true
is_head Place.Cached = true
is_head Place.From = true
is_head _ = false

abbrev pub is_over : Place → Bool
is_over Place.Over = true
is_over _ = false

abbrev pub columns : List EntityDef → Option ℕ → List ColumnDef
columns m e = entity_columns m (unwrap_or e 0)

-- a column that is found is there, and one that isn't is noted as unknown
abbrev pub IsNamed : List EntityDef → Option ℕ → Bool → Option Column → Type 0
IsNamed m e u c = (u ≡ false → is_none c ≡ false) × Then c (IsLed m (unwrap_or e 0))

abbrev pub are_cells : List EntityDef → Option ℕ → Option Column → List Cell → Bool
are_cells m e c xs = list_all (λ x. is_of_type_in (type_of_path m (unwrap_or e 0) (path_or_first c)) x) xs

abbrev pub IsAt : List EntityDef → Option ℕ → Bool → Bool → Place → Type 0
IsAt m e u y (Place.Operand op c) = IsNamed m e u c
IsAt m e u y (Place.Operands c xs) = IsNamed m e u c × (u ≡ false → y ≡ false → are_cells m e c xs ≡ true)
IsAt m e u y (Place.Sorted c) = u ≡ false → nat_lt c (length (columns m e)) ≡ true
IsAt m e u y _ = Unit {0}

pub record Typed (m : List EntityDef) (ns : List Node) (u y : Bool) (e : Option ℕ) (order : List Sort) (select : Select) (p : Place) : Type 0 where
  pub parts : u ≡ false → y ≡ false → list_all (λ x. fits_part m (unwrap_or e 0) x) ns ≡ true
  pub sorts : u ≡ false → list_all (λ s. fits_sort (columns m e) s) order ≡ true
  pub selects : u ≡ false → fits_select (columns m e) select ≡ true
  pub head : is_head p ≡ true → (ns ≡ []) × (order ≡ []) × (select ≡ Select.Ids)
  pub at : IsAt m e u y p

-- at another place
pub fitted : (m : List EntityDef) (ns : List Node) (u y : Bool) (e : Option ℕ) (order : List Sort) (select : Select) (p q : Place) → Typed m ns u y e order select p →
    (is_head q ≡ true → is_head p ≡ true) → IsAt m e u y q → Typed m ns u y e order select q
fitted m ns u y e order select p q b h i = record { parts = b.parts; sorts = b.sorts; selects = b.selects; head = λ g. b.head (h g); at = i }

-- if something may be unknown or of another type
pub flagged : (m : List EntityDef) (ns : List Node) (u y missing bad : Bool) (e : Option ℕ) (order : List Sort) (select : Select) (p q : Place) → Typed m ns u y e order select p →
    is_head q ≡ false → IsAt m e (u || missing) (y || bad) q → Typed m ns (u || missing) (y || bad) e order select q
flagged m ns u y missing bad e order select p q b h i = record {
  parts = λ f g. b.parts (or_parts u missing f).0 (or_parts y bad g).0;
  sorts = λ f. b.sorts (or_parts u missing f).0;
  selects = λ f. b.selects (or_parts u missing f).0;
  head = λ g. absurd (true≢false (sym g ∙ h));
  at = i;
}

pub missed : (m : List EntityDef) (ns : List Node) (u y missing : Bool) (e : Option ℕ) (order : List Sort) (select : Select) (p q : Place) → Typed m ns u y e order select p →
    is_head q ≡ false → IsAt m e (u || missing) y q → Typed m ns (u || missing) y e order select q
missed m ns u y missing e order select p q b h i = record {
  parts = λ f g. b.parts (or_parts u missing f).0 g;
  sorts = λ f. b.sorts (or_parts u missing f).0;
  selects = λ f. b.selects (or_parts u missing f).0;
  head = λ g. absurd (true≢false (sym g ∙ h));
  at = i;
}

-- one part more, which fits unless something was noted
pub parted : (m : List EntityDef) (ns : List Node) (x : Node) (u y bad : Bool) (e : Option ℕ) (order : List Sort) (select : Select) (p q : Place) → Typed m ns u y e order select p →
    (u ≡ false → (y || bad) ≡ false → fits_part m (unwrap_or e 0) x ≡ true) → is_head q ≡ false → IsAt m e u (y || bad) q → Typed m (ns ++ x ∷ []) u (y || bad) e order select q
parted m ns x u y bad e order select p q b f h i = record {
  parts = λ g k. all_more (λ x. fits_part m (unwrap_or e 0) x) ns x (b.parts g (or_parts y bad k).0) (f g k);
  sorts = b.sorts;
  selects = b.selects;
  head = λ g. absurd (true≢false (sym g ∙ h));
  at = i;
}

pub plain_part : (m : List EntityDef) (ns : List Node) (x : Node) (u y : Bool) (e : Option ℕ) (order : List Sort) (select : Select) (p q : Place) → Typed m ns u y e order select p →
    (u ≡ false → y ≡ false → fits_part m (unwrap_or e 0) x ≡ true) → is_head q ≡ false → IsAt m e u y q → Typed m (ns ++ x ∷ []) u y e order select q
plain_part m ns x u y e order select p q b f h i = record {
  parts = λ g k. all_more (λ x. fits_part m (unwrap_or e 0) x) ns x (b.parts g k) (f g k);
  sorts = b.sorts;
  selects = b.selects;
  head = λ g. absurd (true≢false (sym g ∙ h));
  at = i;
}

-- ---- the limits
abbrev pub is_count : Select → Bool
is_count Select.Count = true
is_count _ = false

pub record Limited (ns : List Node) (deep bad : Bool) (offset limit : Option ℕ) (order : List Sort) (select : Select) (p : Place) : Type 0 where
  pub short : deep ≡ false → list_all is_short ns ≡ true
  pub offsets : Then offset (λ n. nat_le n 1000000 ≡ true)
  pub limits : Then limit (λ n. nat_le n 200 ≡ true)
  pub low : bad ≡ false → Then limit (λ n. nat_le 1 n ≡ true)
  pub early : is_over p ≡ false → select ≡ Select.Ids
  pub count : is_count select ≡ true → ((is_some offset || is_some limit) || nat_lt 0 (length order)) ≡ false

-- at another place
pub kept : (ns : List Node) (deep bad : Bool) (offset limit : Option ℕ) (order : List Sort) (select : Select) (p q : Place) → Limited ns deep bad offset limit order select p → is_over p ≡ false → Limited ns deep bad offset limit order select q
kept ns deep bad offset limit order select p q b h = record { short = b.short; offsets = b.offsets; limits = b.limits; low = b.low; early = λ _. b.early h; count = b.count }

pub no_count : (s : Select) → s ≡ Select.Ids → is_count s ≡ true → ⊥
no_count s e h = false≢true (subst (λ (t : Select). is_count t ≡ true) e h)

-- one part more
pub longer : (ns : List Node) (x : Node) (deep more bad : Bool) (offset limit : Option ℕ) (order : List Sort) (select : Select) (p q : Place) → Limited ns deep bad offset limit order select p → is_over p ≡ false →
    (more ≡ false → is_short x ≡ true) → Limited (ns ++ x ∷ []) (deep || more) bad offset limit order select q
longer ns x deep more bad offset limit order select p q b h f = record {
  short = λ g. let both : (deep ≡ false) × (more ≡ false) = or_parts deep more g in all_more is_short ns x (b.short both.0) (f both.1);
  offsets = b.offsets;
  limits = b.limits;
  low = b.low;
  early = λ _. b.early h;
  count = b.count;
}

-- a part that lists no cells
pub plain_longer : (ns : List Node) (x : Node) (deep bad : Bool) (offset limit : Option ℕ) (order : List Sort) (select : Select) (p q : Place) → Limited ns deep bad offset limit order select p → is_over p ≡ false →
    is_short x ≡ true → Limited (ns ++ x ∷ []) deep bad offset limit order select q
plain_longer ns x deep bad offset limit order select p q b h f =
    record { short = λ g. all_more is_short ns x (b.short g) f; offsets = b.offsets; limits = b.limits; low = b.low; early = λ _. b.early h; count = b.count }
