-- The columns that words name are there, and of the types that are said of them.
use Rattle.std.proofs.Common.{◌≡◌, ℕ, zero, suc, ◌<◌, true, cond, ◌==◌, nat_lt, List, [], ◌∷◌, length, Option, Some, None, refl, sym, subst, arith, eq-eqb}
use Rattle.std.specs.Prelude.{slice_get, option_and_then, unwrap_or}
use Rattle.std.proofs.lemmas.Bool.{lt-ltb}
use Rattle.hib_base.specs.Fits.{entity_columns, kind_in, type_at, type_led, type_of_path}
use Rattle.hib_base.specs.declared.scripts.ColumnDef.{ColumnDef}
use Rattle.hib_base.specs.declared.scripts.ColumnType.{ColumnType}
use Rattle.hib_base.specs.declared.scripts.EntityDef.{EntityDef}
use Rattle.hib_base.specs.declared.scripts.Target.{Target}
use Rattle.hib_base.proofs.Gives.{Then}
use Rattle.hib_base.proofs.Lists.{some_none}
use Rattle.hib_columns.specs.Columns.{columns_of, found_at, at_place, plain_column, own, led_to, through_type, through, column_of}
use Rattle.hib_columns.specs.declared.columns.Column.{Column}
use Rattle.hib_columns.specs.declared.columns.Found.{Found}
use Rattle.hib_lex.specs.declared.lexer.Token.{Token}
use Rattle.hib_mapping.specs.Parts.{column_at}

-- ---- a column of an entity
pub record IsColumn (ds : List ColumnDef) (c : ℕ) (k : ColumnType) : Type 0 where
  pub there : nat_lt c (length ds) ≡ true
  pub typed : type_at ds c ≡ Some k

slot_below : (ds : List ColumnDef) (c : ℕ) (d : ColumnDef) → slice_get ds c ≡ Some d → c < length ds
slot_below [] c d e = absurd (some_none d (sym e))
slot_below (x ∷ ds) zero d e = omega arith
slot_below (x ∷ ds) (suc c) d e = let l : c < length ds = slot_below ds c d e in omega (arith, l)

at_typed : (ds : List ColumnDef) (c : ℕ) → Then (at_place ds c) (λ d. IsColumn ds d.place d.kind)
at_typed ds c = by_slot (slice_get ds c) refl
  where
    by_slot : (o : Option ColumnDef) → slice_get ds c ≡ o → Then (found_at c o) (λ d. IsColumn ds d.place d.kind)
    by_slot None e = tt
    by_slot (Some d) e = record { there = lt-ltb c (length ds) (slot_below ds c d e); typed = subst (λ o. kind_in o ≡ Some d.kind) (sym e) refl }

found_typed : (ds : List ColumnDef) (c : Option ℕ) → Then (option_and_then (λ c. at_place ds c) c) (λ d. IsColumn ds d.place d.kind)
found_typed ds None = tt
found_typed ds (Some c) = at_typed ds c

pub plain_typed : (ds : List ColumnDef) (w : List ℕ) → Then (plain_column ds w) (λ d. IsColumn ds d.place d.kind)
plain_typed ds w = found_typed ds (column_at ds w)

-- ---- the column to which a path leads
-- of the type that is said of it
abbrev pub IsLed : List EntityDef → ℕ → Column → Type 0
IsLed m e c = type_of_path m e c.path ≡ Some c.kind

typed_so : (m : List EntityDef) (e c : ℕ) (g : Option Target) (k : ColumnType) (o : Option ColumnType) → type_at (entity_columns m e) c ≡ Some k → type_led m g k ≡ o →
    type_of_path m e (record { column = c; target = g }) ≡ o
typed_so m e c g k o h l = subst (λ x. option_and_then (λ k. type_led m g k) x ≡ o) (sym h) l

own_led : (m : List EntityDef) (e : ℕ) (o : Option Found) → Then o (λ d. IsColumn (entity_columns m e) d.place d.kind) → Then (own o) (IsLed m e)
own_led m e None h = tt
own_led m e (Some d) h = typed_so m e d.place None d.kind (Some d.kind) h.typed refl

same : (n : ℕ) → (n == n) ≡ true
same n = eq-eqb n n refl

led_led : (m : List EntityDef) (e c n : ℕ) (o : Option Found) → type_at (entity_columns m e) c ≡ Some (ColumnType.Ref n) → Then o (λ d. IsColumn (entity_columns m n) d.place d.kind) → Then (led_to c n o) (IsLed m e)
led_led m e c n None t h = tt
led_led m e c n (Some d) t h =
    let g : Target = record { entity = n; column = d.place } in
    typed_so m e c (Some g) (ColumnType.Ref n) (Some d.kind) t (subst (λ b. cond b (type_at (entity_columns m n) d.place) None ≡ Some d.kind) (sym (same n)) h.typed)

type_leads : (m : List EntityDef) (e c : ℕ) (k : ColumnType) (w : List ℕ) → type_at (entity_columns m e) c ≡ Some k → Then (through_type m c k w) (IsLed m e)
type_leads m e c (ColumnType.Ref n) w t = led_led m e c n (plain_column (entity_columns m n) w) t (plain_typed (entity_columns m n) w)
type_leads m e c ColumnType.Int w t = tt
type_leads m e c ColumnType.Text w t = tt
type_leads m e c ColumnType.Bool w t = tt

through_led : (m : List EntityDef) (e : ℕ) (o : Option Found) (w : List ℕ) → Then o (λ d. IsColumn (entity_columns m e) d.place d.kind) → Then (through m o w) (IsLed m e)
through_led m e None w h = tt
through_led m e (Some r) w h = type_leads m e r.place r.kind w h.typed

entity_led : (m : List EntityDef) (e : ℕ) (t : Token) → Then (column_of m (entity_columns m e) t) (IsLed m e)
entity_led m e (Token.Word w) = own_led m e (plain_column (entity_columns m e) w) (plain_typed (entity_columns m e) w)
entity_led m e (Token.Path v w) = through_led m e (plain_column (entity_columns m e) v) w (plain_typed (entity_columns m e) v)
entity_led m e _ = tt

nowhere : (m : List EntityDef) (e : ℕ) (t : Token) → Then (column_of m [] t) (IsLed m e)
nowhere m e (Token.Word w) = tt
nowhere m e (Token.Path v w) = tt
nowhere m e _ = tt

pub column_led : (m : List EntityDef) (e : Option ℕ) (t : Token) → Then (column_of m (columns_of m e) t) (IsLed m (unwrap_or e 0))
column_led m None t = nowhere m 0 t
column_led m (Some e) t = entity_led m e t
