-- That the tables of a keeper are in order, for the law of the trait.
use Rattle.std.specs.Prelude.{◌≡◌, Bool, true, false, Option, Some, None, IfSome, refl}
use Rattle.std.specs.Option.{option_map}
use Rattle.hib_base.specs.Tables.{in_order}
use Rattle.hib_sqlite_rows.specs.Told.{Told}
use Rattle.hib_keeper_sqlite.specs.Keeps.{tables_in}

pub tables_in_order : {T : Type 0} (tells : Bool) (told : T → Option Told) → ((table : T) → IfSome (told table) (λ t. in_order t.now ≡ true)) → (table : Option T) → IfSome (tables_in tells told table) (λ m. in_order m ≡ true)
tables_in_order true told ordered None = refl
tables_in_order false told ordered None = tt
tables_in_order tells told ordered (Some table) = by (told table) (ordered table)
  where
    by : (o : Option Told) → IfSome o (λ t. in_order t.now ≡ true) → IfSome (option_map {T = Told} (λ t. t.now) o) (λ m. in_order m ≡ true)
    by None h = tt
    by (Some t) h = h
