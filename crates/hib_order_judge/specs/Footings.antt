-- On what the instances of a session rest, by its own entries, the newest first.
use Rattle.std.specs.Prelude.{ℕ, Bool, true, false, if◌then◌else◌, not, List, slice_get, Some, None, Option, option_map, option_and_then}
use Rattle.std.specs.Option.{option_map_or, option_or}
use Rattle.std.specs.Map.{lookup}
use Rattle.hib_base.specs.Keys.{same_key}
use Rattle.hib_base.specs.Tables.{key_of, row_left}
use Rattle.hib_journal.specs.Types.{Key, Row, Change, Act, Reply, Entry}
use Rattle.hib_journal.specs.Sessions.{Journal}
use Rattle.hib_journal.specs.Held.{Arrival, Stay, stay, has_left, base_of, is_inserted, is_break, is_begin, held}
use Rattle.hib_order_law.specs.Judged.{before_write, writes_key}
use Rattle.hib_order_judge.specs.declared.footings.Footing.{Footing}

-- the base of an instance; and whether it is new and no insert of it was written
pub record Basis : Type 0 where
  pub row : Option Row
  pub fresh : Bool

abbrev pub is_fresh : Key → Stay → Bool
is_fresh k (Arrival.Read j r, m) = false
is_fresh k (Arrival.Made j r, m) = not (is_inserted k m)

abbrev pub basis_by : Key → Option Stay → Option Basis
basis_by k None = None
basis_by k (Some s) = if has_left k s then None else Some (record { row = base_of k s; fresh = is_fresh k s })

-- of the instance that a session holds of a key, if it does
abbrev pub basis_in : Key → Journal → Option Basis
basis_in k m = basis_by k (stay k m)

-- the key whose instance an act may change
abbrev pub touched : Act → Option Key
touched (Act.Get k t) = Some k
touched (Act.Load k) = Some k
touched (Act.Persist k r) = Some k
touched (Act.Remove k) = Some k
touched (Act.Write c) = Some (key_of c)
touched _ = None

abbrev pub touches : Key → Act → Bool
touches k a = option_map_or (λ j. same_key j k) (touched a) false

abbrev pub basis_written : Change → Basis → Option Basis
basis_written (Change.Insert j r) b = Some (record { row = Some r; fresh = false })
basis_written (Change.Update j v r) b = Some (record { row = Some r; fresh = b.fresh })
basis_written (Change.Delete j v) b = None

-- of the key that an act names, after it
abbrev pub basis_here : Act → Reply → Option Basis → Option Basis
basis_here (Act.Get j t) (Reply.Hit r) b = Some (record { row = Some r; fresh = false })
basis_here (Act.Load j) (Reply.Row (Some r)) b = Some (record { row = Some r; fresh = false })
basis_here (Act.Persist j r) Reply.New b = Some (record { row = None; fresh = true })
basis_here (Act.Write c) r b = option_and_then (basis_written c) b
basis_here (Act.Remove j) Reply.Removed b = option_and_then (λ x. if x.fresh then None else Some x) b
basis_here _ r b = b

-- of any key, after one more entry
abbrev pub basis_after : Key → Act → Reply → Option Basis → Option Basis
basis_after k a r b = if is_break a r then None else (if touches k a then basis_here a r b else b)

-- the base of a key before its first write since the last Begin, if there is such a write
abbrev pub rest_in : Key → Journal → Option (Option Row)
rest_in k mine = option_map (λ m. option_and_then (λ i. i.base) (held m k)) (before_write k mine)

abbrev pub rest_after : Key → Act → Option Basis → Option (Option Row) → Option (Option Row)
rest_after k a b o = if is_begin a then None else option_or o (if writes_key k a then Some (option_and_then (λ x. x.row) b) else None)

-- what is kept of each key: a row is known by the place, among all entries, of the one that gives it

abbrev pub row_given : Act → Reply → Option Row
row_given (Act.Get k t) (Reply.Hit r) = Some r
row_given (Act.Load k) (Reply.Row (Some r)) = Some r
row_given (Act.Write c) r = row_left c
row_given _ r = None

abbrev pub row_from : List Entry → ℕ → Option Row
row_from es n = option_and_then (λ (e : Entry). row_given e.act e.reply) (slice_get es n)

abbrev pub basis_of : List Entry → Footing → Basis
basis_of es f = record { row = option_and_then (row_from es) f.row; fresh = f.fresh }

abbrev pub basis_at : List Entry → List (Key × Footing) → Key → Option Basis
basis_at es fs k = option_map (basis_of es) (lookup (same_key k) fs)

abbrev pub rest_at : List Entry → List (Key × Option ℕ) → Key → Option (Option Row)
rest_at es rs k = option_map (option_and_then (row_from es)) (lookup (same_key k) rs)
