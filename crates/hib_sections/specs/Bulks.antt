-- The section of bulk changes: bulk lines, and then a schedule of runs, if there is one.
use Rattle.std.specs.Prelude.{◌≡◌, ◌≤◌, ◌<◌, ◌==◌, ◌||◌, ℕ, Bool, true, false, if◌then◌else◌, nat_le, List, [], ◌∷◌, ◌++◌, length, map, codes, slice_get, Some, Result, Ok, Err}
use Rattle.std.specs.Option.{option_map_or}
use Rattle.hib_base.specs.declared.refusals.Kind.{Kind}
use Rattle.hib_base.specs.declared.refusals.Refused.{Refused}
use Rattle.hib_base.specs.declared.scripts.EntityDef.{EntityDef}
use Rattle.hib_base.specs.Scripts.{strategy_in, is_cached_in}
use Rattle.hib_base.specs.declared.scripts.Order.{Order}
use Rattle.hib_base.specs.declared.scripts.SessionDef.{SessionDef}
use Rattle.hib_base.specs.declared.scripts.Strategy.{Strategy}
use Rattle.hib_journal.specs.Query.{mentions}
use Rattle.hib_base.specs.Valid.{max_orders}
use Rattle.hib_bulk_law.specs.declared.bulks.BulkDef.{BulkDef}
use Rattle.hib_bulk_law.specs.Types.{max_lines}
use Rattle.hib_lex.specs.Words.{begins}
use Rattle.hib_lex.specs.declared.lexer.Token.{Token}
use Rattle.hib_lex.specs.declared.lines.Line.{Line}
use Rattle.hib_lex.specs.declared.lines.Lines.{Lines}
use Rattle.hib_statements.specs.Orders.{order_of}
use Rattle.hib_sections.specs.Before.{fault_before}
use Rattle.hib_sections.specs.BulkLines.{BulkSaid, bulk_of, said_of}
use Rattle.hib_sections.specs.Sections.{actor, alone, at_line, names, unless_before}
use Rattle.hib_sections.specs.declared.bulks.Place.{Place}
use Rattle.hib_sections.specs.declared.bulks.Reading.{Reading}

-- what was read: the lines, the orders, who can be named in an order, and where the next line stands
pub record Read : Type 0 where
  pub lines : List BulkSaid
  pub orders : List Order
  pub named : List SessionDef
  pub place : Place

abbrev pub read_of : Reading → Read
read_of r = record { lines = map said_of r.lines; orders = r.orders; named = r.named; place = r.place }

abbrev pub start : List SessionDef → Read
start sessions = record { lines = []; orders = []; named = names sessions; place = Place.Lines }

-- ---- a bulk line: `update`, or else `delete`
abbrev pub bulk_line_of : Bool → List EntityDef → Read → List Token → Result BulkSaid Kind
bulk_line_of sets m r ts = bulk_of sets m r.named (length r.lines) ts

abbrev pub with_line : Read → Result BulkSaid Kind → Result Read Kind
with_line r (Err k) = Err k
with_line r (Ok d) = Ok (record r { lines = r.lines ++ d ∷ []; named = r.named ++ actor d.name ∷ [] })

abbrev pub after_lines : List EntityDef → Read → List Token → Result Read Kind
after_lines m r ts =
    if begins (codes "update") ts then with_line r (bulk_line_of true m r ts)
    else if begins (codes "delete") ts then with_line r (bulk_line_of false m r ts)
    else if begins (codes "schedule") ts then alone ts (record r { place = Place.Schedule })
    else Err Kind.Line

-- ---- a line of the schedule: it runs sessions and bulk lines alone
abbrev pub with_order : Read → Result Order Kind → Result Read Kind
with_order r (Err k) = Err k
with_order r (Ok o) = if nat_le max_orders (length r.orders) then Err Kind.Many else Ok (record r { orders = r.orders ++ o ∷ [] })

abbrev pub in_schedule : List EntityDef → Read → List Token → Result Read Kind
in_schedule m r ts =
    if begins (codes "end") ts then alone ts (record r { place = Place.Over })
    else if begins (codes "run") ts then with_order r (order_of m r.named ts)
    else Err Kind.Line

-- ---- all lines
abbrev pub after_at : List EntityDef → Read → List Token → Place → Result Read Kind
after_at m r ts Place.Lines = after_lines m r ts
after_at m r ts Place.Schedule = in_schedule m r ts
after_at m r ts Place.Over = Err Kind.Line

abbrev pub after : List EntityDef → Read → List Token → Result Read Kind
after m r ts = after_at m r ts r.place

-- the first bad line ends it
abbrev pub reading : List EntityDef → Result Read Refused → List Line → Result Read Refused
reading m (Err x) ls = Err x
reading m (Ok r) [] = Ok r
reading m (Ok r) (l ∷ ls) = reading m (at_line l.line (after m r l.tokens)) ls

-- a schedule has its end before that of the text, which has so many lines
abbrev pub ended_at : ℕ → Read → Place → Result (List BulkSaid × List Order) Refused
ended_at n r Place.Schedule = Err (record { line = n; kind = Kind.NoEnd })
ended_at n r _ = Ok (r.lines, r.orders)

abbrev pub ended : ℕ → Result Read Refused → Result (List BulkSaid × List Order) Refused
ended n (Err x) = Err x
ended n (Ok r) = ended_at n r r.place

-- the bulk lines and the orders of a section after the lines of a script; or the first bad line of both
abbrev pub bulks_of : List EntityDef → List SessionDef → List Line → Lines → Result (List BulkSaid × List Order) Refused
bulks_of m sessions before behind = unless_before (fault_before m before) (ended behind.count (reading m (Ok (start sessions)) behind.lines))

-- ---- what holds of lines that were read
-- they aren't more than the limit, each reads entities of the mapping alone, and what is cached is cached under soft locks
pub record AreFit (m : List EntityDef) (ds : List BulkDef) : Type 0 where
  pub few : length ds ≤ max_lines
  pub below : (i : ℕ) (d : BulkDef) → slice_get ds i ≡ Some d → (n : ℕ) → ((d.entity == n) || option_map_or (mentions n) d.condition false) ≡ true → n < length m
  pub strategies : (n : ℕ) → is_cached_in m n ≡ true → strategy_in (slice_get m n) ≡ Strategy.ReadWrite
