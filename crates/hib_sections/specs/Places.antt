-- The section of places: the nodes of sessions, and then a schedule of runs and deliveries, if there is one.
use Rattle.std.specs.Prelude.{◌≡◌, ◌≤◌, ◌==◌, ◌&&◌, ◌||◌, ℕ, Bool, true, if◌then◌else◌, nat_le, nat_lt, List, [], ◌∷◌, ◌++◌, length, codes, slice_get, Option, Some, None, Result, Ok, Err}
use Rattle.std.specs.List.{list_all}
use Rattle.hib_base.specs.Scripts.{strategy_in, is_cached_in}
use Rattle.hib_base.specs.Valid.{max_orders}
use Rattle.hib_base.specs.declared.refusals.Kind.{Kind}
use Rattle.hib_base.specs.declared.refusals.Refused.{Refused}
use Rattle.hib_base.specs.declared.scripts.EntityDef.{EntityDef}
use Rattle.hib_base.specs.declared.scripts.Order.{Order}
use Rattle.hib_base.specs.declared.scripts.SessionDef.{SessionDef}
use Rattle.hib_base.specs.declared.scripts.Strategy.{Strategy}
use Rattle.hib_lex.specs.Words.{begins}
use Rattle.hib_lex.specs.declared.lexer.Token.{Token}
use Rattle.hib_lex.specs.declared.lines.Line.{Line}
use Rattle.hib_lex.specs.declared.lines.Lines.{Lines}
use Rattle.hib_mapping.specs.Parts.{is_a_word, is_a_number, is_within, word_of}
use Rattle.hib_statements.specs.Orders.{order_of, session_at}
use Rattle.hib_nodes_law.specs.Types.{Nodings}
use Rattle.hib_nodes_law.specs.declared.nodes.NodeOrder.{NodeOrder}
use Rattle.hib_sections.specs.Before.{fault_before}
use Rattle.hib_sections.specs.Placed.{are_once, is_placed}
use Rattle.hib_sections.specs.Sections.{alone, at_line, names, unless_before}
use Rattle.hib_sections.specs.declared.bulks.Place.{Place}
use Rattle.hib_sections.specs.declared.places.Reading.{Reading}

-- what was read: where sessions are, the orders, and where the next line stands
pub record Read : Type 0 where
  pub nodes : Nodings
  pub orders : List NodeOrder
  pub place : Place

abbrev pub read_of : Reading → Read
read_of r = record { nodes = r.nodes; orders = r.orders; place = r.place }

abbrev pub start : Read
start = record { nodes = []; orders = []; place = Place.Lines }

-- a node is 1 or 2
abbrev pub node_of : Token → Result ℕ Kind
node_of t =
    if is_within 1 1 t then Ok 1
    else if is_within 2 2 t then Ok 2
    else Err Kind.Number

-- ---- place SESSION N
abbrev pub paired : ℕ → Result ℕ Kind → Result (ℕ × ℕ) Kind
paired s (Err k) = Err k
paired s (Ok n) = Ok (s, n)

abbrev pub if_known : Nodings → Option ℕ → Token → Result (ℕ × ℕ) Kind
if_known ps None node = Err Kind.Unknown
if_known ps (Some s) node = if is_placed ps s then Err Kind.Taken else paired s (node_of node)

abbrev pub place_of : Nodings → List SessionDef → List Token → Result (ℕ × ℕ) Kind
place_of ps ss (first ∷ name ∷ node ∷ []) =
    if is_a_word name && is_a_number node then if_known ps (session_at ss (word_of name)) node else Err Kind.Words
place_of ps ss _ = Err Kind.Words

abbrev pub with_place : Read → Result (ℕ × ℕ) Kind → Result Read Kind
with_place r (Err k) = Err k
with_place r (Ok p) = Ok (record r { nodes = r.nodes ++ p ∷ [] })

abbrev pub after_places : List SessionDef → Read → List Token → Result Read Kind
after_places ss r ts =
    if begins (codes "place") ts then with_place r (place_of r.nodes ss ts)
    else if begins (codes "schedule") ts then alone ts (record r { place = Place.Schedule })
    else Err Kind.Line

-- ---- run SESSION N, as in the schedule of a script
abbrev pub run_alone : Result Order Kind → Result NodeOrder Kind
run_alone (Err k) = Err k
run_alone (Ok (Order.Run s n)) = Ok (NodeOrder.Run s n)
run_alone (Ok _) = Err Kind.Line

-- ---- deliver N
abbrev pub delivery : Result ℕ Kind → Result NodeOrder Kind
delivery (Err k) = Err k
delivery (Ok n) = Ok (NodeOrder.Deliver n)

abbrev pub deliver_of : List Token → Result NodeOrder Kind
deliver_of (first ∷ node ∷ []) = if is_a_number node then delivery (node_of node) else Err Kind.Words
deliver_of _ = Err Kind.Words

abbrev pub with_order : Read → Result NodeOrder Kind → Result Read Kind
with_order r (Err k) = Err k
with_order r (Ok o) = if nat_le max_orders (length r.orders) then Err Kind.Many else Ok (record r { orders = r.orders ++ o ∷ [] })

abbrev pub in_schedule : List EntityDef → List SessionDef → Read → List Token → Result Read Kind
in_schedule m ss r ts =
    if begins (codes "end") ts then alone ts (record r { place = Place.Over })
    else if begins (codes "run") ts then with_order r (run_alone (order_of m ss ts))
    else if begins (codes "deliver") ts then with_order r (deliver_of ts)
    else Err Kind.Line

-- ---- all lines
abbrev pub after_at : List EntityDef → List SessionDef → Read → List Token → Place → Result Read Kind
after_at m ss r ts Place.Lines = after_places ss r ts
after_at m ss r ts Place.Schedule = in_schedule m ss r ts
after_at m ss r ts Place.Over = Err Kind.Line

abbrev pub after : List EntityDef → List SessionDef → Read → List Token → Result Read Kind
after m ss r ts = after_at m ss r ts r.place

-- the first bad line ends it
abbrev pub reading : List EntityDef → List SessionDef → Result Read Refused → List Line → Result Read Refused
reading m ss (Err x) ls = Err x
reading m ss (Ok r) [] = Ok r
reading m ss (Ok r) (l ∷ ls) = reading m ss (at_line l.line (after m ss r l.tokens)) ls

-- a schedule has its end before that of the text, which has so many lines
abbrev pub ended_at : ℕ → Read → Place → Result (Nodings × List NodeOrder) Refused
ended_at n r Place.Schedule = Err (record { line = n; kind = Kind.NoEnd })
ended_at n r _ = Ok (r.nodes, r.orders)

abbrev pub ended : ℕ → Result Read Refused → Result (Nodings × List NodeOrder) Refused
ended n (Err x) = Err x
ended n (Ok r) = ended_at n r r.place

-- the places and the orders of a section after the lines of a script; or the first bad line of both
abbrev pub places_of : List EntityDef → List SessionDef → List Line → Lines → Result (Nodings × List NodeOrder) Refused
places_of m sessions before behind =
    unless_before (fault_before m before) (ended behind.count (reading m (names sessions) (Ok start) behind.lines))

-- ---- what holds of places that were read
abbrev pub is_node : ℕ → Bool
is_node n = (n == 1) || (n == 2)

-- an order is given to one of so many sessions, or to a node
abbrev pub is_given : ℕ → NodeOrder → Bool
is_given count (NodeOrder.Run s n) = nat_lt s count
is_given count (NodeOrder.Deliver n) = is_node n

-- sessions of the script are at nodes, each named once; the orders aren't more than the limit, and what is cached is cached under soft locks
pub record AreFit (m : List EntityDef) (ss : List SessionDef) (ps : Nodings) (os : List NodeOrder) : Type 0 where
  pub nodes : list_all (λ p. is_node p.1) ps ≡ true
  pub sessions : list_all (λ p. nat_lt p.0 (length ss)) ps ≡ true
  pub once : are_once ps ≡ true
  pub orders : list_all (is_given (length ss)) os ≡ true
  pub few : length os ≤ max_orders
  pub strategies : (n : ℕ) → is_cached_in m n ≡ true → strategy_in (slice_get m n) ≡ Strategy.ReadWrite
