-- Places that were read are of sessions of the script, each once and at a node; what is cached is cached under soft locks.
use Rattle.std.proofs.Common.{◌≡◌, ◌<◌, ◌≤◌, ◌==◌, ◌&&◌, ◌||◌, ◌^◌, ℕ, Bool, true, false, not, cond, nat_lt, List, [], ◌∷◌, ◌++◌, length, Option, Some, None, Result, Ok, Err, codes, refl, ap, subst, arith}
use Rattle.std.specs.Prelude.{nat_le, position, bytes_eq, IfOk, option_and_then}
use Rattle.std.specs.List.{list_all}
use Rattle.std.proofs.lemmas.Bool.{and_parts, and_from, lt-ltb}
use Rattle.std.proofs.lemmas.Bool.Decides.{nat_tests}
use Rattle.std.proofs.lemmas.List.{length-append, length-map}
use Rattle.hib_base.specs.declared.refusals.Kind.{Kind}
use Rattle.hib_base.specs.declared.refusals.Refused.{Refused}
use Rattle.hib_base.specs.declared.scripts.EntityDef.{EntityDef}
use Rattle.hib_base.specs.declared.scripts.Order.{Order}
use Rattle.hib_base.specs.declared.scripts.SessionDef.{SessionDef}
use Rattle.hib_base.proofs.Gives.{Gives, gives_cond, given, Then, then_cond}
use Rattle.hib_base.proofs.Lists.{all_more, position_below}
use Rattle.hib_lex.specs.Words.{begins}
use Rattle.hib_lex.specs.declared.lexer.Token.{Token}
use Rattle.hib_lex.specs.declared.lines.Line.{Line}
use Rattle.hib_lex.specs.declared.lines.Lines.{Lines}
use Rattle.hib_mapping.specs.Parts.{is_a_word, is_a_number, is_within, number_up_to, word_of}
use Rattle.hib_statements.specs.Orders.{order_of, run_from, run_of, session_at, small32}
use Rattle.hib_nodes_law.specs.Types.{Nodings}
use Rattle.hib_nodes_law.specs.declared.nodes.NodeOrder.{NodeOrder}
use Rattle.hib_nodes_law.specs.declared.nodes.Places.{Places}
use Rattle.hib_sections.specs.Before.{fault_before}
use Rattle.hib_sections.specs.Places.{Read, AreFit, after, after_at, after_places, deliver_of, delivery, ended, ended_at, if_known, in_schedule, is_given, is_node, node_of, paired, place_of, places_of, reading, run_alone, start, with_order, with_place}
use Rattle.hib_sections.specs.Placed.{are_once, is_placed}
use Rattle.hib_sections.specs.Sections.{actor, alone, at_line, names, unless_before}
use Rattle.hib_sections.specs.declared.bulks.Place.{Place}
use Rattle.hib_script.specs.declared.errors.ScriptError.{ScriptError}
use Rattle.hib_sections.proofs.Locked.{locked}

-- ---- one place
pub record IsFit (count : ℕ) (ps : Nodings) (p : ℕ × ℕ) : Type 0 where
  pub node : is_node p.1 ≡ true
  pub session : nat_lt p.0 count ≡ true
  pub fresh : is_placed ps p.0 ≡ false

abbrev IsNode : ℕ → Type 0
IsNode n = is_node n ≡ true

node_fit : (t : Token) → Gives (node_of t) IsNode
node_fit t = gives_cond (is_within 1 1 t) _ _ IsNode (λ a. refl) (λ a. gives_cond (is_within 2 2 t) _ _ IsNode (λ b. refl) (λ b. tt))

abbrev IsBelow : ℕ → ℕ → Type 0
IsBelow count s = nat_lt s count ≡ true

session_fit : (ss : List SessionDef) (w : List ℕ) → Then (session_at ss w) (IsBelow (length ss))
session_fit ss w = by_place (position (λ s. bytes_eq s.name w) ss) refl
  where
    by_place : (o : Option ℕ) → position (λ s. bytes_eq s.name w) ss ≡ o → Then (option_and_then small32 o) (IsBelow (length ss))
    by_place None e = tt
    by_place (Some i) e =
        then_cond (nat_lt i (2 ^ 32)) (Some i) None (IsBelow (length ss))
        (λ s. lt-ltb i (length ss) (position_below (λ d. bytes_eq d.name w) ss i e)) (λ s. tt)

paired_fit : (count : ℕ) (ps : Nodings) (s : ℕ) (r : Result ℕ Kind) → IsBelow count s → is_placed ps s ≡ false → Gives r IsNode → Gives (paired s r) (IsFit count ps)
paired_fit count ps s (Err k) l f g = tt
paired_fit count ps s (Ok n) l f g = record { node = g; session = l; fresh = f }

known_fit : (count : ℕ) (ps : Nodings) (o : Option ℕ) (t : Token) → Then o (IsBelow count) → Gives (if_known ps o t) (IsFit count ps)
known_fit count ps None t l = tt
known_fit count ps (Some s) t l = gives_cond (is_placed ps s) _ _ (IsFit count ps) (λ e. tt) (λ e. paired_fit count ps s (node_of t) l e (node_fit t))

place_fit : (ps : Nodings) (ss : List SessionDef) (ts : List Token) → Gives (place_of ps ss ts) (IsFit (length ss) ps)
place_fit ps ss [] = tt
place_fit ps ss (a ∷ []) = tt
place_fit ps ss (a ∷ b ∷ []) = tt
place_fit ps ss (a ∷ name ∷ node ∷ []) =
    gives_cond (is_a_word name && is_a_number node) _ _ (IsFit (length ss) ps)
    (λ w. known_fit (length ss) ps (session_at ss (word_of name)) node (session_fit ss (word_of name))) (λ w. tt)
place_fit ps ss (a ∷ b ∷ c ∷ d ∷ ts) = tt

-- ---- one order
abbrev IsGiven : ℕ → NodeOrder → Type 0
IsGiven count o = is_given count o ≡ true

run_cond : (count : ℕ) (b : Bool) (x y : Result Order Kind) → Gives (run_alone x) (IsGiven count) → Gives (run_alone y) (IsGiven count) → Gives (run_alone (cond b x y)) (IsGiven count)
run_cond count true x y f g = f
run_cond count false x y f g = g

from_fit : (count : ℕ) (o : Option ℕ) (t : Token) → Then o (IsBelow count) → Gives (run_alone (run_from o t)) (IsGiven count)
from_fit count None t l = tt
from_fit count (Some s) t l = run_cond count (is_within 1 1000000 t) (Ok (Order.Run s (number_up_to 1000000 t))) (Err Kind.Number) l tt

run_fit : (ss : List SessionDef) (ts : List Token) → Gives (run_alone (run_of ss ts)) (IsGiven (length ss))
run_fit ss [] = tt
run_fit ss (a ∷ []) = tt
run_fit ss (a ∷ b ∷ []) = tt
run_fit ss (a ∷ name ∷ steps ∷ []) =
    run_cond (length ss) (is_a_word name && is_a_number steps) (run_from (session_at ss (word_of name)) steps) (Err Kind.Words)
    (from_fit (length ss) (session_at ss (word_of name)) steps (session_fit ss (word_of name))) tt
run_fit ss (a ∷ b ∷ c ∷ d ∷ ts) = tt

order_fit : (m : List EntityDef) (ss : List SessionDef) (ts : List Token) → begins (codes "run") ts ≡ true → Gives (run_alone (order_of m ss ts)) (IsGiven (length ss))
order_fit m ss ts e = let same : order_of m ss ts ≡ run_of ss ts = rw e refl in rw same (run_fit ss ts)

delivery_fit : (count : ℕ) (r : Result ℕ Kind) → Gives r IsNode → Gives (delivery r) (IsGiven count)
delivery_fit count (Err k) g = tt
delivery_fit count (Ok n) g = g

deliver_fit : (count : ℕ) (ts : List Token) → Gives (deliver_of ts) (IsGiven count)
deliver_fit count [] = tt
deliver_fit count (a ∷ []) = tt
deliver_fit count (a ∷ node ∷ []) = gives_cond (is_a_number node) _ _ (IsGiven count) (λ n. delivery_fit count (node_of node) (node_fit node)) (λ n. tt)
deliver_fit count (a ∷ b ∷ c ∷ ts) = tt

-- ---- one more at the end
other_way : (a b : ℕ) → (a == b) ≡ false → (b == a) ≡ false
other_way a b e = grind (arith, nat_tests)

not_either : (a b : Bool) → (a || b) ≡ false → (a ≡ false) × (b ≡ false)
not_either false b e = (refl, e)
not_either true b e = absurd (cc)

is_not : (b : Bool) → not b ≡ true → b ≡ false
is_not false e = refl
is_not true e = absurd (cc)

placed_more : (ps : Nodings) (p : ℕ × ℕ) (s : ℕ) → is_placed ps s ≡ false → (s == p.0) ≡ false → is_placed (ps ++ p ∷ []) s ≡ false
placed_more [] p s h e = rw e refl
placed_more (q ∷ ps) p s h e =
    let both : ((s == q.0) ≡ false) × (is_placed ps s ≡ false) = not_either (s == q.0) (is_placed ps s) h in
    rw both.0 (placed_more ps p s both.1 e)

once_more : (ps : Nodings) (p : ℕ × ℕ) → are_once ps ≡ true → is_placed ps p.0 ≡ false → are_once (ps ++ p ∷ []) ≡ true
once_more [] p h f = refl
once_more (q ∷ ps) p h f =
    let both : (not (is_placed ps q.0) ≡ true) × (are_once ps ≡ true) = and_parts (not (is_placed ps q.0)) (are_once ps) h in
    let apart : ((p.0 == q.0) ≡ false) × (is_placed ps p.0 ≡ false) = not_either (p.0 == q.0) (is_placed ps p.0) f in
    let unplaced : is_placed (ps ++ p ∷ []) q.0 ≡ false = placed_more ps p q.0 (is_not (is_placed ps q.0) both.0) (other_way p.0 q.0 apart.0) in
    and_from (not (is_placed (ps ++ p ∷ []) q.0)) (are_once (ps ++ p ∷ [])) (ap not unplaced) (once_more ps p both.1 apart.1)

-- ---- all lines
record AreRead (count : ℕ) (ps : Nodings) (os : List NodeOrder) : Type 0 where
  nodes : list_all (λ p. is_node p.1) ps ≡ true
  sessions : list_all (λ p. nat_lt p.0 count) ps ≡ true
  once : are_once ps ≡ true
  orders : list_all (is_given count) os ≡ true
  few : length os ≤ 20000

abbrev Fits : ℕ → Read → Type 0
Fits count r = AreRead count r.nodes r.orders

with_place_fit : (count : ℕ) (r : Read) (p : Result (ℕ × ℕ) Kind) → Fits count r → Gives p (IsFit count r.nodes) → Gives (with_place r p) (Fits count)
with_place_fit count r (Err k) f g = tt
with_place_fit count r (Ok p) f g = record {
  nodes = all_more (λ q. is_node q.1) r.nodes p f.nodes g.node;
  sessions = all_more (λ q. nat_lt q.0 count) r.nodes p f.sessions g.session;
  once = once_more r.nodes p f.once g.fresh;
  orders = f.orders;
  few = f.few;
}

room_left : (n : ℕ) → nat_le 20000 n ≡ false → n < 20000
room_left n e = grind (arith, nat_tests)

with_order_fit : (count : ℕ) (r : Read) (o : Result NodeOrder Kind) → Fits count r → Gives o (IsGiven count) → Gives (with_order r o) (Fits count)
with_order_fit count r (Err k) f g = tt
with_order_fit count r (Ok o) f g =
    gives_cond (nat_le 20000 (length r.orders)) _ _ (Fits count) (λ n. tt)
    (λ n. record {
      nodes = f.nodes;
      sessions = f.sessions;
      once = f.once;
      orders = all_more (is_given count) r.orders o f.orders g;
      few = omega (arith, room_left (length r.orders) n, length-append r.orders (o ∷ []));
    })

alone_fit : (count : ℕ) (ts : List Token) (r : Read) → Fits count r → Gives (alone ts r) (Fits count)
alone_fit count [] r f = tt
alone_fit count (t ∷ []) r f = f
alone_fit count (t ∷ u ∷ ts) r f = tt

places_fit : (ss : List SessionDef) (r : Read) (ts : List Token) → Fits (length ss) r → Gives (after_places ss r ts) (Fits (length ss))
places_fit ss r ts f =
    gives_cond (begins (codes "place") ts) _ _ (Fits (length ss)) (λ p. with_place_fit (length ss) r (place_of r.nodes ss ts) f (place_fit r.nodes ss ts))
    (λ p. gives_cond (begins (codes "schedule") ts) _ _ (Fits (length ss)) (λ s. alone_fit (length ss) ts (record r { place = Place.Schedule }) f) (λ s. tt))

schedule_fit : (m : List EntityDef) (ss : List SessionDef) (r : Read) (ts : List Token) → Fits (length ss) r → Gives (in_schedule m ss r ts) (Fits (length ss))
schedule_fit m ss r ts f =
    gives_cond (begins (codes "end") ts) _ _ (Fits (length ss)) (λ e. alone_fit (length ss) ts (record r { place = Place.Over }) f)
    (λ e. gives_cond (begins (codes "run") ts) _ _ (Fits (length ss)) (λ n. with_order_fit (length ss) r (run_alone (order_of m ss ts)) f (order_fit m ss ts n))
    (λ n. gives_cond (begins (codes "deliver") ts) _ _ (Fits (length ss)) (λ d. with_order_fit (length ss) r (deliver_of ts) f (deliver_fit (length ss) ts)) (λ d. tt)))

after_fit : (m : List EntityDef) (ss : List SessionDef) (r : Read) (ts : List Token) (p : Place) → Fits (length ss) r → Gives (after_at m ss r ts p) (Fits (length ss))
after_fit m ss r ts Place.Lines f = places_fit ss r ts f
after_fit m ss r ts Place.Schedule f = schedule_fit m ss r ts f
after_fit m ss r ts Place.Over f = tt

at_fit : (count n : ℕ) (r : Result Read Kind) → Gives r (Fits count) → Gives (at_line n r) (Fits count)
at_fit count n (Err k) g = tt
at_fit count n (Ok r) g = g

reading_fit : (m : List EntityDef) (ss : List SessionDef) (r : Result Read Refused) (ls : List Line) → Gives r (Fits (length ss)) → Gives (reading m ss r ls) (Fits (length ss))
reading_fit m ss (Err x) ls g = tt
reading_fit m ss (Ok r) [] g = g
reading_fit m ss (Ok r) (l ∷ ls) g =
    reading_fit m ss (at_line l.line (after m ss r l.tokens)) ls (at_fit (length ss) l.line (after m ss r l.tokens) (after_fit m ss r l.tokens r.place g))

abbrev AreSaid : ℕ → Nodings × List NodeOrder → Type 0
AreSaid count p = AreRead count p.0 p.1

ended_fit : (count n : ℕ) (r : Result Read Refused) → Gives r (Fits count) → Gives (ended n r) (AreSaid count)
ended_fit count n (Err x) g = tt
ended_fit count n (Ok r) g = by_place r.place
  where
    by_place : (p : Place) → Gives (ended_at n r p) (AreSaid count)
    by_place Place.Schedule = tt
    by_place Place.Lines = g
    by_place Place.Over = g

unless_fit : (count : ℕ) (o : Option Refused) (r : Result (Nodings × List NodeOrder) Refused) → Gives r (AreSaid count) → Gives (unless_before o r) (λ p. AreSaid count p × (o ≡ None))
unless_fit count (Some x) r g = tt
unless_fit count None (Err x) g = tt
unless_fit count None (Ok p) g = (g, refl)

-- ---- what was read
pub are_fit : (m : List EntityDef) (sessions : List SessionDef) (before : List Line) (behind : Lines) (ps : Nodings) (os : List NodeOrder) → places_of m sessions before behind ≡ Ok (ps, os) →
    AreFit m sessions ps os
are_fit m sessions before behind ps os e =
    let count : ℕ = length (names sessions) in
    let same : length (names sessions) ≡ length sessions = length-map sessions (λ s. actor s.name) in
    let nothing : Fits count start = record { nodes = refl; sessions = refl; once = refl; orders = refl; few = omega arith } in
    let g : AreSaid count (ps, os) × (fault_before m before ≡ None) =
    given (places_of m sessions before behind) (λ p. AreSaid count p × (fault_before m before ≡ None)) (ps, os)
    (unless_fit count (fault_before m before) (ended behind.count (reading m (names sessions) (Ok start) behind.lines))
    (ended_fit count behind.count (reading m (names sessions) (Ok start) behind.lines) (reading_fit m (names sessions) (Ok start) behind.lines nothing))) e in
    record {
      nodes = g.0.nodes;
      sessions = subst (λ n. list_all (λ p. nat_lt p.0 n) ps ≡ true) same g.0.sessions;
      once = g.0.once;
      orders = subst (λ n. list_all (is_given n) os ≡ true) same g.0.orders;
      few = g.0.few;
      strategies = locked m before g.1;
    }

pub are_fit_if : (m : List EntityDef) (sessions : List SessionDef) (before : List Line) (behind : Lines) (x : Result Places ScriptError) → IfOk x (λ p. places_of m sessions before behind ≡ Ok (p.nodes, p.orders)) →
    IfOk x (λ p. AreFit m sessions p.nodes p.orders)
are_fit_if m sessions before behind (Err x) e = tt
are_fit_if m sessions before behind (Ok p) e = are_fit m sessions before behind p.nodes p.orders e
