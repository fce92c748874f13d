-- A session's entries that are the acts of its plan stay so as it is given more statements.
use Rattle.std.proofs.Common.{◌≡◌, ℕ, true, List, [], ◌∷◌, ◌++◌, Some, subst}
use Rattle.hib_journal.specs.Types.{Key, Row, Mode, Statement, SessionDef, Order, Script, Act}
use Rattle.hib_journal.specs.Sessions.{Journal}
use Rattle.hib_journal.specs.Plan.{Plan, left_of, InOrder}
use Rattle.hib_journal.specs.Next.{blocks, plan_of, next}
use Rattle.hib_live_law.specs.Grown.{AreLonger, HasGrown}
use Rattle.hib_live_law.proofs.Longer.{Extends, left_longer, first_longer}
use Rattle.hib_live_law.proofs.Acts.{with_rest, statements_at, longer_at, blocks_longer, next_longer}
use Rattle.hib_live_law.proofs.Legal.{is_with}

order_longer : (p q : Plan) (mine : Journal) → Extends p q → InOrder p mine → InOrder q mine
order_longer p q [] x o = tt
order_longer p q (e ∷ m) x o = (order_longer p q m x o.0, first_longer (left_of p m) (left_of q m) e.act (left_longer p q m x) o.1)

module _ (s : Script) (rows : List (Key × Row)) (ds : List SessionDef) (os : List Order) where
  pub in_order : (n : ℕ) (mine : Journal) → AreLonger s.sessions ds → InOrder (plan_of s n) mine → InOrder (plan_of (with_rest s rows ds os) n) mine
  in_order n mine l o =
      let m : (more : List Statement) × (statements_at ds n ≡ statements_at s.sessions n ++ more) = longer_at s.sessions ds n l in
      rw m.1 (order_longer (blocks s Mode.Normal true (statements_at s.sessions n) []) (blocks (with_rest s rows ds os) Mode.Normal true (statements_at s.sessions n ++ m.0) []) mine
      (blocks_longer s rows ds os Mode.Normal true (statements_at s.sessions n) m.0 []) o)

pub order_grows : (s t : Script) → HasGrown s t → (n : ℕ) (mine : Journal) → InOrder (plan_of s n) mine → InOrder (plan_of t n) mine
order_grows s t g n mine o = subst (λ x. InOrder (plan_of x n) mine) (is_with s t g) (in_order s t.rows t.sessions t.schedule n mine g.sessions o)

pub next_grows : (s t : Script) → HasGrown s t → (n : ℕ) (mine : Journal) (a : Act) → next s n mine ≡ Some a → next t n mine ≡ Some a
next_grows s t g n mine a p = subst (λ x. next x n mine ≡ Some a) (is_with s t g) (next_longer s t.rows t.sessions t.schedule n mine a g.sessions p)
