-- What a session does hangs on its own statements, and on no other session.
use Rattle.std.proofs.Common.{◌≡◌, ℕ, true, List, [], ap, subst, ◌∙◌}
use Rattle.hib_journal.specs.Types.{Key, Row, Mode, SessionDef, Order, Script}
use Rattle.hib_journal.specs.Sessions.{Journal}
use Rattle.hib_journal.specs.Plan.{left_of, first_act}
use Rattle.hib_journal.specs.Next.{blocks, plan_of, next}
use Rattle.hib_live_law.specs.Grown.{HasFrame, statements_of}
use Rattle.hib_live_law.proofs.Acts.{with_rest, statements_at}
use Rattle.hib_live_law.proofs.Same.{blocks_same}

plan_same : (s : Script) (rows : List (Key × Row)) (ds : List SessionDef) (os : List Order) (n : ℕ) → statements_at s.sessions n ≡ statements_at ds n
    → plan_of s n ≡ plan_of (with_rest s rows ds os) n
plan_same s rows ds os n p =
    blocks_same s rows ds os Mode.Normal true (statements_at s.sessions n) [] ∙ ap (λ sts. blocks (with_rest s rows ds os) Mode.Normal true sts []) p

is_framed : (s t : Script) → HasFrame s t → with_rest s t.rows t.sessions t.schedule ≡ t
is_framed s t g = λ i. record {
  timeout = g.timeout i;
  results = g.results i;
  mapping = g.mapping i;
  rows = t.rows;
  queries = g.queries i;
  sessions = t.sessions;
  schedule = t.schedule;
}

pub plan_alone : (s t : Script) → HasFrame s t → (n : ℕ) → statements_of s n ≡ statements_of t n → plan_of s n ≡ plan_of t n
plan_alone s t g n p = subst (λ x. plan_of s n ≡ plan_of x n) (is_framed s t g) (plan_same s t.rows t.sessions t.schedule n p)

pub next_alone : (s t : Script) → HasFrame s t → (n : ℕ) → statements_of s n ≡ statements_of t n → (mine : Journal) → next s n mine ≡ next t n mine
unfolding next
next_alone s t g n p mine = ap (λ q. first_act (left_of q mine)) (plan_alone s t g n p)
