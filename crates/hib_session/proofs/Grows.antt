-- A session that has come so far by its script has come so far by each script that this may grow into.
use Rattle.std.specs.Option.{option_map_or}
use Rattle.std.proofs.Common.{◌≡◌, ◌≤◌, ◌+◌, ◌⊎◌, ℕ, inl, inr, Bool, true, false, List, [], ◌∷◌, ◌++◌, length, drop, slice_get, Some, None, Option, refl, ap, sym, subst, ◌∙◌, arith}
use Rattle.std.proofs.lemmas.List.{append_assoc, drop-append-le, length-append}
use Rattle.hib_journal.specs.Types.{Key, Row, Mode, Statement, SessionDef, Order, Script, Act}
use Rattle.hib_journal.specs.Sessions.{Journal, own, was_killed}
use Rattle.hib_journal.specs.Plan.{Plan, each, left_of, InOrder}
use Rattle.hib_journal.specs.Next.{blocks, plan_of, completion}
use Rattle.hib_live_law.specs.Grown.{AreLonger, HasGrown, IsUnused}
use Rattle.hib_live_law.proofs.Acts.{with_rest, statements_at, longer_at}
use Rattle.hib_live_law.proofs.Same.{load_same, get_same, store_same, check_same, look_same, answer_same, blocks_same}
use Rattle.hib_live_law.proofs.Legal.{is_with}
use Rattle.hib_live_law.proofs.Orders.{in_order}
use Rattle.hib_session.specs.declared.control.Stage.{Stage}
use Rattle.hib_session.specs.declared.control.Control.{Control}
use Rattle.hib_session.specs.declared.session.Session.{Session}
use Rattle.hib_session.specs.declared.ahead.Ending.{Ending}
use Rattle.hib_session.specs.Control.{staged, queued, untaken, plan_with, plan_at, Stands}
use Rattle.hib_session.specs.Ahead.{Ends}
use Rattle.hib_session.specs.Session.{Follows, number_of, is_killed}
use Rattle.hib_session.specs.Sessions.{AreSessions}
use Rattle.hib_session.proofs.Together.{at_end}

module _ (s : Script) (rows : List (Key × Row)) (ds : List SessionDef) (os : List Order) where
  abbrev t : Script
  t = with_rest s rows ds os

  staged_same : (m : Mode) (stage : Stage) (done : Journal) (go : Journal → Plan) → staged s m stage done go ≡ staged t m stage done go
  staged_same m (Stage.Getting k) done go = get_same s rows ds os m k done go
  staged_same m (Stage.Loading k) done go = load_same s rows ds os m k done go
  staged_same m (Stage.Answering q) done go = answer_same s rows ds os m q done go
  staged_same m (Stage.Looking q) done go = look_same s rows ds os m q done go
  staged_same m (Stage.Checking q u) done go = check_same s rows ds os m q u done go
  staged_same m (Stage.Listing q) done go = store_same s rows ds os m q done go
  staged_same m Stage.Idle done go = refl
  staged_same m Stage.Committing done go = refl
  staged_same m Stage.RollingBack done go = refl

  queued_same : (m : Mode) (acts : List Act) (stage : Stage) (done : Journal) (go on : Journal → Plan) → go ≡ on → queued s m acts stage done go ≡ queued t m acts stage done on
  queued_same m acts stage done go on p = λ i. each acts done (λ d. (staged_same m stage d go ∙ ap (λ f. staged t m stage d f) p) i)

  stands_grown : (c : Control) (done : Journal) → AreLonger s.sessions ds → Stands s c done → Stands t c done
  stands_grown c done l h =
      let own : List Statement = statements_at s.sessions c.number in
      let m : (more : List Statement) × (statements_at ds c.number ≡ own ++ more) = longer_at s.sessions ds c.number l in
      let e : length (own ++ m.0) ≡ length own + length m.0 = length-append own m.0 in
      let within : c.place ≤ length own = h.0 in
      let cut : drop c.place (own ++ m.0) ≡ drop c.place own ++ m.0 = drop-append-le c.place own m.0 within in
      rw m.1 (
        omega (arith, e, within),
        λ more.
            let x : List Statement = m.0 ++ more in
            sym (ap (λ sts. left_of sts done) (blocks_same s rows ds os Mode.Normal true (own ++ x) []) ∙ ap (λ sts. left_of (blocks t Mode.Normal true sts []) done) (sym (append_assoc own m.0 more)))
            ∙ (h.1 x ∙ (queued_same c.mode c.queue c.stage done (λ d. blocks s c.mode c.begins (drop c.place own ++ x) d) (λ d. blocks t c.mode c.begins (drop c.place own ++ x) d)
            (λ i d. blocks_same s rows ds os c.mode c.begins (drop c.place own ++ x) d i)
            ∙ ap (λ sts. queued t c.mode c.queue c.stage done (λ d. blocks t c.mode c.begins sts d)) (sym (append_assoc (drop c.place own) m.0 more) ∙ ap (λ z. z ++ more) (sym cut)))),
      )

  ends_same : (m : Mode) (mine : Journal) (o : Option Ending) → Ends s m mine o → Ends t m mine o
  ends_same m mine None e = tt
  ends_same m mine (Some x) e = e

  follows_with : (y : Session) (mine : Journal) → AreLonger s.sessions ds → Follows s y mine → Follows t y mine
  follows_with y mine l f = record {
    alive = f.alive;
    order = in_order s rows ds os y.control.number mine l f.order;
    knows = f.knows;
    stands = stands_grown y.control mine l f.stands;
    copies = f.copies;
    ending = λ more r. ends_same y.control.mode more y.ending (f.ending more r);
  }

pub follows_grown : (s t : Script) → HasGrown s t → (y : Session) (mine : Journal) → Follows s y mine → Follows t y mine
follows_grown s t g y mine f = subst (λ x. Follows x y mine) (is_with s t g) (follows_with s t.rows t.sessions t.schedule y mine g.sessions f)

-- the sessions of a script are those of each script with as many that it may grow into
pub are_grown : (s t : Script) → HasGrown s t → length s.sessions ≡ length t.sessions → (h : Journal) (xs : List Session) → AreSessions s h xs → AreSessions t h xs
are_grown s t g l h xs a = record {
  all = a.all ∙ l;
  numbers = a.numbers;
  killed = a.killed;
  follow = λ n y p w. follows_grown s t g y (own n h) (a.follow n y p w);
}

-- and so are they with a new one behind them, if the script has one more
pub are_more : (s t : Script) → HasGrown s t → length t.sessions ≡ length s.sessions + 1 → (h : Journal) (xs : List Session) (y : Session) → IsUnused (length s.sessions) h
    → AreSessions s h xs → number_of y ≡ length s.sessions → is_killed y ≡ false → ((script : Script) → Follows script y []) → AreSessions t h (xs ++ y ∷ [])
are_more s t g l h xs y u a n k f = record {
  all = let e : length (xs ++ y ∷ []) ≡ length xs + length (y ∷ []) = length-append xs (y ∷ []) in e ∙ (ap (λ m. m + 1) a.all ∙ sym l);
  numbers = λ m z p. number m z (at_end xs y m z p);
  killed = λ m z p. dead m z (at_end xs y m z p);
  follow = λ m z p w. follow m z w (at_end xs y m z p);
}
  where
    here : (m : ℕ) → m ≡ length xs → length s.sessions ≡ m
    here m e = sym (e ∙ a.all)

    number : (m : ℕ) (z : Session) → (slice_get xs m ≡ Some z) ⊎ ((m ≡ length xs) × (z ≡ y)) → number_of z ≡ m
    number m z (inl q) = a.numbers m z q
    number m z (inr q) = ap number_of q.1 ∙ (n ∙ here m q.0)

    dead : (m : ℕ) (z : Session) → (slice_get xs m ≡ Some z) ⊎ ((m ≡ length xs) × (z ≡ y)) → is_killed z ≡ was_killed m h
    dead m z (inl q) = a.killed m z q
    dead m z (inr q) = ap is_killed q.1 ∙ (k ∙ sym (subst (λ i. was_killed i h ≡ false) (here m q.0) u.unkilled))

    follow : (m : ℕ) (z : Session) → was_killed m h ≡ false → (slice_get xs m ≡ Some z) ⊎ ((m ≡ length xs) × (z ≡ y)) → Follows t z (own m h)
    follow m z w (inl q) = follows_grown s t g z (own m h) (a.follow m z q w)
    follow m z w (inr q) =
        let none : own m h ≡ [] = subst (λ i. own i h ≡ []) (here m q.0) u.apart in
        subst (λ mine. Follows t z mine) (sym none) (subst (λ v. Follows t v []) (sym q.1) (f t))
