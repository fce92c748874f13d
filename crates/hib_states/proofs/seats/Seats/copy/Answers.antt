use Rattle.std.specs.Prelude.{nat_lt, slice_get}
use Rattle.std.proofs.Common.{◌≡◌, ℕ, true, length, get_or, List, Some, ap, sym, subst, ◌∙◌}
use Rattle.std.proofs.lemmas.Bool.{ltb-true}
use Rattle.std.proofs.lemmas.Option.{slice_get-get_or}
use Rattle.std.proofs.lemmas.Result.{IfOk-weaker}
use Rattle.hib_journal.specs.Sessions.{own}
use Rattle.hib_session.specs.declared.session.Session.{Session}
use Rattle.hib_states.proofs.seats.Seats.copy.Goals as goal

-- the session at a place
place_of : (xs ys : List Session) (i s : ℕ) (y : Session) → xs ≡ ys → i ≡ s → nat_lt i (length xs) ≡ true → y ≡ get_or xs i y → slice_get ys s ≡ Some y
place_of xs ys i s y f e l v = subst (λ zs. slice_get zs s ≡ Some y) f (subst (λ n. slice_get xs n ≡ Some y) e (slice_get-get_or xs i y (ltb-true i (length xs) l) ∙ ap Some (sym v)))

pub returns-in-Some : goal.returns-in-Some
returns-in-Some c =
    let y : Session = c.in-Some.session.now in
    let place : slice_get c.args.self.now.sessions.items c.args.number ≡ Some y =
    place_of c.as_slice.result.now c.args.self.now.sessions.items c.number.inside.0 c.args.number y c.as_slice.ensures.value c.number.view_is (sym c.in-Some.ensures.lookup.0) c.in-Some.ensures.lookup.1 in
    IfOk-weaker c.find.result _ _ (λ row f h a live there. f (own c.args.number h) (a.follow c.args.number y place live)) c.find.ensures
