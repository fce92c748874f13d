-- A session's entries are, in a legal journal, the acts of its plan, each once and in order.
use Rattle.std.proofs.Common.{◌≡◌, ℕ, inl, inr, Bool, true, false, cond, [], ◌∷◌, Some, None, Option, refl, subst}
use Rattle.hib_journal.specs.Types.{Script, Act, Entry}
use Rattle.hib_base.specs.Tables.{Tables}
use Rattle.hib_journal.specs.Sessions.{Journal, own, is_by, is_open, was_killed}
use Rattle.hib_journal.specs.Plan.{first_act, left_of, InOrder}
use Rattle.hib_journal.specs.Next.{plan_of, next, is_cached}
use Rattle.hib_journal.specs.Legal.{IsLegal, IsStep, due, due_by, may_come}
use Rattle.hib_base.proofs.Tables.{Tested, tested}
use Rattle.hib_journal.proofs.Sessions.{is_some_session}

cond_some : (b : Bool) (x a : Act) → cond b (Some x) None ≡ Some a → Some x ≡ Some a
cond_some true x a p = p
cond_some false x a p = absurd (none_some p)
  where
    none_some : ◌≡◌ {A = Option Act} None (Some a) → ⊥
    none_some p = cc

none_if : (b : Bool) (x : Option Act) (a : Act) → cond b None x ≡ Some a → (b ≡ false) × (x ≡ Some a)
none_if true x a p = absurd (none_some p)
  where
    none_some : ◌≡◌ {A = Option Act} None (Some a) → ⊥
    none_some p = cc
none_if false x a p = (refl, p)

due_act : (script : Script) (h : Journal) (x : Option Act) (a : Act) → may_come script h x ≡ Some a → x ≡ Some a
due_act script h None a p = p
due_act script h (Some (Act.Kill n)) a p = cond_some (is_open n h) (Act.Kill n) a p
due_act script h (Some (Act.Evict k)) a p = cond_some (is_cached script k.entity) (Act.Evict k) a p
due_act script h (Some _) a p = p

-- a legal entry of s is its next act, and s was not killed
pub next_act : (script : Script) (told : Option Tables) (h : Journal) (e : Entry) (s : ℕ) → IsStep script told h e → is_by s e ≡ true →
    (was_killed s h ≡ false) × (next script s (own s h) ≡ Some e.act)
next_act script told h e s t p =
    let q : due script h e ≡ Some e.act = due_act script h (due script h e) e.act t.act in
    let b : e.session ≡ Some s = is_some_session s e.session p in
    none_if (was_killed s h) (next script s (own s h)) e.act (subst (λ o. due_by script h o e.act ≡ Some e.act) b q)

pub next_is : (script : Script) (s : ℕ) (m : Journal) (a : Act) → next script s m ≡ Some a → first_act (left_of (plan_of script s) m) ≡ Some a
unfolding next
next_is script s m a q = q

-- the entries of s are the acts of its plan, each once and in order
pub steps_in_order : (script : Script) (told : Option Tables) (s : ℕ) (h : Journal) → IsLegal script told h → InOrder (plan_of script s) (own s h)
steps_in_order script told s [] l = tt
steps_in_order script told s (e ∷ h) l = by_session (tested (is_by s e)) (steps_in_order script told s h l.0)
  where
    by_session : Tested (is_by s e) → InOrder (plan_of script s) (own s h) → InOrder (plan_of script s) (own s (e ∷ h))
    by_session (inr p) f = rw p f
    by_session (inl p) f = rw p (f, next_is script s (own s h) e.act (next_act script told h e s l.1 p).1)
