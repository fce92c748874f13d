-- What the store defers of a session that was not killed is what the session has written and neither committed nor rolled back.
use Rattle.std.proofs.Common.{◌≡◌, ℕ, Bool, true, false, cond, not, List, [], ◌∷◌, Some, Option, refl, sym, ap, ◌∙◌}
use Rattle.std.proofs.lemmas.Bool.{true≢false, or_parts}
use Rattle.hib_base.specs.Tables.{Tables}
use Rattle.hib_journal.specs.Types.{Change, Script, Act, Entry}
use Rattle.hib_journal.specs.Sessions.{Journal, own, is_by, is_session, is_open, was_killed, killed_by, is_begun, begun_after, deferred, deferred_after}
use Rattle.hib_journal.specs.Held.{is_begin}
use Rattle.hib_journal.specs.Plan.{first_act, left_of, InOrder}
use Rattle.hib_journal.specs.Next.{plan_of, next}
use Rattle.hib_journal.specs.Legal.{IsLegal}
use Rattle.hib_journal.specs.Lists.{stops, unsaved, unsaved_after}
use Rattle.hib_journal.specs.Due.{IsAllowed}
use Rattle.hib_journal.proofs.Due.{allowed_due}
use Rattle.hib_journal.proofs.Open.{begun_open}
use Rattle.hib_journal.proofs.Steps.{steps_in_order}

cond_same : {X : Type 0} (b : Bool) (x : X) → cond b x x ≡ x
cond_same true x = refl
cond_same false x = refl

pub unsaved_own : (n : ℕ) (by : Option ℕ) (a : Act) (cs : List Change) → stops a ≡ false → unsaved_after n by a cs ≡ cond (is_session n by) (deferred_after a cs) cs
unsaved_own n by (Act.Kill m) cs p = absurd (true≢false p)
unsaved_own n by Act.Restart cs p = absurd (true≢false p)
unsaved_own n by _ cs p = refl

deferred_own : (n : ℕ) (e : Entry) (h : Journal) → deferred (own n (e ∷ h)) ≡ cond (is_by n e) (deferred_after e.act (deferred (own n h))) (deferred (own n h))
deferred_own n e h = by (is_by n e)
  where
    by : (b : Bool) → deferred (cond b (e ∷ own n h) (own n h)) ≡ cond b (deferred_after e.act (deferred (own n h))) (deferred (own n h))
    by true = refl
    by false = refl

-- one entry more, which is no kill and no restart
pub unsaved_step : (n : ℕ) (e : Entry) (h : Journal) → stops e.act ≡ false → unsaved n h ≡ deferred (own n h) → unsaved n (e ∷ h) ≡ deferred (own n (e ∷ h))
unsaved_step n e h p i =
    unsaved_own n e.session e.act (unsaved n h) p ∙ (ap (λ cs. cond (is_by n e) (deferred_after e.act cs) cs) i ∙ sym (deferred_own n e h))

-- between transactions nothing is deferred

next_due : (script : Script) (s : ℕ) (m : Journal) (a : Act) → first_act (left_of (plan_of script s) m) ≡ Some a → next script s m ≡ Some a
unfolding next
next_due script s m a q = q

rests : (script : Script) (s : ℕ) (m : Journal) → InOrder (plan_of script s) m → is_begun m ≡ false → deferred m ≡ []
rests script s [] o b = refl
rests script s (e ∷ m) o b = by e.act refl b
  where
    allowed : IsAllowed script s m e.act
    allowed = allowed_due script s m e.act o.0 (next_due script s m e.act o.1)

    by : (a : Act) → e.act ≡ a → begun_after a (is_begun m) ≡ false → deferred_after a (deferred m) ≡ []
    by Act.Begin q c = absurd (true≢false c)
    by Act.End q c = allowed.ended q
    by _ q c = absurd (true≢false (sym (allowed.begun ∙ ap (λ x. not (is_begin x)) q) ∙ c))

pub unsaved_legal : (script : Script) (told : Option Tables) (n : ℕ) (h : Journal) → IsLegal script told h → was_killed n h ≡ false → unsaved n h ≡ deferred (own n h)
unsaved_legal script told n [] l w = refl
unsaved_legal script told n (e ∷ h) l w =
    by e.act (λ k. unsaved_legal script told n h l.0 k) (or_parts (killed_by n e.act (is_open n h)) (was_killed n h) w) ∙ sym (deferred_own n e h)
  where
    closed : was_killed n h ≡ false → is_open n h ≡ false → deferred (own n h) ≡ []
    closed k o = rests script n (own n h) (steps_in_order script told n h l.0) (sym (begun_open n h k) ∙ o)

    by : (a : Act) → (was_killed n h ≡ false → unsaved n h ≡ deferred (own n h)) → (killed_by n a (is_open n h) ≡ false) × (was_killed n h ≡ false) →
        unsaved_after n e.session a (unsaved n h) ≡ cond (is_by n e) (deferred_after a (deferred (own n h))) (deferred (own n h))
    by (Act.Kill m) i k = ap (λ b. cond b [] (unsaved n h)) k.0 ∙ (i k.1 ∙ sym (cond_same (is_by n e) (deferred (own n h))))
    by Act.Restart i k = sym (closed k.1 k.0) ∙ sym (cond_same (is_by n e) (deferred (own n h)))
    by a i k = ap (λ cs. cond (is_by n e) (deferred_after a cs) cs) (i k.1)
