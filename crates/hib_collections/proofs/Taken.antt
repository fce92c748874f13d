-- What is due in a session, by its plan, by what is noted of it and by what comes before; and a turn that was prepared.
use Rattle.std.specs.Prelude.{is_some}
use Rattle.std.specs.Option.{option_map}
use Rattle.std.proofs.Common.{◌≡◌, ℕ, true, false, List, Some, None, Option, Result, Ok, Err, IfOk, IfSome, OnErr, refl, ap, sym, ◌∙◌, subst}
use Rattle.std.proofs.lemmas.Bool.{true≢false}
use Rattle.hib_base.specs.Tables.{Tables}
use Rattle.hib_journal.specs.Types.{Cell, Script, Act}
use Rattle.hib_journal.specs.Sessions.{Journal, own, time_in, floor_in}
use Rattle.hib_journal.specs.Next.{next}
use Rattle.hib_session.specs.Session.{Follows, number_of}
use Rattle.hib_engines.specs.declared.region.Region.{Region}
use Rattle.hib_engines.specs.Due.{IsDue}
use Rattle.hib_engines.specs.Engines.{EnginesState}
use Rattle.hib_engines.specs.Origin.{Origin}
use Rattle.hib_collections_law.specs.declared.entries.Def.{Def}
use Rattle.hib_collections_law.specs.declared.entries.MemberAct.{MemberAct}
use Rattle.hib_collections_law.specs.Types.{Gathered}
use Rattle.hib_collections_law.specs.Gathered
use Rattle.hib_collections_law.specs.Gathered.{Due, IsGathered, due_after, due_for, due_in, listed, mine, plain}
use Rattle.hib_collections.specs.declared.before.Before.{Before}
use Rattle.hib_collections.specs.declared.members.Gatherer.{Gatherer}
use Rattle.hib_collections.specs.declared.turns.Turned.{Turned}
use Rattle.hib_collections.specs.Before.{IsKnown, due_by}
use Rattle.hib_collections.specs.Gatherers.{IsGatherer}
use Rattle.hib_collections.specs.Notes.{AreNoted}
use Rattle.hib_collections.specs.Run.{IsKept, IsStepRefused, IsTurn, Leaves, Rests, Serves, Turns}
use Rattle.hib_collections.proofs.Known.{known_due}
use Rattle.hib_collections.proofs.Left.{kept_then, leaves_same}

module _ (script : Script) (defs : List Def) (g : Gathered) (u : Gatherer) where
  -- what was listed after a miss is to be put
  pub due_put : (s : ℕ) (p : ℕ × ℕ) (l : List Cell) → IsGatherer script g s u → u.notes.listed ≡ Some (p, l) →
      Gathered.due script defs s g ≡ Some (Due.Member p (MemberAct.Put l (time_in (own s (plain script g))) (floor_in (own s (plain script g)))))
  due_put s p l w e = ap (λ o. due_after script defs o (due_in script s (plain script g)) (own s (plain script g)) (mine s g)) (sym w.noted.listed ∙ e)

  -- else the act of the plan, or what comes before it
  pub due_before : (told : Option Tables) (s : ℕ) (a : Act) (b : Before) → IsGathered script defs told g → IsGatherer script g s u → due_in script s (plain script g) ≡ Some a → u.notes.listed ≡ None →
      ((m : Journal) (o : Gathered) → Follows script u.session m → AreNoted u.notes o → IsKnown m a → due_for script defs a m o ≡ due_by b a m) →
      Gathered.due script defs s g ≡ Some (due_by b a (own s (plain script g)))
  due_before told s a b l w d e f =
      ap (λ o. due_after script defs o (due_in script s (plain script g)) (own s (plain script g)) (mine s g)) (sym w.noted.listed ∙ e)
      ∙ (ap (λ o. option_map (λ c. due_for script defs c (own s (plain script g)) (mine s g)) o) d
      ∙ ap Some (f (own s (plain script g)) (mine s g) w.follows w.noted (known_due script defs told g s a l d)))

  -- and nothing, if the plan is over
  pub due_none : (s : ℕ) → IsGatherer script g s u → due_in script s (plain script g) ≡ None → u.notes.listed ≡ None → Gathered.due script defs s g ≡ None
  due_none s w d e =
      ap (λ o. due_after script defs o (due_in script s (plain script g)) (own s (plain script g)) (mine s g)) (sym w.noted.listed ∙ e)
      ∙ ap (λ o. option_map (λ c. due_for script defs c (own s (plain script g)) (mine s g)) o) d

  -- whether anything is due
  pub is_due_put : (s : ℕ) → IsGatherer script g s u → is_some u.notes.listed ≡ true → is_some (Gathered.due script defs s g) ≡ true
  is_due_put s w e = by_list u.notes.listed refl e
    where
      by_list : (o : Option ((ℕ × ℕ) × List Cell)) → u.notes.listed ≡ o → is_some o ≡ true → is_some (Gathered.due script defs s g) ≡ true
      by_list None q f = absurd (true≢false (sym f))
      by_list (Some y) q f = ap is_some (due_put s y.0 y.1 w q)

  pub is_due_plan : (s : ℕ) (b : Option Act) → IsGatherer script g s u → due_in script s (plain script g) ≡ b → is_some u.notes.listed ≡ false → is_some b ≡ is_some (Gathered.due script defs s g)
  is_due_plan s b w d e = by_list u.notes.listed refl e
    where
      by_act : (o : Option Act) → is_some o ≡ is_some (option_map (λ c. due_for script defs c (own s (plain script g)) (mine s g)) o)
      by_act None = refl
      by_act (Some a) = refl

      by_list : (o : Option ((ℕ × ℕ) × List Cell)) → u.notes.listed ≡ o → is_some o ≡ false → is_some b ≡ is_some (Gathered.due script defs s g)
      by_list (Some y) q f = absurd (true≢false f)
      by_list None q f =
          by_act b
          ∙ sym (ap is_some (ap (λ o. due_after script defs o (due_in script s (plain script g)) (own s (plain script g)) (mine s g)) (sym w.noted.listed ∙ q)
          ∙ ap (λ o. option_map (λ c. due_for script defs c (own s (plain script g)) (mine s g)) o) d))

-- an act that a session says is due
pub turn_at : (told script : Script) (g : Gathered) (u : Gatherer) (o : Option Act) (a : Act) → told ≡ script → IsGatherer script g (number_of u.session) u →
    ((m : Journal) → Follows told u.session m → o ≡ next told (number_of u.session) m) → ((m : Journal) → Follows told u.session m → IfSome o (IsDue told m)) → o ≡ Some a →
    IsTurn script g u a
turn_at told script g u o a q w f d e = record {
  member = w;
  next = sym (subst (λ (z : Script). (m : Journal) → Follows z u.session m → o ≡ next z (number_of u.session) m) q f (own (number_of u.session) (plain script g)) w.follows) ∙ e;
  due = subst (λ z. IfSome z (IsDue script (own (number_of u.session) (plain script g)))) e
      (subst (λ (z : Script). (m : Journal) → Follows z u.session m → IfSome o (IsDue z m)) q d (own (number_of u.session) (plain script g)) w.follows);
}

pub over_at : (told script : Script) (g : Gathered) (s : ℕ) (u : Gatherer) (o : Option Act) → told ≡ script → number_of u.session ≡ s → IsGatherer script g s u →
    ((m : Journal) → Follows told u.session m → o ≡ next told (number_of u.session) m) → due_in script s (plain script g) ≡ o
over_at told script g s u o q n w f =
    sym (subst (λ i. o ≡ next script i (own s (plain script g))) n
    (subst (λ (z : Script). (m : Journal) → Follows z u.session m → o ≡ next z (number_of u.session) m) q f (own s (plain script g)) w.follows))

-- ---- a turn that was prepared

module _ (script : Script) (defs : List Def) (from : Origin) (g mid new : Gathered) (x y : EnginesState) (rs qs : List Region) (u v w : Gatherer) (same : mid ≡ g) (kept : IsKept script u v) where
  to_turns : (t : Turned) → Serves script defs from (number_of u.session) g new x y qs w t → Turns script defs from (number_of u.session) g new x y rs qs u w t
  to_turns Turned.Done z = absurd (true≢false z.some)
  to_turns Turned.Did z = z
  to_turns (Turned.Hit e) z = z

  pub turns_of : {E : Type 0} (r : Result Turned E) → IfOk r (Serves script defs from (number_of v.session) mid new x y qs w) → IfOk r (Turns script defs from (number_of u.session) g new x y rs qs u w)
  turns_of (Ok t) z =
      to_turns t (subst (λ (h : Gathered). Serves script defs from (number_of u.session) h new x y qs w t) same (subst (λ n. Serves script defs from n mid new x y qs w t) kept.number z))
  turns_of (Err e) z = tt

  pub leaves_then : {E : Type 0} (r : Result Turned E) → OnErr r (Leaves script defs mid new x y rs qs v w) → OnErr r (Leaves script defs g new x y rs qs u w)
  leaves_then (Ok t) z = tt
  leaves_then (Err e) z = record {
    same = z.same ∙ same;
    engines = subst (λ (h : Gathered). IsStepRefused script defs h (number_of u.session) x y) same (subst (λ n. IsStepRefused script defs mid n x y) kept.number z.engines);
    regions = z.regions;
    kept = kept_then script u v w kept z.kept;
  }

pub rests_of : (script : Script) (defs : List Def) (g new : Gathered) (x : EnginesState) (rs : List Region) (u v : Gatherer) → new ≡ g → IsKept script u v →
    Gathered.due script defs (number_of u.session) g ≡ None → Rests script defs (number_of u.session) g new x x rs rs u v
rests_of script defs g new x rs u v e k d = record { over = d; still = refl; leaves = leaves_same script defs g new x rs rs u v e refl k }
