-- One turn of a search.
use Rattle.std.specs.Prelude.{length}
use Rattle.std.proofs.Common.{◌≡◌, ◌++◌, ◌+◌, ◌<◌, ◌≤◌, ◌⊎◌, ℕ, zero, suc, inl, inr, Bool, true, false, cond, List, [], ◌∷◌, refl, sym, ap, ◌∙◌, subst, arith}
use Rattle.std.proofs.lemmas.Bool.{false≢true}
use Rattle.std.specs.List.{Contains}
use Rattle.hib_base.specs.Tables.{Tables}
use Rattle.hib_journal.specs.Types.{Script, Entry, Outcome}
use Rattle.hib_order_law.specs.Orders.{IsRun, IsWithin, begins, can_begin, kills, steps_in, switches, turns_in}
use Rattle.hib_order_law.specs.declared.step.Step.{Step}
use Rattle.hib_order_law.specs.declared.step.Turn.{Turn}
use Rattle.hib_order_law.specs.Search.{AreOthers, IsSearch, IsTest, begun_by, times, with_run}
use Rattle.hib_order_law.proofs.Begun.{Begins, begins_so}
use Rattle.hib_order_law.proofs.Search.{search_begins, search_due, search_ends, search_goes_on, search_rises, search_stops}
use Rattle.hib_order_law.proofs.Tally.{begun_by-append}
use Rattle.hib_order_law.specs.declared.verdicts.Verdicts.{Verdicts}
use Rattle.hib_order_tries.specs.Amid.{IsAmid}
use Rattle.hib_order_tries.specs.Found.{AreFindings, IsBelow, IsPlayed, IsTold}
use Rattle.hib_order_tries.specs.Left.{AreBeside, IsTurned}
use Rattle.hib_order_tries.proofs.Besides.{beside_others}
use Rattle.hib_order_tries.proofs.Known.{steps_known}
use Rattle.hib_order_tries.proofs.Unmet.{unmet, unmet_less}
use Rattle.hib_order_tries.specs.declared.found.Findings.{Findings}

-- what begins so is no shorter
pub begins_long : (begun order : List Step) → begins begun order ≡ true → length begun ≤ length order
begins_long begun order b = long begun order (begins_so begun order b)
  where
    long : (xs ys : List Step) → Begins xs ys → length xs ≤ length ys
    long [] ys c = omega arith
    long (x ∷ xs) [] c = absurd c
    long (x ∷ xs) (y ∷ ys) c = let i : length xs ≤ length ys = long xs ys c.1 in omega arith

pub played_long : (script : Script) (start : Tables) (judged : List Entry → Verdicts) (ended : List Entry → List Outcome) (begun order : List Step) (turns : List Turn) (verdicts : Verdicts)
    (ending : List Outcome) → IsPlayed script start judged ended begun order turns verdicts ending → length begun ≤ length order
played_long script start judged ended begun order turns verdicts ending p = begins_long begun order (subst (λ o. begins begun o ≡ true) (sym p.4) p.2)

-- each step has its turn
pub played_turns : (script : Script) (start : Tables) (judged : List Entry → Verdicts) (ended : List Entry → List Outcome) (begun order : List Step) (turns : List Turn) (verdicts : Verdicts)
    (ending : List Outcome) → IsPlayed script start judged ended begun order turns verdicts ending → length turns ≡ length order
played_turns script start judged ended begun order turns verdicts ending p = ap (λ x. length x) p.5 ∙ many p.0 ∙ sym (ap (λ x. length x) p.4)
  where
    many : (es : List Entry) → length (turns_in es) ≡ length (steps_in es)
    many [] = refl
    many (e ∷ es) = ap (λ n. suc n) (many es)

at_most : (n m : ℕ) → (b : Bool) × IsTest (n ≤ m) b
at_most zero m = (true, (λ _. omega arith, λ q. absurd (false≢true (sym q))))
at_most (suc n) zero = (false, (λ q. absurd (false≢true q), λ _ l. no n l))
  where
    no : (n : ℕ) → suc n ≤ 0 → ⊥
    no n l = omega arith
at_most (suc n) (suc m) = by (at_most n m)
  where
    by : (b : Bool) × IsTest (n ≤ m) b → (b : Bool) × IsTest (suc n ≤ suc m) b
    by x = (x.0, (λ q. let l : n ≤ m = x.1.0 q in omega arith, λ q l. x.1.1 q (omega arith)))

-- amid a search at a level, whatever bound there is on the levels
at_bound : (script : Script) (start : Tables) (most_kills most level : ℕ) (runs seen : List (List Entry)) (waiting : List (List Step)) (beyond : Bool) (bound : ℕ) → level ≤ bound →
    IsSearch script start most_kills most level runs seen waiting beyond → IsSearch script start most_kills bound level runs seen waiting beyond
at_bound script start most_kills most level runs seen waiting beyond bound l s =
    record { low = l; walk = s.walk; within = s.within; once = s.once; fewer = s.fewer; here = s.here }

self_low : (n : ℕ) → n ≤ n
self_low n = omega arith

-- nothing was left out
none_cut : (script : Script) (start : Tables) (most_kills most level : ℕ) (runs : List (List Entry)) → true ≡ false →
    (es : List Entry) × IsWithin script start most_kills most es × (switches (steps_in es) ≡ level) × (times (steps_in es) runs ≡ 0)
none_cut script start most_kills most level runs q = absurd (false≢true (sym q))

module _ (script : Script) (start : Tables) (judged : List Entry → Verdicts) (ended : List Entry → List Outcome) (most_kills level : ℕ) where
  -- a run was played that begins so
  module _ (waiting : List (List Step)) (beyond : Bool) (begun order : List Step) (turns : List Turn) (verdicts : Verdicts) (ending : List Outcome) (old : Findings)
      (a : IsAmid script start judged ended most_kills level (waiting ++ begun ∷ []) beyond old) (p : IsPlayed script start judged ended begun order turns verdicts ending) where
    chain : (x y z : ℕ) → x ≤ y → y ≤ z → x ≤ z
    chain x y z k l = omega arith

    waited : kills begun ≤ most_kills
    waited = (search_due script start most_kills level level a.0 a.1 waiting begun beyond a.2).1

    played_run : IsRun script start most_kills p.0
    played_run = record {
      undisturbed = p.1.undisturbed;
      over = p.1.over;
      few_kills = chain (kills (steps_in p.0)) (kills begun) most_kills p.1.few_kills waited;
    }

    -- its other orders wait
    played_others : (new_waiting : List (List Step)) (new_beyond : Bool) (from : ℕ) → from ≡ length begun → (t : IsTurned most_kills level from order turns waiting beyond new_waiting new_beyond) →
        AreOthers script most_kills level (length begun) p.0 t.more t.cut
    played_others new_waiting new_beyond from n t =
        beside_others script start most_kills most_kills level (length begun) p.0 t.more t.may_kill t.cut played_run p.3 played_run.few_kills
        (subst (λ x. IsBelow (kills x) most_kills t.may_kill) p.4 t.kill)
        (subst (λ x. AreBeside t.may_kill level (length begun) (steps_in p.0) x t.more t.cut) p.5
        (subst (λ x. AreBeside t.may_kill level (length begun) x turns t.more t.cut) p.4 (subst (λ k. AreBeside t.may_kill level k order turns t.more t.cut) n t.beside)))

    -- so fewer orders wait, if it is as short as it may be
    pub played_less : (new_waiting : List (List Step)) (new_beyond : Bool) (from most : ℕ) → from ≡ length begun → IsTurned most_kills level from order turns waiting beyond new_waiting new_beyond →
        length order ≤ most + kills begun →
        unmet (length script.sessions) (most + most_kills) new_waiting < unmet (length script.sessions) (most + most_kills) (waiting ++ begun ∷ [])
    played_less new_waiting new_beyond from most n t s =
        subst (λ x. unmet (length script.sessions) (most + most_kills) x < unmet (length script.sessions) (most + most_kills) (waiting ++ begun ∷ [])) (sym t.waits)
        (unmet_less script most_kills level waiting t.more begun p.0 t.cut p.2 (played_others new_waiting new_beyond from n t) (length script.sessions) (most + most_kills)
        (steps_known script start p.0 [] p.1.undisturbed) (long (length (steps_in p.0)) (length order) (kills begun) (ap (λ x. length x) (sym p.4)) s waited))
      where
        long : (n m k : ℕ) → n ≡ m → m ≤ most + k → k ≤ most_kills → n ≤ most + most_kills
        long n m k e l w = omega arith

    -- if it is one more than may be tried, then it is left out
    pub told_full : (at : ℕ) (whole : Bool) (told : Findings) → switches order ≡ level → whole ≡ false → at ≡ level → told ≡ old →
        IsTold script start judged ended most_kills at whole at told
    told_full at whole told q w l f =
        subst (λ b. IsTold script start judged ended most_kills at b at told) (sym w) (subst (λ k. IsTold script start judged ended most_kills k false k told) (sym l)
        (subst (λ x. IsTold script start judged ended most_kills level false level x) (sym f) (
          a.0,
          search_stops script start most_kills level level a.0 a.1 (waiting ++ begun ∷ []) beyond a.2,
          a.3,
          record {
            few = λ es c. let w : IsWithin script start most_kills level es = a.2.within es c in w.within;
            cut = λ _. (p.0, record { run = played_run; within = low (switches (steps_in p.0)) made }, made, a.2.here (steps_in p.0) made ∙ not_seen);
          },
        )))
      where
        made : switches (steps_in p.0) ≡ level
        made = ap (λ x. switches x) (sym p.4) ∙ q

        low : (n : ℕ) → n ≡ level → n ≤ level
        low n e = omega arith

        not_seen : times (steps_in p.0) a.1 ≡ 0
        not_seen = none (times (steps_in p.0) a.1) (begun_by (steps_in p.0) waiting) (cond (begins begun (steps_in p.0)) 1 0) (begun_by (steps_in p.0) (waiting ++ begun ∷ []))
            (begun_by-append (steps_in p.0) waiting (begun ∷ [])) (ap (λ k. cond k 1 0) p.2) (a.2.walk.once (steps_in p.0))
          where
            none : (t r d x : ℕ) → x ≡ r + (d + 0) → d ≡ 1 → t + x ≤ 1 → t ≡ 0
            none t r d x p q l = omega arith

  -- a run was played and judged, and its other orders wait
  pub turned : (waiting new_waiting : List (List Step)) (beyond new_beyond here : Bool) (begun order : List Step) (turns : List Turn) (verdicts : Verdicts) (ending : List Outcome) (old new : Findings)
      (from total : ℕ) →
      IsAmid script start judged ended most_kills level (waiting ++ begun ∷ []) beyond old → IsPlayed script start judged ended begun order turns verdicts ending → from ≡ length begun →
      IsTurned most_kills level from order turns waiting beyond new_waiting new_beyond → total ≡ switches order → IsTest (total ≡ level) here →
      (here ≡ true → (runs : List (List Entry)) (es : List Entry) → AreFindings judged ended runs old → verdicts ≡ judged es → order ≡ steps_in es → ending ≡ ended es →
      AreFindings judged ended (es ∷ runs) new) → (here ≡ false → new ≡ old) → IsAmid script start judged ended most_kills level new_waiting new_beyond new
  turned waiting new_waiting beyond new_beyond here begun order turns verdicts ending old new from total a p n t m h f g =
      (with_run here es a.0, with_run few.0 es a.1, search, findings here f g)
    where
      es : List Entry
      es = p.0

      made : total ≡ switches (steps_in es)
      made = m ∙ ap (λ x. switches x) p.4

      few : (b : Bool) × IsTest (switches (steps_in es) ≤ level) b
      few = at_most (switches (steps_in es)) level

      above : (n : ℕ) → (n ≤ level → ⊥) → level < n
      above n f = by (at_most (suc level) n)
        where
          by : (b : Bool) × IsTest (suc level ≤ n) b → level < n
          by (true, x) = x.0 refl
          by (false, x) = absurd (f (below n (x.1 refl)))
            where
              below : (n : ℕ) → (suc level ≤ n → ⊥) → n ≤ level
              below n g = omega (arith, g)

      on : few.0 ≡ false → new_beyond ≡ true
      on q = t.high (subst (λ x. level < switches x) (sym p.4) (above (switches (steps_in es)) (few.1.1 q)))

      search : IsSearch script start most_kills level level (with_run here es a.0) (with_run few.0 es a.1) new_waiting new_beyond
      search = subst (λ x. IsSearch script start most_kills level level (with_run here es a.0) (with_run few.0 es a.1) x new_beyond) (sym t.waits)
          (search_goes_on script start most_kills level level a.0 a.1 waiting t.more begun es here few.0 beyond t.cut new_beyond a.2
          (played_run waiting beyond begun order turns verdicts ending old a p) p.2 p.3
          (played_others waiting beyond begun order turns verdicts ending old a p new_waiting new_beyond from n t)
          (subst (λ k. IsTest (k ≡ level) here) made h) few.1 t.kept t.told on)

      findings : (b : Bool) → (b ≡ true → (runs : List (List Entry)) (es : List Entry) → AreFindings judged ended runs old → verdicts ≡ judged es → order ≡ steps_in es → ending ≡ ended es →
          AreFindings judged ended (es ∷ runs) new) → (b ≡ false → new ≡ old) → AreFindings judged ended (with_run b es a.0) new
      findings true f g = f refl a.0 es a.3 p.6 p.4 p.7
      findings false f g = subst (λ x. AreFindings judged ended a.0 x) (sym (g refl)) a.3

  pub begun_amid : (waiting : List (List Step)) (beyond : Bool) (findings : Findings) → level ≡ 0 → waiting ≡ [] ∷ [] → beyond ≡ false → AreFindings judged ended [] findings →
      IsAmid script start judged ended most_kills level waiting beyond findings
  begun_amid waiting beyond findings z w b f = (
    [],
    [],
    subst (λ k. IsSearch script start most_kills k k [] [] waiting beyond) (sym z) (subst (λ x. IsSearch script start most_kills 0 0 [] [] x beyond) (sym w)
        (subst (λ x. IsSearch script start most_kills 0 0 [] [] ([] ∷ []) x) (sym b) (search_begins script start most_kills 0))),
    f,
  )

  -- one that waited was taken
  pub amid_taken : (new_level : ℕ) (waiting taken : List (List Step)) (beyond new_beyond : Bool) (findings : Findings) → IsAmid script start judged ended most_kills level waiting beyond findings →
      new_level ≡ level → waiting ≡ taken → new_beyond ≡ beyond → IsAmid script start judged ended most_kills new_level taken new_beyond findings
  amid_taken new_level waiting taken beyond new_beyond findings a l w b =
      subst (λ k. IsAmid script start judged ended most_kills k taken new_beyond findings) (sym l) (subst (λ x. IsAmid script start judged ended most_kills level x new_beyond findings) w
      (subst (λ x. IsAmid script start judged ended most_kills level waiting x findings) (sym b) a))

  -- what waits can begin
  pub amid_due : (rest : List (List Step)) (begun : List Step) (beyond : Bool) (findings : Findings) → IsAmid script start judged ended most_kills level (rest ++ begun ∷ []) beyond findings →
      (can_begin script start [] begun ≡ true) × (kills begun ≤ most_kills)
  amid_due rest begun beyond findings a = search_due script start most_kills level level a.0 a.1 rest begun beyond a.2

  -- what is told if none waits, and no order makes one more switch, or none may
  pub told_whole : (most at : ℕ) (beyond whole : Bool) (findings told : Findings) → IsAmid script start judged ended most_kills level [] beyond findings → level ≤ most →
      (beyond ≡ false) ⊎ (most ≤ level) → whole ≡ true → at ≡ level → told ≡ findings → IsTold script start judged ended most_kills most whole at told
  told_whole most at beyond whole findings told a l o w e f =
      subst (λ b. IsTold script start judged ended most_kills most b at told) (sym w) (subst (λ k. IsTold script start judged ended most_kills most true k told) (sym e)
      (subst (λ x. IsTold script start judged ended most_kills most true level x) (sym f) (
        a.0,
        search_ends script start most_kills most level a.0 a.1 beyond (at_bound script start most_kills level level a.0 a.1 [] beyond most l a.2) (ends o),
        a.3,
        record {
          few = λ es c. let w : IsWithin script start most_kills level es = a.2.within es c in w.within;
          cut = none_cut script start most_kills most level a.0;
        },
      )))
    where
      same : level ≤ most → most ≤ level → level ≡ most
      same k l = omega arith

      ends : (beyond ≡ false) ⊎ (most ≤ level) → (level ≡ most) ⊎ (beyond ≡ false)
      ends (inl p) = inr p
      ends (inr k) = inl (same l k)

  -- and if an order may, then the beginning of all orders comes again
  pub amid_rises : (new_level : ℕ) (beyond new_beyond : Bool) (new_waiting : List (List Step)) (findings : Findings) → IsAmid script start judged ended most_kills level [] beyond findings →
      new_level ≡ level + 1 → new_waiting ≡ [] ∷ [] → new_beyond ≡ false → IsAmid script start judged ended most_kills new_level new_waiting new_beyond findings
  amid_rises new_level beyond new_beyond new_waiting findings a l w b = (
    a.0,
    [],
    subst (λ k. IsSearch script start most_kills k k a.0 [] new_waiting new_beyond) (sym l) (subst (λ x. IsSearch script start most_kills (level + 1) (level + 1) a.0 [] x new_beyond) (sym w)
        (subst (λ x. IsSearch script start most_kills (level + 1) (level + 1) a.0 [] ([] ∷ []) x) (sym b)
        (search_rises script start most_kills (level + 1) level a.0 a.1 beyond (at_bound script start most_kills level level a.0 a.1 [] beyond (level + 1) (next level) a.2) (less level)))),
    a.3,
  )
    where
      next : (n : ℕ) → n ≤ n + 1
      next n = omega arith

      less : (n : ℕ) → n < n + 1
      less n = omega arith

-- what was told of a level is so within more
pub told_wider : (script : Script) (start : Tables) (judged : List Entry → Verdicts) (ended : List Entry → List Outcome) (most_kills level most at : ℕ) (whole : Bool) (findings told : Findings) →
    IsTold script start judged ended most_kills level false level findings → level ≤ most → whole ≡ false → at ≡ level → told ≡ findings →
    IsTold script start judged ended most_kills most whole at told
told_wider script start judged ended most_kills level most at whole findings told t l w e f =
    subst (λ b. IsTold script start judged ended most_kills most b at told) (sym w) (subst (λ k. IsTold script start judged ended most_kills most false k told) (sym e)
    (subst (λ x. IsTold script start judged ended most_kills most false level x) (sym f) (
      t.0,
      record { within = λ es c. wide es (t.1.within es c); once = t.1.once; none_left = t.1.none_left },
      t.2,
      record { few = t.3.few; cut = λ q. let x : (es : List Entry) × IsWithin script start most_kills level es × (switches (steps_in es) ≡ level) × (times (steps_in es) t.0 ≡ 0) = t.3.cut q in (x.0, wide x.0 x.1, x.2, x.3) },
    )))
  where
    chain : (n : ℕ) → n ≤ level → n ≤ most
    chain n k = omega arith

    wide : (es : List Entry) → IsWithin script start most_kills level es → IsWithin script start most_kills most es
    wide es w = record { run = w.run; within = chain (switches (steps_in es)) w.within }
