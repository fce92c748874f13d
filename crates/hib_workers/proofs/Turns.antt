-- A factory on which workers take turns: before the first, after a step, and after the rest.
use Rattle.std.proofs.Common.{◌≡◌, ℕ, Bool, true, false, [], ◌∷◌, Result, Ok, Err, OnOk, OnErr, refl, sym, ap, ◌∙◌}
use Rattle.std.proofs.lemmas.Bool.{true≢false}
use Rattle.std.specs.Prelude.{⊤}
use Rattle.std.specs.declared.alloc.AllocError.{AllocError}
use Rattle.hib_journal.specs.Types.{Script}
use Rattle.hib_journal.specs.Kept.{past}
use Rattle.hib_law.specs.Law.{Obeys}
use Rattle.hib_engines.specs.declared.stepped.Stepped.{Stepped}
use Rattle.hib_session.specs.Bound.{outside_count}
use Rattle.hib_core.specs.Factory.{FactoryState, IsAskedOnceMore, Does, IsOver}
use Rattle.hib_core.specs.Playing.{Play, GoesOn, Leads}
use Rattle.hib_engines.specs.Origin.{Origin}
use Rattle.hib_core.proofs.Playing.{goes_by, goes_then, goes_same}
use Rattle.hib_workers.specs.Worked.{IsWorked}

never : (b : Bool) → b ≡ false → b ≡ true → ⊥
never b p q = true≢false (sym q ∙ p)

-- before the first step
pub handed_in : (script : Script) (from : Origin) (start now : FactoryState) → now ≡ start → outside_count (past now.journal) ≡ 0
    → Obeys script from.tables (past now.journal) → IsWorked script from start now
handed_in script from start now e inside law = record {
  inside = inside;
  law = law;
  on = goes_same (past start.journal) (past now.journal) (ap (λ (f : FactoryState). past f.journal) e);
  asked = λ p q. absurd (never start.refused p (sym (ap (λ (f : FactoryState). f.refused) e) ∙ q));
  same = λ _. e;
}

-- after a call that was made before memory had run out
pub worked_on : (script : Script) (from : Origin) (start old new : FactoryState) → IsWorked script from start old → old.refused ≡ false
    → outside_count (past new.journal) ≡ outside_count (past old.journal) → Obeys script from.tables (past new.journal)
    → GoesOn (past old.journal) (past new.journal) → (new.refused ≡ true → IsAskedOnceMore from (past new.journal) new.engines)
    → IsWorked script from start new
worked_on script from start old new w going inside law on asked = record {
  inside = inside ∙ w.inside;
  law = law;
  on = goes_then (past start.journal) (past old.journal) (past new.journal) w.on on;
  asked = λ _ r. asked r;
  same = λ r. absurd (never old.refused going (ap (λ (f : FactoryState). f.refused) (w.same r) ∙ r));
}

-- what a step's answer leaves of the journal
pub stepped_on : (r : Result Stepped AllocError) (script : Script) (s : ℕ) (old new : FactoryState)
    → (r ≡ Ok Stepped.Did → Does script s (past old.journal) (past new.journal) old.sessions new.sessions)
    → (r ≡ Ok Stepped.Done → IsOver script s (past old.journal) (past new.journal))
    → OnErr r (GoesOn (past old.journal) (past new.journal)) → GoesOn (past old.journal) (past new.journal)
stepped_on (Ok Stepped.Did) script s old new did done stands = let d = did refl in (d.entry ∷ [], d.grown)
stepped_on (Ok Stepped.Done) script s old new did done stands = goes_same (past old.journal) (past new.journal) ((done refl).same)
stepped_on (Err e) script s old new did done stands = stands

-- and the finish's
pub finished_on : (r : Result ⊤ AllocError) (all left : Play) (old new : FactoryState)
    → OnOk r (Leads all left (past old.journal) (past new.journal))
    → OnErr r (GoesOn (past old.journal) (past new.journal)) → GoesOn (past old.journal) (past new.journal)
finished_on (Ok t) all left old new played stands = goes_by all left (past old.journal) (past new.journal) played
finished_on (Err e) all left old new played stands = stands

-- if memory ran out in a call, and not before
pub asked_by : {T : Type 0} (r : Result T AllocError) (from : Origin) (old new : FactoryState) → old.refused ≡ false
    → OnOk r (new.refused ≡ old.refused) → OnErr r (old.refused ≡ false → IsAskedOnceMore from (past new.journal) new.engines)
    → new.refused ≡ true → IsAskedOnceMore from (past new.journal) new.engines
asked_by (Ok t) from old new fresh going asked ran = absurd (never new.refused (going ∙ fresh) ran)
asked_by (Err e) from old new fresh going asked ran = asked fresh
