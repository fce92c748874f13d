-- The part of the results goes on.
use Rattle.std.specs.Prelude.{unwrap_or}
use Rattle.std.proofs.Common.{◌≡◌, ℕ, true, false, ◌∷◌, Some, Option, refl, sym, ap, subst}
use Rattle.std.proofs.lemmas.Bool.{false≢true}
use Rattle.hib_base.specs.Tables.{Tables}
use Rattle.hib_journal.specs.Types.{Script, Act, Reply, Part}
use Rattle.hib_journal.specs.Sessions.{Journal}
use Rattle.hib_journal.specs.Legal.{part_of}
use Rattle.hib_journal.specs.Lists.{entry_at}
use Rattle.hib_session.specs.Memory.{brings}
use Rattle.hib_query_cache.specs.Ranked.{Ranked}
use Rattle.hib_engines.specs.Results.{AreResults}
use Rattle.hib_engines.specs.Served.{is_for, IsServed, HasQuery}
use Rattle.hib_engines.specs.Built.{IsBuilt}
use Rattle.hib_parts.specs.Listed.{WorkerState, IsPartList, IsDueAct, IsDueOn, IsLater}
use Rattle.hib_parts.proofs.Replies.{any_reply, not_mine, is_shared}
use Rattle.hib_parts.proofs.Steps.{IsStep, step_of, part_on, for_part, not_store, known}

quiet_of : (a : Act) (s : ℕ) → is_for Part.Results a s ≡ true → brings a ≡ false
quiet_of (Act.Look q) s p = refl
quiet_of (Act.Keep q t l) s p = refl
quiet_of _ s p = absurd (false≢true p)

pub record ResultsStep (script : Script) (told : Option Tables) (l : Journal) (y : Ranked) (w : WorkerState) (a : Act) (now : ℕ) (r : Reply) : Type 0 where
  pub step : IsStep script told Part.Results l w a now r
  pub stands : AreResults script (entry_at now (Some w.number) a r ∷ l) y
  pub quiet : brings a ≡ false

pub results_on : (script : Script) (told : Option Tables) (l view : Journal) (last : ℕ) (x y : Ranked) (w : WorkerState) (a : Act) (now : ℕ) (r : Reply) → l ≡ view → IsBuilt script → IsPartList script told Part.Results l last → AreResults script l x →
    IsDueOn script Part.Results w → IsDueAct script w a → IsLater now view w.list →
    ((given : Script) (j : Journal) (by : Option ℕ) (t : ℕ) → AreResults given j x → is_for Part.Results a (unwrap_or by 0) ≡ true → HasQuery given a → IsServed (λ m. AreResults given m y) given j by t a r) → ResultsStep script told l y w a now r
results_on script told l view last x y w a now r e b k stands on d t f =
    let q : part_of a w.number ≡ Part.Results = part_on script Part.Results w a on d in
    let here : is_for Part.Results a w.number ≡ true = for_part Part.Results a w.number q in
    let v : IsServed (λ m. AreResults script m y) script l (Some w.number) now a r = f script l (Some w.number) now stands here (known script w a b d).query in
    record {
      step = step_of script told Part.Results l last w a now r refl k d q (subst (λ j. IsLater now j w.list) (sym e) t)
          (any_reply script told l w.number now a r v.reply (not_store Part.Results a w.number q refl) (not_mine a w.number (ap is_shared q)));
      stands = v.stands;
      quiet = quiet_of a w.number here;
    }

pub results_after : (script : Script) (told : Option Tables) (l new : Journal) (y : Ranked) (w : WorkerState) (a : Act) (now : ℕ) (r : Reply) → IsBuilt script → ResultsStep script told l y w a now r → new ≡ entry_at now (Some w.number) a r ∷ l →
    IsBuilt script × IsPartList script told Part.Results new now × AreResults script new y
results_after script told l new y w a now r b s e = (b, subst (λ j. IsPartList script told Part.Results j now) (sym e) s.step.list, subst (λ j. AreResults script j y) (sym e) s.stands)
