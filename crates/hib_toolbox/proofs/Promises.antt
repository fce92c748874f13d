-- The call of a command is what the words have the tools do.
use Rattle.std.proofs.Common.{◌≡◌, ◌≢◌, ◌+◌, ◌∙◌, Option, Some, None, refl, sym, subst, inl, inr}
use Rattle.std.specs.Prelude.{◌↔◌}
use Rattle.hib_call.proofs.Taken.{reads_none}
use Rattle.hib_call.specs.declared.status.Status.{Status}
use Rattle.hib_call.specs.Called.{IsCalled, ComesTo}
use Rattle.hib_call.specs.Command as Calls
use Rattle.hib_call.specs.Outside.{Outside}
use Rattle.hib_words.specs.declared.tools.Tool.{Tool}
use Rattle.hib_words.specs.declared.tools.Tool.TheVariants as tool
use Rattle.hib_toolbox.specs.declared.ended.Said.{Said}
use Rattle.hib_toolbox.specs.Call.{DoesIf, DoesTool, Promised}
use Rattle.hib_order_text.specs.declared.findings.Finding.{Finding}
use Rattle.hib_toolbox.specs.declared.orders.Explored.{Explored}
use Rattle.hib_toolbox.specs.Exploring.{IsSaid, IsSaidOf, exploring, finding_numbered, showing}
use Rattle.hib_toolbox.specs.Data.{flattening, tracing}
use Rattle.hib_toolbox.specs.Listing.{listing}
use Rattle.hib_toolbox.specs.Repeating.{IsSaidOfRepeat, repeating}
use Rattle.hib_toolbox.specs.Reporting.{reporting}
use Rattle.hib_toolbox.specs.Stating.{stating}
use Rattle.hib_toolbox.specs.declared.repeat.Repeated.{Repeated}
use Rattle.hib_toolbox.specs.declared.show.Shown.{Shown}

-- ---- a call in which memory ran out before anything was done
no_read_fault : Status.NoMemory ≡ Status.ReadFault → ⊥
no_read_fault e = cc

no_write_fault : Status.NoMemory ≡ Status.WriteFault → ⊥
no_write_fault e = cc

no_store_fault : Status.NoMemory ≡ Status.StoreFault → ⊥
no_store_fault e = cc

not_long : Status.NoMemory ≡ Status.TooLong → ⊥
not_long e = cc

short_call : {I R : Type 0} (c : Calls.Command I R) (o : Outside) → IsCalled c o o Status.NoMemory None
short_call c o = record {
  came = inl (tt, record { shared = refl; written = refl });
  read = λ e. absurd (no_read_fault e);
  write = λ e. absurd (no_write_fault e);
  store = λ e. absurd (no_store_fault e);
  long = λ e. absurd (not_long e);
  few = reads_none (c.limit + 4096) o.left;
  complete = λ has read write. inl tt;
}

-- ---- words without a form are told from others
usage_by : {I R : Type 0} (c : Calls.Command I R) (old new : Outside) (run : Option R) → ComesTo c old new Status.Usage run → ⊥
usage_by c old new None (inl n) = n.0
usage_by c old new None (inr s) = s.4
usage_by c old new (Some r) (inl t) = t.4
usage_by c old new (Some r) (inr s) = s.4

pub not_usage : {I R : Type 0} (c : Calls.Command I R) (old new : Outside) (answer : Status) (run : Option R) → IsCalled c old new answer run → answer ≢ Status.Usage
not_usage c old new answer run called e = usage_by c old new run (subst (λ (s : Status). ComesTo c old new s run) e called.came)

-- ---- words that ask for something
idle_by : (asked : Tool) (o : Outside) → DoesTool asked o o Status.NoMemory Said.Nothing
idle_by tool.Report o = (None, short_call reporting o, refl)
idle_by (tool.Flat csv) o = (None, short_call (flattening csv) o, refl)
idle_by (tool.Spans jaeger) o = (None, short_call tracing o, refl)
idle_by tool.States o = (None, short_call stating o, refl)
idle_by tool.Schedule o = (None, short_call repeating o, refl)
idle_by tool.Rows o = (None, short_call listing o, refl)
idle_by (tool.Orders switches kills at_most None) o = (None, short_call (exploring switches kills at_most) o, refl)
idle_by (tool.Orders switches kills at_most (Some k)) o = (None, short_call (showing switches kills at_most (finding_numbered k)) o, refl)

idle_if : (asked : Option Tool) (o : Outside) → DoesIf asked o o Status.NoMemory Said.Nothing
unfolding DoesIf
idle_if None o = (refl, refl)
idle_if (Some asked) o = idle_by asked o

some_does : (asked : Option Tool) (a : Tool) (old new : Outside) (answer : Status) (said : Said) → Some a ≡ asked → DoesTool a old new answer said → DoesIf asked old new answer said
unfolding DoesIf
some_does asked a old new answer said e d = subst (λ (z : Option Tool). DoesIf z old new answer said) e d

none_does : (asked : Option Tool) (o : Outside) (answer : Status) → None ≡ asked → DoesIf asked o o answer Said.Nothing
unfolding DoesIf
none_does asked o answer e = subst (λ (z : Option Tool). DoesIf z o o answer Said.Nothing) e (refl, refl)

some_none : (a : Tool) → ◌≡◌ {A = Option Tool} (Some a) None → ⊥
some_none a e = cc

-- ---- what is promised of a call, by what its words are
pub promised_some : (asked : Option Tool) (a : Tool) (old new : Outside) (answer : Status) (said : Said) → Some a ≡ asked → DoesTool a old new answer said → answer ≢ Status.Usage →
    Promised asked old new answer said
promised_some asked a old new answer said e d other = record {
  does = some_does asked a old new answer said e d;
  usage = λ m. (λ u. absurd (other u), λ none. absurd (some_none a (e ∙ none)));
}

pub promised_none : (asked : Option Tool) (o : Outside) (answer : Status) (said : Said) → None ≡ asked → answer ≡ Status.Usage → said ≡ Said.Nothing → Promised asked o o answer said
promised_none asked o answer said e u n = record {
  does = subst (λ (z : Said). DoesIf asked o o answer z) (sym n) (none_does asked o answer e);
  usage = λ m. (λ v. sym e, λ none. u);
}

pub promised_short : (asked : Option Tool) (o : Outside) (answer : Status) (said : Said) → answer ≡ Status.NoMemory → said ≡ Said.Nothing → Promised asked o o answer said
promised_short asked o answer said e n = record {
  does = subst (λ (z : Said). DoesIf asked o o answer z) (sym n) (subst (λ (a : Status). DoesIf asked o o a Said.Nothing) (sym e) (idle_if asked o));
  usage = λ m. absurd (m e);
}

-- ---- what is said if not all was done
pub not_said : (answer : Status) (run : Option Explored) → (answer ≡ Status.Done → ⊥) → IsSaid answer run Said.Nothing
not_said Status.Done run other = absurd (other refl)
not_said _ run other = refl

pub not_said_of : (finding : Finding) (answer : Status) (run : Option Shown) → (answer ≡ Status.Done → ⊥) → IsSaidOf finding answer run Said.Nothing
not_said_of finding Status.Done run other = absurd (other refl)
not_said_of finding _ run other = refl

pub not_said_of_repeat : (answer : Status) (run : Option Repeated) → (answer ≡ Status.Done → ⊥) → IsSaidOfRepeat answer run Said.Nothing
not_said_of_repeat Status.Done run other = absurd (other refl)
not_said_of_repeat _ run other = refl
