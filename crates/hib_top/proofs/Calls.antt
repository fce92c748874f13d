-- The call of a command is what the words have the program do.
use Rattle.std.proofs.Common.{◌≡◌, ◌≢◌, ◌+◌, true, false, List, [], Option, Some, None, refl, sym, ◌∙◌, ap, subst, inl, inr}
use Rattle.std.specs.Prelude.{◌↔◌, map, option_map, option_and_then, string_bytes}
use Rattle.std.specs.declared.string.String.{String}
use Rattle.std.specs.declared.alloc.Global.{Global}
use Rattle.hib_outside.specs.Causes.{Rose}
use Rattle.hib_outside.specs.declared.keeper.Keeper as keepers
use Rattle.hib_outside.specs.declared.listener.Listener as listeners
use Rattle.hib_outside.specs.declared.streams.Sink as sinks
use Rattle.hib_outside.specs.declared.streams.Source as sources
use Rattle.hib_call.proofs.Runs.{not_fault}
use Rattle.hib_call.proofs.Taken.{reads_none}
use Rattle.hib_call.specs.declared.lent.Lent.{Lent}
use Rattle.hib_call.specs.declared.status.Status.{Status}
use Rattle.hib_call.specs.Called.{IsCalled, ComesTo}
use Rattle.hib_call.specs.Command as Calls
use Rattle.hib_call.specs.Limits.{max_piece}
use Rattle.hib_call.specs.Outside.{Outside, outside_of}
use Rattle.hib_section_calls.specs.Bulking.{bulking}
use Rattle.hib_section_calls.specs.Collecting.{collecting}
use Rattle.hib_section_calls.specs.Placing.{placing}
use Rattle.hib_words.specs.Commands.{Asked, asked_of, command, play, work, make, audit, collect, bulk, nodes}
use Rattle.hib_words.specs.declared.words.Command.{Command}
use Rattle.hib_top.specs.declared.any_run.AnyRun.{AnyRun}
use Rattle.hib_top.specs.declared.turns.Turns.{Turns}
use Rattle.hib_top.specs.Call.{Does, DoesIf, Promised, unread}
use Rattle.hib_top.specs.Auditing.{auditing}
use Rattle.hib_top.specs.Making.{making, printing}
use Rattle.hib_top.specs.Running.{running}
use Rattle.hib_top.specs.Words.{asked_alone, asked_in, if_alone, is_alone, telling_of}

-- ---- a call in which memory ran out before anything was done
no_read_fault : Status.NoMemory ≡ Status.ReadFault → ⊥
no_read_fault e = cc

no_write_fault : Status.NoMemory ≡ Status.WriteFault → ⊥
no_write_fault e = cc

not_long : Status.NoMemory ≡ Status.TooLong → ⊥
not_long e = cc

short_call : {I R : Type 0} (c : Calls.Command I R) (o : Outside) → IsCalled c o o Status.NoMemory None
short_call c o = record {
  came = inl (tt, record { shared = refl; written = refl });
  read = λ e. absurd (no_read_fault e);
  write = λ e. absurd (no_write_fault e);
  store = λ e. absurd (not_fault e);
  long = λ e. absurd (not_long e);
  few = reads_none (c.limit + max_piece) o.left;
  complete = λ has read write. inl tt;
}

idle_by : (asked : Asked) (o : Outside) → Does asked o o Status.NoMemory None
idle_by (play s) o = (None, short_call (running Turns.Scheduled (telling_of s.journal)) o, refl)
idle_by (work n false s) o = (None, short_call (running (Turns.OnWorkers n) (telling_of s.journal)) o, refl)
idle_by (work n true s) o = (None, short_call (running (Turns.OnParts n) (telling_of s.journal)) o, refl)
idle_by (make n false) o = ((None, short_call (making n) (unread o), refl), (refl, refl))
idle_by (make n true) o = ((None, short_call (printing n) (unread o), refl), (refl, refl))
idle_by audit o = (None, short_call auditing o, refl)
idle_by collect o = (None, short_call collecting o, refl)
idle_by bulk o = (None, short_call bulking o, refl)
idle_by nodes o = (None, short_call placing o, refl)

pub idle_if : (asked : Option Asked) (o : Outside) (handed : Option AnyRun) → handed ≡ None → DoesIf asked o o Status.NoMemory handed
unfolding DoesIf
idle_if None o handed e = (refl, e)
idle_if (Some asked) o handed e = subst (λ (z : Option AnyRun). Does asked o o Status.NoMemory z) (sym e) (idle_by asked o)

pub none_does : (asked : Option Asked) (o : Outside) (answer : Status) (handed : Option AnyRun) → None ≡ asked → handed ≡ None → DoesIf asked o o answer handed
unfolding DoesIf
none_does asked o answer handed w e = subst (λ (z : Option Asked). DoesIf z o o answer handed) w (refl, e)

pub some_does : (asked : Option Asked) (a : Asked) (old new : Outside) (answer : Status) (handed : Option AnyRun) → Some a ≡ asked → Does a old new answer handed → DoesIf asked old new answer handed
unfolding DoesIf
some_does asked a old new answer handed e d = subst (λ (z : Option Asked). DoesIf z old new answer handed) e d

-- ---- words without a form are told from others
usage_by : {I R : Type 0} (c : Calls.Command I R) (old new : Outside) (run : Option R) → ComesTo c old new Status.Usage run → ⊥
usage_by c old new None (inl n) = n.0
usage_by c old new None (inr s) = s.4
usage_by c old new (Some r) (inl t) = t.4
usage_by c old new (Some r) (inr s) = s.4

pub not_usage : {I R : Type 0} (c : Calls.Command I R) (old new : Outside) (answer : Status) (run : Option R) → IsCalled c old new answer run → answer ≢ Status.Usage
not_usage c old new answer run called e = usage_by c old new run (subst (λ (s : Status). ComesTo c old new s run) e called.came)

-- ---- a store fault is answered only if one came
pub store_by : (asked : Asked) (old new : Outside) (answer : Status) (handed : Option AnyRun) → Does asked old new answer handed → answer ≡ Status.StoreFault → Rose old.shared.faults new.shared.faults
store_by (play s) old new answer handed d = d.1.store
store_by (work n false s) old new answer handed d = d.1.store
store_by (work n true s) old new answer handed d = d.1.store
store_by (make n false) old new answer handed d = d.0.1.store
store_by (make n true) old new answer handed d = d.0.1.store
store_by audit old new answer handed d = d.1.store
store_by collect old new answer handed d = d.1.store
store_by bulk old new answer handed d = d.1.store
store_by nodes old new answer handed d = d.1.store

not_usage_fault : Status.StoreFault ≡ Status.Usage → ⊥
not_usage_fault e = cc

not_short_fault : Status.StoreFault ≡ Status.NoMemory → ⊥
not_short_fault e = cc

pub store_if : (asked : Option Asked) (old new : Outside) (answer : Status) (handed : Option AnyRun) → Promised asked old new answer handed → answer ≡ Status.StoreFault → Rose old.shared.faults new.shared.faults
unfolding DoesIf
store_if None old new answer handed p e = absurd (not_usage_fault (sym e ∙ (p.usage (λ s. not_short_fault (sym e ∙ s))).1 refl))
store_if (Some asked) old new answer handed p e = store_by asked old new answer handed p.does e

-- ---- and words without a form change no table
none_by : (old new : Outside) (answer : Status) (handed : Option AnyRun) → DoesIf None old new answer handed → new.shared.tables ≡ old.shared.tables
unfolding DoesIf
none_by old new answer handed d = ap (λ (o : Outside). o.shared.tables) d.0

pub none_tables : (asked : Option Asked) (old new : Outside) (answer : Status) (handed : Option AnyRun) → Promised asked old new answer handed → asked ≡ None → new.shared.tables ≡ old.shared.tables
none_tables asked old new answer handed p e = none_by old new answer handed (subst (λ (w : Option Asked). DoesIf w old new answer handed) e p.does)

-- ---- what words ask for, by the command that they are
pub asked_some : (words : List (String Global)) (o : Option Command) (c : Command) → o ≡ Some c → option_map asked_of o ≡ command (map string_bytes words) → Some (asked_of c) ≡ asked_in words
unfolding asked_in
asked_some words o c p e = ap (option_map asked_of) (sym p) ∙ e

pub asked_none : (words : List (String Global)) (o : Option Command) → o ≡ None → option_map asked_of o ≡ command (map string_bytes words) → None ≡ asked_in words
unfolding asked_in
asked_none words o p e = ap (option_map asked_of) (sym p) ∙ e

alone_by : (a : Asked) → is_alone a ≡ true → Some a ≡ if_alone a
alone_by a e = rw e refl

pub alone_some : (words : List (String Global)) (a : Asked) → Some a ≡ asked_in words → is_alone a ≡ true → Some a ≡ asked_alone words
unfolding asked_alone
alone_some words a e alone = alone_by a alone ∙ ap (option_and_then if_alone) e

not_alone_by : (a : Asked) → is_alone a ≡ false → None ≡ if_alone a
not_alone_by a e = rw e refl

pub alone_none : (words : List (String Global)) → None ≡ asked_in words → None ≡ asked_alone words
unfolding asked_alone
alone_none words e = ap (option_and_then if_alone) e

pub alone_other : (words : List (String Global)) (a : Asked) → Some a ≡ asked_in words → is_alone a ≡ false → None ≡ asked_alone words
unfolding asked_alone
alone_other words a e other = not_alone_by a other ∙ ap (option_and_then if_alone) e

-- ---- whether a call ends as for words without a form
some_none : (a : Asked) → ◌≡◌ {A = Option Asked} (Some a) None → ⊥
some_none a e = cc

pub usage_some : (asked : Option Asked) (a : Asked) (answer : Status) → Some a ≡ asked → answer ≢ Status.Usage → answer ≢ Status.NoMemory → ((answer ≡ Status.Usage) ↔ (asked ≡ None))
usage_some asked a answer e other m = (λ u. absurd (other u), λ none. absurd (some_none a (e ∙ none)))

pub usage_none : (asked : Option Asked) (answer : Status) → None ≡ asked → answer ≡ Status.Usage → answer ≢ Status.NoMemory → ((answer ≡ Status.Usage) ↔ (asked ≡ None))
usage_none asked answer e u m = (λ v. sym e, λ none. u)

pub usage_short : (asked : Option Asked) (answer : Status) → answer ≡ Status.NoMemory → answer ≢ Status.NoMemory → ((answer ≡ Status.Usage) ↔ (asked ≡ None))
usage_short asked answer e m = absurd (m e)

-- ---- what is promised of a call, by what its words are
pub promised_some : (words : List (String Global)) (o : Option Command) (c : Command) (old new : Outside) (answer : Status) (handed : Option AnyRun) → o ≡ Some c →
    option_map asked_of o ≡ command (map string_bytes words) → Does (asked_of c) old new answer handed → answer ≢ Status.Usage → Promised (asked_in words) old new answer handed
promised_some words o c old new answer handed p e d u =
    let said : Some (asked_of c) ≡ asked_in words = asked_some words o c p e in
    record {
      does = some_does (asked_in words) (asked_of c) old new answer handed said d;
      usage = usage_some (asked_in words) (asked_of c) answer said u;
    }

pub promised_none : (asked : Option Asked) (old new : Outside) (answer : Status) (handed : Option AnyRun) → None ≡ asked → new ≡ old → answer ≡ Status.Usage → handed ≡ None → Promised asked old new answer handed
promised_none asked old new answer handed p e u n = record {
  does = subst (λ (z : Outside). DoesIf asked old z answer handed) (sym e) (none_does asked old answer handed p n);
  usage = usage_none asked answer p u;
}

pub promised_short : (asked : Option Asked) (old new : Outside) (answer : Status) (handed : Option AnyRun) → new ≡ old → answer ≡ Status.NoMemory → handed ≡ None → Promised asked old new answer handed
promised_short asked old new answer handed e m n = record {
  does = subst (λ (z : Outside). DoesIf asked old z answer handed) (sym e) (subst (λ (a : Status). DoesIf asked old old a handed) (sym m) (idle_if asked old handed n));
  usage = usage_short asked answer m;
}

pub promised_alone : (words : List (String Global)) (o : Option Command) (c : Command) (old new : Outside) (answer : Status) (handed : Option AnyRun) → o ≡ Some c →
    option_map asked_of o ≡ command (map string_bytes words) → is_alone (asked_of c) ≡ true → Does (asked_of c) old new answer handed → answer ≢ Status.Usage → Promised (asked_alone words) old new answer handed
promised_alone words o c old new answer handed p e alone d u =
    let said : Some (asked_of c) ≡ asked_alone words = alone_some words (asked_of c) (asked_some words o c p e) alone in
    record {
      does = some_does (asked_alone words) (asked_of c) old new answer handed said d;
      usage = usage_some (asked_alone words) (asked_of c) answer said u;
    }

-- what was lent is handed back
pub handed_back : {S W K L : Type 0} (source : sources.Ghosts S) (sink : sinks.Ghosts W) (keeper : keepers.Ghosts K) (listener : listeners.Ghosts L) (from : S) (to : W) (l m : Lent K L) → m ≡ l →
    outside_of source sink keeper listener from to m ≡ outside_of source sink keeper listener from to l
handed_back source sink keeper listener from to l m e = ap (outside_of source sink keeper listener from to) e
