-- Engines that are as before, but for the keeper's counts, and what an act asks of the keeper.
use Rattle.std.proofs.Common.{◌≡◌, ℕ, true, false, cond, List, length, Some, None, Option, refl, sym, ap, ◌∙◌, subst, arith}
use Rattle.std.proofs.lemmas.Bool.{false≢true}
use Rattle.std.proofs.lemmas.Option.{none-some, same_Some}
use Rattle.std.specs.Option.{option_map}
use Rattle.hib_base.specs.Tables.{Tables}
use Rattle.hib_journal.specs.Types.{Change, Script, Act, Reply}
use Rattle.hib_journal.specs.Sessions.{Journal, own, committed, changes_in}
use Rattle.hib_journal.specs.Lists.{stored}
use Rattle.hib_journal.specs.Runs.{told_committed, asks, is_fault}
use Rattle.hib_outside.specs.Causes.{Rose}
use Rattle.hib_store.specs.Stores.{changes_of}
use Rattle.hib_session.specs.Memory.{brings}
use Rattle.hib_session.specs.Session.{own_reply}
use Rattle.hib_session.proofs.OwnReplies.{own_no_fault}
use Rattle.hib_engines.specs.Registry.{Opened, IsRegistry, own_after}
use Rattle.hib_engines.specs.Region.{IsPlaced}
use Rattle.hib_engines.specs.Regions.{region_of}
use Rattle.hib_engines.specs.Counts.{RoseWithin}
use Rattle.hib_engines.specs.Stamps.{AreStamps}
use Rattle.hib_engines.specs.Results.{AreResults}
use Rattle.hib_engines.specs.Engines.{EnginesState, AreStanding, IsStill, IsReady, IsAnswered, IsAskedFor, IsTold}
use Rattle.hib_engines.proofs.Bridge.{deferred_of}
use Rattle.hib_engines.proofs.Replies.{asks_same}
use Rattle.hib_engines.proofs.OwnActs.{is_own}

-- ---- the rows

told_same : (told : Option Tables) (h : Journal) → ((start : Tables) → stored start h ≡ committed start h) → option_map (λ start. stored start h) told ≡ told_committed told h
told_same None h f = refl
told_same (Some start) h f = ap Some (f start)

-- the keeper's rows are the committed ones
pub rows_committed : (script : Script) (told : Option Tables) (h : Journal) (x : EnginesState) → AreStanding script told h x → x.store.tables ≡ told_committed told h
rows_committed script told h x k = k.store.rows ∙ told_same told h k.bridged.rows

-- ---- as before

pub still_same : (x y : EnginesState) → y ≡ x → IsStill x y
still_same x y e = subst (λ v. IsStill x v) (sym e) (record {
  store = record { tables = refl; written = refl; faults = omega arith; later = omega arith; few = omega arith };
  registry = refl;
  stamps = refl;
  regions = refl;
  results = refl;
})

pub still_standing : (script : Script) (told : Option Tables) (h : Journal) (x y : EnginesState) → IsStill x y → AreStanding script told h x → AreStanding script told h y
still_standing script told h x y w k = record {
  store = record { rows = w.store.tables ∙ k.store.rows; changes = λ n. ap (λ v. Rattle.hib_store.specs.Stores.changes_in v n) w.store.written ∙ k.store.changes n };
  bridged = k.bridged;
  registry = subst (λ z. IsRegistry z h) (sym w.registry) k.registry;
  stamps = subst (λ z. AreStamps script h z) (sym w.stamps) k.stamps;
  regions = λ n. subst (λ zs. IsPlaced script n h (region_of zs n)) (sym w.regions) (k.regions n);
  entities = ap length w.regions ∙ k.entities;
  results = subst (λ z. AreResults script h z) (sym w.results) k.results;
}

-- ---- what is asked of the keeper

pub store_asked : (script : Script) (told : Option Tables) (h : Journal) (s now : ℕ) (a : Act) (x y : EnginesState) → IsReady script told h s now a x →
    RoseWithin x.store.asked (cond (asks (changes_of x.store s) a) 1 0) y.store.asked → IsAskedFor h s a x y
store_asked script told h s now a x y k w = subst (λ b. RoseWithin x.store.asked (cond b 1 0) y.store.asked)
    (asks_same h s a (changes_of x.store s) (k.standing.store.changes s ∙ deferred_of h s k.standing.bridged k.live) k.due.stored) w

-- ---- a session's own answers, and those of the engines

-- such an act asks no keeper
own_silent : (a : Act) (cs : List Change) → is_own a ≡ true → asks cs a ≡ false
own_silent Act.End cs p = refl
own_silent (Act.Find k) cs p = refl
own_silent (Act.Persist k r) cs p = refl
own_silent (Act.Set k cells) cs p = refl
own_silent (Act.Remove k) cs p = refl
own_silent Act.Clear cs p = refl
own_silent _ cs p = absurd (false≢true p)

pub own_told : (script : Script) (told : Option Tables) (h : Journal) (s now : ℕ) (a : Act) (r : Reply) (x y : EnginesState) → own_reply script (own s h) a ≡ Some r → is_own a ≡ true →
    y.store ≡ x.store → IsAnswered script told h (Some s) now a r y → IsTold script told h s now a r x y
own_told script told h s now a r x y p o e v = record {
  answered = v;
  mine = λ q t. same_Some r q (sym p ∙ t);
  asked = subst (λ b. RoseWithin x.store.asked (cond b 1 0) y.store.asked) (sym (own_silent a (changes_in (own s h)) o))
      (subst (λ v. RoseWithin x.store.asked 0 v.asked) (sym e) (record { later = omega arith; few = omega arith }));
  fault = λ f. absurd (false≢true (sym (own_no_fault script (own s h) a r p) ∙ f));
}

pub engine_told : (script : Script) (told : Option Tables) (h : Journal) (s now : ℕ) (a : Act) (r : Reply) (x y : EnginesState) → own_reply script (own s h) a ≡ None →
    IsAnswered script told h (Some s) now a r y → IsAskedFor h s a x y → (is_fault r ≡ true → Rose x.store.faults y.store.faults) → IsTold script told h s now a r x y
engine_told script told h s now a r x y p v w f = record { answered = v; mine = λ q t. absurd (none-some q (sym p ∙ t)); asked = w; fault = f }

-- an own act that brings something to the session changes no engine
pub brings_own : (s : ℕ) (a : Act) (ps : Opened) → brings a ≡ true → own_after s a ps ≡ ps
brings_own s Act.End ps b = absurd (false≢true b)
brings_own s _ ps b = refl

pub own_still : (s : ℕ) (a : Act) (x y : EnginesState) → y ≡ record x { registry = own_after s a x.registry } → brings a ≡ true → IsStill x y
own_still s a x y q b = still_same x y (q ∙ ap (λ ps. record x { registry = ps }) (brings_own s a x.registry b))
