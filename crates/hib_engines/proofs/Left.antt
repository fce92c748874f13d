-- What an act leaves of the store, and of all engines, that was refused for want of memory, or whose answer is let go.
use Rattle.std.proofs.Common.{◌≡◌, ℕ, true, false, not, cond, List, [], Option, refl, sym, ap, ◌∙◌, subst, arith, inl, inr}
use Rattle.std.proofs.lemmas.Bool.{true≢false, not-false}
use Rattle.hib_base.specs.Tables.{Tables}
use Rattle.hib_base.proofs.Tables.{Tested, tested}
use Rattle.hib_journal.specs.Types.{Key, Change, Script, Act}
use Rattle.hib_journal.specs.Sessions.{Journal, own, changes, deferred, is_empty}
use Rattle.hib_journal.specs.Legal.{is_told}
use Rattle.hib_store.specs.Stores.{StoreState, changes_of, is_in}
use Rattle.hib_session.specs.Memory.{brings}
use Rattle.hib_query_cache.specs.Ranked.{Ranked}
use Rattle.hib_engines.specs.declared.region.Region.{Region}
use Rattle.hib_engines.specs.Counts.{RoseWithin}
use Rattle.hib_engines.specs.Due.{AreStored}
use Rattle.hib_engines.specs.Registry.{Opened, own_after}
use Rattle.hib_engines.specs.Store.{IsCounted, IsLeft}
use Rattle.hib_engines.specs.Engines.{EnginesState, IsReady, IsRefused}
use Rattle.hib_engines.proofs.Bridge.{deferred_of}
use Rattle.hib_engines.proofs.Still.{still_same, store_asked, brings_own}
use Rattle.hib_engines.proofs.Stored.{empty_nil}

-- ---- of the store

pub left_same : (cs : List Change) (a : Act) (x y : StoreState) → y ≡ x → IsLeft cs a x y
left_same cs a x y e = subst (λ v. IsLeft cs a x v) (sym e) (record {
  counted = record { tables = refl; written = refl; faults = omega arith; later = omega arith; few = omega arith };
  entities = refl;
  asked = record { later = omega arith; few = omega arith };
  same = λ _. refl;
})

-- a key that the session has changed asks nothing
pub load_left : (cs : List Change) (k : Key) (x y : StoreState) → (is_in k cs ≡ true → y ≡ x) → IsCounted x y → y.entities ≡ x.entities → IsLeft cs (Act.Load k) x y
load_left cs k x y q w e = by_test (tested (is_in k cs))
  where
    one : RoseWithin x.asked 1 y.asked
    one = record { later = w.later; few = w.few }

    by_test : Tested (is_in k cs) → IsLeft cs (Act.Load k) x y
    by_test (inl p) = left_same cs (Act.Load k) x y (q p)
    by_test (inr p) = record {
      counted = w;
      entities = e;
      asked = subst (λ b. RoseWithin x.asked (cond (not b) 1 0) y.asked) (sym p) one;
      same = λ t. absurd (true≢false (subst (λ b. not b ≡ false) p t));
    }

pub list_left : (cs : List Change) (q : ℕ) (x y : StoreState) → IsCounted x y → y.entities ≡ x.entities → IsLeft cs (Act.List q) x y
list_left cs q x y w e = record { counted = w; entities = e; asked = record { later = w.later; few = w.few }; same = λ t. absurd (true≢false t) }

pub commit_left : (cs : List Change) (x y : StoreState) → (cs ≡ [] → y ≡ x) → IsCounted x y → y.asked ≡ x.asked → y.entities ≡ x.entities → IsLeft cs Act.Commit x y
commit_left cs x y n w a e = record {
  counted = w;
  entities = e;
  asked = record { later = omega (arith, a); few = omega (arith, a) };
  same = λ t. n (empty_nil cs (not-false (is_empty cs) t));
}

-- ---- of the engines

engines_same : (x y : EnginesState) → y.store ≡ x.store → y.registry ≡ x.registry → y.stamps ≡ x.stamps → y.regions ≡ x.regions → y.results ≡ x.results → y ≡ x
engines_same x y a b c d e =
    let of : StoreState → Opened → List (Option ℕ) → List Region → Ranked → EnginesState = λ s r t g u. record { store = s; registry = r; stamps = t; regions = g; results = u } in
    ap (λ s. of s y.registry y.stamps y.regions y.results) a ∙ (ap (λ r. of x.store r y.stamps y.regions y.results) b ∙ (ap (λ t. of x.store x.registry t y.regions y.results) c ∙
    (ap (λ g. of x.store x.registry x.stamps g y.results) d ∙ ap (λ u. of x.store x.registry x.stamps x.regions u) e)))

pub refused_same : (h : Journal) (s : ℕ) (a : Act) (x y : EnginesState) → y ≡ x → IsRefused h s a x y
refused_same h s a x y e = subst (λ v. IsRefused h s a x v) (sym e) (record {
  still = still_same x x refl;
  entities = refl;
  asked = record { later = omega arith; few = omega arith };
  same = λ _. refl;
})

-- what the reply to an act that is due hangs on is the same by what the store defers and by what the session wrote
told_as : (h : Journal) (s : ℕ) (a : Act) (cs : List Change) → cs ≡ deferred (own s h) → AreStored (own s h) a → is_told cs a ≡ is_told (changes s h) a
told_as h s (Act.Load k) cs e d = ap (λ x. is_told x (Act.Load k)) (e ∙ d)
told_as h s Act.Commit cs e d = ap (λ x. is_told x Act.Commit) (e ∙ d)
told_as h s _ cs e d = refl

pub store_refused : (script : Script) (told : Option Tables) (h : Journal) (s now : ℕ) (a : Act) (x y : EnginesState) → IsReady script told h s now a x → IsLeft (changes_of x.store s) a x.store y.store →
    y.registry ≡ x.registry → y.stamps ≡ x.stamps → y.regions ≡ x.regions → y.results ≡ x.results → IsRefused h s a x y
store_refused script told h s now a x y k w b c d e = record {
  still = record { store = w.counted; registry = b; stamps = c; regions = d; results = e };
  entities = w.entities;
  asked = store_asked script told h s now a x y k w.asked;
  same = λ t. engines_same x y
      (w.same (told_as h s a (changes_of x.store s) (k.standing.store.changes s ∙ deferred_of h s k.standing.bridged k.live) k.due.stored ∙ t)) b c d e;
}

-- an own act that brings something to the session
pub own_refused : (h : Journal) (s n : ℕ) (a : Act) (x y : EnginesState) → y ≡ record x { registry = own_after n a x.registry } → brings a ≡ true → IsRefused h s a x y
own_refused h s n a x y q b = refused_same h s a x y (q ∙ ap (λ ps. record x { registry = ps }) (brings_own n a x.registry b))
