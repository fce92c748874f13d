-- What an order leaves of a factory, by what it leaves of its core and by what the listeners told.
use Rattle.std.proofs.Common.{◌≡◌, ℕ, Bool, true, false, not, is_ok, List, Result, Ok, Err, refl, sym, ap, ◌∙◌, subst, arith}
use Rattle.std.proofs.lemmas.Bool.{true≢false}
use Rattle.std.specs.Prelude.{⊤, ◌||◌, IsOk, IsErr}
use Rattle.std.specs.declared.alloc.AllocError.{AllocError}
use Rattle.hib_journal.specs.Types.{Order, Script}
use Rattle.hib_journal.specs.Kept.{past}
use Rattle.hib_journal.specs.Sessions.{Journal, is_open}
use Rattle.hib_law.specs.Law.{Obeys}
use Rattle.hib_listeners.specs.Told.{Told}
use Rattle.hib_core.specs.Standing.{Origin}
use Rattle.hib_core.specs.Factory.{CoreState, FactoryState, IsAsked, IsAskedOnceMore, HasGrown, Hears}
use Rattle.hib_core.specs.Calls.{HasRun, IsCarriedOut, IsObeyed}
use Rattle.hib_core.proofs.Hearing.{heard_none, goes_by_one}
use Rattle.hib_core.specs.Playing.{GoesOn}
use Rattle.hib_core.proofs.Playing.{goes_same, goes_then}
use Rattle.hib_core.proofs.FromOutside.{no_kill_leads}

-- a factory of this core, what its listeners told, and whether one is deaf
abbrev pub whole : CoreState → List Told → Bool → FactoryState
whole k told deaf = record { journal = k.journal; engines = k.engines; sessions = k.sessions; refused = k.refused || deaf; told = told; deaf = deaf }

or_true : (b : Bool) → (b || true) ≡ true
or_true true = refl
or_true false = refl

or_false : (b : Bool) → (b || false) ≡ b
or_false true = refl
or_false false = refl

never : (b : Bool) → b ≡ false → b ≡ true → ⊥
never b p q = true≢false (sym q ∙ p)

once_more : (from : Origin) (h : Journal) (m : CoreState) → IsAsked from h m.engines → IsAskedOnceMore from h m.engines
once_more from h m w = record { later = w.later; few = omega (arith, w.few) }

-- a listener was deaf before: nothing has changed
pub deaf_obeys : (script : Script) (from : Origin) (o : Order) (k : CoreState) (told : List Told) (b : Bool) (e : AllocError) → b ≡ true → Obeys script from.tables (past k.journal) →
    IsObeyed script from o (Err e) (whole k told b) (whole k told b)
deaf_obeys script from o k told b e p law = record {
  ran = record { law = law; going = tt; stands = goes_same (past k.journal) (past k.journal) refl; asked = λ f. absurd (never (k.refused || b) f stopped); refused = stopped };
  leads = tt;
  outside = omega arith;
  hears = heard_none (past k.journal) (past k.journal) false told told refl refl;
  same = λ _. refl;
  err = λ _. ap (λ r. record (whole k told b) { refused = r }) stopped;
  unheard = λ f _. absurd (never b f p);
  deaf = λ _. refl;
}
  where
    stopped : (k.refused || b) ≡ true
    stopped = subst (λ c. (k.refused || c) ≡ true) (sym p) (or_true k.refused)

-- and so at a kill of a session that isn't open, which is none
pub deaf_kills : (script : Script) (from : Origin) (n : ℕ) (k : CoreState) (told : List Told) (b : Bool) (r : Result ⊤ AllocError) → b ≡ true → Obeys script from.tables (past k.journal) →
    (IsOk r → is_open n (past k.journal) ≡ false) → IsObeyed script from (Order.Kill n) r (whole k told b) (whole k told b)
deaf_kills script from n k told b (Ok u) p law f = record {
  ran = record { law = law; going = refl; stands = tt; asked = tt; refused = tt };
  leads = no_kill_leads script (past k.journal) n (f refl);
  outside = omega arith;
  hears = heard_none (past k.journal) (past k.journal) true told told refl refl;
  same = tt;
  err = tt;
  unheard = tt;
  deaf = λ _. refl;
}
deaf_kills script from n k told b (Err e) p law f = deaf_obeys script from (Order.Kill n) k told b e p law

-- no entry was added
pub kept_obeys : (script : Script) (from : Origin) (o : Order) (k m : CoreState) (told : List Told) (b : Bool) (r : Result ⊤ AllocError) → b ≡ false → past m.journal ≡ past k.journal →
    IsCarriedOut script from o r k m → IsObeyed script from o r (whole k told b) (whole m told b)
kept_obeys script from o k m told b (Ok u) p q w = record {
  ran = record { law = w.law; going = ap (λ c. c || b) w.going; stands = tt; asked = tt; refused = tt };
  leads = w.leads;
  outside = w.outside;
  hears = heard_none (past k.journal) (past m.journal) true told told q refl;
  same = tt;
  err = tt;
  unheard = tt;
  deaf = λ d. absurd (never b p d);
}
kept_obeys script from o k m told b (Err e) p q w = record {
  ran = record { law = w.law; going = tt; stands = goes_same (past k.journal) (past m.journal) q; asked = λ f. w.asked (sym (or_false k.refused) ∙ subst (λ c. (k.refused || c) ≡ false) p f); refused = ap (λ (v : CoreState). v.refused || b) w.err };
  leads = tt;
  outside = w.outside;
  hears = heard_none (past k.journal) (past m.journal) false told told q refl;
  same = λ _. q;
  err = λ _. ap (λ (v : CoreState). whole v told b) w.err;
  unheard = λ _ d. absurd (never b p d);
  deaf = λ d. absurd (never b p d);
}

-- and so if the core had no memory
pub refused_obeys : (script : Script) (from : Origin) (o : Order) (k m : CoreState) (told : List Told) (b : Bool) (e : AllocError) (r : Result ⊤ AllocError) → b ≡ false →
    IsCarriedOut script from o (Err e) k m → IsErr r → IsObeyed script from o r (whole k told b) (whole m told b)
refused_obeys script from o k m told b e (Ok u) p w f = absurd (true≢false (sym f))
refused_obeys script from o k m told b e (Err x) p w f = kept_obeys script from o k m told b (Err x) p w.same (record {
  leads = tt;
  outside = w.outside;
  law = w.law;
  going = tt;
  same = w.same;
  err = w.err;
  asks = w.asks;
  asked = w.asked;
})

-- one was added, and told
pub told_runs : {T : Type 0} (script : Script) (from : Origin) (k m : CoreState) (told next : List Told) (b z : Bool) (r : Result T AllocError) → b ≡ false → z ≡ not (is_ok r) →
    HasGrown (past k.journal) (past m.journal) → Obeys script from.tables (past m.journal) → m.refused ≡ k.refused → (m.refused ≡ false → IsAsked from (past m.journal) m.engines) →
    HasRun script from r (whole k told b) (whole m next z)
told_runs script from k m told next b z (Ok v) p q g law going asks = record {
  law = law;
  going = ap (λ c. m.refused || c) (q ∙ sym p) ∙ ap (λ c. c || b) going;
  stands = tt;
  asked = tt;
  refused = tt;
}
told_runs script from k m told next b z (Err e) p q g law going asks = record {
  law = law;
  going = tt;
  stands = goes_by_one (past k.journal) (past m.journal) g;
  asked = λ f. once_more from (past m.journal) m (asks (going ∙ (sym (or_false k.refused) ∙ subst (λ c. (k.refused || c) ≡ false) p f)));
  refused = ap (λ c. m.refused || c) q ∙ or_true m.refused;
}

pub told_obeys : (script : Script) (from : Origin) (o : Order) (k m : CoreState) (told next : List Told) (b z : Bool) (u : ⊤) (r : Result ⊤ AllocError) → b ≡ false → z ≡ not (is_ok r) →
    HasGrown (past k.journal) (past m.journal) → Hears (past k.journal) (past m.journal) (is_ok r) told next → IsCarriedOut script from o (Ok u) k m →
    IsObeyed script from o r (whole k told b) (whole m next z)
told_obeys script from o k m told next b z u (Ok v) p q g h w = record {
  ran = told_runs script from k m told next b z (Ok v) p q g w.law w.going w.asks;
  leads = w.leads;
  outside = w.outside;
  hears = h;
  same = tt;
  err = tt;
  unheard = tt;
  deaf = λ d. absurd (never b p d);
}
told_obeys script from o k m told next b z u (Err e) p q g h w = record {
  ran = told_runs script from k m told next b z (Err e) p q g w.law w.going w.asks;
  leads = tt;
  outside = w.outside;
  hears = h;
  same = λ d. absurd (never b p (sym d ∙ q));
  err = λ d. absurd (never b p (sym d ∙ q));
  unheard = λ _ _. w.leads;
  deaf = λ d. absurd (never b p d);
}

-- ---- a call of many steps, in one of which memory ran out
pub runs_then : {S T : Type 0} (script : Script) (from : Origin) (r : Result T AllocError) (e : AllocError) (old mid new : FactoryState) → IsErr r → GoesOn (past old.journal) (past mid.journal) →
    mid.refused ≡ old.refused → HasRun {T = S} script from (Err e) mid new → HasRun script from r old new
runs_then script from (Ok t) e old mid new f g going w = absurd (true≢false (sym f))
runs_then script from (Err x) e old mid new f g going w = record {
  law = w.law;
  going = tt;
  stands = goes_then (past old.journal) (past mid.journal) (past new.journal) g w.stands;
  asked = λ q. w.asked (going ∙ q);
  refused = w.refused;
}
