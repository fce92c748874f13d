-- What a session says of the act that is due in it is what the engines want to know.
use Rattle.std.proofs.Common.{◌≡◌, ◌⊎◌, ℕ, true, false, not, List, [], ◌∷◌, length, ◌<◌, refl, ap, ◌∙◌, inl, inr}
use Rattle.std.proofs.lemmas.Bool.{true≢false, false≢true, ltb-true, and_parts}
use Rattle.std.proofs.lemmas.List.Elements.{All-nil, All-cons}
use Rattle.std.specs.Prelude.{nat_lt}
use Rattle.std.specs.List.{All, list_all}
use Rattle.hib_journal.specs.Types.{Strategy, Script, Act}
use Rattle.hib_journal.specs.Sessions.{Journal, changes_in, deferred}
use Rattle.hib_journal.specs.Next.{strategy}
use Rattle.hib_journal.specs.Due.{IsAllowed, asks_store, is_inserting, is_removing, are_tables}
use Rattle.hib_journal.specs.Due as Due
use Rattle.hib_engines.specs.Region.{acts_on, Suits}
use Rattle.hib_engines.specs.Served.{AreWithin, HasQuery}
use Rattle.hib_engines.specs.Due.{HasQueries, AreStored, IsDue}

stored : (mine : Journal) (a : Act) → (asks_store a ≡ true → deferred mine ≡ changes_in mine) → AreStored mine a
stored mine (Act.Load k) f = f refl
stored mine (Act.List q) f = f refl
stored mine Act.Commit f = f refl
stored mine _ f = tt

all_below : (n : ℕ) (ts : List ℕ) → list_all (λ t. nat_lt t n) ts ≡ true → All (λ t. t < n) ts
all_below n [] p = All-nil (λ t. t < n)
all_below n (t ∷ ts) p = let q = and_parts (nat_lt t n) (list_all (λ u. nat_lt u n) ts) p in All-cons (λ u. u < n) t ts (ltb-true t n q.0) (all_below n ts q.1)

some_below : (script : Script) (ts : List ℕ) → are_tables script ts ≡ true → All (λ t. t < length script.mapping) ts
some_below script [] p = absurd (false≢true p)
some_below script (t ∷ ts) p = all_below (length script.mapping) (t ∷ ts) p

known : (script : Script) (s : ℕ) (mine : Journal) (a : Act) → Due.Suits script s mine a → AreWithin (length script.mapping) a
known script s mine (Act.Pre ts) w = all_below (length script.mapping) ts w.0
known script s mine (Act.Stamp ts) w = some_below script ts w
known script s mine _ w = tt

inserts : (g : Strategy) → is_inserting g ≡ true → (g ≡ Strategy.ReadOnly) ⊎ (g ≡ Strategy.ReadWrite)
inserts Strategy.ReadOnly p = inl refl
inserts Strategy.ReadWrite p = inr refl
inserts _ p = absurd (false≢true p)

removes : (g : Strategy) → is_removing g ≡ true → (g ≡ Strategy.ReadOnly) ⊎ (g ≡ Strategy.Nonstrict)
removes Strategy.ReadOnly p = inl refl
removes Strategy.Nonstrict p = inr refl
removes _ p = absurd (false≢true p)

suits : (script : Script) (s : ℕ) (mine : Journal) (a : Act) → Rattle.hib_journal.specs.Legal.is_outside a ≡ false → Due.Suits script s mine a → Suits (strategy script (acts_on a)) a
suits script s mine (Act.Get k t) o w = w.0
suits script s mine (Act.Put k r t f) o w = w.0
suits script s mine (Act.Lock k v f) o w = w.0
suits script s mine (Act.Unlock k i) o w = w
suits script s mine (Act.AfterInsert k r f) o w = inserts (strategy script k.entity) w.0
suits script s mine (Act.AfterUpdate k i r) o w = w
suits script s mine (Act.RegionRemove k) o w = removes (strategy script k.entity) w
suits script s mine (Act.Evict k) o w = absurd (true≢false o)
suits script s mine _ o w = tt

query : (script : Script) (s : ℕ) (mine : Journal) (a : Act) → HasQueries script → Due.Suits script s mine a → HasQuery script a
query script s mine (Act.List q) n w = n s q w
query script s mine (Act.Look q) n w = n s q w
query script s mine (Act.Check q t) n w = n s q w.0
query script s mine (Act.Keep q t l) n w = n s q w.0
query script s mine _ n w = tt

pub is_due : (script : Script) (s : ℕ) (mine : Journal) (a : Act) → HasQueries script → IsAllowed script s mine a → IsDue script mine a
is_due script s mine a n w = record {
  begins = λ p. w.begun ∙ ap not p;
  within = λ p. w.begun ∙ ap not p;
  ends = w.ended;
  stored = stored mine a w.deferred;
  known = known script s mine a w.suits;
  suits = suits script s mine a w.inside w.suits;
  inside = w.inside;
  query = query script s mine a n w.suits;
}
