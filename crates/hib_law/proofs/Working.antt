-- What a session's own entries allow it to do with one read-write key, block by block.
use Rattle.std.specs.Prelude.{option_and_then, is_some}
use Rattle.std.proofs.Common.{◌≡◌, ◌⊎◌, inl, Bool, true, false, cond, List, [], ◌∷◌, Some, None, Option, refl, ap, sym, ◌∙◌, subst}
use Rattle.std.proofs.lemmas.Bool.{false≢true}
use Rattle.hib_journal.specs.Types.{Key, Row, Change, Strategy, Mode, Script, Act, Reply, Entry}
use Rattle.hib_base.specs.Keys.{same_key}
use Rattle.hib_base.specs.Tables.{first_on, last_on, row_left}
use Rattle.hib_journal.specs.Sessions.{Journal, time_in, floor_in, changes_in, changes_after, is_begun, begun_after}
use Rattle.hib_journal.specs.Held.{Arrival, arrival, held, next_version}
use Rattle.hib_journal.specs.Plan.{Block, one}
use Rattle.hib_journal.specs.Next.{strategy, is_cached, mode_reads, mode_puts, is_in, may_read, may_put, put_loaded, load, load_unless_hit, get, find_away, find, lock_id}
use Rattle.hib_journal.specs.Coherence.{takes, gives_back, done_in, done_after}
use Rattle.hib_base.proofs.Tables.{same_key_eq}
use Rattle.hib_law.proofs.Commits.{AreSteps}
use Rattle.hib_journal.proofs.Plans.{Runs, runs_if}
use Rattle.hib_law.proofs.Walks
use Rattle.hib_law.proofs.Walks.{Keeps, goes_act, runs_test, not_in_test}
use Rattle.hib_law.proofs.HeldRows.{HasRead}
use Rattle.hib_law.proofs.Pending.{IsFair}

-- whether one session's entries hold a lock on k
abbrev pub holds_after : Key → Act → Bool → Bool
holds_after k a x = cond (takes k a) true (cond (gives_back k a) false x)

abbrev pub holds : Key → Journal → Bool
holds k [] = false
holds k (e ∷ m) = holds_after k e.act (holds k m)

-- ready to commit: if the first change on k is no insert, the lock is held and versions go up by one
abbrev pub IsReadyIn : Key → Journal → Option Change → Type 0
IsReadyIn k m None = Unit {0}
IsReadyIn k m (Some (Change.Insert j r)) = Unit {0}
IsReadyIn k m (Some c) = AreSteps k (changes_in m) × (holds k m ≡ true)

-- in a transaction that has not ended its work
pub record IsWorking (k : Key) (m : Journal) : Type 0 where
  pub begun : is_begun m ≡ true
  pub fair : IsFair k m
  pub undone : done_in m ≡ false
  pub ready : IsReadyIn k m (first_on k (changes_in m))

-- what a change must meet to be written: an insert of k comes first on k; another change of k goes up by one and, if it
-- comes first, under the lock
abbrev pub IsNoUpdate : Option Change → Type 0
IsNoUpdate None = Unit {0}
IsNoUpdate (Some (Change.Insert j r)) = Unit {0}
IsNoUpdate (Some c) = ⊥

abbrev pub MayWrite : Key → Journal → Change → Type 0
MayWrite k m (Change.Insert j r) = same_key j k ≡ true → IsNoUpdate (first_on k (changes_in m))
MayWrite k m (Change.Update j v r) = same_key j k ≡ true → (r.version ≡ next_version v) × (first_on k (changes_in m) ≡ None → holds k m ≡ true)
MayWrite k m (Change.Delete j v) = same_key j k ≡ true → first_on k (changes_in m) ≡ None → holds k m ≡ true

abbrev pub Allowed : Script → Key → Journal → Act → Type 0
Allowed script k m (Act.Get j t) = same_key j k ≡ true → is_in k (changes_in m) ≡ false
Allowed script k m (Act.Put j r t f) = same_key j k ≡ true →
    HasRead k r m × (t ≡ time_in m) × (f ≡ floor_in m) × (is_begun m ≡ true) × (is_in k (changes_in m) ≡ false)
Allowed script k m (Act.Lock j v f) = same_key j k ≡ true →
    (done_in m ≡ false) × (f ≡ floor_in m) × (is_begun m ≡ true) × ((v ≡ None) ⊎ ((b : Row) × HasRead k b m × (b.version ≡ v)))
    × (is_in k (changes_in m) ≡ false) × (holds k m ≡ false)
Allowed script k m (Act.Unlock j i) = same_key j k ≡ true → (holds k m ≡ true) × (is_begun m ≡ true) × (i ≡ lock_id k m)
Allowed script k m (Act.AfterUpdate j i r) = same_key j k ≡ true →
    (holds k m ≡ true) × (done_in m ≡ true) × (option_and_then row_left (last_on k (changes_in m)) ≡ Some r) × (is_begun m ≡ true) × (i ≡ lock_id k m)
Allowed script k m (Act.AfterInsert j r f) = same_key j k ≡ true →
    (done_in m ≡ true) × (option_and_then row_left (last_on k (changes_in m)) ≡ Some r) × (f ≡ floor_in m) × (is_begun m ≡ true)
Allowed script k m Act.Commit = (done_in m ≡ false) × IsReadyIn k m (first_on k (changes_in m)) × (is_begun m ≡ true)
Allowed script k m (Act.Write c) = (done_in m ≡ false) × MayWrite k m c
Allowed script k m Act.Begin = holds k m ≡ false
Allowed script k m (Act.RegionRemove j) = strategy script j.entity ≡ Strategy.ReadWrite → ⊥
Allowed script k m _ = Unit {0}

-- a new instance comes only if its key is not in the changes
abbrev pub Right : Key → Journal → Entry → Type 0
Right k m e = (j : Key) (r : Row) → arrival e.act e.reply ≡ Some (Arrival.Made j r) → same_key j k ≡ true → is_in k (changes_in m) ≡ false

-- acts that change neither the changes nor the locks nor the transaction
abbrev pub is_plain : Act → Bool
is_plain Act.Begin = false
is_plain Act.End = false
is_plain (Act.Write c) = false
is_plain (Act.Lock k v f) = false
is_plain (Act.Unlock k i) = false
is_plain (Act.AfterUpdate k i r) = false
is_plain Act.Commit = false
is_plain _ = true

plain_changes : (a : Act) (cs : List Change) → is_plain a ≡ true → changes_after a cs ≡ cs
plain_changes Act.Begin cs p = absurd (false≢true p)
plain_changes (Act.Write c) cs p = absurd (false≢true p)
plain_changes _ cs p = refl

plain_done : (a : Act) (r : Reply) (d : Bool) → is_plain a ≡ true → done_after a r d ≡ d
plain_done Act.Begin r d p = absurd (false≢true p)
plain_done Act.Commit r d p = absurd (false≢true p)
plain_done _ r d p = refl

plain_begun : (a : Act) (d : Bool) → is_plain a ≡ true → begun_after a d ≡ d
plain_begun Act.Begin d p = absurd (false≢true p)
plain_begun Act.End d p = absurd (false≢true p)
plain_begun _ d p = refl

plain_holds : (k : Key) (a : Act) (x : Bool) → is_plain a ≡ true → holds_after k a x ≡ x
plain_holds k (Act.Lock j v f) x p = absurd (false≢true p)
plain_holds k (Act.Unlock j i) x p = absurd (false≢true p)
plain_holds k (Act.AfterUpdate j i r) x p = absurd (false≢true p)
plain_holds k _ x p = refl

pub ready_same : (k : Key) (m n : Journal) (c : Option Change) → changes_in n ≡ changes_in m → holds k n ≡ holds k m → IsReadyIn k m c → IsReadyIn k n c
ready_same k m n None p q h = tt
ready_same k m n (Some (Change.Insert j r)) p q h = tt
ready_same k m n (Some (Change.Update j v r)) p q h = (rw p h.0, q ∙ h.1)
ready_same k m n (Some (Change.Delete j v)) p q h = (rw p h.0, q ∙ h.1)

pub working_plain : (k : Key) (m : Journal) (e : Entry) → IsWorking k m → is_plain e.act ≡ true → Right k m e → IsWorking k (e ∷ m)
working_plain k m e w p r =
    let c : changes_in (e ∷ m) ≡ changes_in m = plain_changes e.act (changes_in m) p in
    let g : holds k (e ∷ m) ≡ holds k m = plain_holds k e.act (holds k m) p in
    record {
      begun = plain_begun e.act (is_begun m) p ∙ w.begun;
      fair = (r, w.fair);
      undone = plain_done e.act e.reply (done_in m) p ∙ w.undone;
      ready = subst (λ cs. IsReadyIn k (e ∷ m) (first_on k cs)) (sym c) (ready_same k m (e ∷ m) (first_on k (changes_in m)) c g w.ready);
    }

-- no lock is held before the first change on k, nor if that is an insert
abbrev pub IsFreeIn : Key → Journal → Option Change → Type 0
IsFreeIn k m None = holds k m ≡ false
IsFreeIn k m (Some (Change.Insert j r)) = holds k m ≡ false
IsFreeIn k m (Some c) = Unit {0}

pub free_same : (k : Key) (m n : Journal) (c : Option Change) → holds k n ≡ holds k m → IsFreeIn k m c → IsFreeIn k n c
free_same k m n None q h = q ∙ h
free_same k m n (Some (Change.Insert j r)) q h = q ∙ h
free_same k m n (Some (Change.Update j v r)) q h = tt
free_same k m n (Some (Change.Delete j v)) q h = tt

-- between two statements of a transaction
pub record IsSettled (k : Key) (m : Journal) : Type 0 where
  pub working : IsWorking k m
  pub free : IsFreeIn k m (first_on k (changes_in m))

pub settled_plain : (k : Key) (m : Journal) (e : Entry) → IsSettled k m → is_plain e.act ≡ true → Right k m e → IsSettled k (e ∷ m)
settled_plain k m e w p r =
    let c : changes_in (e ∷ m) ≡ changes_in m = plain_changes e.act (changes_in m) p in
    let g : holds k (e ∷ m) ≡ holds k m = plain_holds k e.act (holds k m) p in
    record {
      working = working_plain k m e w.working p r;
      free = subst (λ cs. IsFreeIn k (e ∷ m) (first_on k cs)) (sym c) (free_same k m (e ∷ m) (first_on k (changes_in m)) g w.free);
    }

module _ (script : Script) (k : Key) where
  abbrev pub Goes : Block → (Journal → Type 0) → (Journal → Type 0) → Type 0
  Goes = Walks.Goes (Allowed script k) (Right k)

  -- an act that is plain, and allowed whatever was done, keeps the session settled
  pub keeps_plain : (a : Act) → is_plain a ≡ true → ((m : Journal) → IsSettled k m → Allowed script k m a) → Keeps (Allowed script k) (Right k) (IsSettled k) a
  keeps_plain a p f m w = (f m w, λ e q r. settled_plain k m e w (rw q p) r)

  not_in_here : (j : Key) (m : Journal) → is_in j (changes_in m) ≡ false → same_key j k ≡ true → is_in k (changes_in m) ≡ false
  not_in_here j m e s = subst (λ y. is_in y (changes_in m) ≡ false) (same_key_eq j k s) e

  module _ (mode : Mode) (j : Key) where
    goes_put : (m : Journal) (e : Entry) → IsSettled k (e ∷ m) → e.act ≡ Act.Load j → (r : Reply) → e.reply ≡ r →
        Runs (Allowed script k) (Right k) (put_loaded script mode j r) (e ∷ m) (IsSettled k)
    goes_put m e w p (Reply.Row (Some x)) q =
        runs_test (Allowed script k) (Right k) (may_put script mode j (e ∷ m)) (one (Act.Put j x (time_in (e ∷ m)) (floor_in (e ∷ m)))) (λ d n. n d) (e ∷ m) (IsSettled k)
        (λ t go g. (λ s. (read s, refl, refl, w.working.begun, free t s), λ d u r. g (d ∷ e ∷ m) (settled_plain k (e ∷ m) d w (rw u refl) r)))
        (λ t go g. g (e ∷ m) w)
      where
        read : same_key j k ≡ true → HasRead k x (e ∷ m)
        read s = rw (p, q) (inl (ap (λ z. Some (Arrival.Read z x)) (same_key_eq j k s)))

        free : may_put script mode j (e ∷ m) ≡ true → same_key j k ≡ true → is_in k (changes_in (e ∷ m)) ≡ false
        free t = not_in_here j (e ∷ m) (not_in_test (is_cached script j.entity) (mode_puts mode) (is_in j (changes_in (e ∷ m))) t)
    goes_put m e w p (Reply.Row None) q = λ go g. g (e ∷ m) w
    goes_put m e w p _ q = λ go g. g (e ∷ m) w

    goes_load : Goes (load script mode j) (IsSettled k) (IsSettled k)
    goes_load m w go g = (tt, λ e p r. goes_put m e (settled_plain k m e w (rw p refl) r) p e.reply refl go g)

    goes_unless_hit : (r : Reply) → Goes (load_unless_hit script mode j r) (IsSettled k) (IsSettled k)
    goes_unless_hit (Reply.Hit x) m w = λ go g. g m w
    goes_unless_hit _ m w = goes_load m w

    -- a find is allowed all through
    pub goes_find : Goes (find script mode j) (IsSettled k) (IsSettled k)
    goes_find m w =
        runs_if (Allowed script k) (Right k) (is_some (held m j)) (one (Act.Find j)) (find_away script mode j) m (IsSettled k)
        (goes_act (Allowed script k) (Right k) (IsSettled k) (Act.Find j) (keeps_plain (Act.Find j) refl (λ n v. tt)) m w)
        (runs_test (Allowed script k) (Right k) (may_read script mode j m) (get script mode j) (load script mode j) m (IsSettled k)
        (λ t go g. (λ s. free t s, λ e p r. goes_unless_hit e.reply (e ∷ m) (settled_plain k m e w (rw p refl) r) go g))
        (λ t. goes_load m w))
      where
        free : may_read script mode j m ≡ true → same_key j k ≡ true → is_in k (changes_in m) ≡ false
        free t = not_in_here j m (not_in_test (is_cached script j.entity) (mode_reads mode) (is_in j (changes_in m)) t)
