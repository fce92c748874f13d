-- The engines stand for the entries with one more of a session.
use Rattle.std.proofs.Common.{◌≡◌, ℕ, ◌==◌, Bool, true, false, cond, List, ◌∷◌, length, Some, None, Option, refl, sym, ap, ◌∙◌, subst}
use Rattle.std.proofs.lemmas.Bool.{false≢true}
use Rattle.std.proofs.lemmas.Option.{none-some}
use Rattle.hib_base.specs.Tables.{Tables}
use Rattle.hib_journal.specs.Types.{Script, Part, Act, Reply}
use Rattle.hib_journal.specs.Sessions.{Journal, own, changes, same_part}
use Rattle.hib_journal.specs.Next.{strategy}
use Rattle.hib_journal.specs.Slot.{key_in}
use Rattle.hib_journal.specs.Legal.{part_of, fault_of}
use Rattle.hib_journal.specs.Lists.{entry_at, IsLate}
use Rattle.hib_session.specs.Session.{own_reply}
use Rattle.hib_session.proofs.OwnReplies.{own_is, begins_only}
use Rattle.hib_engines.specs.declared.region.Region.{Region}
use Rattle.hib_engines.specs.Registry.{IsRegistry, own_after}
use Rattle.hib_engines.specs.Region.{is_regional, entity_in, acts_on, IsPlaced, Suits}
use Rattle.hib_engines.specs.Laws.{Laws}
use Rattle.hib_engines.specs.Served.{is_for, IsServed, HasQuery}
use Rattle.hib_engines.specs.Stamps.{AreStamps}
use Rattle.hib_engines.specs.Results.{AreResults}
use Rattle.hib_engines.specs.Store.{IsStored, IsStoreServed}
use Rattle.hib_engines.proofs.RegionServed.{named}
use Rattle.hib_engines.proofs.OwnActs.{is_own, IsOwnAct, own_act, registry_own}
use Rattle.hib_engines.proofs.StampsServed.{stamps_stay}
use Rattle.hib_engines.proofs.ResultsServed.{results_stay}
use Rattle.hib_engines.proofs.Stored.{store_stays}
use Rattle.hib_engines.proofs.Elsewhere.{registry_kept, region_kept}
use Rattle.hib_engines.specs.Regions.{region_of, IsAtRegion}
use Rattle.hib_engines.specs.Engines.{EnginesState, AreStanding, IsReady, IsAnswered}
use Rattle.hib_engines.proofs.Bridge.{bridged_own, inside_stops, not_outside}
use Rattle.hib_engines.proofs.Replies.{reply_any, reply_stored, reply_fault}
use Rattle.hib_engines.proofs.RegionList.{no_region, of_region, regions_at}

-- the engines that an entry of a session isn't of stand for the journal with it
pub record AreKept (script : Script) (told : Option Tables) (h : Journal) (s now : ℕ) (a : Act) (r : Reply) (x : EnginesState) : Type 0 where
  pub store : is_for Part.Store a s ≡ false → IsStored told (entry_at now (Some s) a r ∷ h) x.store
  pub registry : is_for Part.Registry a s ≡ false → IsRegistry x.registry (entry_at now (Some s) a r ∷ h)
  pub stamps : is_for Part.Stamps a s ≡ false → AreStamps script (entry_at now (Some s) a r ∷ h) x.stamps
  pub regions : (n : ℕ) → (is_regional a ≡ true → (acts_on a == n) ≡ false) → IsPlaced script n (entry_at now (Some s) a r ∷ h) (region_of x.regions n)
  pub results : is_for Part.Results a s ≡ false → AreResults script (entry_at now (Some s) a r ∷ h) x.results

kept : Laws → (script : Script) (told : Option Tables) (h : Journal) (s now : ℕ) (a : Act) (r : Reply) (x : EnginesState) → IsReady script told h s now a x → AreKept script told h s now a r x
kept l script told h s now a r x k = record {
  store = λ p. store_stays told h (Some s) now a r x.store k.standing.store p (inside_stops a k.due.inside);
  registry = λ p. registry_kept h (Some s) now a r x.registry k.standing.registry p;
  stamps = λ p. stamps_stay l script h (Some s) now a r x.stamps k.standing.stamps p (not_outside a k.due.inside);
  regions = λ n d. region_kept l script h n (Some s) now a r (region_of x.regions n) (k.standing.regions n) d (not_outside a k.due.inside);
  results = λ p. results_stay l script h (Some s) now a r x.results k.standing.results p (not_outside a k.due.inside);
}

regions_kept : (script : Script) (told : Option Tables) (h : Journal) (s now : ℕ) (a : Act) (r : Reply) (x : EnginesState) (ys : List Region) → AreKept script told h s now a r x → (is_regional a ≡ true → ⊥) → ys ≡ x.regions →
    (n : ℕ) → IsPlaced script n (entry_at now (Some s) a r ∷ h) (region_of ys n)
regions_kept script told h s now a r x ys w f e n = subst (λ zs. IsPlaced script n (entry_at now (Some s) a r ∷ h) (region_of zs n)) (sym e) (w.regions n (λ t. absurd (f t)))

-- ---- the engines' answers

stored_standing : Laws → (script : Script) (told : Option Tables) (h : Journal) (s now : ℕ) (a : Act) (r : Reply) (x y : EnginesState) → IsReady script told h s now a x → part_of a s ≡ Part.Store →
    IsStored told (entry_at now (Some s) a r ∷ h) y.store → y.registry ≡ x.registry → y.stamps ≡ x.stamps → y.regions ≡ x.regions → y.results ≡ x.results → AreStanding script told (entry_at now (Some s) a r ∷ h) y
stored_standing l script told h s now a r x y k p v b c d e = record {
  store = v;
  bridged = bridged_own script h s now a r k.standing.bridged k.live k.due;
  registry = subst (λ z. IsRegistry z (entry_at now (Some s) a r ∷ h)) (sym b) (w.registry (ap (same_part Part.Registry) p));
  stamps = subst (λ z. AreStamps script (entry_at now (Some s) a r ∷ h) z) (sym c) (w.stamps (ap (same_part Part.Stamps) p));
  regions = regions_kept script told h s now a r x y.regions w (no_region a s Part.Store p (λ n. refl)) d;
  entities = ap length d ∙ k.standing.entities;
  results = subst (λ z. AreResults script (entry_at now (Some s) a r ∷ h) z) (sym e) (w.results (ap (same_part Part.Results) p));
}
  where
    w : AreKept script told h s now a r x
    w = kept l script told h s now a r x k

pub store_answered : Laws → (script : Script) (told : Option Tables) (h : Journal) (s now : ℕ) (a : Act) (r : Reply) (x y : EnginesState) → IsReady script told h s now a x → part_of a s ≡ Part.Store →
    IsStoreServed script told h now s a r y.store → y.registry ≡ x.registry → y.stamps ≡ x.stamps → y.regions ≡ x.regions → y.results ≡ x.results → IsAnswered script told h (Some s) now a r y
store_answered l script told h s now a r x y k p v b c d e = record {
  reply = reply_stored script told h s now a r k.standing.bridged k.live k.due.stored (ap (same_part Part.Store) p) v.reply;
  standing = stored_standing l script told h s now a r x y k p v.stands b c d e;
}

pub registry_answered : Laws → (script : Script) (told : Option Tables) (h : Journal) (s now : ℕ) (a : Act) (r : Reply) (x y : EnginesState) → IsReady script told h s now a x → part_of a s ≡ Part.Registry →
    own_reply script (own s h) a ≡ None → (IsRegistry x.registry h → IsLate Part.Registry now h → a ≡ Act.Begin → IsServed (λ m. IsRegistry y.registry m) script h (Some s) now a r) →
    y.store ≡ x.store → y.stamps ≡ x.stamps → y.regions ≡ x.regions → y.results ≡ x.results → IsAnswered script told h (Some s) now a r y
registry_answered l script told h s now a r x y k p o served b c d e = record {
  reply = reply_any script told h (Some s) now a r v.reply (ap (same_part Part.Store) p);
  standing = record {
    store = subst (λ z. IsStored told (entry_at now (Some s) a r ∷ h) z) (sym b) (w.store (ap (same_part Part.Store) p));
    bridged = bridged_own script h s now a r k.standing.bridged k.live k.due;
    registry = v.stands;
    stamps = subst (λ z. AreStamps script (entry_at now (Some s) a r ∷ h) z) (sym c) (w.stamps (ap (same_part Part.Stamps) p));
    regions = regions_kept script told h s now a r x y.regions w (no_region a s Part.Registry p (λ n. refl)) d;
    entities = ap length d ∙ k.standing.entities;
    results = subst (λ z. AreResults script (entry_at now (Some s) a r ∷ h) z) (sym e) (w.results (ap (same_part Part.Results) p));
  };
}
  where
    w : AreKept script told h s now a r x
    w = kept l script told h s now a r x k

    begins : a ≡ Act.Begin
    begins = begins_only script (own s h) a s (ap (same_part Part.Registry) p) o k.due.inside

    v : IsServed (λ m. IsRegistry y.registry m) script h (Some s) now a r
    v = served k.standing.registry (subst (λ q. IsLate q now h) p k.late) begins

pub stamps_answered : Laws → (script : Script) (told : Option Tables) (h : Journal) (s now : ℕ) (a : Act) (r : Reply) (x y : EnginesState) → IsReady script told h s now a x → part_of a s ≡ Part.Stamps →
    (AreStamps script h x.stamps → is_for Part.Stamps a s ≡ true → IsServed (λ m. AreStamps script m y.stamps) script h (Some s) now a r) →
    y.store ≡ x.store → y.registry ≡ x.registry → y.regions ≡ x.regions → y.results ≡ x.results → IsAnswered script told h (Some s) now a r y
stamps_answered l script told h s now a r x y k p served b c d e = record {
  reply = reply_any script told h (Some s) now a r v.reply (ap (same_part Part.Store) p);
  standing = record {
    store = subst (λ z. IsStored told (entry_at now (Some s) a r ∷ h) z) (sym b) (w.store (ap (same_part Part.Store) p));
    bridged = bridged_own script h s now a r k.standing.bridged k.live k.due;
    registry = subst (λ z. IsRegistry z (entry_at now (Some s) a r ∷ h)) (sym c) (w.registry (ap (same_part Part.Registry) p));
    stamps = v.stands;
    regions = regions_kept script told h s now a r x y.regions w (no_region a s Part.Stamps p (λ n. refl)) d;
    entities = ap length d ∙ k.standing.entities;
    results = subst (λ z. AreResults script (entry_at now (Some s) a r ∷ h) z) (sym e) (w.results (ap (same_part Part.Results) p));
  };
}
  where
    w : AreKept script told h s now a r x
    w = kept l script told h s now a r x k

    v : IsServed (λ m. AreStamps script m y.stamps) script h (Some s) now a r
    v = served k.standing.stamps (ap (same_part Part.Stamps) p)

pub results_answered : Laws → (script : Script) (told : Option Tables) (h : Journal) (s now : ℕ) (a : Act) (r : Reply) (x y : EnginesState) → IsReady script told h s now a x → part_of a s ≡ Part.Results →
    (AreResults script h x.results → is_for Part.Results a s ≡ true → HasQuery script a → IsServed (λ m. AreResults script m y.results) script h (Some s) now a r) →
    y.store ≡ x.store → y.registry ≡ x.registry → y.stamps ≡ x.stamps → y.regions ≡ x.regions → IsAnswered script told h (Some s) now a r y
results_answered l script told h s now a r x y k p served b c d e = record {
  reply = reply_any script told h (Some s) now a r v.reply (ap (same_part Part.Store) p);
  standing = record {
    store = subst (λ z. IsStored told (entry_at now (Some s) a r ∷ h) z) (sym b) (w.store (ap (same_part Part.Store) p));
    bridged = bridged_own script h s now a r k.standing.bridged k.live k.due;
    registry = subst (λ z. IsRegistry z (entry_at now (Some s) a r ∷ h)) (sym c) (w.registry (ap (same_part Part.Registry) p));
    stamps = subst (λ z. AreStamps script (entry_at now (Some s) a r ∷ h) z) (sym d) (w.stamps (ap (same_part Part.Stamps) p));
    regions = regions_kept script told h s now a r x y.regions w (no_region a s Part.Results p (λ n. refl)) e;
    entities = ap length e ∙ k.standing.entities;
    results = v.stands;
  };
}
  where
    w : AreKept script told h s now a r x
    w = kept l script told h s now a r x k

    v : IsServed (λ m. AreResults script m y.results) script h (Some s) now a r
    v = served k.standing.results (ap (same_part Part.Results) p) k.due.query

pub region_answered : Laws → (script : Script) (told : Option Tables) (h : Journal) (s now n : ℕ) (a : Act) (r : Reply) (x y : EnginesState) → IsReady script told h s now a x → part_of a s ≡ Part.Region n →
    (IsPlaced script n h (region_of x.regions n) → IsLate (Part.Region n) now h → entity_in a ≡ Some n → Suits (strategy script n) a →
    IsServed (λ m. IsPlaced script n m (region_of y.regions n)) script h (Some s) now a r) → IsAtRegion n x.regions y.regions →
    y.store ≡ x.store → y.registry ≡ x.registry → y.stamps ≡ x.stamps → y.results ≡ x.results → IsAnswered script told h (Some s) now a r y
region_answered l script told h s now n a r x y k p served at b c d e = record {
  reply = reply_any script told h (Some s) now a r v.reply (ap (same_part Part.Store) p);
  standing = record {
    store = subst (λ z. IsStored told (entry_at now (Some s) a r ∷ h) z) (sym b) (w.store (ap (same_part Part.Store) p));
    bridged = bridged_own script h s now a r k.standing.bridged k.live k.due;
    registry = subst (λ z. IsRegistry z (entry_at now (Some s) a r ∷ h)) (sym c) (w.registry (ap (same_part Part.Registry) p));
    stamps = subst (λ z. AreStamps script (entry_at now (Some s) a r ∷ h) z) (sym d) (w.stamps (ap (same_part Part.Stamps) p));
    regions = regions_at script (entry_at now (Some s) a r ∷ h) n x.regions y.regions at v.stands (λ i q. w.regions i (λ t. ap (λ j. j == i) here.1 ∙ q));
    entities = at.all ∙ k.standing.entities;
    results = subst (λ z. AreResults script (entry_at now (Some s) a r ∷ h) z) (sym e) (w.results (ap (same_part Part.Results) p));
  };
}
  where
    w : AreKept script told h s now a r x
    w = kept l script told h s now a r x k

    key : entity_in a ≡ Some n
    key = of_region a s n p

    here : (is_regional a ≡ true) × (acts_on a ≡ n)
    here = named (key_in a) n key

    v : IsServed (λ m. IsPlaced script n m (region_of y.regions n)) script h (Some s) now a r
    v = served (k.standing.regions n) (subst (λ q. IsLate q now h) p k.late) key (subst (λ i. Suits (strategy script i) a) here.1 k.due.suits)

-- ---- a session's own answers

pub own_has : (script : Script) (mine : Journal) (a : Act) (r : Reply) → own_reply script mine a ≡ Some r → is_own a ≡ true
own_has script mine Act.End r p = refl
own_has script mine (Act.Find k) r p = refl
own_has script mine (Act.Persist k x) r p = refl
own_has script mine (Act.Set k cells) r p = refl
own_has script mine (Act.Remove k) r p = refl
own_has script mine Act.Clear r p = refl
own_has script mine _ r p = absurd (none-some r p)

pub own_answered : Laws → (script : Script) (told : Option Tables) (h : Journal) (s now : ℕ) (a : Act) (r : Reply) (x y : EnginesState) → IsReady script told h s now a x →
    own_reply script (own s h) a ≡ Some r → y ≡ record x { registry = own_after s a x.registry } → IsAnswered script told h (Some s) now a r y
own_answered l script told h s now a r x y k p q = subst (λ v. IsAnswered script told h (Some s) now a r v) (sym q) (record {
  reply = reply_any script told h (Some s) now a r (own_is script h s now a r p) w.store;
  standing = record {
    store = v.store w.store;
    bridged = bridged_own script h s now a r k.standing.bridged k.live k.due;
    registry = registry_own h s now a r x.registry o k.standing.registry k.late;
    stamps = v.stamps w.stamps;
    regions = λ n. v.regions n (λ t. absurd (w.region t));
    entities = k.standing.entities;
    results = v.results w.results;
  };
})
  where
    o : is_own a ≡ true
    o = own_has script (own s h) a r p

    w : IsOwnAct a s
    w = own_act a s o

    v : AreKept script told h s now a r x
    v = kept l script told h s now a r x k

-- ---- a fault

-- the acts that may be answered by a fault
abbrev is_failing : Act → Bool
is_failing (Act.Load k) = true
is_failing (Act.List q) = true
is_failing _ = false

-- a load and a list that failed leave the store as it is
failed_stored : (told : Option Tables) (h : Journal) (s now : ℕ) (a : Act) (r : Reply) (x : EnginesState) → is_failing a ≡ true → IsStored told h x.store → IsStored told (entry_at now (Some s) a r ∷ h) x.store
failed_stored told h s now (Act.Load k) r x p w = record { rows = w.rows; changes = λ n. w.changes n ∙ same (s == n) (Rattle.hib_journal.specs.Lists.unsaved n h) }
  where
    same : (b : Bool) (cs : List Rattle.hib_journal.specs.Types.Change) → cs ≡ cond b cs cs
    same true cs = refl
    same false cs = refl
failed_stored told h s now (Act.List q) r x p w = record { rows = w.rows; changes = λ n. w.changes n ∙ same (s == n) (Rattle.hib_journal.specs.Lists.unsaved n h) }
  where
    same : (b : Bool) (cs : List Rattle.hib_journal.specs.Types.Change) → cs ≡ cond b cs cs
    same true cs = refl
    same false cs = refl
failed_stored told h s now _ r x p w = absurd (false≢true p)

failing_store : (a : Act) (s : ℕ) → is_failing a ≡ true → part_of a s ≡ Part.Store
failing_store (Act.Load k) s p = refl
failing_store (Act.List q) s p = refl
failing_store _ s p = absurd (false≢true p)

failing_or : (h : Journal) (s : ℕ) (a : Act) (r : Reply) → fault_of (changes s h) a ≡ Some r → (a ≡ Act.Commit → ⊥) → is_failing a ≡ true
failing_or h s (Act.Load k) r f n = refl
failing_or h s (Act.List q) r f n = refl
failing_or h s Act.Commit r f n = absurd (n refl)
failing_or h s _ r f n = absurd (none-some r f)

pub failed_still : Laws → (script : Script) (told : Option Tables) (h : Journal) (s now : ℕ) (a : Act) (r : Reply) (x : EnginesState) → IsReady script told h s now a x → fault_of (changes s h) a ≡ Some r →
    (a ≡ Act.Commit → ⊥) → IsAnswered script told h (Some s) now a r x
failed_still l script told h s now a r x k f n = record {
  reply = reply_fault script told h s now a r f;
  standing = let p : is_failing a ≡ true = failing_or h s a r f n in
      stored_standing l script told h s now a r x x k (failing_store a s p) (failed_stored told h s now a r x p k.standing.store) refl refl refl refl;
}

-- a list that is due leaves the engines as they are, whatever it is answered
pub list_left : Laws → (script : Script) (told : Option Tables) (h : Journal) (s now q : ℕ) (r : Reply) (x : EnginesState) → IsReady script told h s now (Act.List q) x →
    AreStanding script told (entry_at now (Some s) (Act.List q) r ∷ h) x
list_left l script told h s now q r x k =
    stored_standing l script told h s now (Act.List q) r x x k refl (failed_stored told h s now (Act.List q) r x refl k.standing.store) refl refl refl refl

-- a commit that failed leaves what a kill does
commit_fault : (b : Bool) (f r : Reply) → cond b None (Some f) ≡ Some r → r ≡ f
commit_fault true f r p = absurd (none-some r p)
commit_fault false f r p = same p
  where
    same : ◌≡◌ {A = Option Reply} (Some f) (Some r) → r ≡ f
    same e = cc

pub failed_commit : Laws → (script : Script) (told : Option Tables) (h : Journal) (s now : ℕ) (a : Act) (r q : Reply) (x y : EnginesState) → IsReady script told h s now a x → fault_of (changes s h) a ≡ Some r →
    a ≡ Act.Commit → IsStored told (entry_at now None (Act.Kill s) q ∷ h) y.store → y.registry ≡ x.registry → y.stamps ≡ x.stamps → y.regions ≡ x.regions → y.results ≡ x.results →
    IsAnswered script told h (Some s) now a r y
failed_commit l script told h s now a r q x y k f c v b d e g = record {
  reply = reply_fault script told h s now a r f;
  standing = let is : r ≡ Reply.Commit Rattle.hib_journal.specs.Types.Commit.Fault = commit_fault _ _ r (subst (λ o. fault_of (changes s h) o ≡ Some r) c f) in
      stored_standing l script told h s now a r x y k (ap (λ o. part_of o s) c)
      (subst (λ o. IsStored told (entry_at now (Some s) o r ∷ h) y.store) (sym c) (subst (λ t. IsStored told (entry_at now (Some s) Act.Commit t ∷ h) y.store) (sym is) (record { rows = v.rows; changes = v.changes })))
      b d e g;
}
