-- A write of a flush, as one read-write key sees it.
use Rattle.std.specs.Prelude.{option_and_then}
use Rattle.std.proofs.Common.{◌≡◌, ℕ, ◌⊎◌, inl, inr, Bool, true, false, cond, List, [], ◌∷◌, ◌++◌, Some, None, Option, refl, ap, sym, ◌∙◌, subst}
use Rattle.std.proofs.lemmas.Bool.{true≢false, false≢true, or_parts}
use Rattle.hib_journal.specs.Types.{State, Key, Row, Change, Act, Entry}
use Rattle.hib_base.specs.Keys.{same_key}
use Rattle.hib_base.specs.Tables.{key_of, first_on}
use Rattle.hib_journal.specs.Sessions.{Journal, floor_in, changes_in}
use Rattle.hib_journal.specs.Held.{Arrival, is_begin, held, stay, Stay, base_of, has_left, instance_of, state_of, Instance}
use Rattle.hib_journal.specs.Next.{is_in}
use Rattle.hib_base.proofs.Tables.{Tested, tested, same_key_eq}
use Rattle.hib_law.proofs.Commits.{AreSteps, IsStep}
use Rattle.hib_law.proofs.HeldRows.{HasRead, reads_on}
use Rattle.hib_law.proofs.Pending.{PendingBy}
use Rattle.hib_law.proofs.Working.{IsWorking, IsReadyIn, IsFreeIn, IsNoUpdate, MayWrite, free_same, Right, holds, holds_after}
use Rattle.hib_journal.proofs.Words.{is_removed}
use Rattle.hib_law.proofs.Basics.{none_some, some_same}

-- one more change at the end of a list

pub first_append_other : (k : Key) (cs : List Change) (c : Change) → same_key (key_of c) k ≡ false → first_on k (cs ++ c ∷ []) ≡ first_on k cs
first_append_other k [] c p = rw p
first_append_other k (d ∷ cs) c p = by_key (tested (same_key (key_of d) k)) (first_append_other k cs c p)
  where
    by_key : Tested (same_key (key_of d) k) → first_on k (cs ++ c ∷ []) ≡ first_on k cs → first_on k (d ∷ cs ++ c ∷ []) ≡ first_on k (d ∷ cs)
    by_key (inl q) i = rw q
    by_key (inr q) i = rw q i

pub first_append_some : (k : Key) (cs : List Change) (c d : Change) → first_on k cs ≡ Some d → first_on k (cs ++ c ∷ []) ≡ Some d
first_append_some k [] c d p = none_some p
first_append_some k (x ∷ cs) c d p = by_key (tested (same_key (key_of x) k)) p (first_append_some k cs c d)
  where
    by_key : Tested (same_key (key_of x) k) → first_on k (x ∷ cs) ≡ Some d → (first_on k cs ≡ Some d → first_on k (cs ++ c ∷ []) ≡ Some d) →
        first_on k (x ∷ cs ++ c ∷ []) ≡ Some d
    by_key (inl q) p i = let g : Some x ≡ Some d = rw q at p in rw q g
    by_key (inr q) p i = let g : first_on k cs ≡ Some d = rw q at p in rw q (i g)

pub first_append_none : (k : Key) (cs : List Change) (c : Change) → first_on k cs ≡ None → same_key (key_of c) k ≡ true → first_on k (cs ++ c ∷ []) ≡ Some c
first_append_none k [] c p s = rw s
first_append_none k (x ∷ cs) c p s = by_key (tested (same_key (key_of x) k)) p (first_append_none k cs c)
  where
    by_key : Tested (same_key (key_of x) k) → first_on k (x ∷ cs) ≡ None → (first_on k cs ≡ None → same_key (key_of c) k ≡ true → first_on k (cs ++ c ∷ []) ≡ Some c) →
        first_on k (x ∷ cs ++ c ∷ []) ≡ Some c
    by_key (inl q) p i = let g : Some x ≡ None = rw q at p in none_some (sym g)
    by_key (inr q) p i = let g : first_on k cs ≡ None = rw q at p in rw q (i g s)

pub steps_append : (k : Key) (cs : List Change) (c : Change) → AreSteps k cs → IsStep k c → AreSteps k (cs ++ c ∷ [])
steps_append k [] c s t = (t, tt)
steps_append k (d ∷ cs) c s t = (s.0, steps_append k cs c s.1 t)

-- a list with no change of k steps
pub steps_none : (k : Key) (cs : List Change) → first_on k cs ≡ None → AreSteps k cs
steps_none k [] p = tt
steps_none k (d ∷ cs) p = by_key (tested (same_key (key_of d) k)) p (steps_none k cs)
  where
    other : (d : Change) → same_key (key_of d) k ≡ false → IsStep k d
    other (Change.Insert j r) q = q
    other (Change.Update j v r) q = λ x. absurd (true≢false (sym x ∙ q))
    other (Change.Delete j v) q = tt

    by_key : Tested (same_key (key_of d) k) → first_on k (d ∷ cs) ≡ None → (first_on k cs ≡ None → AreSteps k cs) → AreSteps k (d ∷ cs)
    by_key (inl q) p i = let g : Some d ≡ None = rw q at p in none_some (sym g)
    by_key (inr q) p i = let g : first_on k cs ≡ None = rw q at p in (other d q, i g)

-- after the write the session is ready still
ready_write : (k : Key) (m n : Journal) (c : Change) → changes_in n ≡ changes_in m ++ c ∷ [] → holds k n ≡ holds k m → MayWrite k m c →
    IsReadyIn k m (first_on k (changes_in m)) → IsReadyIn k n (first_on k (changes_in n))
ready_write k m n c p q w r = subst (λ cs. IsReadyIn k n (first_on k cs)) (sym p) (by_key (tested (same_key (key_of c) k)))
  where
    moved : (o : Option Change) → IsStep k c → IsReadyIn k m o → IsReadyIn k n o
    moved None s x = tt
    moved (Some (Change.Insert j y)) s x = tt
    moved (Some (Change.Update j v y)) s x = (subst (λ cs. AreSteps k cs) (sym p) (steps_append k (changes_in m) c x.0 s), q ∙ x.1)
    moved (Some (Change.Delete j v)) s x = (subst (λ cs. AreSteps k cs) (sym p) (steps_append k (changes_in m) c x.0 s), q ∙ x.1)

    other : (c : Change) → same_key (key_of c) k ≡ false → IsStep k c
    other (Change.Insert j y) s = s
    other (Change.Update j v y) s = λ x. absurd (true≢false (sym x ∙ s))
    other (Change.Delete j v) s = tt

    here : (d : Change) → c ≡ d → same_key (key_of d) k ≡ true → MayWrite k m d → (o : Option Change) → first_on k (changes_in m) ≡ o → IsReadyIn k m o →
        IsReadyIn k n (first_on k (changes_in m ++ d ∷ []))
    here (Change.Insert j y) e s w None u x = rw (first_append_none k (changes_in m) (Change.Insert j y) u s) tt
    here (Change.Insert j y) e s w (Some (Change.Insert i z)) u x = rw (first_append_some k (changes_in m) (Change.Insert j y) (Change.Insert i z) u) tt
    here (Change.Insert j y) e s w (Some (Change.Update i v z)) u x = let g : ⊥ = subst (λ o. IsNoUpdate o) u (w s) in absurd g
    here (Change.Insert j y) e s w (Some (Change.Delete i v)) u x = let g : ⊥ = subst (λ o. IsNoUpdate o) u (w s) in absurd g
    here (Change.Update j v y) e s w None u x =
        rw (first_append_none k (changes_in m) (Change.Update j v y) u s) (
          subst (λ cs. AreSteps k cs) (sym (p ∙ ap (λ z. changes_in m ++ z ∷ []) e))
              (steps_append k (changes_in m) (Change.Update j v y) (steps_none k (changes_in m) u) (λ a. (w s).0)),
          q ∙ (w s).1 u,
        )
    here (Change.Update j v y) e s w (Some d) u x =
        rw (first_append_some k (changes_in m) (Change.Update j v y) d u) (moved (Some d) (subst (λ z. IsStep k z) (sym e) (λ a. (w s).0)) x)
    here (Change.Delete j v) e s w None u x =
        rw (first_append_none k (changes_in m) (Change.Delete j v) u s) (
          subst (λ cs. AreSteps k cs) (sym (p ∙ ap (λ z. changes_in m ++ z ∷ []) e))
              (steps_append k (changes_in m) (Change.Delete j v) (steps_none k (changes_in m) u) tt),
          q ∙ w s u,
        )
    here (Change.Delete j v) e s w (Some d) u x =
        rw (first_append_some k (changes_in m) (Change.Delete j v) d u) (moved (Some d) (subst (λ z. IsStep k z) (sym e) tt) x)

    by_key : Tested (same_key (key_of c) k) → IsReadyIn k n (first_on k (changes_in m ++ c ∷ []))
    by_key (inl s) = here c refl s w (first_on k (changes_in m)) refl r
    by_key (inr s) = rw (first_append_other k (changes_in m) c s) (moved (first_on k (changes_in m)) (other c s) r)

pub working_write : (k : Key) (m : Journal) (e : Entry) (c : Change) → IsWorking k m → e.act ≡ Act.Write c → MayWrite k m c → Right k m e → IsWorking k (e ∷ m)
working_write k m e c w p a r =
    let q : changes_in (e ∷ m) ≡ changes_in m ++ c ∷ [] = rw p refl in
    let g : holds k (e ∷ m) ≡ holds k m = rw p refl in
    record {
      begun = rw p (w.begun);
      fair = (r, w.fair);
      undone = rw p (w.undone);
      ready = ready_write k m (e ∷ m) c q g a w.ready;
    }

lock_ready : (k : Key) (m n : Journal) (o : Option Change) → changes_in n ≡ changes_in m → (holds k n ≡ true) ⊎ (holds k n ≡ holds k m) → IsReadyIn k m o → IsReadyIn k n o
lock_ready k m n None p q r = tt
lock_ready k m n (Some (Change.Insert j x)) p q r = tt
lock_ready k m n (Some (Change.Update j v x)) p q r = (rw p r.0, elim q [ inl a ↦ a | inr a ↦ a ∙ r.1 ])
lock_ready k m n (Some (Change.Delete j v)) p q r = (rw p r.0, elim q [ inl a ↦ a | inr a ↦ a ∙ r.1 ])

lock_holds : (k j : Key) (v : Option ℕ) (f : ℕ) (x : Bool) → Tested (same_key j k) → (holds_after k (Act.Lock j v f) x ≡ true) ⊎ (holds_after k (Act.Lock j v f) x ≡ x)
lock_holds k j v f x (inl s) = inl (rw s refl)
lock_holds k j v f x (inr s) = inr (rw s refl)

pub working_lock : (k : Key) (m : Journal) (e : Entry) (j : Key) (v : Option ℕ) (f : ℕ) → IsWorking k m → e.act ≡ Act.Lock j v f → Right k m e → IsWorking k (e ∷ m)
working_lock k m e j v f w p r =
    let c : changes_in (e ∷ m) ≡ changes_in m = rw p refl in
    let g : (holds k (e ∷ m) ≡ true) ⊎ (holds k (e ∷ m) ≡ holds k m) = rw p (lock_holds k j v f (holds k m) (tested (same_key j k))) in
    record {
      begun = rw p (w.begun);
      fair = (r, w.fair);
      undone = rw p (w.undone);
      ready = subst (λ cs. IsReadyIn k (e ∷ m) (first_on k cs)) (sym c) (lock_ready k m (e ∷ m) (first_on k (changes_in m)) c g w.ready);
    }

pub not_in_first : (k : Key) (cs : List Change) → is_in k cs ≡ false → first_on k cs ≡ None
not_in_first k [] p = refl
not_in_first k (c ∷ cs) p =
    let q : (same_key (key_of c) k ≡ false) × (is_in k cs ≡ false) = or_parts (same_key (key_of c) k) (is_in k cs) p in
    rw q.0 (not_in_first k cs q.1)

pub in_first : (k : Key) (cs : List Change) → is_in k cs ≡ true → first_on k cs ≡ None → ⊥
in_first k [] p q = false≢true p
in_first k (c ∷ cs) p q = by_key (tested (same_key (key_of c) k)) p q (in_first k cs)
  where
    by_key : Tested (same_key (key_of c) k) → is_in k (c ∷ cs) ≡ true → first_on k (c ∷ cs) ≡ None → (is_in k cs ≡ true → first_on k cs ≡ None → ⊥) → ⊥
    by_key (inl s) p q i = let g : Some c ≡ None = rw s at q in none_some (sym g)
    by_key (inr s) p q i = i (rw s at p) (rw s at q)

append_some : (k : Key) (cs : List Change) (c : Change) → (first_on k cs ≡ None → ⊥) → first_on k (cs ++ c ∷ []) ≡ None → ⊥
append_some k cs c f p = by_first (first_on k cs) refl
  where
    by_first : (o : Option Change) → first_on k cs ≡ o → ⊥
    by_first None q = f q
    by_first (Some d) q = none_some (sym p ∙ first_append_some k cs c d q)

no_update_insert : (k : Key) (cs : List Change) (j : Key) (r : Row) → IsNoUpdate (first_on k cs) → IsNoUpdate (first_on k (cs ++ Change.Insert j r ∷ []))
no_update_insert k cs j r h = by_first (first_on k cs) refl h
  where
    none : Tested (same_key j k) → first_on k cs ≡ None → IsNoUpdate (first_on k (cs ++ Change.Insert j r ∷ []))
    none (inl s) q = rw (first_append_none k cs (Change.Insert j r) q s) tt
    none (inr s) q = rw (first_append_other k cs (Change.Insert j r) s, q) tt

    by_first : (o : Option Change) → first_on k cs ≡ o → IsNoUpdate o → IsNoUpdate (first_on k (cs ++ Change.Insert j r ∷ []))
    by_first None q h = none (tested (same_key j k)) q
    by_first (Some d) q h = rw (first_append_some k cs (Change.Insert j r) d q) h

no_update_other : (k : Key) (cs : List Change) (c : Change) → same_key (key_of c) k ≡ false → IsNoUpdate (first_on k cs) → IsNoUpdate (first_on k (cs ++ c ∷ []))
no_update_other k cs c s h = rw (first_append_other k cs c s) h

-- in the midst of a flush that began at start
pub record IsFlushing (k : Key) (start m : Journal) : Type 0 where
  pub working : IsWorking k m
  pub reads : (b : Row) → HasRead k b start → HasRead k b m
  pub floor : floor_in m ≡ floor_in start
  pub was : is_in k (changes_in start) ≡ true → first_on k (changes_in m) ≡ None → ⊥
  pub kind : (z : Instance) → held start k ≡ Some z → z.state ≡ State.New → IsNoUpdate (first_on k (changes_in m))

-- an entry of a flush that writes nothing
pub flushing_on : (k : Key) (start m : Journal) (e : Entry) → IsFlushing k start m → is_begin e.act ≡ false → changes_in (e ∷ m) ≡ changes_in m →
    floor_in (e ∷ m) ≡ floor_in m → IsWorking k (e ∷ m) → IsFlushing k start (e ∷ m)
flushing_on k start m e f b c g w = record {
  working = w;
  reads = λ r h. reads_on k r e m b (f.reads r h);
  floor = g ∙ f.floor;
  was = λ p q. f.was p (subst (λ cs. first_on k cs ≡ None) c q);
  kind = λ z p q. subst (λ cs. IsNoUpdate (first_on k cs)) (sym c) (f.kind z p q);
}

not_new : (z y : Instance) (s : State) (i : Option Instance) → i ≡ Some z → i ≡ Some y → z.state ≡ State.New → y.state ≡ s → State.New ≡ s
not_new z y s i p q a b = sym a ∙ (ap (λ x. x.state) (some_same (sym p ∙ q)) ∙ b)

pub flushing_write : (k : Key) (start m : Journal) (e : Entry) (c : Change) → IsFlushing k start m → e.act ≡ Act.Write c → MayWrite k m c → Right k m e →
    PendingBy (held start (key_of c)) c → IsFlushing k start (e ∷ m)
flushing_write k start m e c f p a r b =
    let q : changes_in (e ∷ m) ≡ changes_in m ++ c ∷ [] = rw p refl in
    record {
      working = working_write k m e c f.working p a r;
      reads = λ x h. reads_on k x e m (rw p refl) (f.reads x h);
      floor = rw p (f.floor);
      was = λ x y. append_some k (changes_in m) c (f.was x) (subst (λ cs. first_on k cs ≡ None) q y);
      kind = λ z x y. subst (λ cs. IsNoUpdate (first_on k cs)) (sym q) (by_change c (tested (same_key (key_of c) k)) b z x y);
    }
  where
    by_change : (c : Change) → Tested (same_key (key_of c) k) → PendingBy (held start (key_of c)) c → (z : Instance) → held start k ≡ Some z → z.state ≡ State.New →
        IsNoUpdate (first_on k (changes_in m ++ c ∷ []))
    by_change (Change.Insert j x) s b z u v = no_update_insert k (changes_in m) j x (f.kind z u v)
    by_change (Change.Update j w x) (inr s) b z u v = no_update_other k (changes_in m) (Change.Update j w x) s (f.kind z u v)
    by_change (Change.Delete j w) (inr s) b z u v = no_update_other k (changes_in m) (Change.Delete j w) s (f.kind z u v)
    by_change (Change.Update j w x) (inl s) b z u v =
        let g : held start k ≡ Some b.0 = subst (λ y. held start y ≡ Some b.0) (same_key_eq j k s) b.2 in
        let h : State.New ≡ State.Managed = not_new z b.0 State.Managed (held start k) u g v b.3 in absurd (cc)
    by_change (Change.Delete j w) (inl s) b z u v =
        let g : held start k ≡ Some b.0 = subst (λ y. held start y ≡ Some b.0) (same_key_eq j k s) b.2 in
        let h : State.New ≡ State.Removed = not_new z b.0 State.Removed (held start k) u g v b.3 in absurd (cc)

pub none_not_in : (k : Key) (cs : List Change) → first_on k cs ≡ None → is_in k cs ≡ false
none_not_in k cs p = by_test (tested (is_in k cs))
  where
    by_test : Tested (is_in k cs) → is_in k cs ≡ false
    by_test (inl x) = absurd (in_first k cs x p)
    by_test (inr x) = x

-- a write of an insert leaves the locks; so do the acts before another write, but for a lock of k before its first change
abbrev pub Kept : Key → Journal → Journal → Change → Type 0
Kept k m n (Change.Insert j r) = holds k n ≡ holds k m
Kept k m n c = (same_key (key_of c) k ≡ true → first_on k (changes_in m) ≡ None → ⊥) → holds k n ≡ holds k m

pub kept_on : (k : Key) (n m : Journal) (e : Entry) (c : Change) → e.act ≡ Act.Write c → Kept k n m c → Kept k n (e ∷ m) c
kept_on k n m e (Change.Insert j r) p g = rw p g
kept_on k n m e (Change.Update j v r) p g = λ x. rw p (g x)
kept_on k n m e (Change.Delete j v) p g = λ x. rw p (g x)

pub free_write : (k : Key) (m n : Journal) (c : Change) → IsFreeIn k m (first_on k (changes_in m)) → changes_in n ≡ changes_in m ++ c ∷ [] → Kept k m n c →
    IsFreeIn k n (first_on k (changes_in n))
free_write k m n c f q g = subst (λ cs. IsFreeIn k n (first_on k cs)) (sym q) (by_key (tested (same_key (key_of c) k)))
  where
    same : (c : Change) → Kept k m n c → (same_key (key_of c) k ≡ true → first_on k (changes_in m) ≡ None → ⊥) → holds k n ≡ holds k m
    same (Change.Insert j r) g x = g
    same (Change.Update j v r) g x = g x
    same (Change.Delete j v) g x = g x

    new : (c : Change) → Kept k m n c → holds k m ≡ false → IsFreeIn k n (Some c)
    new (Change.Insert j r) g x = g ∙ x
    new (Change.Update j v r) g x = tt
    new (Change.Delete j v) g x = tt

    here : same_key (key_of c) k ≡ true → (o : Option Change) → first_on k (changes_in m) ≡ o → IsFreeIn k m o → IsFreeIn k n (first_on k (changes_in m ++ c ∷ []))
    here s None u x = rw (first_append_none k (changes_in m) c u s) (new c g x)
    here s (Some d) u x = rw (first_append_some k (changes_in m) c d u) (free_same k m n (Some d) (same c g (λ a b. none_some (sym b ∙ u))) x)

    by_key : Tested (same_key (key_of c) k) → IsFreeIn k n (first_on k (changes_in m ++ c ∷ []))
    by_key (inl s) = here s (first_on k (changes_in m)) refl f
    by_key (inr s) = rw (first_append_other k (changes_in m) c s)
        (free_same k m n (first_on k (changes_in m)) (same c g (λ a b. true≢false (sym a ∙ s))) f)

-- what is held comes of a stay
pub held_stay : (k : Key) (m : Journal) (z : Instance) → held m k ≡ Some z →
    (a : Arrival) × (l : Journal) × (stay k m ≡ Some (a, l)) × (has_left k (a, l) ≡ false) × (base_of k (a, l) ≡ z.base) × (z.state ≡ State.New → z.base ≡ None)
unfolding held
held_stay k m z e = by_stay (stay k m) refl e
  where
    new_base : (o : Option Row) (x : Bool) → state_of o x ≡ State.New → o ≡ None
    new_base None x p = refl
    new_base (Some r) true p = absurd (cc)
    new_base (Some r) false p = absurd (cc)

    by_left : (a : Arrival) (l : Journal) (x : Bool) → has_left k (a, l) ≡ x → cond x None (Some (instance_of k (a, l))) ≡ Some z →
        (has_left k (a, l) ≡ false) × (base_of k (a, l) ≡ z.base) × (z.state ≡ State.New → z.base ≡ None)
    by_left a l true q e = none_some e
    by_left a l false q e =
        let g : instance_of k (a, l) ≡ z = some_same e in
        (q, ap (λ i. i.base) g, subst (λ i. i.state ≡ State.New → i.base ≡ None) g (new_base (base_of k (a, l)) (is_removed k l)))

    by_stay : (s : Option Stay) → stay k m ≡ s → option_and_then (λ s. cond (has_left k s) None (Some (instance_of k s))) (stay k m) ≡ Some z →
        (a : Arrival) × (l : Journal) × (stay k m ≡ Some (a, l)) × (has_left k (a, l) ≡ false) × (base_of k (a, l) ≡ z.base) × (z.state ≡ State.New → z.base ≡ None)
    by_stay None p e = let g : ◌≡◌ {A = Option Instance} None (Some z) = rw p at e in none_some g
    by_stay (Some (a, l)) p e =
        let g : cond (has_left k (a, l)) None (Some (instance_of k (a, l))) ≡ Some z = rw p at e in
        let h : (has_left k (a, l) ≡ false) × (base_of k (a, l) ≡ z.base) × (z.state ≡ State.New → z.base ≡ None) = by_left a l (has_left k (a, l)) refl g in
        (a, l, p, h.0, h.1, h.2)
