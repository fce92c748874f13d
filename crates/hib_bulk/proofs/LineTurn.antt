-- A turn of a line: what it asks of its region, and what it leaves of the journal, the parts and the line.
use Rattle.std.proofs.Common.{◌≡◌, inl, inr, ℕ, suc, ◌+◌, ◌-◌, ◌<◌, ◌≤◌, ◌^◌, ◌==◌, Bool, true, false, cond, ◌&&◌, ◌||◌, nat_lt, List, [], ◌∷◌, length, slice_get, Some, None, Option, refl, sym, ap, ◌∙◌, subst, arith, eq-eqb}
use Rattle.std.proofs.lemmas.Bool.{lt-ltb}
use Rattle.hib_base.specs.Tables.{Tables}
use Rattle.hib_journal.specs.Types.{Script, Part, Act}
use Rattle.hib_journal.specs.Sessions.{own, is_begun, deferred}
use Rattle.hib_journal.specs.Next.{is_cached}
use Rattle.hib_outside.specs.Causes.{Rose}
use Rattle.hib_engines.specs.Origin.{Origin}
use Rattle.hib_bulk.specs.Types.{BulkDef, BulkAct, BulkReply, BulkEntry}
use Rattle.hib_bulk_law.specs.Plain.{Bulked, plain}
use Rattle.hib_bulk_law.specs.Rows.{line}
use Rattle.hib_bulk_law.specs.Wide.{wide_holders, locks_all}
use Rattle.hib_bulk_law.specs.Acts.{next, acts_of, steps_of, part_of}
use Rattle.hib_bulk_law.specs.Legal.{IsReply, IsLegal, has_failed, fails}
use Rattle.hib_bulk_law.specs.Law.{AtEachEntry, IsGivenBack}
use Rattle.hib_bulk_law.proofs.Entries.{is_wide, plain_rests}
use Rattle.hib_bulk.specs.Changed.{is_fault}
use Rattle.hib_bulk.specs.Regions.{region_of, held_by}
use Rattle.hib_bulk.specs.Standing.{BulkPartsState, IsAnswered, entry_at}
use Rattle.hib_bulk.specs.Run.{IsRun, IsLine, IsLineTurn, LineMoves, is_under_way, entry_of}
use Rattle.hib_bulk.proofs.Going.{next_of, goes_on, late}
use Rattle.hib_bulk.proofs.Moved.{own_next, others_next}
use Rattle.hib_bulk.proofs.Lined.{LineCase, case_of, held_here}

pub turn_of_line : (said script : Script) (lines : List BulkDef) (from : Origin) (h : Bulked) (s : ℕ) (d : BulkDef) (m : ℕ) (b : Bool) (a : BulkAct) (x : BulkPartsState) → said ≡ script → IsRun script lines from h x →
    nat_lt s (length script.sessions) ≡ false → line script lines s ≡ Some d → Some a ≡ slice_get (acts_of said s d) m → IsLine script h s d m b → length h < 2 ^ 62 →
    IsLineTurn script lines from.tables h s d m b a x
turn_of_line said script lines from h s d m b a x q run k l p i f = record {
  legal = run.legal;
  standing = run.standing;
  late = late script lines from h x run;
  few = f;
  known = k;
  line = l;
  act = ap (λ (v : Script). slice_get (acts_of v s d) m) (sym q) ∙ sym p;
  stands = i;
}

pub entry_by : (h : Bulked) (s t : ℕ) (a : BulkAct) (r : BulkReply) (p : Part) → t ≡ length h + 1 → p ≡ part_of a s →
    ◌≡◌ {A = BulkEntry} (record { tick = t; session = s; part = p; act = a; reply = r }) (entry_of h s a r)
entry_by h s t a r p e q =
    let make : ℕ → Part → BulkEntry = λ t p. record { tick = t; session = s; part = p; act = a; reply = r } in ap (λ i. make i p) e ∙ ap (λ i. make (length h + 1) i) q

pub due_of_line : (script : Script) (lines : List BulkDef) (h : Bulked) (s : ℕ) (d : BulkDef) (m : ℕ) (b : Bool) → nat_lt s (length script.sessions) ≡ false → line script lines s ≡ Some d →
    IsLine script h s d m b → next script lines h s ≡ slice_get (acts_of script s d) m
due_of_line script lines h s d m b k l i = next_of script lines h s d k l ∙ ap (slice_get (acts_of script s d)) (sym i.steps)

-- ---- the locks

at_most_one : (b : Bool) → cond b 1 0 ≤ 1
at_most_one true = omega arith
at_most_one false = omega arith

wide_few : (n : ℕ) (h : Bulked) → wide_holders n h ≤ length h
wide_few n [] = omega arith
wide_few n (e ∷ h) = let i = wide_few n h in let b = at_most_one (locks_all n e.act) in omega (arith, i, b)

-- ---- how far a line has come

in_way : (c : Bool) (m : ℕ) → 0 < m → m < cond c 5 3 → is_under_way c m ≡ true
in_way c m p q = rw (lt-ltb 0 m p, lt-ltb m (cond c 5 3) q) refl

cached_way : (c : Bool) (m : ℕ) → c ≡ true → 0 < m → m < 4 → is_under_way c m ≡ is_under_way c (m + 1)
cached_way c m e p q = let i : ◌≡◌ {A = ℕ} (cond c 5 3) 5 = ap (λ z. cond z 5 3) e in
    in_way c m p (omega (arith, i, q)) ∙ sym (in_way c (m + 1) (omega arith) (omega (arith, i, q)))

change_way : (c : Bool) (m : ℕ) → m ≡ cond c 2 1 → is_under_way c m ≡ is_under_way c (m + 1)
change_way true m e = in_way true m (omega (arith, e)) (omega (arith, e)) ∙ sym (in_way true (m + 1) (omega arith) (omega (arith, e)))
change_way false m e = in_way false m (omega (arith, e)) (omega (arith, e)) ∙ sym (in_way false (m + 1) (omega arith) (omega (arith, e)))

begin_way : (c : Bool) (m : ℕ) → m ≡ 0 → true ≡ is_under_way c (m + 1)
begin_way true m e = sym (in_way true (m + 1) (omega arith) (omega (arith, e)))
begin_way false m e = sym (in_way false (m + 1) (omega arith) (omega (arith, e)))

end_way : (c : Bool) (m : ℕ) → m ≡ cond c 4 2 → false ≡ is_under_way c (m + 1)
end_way true m e = sym (ap (λ z. is_under_way true (z + 1)) e)
end_way false m e = sym (ap (λ z. is_under_way false (z + 1)) e)

or_swap : (b c : Bool) → (b || c) ≡ (c || b)
or_swap true true = refl
or_swap true false = refl
or_swap false true = refl
or_swap false false = refl

-- what an entry of a line leaves of its own entries in the plain journal, and of those of others
record Leaves (script : Script) (h : Bulked) (s : ℕ) (d : BulkDef) (m : ℕ) (e : BulkEntry) : Type 0 where
  begun : is_begun (own s (plain (e ∷ h))) ≡ is_under_way (is_cached script d.entity) (m + 1)
  deferred : deferred (own s (plain (e ∷ h))) ≡ []
  others : (n : ℕ) → (s == n) ≡ false → own n (plain (e ∷ h)) ≡ own n (plain h)

module _ (script : Script) (lines : List BulkDef) (told : Option Tables) (h : Bulked) (s : ℕ) (d : BulkDef) (m : ℕ) (b : Bool) (a : BulkAct) (x : BulkPartsState) (k : IsLineTurn script lines told h s d m b a x) where
  due : next script lines h s ≡ Some a
  due = due_of_line script lines h s d m b k.known k.line k.stands ∙ k.act

  pub few_hold : (n : ℕ) → a ≡ BulkAct.LockAll n → held_by (region_of x.regions n) < 2 ^ 62
  few_hold n e = let i = held_here script lines told h s d m b a x k n (inl e) in let w = wide_few n h in omega (arith, i, w, k.few)

  pub one_holds : ((script : Script) (lines : List BulkDef) (told : Option Tables) (h : Bulked) → IsLegal script lines told h → AtEachEntry IsGivenBack h) → (n : ℕ) → a ≡ BulkAct.UnlockAll n →
      1 ≤ held_by (region_of x.regions n)
  one_holds back n e =
      let i = held_here script lines told h s d m b a x k n (inr e) in
      let w : 1 ≤ wide_holders n h = (back script lines told (g ∷ h) (k.legal, record { tick = refl; bounded = omega (arith, k.few); act = due ∙ ap Some e; part = refl; reply = reply told })).0 n refl in
      omega (arith, i, w)
    where
      g : BulkEntry
      g = entry_at (length h + 1) s (BulkAct.UnlockAll n) (BulkReply.Released (wide_holders n h - 1))

      reply : (told : Option Tables) → IsReply script lines told h g
      reply None = (refl, λ z. inl refl)
      reply (Some start) = inl refl

  leaves : (r : BulkReply) → Leaves script h s d m (entry_of h s a r)
  leaves r = by_case (case_of script lines told h s d m b a x k)
    where
      by_plain : (o : Act) → is_begun (own s (plain (entry_of h s (BulkAct.Plain o) r ∷ h))) ≡ is_under_way (is_cached script d.entity) (m + 1) →
          deferred (own s (plain (entry_of h s (BulkAct.Plain o) r ∷ h))) ≡ [] → a ≡ BulkAct.Plain o → Leaves script h s d m (entry_of h s a r)
      by_plain o p q e = subst (λ z. Leaves script h s d m (entry_of h s z r)) (sym e) (record { begun = p; deferred = q; others = λ n i. others_next h s n o r i })

      by_wide : (z : BulkAct) → is_wide z ≡ true → is_under_way (is_cached script d.entity) m ≡ is_under_way (is_cached script d.entity) (m + 1) → a ≡ z → Leaves script h s d m (entry_of h s a r)
      by_wide z w p e = subst (λ z. Leaves script h s d m (entry_of h s z r)) (sym e) (record {
        begun = ap (λ j. is_begun (own s j)) (plain_rests (entry_of h s z r) h w) ∙ (k.stands.begun ∙ p);
        deferred = ap (λ j. deferred (own s j)) (plain_rests (entry_of h s z r) h w) ∙ k.stands.deferred;
        others = λ n i. ap (own n) (plain_rests (entry_of h s z r) h w);
      })

      by_case : LineCase (is_cached script d.entity) d.entity s m a → Leaves script h s d m (entry_of h s a r)
      by_case (LineCase.Begins p q) =
          by_plain Act.Begin (ap is_begun (own_next h s Act.Begin r) ∙ begin_way (is_cached script d.entity) m q) (ap deferred (own_next h s Act.Begin r) ∙ k.stands.deferred) p
      by_case (LineCase.Locks c q p) = by_wide (BulkAct.LockAll d.entity) refl (cached_way (is_cached script d.entity) m c (omega (arith, q)) (omega (arith, q))) p
      by_case (LineCase.Changes p q) = by_wide (BulkAct.Bulk s) refl (change_way (is_cached script d.entity) m q) p
      by_case (LineCase.Unlocks c q p) = by_wide (BulkAct.UnlockAll d.entity) refl (cached_way (is_cached script d.entity) m c (omega (arith, q)) (omega (arith, q))) p
      by_case (LineCase.Ends p q) =
          by_plain Act.End (ap is_begun (own_next h s Act.End r) ∙ end_way (is_cached script d.entity) m q) (ap deferred (own_next h s Act.End r) ∙ k.stands.deferred) p

  line_after : (r : BulkReply) → IsLine script (entry_of h s a r ∷ h) s d (m + 1) (b || fails a r)
  line_after r = record {
    steps = let i = k.stands.steps in let j : steps_of s (entry_of h s a r ∷ h) ≡ suc (steps_of s h) = rw (eq-eqb s s refl) refl in omega (arith, i, j);
    failed = ap (λ z. z || fails a r) k.stands.failed ∙ (or_swap (has_failed s h) (fails a r) ∙ sym (ap (λ z. (z && fails a r) || has_failed s h) (eq-eqb s s refl)));
    begun = (leaves r).begun;
    deferred = (leaves r).deferred;
  }

pub line_moves : (script : Script) (lines : List BulkDef) (from : Origin) (h new : Bulked) (s : ℕ) (d : BulkDef) (m : ℕ) (b : Bool) (a : BulkAct) (r : BulkReply) (x w : BulkPartsState) → IsRun script lines from h x →
    IsLineTurn script lines from.tables h s d m b a x → IsAnswered script lines from.tables h s (length h + 1) a r w → (is_fault r ≡ true → Rose x.store.faults w.store.faults) → x.store.faults ≤ w.store.faults →
    w.store.entities ≡ x.store.entities → new ≡ entry_of h s a r ∷ h → LineMoves script lines from s d h new x w (m + 1) (b || fails a r)
line_moves script lines from h new s d m b a r x w run k v f g e grown = record {
  entry = entry_of h s a r;
  by = refl;
  grown = grown;
  due = due script lines from.tables h s d m b a x k;
  run = subst (λ (j : Bulked). IsRun script lines from j w) (sym grown) (goes_on script lines from h s a r x w run (due script lines from.tables h s d m b a x k) v k.few g f e);
  stands = subst (λ (j : Bulked). IsLine script j s d (m + 1) (b || fails a r)) (sym grown) (line_after script lines from.tables h s d m b a x k r);
  others = λ n i. ap (λ j. own n (plain j)) grown ∙ (leaves script lines from.tables h s d m b a x k r).others n i;
  fault = f;
}
