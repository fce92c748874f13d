-- A turn of a session: what it leaves of the journal, the parts and the session.
use Rattle.std.proofs.Common.{◌≡◌, inl, ℕ, ◌+◌, ◌<◌, ◌≤◌, ◌^◌, ◌==◌, Bool, true, false, List, ◌∷◌, length, IfSome, Some, None, Option, refl, sym, ap, ◌∙◌, subst, arith}
use Rattle.std.proofs.lemmas.Bool.{lt-ltb, false≢true}
use Rattle.std.proofs.lemmas.Option.{same_Some}
use Rattle.hib_base.specs.Tables.{Tables}
use Rattle.hib_journal.specs.Types.{Key, Script, Part, Act, Reply, Evicted, Entry}
use Rattle.hib_journal.specs.Sessions.{Journal, own}
use Rattle.hib_journal.specs.Legal as Legal
use Rattle.hib_journal.specs.Next as Next
use Rattle.hib_journal.specs.Next.{strategy}
use Rattle.hib_session.specs.declared.session.Session.{Session}
use Rattle.hib_session.specs.Session.{Follows, number_of, left_in}
use Rattle.hib_engines.specs.Origin.{Origin}
use Rattle.hib_engines.specs.Laws.{Laws}
use Rattle.hib_engines.specs.Due.{IsDue}
use Rattle.hib_engines.specs.Region.{entity_of, Suits}
use Rattle.hib_engines.proofs.Bridge.{own_self, own_other, bridged_evict}
use Rattle.hib_engines.proofs.Elsewhere.{registry_kept}
use Rattle.hib_engines.proofs.StampsServed.{stamps_stay}
use Rattle.hib_engines.proofs.ResultsServed.{results_stay}
use Rattle.hib_bulk_law.specs.Legal.{IsReply}
use Rattle.hib_bulk_region.specs.Laws as Wide
use Rattle.hib_bulk.specs.Types.{BulkDef, BulkAct, BulkReply, BulkEntry}
use Rattle.hib_bulk_law.specs.Plain.{Bulked, plain, plain_reply}
use Rattle.hib_bulk_law.specs.Rows.{line}
use Rattle.hib_bulk_law.specs.Wide.{is_old}
use Rattle.hib_bulk_law.specs.Acts.{next, swept_for}
use Rattle.hib_bulk_law.proofs.Entries.{no_line, plain_does, plain_sweeps, swept_of}
use Rattle.hib_bulk.specs.Regions.{region_of, has_old_in, swept, IsAtRegion, IsPlaced}
use Rattle.hib_bulk.specs.Standing.{BulkPartsState, ArePlain, AreStanding, IsStill, IsReady, IsTold}
use Rattle.hib_bulk.proofs.Placed.{swept_key, old_is, regions_by, placed_swept, swept_elsewhere, placed_stays}
use Rattle.hib_bulk.proofs.Kept.{rows_rest}
use Rattle.hib_bulk.specs.Run.{IsRun, IsTurn, IsSwept, Answers, Serves, Sweeps, Leaves, Moves, entry_of, plain_entry, sweeps}
use Rattle.hib_bulk.proofs.Going.{next_by, plain_due, sweep_due, goes_on, late, swept_not_old}

pub known_none : (script : Script) (lines : List BulkDef) (s : ℕ) → s < length script.sessions → line script lines s ≡ None
known_none script lines s l = no_line script lines s (lt-ltb s (length script.sessions) l)

-- a run whose session has an act due is ready for it
pub ready_of : (script : Script) (lines : List BulkDef) (from : Origin) (h : Bulked) (y : Session) (a : Act) (x : BulkPartsState) → IsRun script lines from h x → IsTurn script h y a → IsSwept script h a →
    IsReady script lines from.tables h (number_of y) (length h + 1) a x
ready_of script lines from h y a x run t w =
    record { standing = run.standing; late = late script lines from h x run; due = t.due; session = known_none script lines (number_of y) t.known; swept = w }

pub answers_of : (script : Script) (lines : List BulkDef) (from : Origin) (y : Session) (a : Act) (r : BulkReply) (h : Bulked) (x z : BulkPartsState) → IsRun script lines from h x → IsTurn script h y a →
    IsSwept script h a → IsTold script lines from.tables h (number_of y) (length h + 1) a r x z → length h < 2 ^ 62 → x.store.faults ≤ z.store.faults → z.store.entities ≡ x.store.entities →
    Answers script lines from (number_of y) a r h x z
answers_of script lines from y a r h x z run t w told l f e = record {
  run = goes_on script lines from h (number_of y) (BulkAct.Plain a) r x z run (next_by script lines h (number_of y) a t.next ∙ ap Some (plain_due script h a w)) told.answered l f told.fault e;
  taken = record { due = t.next; own = told.mine };
  fault = told.fault;
}

pub entry_is : (h : Bulked) (s n t : ℕ) (a : Act) (r : BulkReply) (q : Reply) (p : Part) → t ≡ length h + 1 → n ≡ s → p ≡ Legal.part_of a n → q ≡ plain_reply a r →
    ◌≡◌ {A = Entry} (record { tick = t; session = Some n; part = p; act = a; reply = q }) (plain_entry h s a r)
entry_is h s n t a r q p e d u v =
    let make : ℕ → Part → ℕ → Reply → Entry = λ t p n q. record { tick = t; session = Some n; part = p; act = a; reply = q } in
    ap (λ i. make i p n q) e ∙ (ap (λ i. make (length h + 1) i n q) u ∙ (ap (λ i. make (length h + 1) (Legal.part_of a i) i q) d ∙ ap (λ i. make (length h + 1) (Legal.part_of a s) s i) v))

-- nothing was added
pub leaves_of : (told script : Script) (h new : Bulked) (x w : BulkPartsState) (y z : Session) → told ≡ script → new ≡ h → IsStill x w → w.store.entities ≡ x.store.entities →
    ((mine : Journal) → Follows told y mine → Follows told z mine) → Leaves script h new x w y z
leaves_of told script h new x w y z q e u d f = record {
  same = e;
  parts = u;
  entities = d;
  follows = subst (λ (v : Script). (mine : Journal) → Follows v y mine → Follows v z mine) q f;
}

pub leaves_on : (told script : Script) (h new : Bulked) (x w : BulkPartsState) (y u z : Session) → told ≡ script → ((mine : Journal) → Follows told y mine → Follows told u mine) →
    Leaves script h new x w u z → Leaves script h new x w y z
leaves_on told script h new x w y u z q f v = record {
  same = v.same;
  parts = v.parts;
  entities = v.entities;
  follows = λ mine g. v.follows mine (subst (λ (v : Script). (mine : Journal) → Follows v y mine → Follows v u mine) q f mine g);
}

-- the session has no act left
pub over_of : (script : Script) (lines : List BulkDef) (h : Bulked) (s : ℕ) → s < length script.sessions → Next.next script s (own s (plain h)) ≡ None → next script lines h s ≡ None
over_of script lines h s l p = rw p (rw (known_none script lines s l) refl)

-- ---- a turn

few_sweeps : (o : Option BulkAct) → sweeps o ≤ 1
few_sweeps None = omega arith
few_sweeps (Some (BulkAct.Sweep k)) = omega arith
few_sweeps (Some _) = omega arith

-- an entry of the session's act
pub own_next : (h : Bulked) (s : ℕ) (a : Act) (r : BulkReply) → own s (plain (entry_of h s (BulkAct.Plain a) r ∷ h)) ≡ plain_entry h s a r ∷ own s (plain h)
own_next h s a r = ap (own s) (plain_does (entry_of h s (BulkAct.Plain a) r) h a refl) ∙ own_self (plain h) s (length h + 1) a (plain_reply a r)

pub others_next : (h : Bulked) (s n : ℕ) (a : Act) (r : BulkReply) → (s == n) ≡ false → own n (plain (entry_of h s (BulkAct.Plain a) r ∷ h)) ≡ own n (plain h)
others_next h s n a r d = ap (own n) (plain_does (entry_of h s (BulkAct.Plain a) r) h a refl) ∙ own_other (plain h) s n (length h + 1) a (plain_reply a r) d

-- and of a sweep
own_swept : (h : Bulked) (s n : ℕ) (k : Key) → own n (plain (entry_of h s (BulkAct.Sweep k) BulkReply.Swept ∷ h)) ≡ own n (plain h)
own_swept h s n k = ap (own n) (plain_sweeps (entry_of h s (BulkAct.Sweep k) BulkReply.Swept) h k refl)

pub moves_of : (told script : Script) (lines : List BulkDef) (from : Origin) (a : Act) (h new : Bulked) (x w : BulkPartsState) (y u z : Session) → told ≡ script → number_of u ≡ number_of y →
    left_in told u ≤ left_in told y → IsTurn script h u a → IsSwept script h a → Serves script lines from a h new x w u z → Moves script lines from h new x w y z
moves_of told script lines from a h new x w y u z q e l t f v = record {
  entry = entry_of h (number_of u) (BulkAct.Plain a) v.answer;
  by = e;
  grown = v.grown;
  due = subst (λ n. next script lines h n ≡ Some (BulkAct.Plain a)) e (next_by script lines h (number_of u) a t.next ∙ ap Some (plain_due script h a f));
  run = v.run;
  follows = subst (λ n. Follows script z (own n (plain new))) e
      (subst (λ (j : Bulked). Follows script z (own (number_of u) (plain j))) (sym v.grown) (subst (λ m. Follows script z m) (sym (own_next h (number_of u) a v.answer)) v.follows));
  others = λ n d. ap (λ j. own n (plain j)) v.grown ∙ others_next h (number_of u) n a v.answer (ap (λ m. m == n) e ∙ d);
  less = let m : left_in script u ≤ left_in script y = subst (λ (v : Script). left_in v u ≤ left_in v y) q l in
      let b = few_sweeps (next script lines new (number_of z)) in omega (arith, m, b, v.less);
  fault = v.fault;
}

pub moves_swept : (told script : Script) (lines : List BulkDef) (from : Origin) (a : Act) (k : Key) (h new : Bulked) (x w : BulkPartsState) (y u : Session) → told ≡ script → number_of u ≡ number_of y →
    left_in told u ≤ left_in told y → IsTurn script h u a → swept_for a ≡ Some k → is_old script k h ≡ true → Sweeps script lines from (number_of u) k h new x w → Moves script lines from h new x w y u
moves_swept told script lines from a k h new x w y u q e l t p o v = record {
  entry = entry_of h s (BulkAct.Sweep k) BulkReply.Swept;
  by = e;
  grown = v.grown;
  due = subst (λ n. next script lines h n ≡ Some (BulkAct.Sweep k)) e due;
  run = v.run;
  follows = subst (λ n. Follows script u (own n (plain new))) e (subst (λ m. Follows script u m) (sym same) t.follows);
  others = λ n d. ap (λ j. own n (plain j)) v.grown ∙ own_swept h s n k;
  less = let m : left_in script u ≤ left_in script y = subst (λ (v : Script). left_in v u ≤ left_in v y) q l in
      let one : sweeps (next script lines h (number_of y)) ≡ 1 = subst (λ n. sweeps (next script lines h n) ≡ 1) e (ap sweeps due) in
      let none : sweeps (next script lines new s) ≡ 0 = ap sweeps (next_by script lines new s a (ap (Next.next script s) same ∙ t.next) ∙ ap Some (plain_due script new a f)) in
      omega (arith, m, one, none);
  fault = λ i. absurd (no i);
}
  where
    s : ℕ
    s = number_of u

    due : next script lines h s ≡ Some (BulkAct.Sweep k)
    due = next_by script lines h s a t.next ∙ ap Some (sweep_due script h a k p o)

    same : own s (plain new) ≡ own s (plain h)
    same = ap (λ j. own s (plain j)) v.grown ∙ own_swept h s s k

    f : IsSwept script new a
    f j z = subst (λ i. is_old script i new ≡ false) (same_Some k j (sym p ∙ z)) v.swept

    no : false ≡ true → ⊥
    no i = false≢true i

pub brings_so : (b : Bool) → (b ≡ false → ⊥) → b ≡ true
brings_so true f = refl
brings_so false f = absurd (f refl)

-- the act that is due in a session that was made ready
pub turn_of : (told script : Script) (h : Bulked) (y u : Session) (o : Option Act) (a : Act) → told ≡ script → number_of u ≡ number_of y → number_of y < length script.sessions →
    Follows script y (own (number_of y) (plain h)) → ((mine : Journal) → Follows told y mine → Follows told u mine) →
    ((mine : Journal) → Follows told u mine → o ≡ Next.next told (number_of u) mine) → ((mine : Journal) → Follows told u mine → IfSome o (IsDue told mine)) → o ≡ Some a → IsTurn script h u a
turn_of told script h y u o a q e k f g n d p = subst (λ v. IsTurn v h u a) q (record {
  known = subst (λ v. number_of u < length v.sessions) (sym q) (subst (λ i. i < length script.sessions) (sym e) k);
  follows = follows;
  next = sym (n (own (number_of u) (plain h)) follows) ∙ p;
  due = subst (λ z. IfSome z (IsDue told (own (number_of u) (plain h)))) p (d (own (number_of u) (plain h)) follows);
})
  where
    follows : Follows told u (own (number_of u) (plain h))
    follows = subst (λ i. Follows told u (own i (plain h))) (sym e) (g (own (number_of y) (plain h)) (subst (λ v. Follows v y (own (number_of y) (plain h))) (sym q) f))

-- an item of the key that the act names is old, if its region says so
pub old_of : Wide.FindsOld → (script : Script) (lines : List BulkDef) (from : Origin) (h : Bulked) (u : Session) (a : Act) (x : BulkPartsState) (k : Key) → IsRun script lines from h x → IsTurn script h u a →
    swept_for a ≡ Some k → has_old_in (region_of x.regions k.entity) k.id ≡ is_old script k h
old_of w script lines from h u a x k run t p =
    let q = swept_key a k p in
    old_is w script h k a (region_of x.regions k.entity) (run.standing.regions k.entity) q
    (subst (λ o. Suits (strategy script (entity_of o)) a) q t.due.suits)

pub sweeps_of : Laws → Wide.SweepGrows → Wide.Stays → Wide.FindsOld → (script : Script) (lines : List BulkDef) (from : Origin) (h new : Bulked) (s : ℕ) (k : Key) (x y : BulkPartsState) → IsRun script lines from h x →
    next script lines h s ≡ Some (BulkAct.Sweep k) → has_old_in (region_of x.regions k.entity) k.id ≡ true → length h < 2 ^ 62 →
    region_of y.regions k.entity ≡ swept (region_of x.regions k.entity) k.id (length h + 1) → IsAtRegion k.entity x.regions y.regions → y ≡ record x { regions = y.regions } →
    new ≡ entry_of h s (BulkAct.Sweep k) BulkReply.Swept ∷ h → Sweeps script lines from s k h new x y
sweeps_of l w v o script lines from h new s k x y run n old few here at same grown = record {
  grown = grown;
  run = subst (λ (j : Bulked). IsRun script lines from j y) (sym grown)
      (goes_on script lines from h s (BulkAct.Sweep k) BulkReply.Swept x y run n (record { reply = reply from.tables; standing = standing }) few
      (subst (λ (z : BulkPartsState). x.store.faults ≤ z.store.faults) (sym same) (omega arith)) (λ i. absurd (false≢true i)) (ap (λ (z : BulkPartsState). z.store.entities) same));
  swept = subst (λ (j : Bulked). is_old script k j ≡ false) (sym grown) (swept_not_old script k h e refl refl);
  faults = ap (λ (z : BulkPartsState). z.store.faults) same;
}
  where
    e : BulkEntry
    e = entry_of h s (BulkAct.Sweep k) BulkReply.Swept

    reply : (told : Option Tables) → IsReply script lines told h e
    reply None = (refl, λ p. inl refl)
    reply (Some start) = inl refl

    its : ArePlain script (plain h) x
    its = run.standing.plain

    plain_now : ArePlain script (swept_of e k ∷ plain h) (record x { regions = y.regions })
    plain_now = record {
      changes = its.changes;
      bridged = bridged_evict (plain h) k (length h + 1) (Reply.Evicted Evicted.Gone) its.bridged;
      registry = registry_kept (plain h) None (length h + 1) (Act.Evict k) (Reply.Evicted Evicted.Gone) x.registry its.registry refl;
      stamps = stamps_stay l script (plain h) None (length h + 1) (Act.Evict k) (Reply.Evicted Evicted.Gone) x.stamps its.stamps refl refl;
      results = results_stay l script (plain h) None (length h + 1) (Act.Evict k) (Reply.Evicted Evicted.Gone) x.results its.results refl refl;
      live = its.live;
    }

    standing : AreStanding script lines from.tables (e ∷ h) y
    standing = record {
      rows = ap (λ (z : BulkPartsState). z.store.tables) same ∙ (run.standing.rows ∙ rows_rest script lines from.tables h e refl refl);
      plain = subst (λ g. ArePlain script g y) (sym (plain_sweeps e h k refl)) (subst (λ (z : BulkPartsState). ArePlain script (swept_of e k ∷ plain h) z) (sym same) plain_now);
      regions = regions_by (λ m z. IsPlaced script m (e ∷ h) z) k.entity x.regions y.regions at
          (subst (λ z. IsPlaced script k.entity (e ∷ h) z) (sym here)
          (placed_swept w script h s k (region_of x.regions k.entity) (late script lines from h x run) old (run.standing.regions k.entity)))
          (λ m d. placed_stays v script h e m (region_of x.regions m) (swept_elsewhere h s m k d) (run.standing.regions m));
      entities = at.all ∙ run.standing.entities;
    }
