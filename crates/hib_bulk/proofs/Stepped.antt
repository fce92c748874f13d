-- A step of a session or a line: what it leaves of the parts, the sessions and the lines.
use Rattle.std.specs.Prelude.{slice_get, slice_set, get_or}
use Rattle.std.proofs.Common.{◌≡◌, ◌≢◌, inl, inr, ℕ, ◌+◌, ◌<◌, ◌==◌, Bool, true, false, ◌&&◌, ◌||◌, List, ◌∷◌, length, Result, Ok, Err, Some, None, refl, sym, ap, ◌∙◌, subst, arith, eq-eqb}
use Rattle.std.proofs.lemmas.Bool.{true≢false, eqb-true, ne_eqb}
use Rattle.std.proofs.lemmas.List.{get_or-set_same, get_or-set_other, length-set}
use Rattle.std.proofs.lemmas.Option.{same_Some, slice_get_within, get_or_from_slice_get, slice_get-get_or}
use Rattle.hib_base.proofs.Tables.{Tested, tested}
use Rattle.hib_journal.specs.Types.{Script}
use Rattle.hib_journal.specs.Sessions.{own, is_begun, deferred}
use Rattle.hib_outside.specs.Causes.{Rose}
use Rattle.hib_session.specs.declared.session.Session.{Session}
use Rattle.hib_session.specs.Session.{Follows, number_of}
use Rattle.hib_session.proofs.Together.{placed_here, placed_there}
use Rattle.hib_engines.specs.Origin.{Origin}
use Rattle.hib_engines.specs.declared.stepped.Stepped.{Stepped}
use Rattle.hib_bulk.specs.Types.{BulkDef, BulkEntry}
use Rattle.hib_bulk.specs.declared.lines.LineProgress.{LineProgress}
use Rattle.hib_bulk_law.specs.Plain.{Bulked, plain}
use Rattle.hib_bulk_law.specs.Acts.{next, steps_of}
use Rattle.hib_bulk_law.specs.Legal.{has_failed, fails}
use Rattle.std.specs.declared.alloc.AllocError.{AllocError}
use Rattle.hib_store.specs.Stores.{changes_in}
use Rattle.hib_engines.specs.Registry.{IsRegistry}
use Rattle.hib_engines.specs.Stamps.{AreStamps}
use Rattle.hib_engines.specs.Results.{AreResults}
use Rattle.hib_bulk.specs.Changed.{is_fault}
use Rattle.hib_bulk.specs.Regions.{region_of, IsPlaced}
use Rattle.hib_bulk.specs.Standing.{BulkPartsState, ArePlain, IsStill}
use Rattle.hib_bulk.specs.Run.{IsRun, IsLine, Moves, Leaves, LineMoves}
use Rattle.hib_bulk.specs.Steps.{AreSessions, AreLines, Adds, HasTurned}

-- ---- places in a list

put_here : {A : Type 0} (s n : ℕ) (xs : List A) (y z : A) → s < length xs → slice_get (slice_set xs s z) n ≡ Some y → s ≡ n → y ≡ z
put_here s n xs y z l p e = let q : slice_get (slice_set xs s z) s ≡ Some y = subst (λ m. slice_get (slice_set xs s z) m ≡ Some y) (sym e) p in
    sym (get_or_from_slice_get (slice_set xs s z) s y z q) ∙ get_or-set_same xs s z z l

put_there : {A : Type 0} (s n : ℕ) (xs : List A) (y z : A) → slice_get (slice_set xs s z) n ≡ Some y → (s == n) ≡ false → slice_get xs n ≡ Some y
put_there s n xs y z p d = slice_get-get_or xs n y (omega (arith, length-set xs s z, slice_get_within (slice_set xs s z) n y p))
    ∙ ap Some (sym (get_or-set_other xs s n z y (λ e. true≢false (sym (ap (λ m. s == m) e ∙ eq-eqb s s refl) ∙ d))) ∙ get_or_from_slice_get (slice_set xs s z) n y y p)

-- ---- nothing was added

pub run_still : (script : Script) (lines : List BulkDef) (from : Origin) (h new : Bulked) (x w : BulkPartsState) → IsRun script lines from h x → IsStill x w → w.store.entities ≡ x.store.entities → new ≡ h →
    IsRun script lines from new w
run_still script lines from h new x w run v e q = subst (λ (j : Bulked). IsRun script lines from j w) (sym q) (record {
  legal = run.legal;
  standing = record {
    rows = v.store.tables ∙ run.standing.rows;
    plain = record {
      changes = λ n. ap (λ z. changes_in z n) v.store.written ∙ its.changes n;
      bridged = its.bridged;
      registry = subst (λ z. IsRegistry z (plain h)) (sym v.registry) its.registry;
      stamps = subst (λ z. AreStamps script (plain h) z) (sym v.stamps) its.stamps;
      results = subst (λ z. AreResults script (plain h) z) (sym v.results) its.results;
      live = its.live;
    };
    regions = λ n. subst (λ zs. IsPlaced script n h (region_of zs n)) (sym v.regions) (run.standing.regions n);
    entities = ap length v.regions ∙ run.standing.entities;
  };
  ordered = run.ordered;
  faults = omega (arith, run.faults, v.store.faults);
  entities = e ∙ run.entities;
  built = run.built;
})
  where
    its : ArePlain script (plain h) x
    its = run.standing.plain

-- ---- the sessions, of which the one at s is now z

pub sessions_on : (script : Script) (h new : Bulked) (s : ℕ) (xs : List Session) (y z : Session) → AreSessions script h xs → slice_get xs s ≡ Some y → number_of z ≡ number_of y →
    Follows script z (own s (plain new)) → ((n : ℕ) → (s == n) ≡ false → own n (plain new) ≡ own n (plain h)) → AreSessions script new (slice_set xs s z)
sessions_on script h new s xs y z w v k f o = record {
  all = length-set xs s z ∙ w.all;
  numbers = λ n u p. number n u p (tested (s == n));
  follow = λ n u p. follow n u p (tested (s == n));
}
  where
    l : s < length xs
    l = slice_get_within xs s y v

    number : (n : ℕ) (u : Session) → slice_get (slice_set xs s z) n ≡ Some u → Tested (s == n) → number_of u ≡ n
    number n u p (inl q) = let e : s ≡ n = eqb-true s n q in ap number_of (placed_here s n xs u z l p e) ∙ (k ∙ (w.numbers s y v ∙ e))
    number n u p (inr q) = w.numbers n u (placed_there s n xs u z p q)

    follow : (n : ℕ) (u : Session) → slice_get (slice_set xs s z) n ≡ Some u → Tested (s == n) → Follows script u (own n (plain new))
    follow n u p (inl q) = let e : s ≡ n = eqb-true s n q in
        subst (λ t. Follows script t (own n (plain new))) (sym (placed_here s n xs u z l p e)) (subst (λ m. Follows script z (own m (plain new))) e f)
    follow n u p (inr q) = subst (λ t. Follows script u t) (sym (o n q)) (w.follow n u (placed_there s n xs u z p q))

-- all of them, if a line added an entry
pub sessions_rest : (script : Script) (lines : List BulkDef) (h new : Bulked) (i : ℕ) (xs : List Session) → AreSessions script h xs → Adds script lines (length script.sessions + i) h new → AreSessions script new xs
sessions_rest script lines h new i xs w v = record {
  all = w.all;
  numbers = w.numbers;
  follow = λ n u p. let l = slice_get_within xs n u p in
      subst (λ t. Follows script u t) (sym (v.others n (ne_eqb (length script.sessions + i) n (λ e. absurd (apart (length script.sessions) i n (omega (arith, l, w.all)) e))))) (w.follow n u p);
}
  where
    apart : (m i n : ℕ) → n < m → m + i ≡ n → ⊥
    apart m i n l e = omega (arith, l, e)

-- ---- the lines

-- a line, if another added an entry
line_rests : (script : Script) (lines : List BulkDef) (h new : Bulked) (s n : ℕ) (d : BulkDef) (m : ℕ) (b : Bool) → IsLine script h n d m b → Adds script lines s h new → (s == n) ≡ false → IsLine script new n d m b
line_rests script lines h new s n d m b w v q = record {
  steps = w.steps ∙ sym (ap (steps_of n) v.grown ∙ other_steps);
  failed = w.failed ∙ sym (ap (has_failed n) v.grown ∙ other_failed);
  begun = ap is_begun (v.others n q) ∙ w.begun;
  deferred = ap deferred (v.others n q) ∙ w.deferred;
}
  where
    other : (v.entry.session == n) ≡ false
    other = ap (λ i. i == n) v.by ∙ q

    other_steps : steps_of n (v.entry ∷ h) ≡ steps_of n h
    other_steps = rw other refl

    other_failed : has_failed n (v.entry ∷ h) ≡ has_failed n h
    other_failed = ap (λ z. (z && fails v.entry.act v.entry.reply) || has_failed n h) other

pub lines_rest : (script : Script) (lines : List BulkDef) (h new : Bulked) (s : ℕ) (ps : List LineProgress) → s < length script.sessions → AreLines script lines h ps → Adds script lines s h new → AreLines script lines new ps
lines_rest script lines h new s ps l w v = record {
  all = w.all;
  stand = λ i d p e f. line_rests script lines h new s (length script.sessions + i) d p.steps p.failed (w.stand i d p e f) v
      (ne_eqb s (length script.sessions + i) (λ q. absurd (apart (length script.sessions) i s l q)));
}
  where
    apart : (m i n : ℕ) → n < m → n ≡ m + i → ⊥
    apart m i n l e = omega (arith, l, e)

-- the lines, of which the one at i is now z
pub lines_on : (script : Script) (lines : List BulkDef) (h new : Bulked) (i : ℕ) (ps : List LineProgress) (y z : LineProgress) → AreLines script lines h ps → slice_get ps i ≡ Some y →
    ((d : BulkDef) → slice_get lines i ≡ Some d → IsLine script new (length script.sessions + i) d z.steps z.failed) → Adds script lines (length script.sessions + i) h new →
    AreLines script lines new (slice_set ps i z)
lines_on script lines h new i ps y z w v f o = record {
  all = length-set ps i z ∙ w.all;
  stand = λ n d p e q. stand n d p e q (tested (i == n));
}
  where
    l : i < length ps
    l = slice_get_within ps i y v

    shifted : (k i n : ℕ) → (i == n) ≡ false → (k + i == k + n) ≡ false
    shifted k i n q = ne_eqb (k + i) (k + n) (λ e. let g : i ≡ n = omega (arith, e) in true≢false (sym (eq-eqb i n g) ∙ q))

    stand : (n : ℕ) (d : BulkDef) (p : LineProgress) → slice_get lines n ≡ Some d → slice_get (slice_set ps i z) n ≡ Some p → Tested (i == n) → IsLine script new (length script.sessions + n) d p.steps p.failed
    stand n d p e q (inl t) = let g : i ≡ n = eqb-true i n t in
        subst (λ (u : LineProgress). IsLine script new (length script.sessions + n) d u.steps u.failed) (sym (put_here i n ps p z l q g))
        (subst (λ m. (d : BulkDef) → slice_get lines m ≡ Some d → IsLine script new (length script.sessions + m) d z.steps z.failed) g f d e)
    stand n d p e q (inr t) =
        line_rests script lines h new (length script.sessions + i) (length script.sessions + n) d p.steps p.failed (w.stand n d p e (put_there i n ps p z q t)) o (shifted (length script.sessions) i n t)

lines_same : (script : Script) (lines : List BulkDef) (h : Bulked) (i : ℕ) (ps : List LineProgress) (y z : LineProgress) → AreLines script lines h ps → slice_get ps i ≡ Some y → z ≡ y → AreLines script lines h (slice_set ps i z)
lines_same script lines h i ps y z w v q = record {
  all = length-set ps i z ∙ w.all;
  stand = λ n d p e f. stand n d p e f (tested (i == n));
}
  where
    l : i < length ps
    l = slice_get_within ps i y v

    stand : (n : ℕ) (d : BulkDef) (p : LineProgress) → slice_get lines n ≡ Some d → slice_get (slice_set ps i z) n ≡ Some p → Tested (i == n) → IsLine script h (length script.sessions + n) d p.steps p.failed
    stand n d p e f (inl t) = let g : i ≡ n = eqb-true i n t in
        w.stand n d p e (subst (λ m. slice_get ps m ≡ Some p) g (v ∙ ap Some (sym (put_here i n ps p z l f g ∙ q))))
    stand n d p e f (inr t) = w.stand n d p e (put_there i n ps p z f t)

-- ---- a step of a session

pub session_at : (script : Script) (h : Bulked) (xs : List Session) (i s : ℕ) (y : Session) → AreSessions script h xs → i ≡ s → s < length script.sessions → y ≡ get_or xs i y → slice_get xs s ≡ Some y
session_at script h xs i s y w e l v = slice_get-get_or xs s y (subst (λ n. s < n) (sym w.all) l) ∙ ap Some (sym (subst (λ n. y ≡ get_or xs n y) e v))

pub record Turned (script : Script) (lines : List BulkDef) (from : Origin) (s : ℕ) (r : Result Stepped AllocError) (h new : Bulked) (x w : BulkPartsState) (ys : List Session) : Type 0 where
  pub turned : HasTurned script lines from s r h new x w
  pub sessions : AreSessions script new ys
  pub rest : (ps : List LineProgress) → AreLines script lines h ps → AreLines script lines new ps

-- the one entry that was added
same_entry : (e f : BulkEntry) (h new : Bulked) → new ≡ e ∷ h → new ≡ f ∷ h → e ≡ f
same_entry e f h new p q = cc

no_entry : (e : BulkEntry) (h new : Bulked) → new ≡ h → new ≡ e ∷ h → ⊥
no_entry e h new p q = let l = ap length (sym p ∙ q) in omega (arith, l)

fault_by : (e : BulkEntry) (h new : Bulked) (x w : BulkPartsState) → new ≡ e ∷ h → (is_fault e.reply ≡ true → Rose x.store.faults w.store.faults) →
    (f : BulkEntry) → new ≡ f ∷ h → is_fault f.reply ≡ true → Rose x.store.faults w.store.faults
fault_by e h new x w p g f q i = g (subst (λ (z : BulkEntry). is_fault z.reply ≡ true) (sym (same_entry e f h new p q)) i)

pub done_not : ◌≡◌ {A = Result Stepped AllocError} (Ok Stepped.Done) (Ok Stepped.Did) → ⊥
done_not p = cc

did_not : ◌≡◌ {A = Result Stepped AllocError} (Ok Stepped.Did) (Ok Stepped.Done) → ⊥
did_not p = cc

err_not : (e : AllocError) (t : Stepped) → ◌≡◌ {A = Result Stepped AllocError} (Err e) (Ok t) → ⊥
err_not e t p = cc

pub turned : (script : Script) (lines : List BulkDef) (from : Origin) (s : ℕ) (r : Result Stepped AllocError) (h new : Bulked) (x w : BulkPartsState) (xs : List Session) (y z : Session) → s < length script.sessions →
    IsRun script lines from h x → AreSessions script h xs → slice_get xs s ≡ Some y → number_of z ≡ number_of y → (r ≡ Ok Stepped.Did → Moves script lines from h new x w y z) →
    (r ≡ Ok Stepped.Done → next script lines h (number_of y) ≡ None) → (r ≢ Ok Stepped.Did → Leaves script h new x w y z) → Turned script lines from s r h new x w (slice_set xs s z)
turned script lines from s r h new x w xs y z l run all p k did done still = by_result r refl
  where
    here : number_of y ≡ s
    here = all.numbers s y p

    adds : Moves script lines from h new x w y z → Adds script lines s h new
    adds m = record {
      entry = m.entry;
      by = m.by ∙ here;
      grown = m.grown;
      due = subst (λ n. next script lines h n ≡ Some m.entry.act) here m.due;
      others = λ n q. m.others n (ap (λ i. i == n) here ∙ q);
    }

    by_move : r ≡ Ok Stepped.Did → Moves script lines from h new x w y z → Turned script lines from s r h new x w (slice_set xs s z)
    by_move e m = record {
      turned = record {
        run = m.run;
        did = λ i. adds m;
        done = λ i. absurd (did_not (sym e ∙ i));
        same = λ i. absurd (i e);
        still = λ i. absurd (i e);
        fault = fault_by m.entry h new x w m.grown m.fault;
      };
      sessions = sessions_on script h new s xs y z all p k (subst (λ n. Follows script z (own n (plain new))) here m.follows) (adds m).others;
      rest = λ ps g. lines_rest script lines h new s ps l g (adds m);
    }

    by_leave : (r ≡ Ok Stepped.Did → ⊥) → Leaves script h new x w y z → Turned script lines from s r h new x w (slice_set xs s z)
    by_leave f v = record {
      turned = record {
        run = run_still script lines from h new x w run v.parts v.entities v.same;
        did = λ i. absurd (f i);
        done = λ i. ap (λ j. next script lines j s) v.same ∙ subst (λ n. next script lines h n ≡ None) here (done i);
        same = λ i. v.same;
        still = λ i. v.parts;
        fault = λ e q i. absurd (no_entry e h new v.same q);
      };
      sessions = sessions_on script h new s xs y z all p k
          (subst (λ (j : Bulked). Follows script z (own s (plain j))) (sym v.same) (v.follows (own s (plain h)) (all.follow s y p))) (λ n q. ap (λ j. own n (plain j)) v.same);
      rest = λ ps g. subst (λ (j : Bulked). AreLines script lines j ps) (sym v.same) g;
    }

    by_result : (q : Result Stepped AllocError) → r ≡ q → Turned script lines from s r h new x w (slice_set xs s z)
    by_result (Ok Stepped.Did) e = by_move e (did e)
    by_result (Ok Stepped.Done) e = by_leave (λ i. done_not (sym e ∙ i)) (still (λ i. done_not (sym e ∙ i)))
    by_result (Err u) e = by_leave (λ i. err_not u Stepped.Did (sym e ∙ i)) (still (λ i. err_not u Stepped.Did (sym e ∙ i)))

-- ---- a step of a line

pub record LineTurned (script : Script) (lines : List BulkDef) (from : Origin) (s : ℕ) (r : Result Stepped AllocError) (h new : Bulked) (x w : BulkPartsState) (ps : List LineProgress) : Type 0 where
  pub turned : HasTurned script lines from s r h new x w
  pub progress : AreLines script lines new ps
  pub rest : (xs : List Session) → AreSessions script h xs → AreSessions script new xs

pub line_at : (lines : List BulkDef) (ps : List LineProgress) (i : ℕ) (y : LineProgress) → length ps ≡ length lines → i < length lines → y ≡ get_or ps i y → slice_get ps i ≡ Some y
line_at lines ps i y e l v = slice_get-get_or ps i y (omega (arith, l, e)) ∙ ap Some (sym v)

pub def_at : (told lines : List BulkDef) (i : ℕ) (d : BulkDef) → told ≡ lines → i < length lines → d ≡ get_or told i d → slice_get lines i ≡ Some d
def_at told lines i d q l v = slice_get-get_or lines i d l ∙ ap Some (sym (subst (λ ds. d ≡ get_or ds i d) q v))

pub adds_line : (script : Script) (lines : List BulkDef) (from : Origin) (s : ℕ) (d : BulkDef) (h new : Bulked) (x w : BulkPartsState) (m : ℕ) (b : Bool) → LineMoves script lines from s d h new x w m b →
    Adds script lines s h new
adds_line script lines from s d h new x w m b v = record { entry = v.entry; by = v.by; grown = v.grown; due = v.due; others = v.others }

pub line_turned : (script : Script) (lines : List BulkDef) (from : Origin) (i s : ℕ) (r : Result Stepped AllocError) (h new : Bulked) (x w : BulkPartsState) (ps : List LineProgress) (y z : LineProgress) (d : BulkDef) →
    s ≡ length script.sessions + i → IsRun script lines from h x → AreLines script lines h ps → slice_get ps i ≡ Some y → slice_get lines i ≡ Some d →
    (r ≡ Ok Stepped.Did → LineMoves script lines from s d h new x w z.steps z.failed) → (r ≡ Ok Stepped.Done → next script lines h s ≡ None) →
    (r ≢ Ok Stepped.Did → (new ≡ h) × (z ≡ y)) → (r ≢ Ok Stepped.Did → IsStill x w) → w.store.entities ≡ x.store.entities →
    LineTurned script lines from (length script.sessions + i) r h new x w (slice_set ps i z)
line_turned script lines from i s r h new x w ps y z d q run all p k did done same still entities = by_result r refl
  where
    its : ℕ
    its = length script.sessions + i

    by_move : r ≡ Ok Stepped.Did → LineMoves script lines from s d h new x w z.steps z.failed → LineTurned script lines from its r h new x w (slice_set ps i z)
    by_move u m = let o : Adds script lines its h new = subst (λ n. Adds script lines n h new) q (adds_line script lines from s d h new x w z.steps z.failed m) in record {
      turned = record {
        run = m.run;
        did = λ j. o;
        done = λ j. absurd (did_not (sym u ∙ j));
        same = λ j. absurd (j u);
        still = λ j. absurd (j u);
        fault = fault_by m.entry h new x w m.grown m.fault;
      };
      progress = lines_on script lines h new i ps y z all p
          (λ e f. subst (λ n. IsLine script new n e z.steps z.failed) q (subst (λ u. IsLine script new s u z.steps z.failed) (same_Some d e (sym k ∙ f)) m.stands)) o;
      rest = λ xs g. sessions_rest script lines h new i xs g o;
    }

    by_leave : (r ≡ Ok Stepped.Did → ⊥) → IsStill x w → (new ≡ h) × (z ≡ y) → LineTurned script lines from its r h new x w (slice_set ps i z)
    by_leave f t v = record {
      turned = record {
        run = run_still script lines from h new x w run t entities v.0;
        did = λ j. absurd (f j);
        done = λ j. ap (λ n. next script lines n its) v.0 ∙ subst (λ n. next script lines h n ≡ None) q (done j);
        same = λ j. v.0;
        still = λ j. t;
        fault = λ e u j. absurd (no_entry e h new v.0 u);
      };
      progress = subst (λ (j : Bulked). AreLines script lines j (slice_set ps i z)) (sym v.0) (lines_same script lines h i ps y z all p v.1);
      rest = λ xs g. subst (λ (j : Bulked). AreSessions script j xs) (sym v.0) g;
    }

    by_result : (q : Result Stepped AllocError) → r ≡ q → LineTurned script lines from its r h new x w (slice_set ps i z)
    by_result (Ok Stepped.Did) e = by_move e (did e)
    by_result (Ok Stepped.Done) e = let n : r ≢ Ok Stepped.Did = λ i. done_not (sym e ∙ i) in by_leave n (still n) (same n)
    by_result (Err u) e = let n : r ≢ Ok Stepped.Did = λ i. err_not u Stepped.Did (sym e ∙ i) in by_leave n (still n) (same n)
