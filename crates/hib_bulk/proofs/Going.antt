-- A run with bulk lines goes on: with one entry more its journal is legal, and its parts stand for it.
use Rattle.std.specs.Prelude.{option_map}
use Rattle.std.specs.Option.{option_map_or, option_or}
use Rattle.std.proofs.Common.{◌≡◌, ℕ, suc, ◌+◌, ◌≤◌, ◌<◌, ◌^◌, Bool, true, false, cond, nat_lt, List, ◌∷◌, length, slice_get, Some, None, Option, refl, sym, ap, ◌∙◌, subst, arith}
use Rattle.hib_base.proofs.Tables.{same_key_refl}
use Rattle.hib_journal.specs.Types.{Key, Script, Act}
use Rattle.hib_journal.specs.Sessions.{own}
use Rattle.hib_journal.specs.Slot.{slot_from, slot}
use Rattle.hib_journal.specs.Next as Next
use Rattle.hib_outside.specs.Causes.{Rose}
use Rattle.hib_engines.specs.Counts.{RoseBy}
use Rattle.hib_engines.specs.Origin.{Origin}
use Rattle.hib_bulk.specs.Types.{BulkDef, BulkAct, BulkReply, BulkEntry}
use Rattle.hib_bulk_law.specs.Plain.{Bulked, plain}
use Rattle.hib_bulk_law.specs.Rows.{line}
use Rattle.hib_bulk_law.specs.Wide.{is_old, is_item_shut}
use Rattle.hib_bulk_law.specs.Acts.{next, next_of_line, after_sweep, swept_for, acts_of, steps_of}
use Rattle.hib_bulk_law.proofs.Entries.{no_next, tick_le, plain_sweeps}
use Rattle.hib_bulk.specs.Changed.{is_fault}
use Rattle.hib_bulk.specs.Standing.{BulkPartsState, IsLate, IsAnswered}
use Rattle.hib_bulk.specs.Run.{fault_count, IsRun, IsSwept, entry_of}

-- ---- the next act

pub next_by : (script : Script) (lines : List BulkDef) (h : Bulked) (s : ℕ) (a : Act) → Next.next script s (own s (plain h)) ≡ Some a → next script lines h s ≡ Some (after_sweep script h a)
next_by script lines h s a p = ap (λ o. option_or (option_map (after_sweep script h) o) (next_of_line script lines h s)) p

pub plain_due : (script : Script) (h : Bulked) (a : Act) → IsSwept script h a → after_sweep script h a ≡ BulkAct.Plain a
plain_due script h a f = by_key (swept_for a) refl
  where
    by_key : (o : Option Key) → swept_for a ≡ o → option_map_or (λ k. cond (is_old script k h) (BulkAct.Sweep k) (BulkAct.Plain a)) o (BulkAct.Plain a) ≡ BulkAct.Plain a
    by_key None q = refl
    by_key (Some k) q = rw (f k q) refl

pub sweep_due : (script : Script) (h : Bulked) (a : Act) (k : Key) → swept_for a ≡ Some k → is_old script k h ≡ true → after_sweep script h a ≡ BulkAct.Sweep k
sweep_due script h a k q o = rw (q, o) refl

pub next_of : (script : Script) (lines : List BulkDef) (h : Bulked) (s : ℕ) (d : BulkDef) → nat_lt s (length script.sessions) ≡ false → line script lines s ≡ Some d →
    next script lines h s ≡ slice_get (acts_of script s d) (steps_of s h)
next_of script lines h s d p q = ap (λ o. option_or (option_map (after_sweep script h) o) (next_of_line script lines h s)) (no_next script s (own s (plain h)) p) ∙ rw q refl

-- ---- the keeper's faults

rose_next : (from n now : ℕ) (b : Bool) (before : ℕ) → RoseBy from n before → before ≤ now → (b ≡ true → Rose before now) → RoseBy from (cond b (suc n) n) now
rose_next from n now true before w l f = let r = f refl in omega (arith, w, l, r)
rose_next from n now false before w l f = omega (arith, w, l)

-- ---- one entry more

pub goes_on : (script : Script) (lines : List BulkDef) (from : Origin) (h : Bulked) (s : ℕ) (a : BulkAct) (r : BulkReply) (x y : BulkPartsState) → IsRun script lines from h x →
    next script lines h s ≡ Some a → IsAnswered script lines from.tables h s (length h + 1) a r y → length h < 2 ^ 62 → x.store.faults ≤ y.store.faults →
    (is_fault r ≡ true → Rose x.store.faults y.store.faults) → y.store.entities ≡ x.store.entities → IsRun script lines from (entry_of h s a r ∷ h) y
goes_on script lines from h s a r x y run n v l f g e = record {
  legal = (run.legal, record { tick = refl; bounded = omega (arith, l); act = n; part = refl; reply = v.reply });
  standing = v.standing;
  ordered = run.ordered;
  faults = rose_next from.faults (fault_count h) y.store.faults (is_fault r) x.store.faults run.faults f g;
  entities = e ∙ run.entities;
  built = run.built;
}

pub late : (script : Script) (lines : List BulkDef) (from : Origin) (h : Bulked) (x : BulkPartsState) → IsRun script lines from h x → IsLate (length h + 1) (plain h)
late script lines from h x run p = let w = tick_le script lines from.tables p h run.legal in omega (arith, w)

-- what was swept away is not old any more
pub swept_not_old : (script : Script) (k : Key) (h : Bulked) (e : BulkEntry) → e.act ≡ BulkAct.Sweep k → e.reply ≡ BulkReply.Swept → is_old script k (e ∷ h) ≡ false
unfolding slot_from
swept_not_old script k h e a r = subst (λ g. is_item_shut k.entity (e ∷ h) (slot script.timeout k g) ≡ false) (sym (plain_sweeps e h k a)) (rw r (rw (same_key_refl k) refl))
