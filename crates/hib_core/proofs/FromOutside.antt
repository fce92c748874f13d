-- A factory goes on by an act from outside of its sessions.
use Rattle.std.proofs.Common.{◌≡◌, ℕ, ◌+◌, ◌<◌, ◌^◌, true, false, cond, List, [], ◌∷◌, length, Some, None, Option, refl, sym, ap, ◌∙◌, subst, arith}
use Rattle.std.proofs.lemmas.Bool.{false≢true}
use Rattle.std.specs.Prelude.{option_map}
use Rattle.hib_base.specs.Tables.{Tables}
use Rattle.hib_base.proofs.Tables.{same_key_refl}
use Rattle.hib_journal.specs.Types.{Key, Change, Order, Script, Part, Act, Reply}
use Rattle.hib_journal.specs.Sessions.{Journal, is_open, changes}
use Rattle.hib_journal.specs.Next.{is_cached}
use Rattle.hib_journal.specs.Played.{play_order}
use Rattle.hib_journal.specs.Legal.{IsLegal, part_of, due, may_come, is_outside}
use Rattle.hib_journal.specs.Lists.{IsLate}
use Rattle.hib_journal.specs.Runs.{asks, ask_count, is_fault, fault_count}
use Rattle.hib_engines.specs.Engines.{EnginesState, AreStanding, IsAnswered}
use Rattle.hib_core.specs.Standing.{Origin, RoseBy, RoseWithin, outside_entry}
use Rattle.hib_core.specs.Factory.{Lawful, IsRun, IsAsked}
use Rattle.hib_core.specs.Playing.{played, Leads}
use Rattle.hib_engines.proofs.Bridge.{self_by}
use Rattle.hib_engines.proofs.Rose.{rose_more}
use Rattle.hib_core.proofs.Going.{late, timely, some_is}
use Rattle.hib_core.proofs.Playing.{leads_none}

-- the journal, its engines and its legality

pub goes_outside : Lawful → (script : Script) (from : Origin) (h : Journal) (a : Act) (r : Reply) (x y : EnginesState) → IsRun script from h x → is_outside a ≡ true → may_come script h (Some a) ≡ Some a →
    IsAnswered script from.tables h None (length h + 1) a r y → is_fault r ≡ false → y.store.faults ≡ x.store.faults → y.store.entities ≡ x.store.entities → length h < 2 ^ 62 →
    IsRun script from (outside_entry h a r ∷ h) y
goes_outside w script from h a r x y run o m v calm f n l = record {
  legal = legal_next;
  law = w script from.tables (outside_entry h a r ∷ h) legal_next;
  numbered = (refl, run.numbered);
  engines = v.standing;
  entities = n ∙ run.entities;
  faults = rose_more from.faults (fault_count h) x.store.faults (cond (is_fault r) 1 0) y.store.faults run.faults none;
  built = run.built;
}
  where
    none : RoseBy x.store.faults (cond (is_fault r) 1 0) y.store.faults
    none = rw calm (omega (arith, f))

    is_due : due script h (outside_entry h a r) ≡ Some a
    is_due = rw o refl

    legal_next : IsLegal script from.tables (outside_entry h a r ∷ h)
    legal_next = (
      run.legal,
      record {
        tick = timely h None 0 a r run.numbered l;
        session = some_is (due script h (outside_entry h a r)) a is_due;
        part = ap (λ z. option_map (λ a. part_of a 0) z) is_due;
        act = ap (λ z. may_come script h z) is_due ∙ m;
        reply = v.reply;
      },
    )

asks_nothing : (cs : List Change) (a : Act) → is_outside a ≡ true → asks cs a ≡ false
asks_nothing cs (Act.Kill n) o = refl
asks_nothing cs Act.Restart o = refl
asks_nothing cs (Act.Evict k) o = refl
asks_nothing cs _ o = absurd (false≢true o)

pub asked_outside : (from : Origin) (h : Journal) (a : Act) (r : Reply) (x y : EnginesState) → is_outside a ≡ true → y.store.asked ≡ x.store.asked → IsAsked from h x → IsAsked from (outside_entry h a r ∷ h) y
asked_outside from h a r x y o e g = subst (λ n. RoseWithin from.asked (ask_count h + n) y.store.asked) (sym (ap (λ b. cond b 1 0) (asks_nothing (changes 0 h) a o))) (record {
  later = omega (arith, g.later, e);
  few = omega (arith, g.few, e);
})

-- ---- a kill

pub kill_run : Lawful → (script : Script) (from : Origin) (h : Journal) (n : ℕ) (x y : EnginesState) → IsRun script from h x → is_open n h ≡ true → length h < 2 ^ 62 → y.store.faults ≡ x.store.faults →
    y.store.entities ≡ x.store.entities → ((s : Script) (told : Option Tables) (l : Journal) (now : ℕ) → AreStanding s told l x → IsLate Part.Registry now l → IsAnswered s told l None now (Act.Kill n) Reply.Done y) →
    IsRun script from (outside_entry h (Act.Kill n) Reply.Done ∷ h) y
kill_run w script from h n x y run o few f i answered = goes_outside w script from h (Act.Kill n) Reply.Done x y run refl (rw o refl)
    (answered script from.tables h (length h + 1) run.engines (late Part.Registry h (length h + 1) run.numbered refl)) refl f i few

pub kill_leads : (script : Script) (h : Journal) (n : ℕ) → is_open n h ≡ true → Leads (play_order script (Order.Kill n)) played h (outside_entry h (Act.Kill n) Reply.Done ∷ h)
kill_leads script h n o = record { added = outside_entry h (Act.Kill n) Reply.Done ∷ []; grown = refl; plays = λ rest. rw (o, self_by n) refl }

pub no_kill_leads : (script : Script) (h : Journal) (n : ℕ) → is_open n h ≡ false → Leads (play_order script (Order.Kill n)) played h h
no_kill_leads script h n o = leads_none (play_order script (Order.Kill n)) played h (λ rest. rw o refl)

-- ---- an eviction

pub evict_run : Lawful → (script : Script) (from : Origin) (h : Journal) (k : Key) (now : ℕ) (r : Reply) (x y : EnginesState) → IsRun script from h x → is_cached script k.entity ≡ true → length h < 2 ^ 62 →
    now ≡ length h + 1 → is_fault r ≡ false → y ≡ record x { regions = y.regions } →
    ((s : Script) (told : Option Tables) (l : Journal) → AreStanding s told l x → is_cached s k.entity ≡ true → IsLate (Part.Region k.entity) now l → IsAnswered s told l None now (Act.Evict k) r y) →
    IsRun script from (outside_entry h (Act.Evict k) r ∷ h) y
evict_run w script from h k now r x y run c few e calm q answered = goes_outside w script from h (Act.Evict k) r x y run refl (rw c refl)
    (subst (λ n. IsAnswered script from.tables h None n (Act.Evict k) r y) e (answered script from.tables h run.engines c (late (Part.Region k.entity) h now run.numbered e)))
    calm (ap (λ (v : EnginesState). v.store.faults) q) (ap (λ (v : EnginesState). v.store.entities) q) few

pub evict_leads : (script : Script) (h : Journal) (k : Key) (r : Reply) → Leads (play_order script (Order.Evict k)) played h (outside_entry h (Act.Evict k) r ∷ h)
evict_leads script h k r = record { added = outside_entry h (Act.Evict k) r ∷ []; grown = refl; plays = λ rest. rw (same_key_refl k) refl }

-- ---- a restart

pub restart_run : Lawful → (script : Script) (from : Origin) (h : Journal) (x y : EnginesState) → IsRun script from h x → length h < 2 ^ 62 → y.store.faults ≡ x.store.faults →
    y.store.entities ≡ x.store.entities → ((s : Script) (told : Option Tables) (l : Journal) (now : ℕ) → AreStanding s told l x → IsLate Part.Registry now l → IsAnswered s told l None now Act.Restart Reply.Done y) →
    IsRun script from (outside_entry h Act.Restart Reply.Done ∷ h) y
restart_run w script from h x y run few f i answered = goes_outside w script from h Act.Restart Reply.Done x y run refl refl
    (answered script from.tables h (length h + 1) run.engines (late Part.Registry h (length h + 1) run.numbered refl)) refl f i few

pub restart_leads : (script : Script) (h : Journal) → Leads (play_order script Order.Restart) played h (outside_entry h Act.Restart Reply.Done ∷ h)
restart_leads script h = record { added = outside_entry h Act.Restart Reply.Done ∷ []; grown = refl; plays = λ rest. refl }
