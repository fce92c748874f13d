-- A run whose lists fit together has one journal, and one that is torn has two values that differ.
use Rattle.std.proofs.Common.{◌≡◌, ◌≤◌, ◌^◌, ℕ, zero, suc, Bool, true, false, ◌&&◌, List, [], ◌∷◌, length, map, Some, None, Option, refl, sym, ap, ◌∙◌, subst, inl, inr, arith}
use Rattle.std.specs.Prelude.{not, is_some}
use Rattle.std.specs.Option.{option_map}
use Rattle.hib_base.specs.Tables.{Tables}
use Rattle.hib_base.specs.declared.entries.Part.{Part}
use Rattle.hib_journal.specs.Types.{Script}
use Rattle.hib_journal.specs.Kept.{Kept, past}
use Rattle.hib_journal.specs.Sessions.{Journal, committed, was_killed}
use Rattle.hib_journal.specs.Legal.{IsLegal}
use Rattle.hib_journal.specs.Lists.{of_part, stored}
use Rattle.hib_journal.specs.Next.{next}
use Rattle.hib_journal.specs.Runs.{told_committed}
use Rattle.hib_law.specs.Law.{Obeys}
use Rattle.hib_split_law.specs.Apart.{HaveSessions, IsStoreAlone, store_ask_count}
use Rattle.hib_split_law.specs.Merged.{Agrees, AreBounded, AreDue, AreOwnLegal, ArePartsLegal, IsMerged, of_part_in}
use Rattle.hib_merge.specs.Tearing.{IsTorn}
use Rattle.hib_merge.specs.declared.tearing.Torn.{Torn}
use Rattle.hib_session.specs.Bound.{one_if_none, outside_count}
use Rattle.hib_session.specs.Sessions.{AreOver}
use Rattle.hib_engines.specs.Counts.{RoseBy, RoseWithin}
use Rattle.hib_engines.specs.Origin.{Origin}
use Rattle.hib_split.specs.Alone.{AreAtEnds, AreListed, AreOneByOne, IsToldBy}
use Rattle.hib_joined.specs.declared.joining.Joined.{Joined}
use Rattle.hib_joined.specs.Joined.{AreApart, AreJoined, AreJoinedUnless}
use Rattle.hib_joined.specs.Run.{CameToOne, HaveParted, IsOneRun}

-- ---- laws that are called
abbrev pub LegalMerged : Type 0
LegalMerged =
    (script : Script) (told : Option Tables) (lists mine : List Journal) (h : Journal) →
    ArePartsLegal script told lists → AreOwnLegal script mine → IsMerged lists h → Agrees mine h → AreBounded h → IsLegal script told h

abbrev pub FewDue : Type 0
FewDue = (h : Journal) → AreDue h → length h ≤ 2 ^ 62 → AreBounded h

abbrev pub StoreAlone : Type 0
StoreAlone = (script : Script) (told : Option Tables) (h : Journal) → HaveSessions h → IsLegal script told h → IsStoreAlone h (of_part Part.Store h)

abbrev pub Obeyed : Type 0
Obeyed = (script : Script) (told : Option Tables) (h : Journal) → IsLegal script told h → Obeys script told h

-- ---- one journal
inside : (h : Journal) → HaveSessions h → outside_count h ≡ 0
inside [] s = refl
inside (e ∷ h) s =
    let i : outside_count h ≡ 0 = inside h s.0 in
    let o : one_if_none e.session ≡ 0 = ap one_if_none s.1 in
    omega (arith, i, o)

and_false : (b : Bool) → (b && false) ≡ false
and_false true = refl
and_false false = refl

over : (script : Script) (mine : List Journal) (h : Journal) → AreAtEnds script (length script.sessions) mine → Agrees mine h → AreOver script h
over script mine h ends a = λ s l.
    ap (λ (o : Option _). not (was_killed s h) && is_some o) (ap (next script s) (a.lists s) ∙ ends s l) ∙ and_false (not (was_killed s h))

rows_of : (told : Option Tables) (h l : Journal) → ((start : Tables) → committed start h ≡ stored start l) → option_map (λ start. stored start l) told ≡ told_committed told h
rows_of None h l e = refl
rows_of (Some t) h l e = ap Some (sym (e t))

one : LegalMerged → FewDue → StoreAlone → Obeyed → (script : Script) (from : Origin) (lists mine : List Journal) (h : Journal) (rows : Option Tables) (failed asked_for : ℕ) →
    AreListed script from.tables lists mine → AreAtEnds script (length script.sessions) mine → IsToldBy from (of_part_in Part.Store lists) rows failed →
    RoseWithin from.asked (store_ask_count (of_part_in Part.Store lists)) asked_for → IsMerged lists h → Agrees mine h → AreDue h → length h ≤ 2 ^ 62 →
    IsOneRun script from h rows failed asked_for
one lm fd sa ob script from lists mine h rows failed asked_for listed ends told asked m a d few =
    let legal : IsLegal script from.tables h = lm script from.tables lists mine h listed.parts listed.sessions m a (fd h d few) in
    let alone : IsStoreAlone h (of_part Part.Store h) = sa script from.tables h a.sessions legal in
    let store : IsStoreAlone h (of_part_in Part.Store lists) = subst (λ (l : Journal). IsStoreAlone h l) (m.parts Part.Store) alone in
    record {
      legal = legal;
      law = ob script from.tables h legal;
      inside = inside h a.sessions;
      due = d;
      over = over script mine h ends a;
      committed = told.rows ∙ rows_of from.tables h (of_part_in Part.Store lists) store.rows;
      faults = subst (λ (n : ℕ). RoseBy from.faults n failed) (sym store.faults) told.faults;
      asked = subst (λ (n : ℕ). RoseWithin from.asked n asked_for) (sym store.asked) asked;
    }

-- ---- what is torn
none_some : {A : Type 0} (x : A) → None ≡ Some x → ⊥
none_some x p = cc

apart : (mine : List Kept) (j : Kept) (t : Torn) → IsTorn mine j t → AreApart t
apart mine j (Torn.Lists m p) (inl (inl s)) = λ q. s.parts.other (sym s.listed ∙ q ∙ s.merged)
apart mine j (Torn.Lists m p) (inl (inr s)) = λ q. none_some s.entry (sym s.listed ∙ q ∙ s.merged)
apart mine j (Torn.Lists m p) (inr x) = absurd x.1
apart mine j (Torn.Region a f) (inl x) = absurd x
apart mine j (Torn.Region a f) (inr x) = absurd x.1
apart mine j (Torn.Tick e due) (inl x) = absurd x
apart mine j (Torn.Tick e due) (inr x) = x.1.other

parted : (script : Script) (told : Option Tables) (lists : List Journal) (mine : List Kept) (t : Torn) → AreListed script told lists (map past mine) → AreJoined lists mine (Joined.Torn t) → HaveParted script told t
parted script told lists mine (Torn.Lists m p) listed j = (lists, mine, listed, j)
parted script told lists mine (Torn.Region a f) listed j = tt
parted script told lists mine (Torn.Tick e due) listed j = (lists, mine, listed, j)

two : (n : ℕ) → 1 ≤ n → (n ≡ 1 → ⊥) → 2 ≤ n
two zero l other = omega (arith, l)
two (suc zero) l other = absurd (other refl)
two (suc (suc n)) l other = omega arith

-- ---- the run
pub came_to : LegalMerged → FewDue → StoreAlone → Obeyed → (n : ℕ) (script : Script) (from : Origin) (lists mine : List Kept) (strange : Option (ℕ × ℕ)) (short : Bool) (joined : Joined)
    (rows : Option Tables) (failed asked_for : ℕ) → 1 ≤ n → AreListed script from.tables (map past lists) (map past mine) →
    (strange ≡ None → short ≡ false → AreAtEnds script (length script.sessions) (map past mine)) →
    (strange ≡ None → IsToldBy from (of_part_in Part.Store (map past lists)) rows failed) →
    (strange ≡ None → short ≡ false → RoseWithin from.asked (store_ask_count (of_part_in Part.Store (map past lists))) asked_for) →
    (n ≡ 1 → strange ≡ None) →
    (n ≡ 1 → short ≡ false → (h : Journal) → IsMerged (map past lists) h → Agrees (map past mine) h × AreDue h) →
    (n ≡ 1 → short ≡ false → AreOneByOne (map past lists)) → RoseBy from.faults 0 failed → AreJoinedUnless strange short (map past lists) mine joined → CameToOne n script from joined rows failed asked_for
came_to lm fd sa ob n script from lists mine (Some p) short joined rows failed asked_for l listed ends told asked alone whole order f j =
    subst (λ (z : Joined). CameToOne n script from z rows failed asked_for) (sym j.0) (two n l (λ e. none_some p (sym (alone e))), j.1, tt, f)
came_to lm fd sa ob n script from lists mine None true joined rows failed asked_for l listed ends told asked alone whole order f j =
    subst (λ (z : Joined). CameToOne n script from z rows failed asked_for) (sym j) f
came_to lm fd sa ob n script from lists mine None false (Joined.One k) rows failed asked_for l listed ends told asked alone whole order f j = (
  one lm fd sa ob script from (map past lists) (map past mine) (past k) rows failed asked_for listed (ends refl refl) (told refl) (asked refl refl) j.0 j.1.0 j.1.1 j.2,
  λ e. order e refl (past k) j.0,
)
came_to lm fd sa ob n script from lists mine None false (Joined.Torn t) rows failed asked_for l listed ends told asked alone whole order f j =
    (two n l (λ e. j.3 (whole e refl (past j.0) j.1)), apart mine j.0 t j.2, parted script from.tables (map past lists) mine t listed j, f)
came_to lm fd sa ob n script from lists mine None false Joined.NoMemory rows failed asked_for l listed ends told asked alone whole order f j = f
