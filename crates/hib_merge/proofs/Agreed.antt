-- Sessions' lists that are the entries in a merged list agree with it, and what is torn is not whole.
use Rattle.std.specs.Prelude.{unwrap_or}
use Rattle.std.proofs.Common.{◌≡◌, ◌<◌, ◌≤◌, ◌==◌, ◌↔◌, inl, inr, ℕ, zero, suc, Bool, true, false, cond, nat_lt, List, [], ◌∷◌, map, reverse, take, length, slice_get, Some, None, Option, refl, sym, ap, ◌∙◌, subst, arith}
use Rattle.std.specs.List.{list_all}
use Rattle.std.specs.Option.{MatchOption, IsNone}
use Rattle.std.proofs.lemmas.Bool.{true≢false, false≢true, and_parts}
use Rattle.std.proofs.lemmas.Bool.Decides.{nat_tests}
use Rattle.std.proofs.lemmas.List.{reverse-reverse, length-map, get_or_past}
use Rattle.std.proofs.lemmas.Option.{same_Some}
use mathlib.Core.List.{reverse_aux}
use Rattle.hib_base.proofs.Tables.{Tested, tested}
use Rattle.hib_journal.specs.Types.{Entry}
use Rattle.hib_journal.specs.Sessions.{Journal, own, is_by, is_session}
use Rattle.hib_journal.specs.Kept.{Kept, past}
use Rattle.hib_split_law.specs.Apart.{HaveSessions}
use Rattle.hib_split_law.specs.Merged.{list_of, Agrees, AreDue, due_tick}
use Rattle.hib_merge.specs.declared.tearing.Torn.{Torn}
use Rattle.hib_merge.specs.Tearing.{lists_of, list_at, AreSameBelow, is_of_first, is_known, IsListsTorn, IsTickTorn, IsWhole, IsTorn}
use Rattle.hib_merge.proofs.Reversed.{own_reverse}

-- entries of the first sessions alone

first_session : (n : ℕ) (o : Option ℕ) → is_of_first n o ≡ true → o ≡ Some (unwrap_or o 0)
first_session n None k = absurd (false≢true k)
first_session n (Some s) k = refl

not_past : (n s : ℕ) (o : Option ℕ) → is_of_first n o ≡ true → n ≤ s → is_session s o ≡ false
not_past n s None k l = refl
not_past n s (Some m) k l = grind (arith, nat_tests)

sessions_onto : (n : ℕ) (l acc : List Entry) → list_all (is_known n) l ≡ true → HaveSessions acc → HaveSessions (reverse_aux l acc)
sessions_onto n [] acc k h = h
sessions_onto n (e ∷ l) acc k h =
    let m : (is_known n e ≡ true) × (list_all (is_known n) l ≡ true) = and_parts (is_known n e) (list_all (is_known n) l) k in
    sessions_onto n l (e ∷ acc) m.1 (h, first_session n e.session m.0)

own_past : (n s : ℕ) → n ≤ s → (l : List Entry) → list_all (is_known n) l ≡ true → own s l ≡ []
own_past n s p [] k = refl
own_past n s p (e ∷ l) k =
    let m : (is_known n e ≡ true) × (list_all (is_known n) l ≡ true) = and_parts (is_known n e) (list_all (is_known n) l) k in
    ap (λ b. cond b (e ∷ own s l) (own s l)) (not_past n s e.session m.0 p) ∙ own_past n s p l m.1

list_past : (mine : List Kept) (s : ℕ) → length mine ≤ s → list_at s mine ≡ []
list_past mine s p = get_or_past (lists_of mine) s [] (let e : length (lists_of mine) ≡ length mine = length-map mine (λ (k : Kept). k.list) in omega (arith, e, p))

list_back : (s : ℕ) (mine : List Kept) → list_of s (map past mine) ≡ reverse (list_at s mine)
unfolding past
list_back s [] = refl
list_back zero (k ∷ mine) = refl
list_back (suc s) (k ∷ mine) = list_back s mine

whole_lists : (mine : List Kept) (merged : Kept) → AreSameBelow (length mine) mine merged.list → list_all (is_known (length mine)) merged.list ≡ true → Agrees (map past mine) (past merged)
unfolding past
whole_lists mine merged same known = record {
  lists = λ s. own_reverse s merged.list ∙ (ap reverse (sym (by s (tested (nat_lt s (length mine))))) ∙ sym (list_back s mine));
  sessions = sessions_onto (length mine) merged.list [] known tt;
}
  where
    by : (s : ℕ) → Tested (nat_lt s (length mine)) → list_at s mine ≡ own s merged.list
    by s (inl p) = same s (let l : s < length mine = grind (arith, nat_tests) in l)
    by s (inr p) =
        let l : length mine ≤ s = grind (arith, nat_tests) in
        list_past mine s l ∙ sym (own_past (length mine) s l merged.list known)

-- and the other way round

agreed_lists : (mine : List Kept) (merged : Kept) → Agrees (map past mine) (past merged) → (s : ℕ) → list_at s mine ≡ own s merged.list
unfolding past
agreed_lists mine merged a s =
    sym (reverse-reverse (list_at s mine)) ∙ (ap reverse (sym (list_back s mine) ∙ (sym (a.lists s) ∙ own_reverse s merged.list)) ∙ reverse-reverse (own s merged.list))

session_there : (l : List Entry) (acc : Journal) (k : ℕ) (e : Entry) → HaveSessions (reverse_aux l acc) → slice_get l k ≡ Some e → e.session ≡ Some (unwrap_or e.session 0)
session_there [] acc k e h t = absurd (cc)
session_there (x ∷ l) acc zero e h t = subst (λ (y : Entry). y.session ≡ Some (unwrap_or y.session 0)) (same_Some x e t) (behind l (x ∷ acc) h).1
  where
    behind : (l : List Entry) (acc : Journal) → HaveSessions (reverse_aux l acc) → HaveSessions acc
    behind [] acc h = h
    behind (y ∷ l) acc h = (behind l (y ∷ acc) h).0
session_there (x ∷ l) acc (suc k) e h t = session_there l (x ∷ acc) k e h t

own_there : (s : ℕ) (l : List Entry) (k : ℕ) (e : Entry) → slice_get l k ≡ Some e → is_by s e ≡ true → own s l ≡ [] → ⊥
own_there s [] k e t b n = absurd (cc)
own_there s (x ∷ l) zero e t b n = cons (is_by s x) (ap (is_by s) (same_Some x e t) ∙ b) n
  where
    cons : (c : Bool) → c ≡ true → cond c (x ∷ own s l) (own s l) ≡ [] → ⊥
    cons true p q = cc
    cons false p q = false≢true p
own_there s (x ∷ l) (suc k) e t b n = own_there s l k e t b (rest (is_by s x) n)
  where
    rest : (c : Bool) → cond c (x ∷ own s l) (own s l) ≡ [] → own s l ≡ []
    rest true q = absurd (cc)
    rest false q = q

all_known : (mine : List Kept) (merged : Kept) → Agrees (map past mine) (past merged) → (k : ℕ) (e : Entry) → slice_get merged.list k ≡ Some e → is_known (length mine) e ≡ true
unfolding past
all_known mine merged a k e t = by (unwrap_or e.session 0) (session_there merged.list [] k e a.sessions t) (tested (nat_lt (unwrap_or e.session 0) (length mine)))
  where
    by : (s : ℕ) → e.session ≡ Some s → Tested (nat_lt s (length mine)) → is_known (length mine) e ≡ true
    by s q (inl p) = ap (is_of_first (length mine)) q ∙ p
    by s q (inr p) =
        let l : length mine ≤ s = grind (arith, nat_tests) in
        let self : (s == s) ≡ true = grind (arith, nat_tests) in
        absurd (own_there s merged.list k e t (ap (is_session s) q ∙ self) (sym (agreed_lists mine merged a s) ∙ list_past mine s l))

due_behind : (l : List Entry) (acc : Journal) → AreDue (reverse_aux l acc) → AreDue acc
due_behind [] acc d = d
due_behind (y ∷ l) acc d = (due_behind l (y ∷ acc) d).0

due_there : (l : List Entry) (acc : Journal) (k : ℕ) (e : Entry) → AreDue (reverse_aux l acc) → slice_get l k ≡ Some e → e.tick ≡ due_tick e (reverse_aux (take k l) acc)
due_there [] acc k e d t = absurd (cc)
due_there (x ∷ l) acc zero e d t = subst (λ (y : Entry). y.tick ≡ due_tick y acc) (same_Some x e t) (due_behind l (x ∷ acc) d).1
due_there (x ∷ l) acc (suc k) e d t = due_there l (x ∷ acc) k e d t

lists_not_whole : (mine : List Kept) (merged : Kept) (torn : Torn) → IsListsTorn mine merged.list torn → Agrees (map past mine) (past merged) → ⊥
lists_not_whole mine merged (Torn.Lists m p) (inl t) a = t.parts.other (ap (λ z. slice_get z t.place) (agreed_lists mine merged a t.session))
lists_not_whole mine merged (Torn.Lists m p) (inr t) a = true≢false (sym (all_known mine merged a t.first.place t.entry t.first.there) ∙ t.first.unknown)
lists_not_whole mine merged (Torn.Region k f) t a = t
lists_not_whole mine merged (Torn.Tick e d) t a = t

tick_not_due : (merged : Kept) (torn : Torn) → IsTickTorn merged.list torn → AreDue (past merged) → ⊥
unfolding past
tick_not_due merged (Torn.Lists m p) t d = t
tick_not_due merged (Torn.Region k f) t d = t
tick_not_due merged (Torn.Tick e n) t d = t.other (due_there merged.list [] t.place e d t.there ∙ sym t.due_is)

not_whole : (mine : List Kept) (merged : Kept) (torn : Torn) → IsTorn mine merged torn → IsWhole mine merged → ⊥
not_whole mine merged torn (inl t) w = lists_not_whole mine merged torn t w.0
not_whole mine merged torn (inr t) w = tick_not_due merged torn t.1 w.1

whole_ticks : (mine : List Kept) (merged : Kept) → Agrees (map past mine) (past merged) → (o : Option Torn) → MatchOption o (AreDue (reverse merged.list)) (IsTickTorn merged.list) →
    MatchOption o (IsWhole mine merged) (IsTorn mine merged)
unfolding past
whole_ticks mine merged a None m = (a, m)
whole_ticks mine merged a (Some torn) m = inr (a, m)

pub first_of : (mine lists : List Kept) (merged : Kept) (entries : List Entry) → lists ≡ mine → entries ≡ merged.list →
    AreSameBelow (length lists) lists entries → list_all (is_known (length lists)) entries ≡ true →
    (o : Option Torn) → MatchOption o (AreDue (reverse entries)) (IsTickTorn entries) → MatchOption o (IsWhole mine merged) (IsTorn mine merged)
first_of mine lists merged entries p q same known o m =
    let s : AreSameBelow (length mine) mine merged.list =
    subst (λ (l : List Entry). AreSameBelow (length mine) mine l) q (subst (λ (ks : List Kept). AreSameBelow (length ks) ks entries) p same) in
    let k : list_all (is_known (length mine)) merged.list ≡ true =
    subst (λ (l : List Entry). list_all (is_known (length mine)) l ≡ true) q (subst (λ (ks : List Kept). list_all (is_known (length ks)) entries ≡ true) p known) in
    whole_ticks mine merged (whole_lists mine merged s k) o (subst (λ (l : List Entry). MatchOption o (AreDue (reverse l)) (IsTickTorn l)) q m)

pub exact : (mine : List Kept) (merged : Kept) (o : Option Torn) → MatchOption o (IsWhole mine merged) (IsTorn mine merged) → IsNone o ↔ IsWhole mine merged
exact mine merged None m = (λ n. m, λ w. refl)
exact mine merged (Some torn) m = (λ n. absurd (true≢false n), λ w. absurd (not_whole mine merged torn m w))
