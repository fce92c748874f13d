-- The lists of a run on one worker: what those of parts are merged into is the run's journal.
use Rattle.std.proofs.Common.{◌≡◌, ◌<◌, ℕ, nat_lt, Bool, true, false, cond, ◌==◌, inl, inr, List, [], ◌∷◌, ◌++◌, length, map, Result, Ok, Err, OnOk, is_err, refl, sym, ap, ◌∙◌, subst, eqb-true, arith}
use Rattle.std.proofs.lemmas.Bool.{true≢false}
use Rattle.std.proofs.lemmas.Bool.Decides.{nat_tests}
use Rattle.std.proofs.lemmas.List.{map-append, length-map}
use Rattle.std.proofs.lemmas.List.Elements.{All-head, All-tail}
use Rattle.std.specs.List.{All}
use Rattle.hib_base.proofs.Tables.{Tested, tested}
use Rattle.hib_journal.specs.Types.{Part}
use Rattle.hib_journal.specs.Sessions.{Journal}
use Rattle.hib_journal.specs.Kept.{Kept, past}
use Rattle.hib_journal.specs.Lists.{of_part}
use Rattle.hib_split_law.specs.Apart.{is_own}
use Rattle.hib_split_law.specs.Merged.{of_part_in, list_of, IsMerged, Agrees, AreDue}
use Rattle.hib_split_law.proofs.Merge.{merged_once}
use Rattle.hib_parts.specs.Listed.{RegionState, WorkerState}
use Rattle.hib_parts.specs.Run.{list_in, list_on, with_own, AreOfRun, GoesOn}
use Rattle.hib_split.specs.Alone.{AreOfOne, AreWhole}
use Rattle.hib_split.proofs.Gathered.{list_below, list_here, list_beyond, list_past}

-- the same lists of sessions
abbrev pub run_same : (lists : Part → Journal) (f g : ℕ → Journal) → ((s : ℕ) → f s ≡ g s) → AreOfRun lists f → AreOfRun lists g
run_same lists f g e x = record {
  journal = x.journal;
  parts = x.parts;
  own_parts = λ s. x.own_parts s ∙ ap (of_part (Part.Own s)) (e s);
  sessions = λ s. x.sessions s ∙ e s;
  have_sessions = x.have_sessions;
  in_turn = x.in_turn;
  due = x.due;
}

-- a session that has done nothing has no list yet
pub begin_same : (mine : List Journal) (w : WorkerState) → w.number ≡ length mine → w.list ≡ [] → (s : ℕ) → list_of s mine ≡ with_own w (λ t. list_of t mine) s
begin_same mine w n e s = by (w.number == s) refl
  where
    by : (b : Bool) → (w.number == s) ≡ b → list_of s mine ≡ cond b w.list (list_of s mine)
    by true q =
        let i : w.number ≡ s = eqb-true w.number s q in
        list_past s mine (omega arith) ∙ sym e
    by false q = refl

-- its list comes after those of the sessions before it
pub end_same : (mine : List Journal) (v : WorkerState) → v.number ≡ length mine → (s : ℕ) → with_own v (λ t. list_of t mine) s ≡ list_of s (mine ++ v.list ∷ [])
end_same mine v n s = by (tested (nat_lt s v.number)) (tested (nat_lt v.number s))
  where
    less : (a b : ℕ) → nat_lt a b ≡ true → a < b
    less a b p = grind (arith, nat_tests)

    same : (a b : ℕ) → nat_lt a b ≡ false → nat_lt b a ≡ false → (b == a) ≡ true
    same a b p q = grind (arith, nat_tests)

    below : (a b : ℕ) → nat_lt a b ≡ true → (b == a) ≡ false
    below a b p = grind (arith, nat_tests)

    above : (a b : ℕ) → nat_lt b a ≡ true → (b == a) ≡ false
    above a b p = grind (arith, nat_tests)

    by : Tested (nat_lt s v.number) → Tested (nat_lt v.number s) → cond (v.number == s) v.list (list_of s mine) ≡ list_of s (mine ++ v.list ∷ [])
    by (inl b) t =
        let l : s < v.number = less s v.number b in
        ap (λ c. cond c v.list (list_of s mine)) (below s v.number b) ∙ sym (list_below s mine v.list (omega arith))
    by (inr b) (inl c) =
        let l : v.number < s = less v.number s c in
        ap (λ d. cond d v.list (list_of s mine)) (above s v.number c) ∙ (list_past s mine (omega arith) ∙ sym (list_beyond s mine v.list (omega arith)))
    by (inr b) (inr c) =
        let i : (v.number == s) ≡ true = same s v.number b c in
        ap (λ d. cond d v.list (list_of s mine)) i ∙ sym (subst (λ t. list_of t (mine ++ v.list ∷ []) ≡ v.list) (sym n ∙ eqb-true v.number s i) (list_here mine v.list))

-- a session more
pub session_run : (old new : Part → Journal) (ks ls : List Kept) (j : Kept) (n : ℕ) (w v : WorkerState) → n ≡ length ks → ls ≡ ks ++ j ∷ [] → w.number ≡ n → w.list ≡ [] → v.number ≡ w.number → past j ≡ v.list →
    GoesOn old w new v → AreOfOne old (map past ks) → AreOfOne new (map past ls)
session_run old new ks ls j n w v p q a e b f g x =
    let all : length (map past ks) ≡ length ks = length-map ks past in
    let first : w.number ≡ length (map past ks) = a ∙ (p ∙ sym all) in
    let listed : map past ks ++ v.list ∷ [] ≡ map past ls = sym (ap (map past) q ∙ (map-append past ks (j ∷ []) ∙ ap (λ l. map past ks ++ l ∷ []) f)) in
    subst (λ z. AreOfOne new z) listed
    (run_same new (with_own v (λ t. list_of t (map past ks))) (λ s. list_of s (map past ks ++ v.list ∷ [])) (end_same (map past ks) v (b ∙ first))
    (g.on (λ t. list_of t (map past ks)) (run_same old (λ s. list_of s (map past ks)) (with_own w (λ t. list_of t (map past ks))) (begin_same (map past ks) w first e) x)))

-- no session has begun

pub none_in : (n : ℕ) (rs : List RegionState) → All (λ r. r.list ≡ []) rs → list_in n rs ≡ []
none_in n [] a = refl
none_in n (r ∷ rs) a = by (r.entity == n) (none_in n rs (All-tail (λ x. x.list ≡ []) r rs a))
  where
    by : (b : Bool) → list_in n rs ≡ [] → cond b r.list (list_in n rs) ≡ []
    by true i = All-head (λ x. x.list ≡ []) r rs a
    by false i = i

abbrev pub run_begins : (r s m q : Journal) (rs : List RegionState) → r ≡ [] → s ≡ [] → m ≡ [] → q ≡ [] → All (λ x. x.list ≡ []) rs → AreOfOne (list_on r s m q rs) []
run_begins r s m q rs a b c d e = record {
  journal = [];
  parts = parts;
  own_parts = λ t. ap (of_part (Part.Own t)) (sym (list_past t [] (omega arith)));
  sessions = λ t. sym (list_past t [] (omega arith));
  have_sessions = tt;
  in_turn = tt;
  due = tt;
}
  where
    parts : (p : Part) → is_own p ≡ false → [] ≡ list_on r s m q rs p
    parts Part.Registry o = sym a
    parts Part.Store o = sym b
    parts Part.Stamps o = sym c
    parts Part.Results o = sym d
    parts (Part.Region n) o = sym (none_in n rs e)
    parts (Part.Own t) o = refl

-- what the lists are merged into is the journal

pub once : (lists : Part → Journal) (ls mine : List Journal) (x : AreOfOne lists mine) → ((p : Part) → is_own p ≡ false → of_part_in p ls ≡ lists p) → ((s : ℕ) → of_part_in (Part.Own s) ls ≡ of_part (Part.Own s) (list_of s mine)) →
    (h : Journal) → IsMerged ls h → x.journal ≡ h
once lists ls mine x shared own h m = merged_once ls x.journal h merged m
  where
    in_shared : (p : Part) → is_own p ≡ false → of_part p x.journal ≡ of_part_in p ls
    in_shared p o = x.parts p o ∙ sym (shared p o)

    parts : (p : Part) → of_part p x.journal ≡ of_part_in p ls
    parts Part.Registry = in_shared Part.Registry refl
    parts Part.Store = in_shared Part.Store refl
    parts Part.Stamps = in_shared Part.Stamps refl
    parts Part.Results = in_shared Part.Results refl
    parts (Part.Region n) = in_shared (Part.Region n) refl
    parts (Part.Own s) = x.own_parts s ∙ sym (own s)

    merged : IsMerged ls x.journal
    merged = record { parts = parts; in_turn = x.in_turn }

pub whole : (lists : Part → Journal) (ls mine : List Journal) → AreOfOne lists mine → ((p : Part) → is_own p ≡ false → of_part_in p ls ≡ lists p) → ((s : ℕ) → of_part_in (Part.Own s) ls ≡ of_part (Part.Own s) (list_of s mine)) → AreWhole ls mine
whole lists ls mine x shared own h m = subst (λ j. Agrees mine j × AreDue j) (once lists ls mine x shared own h m) (record { lists = x.sessions; sessions = x.have_sessions }, x.due)

pub lists_whole : (lists : Part → Journal) (ls ks ms js seen : List Kept) (mid : List Journal) → ls ≡ ks → ms ≡ js → seen ≡ js → AreOfOne lists (map past js) → ((p : Part) → is_own p ≡ false → of_part_in p mid ≡ lists p) →
    ((p : Part) → is_own p ≡ false → of_part_in p (map past ks) ≡ of_part_in p mid) → ((s : ℕ) → of_part_in (Part.Own s) (map past ks) ≡ of_part (Part.Own s) (list_of s (map past seen))) → AreWhole (map past ls) (map past ms)
lists_whole lists ls ks ms js seen mid e q v x shared kept own =
    subst (λ z. AreWhole (map past z) (map past ms)) (sym e) (subst (λ z. AreWhole (map past ks) (map past z)) (sym q)
    (whole lists (map past ks) (map past js) x (λ p o. kept p o ∙ shared p o) (λ s. own s ∙ ap (λ z. of_part (Part.Own s) (list_of s (map past z))) v)))

-- the lists of sessions are none before the first session
pub none_yet : (lists : Part → Journal) (ks : List Kept) → ks ≡ [] → AreOfOne lists [] → AreOfOne lists (map past ks)
none_yet lists ks e x = subst (λ z. AreOfOne lists (map past z)) (sym e) x

-- where a call was answered Ok
pub ok_then : {T E : Type 0} (r : Result T E) (P : Type 0) → is_err r ≡ false → OnOk r P → P
ok_then (Ok t) P e p = p
ok_then (Err x) P e p = absurd (true≢false e)
