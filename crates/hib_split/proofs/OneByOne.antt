-- On one worker sessions come one after the other, in order of number: each ends on the registry, where the next one begins.
use Rattle.std.specs.Prelude.{not}
use Rattle.std.proofs.Common.{◌≡◌, ◌≤◌, ◌+◌, ℕ, Bool, true, false, cond, List, [], ◌∷◌, ◌++◌, length, map, slice_get, Some, None, Option, refl, sym, ap, ◌∙◌, subst, eq-eqb, inl, inr, arith}
use Rattle.std.proofs.lemmas.Bool.{true≢false, false≢true}
use Rattle.std.proofs.lemmas.List.{map-append, length-append, length-map}
use Rattle.std.specs.List.{All}
use Rattle.hib_base.specs.Scripts.{are_over, is_over}
use Rattle.hib_base.specs.Valid.{is_valid}
use Rattle.hib_base.proofs.Lists.{all_at}
use Rattle.hib_base.proofs.Valid.{rules}
use Rattle.hib_journal.specs.Types.{Act, Part, Entry, Script, SessionDef, Statement}
use Rattle.hib_journal.specs.Sessions.{Journal, own, is_by, is_begun, begun_after, same_part, last_tick}
use Rattle.hib_journal.specs.Held.{is_begin}
use Rattle.hib_journal.specs.Legal.{part_of}
use Rattle.hib_journal.specs.Next.{plan_of, next, ends}
use Rattle.hib_journal.specs.Due.{closes, is_closed, IsAllowed}
use Rattle.hib_journal.specs.Kept.{Kept, past}
use Rattle.hib_journal.specs.Lists.{of_part}
use Rattle.hib_journal.specs.Plan.{InOrder}
use Rattle.hib_journal.specs.Runs.{IsNumbered}
use Rattle.hib_journal.proofs.Due.{allowed_due, closed_end}
use Rattle.hib_split_law.specs.Apart.{is_own, IsOwnLegal}
use Rattle.hib_split_law.specs.Merged.{of_part_in, list_of, AreDue}
use Rattle.hib_split_law.proofs.Apart.{last_picked}
use Rattle.hib_split_law.proofs.Merge.{last_few}
use Rattle.hib_parts.specs.Listed.{RegionState, WorkerState, last_of}
use Rattle.hib_parts.specs.Run.{list_on, with_own, last_session, GoesOn, IsNext, IsOneByOne, AreOfRunOneByOne}
use Rattle.hib_parts.proofs.Lists.{in_order}
use Rattle.hib_split.specs.Alone.{AreSoFar, AreOneByOne}
use Rattle.hib_split.proofs.Whole.{run_same, begin_same, end_same, run_begins, once}

-- ---- a session of a valid script ends its transactions

over_closes : (b : Bool) (sts : List Statement) → are_over sts ≡ true → closes b sts ≡ true
over_closes b [] e = absurd (false≢true e)
over_closes b (t ∷ []) e = e
over_closes b (t ∷ u ∷ ts) e = over_closes (ends t) (u ∷ ts) e

valid_closed : (script : Script) (s : ℕ) → is_valid script ≡ true → is_closed script s ≡ true
valid_closed script s v = by (slice_get script.sessions s) refl
  where
    by : (o : Option SessionDef) → slice_get script.sessions s ≡ o → is_closed script s ≡ true
    by None q = rw q refl
    by (Some d) q = rw q (over_closes true d.statements (all_at is_over script.sessions s d (rules script v).over q))

-- so its last entry is on the registry

ends_on : (a : Act) (b : Bool) (s : ℕ) → b ≡ not (is_begin a) → begun_after a b ≡ false → part_of a s ≡ Part.Registry
ends_on Act.Begin b s q f = refl
ends_on Act.End b s q f = refl
ends_on _ b s q f = absurd (true≢false (sym q ∙ f))

last_on : (script : Script) (s : ℕ) (e : Entry) (m : Journal) → IsOwnLegal script s (e ∷ m) → next script s (e ∷ m) ≡ None → is_closed script s ≡ true → e.part ≡ Part.Registry
last_on script s e m l n k =
    let o : InOrder (plan_of script s) (e ∷ m) = in_order script s (e ∷ m) l in
    let a : IsAllowed script s m e.act = allowed_due script s m e.act o.0 l.1.act in
    sym l.1.part ∙ ends_on e.act (is_begun m) s a.begun (closed_end script s (e ∷ m) o n k)

-- ---- after its last entry another one may begin

head_on : (s : ℕ) (h : Journal) (e : Entry) (m : Journal) → IsNumbered h → AreDue h → own s h ≡ e ∷ m → last_of h ≤ e.tick → e.part ≡ Part.Registry → last_of h ≤ last_of (of_part Part.Registry h)
head_on s [] e m n u q l r = omega arith
head_on s (d ∷ h) e m n u q l r = by (is_by s d) refl q
  where
    same : (x y : Entry) (k j : Journal) → x ∷ k ≡ y ∷ j → x ≡ y
    same x y k j p = cc

    by : (b : Bool) → is_by s d ≡ b → cond b (d ∷ own s h) (own s h) ≡ e ∷ m → d.tick ≤ last_of (cond (same_part Part.Registry d.part) (d ∷ of_part Part.Registry h) (of_part Part.Registry h))
    by true t p =
        let on : d.part ≡ Part.Registry = ap (λ x. x.part) (same d e (own s h) m p) ∙ r in
        subst (λ x. d.tick ≤ last_of (cond (same_part Part.Registry x) (d ∷ of_part Part.Registry h) (of_part Part.Registry h))) (sym on) (omega arith)
    by false t p =
        let few : last_tick (is_by s) h ≤ length h = last_few (is_by s) h u.0 in
        let here : last_tick (is_by s) h ≡ e.tick = last_picked (own s) (is_by s) (λ a k. refl) refl h ∙ ap last_of p in
        let newest : d.tick ≡ length h + 1 = n.0 in
        let least : d.tick ≤ e.tick = l in
        absurd (omega (arith, few, here, newest, least))

-- the session had these entries when it came to its end
ended : (script : Script) (lists : Part → Journal) (mine : ℕ → Journal) (s : ℕ) (m : Journal) → IsOwnLegal script s m → next script s m ≡ None → is_closed script s ≡ true → mine s ≡ m →
    (x : AreOfRunOneByOne lists mine s m) → last_of x.run.journal ≤ last_of (lists Part.Registry)
ended script lists mine s [] l n k q x = by x.next
  where
    by : IsNext (lists Part.Registry) [] x.run.journal → last_of x.run.journal ≤ last_of (lists Part.Registry)
    by (inl i) = let none : last_of x.run.journal ≤ 0 = i in omega (arith, none)
    by (inr i) = i.1
ended script lists mine s (e ∷ m) l n k q x = by x.next
  where
    none : e ∷ m ≡ [] → ⊥
    none p = cc

    by : IsNext (lists Part.Registry) (e ∷ m) x.run.journal → last_of x.run.journal ≤ last_of (lists Part.Registry)
    by (inl i) =
        subst (λ r. last_of x.run.journal ≤ last_of r) (x.run.parts Part.Registry refl)
        (head_on s x.run.journal e m x.one_by_one.numbered x.run.due (x.run.sessions s ∙ q) i (last_on script s e m l n k))
    by (inr i) = absurd (none i.0)

-- ---- a session more

pub session_more : (script : Script) (old new : Part → Journal) (ks ls : List Kept) (j : Kept) (n : ℕ) (w v : WorkerState) → is_valid script ≡ true → n ≡ length ks → ls ≡ ks ++ j ∷ [] → w.number ≡ n → w.list ≡ [] → v.number ≡ w.number →
    past j ≡ v.list → IsOwnLegal script n (past j) → next script n (past j) ≡ None → GoesOn old w new v → AreSoFar old (map past ks) → AreSoFar new (map past ls)
session_more script old new ks ls j n w v valid p q a e b f l z g x =
    let first : w.number ≡ length (map past ks) = a ∙ (p ∙ sym (length-map ks past)) in
    let listed : map past ks ++ v.list ∷ [] ≡ map past ls = sym (ap (map past) q ∙ (map-append past ks (j ∷ []) ∙ ap (λ y. map past ks ++ y ∷ []) f)) in
    subst (λ y. AreSoFar new y) listed (end (map past ks) (b ∙ first) (g.one_by_one (λ t. list_of t (map past ks)) (begin (map past ks) first x)))
  where
    begin : (mine : List Journal) → w.number ≡ length mine → AreSoFar old mine → AreOfRunOneByOne old (with_own w (λ t. list_of t mine)) w.number w.list
    begin mine i y = record {
      run = run_same old (λ s. list_of s mine) (with_own w (λ t. list_of t mine)) (begin_same mine w i e) y.run;
      one_by_one = y.one_by_one;
      below = subst (λ k. last_session y.run.journal ≤ k) (sym i) y.below;
      next = subst (λ m. IsNext (old Part.Registry) m y.run.journal) (sym e) y.next;
    }

    legal : IsOwnLegal script v.number v.list
    legal = subst (λ k. IsOwnLegal script k v.list) (sym (b ∙ a)) (subst (IsOwnLegal script n) f l)

    over : next script v.number v.list ≡ None
    over = subst (λ k. next script k v.list ≡ None) (sym (b ∙ a)) (subst (λ m. next script n m ≡ None) f z)

    end : (mine : List Journal) → v.number ≡ length mine → AreOfRunOneByOne new (with_own v (λ t. list_of t mine)) v.number v.list → AreSoFar new (mine ++ v.list ∷ [])
    end mine i y =
        let more : length (mine ++ v.list ∷ []) ≡ length mine + 1 = length-append mine (v.list ∷ []) in
        let below : last_session y.run.journal ≤ v.number = y.below in
        let self : with_own v (λ t. list_of t mine) v.number ≡ v.list = ap (λ c. cond c v.list (list_of v.number mine)) (eq-eqb v.number v.number refl) in
        record {
          run = run_same new (with_own v (λ t. list_of t mine)) (λ s. list_of s (mine ++ v.list ∷ [])) (end_same mine v i) y.run;
          one_by_one = y.one_by_one;
          below = omega (arith, more, below, i);
          next = inr (refl, ended script new (with_own v (λ t. list_of t mine)) v.number v.list legal over (valid_closed script v.number valid) self y);
        }

-- ---- a whole run

pub begins : (r s m q : Journal) (rs : List RegionState) → r ≡ [] → s ≡ [] → m ≡ [] → q ≡ [] → All (λ x. x.list ≡ []) rs → AreSoFar (list_on r s m q rs) []
begins r s m q rs a b c d e = record {
  run = run_begins r s m q rs a b c d e;
  one_by_one = record { order = tt; numbered = tt };
  below = omega arith;
  next = inl (omega arith);
}

pub none_so_far : (lists : Part → Journal) (ks : List Kept) → ks ≡ [] → AreSoFar lists [] → AreSoFar lists (map past ks)
none_so_far lists ks e x = subst (λ z. AreSoFar lists (map past z)) (sym e) x

pub lists_one_by_one : (lists : Part → Journal) (ls ks js seen : List Kept) (mid : List Journal) → ls ≡ ks → seen ≡ js → AreSoFar lists (map past js) → ((p : Part) → is_own p ≡ false → of_part_in p mid ≡ lists p) →
    ((p : Part) → is_own p ≡ false → of_part_in p (map past ks) ≡ of_part_in p mid) → ((s : ℕ) → of_part_in (Part.Own s) (map past ks) ≡ of_part (Part.Own s) (list_of s (map past seen))) → AreOneByOne (map past ls)
lists_one_by_one lists ls ks js seen mid e v x shared kept own = subst (λ z. AreOneByOne (map past z)) (sym e) merged
  where
    merged : AreOneByOne (map past ks)
    merged h m =
        subst IsOneByOne (once lists (map past ks) (map past js) x.run (λ p o. kept p o ∙ shared p o) (λ s. own s ∙ ap (λ z. of_part (Part.Own s) (list_of s (map past z))) v) h m) x.one_by_one
