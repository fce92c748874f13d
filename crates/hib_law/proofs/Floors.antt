-- The floor of an open session is no later than the time of any open session.
use Rattle.std.specs.Prelude.{unwrap_or}
use Rattle.std.proofs.Common.{◌≡◌, ℕ, ◌≤◌, min, inl, inr, Bool, true, false, cond, ◌&&◌, ◌||◌, ◌==◌, [], ◌∷◌, Some, None, Option, refl, sym, ◌∙◌, subst, arith, eq-eqb}
use Rattle.std.proofs.lemmas.Bool.{true≢false, false≢true, and_parts}
use Rattle.hib_journal.specs.Types.{Script, Act, Reply, Entry}
use Rattle.hib_base.specs.Tables.{Tables}
use Rattle.hib_journal.specs.Sessions.{Journal, is_by, is_session, own, time, floor, floor_in, floor_after, least_live, is_live, is_open, open_after, last_tick}
use Rattle.hib_journal.specs.Held.{is_begin}
use Rattle.hib_journal.specs.Legal.{IsLegal, IsReply, reply_of, fault_of}
use Rattle.hib_journal.specs.Sessions.{changes}
use Rattle.hib_base.proofs.Tables.{Tested, tested}
use Rattle.hib_law.proofs.Coherent.{open_before, ordered}
use Rattle.hib_journal.proofs.Sessions.{IsOrdered, time_same, time_le_tick, is_some_session, by}

-- whether u has a Begin in a journal
abbrev pub begun : ℕ → Journal → Bool
begun u [] = false
begun u (e ∷ h) = (is_by u e && is_begin e.act) || begun u h

begin_act : (a : Act) → is_begin a ≡ true → a ≡ Act.Begin
begin_act Act.Begin e = refl
begin_act _ e = absurd (false≢true e)

open_begun_step : (u : ℕ) (by : Option ℕ) (a : Act) (o b : Bool) → open_after u by a o ≡ true → (o ≡ true → b ≡ true) → ((is_session u by && is_begin a) || b) ≡ true
open_begun_step u by Act.Begin o b p f = begun_by (is_session u by) p
  where
    begun_by : (x : Bool) → (x || o) ≡ true → ((x && true) || b) ≡ true
    begun_by true p = refl
    begun_by false p = f p
open_begun_step u by Act.End o b p f = ended (is_session u by) p
  where
    ended : (x : Bool) → cond x false o ≡ true → ((x && false) || b) ≡ true
    ended true p = absurd (false≢true p)
    ended false p = f p
open_begun_step u by (Act.Kill n) o b p f = killed (n == u) (is_session u by) p
  where
    killed : (x y : Bool) → cond x false o ≡ true → ((y && false) || b) ≡ true
    killed true y p = absurd (false≢true p)
    killed false true p = f p
    killed false false p = f p
open_begun_step u by Act.Restart o b p f = absurd (false≢true p)
open_begun_step u by _ o b p f = other (is_session u by)
  where
    other : (y : Bool) → ((y && false) || b) ≡ true
    other true = f p
    other false = f p

pub open_begun : (u : ℕ) (h : Journal) → is_open u h ≡ true → begun u h ≡ true
open_begun u [] p = p
open_begun u (e ∷ h) p = open_begun_step u e.session e.act (is_open u h) (begun u h) p (open_begun u h)

cond_le : (b : Bool) (x y z : ℕ) → y ≤ z → cond b (min x y) y ≤ z
cond_le true x y z l = omega arith
cond_le false x y z l = l

pub least_le_now : (whole g : Journal) (now : ℕ) → least_live whole g now ≤ now
least_le_now whole [] now = omega arith
least_le_now whole (e ∷ g) now = cond_le (is_live whole e.act e.session e.tick) e.tick (least_live whole g now) now (least_le_now whole g now)

pub least_le : (whole g : Journal) (now u : ℕ) → is_open u whole ≡ true → time u g ≡ time u whole → begun u g ≡ true → least_live whole g now ≤ time u whole
least_le whole [] now u o t b = absurd (false≢true b)
least_le whole (e ∷ g) now u o t b = by_begin (tested (is_by u e && is_begin e.act)) (least_le whole g now u o)
  where
    by_begin : Tested (is_by u e && is_begin e.act) → (time u g ≡ time u whole → begun u g ≡ true → least_live whole g now ≤ time u whole) →
        least_live whole (e ∷ g) now ≤ time u whole
    by_begin (inr p) f =
        let q : begun u g ≡ true = rw p at b in
        cond_le (is_live whole e.act e.session e.tick) e.tick (least_live whole g now) (time u whole) (f (sym (time_same u e g p) ∙ t) q)
    by_begin (inl p) f =
        let q : (is_by u e ≡ true) × (is_begin e.act ≡ true) = and_parts (is_by u e) (is_begin e.act) p in
        let a : e.act ≡ Act.Begin = begin_act e.act q.1 in
        let s : e.session ≡ Some u = is_some_session u e.session q.0 in
        let w : time u (e ∷ g) ≡ e.tick = rw (q.0, a) refl in
        let v : time u whole ≡ e.tick = sym t ∙ w in
        let l : is_live whole e.act e.session e.tick ≡ true = rw (a, s, o) (eq-eqb (time u whole) e.tick v) in
        rw l (omega arith)

-- the last tick of some entries is no later than the last tick
pub last_le : (p : Entry → Bool) (h : Journal) → IsOrdered h → last_tick p h ≤ last_tick (λ d. true) h
last_le p [] o = omega arith
last_le p (e ∷ h) o = by_test (tested (p e)) (last_le p h o.1) o.0.ordered
  where
    by_test : Tested (p e) → last_tick p h ≤ last_tick (λ d. true) h → last_tick (λ d. true) h ≤ e.tick → last_tick p (e ∷ h) ≤ e.tick
    by_test (inl t) i l = rw t (omega arith)
    by_test (inr t) i l = rw t (omega arith)

floor_kept : (a : Act) (r : Reply) (f : ℕ) → is_begin a ≡ false → floor_after a r f ≡ f
floor_kept Act.Begin r f p = absurd (true≢false p)
floor_kept _ r f p = refl

floor_same : (s : ℕ) (e : Entry) (h : Journal) → (is_by s e && is_begin e.act) ≡ false → floor_in (own s (e ∷ h)) ≡ floor_in (own s h)
floor_same s e h p = by_session (tested (is_by s e)) p
  where
    by_session : Tested (is_by s e) → (is_by s e && is_begin e.act) ≡ false → floor_in (own s (e ∷ h)) ≡ floor_in (own s h)
    by_session (inl b) q = let r : is_begin e.act ≡ false = rw b at q in rw b (floor_kept e.act e.reply (floor_in (own s h)) r)
    by_session (inr b) q = rw b

-- a Begin answers the floor
begin_reply : (script : Script) (start : Tables) (h : Journal) (e : Entry) → IsReply script (Some start) h e → e.act ≡ Act.Begin →
    e.reply ≡ Reply.Began (floor h e.tick)
begin_reply script start h e r a = elim r [
  | inl q ↦ subst (λ z. e.reply ≡ reply_of script start h (unwrap_or e.session 0) e.tick z) a q
  | inr f ↦ let g : ◌≡◌ {A = Option Reply} None (Some e.reply) = subst (λ z. fault_of (changes (unwrap_or e.session 0) h) z ≡ Some e.reply) a f in absurd (no g)
]
  where
    no : ◌≡◌ {A = Option Reply} None (Some e.reply) → ⊥
    no g = cc

-- each Begin answers the floor
abbrev pub AreFloored : Journal → Type 0
AreFloored [] = Unit {0}
AreFloored (e ∷ h) = AreFloored h × (e.act ≡ Act.Begin → e.reply ≡ Reply.Began (floor h e.tick))

pub floors_le_by : (h : Journal) → IsOrdered h → AreFloored h → (s u : ℕ) → is_open s h ≡ true → is_open u h ≡ true →
    floor_in (own s h) ≤ time u h
floors_le_by [] o l s u p q = absurd (false≢true p)
floors_le_by (e ∷ h) o l s u p q =
    by_both (tested (is_by s e && is_begin e.act)) (tested (is_by u e && is_begin e.act)) (floors_le_by h o.1 l.0)
  where
    starts : (v : ℕ) → (is_by v e && is_begin e.act) ≡ true → (is_by v e ≡ true) × (e.act ≡ Act.Begin)
    starts v x = let y : (is_by v e ≡ true) × (is_begin e.act ≡ true) = and_parts (is_by v e) (is_begin e.act) x in (y.0, begin_act e.act y.1)

    floor_is : (is_by s e && is_begin e.act) ≡ true → floor_in (own s (e ∷ h)) ≡ floor h e.tick
    floor_is x =
        let y : (is_by s e ≡ true) × (e.act ≡ Act.Begin) = starts s x in
        rw (y.0, y.1, l.1 y.1) refl

    time_is : (is_by u e && is_begin e.act) ≡ true → time u (e ∷ h) ≡ e.tick
    time_is x = let y : (is_by u e ≡ true) × (e.act ≡ Act.Begin) = starts u x in rw (y.0, y.1) refl

    by_both : Tested (is_by s e && is_begin e.act) → Tested (is_by u e && is_begin e.act) →
        ((a b : ℕ) → is_open a h ≡ true → is_open b h ≡ true → floor_in (own a h) ≤ time b h) → floor_in (own s (e ∷ h)) ≤ time u (e ∷ h)
    by_both (inl x) (inl y) f = rw (floor_is x, time_is y) (least_le_now h h e.tick)
    by_both (inl x) (inr y) f =
        let w : is_open u h ≡ true = open_before u e.session e.act (is_open u h) y q in
        rw (floor_is x, time_same u e h y) (least_le h h e.tick u w refl (open_begun u h w))
    by_both (inr x) (inl y) f =
        let w : is_open s h ≡ true = open_before s e.session e.act (is_open s h) x p in
        let a : floor_in (own s h) ≤ time s h = f s s w w in
        let b : time s h ≤ last_tick (by s) h = time_le_tick s h o.1 in
        let c : last_tick (by s) h ≤ last_tick (λ d. true) h = last_le (by s) h o.1 in
        let d : last_tick (λ d. true) h ≤ e.tick = o.0.ordered in
        rw (floor_same s e h x, time_is y) (omega arith)
    by_both (inr x) (inr y) f =
        rw (floor_same s e h x, time_same u e h y)
        (f s u (open_before s e.session e.act (is_open s h) x p) (open_before u e.session e.act (is_open u h) y q))

pub floored : (script : Script) (start : Tables) (h : Journal) → IsLegal script (Some start) h → AreFloored h
floored script start [] l = tt
floored script start (e ∷ h) l = (floored script start h l.0, λ a. begin_reply script start h e l.1.reply a)

pub floors_le : (script : Script) (start : Tables) (h : Journal) → IsLegal script (Some start) h → (s u : ℕ) → is_open s h ≡ true → is_open u h ≡ true →
    floor_in (own s h) ≤ time u h
floors_le script start h l s u p q = floors_le_by h (ordered script start h l) (floored script start h l) s u p q
