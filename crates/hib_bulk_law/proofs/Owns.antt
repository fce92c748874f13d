-- In a legal journal with bulk lines each session keeps to its plan, and a line to its list of acts.
use Rattle.std.specs.Prelude.{option_map, unwrap_or, is_some}
use Rattle.std.proofs.Common.{◌≡◌, ℕ, zero, suc, ◌⊎◌, inl, inr, Bool, true, false, cond, ◌||◌, ◌==◌, slice_get, List, [], ◌∷◌, Some, None, Option, refl, ap, sym, ◌∙◌, subst}
use Rattle.std.proofs.lemmas.Bool.{false≢true, or_parts, eqb-true}
use Rattle.hib_base.specs.Keys.{same_key}
use Rattle.hib_base.specs.Tables.{Tables}
use Rattle.hib_base.proofs.Tables.{Tested, tested, same_key_eq}
use Rattle.hib_journal.specs.Types.{Key, Row, Strategy, Script, Act, Reply}
use Rattle.hib_journal.specs.Sessions.{Journal, own, is_by, floor, changes, changes_in}
use Rattle.hib_journal.specs.Held.{held}
use Rattle.hib_journal.specs.Plan.{InOrder}
use Rattle.hib_journal.specs.Next
use Rattle.hib_journal.specs.Next.{strategy, plan_of, is_cached, is_in}
use Rattle.hib_journal.specs.Legal
use Rattle.hib_journal.proofs.Sessions.{IsOrdered}
use Rattle.hib_journal.proofs.Plans.{AllRight}
use Rattle.hib_journal.proofs.Steps.{next_is}
use Rattle.hib_law.proofs.Working
use Rattle.hib_law.proofs.Working.{holds}
use Rattle.hib_law.proofs.Blocks.{IsMade, made_by, persist_new, good, AreAllowed}
use Rattle.hib_law.proofs.Walks.{allowed_own}
use Rattle.hib_law.proofs.Working.{IsSettled}
use Rattle.hib_law.proofs.Ends.{IsOver}
use Rattle.hib_law.proofs.Floors.{AreFloored}
use Rattle.hib_law.proofs.Basics.{none_some, some_same}
use Rattle.hib_bulk_law.specs.Types.{BulkDef, BulkAct, BulkReply, BulkEntry}
use Rattle.hib_bulk_law.specs.Plain.{Bulked, plain, plain_reply}
use Rattle.hib_bulk_law.specs.Rows.{line, committed}
use Rattle.hib_bulk_law.specs.Acts.{acts_of, change_of, steps_of}
use Rattle.hib_bulk_law.specs.Legal.{IsStep, IsLegal, IsAnswer, bulk_answer, reply_of, fault_of}
use Rattle.hib_bulk_law.proofs.Expected
use Rattle.hib_bulk_law.proofs.Expected.{expected_own}
use Rattle.hib_bulk_law.proofs.Entries.{Shape, shape, plain_of, plain_does, plain_sweeps, plain_rests, Doer, doer, ComesAs, act_is, timely_does, timely_sweeps}

-- the acts of a line, by how many it has done
pub data LineAct (cached : Bool) (n b m : ℕ) (x : BulkAct) : Type 0 where
  Begins : x ≡ BulkAct.Plain Act.Begin → m ≡ 0 → LineAct cached n b m x
  Locks : cached ≡ true → m ≡ 1 → x ≡ BulkAct.LockAll n → LineAct cached n b m x
  Changes : cached ≡ true → m ≡ 2 → x ≡ BulkAct.Bulk b → LineAct cached n b m x
  Unlocks : cached ≡ true → m ≡ 3 → x ≡ BulkAct.UnlockAll n → LineAct cached n b m x
  ChangesFree : cached ≡ false → m ≡ 1 → x ≡ BulkAct.Bulk b → LineAct cached n b m x
  Ends : x ≡ BulkAct.Plain Act.End → (cached ≡ true → m ≡ 4) → LineAct cached n b m x

line_acts : (cached : Bool) (n b m : ℕ) (x : BulkAct) →
    slice_get (BulkAct.Plain Act.Begin ∷ change_of cached n b (BulkAct.Plain Act.End ∷ [])) m ≡ Some x → LineAct cached n b m x
line_acts cached n b zero x e = LineAct.Begins (sym (some_same e)) refl
line_acts true n b (suc zero) x e = LineAct.Locks refl refl (sym (some_same e))
line_acts true n b (suc (suc zero)) x e = LineAct.Changes refl refl (sym (some_same e))
line_acts true n b (suc (suc (suc zero))) x e = LineAct.Unlocks refl refl (sym (some_same e))
line_acts true n b (suc (suc (suc (suc zero)))) x e = LineAct.Ends (sym (some_same e)) (λ p. refl)
line_acts true n b (suc (suc (suc (suc (suc m))))) x e = none_some e
line_acts false n b (suc zero) x e = LineAct.ChangesFree refl refl (sym (some_same e))
line_acts false n b (suc (suc zero)) x e = LineAct.Ends (sym (some_same e)) (λ p. absurd (false≢true p))
line_acts false n b (suc (suc (suc m))) x e = none_some e

pub line_act : (script : Script) (b m : ℕ) (d : BulkDef) (x : BulkAct) → slice_get (acts_of script b d) m ≡ Some x →
    LineAct (is_cached script d.entity) d.entity b m x
line_act script b m d x e = line_acts (is_cached script d.entity) d.entity b m x e

plain_same : {a b : Act} → BulkAct.Plain a ≡ BulkAct.Plain b → a ≡ b
plain_same e = cc

not_plain : (x : BulkAct) (a : Act) → x ≡ BulkAct.Plain a → (n : ℕ) → (x ≡ BulkAct.LockAll n) ⊎ ((x ≡ BulkAct.Bulk n) ⊎ (x ≡ BulkAct.UnlockAll n)) → ⊥
not_plain x a p n (inl q) = let g : BulkAct.Plain a ≡ BulkAct.LockAll n = sym p ∙ q in absurd (cc)
not_plain x a p n (inr (inl q)) = let g : BulkAct.Plain a ≡ BulkAct.Bulk n = sym p ∙ q in absurd (cc)
not_plain x a p n (inr (inr q)) = let g : BulkAct.Plain a ≡ BulkAct.UnlockAll n = sym p ∙ q in absurd (cc)

-- the plain acts of a line
pub line_plain : (cached : Bool) (n b m : ℕ) (x : BulkAct) (a : Act) → LineAct cached n b m x → x ≡ BulkAct.Plain a → (a ≡ Act.Begin) ⊎ (a ≡ Act.End)
line_plain cached n b m x a (LineAct.Begins q w) p = inl (plain_same (sym p ∙ q))
line_plain cached n b m x a (LineAct.Locks c w q) p = absurd (not_plain x a p n (inl q))
line_plain cached n b m x a (LineAct.Changes c w q) p = absurd (not_plain x a p b (inr (inl q)))
line_plain cached n b m x a (LineAct.Unlocks c w q) p = absurd (not_plain x a p n (inr (inr q)))
line_plain cached n b m x a (LineAct.ChangesFree c w q) p = absurd (not_plain x a p b (inr (inl q)))
line_plain cached n b m x a (LineAct.Ends q w) p = inr (plain_same (sym p ∙ q))

-- a session's plain act is the next one of its plan
pub plain_next : (script : Script) (h : Bulked) (a b : Act) (x : BulkAct) → ComesAs script h b x → x ≡ BulkAct.Plain a → a ≡ b
plain_next script h a b x (ComesAs.Itself q o) p = plain_same (sym p ∙ q)
plain_next script h a b x (ComesAs.Sweep j q o) p = let g : BulkAct.Plain a ≡ BulkAct.Sweep j = sym p ∙ q in absurd (cc)

-- what an act gets that has no other answer and no fault
pub replied : (script : Script) (lines : List BulkDef) (rows : Tables) (h : Bulked) (e : BulkEntry) (a : Act) → IsAnswer script lines rows h e → e.act ≡ BulkAct.Plain a →
    bulk_answer script lines h e.session a ≡ None → Legal.fault_of (changes e.session (plain h)) a ≡ None →
    e.reply ≡ BulkReply.Plain (Legal.reply_by script (changes e.session (plain h)) rows (plain h) e.session e.tick a)
replied script lines rows h e a r p n f = elim r [
  | inl q ↦
      let g : e.reply ≡ unwrap_or (bulk_answer script lines h e.session a) (BulkReply.Plain (Legal.reply_by script (changes e.session (plain h)) rows (plain h) e.session e.tick a)) =
      subst (λ x. e.reply ≡ reply_of script lines rows h e.session e.tick x) p q in
      g ∙ ap (λ o. unwrap_or o (BulkReply.Plain (Legal.reply_by script (changes e.session (plain h)) rows (plain h) e.session e.tick a))) n
  | inr q ↦
      let g : option_map (λ z. BulkReply.Plain z) (Legal.fault_of (changes e.session (plain h)) a) ≡ Some e.reply =
      subst (λ x. fault_of (changes e.session (plain h)) x ≡ Some e.reply) p q in
      none_some (sym (ap (λ o. option_map (λ z. BulkReply.Plain z) o) f) ∙ g)
]

pub by_self : (s n : ℕ) → (n == s) ≡ true → n ≡ s
by_self s n p = eqb-true n s p

module _ (script : Script) (lines : List BulkDef) (told : Option Tables) where
  -- a session's entries follow its plan
  pub in_order : (s : ℕ) (h : Bulked) → line script lines s ≡ None → IsLegal script lines told h → InOrder (plan_of script s) (own s (plain h))
  in_order s [] n l = tt
  in_order s (e ∷ h) n l = by_shape (shape e.act) (in_order s h n l.0)
    where
      mine : (a : Act) → e.act ≡ BulkAct.Plain a → e.session ≡ s → Doer script lines h e → InOrder (plan_of script s) (own s (plain h)) → InOrder (plan_of script s) (plain_of e a ∷ own s (plain h))
      mine a q u (Doer.Line d v w) i = none_some (sym n ∙ (ap (line script lines) (sym u) ∙ v))
      mine a q u (Doer.Session b v w x) i =
          let g : a ≡ b = plain_next script h a b e.act (act_is script h b e.act w) q in
          (i, next_is script s (own s (plain h)) a (subst (λ z. Next.next script z (own z (plain h)) ≡ Some a) u (v ∙ ap Some (sym g))))

      does : (a : Act) → e.act ≡ BulkAct.Plain a → Tested (is_by s (plain_of e a)) → InOrder (plan_of script s) (own s (plain h)) →
          InOrder (plan_of script s) (own s (plain_of e a ∷ plain h))
      does a q (inr b) i = rw b i
      does a q (inl b) i = rw b (mine a q (by_self s e.session b) (doer script lines h e l.1.act) i)

      by_shape : Shape e.act → InOrder (plan_of script s) (own s (plain h)) → InOrder (plan_of script s) (own s (plain (e ∷ h)))
      by_shape (Shape.Does a q) i = subst (λ g. InOrder (plan_of script s) (own s g)) (sym (plain_does e h a q)) (does a q (tested (is_by s (plain_of e a))) i)
      by_shape (Shape.Sweeps j q) i = subst (λ g. InOrder (plan_of script s) (own s g)) (sym (plain_sweeps e h j q)) i
      by_shape (Shape.Wide w) i = subst (λ g. InOrder (plan_of script s) (own s g)) (sym (plain_rests e h w)) i

  -- a line holds no lock on a key
  line_holds : (k : Key) (s : ℕ) (d : BulkDef) (h : Bulked) → line script lines s ≡ Some d → IsLegal script lines told h → holds k (own s (plain h)) ≡ false
  line_holds k s d [] n l = refl
  line_holds k s d (e ∷ h) n l = by_shape (shape e.act) (line_holds k s d h n l.0)
    where
      still : (a : Act) → (a ≡ Act.Begin) ⊎ (a ≡ Act.End) → holds k (own s (plain h)) ≡ false → holds k (plain_of e a ∷ own s (plain h)) ≡ false
      still a (inl p) i = rw p i
      still a (inr p) i = rw p i

      mine : (a : Act) → e.act ≡ BulkAct.Plain a → e.session ≡ s → Doer script lines h e → holds k (own s (plain h)) ≡ false → holds k (plain_of e a ∷ own s (plain h)) ≡ false
      mine a q u (Doer.Session b v w x) i = none_some (sym (ap (line script lines) (sym u) ∙ x) ∙ n)
      mine a q u (Doer.Line c v w) i =
          still a (line_plain (is_cached script c.entity) c.entity e.session (steps_of e.session h) e.act a (line_act script e.session (steps_of e.session h) c e.act w) q) i

      does : (a : Act) → e.act ≡ BulkAct.Plain a → Tested (is_by s (plain_of e a)) → holds k (own s (plain h)) ≡ false → holds k (own s (plain_of e a ∷ plain h)) ≡ false
      does a q (inr b) i = rw b i
      does a q (inl b) i = rw b (mine a q (by_self s e.session b) (doer script lines h e l.1.act) i)

      by_shape : Shape e.act → holds k (own s (plain h)) ≡ false → holds k (own s (plain (e ∷ h))) ≡ false
      by_shape (Shape.Does a q) i = subst (λ g. holds k (own s g) ≡ false) (sym (plain_does e h a q)) (does a q (tested (is_by s (plain_of e a))) i)
      by_shape (Shape.Sweeps j q) i = subst (λ g. holds k (own s g) ≡ false) (sym (plain_sweeps e h j q)) i
      by_shape (Shape.Wide w) i = subst (λ g. holds k (own s g) ≡ false) (sym (plain_rests e h w)) i

module _ (script : Script) (lines : List BulkDef) (start : Tables) (k : Key) where
  -- a new instance comes only if its key is not in the changes
  right : (h : Bulked) (e : BulkEntry) (a : Act) → IsStep script lines (Some start) h e → e.act ≡ BulkAct.Plain a → Working.Right k (own e.session (plain h)) (plain_of e a)
  right h e a t q = λ j x p m. new_here j x (made_by a (plain_reply a e.reply) j x p) m
    where
      new_here : (j : Key) (x : Row) → IsMade a (plain_reply a e.reply) j x → same_key j k ≡ true → is_in k (changes_in (own e.session (plain h))) ≡ false
      new_here j x d m =
          let q2 : e.act ≡ BulkAct.Plain (Act.Persist j x) = q ∙ ap (λ z. BulkAct.Plain z) d.act in
          let r : e.reply ≡ BulkReply.Plain (cond (is_some (held (own e.session (plain h)) j) || is_in j (changes e.session (plain h))) Reply.Known Reply.New) =
          replied script lines (committed script lines start h) h e (Act.Persist j x) t.reply q2 refl refl in
          let n : plain_reply a e.reply ≡ cond (is_some (held (own e.session (plain h)) j) || is_in j (changes e.session (plain h))) Reply.Known Reply.New = rw r refl in
          let b : (is_some (held (own e.session (plain h)) j) || is_in j (changes e.session (plain h))) ≡ false =
          persist_new (is_some (held (own e.session (plain h)) j) || is_in j (changes e.session (plain h))) (sym d.reply ∙ n) in
          subst (λ z. is_in z (changes_in (own e.session (plain h))) ≡ false) (same_key_eq j k m)
          (or_parts (is_some (held (own e.session (plain h)) j)) (is_in j (changes e.session (plain h))) b).1

  all_right : (s : ℕ) (h : Bulked) → IsLegal script lines (Some start) h → AllRight (Working.Allowed script k) (Working.Right k) (own s (plain h))
  all_right s [] l = tt
  all_right s (e ∷ h) l = by_shape (shape e.act) (all_right s h l.0)
    where
      Right : Journal → Type 0
      Right m = AllRight (Working.Allowed script k) (Working.Right k) m

      does : (a : Act) → e.act ≡ BulkAct.Plain a → Tested (is_by s (plain_of e a)) → Right (own s (plain h)) → Right (own s (plain_of e a ∷ plain h))
      does a q (inr b) i = rw b i
      does a q (inl b) i =
          rw b (i, subst (λ z. Working.Right k (own z (plain h)) (plain_of e a)) (by_self s e.session b) (right h e a l.1 q))

      by_shape : Shape e.act → Right (own s (plain h)) → Right (own s (plain (e ∷ h)))
      by_shape (Shape.Does a q) i = subst (λ g. Right (own s g)) (sym (plain_does e h a q)) (does a q (tested (is_by s (plain_of e a))) i)
      by_shape (Shape.Sweeps j q) i = subst (λ g. Right (own s g)) (sym (plain_sweeps e h j q)) i
      by_shape (Shape.Wide w) i = subst (λ g. Right (own s g)) (sym (plain_rests e h w)) i

  module _ (rw_k : strategy script k.entity ≡ Strategy.ReadWrite) where
    -- each act of a session, or of a line, is allowed by what it did before
    pub allowed : (h : Bulked) (e : BulkEntry) (a : Act) → IsLegal script lines (Some start) h → IsStep script lines (Some start) h e → e.act ≡ BulkAct.Plain a →
        Working.Allowed script k (own e.session (plain h)) a
    allowed h e a l t q = by_doer (doer script lines h e t.act)
      where
        by_line : (d : BulkDef) → line script lines e.session ≡ Some d → (a ≡ Act.Begin) ⊎ (a ≡ Act.End) → Working.Allowed script k (own e.session (plain h)) a
        by_line d v (inl p) = rw p (line_holds script lines (Some start) k e.session d h v l)
        by_line d v (inr p) = rw p tt

        by_doer : Doer script lines h e → Working.Allowed script k (own e.session (plain h)) a
        by_doer (Doer.Session b v w x) =
            let g : a ≡ b = plain_next script h a b e.act (act_is script h b e.act w) q in
            allowed_own (Working.Allowed script k) (Working.Right k) script (IsOver k) (IsSettled k) (good script k rw_k) (tt, refl) e.session (own e.session (plain h)) a
            (in_order script lines (Some start) e.session h x l) (all_right e.session h l) (v ∙ ap Some (sym g))
        by_doer (Doer.Line d v w) =
            by_line d v (line_plain (is_cached script d.entity) d.entity e.session (steps_of e.session h) e.act a (line_act script e.session (steps_of e.session h) d e.act w) q)

    pub are_allowed : (h : Bulked) → IsLegal script lines (Some start) h → AreAllowed script k (plain h)
    are_allowed [] l = tt
    are_allowed (e ∷ h) l = by_shape (shape e.act) (are_allowed h l.0)
      where
        by_shape : Shape e.act → AreAllowed script k (plain h) → AreAllowed script k (plain (e ∷ h))
        by_shape (Shape.Does a q) i = subst (λ g. AreAllowed script k g) (sym (plain_does e h a q)) (
          i,
          λ s b.
              subst (λ z. Working.Allowed script k (own z (plain h)) a) (by_self s e.session b) (allowed h e a l.0 l.1 q),
        )
        by_shape (Shape.Sweeps j q) i = subst (λ g. AreAllowed script k g) (sym (plain_sweeps e h j q)) (i, λ s b. absurd (false≢true b))
        by_shape (Shape.Wide w) i = subst (λ g. AreAllowed script k g) (sym (plain_rests e h w)) i

    expected_right : (s : ℕ) (h : Bulked) → IsLegal script lines (Some start) h → AllRight (Expected.Allowed k) (Expected.Right k) (own s (plain h))
    expected_right s [] l = tt
    expected_right s (e ∷ h) l = by_shape (shape e.act) (expected_right s h l.0)
      where
        Right : Journal → Type 0
        Right m = AllRight (Expected.Allowed k) (Expected.Right k) m

        free : (a : Act) → Working.Allowed script k (own e.session (plain h)) a → a ≡ Act.Begin → holds k (own e.session (plain h)) ≡ false
        free a w p = subst (λ z. Working.Allowed script k (own e.session (plain h)) z) p w

        does : (a : Act) → e.act ≡ BulkAct.Plain a → Tested (is_by s (plain_of e a)) → Right (own s (plain h)) → Right (own s (plain_of e a ∷ plain h))
        does a q (inr b) i = rw b i
        does a q (inl b) i =
            rw b (i, subst (λ z. Expected.Right k (own z (plain h)) (plain_of e a)) (by_self s e.session b) (λ p. free a (allowed h e a l.0 l.1 q) p))

        by_shape : Shape e.act → Right (own s (plain h)) → Right (own s (plain (e ∷ h)))
        by_shape (Shape.Does a q) i = subst (λ g. Right (own s g)) (sym (plain_does e h a q)) (does a q (tested (is_by s (plain_of e a))) i)
        by_shape (Shape.Sweeps j q) i = subst (λ g. Right (own s g)) (sym (plain_sweeps e h j q)) i
        by_shape (Shape.Wide w) i = subst (λ g. Right (own s g)) (sym (plain_rests e h w)) i

    -- a line begins with nothing that the store defers
    pub expected_allowed : (h : Bulked) (e : BulkEntry) (a : Act) → IsLegal script lines (Some start) h → IsStep script lines (Some start) h e → e.act ≡ BulkAct.Plain a →
        line script lines e.session ≡ None → Expected.Allowed k (own e.session (plain h)) a
    expected_allowed h e a l t q n = by_doer (doer script lines h e t.act)
      where
        by_doer : Doer script lines h e → Expected.Allowed k (own e.session (plain h)) a
        by_doer (Doer.Session b v w x) =
            let g : a ≡ b = plain_next script h a b e.act (act_is script h b e.act w) q in
            expected_own script k rw_k e.session (own e.session (plain h)) a (in_order script lines (Some start) e.session h x l) (expected_right e.session h l) (v ∙ ap Some (sym g))
        by_doer (Doer.Line d v w) = none_some (sym n ∙ v)

  -- each Begin answers the floor
  begin_reply : (h : Bulked) (e : BulkEntry) → IsStep script lines (Some start) h e → e.act ≡ BulkAct.Plain Act.Begin → plain_reply Act.Begin e.reply ≡ Reply.Began (floor (plain h) e.tick)
  begin_reply h e t q =
      let r : e.reply ≡ BulkReply.Plain (Reply.Began (floor (plain h) e.tick)) = replied script lines (committed script lines start h) h e Act.Begin t.reply q refl refl in
      rw r refl

  pub are_floored : (h : Bulked) → IsLegal script lines (Some start) h → AreFloored (plain h)
  are_floored [] l = tt
  are_floored (e ∷ h) l = by_shape (shape e.act) (are_floored h l.0)
    where
      not_begin : {P : Type 0} (j : Key) → Act.Evict j ≡ Act.Begin → P
      not_begin j p = absurd (cc)

      begins : (a : Act) → e.act ≡ BulkAct.Plain a → a ≡ Act.Begin → plain_reply a e.reply ≡ Reply.Began (floor (plain h) e.tick)
      begins a q p = subst (λ z. plain_reply z e.reply ≡ Reply.Began (floor (plain h) e.tick)) (sym p) (begin_reply h e l.1 (q ∙ ap (λ z. BulkAct.Plain z) p))

      by_shape : Shape e.act → AreFloored (plain h) → AreFloored (plain (e ∷ h))
      by_shape (Shape.Does a q) i = subst (λ g. AreFloored g) (sym (plain_does e h a q)) (i, begins a q)
      by_shape (Shape.Sweeps j q) i = subst (λ g. AreFloored g) (sym (plain_sweeps e h j q)) (i, λ p. not_begin j p)
      by_shape (Shape.Wide w) i = subst (λ g. AreFloored g) (sym (plain_rests e h w)) i

  pub are_ordered : (h : Bulked) → IsLegal script lines (Some start) h → IsOrdered (plain h)
  are_ordered [] l = tt
  are_ordered (e ∷ h) l = by_shape (shape e.act) (are_ordered h l.0)
    where
      by_shape : Shape e.act → IsOrdered (plain h) → IsOrdered (plain (e ∷ h))
      by_shape (Shape.Does a q) i = subst (λ g. IsOrdered g) (sym (plain_does e h a q)) (timely_does script lines (Some start) h e a l.0 l.1, i)
      by_shape (Shape.Sweeps j q) i = subst (λ g. IsOrdered g) (sym (plain_sweeps e h j q)) (timely_sweeps script lines (Some start) h e j l.0 l.1, i)
      by_shape (Shape.Wide w) i = subst (λ g. IsOrdered g) (sym (plain_rests e h w)) i
