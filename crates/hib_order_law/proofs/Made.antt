-- An undisturbed journal is the one that its order makes.
use Rattle.std.specs.Prelude.{unwrap_or, not, is_some, length, option_map, ◌||◌}
use Rattle.std.specs.List.{list_all}
use Rattle.std.proofs.Common.{◌≡◌, ◌+◌, ◌⊎◌, ℕ, inl, inr, Bool, true, false, cond, List, [], ◌∷◌, Some, None, Option, refl, sym, ap, ◌∙◌, subst, eq-eqb}
use Rattle.std.proofs.lemmas.Bool.{false≢true, true≢false}
use Rattle.hib_base.specs.Tables.{Tables}
use Rattle.hib_journal.specs.Types.{Change, Commit, Script, Part, Act, Reply, Entry}
use Rattle.hib_journal.specs.Sessions.{Journal, own, is_by, is_open, is_session, is_empty, changes, was_killed}
use Rattle.hib_journal.specs.Next.{next, is_in}
use Rattle.hib_journal.specs.Legal.{IsLegal, IsStep, due, due_by, may_come, part_of, fault_of, is_outside, reply_of}
use Rattle.hib_journal.specs.Lists.{entry_at}
use Rattle.hib_journal.specs.Runs.{IsNumbered, is_fault}
use Rattle.hib_journal.proofs.Inside.{inside}
use Rattle.hib_journal.proofs.Steps.{next_act, steps_in_order}
use Rattle.hib_order_law.proofs.Begun.{and_left, and_right}
use Rattle.hib_order_law.specs.Orders.{act_due, is_due, is_killing, is_plain, IsUndisturbed, made, named_by, step_by, step_of, steps_in, with_act, with_step}
use Rattle.hib_order_law.specs.declared.step.Step.{Step}

pub some_same : {A : Type 0} {a b : A} → Some a ≡ Some b → a ≡ b
some_same e = cc

pub none_some : {A : Type 0} {a : A} {P : Type 0} → ◌≡◌ {A = Option A} None (Some a) → P
none_some e = absurd (no e)
  where
    no : {A : Type 0} {a : A} → ◌≡◌ {A = Option A} None (Some a) → ⊥
    no e = cc

pub by_self : (e : Entry) (s : ℕ) → e.session ≡ Some s → is_by s e ≡ true
by_self e s q = ap (is_session s) q ∙ eq-eqb s s refl

-- what may be answered as a fault is one
fault_is : (cs : List Change) (a : Act) (r : Reply) → fault_of cs a ≡ Some r → is_fault r ≡ true
fault_is cs (Act.Load k) r p = by (is_in k cs) p
  where
    by : (b : Bool) → cond b None (Some Reply.Fault) ≡ Some r → is_fault r ≡ true
    by true q = none_some q
    by false q = subst (λ x. is_fault x ≡ true) (some_same q) refl
fault_is cs (Act.List q) r p = subst (λ x. is_fault x ≡ true) (some_same p) refl
fault_is cs Act.Commit r p = by (is_empty cs) p
  where
    by : (b : Bool) → cond b None (Some (Reply.Commit Commit.Fault)) ≡ Some r → is_fault r ≡ true
    by true q = none_some q
    by false q = subst (λ x. is_fault x ≡ true) (some_same q) refl
fault_is cs _ r p = none_some p

-- what is made of equal parts is equal
same_parts : (f : ℕ → Option ℕ → Part → Act → Reply → Entry) (t u : ℕ) (s v : Option ℕ) (p q : Part) (a b : Act) (r x : Reply) →
    t ≡ u → s ≡ v → p ≡ q → a ≡ b → r ≡ x → f t s p a r ≡ f u v q b x
same_parts f t u s v p q a b r x e1 e2 e3 e4 e5 = cc

same_entry : (d e : Entry) → d.tick ≡ e.tick → d.session ≡ e.session → d.part ≡ e.part → d.act ≡ e.act → d.reply ≡ e.reply → d ≡ e
same_entry d e t s p a r =
    same_parts (λ t s p a r. record { tick = t; session = s; part = p; act = a; reply = r }) d.tick e.tick d.session e.session d.part e.part d.act e.act
    d.reply e.reply t s p a r

pub not_true : (b : Bool) → not b ≡ true → b ≡ false
not_true true p = absurd (false≢true p)
not_true false p = refl

-- what is of a session or a kill
abbrev Kind : Option ℕ → Act → Type 0
Kind o a = ((s : ℕ) × (o ≡ Some s)) ⊎ ((o ≡ None) × ((s : ℕ) × (a ≡ Act.Kill s)))

kind : (o : Option ℕ) (a : Act) → (is_some o || is_killing a) ≡ true → Kind o a
kind (Some s) a p = inl (s, refl)
kind None (Act.Kill s) p = inr (refl, (s, refl))
kind None _ p = absurd (false≢true p)

own_step : (by : Option ℕ) (a : Act) → is_outside a ≡ false → step_by by a ≡ Step.Own (unwrap_or by 0)
own_step by (Act.Kill n) p = absurd (true≢false p)
own_step by _ p = refl

-- an entry is the step that is due
pub record IsMove (script : Script) (h : Journal) (e : Entry) : Type 0 where
  pub due : due script h e ≡ Some e.act
  pub named : named_by (step_of e) ≡ e.session
  pub act : act_due script h (step_of e) ≡ Some e.act

-- so by what its step is
pub record IsOwn (script : Script) (h : Journal) (e : Entry) (s : ℕ) : Type 0 where
  pub session : e.session ≡ Some s
  pub inside : is_outside e.act ≡ false
  pub step : step_of e ≡ Step.Own s
  pub alive : was_killed s h ≡ false
  pub next : next script s (own s h) ≡ Some e.act

pub record IsKilling (script : Script) (h : Journal) (e : Entry) (s : ℕ) : Type 0 where
  pub session : e.session ≡ None
  pub act : e.act ≡ Act.Kill s
  pub step : step_of e ≡ Step.Kill s
  pub stands : is_open s h ≡ true

abbrev pub Stepped : Script → Journal → Entry → Type 0
Stepped script h e = ((s : ℕ) × IsOwn script h e s) ⊎ ((s : ℕ) × IsKilling script h e s)

module _ (script : Script) (start : Tables) where
  -- a plain entry is its session's next act, or the kill of an open session
  pub stepped : (h : Journal) (e : Entry) → IsLegal script (Some start) h → IsStep script (Some start) h e → is_plain e ≡ true → Stepped script h e
  stepped h e l t plain = by (kind e.session e.act (and_left (is_some e.session || is_killing e.act) (not (is_fault e.reply)) plain))
    where
      at_kill : (s : ℕ) → e.session ≡ None → e.act ≡ Act.Kill s → is_open s h ≡ true
      at_kill s p q = stands (is_open s h) (subst (λ a. may_come script h (due_by script h None a) ≡ Some a) q (subst (λ o. may_come script h (due_by script h o e.act) ≡ Some e.act) p t.act))
        where
          stands : (b : Bool) → cond b (Some (Act.Kill s)) None ≡ Some (Act.Kill s) → b ≡ true
          stands true r = refl
          stands false r = none_some r

      by : Kind e.session e.act → Stepped script h e
      by (inl x) =
          let n : (was_killed x.0 h ≡ false) × (next script x.0 (own x.0 h) ≡ Some e.act) = next_act script (Some start) h e x.0 t (by_self e x.0 x.1) in
          let i : is_outside e.act ≡ false = inside script x.0 (own x.0 h) e.act (steps_in_order script (Some start) x.0 h l) n.1 in
          inl (
            x.0,
            record {
              session = x.1;
              inside = i;
              step = own_step e.session e.act i ∙ ap (λ o. Step.Own (unwrap_or o 0)) x.1;
              alive = n.0;
              next = n.1;
            },
          )
      by (inr x) = inr (
        x.1.0,
        record {
          session = x.0;
          act = x.1.1;
          step = ap (λ a. step_by e.session a) x.1.1;
          stands = at_kill x.1.0 x.0 x.1.1;
        },
      )

  -- so it is the step that is due
  pub moves : (h : Journal) (e : Entry) → Stepped script h e → IsMove script h e
  moves h e (inl x) =
      let o : IsOwn script h e x.0 = x.1 in record {
        due = subst (λ b. due_by script h b e.act ≡ Some e.act) (sym o.session) (rw o.alive o.next);
        named = ap named_by o.step ∙ sym o.session;
        act = subst (λ t. act_due script h t ≡ Some e.act) (sym o.step) (rw o.alive o.next);
      }
  moves h e (inr x) =
      let k : IsKilling script h e x.0 = x.1 in record {
        due = subst (λ b. due_by script h b e.act ≡ Some e.act) (sym k.session) (subst (λ a. due_by script h None a ≡ Some a) (sym k.act) refl);
        named = ap named_by k.step ∙ sym k.session;
        act = subst (λ t. act_due script h t ≡ Some e.act) (sym k.step) (rw k.stands (ap Some (sym k.act)));
      }

  -- a plain entry is what its step makes
  pub entry_is : (h : Journal) (e : Entry) → IsLegal script (Some start) h → IsStep script (Some start) h e → e.tick ≡ length h + 1 → is_plain e ≡ true →
      e ∷ h ≡ with_step script start (step_of e) h
  entry_is h e l t n plain = subst (λ o. e ∷ h ≡ with_act script start (step_of e) h o) (sym m.act) (ap (λ (d : Entry). d ∷ h) same)
    where
      m : IsMove script h e
      m = moves h e (stepped h e l t plain)

      part : part_of e.act (unwrap_or e.session 0) ≡ e.part
      part = some_same (subst (λ o. option_map (λ a. part_of a (unwrap_or e.session 0)) o ≡ Some e.part) m.due t.part)

      no_fault : is_fault e.reply ≡ false
      no_fault = not_true (is_fault e.reply) (and_right (is_some e.session || is_killing e.act) (not (is_fault e.reply)) plain)

      reply : e.reply ≡ reply_of script start h (unwrap_or e.session 0) (length h + 1) e.act
      reply = elim t.reply [
        | inl r ↦ subst (λ i. e.reply ≡ reply_of script start h (unwrap_or e.session 0) i e.act) n r
        | inr f ↦ absurd (false≢true (sym no_fault ∙ fault_is (changes (unwrap_or e.session 0) h) e.act e.reply f))
      ]

      same : e ≡ entry_at (length h + 1) (named_by (step_of e)) e.act (reply_of script start h (unwrap_or (named_by (step_of e)) 0) (length h + 1) e.act)
      same =
          subst (λ o. e ≡ entry_at (length h + 1) o e.act (reply_of script start h (unwrap_or o 0) (length h + 1) e.act)) (sym m.named)
          (same_entry e (entry_at (length h + 1) e.session e.act (reply_of script start h (unwrap_or e.session 0) (length h + 1) e.act)) n refl (sym part) refl reply)

  -- its step may come
  pub entry_due : (h : Journal) (e : Entry) → IsLegal script (Some start) h → IsStep script (Some start) h e → is_plain e ≡ true → is_due script h (step_of e) ≡ true
  entry_due h e l t plain = ap is_some (moves h e (stepped h e l t plain)).act

  -- an undisturbed journal is the one that its order makes
  pub order_makes : (h : Journal) → IsLegal script (Some start) h → IsNumbered h → list_all is_plain h ≡ true → h ≡ made script start (steps_in h)
  order_makes [] l n p = refl
  order_makes (e ∷ h) l n p =
      entry_is h e l.0 l.1 n.0 (and_left (is_plain e) (list_all is_plain h) p)
      ∙ ap (λ g. with_step script start (step_of e) g) (order_makes h l.0 n.1 (and_right (is_plain e) (list_all is_plain h) p))

  -- so two with one order are one
  pub order_decides : (h g : Journal) → IsUndisturbed script start h → IsUndisturbed script start g → steps_in h ≡ steps_in g → h ≡ g
  order_decides h g a b o =
      order_makes h a.legal a.numbered a.plain ∙ ap (λ ts. made script start ts) o ∙ sym (order_makes g b.legal b.numbered b.plain)
