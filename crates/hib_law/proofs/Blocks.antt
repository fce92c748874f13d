-- A session within its transactions, as one read-write key sees it: in a legal journal each act of a session is allowed by what it did before.
use Rattle.std.specs.Prelude.{cond, unwrap_or, is_some}
use Rattle.std.proofs.Common.{◌≡◌, ℕ, inl, inr, Bool, true, false, ◌||◌, [], ◌∷◌, Some, None, refl, ap, sym, ◌∙◌, subst}
use Rattle.std.proofs.lemmas.Bool.{false≢true, or_parts}
use Rattle.hib_journal.specs.Types.{Key, Row, Strategy, Script, Act, Reply, Entry}
use Rattle.hib_base.specs.Keys.{same_key}
use Rattle.hib_base.specs.Tables.{Tables}
use Rattle.hib_journal.specs.Sessions.{Journal, own, is_by, changes, changes_in}
use Rattle.hib_journal.specs.Held.{Arrival, arrival, held}
use Rattle.hib_journal.specs.Next.{is_in, strategy}
use Rattle.hib_journal.specs.Legal.{IsLegal, IsStep, reply_of, fault_of}
use Rattle.hib_base.proofs.Tables.{same_key_eq}
use Rattle.hib_journal.proofs.Sessions.{is_some_session}
use Rattle.hib_law.proofs.Walks
use Rattle.hib_law.proofs.Walks.{AreGood, goes_answer, is_list_act, is_own_act}
use Rattle.hib_law.proofs.Working.{IsSettled, Allowed, Right, keeps_plain, goes_find}
use Rattle.hib_law.proofs.Flushes.{goes_flush}
use Rattle.hib_law.proofs.Ends.{IsOver, goes_commit, goes_rollback}
use Rattle.hib_law.proofs.Basics.{none_some, some_same}

module _ (script : Script) (k : Key) (rw_k : strategy script k.entity ≡ Strategy.ReadWrite) where
  keeps_list : (a : Act) → is_list_act a ≡ true → Walks.Keeps (Allowed script k) (Right k) (IsSettled k) a
  keeps_list (Act.Look q) p = keeps_plain script k (Act.Look q) refl (λ m w. tt)
  keeps_list (Act.Check q t) p = keeps_plain script k (Act.Check q t) refl (λ m w. tt)
  keeps_list (Act.List q) p = keeps_plain script k (Act.List q) refl (λ m w. tt)
  keeps_list (Act.Keep q t l) p = keeps_plain script k (Act.Keep q t l) refl (λ m w. tt)
  keeps_list _ p = absurd (false≢true p)

  keeps_own : (a : Act) → is_own_act a ≡ true → Walks.Keeps (Allowed script k) (Right k) (IsSettled k) a
  keeps_own (Act.Set j cells) p = keeps_plain script k (Act.Set j cells) refl (λ m w. tt)
  keeps_own (Act.Remove j) p = keeps_plain script k (Act.Remove j) refl (λ m w. tt)
  keeps_own Act.Clear p = keeps_plain script k Act.Clear refl (λ m w. tt)
  keeps_own _ p = absurd (false≢true p)

  pub good : AreGood (Allowed script k) (Right k) script (IsOver k) (IsSettled k)
  good = record {
    find = goes_find script k;
    persist = λ j r p. keeps_plain script k (Act.Persist j r) refl (λ m w. tt);
    own = keeps_own;
    flush = goes_flush script k rw_k;
    answer = λ mode q. goes_answer (Allowed script k) (Right k) (IsSettled k) script mode keeps_list q;
    commit = goes_commit script k rw_k;
    rollback = goes_rollback script k rw_k;
    begins = λ m w go g. (
      w.1,
      λ e p r.
          g (e ∷ m) (record { working = record { begun = rw p refl; fair = (r, w.0); undone = rw p refl; ready = rw p tt }; free = rw p (w.1) }),
    );
  }

-- what a legal entry answers to its session

pub record IsMade (a : Act) (r : Reply) (j : Key) (x : Row) : Type 0 where
  pub act : a ≡ Act.Persist j x
  pub reply : r ≡ Reply.New

pub made_by : (a : Act) (r : Reply) (j : Key) (x : Row) → arrival a r ≡ Some (Arrival.Made j x) → IsMade a r j x
made_by (Act.Persist i y) Reply.New j x e =
    let g : Arrival.Made i y ≡ Arrival.Made j x = some_same e in
    let p : i ≡ j = cc in let q : y ≡ x = cc in record { act = cc; reply = refl }
made_by (Act.Get i t) (Reply.Hit y) j x e = let g : Arrival.Read i y ≡ Arrival.Made j x = some_same e in absurd (cc)
made_by (Act.Load i) (Reply.Row (Some y)) j x e = let g : Arrival.Read i y ≡ Arrival.Made j x = some_same e in absurd (cc)
made_by (Act.Load i) (Reply.Row None) j x e = none_some e
made_by _ _ j x e = none_some e

pub persist_new : (b : Bool) → Reply.New ≡ cond b Reply.Known Reply.New → b ≡ false
persist_new true e = absurd (cc)
persist_new false e = refl

module _ (script : Script) (start : Tables) (k : Key) (s : ℕ) where
  pub right_entry : (h : Journal) (e : Entry) → IsStep script (Some start) h e → is_by s e ≡ true → Right k (own s h) e
  right_entry h e t p = λ j x q m. new_here j x (made_by e.act e.reply j x q) m
    where
      by_s : e.session ≡ Some s
      by_s = is_some_session s e.session p

      no_fault : (a : Act) → e.act ≡ a → fault_of (changes (unwrap_or e.session 0) h) a ≡ None → fault_of (changes (unwrap_or e.session 0) h) e.act ≡ Some e.reply → ⊥
      no_fault a q n f = none_some (sym n ∙ (ap (λ z. fault_of (changes (unwrap_or e.session 0) h) z) (sym q) ∙ f))

      new_here : (j : Key) (x : Row) → IsMade e.act e.reply j x → same_key j k ≡ true → is_in k (changes_in (own s h)) ≡ false
      new_here j x d m = elim t.reply [
        | inl q ↦ let g : e.reply ≡ reply_of script start h (unwrap_or (Some s) 0) e.tick (Act.Persist j x) =
            subst (λ a. e.reply ≡ reply_of script start h (unwrap_or (Some s) 0) e.tick a) d.act
            (subst (λ b. e.reply ≡ reply_of script start h (unwrap_or b 0) e.tick e.act) by_s q) in
            let b : (is_some (held (own s h) j) || is_in j (changes s h)) ≡ false =
            persist_new (is_some (held (own s h) j) || is_in j (changes s h)) (sym d.reply ∙ g) in
            subst (λ z. is_in z (changes_in (own s h)) ≡ false) (same_key_eq j k m)
            (or_parts (is_some (held (own s h) j)) (is_in j (changes s h)) b).1
        | inr f ↦ absurd (no_fault (Act.Persist j x) d.act refl f)
      ]

  -- in a legal journal each act of a session is allowed by what the session did before
  pub allowed_act : (rw_k : strategy script k.entity ≡ Strategy.ReadWrite) (h : Journal) (e : Entry) → IsLegal script (Some start) h → IsStep script (Some start) h e →
      is_by s e ≡ true → Allowed script k (own s h) e.act
  allowed_act rw_k h e l t p = Walks.allowed (Allowed script k) (Right k) script (IsOver k) (IsSettled k) (good script k rw_k) (Some start) s
      right_entry (tt, refl) h e l t p

-- each act of a session is allowed by what the session did before
abbrev pub AreAllowed : Script → Key → Journal → Type 0
AreAllowed script k [] = Unit {0}
AreAllowed script k (e ∷ h) = AreAllowed script k h × ((s : ℕ) → is_by s e ≡ true → Allowed script k (own s h) e.act)

pub are_allowed : (script : Script) (start : Tables) (k : Key) → strategy script k.entity ≡ Strategy.ReadWrite →
    (h : Journal) → IsLegal script (Some start) h → AreAllowed script k h
are_allowed script start k rw_k [] l = tt
are_allowed script start k rw_k (e ∷ h) l =
    (are_allowed script start k rw_k h l.0, λ s p. allowed_act script start k s rw_k h e l.0 l.1 p)
