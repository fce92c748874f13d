-- The reply that a part gives is the one that a legal journal with bulk lines has.
use Rattle.std.specs.Prelude.{unwrap_or, option_map}
use Rattle.std.proofs.Common.{◌≡◌, ℕ, ◌⊎◌, inl, inr, true, false, List, [], ◌∷◌, Some, None, Option, refl, sym, ap, ◌∙◌, subst}
use Rattle.std.proofs.lemmas.Bool.{true≢false, false≢true}
use Rattle.std.proofs.lemmas.Option.{none-some}
use Rattle.std.specs.Option.{option_map as mapped}
use Rattle.hib_base.specs.Tables.{Tables}
use Rattle.hib_journal.specs.Types.{Change, Script, Part, Act, Reply}
use Rattle.hib_journal.specs.Sessions as Sessions
use Rattle.hib_journal.specs.Sessions.{Journal, own, changes, deferred}
use Rattle.hib_journal.specs.Legal as Legal
use Rattle.hib_journal.specs.Lists.{entry_at, unsaved, unsaved_after, stored, stored_by, IsReplyOf, IsStoreReply}
use Rattle.hib_engines.specs.Served.{is_for}
use Rattle.hib_engines.specs.Due.{AreStored}
use Rattle.hib_bulk.specs.Types.{BulkDef, BulkAct, BulkReply}
use Rattle.hib_bulk_law.specs.Plain.{Bulked, plain}
use Rattle.hib_bulk_law.specs.Rows.{committed}
use Rattle.hib_bulk_law.specs.Legal.{bulk_answer, reply_of, IsAnswer, IsReply}
use Rattle.hib_bulk.specs.Standing as Standing
use Rattle.hib_bulk.specs.Standing.{told_committed}

-- ---- an act of another part than the store

other_kind : (a : Act) (r : Reply) (s : ℕ) → is_for Part.Store a s ≡ false → Legal.is_of_store a r ≡ true
other_kind (Act.Load k) r s p = absurd (true≢false p)
other_kind (Act.List q) r s p = absurd (true≢false p)
other_kind Act.Commit r s p = absurd (true≢false p)
other_kind _ r s p = refl

-- its reply hangs on no row
rows_free : (script : Script) (cs : List Change) (t u : Tables) (g : Journal) (s now : ℕ) (a : Act) → is_for Part.Store a s ≡ false →
    Legal.reply_by script cs t g s now a ≡ Legal.reply_by script cs u g s now a
rows_free script cs t u g s now (Act.Load k) p = absurd (true≢false p)
rows_free script cs t u g s now (Act.List q) p = absurd (true≢false p)
rows_free script cs t u g s now Act.Commit p = absurd (true≢false p)
rows_free script cs t u g s now _ p = refl

pub due_plain : (script : Script) (lines : List BulkDef) (told : Option Tables) (h : Bulked) (s now : ℕ) (a : Act) (r : Reply) → bulk_answer script lines h s a ≡ None →
    IsReplyOf script (plain h) (Some s) now a r → is_for Part.Store a s ≡ false → IsReply script lines told h (Standing.entry_at now s (BulkAct.Plain a) (BulkReply.Plain r))
due_plain script lines told h s now a r n f p = by_told told
  where
    due : (t : Tables) → BulkReply.Plain r ≡ reply_of script lines t h s now (BulkAct.Plain a)
    due t = ap (λ z. BulkReply.Plain z) (f [] ∙ rows_free script (changes s (plain h)) (Sessions.committed [] (plain h)) t (plain h) s now a p)
        ∙ sym (ap (λ o. unwrap_or o (BulkReply.Plain (Legal.reply_by script (changes s (plain h)) t (plain h) s now a))) n)

    by_told : (told : Option Tables) → IsReply script lines told h (Standing.entry_at now s (BulkAct.Plain a) (BulkReply.Plain r))
    by_told None = (other_kind a r s p, λ q. inl (due []))
    by_told (Some start) = inl (due (committed script lines start h))

-- ---- the store, over rows that are told anew: of each entry the act alone counts

abbrev pub quiet : Journal → Journal
quiet [] = []
quiet (e ∷ l) = record e { reply = Reply.Done } ∷ quiet l

pub unsaved_quiet : (n : ℕ) (l : Journal) → unsaved n (quiet l) ≡ unsaved n l
unsaved_quiet n [] = refl
unsaved_quiet n (e ∷ l) = ap (unsaved_after n e.session e.act) (unsaved_quiet n l)

commits_none : (a : Act) (by : Option ℕ) → Sessions.committer a Reply.Done by ≡ None
commits_none Act.Commit by = refl
commits_none _ by = refl

pub stored_quiet : (t : Tables) (l : Journal) → stored t (quiet l) ≡ t
stored_quiet t [] = refl
stored_quiet t (e ∷ l) = ap (λ o. stored_by o (quiet l) (stored t (quiet l))) (commits_none e.act e.session) ∙ stored_quiet t l

pub told_quiet : (told : Option Tables) (l : Journal) → told ≡ mapped (λ t. stored t (quiet l)) told
told_quiet None l = refl
told_quiet (Some t) l = sym (ap Some (stored_quiet t l))

module _ (script : Script) (lines : List BulkDef) (h : Bulked) (s now : ℕ) (a : Act) (r : Reply) (none : bulk_answer script lines h s a ≡ None) where
  -- what is answered over the store's rows and changes is answered over those of the journal
  lifted : (l : Journal) (cs : List Change) (t rows : Tables) → Legal.reply_by script cs t l s now a ≡ Legal.reply_by script (changes s (plain h)) rows (plain h) s now a →
      cs ≡ changes s (plain h) → Legal.IsAnswerBy cs (Legal.reply_by script cs t l s now a) (entry_at now (Some s) a r) →
      IsAnswer script lines rows h (Standing.entry_at now s (BulkAct.Plain a) (BulkReply.Plain r))
  lifted l cs t rows same e w = elim w [
    | inl q ↦
        inl (ap (λ z. BulkReply.Plain z) (q ∙ same)
        ∙ sym (ap (λ o. unwrap_or o (BulkReply.Plain (Legal.reply_by script (changes s (plain h)) rows (plain h) s now a))) none))
    | inr q ↦ inr (ap (λ o. option_map (λ z. BulkReply.Plain z) o) (subst (λ c. Legal.fault_of c a ≡ Some r) e q))
  ]

  due_by : (l : Journal) (cs : List Change) (told : Option Tables) → ((t u : Tables) → t ≡ u → Legal.reply_by script cs t l s now a ≡ Legal.reply_by script (changes s (plain h)) u (plain h) s now a) →
      cs ≡ changes s (plain h) → ((t : Tables) → stored t l ≡ t) →
      Legal.IsReplyBy (told_committed script lines told h) cs (λ start. Legal.reply_by script cs (stored start l) l s now a) (entry_at now (Some s) a r) →
      IsReply script lines told h (Standing.entry_at now s (BulkAct.Plain a) (BulkReply.Plain r))
  due_by l cs None same e same_rows w =
      (w.0, λ q. lifted l cs (stored [] l) [] (same (stored [] l) [] (same_rows [])) e (w.1 (subst (λ c. Legal.is_told c a ≡ false) (sym e) q)))
  due_by l cs (Some start) same e same_rows w =
      lifted l cs (stored (committed script lines start h) l) (committed script lines start h)
      (same (stored (committed script lines start h) l) (committed script lines start h) (same_rows (committed script lines start h))) e w

pub due_stored : (script : Script) (lines : List BulkDef) (told : Option Tables) (h : Bulked) (s now : ℕ) (a : Act) (r : Reply) → unsaved s (plain h) ≡ deferred (own s (plain h)) →
    AreStored (own s (plain h)) a → is_for Part.Store a s ≡ true → IsStoreReply script (told_committed script lines told h) (quiet (plain h)) (entry_at now (Some s) a r) →
    IsReply script lines told h (Standing.entry_at now s (BulkAct.Plain a) (BulkReply.Plain r))
due_stored script lines told h s now (Act.Load k) r b d p w =
    let e : unsaved s (quiet (plain h)) ≡ changes s (plain h) = unsaved_quiet s (plain h) ∙ (b ∙ d) in
    due_by script lines h s now (Act.Load k) r refl (quiet (plain h)) (unsaved s (quiet (plain h))) told
    (λ t u q. ap (λ c. Legal.reply_by script c t (plain h) s now (Act.Load k)) e ∙ ap (λ m. Legal.reply_by script (changes s (plain h)) m (plain h) s now (Act.Load k)) q)
    e (λ t. stored_quiet t (plain h)) w
due_stored script lines told h s now (Act.List q) r b d p w =
    let e : unsaved s (quiet (plain h)) ≡ changes s (plain h) = unsaved_quiet s (plain h) ∙ (b ∙ d) in
    due_by script lines h s now (Act.List q) r refl (quiet (plain h)) (unsaved s (quiet (plain h))) told
    (λ t u v. ap (λ c. Legal.reply_by script c t (plain h) s now (Act.List q)) e ∙ ap (λ m. Legal.reply_by script (changes s (plain h)) m (plain h) s now (Act.List q)) v)
    e (λ t. stored_quiet t (plain h)) w
due_stored script lines told h s now Act.Commit r b d p w =
    let e : unsaved s (quiet (plain h)) ≡ changes s (plain h) = unsaved_quiet s (plain h) ∙ (b ∙ d) in
    due_by script lines h s now Act.Commit r refl (quiet (plain h)) (unsaved s (quiet (plain h))) told
    (λ t u q. ap (λ c. Legal.reply_by script c t (plain h) s now Act.Commit) e ∙ ap (λ m. Legal.reply_by script (changes s (plain h)) m (plain h) s now Act.Commit) q)
    e (λ t. stored_quiet t (plain h)) w
due_stored script lines told h s now (Act.Write c) r b d p w = by_told told w
  where
    one : (rows : Tables) → (r ≡ Reply.Written) ⊎ (◌≡◌ {A = Option Reply} None (Some r)) → IsAnswer script lines rows h (Standing.entry_at now s (BulkAct.Plain (Act.Write c)) (BulkReply.Plain r))
    one rows v = elim v [ inl q ↦ inl (ap (λ z. BulkReply.Plain z) q) | inr q ↦ absurd (none-some r q) ]

    by_told : (told : Option Tables) → IsStoreReply script (told_committed script lines told h) (quiet (plain h)) (entry_at now (Some s) (Act.Write c) r) →
        IsReply script lines told h (Standing.entry_at now s (BulkAct.Plain (Act.Write c)) (BulkReply.Plain r))
    by_told None w = (refl, λ q. one [] (w.1 q))
    by_told (Some start) w = one (committed script lines start h) w
due_stored script lines told h s now Act.Rollback r b d p w = by_told told w
  where
    one : (rows : Tables) → (r ≡ Reply.Done) ⊎ (◌≡◌ {A = Option Reply} None (Some r)) → IsAnswer script lines rows h (Standing.entry_at now s (BulkAct.Plain Act.Rollback) (BulkReply.Plain r))
    one rows v = elim v [ inl q ↦ inl (ap (λ z. BulkReply.Plain z) q) | inr q ↦ absurd (none-some r q) ]

    by_told : (told : Option Tables) → IsStoreReply script (told_committed script lines told h) (quiet (plain h)) (entry_at now (Some s) Act.Rollback r) →
        IsReply script lines told h (Standing.entry_at now s (BulkAct.Plain Act.Rollback) (BulkReply.Plain r))
    by_told None w = (refl, λ q. one [] (w.1 q))
    by_told (Some start) w = one (committed script lines start h) w
due_stored script lines told h s now _ r b d p w = absurd (false≢true p)
