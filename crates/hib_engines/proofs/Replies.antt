-- The reply that an engine gives is the one that a legal journal has.
use Rattle.std.specs.Prelude.{unwrap_or}
use Rattle.std.proofs.Common.{◌≡◌, ℕ, inl, inr, Bool, true, false, cond, List, [], Some, None, Option, refl, ap, ◌∙◌, subst}
use Rattle.std.proofs.lemmas.Bool.{true≢false, false≢true}
use Rattle.std.proofs.lemmas.Option.{none-some, same_Some}
use Rattle.hib_base.specs.Tables.{Tables}
use Rattle.hib_journal.specs.Types.{Change, Commit, Script, Part, Act, Reply}
use Rattle.hib_journal.specs.Sessions.{Journal, own, was_killed, committed, changes, changes_in, deferred, is_empty}
use Rattle.hib_journal.specs.Legal.{IsReply, IsReplyBy, reply_by, is_of_store, fault_of}
use Rattle.hib_journal.specs.Next.{is_in}
use Rattle.hib_journal.specs.Lists.{entry_at, stored, IsReplyOf, IsStoreReply}
use Rattle.hib_journal.specs.Runs.{asks}
use Rattle.hib_engines.specs.Served.{is_for}
use Rattle.hib_engines.specs.Due.{AreStored}
use Rattle.hib_engines.specs.Bridged.{IsBridged}
use Rattle.hib_engines.proofs.Bridge.{deferred_of}

-- an act of another part has no reply of the store's kind
other_kind : (a : Act) (r : Reply) (s : ℕ) → is_for Part.Store a s ≡ false → is_of_store a r ≡ true
other_kind (Act.Load k) r s p = absurd (true≢false p)
other_kind (Act.List q) r s p = absurd (true≢false p)
other_kind Act.Commit r s p = absurd (true≢false p)
other_kind _ r s p = refl

pub reply_any : (script : Script) (told : Option Tables) (h : Journal) (by : Option ℕ) (now : ℕ) (a : Act) (r : Reply) → IsReplyOf script h by now a r → is_for Part.Store a (unwrap_or by 0) ≡ false →
    IsReply script told h (entry_at now by a r)
reply_any script None h by now a r f p = (other_kind a r (unwrap_or by 0) p, λ q. inl (f []))
reply_any script (Some start) h by now a r f p = inl (f start)

bridge_rows : (script : Script) (told : Option Tables) (h : Journal) (cs : List Change) (s now : ℕ) (a : Act) (r : Reply) → IsBridged h →
    IsReplyBy told cs (λ start. reply_by script cs (stored start h) h s now a) (entry_at now (Some s) a r) → IsReplyBy told cs (λ start. reply_by script cs (committed start h) h s now a) (entry_at now (Some s) a r)
bridge_rows script told h cs s now a r b w = subst (λ (f : Tables → Tables). IsReplyBy told cs (λ start. reply_by script cs (f start) h s now a) (entry_at now (Some s) a r)) same w
  where
    same : ◌≡◌ {A = Tables → Tables} (λ start. stored start h) (λ start. committed start h)
    same i start = b.rows start i

-- the reply that is due by what the store defers is due by what the session wrote
pub reply_stored : (script : Script) (told : Option Tables) (h : Journal) (s now : ℕ) (a : Act) (r : Reply) → IsBridged h → was_killed s h ≡ false → AreStored (own s h) a →
    is_for Part.Store a s ≡ true → IsStoreReply script told h (entry_at now (Some s) a r) → IsReply script told h (entry_at now (Some s) a r)
reply_stored script told h s now (Act.Load k) r b live d p w = bridge_rows script told h (changes s h) s now (Act.Load k) r b
    (subst (λ cs. IsReplyBy told cs (λ start. reply_by script cs (stored start h) h s now (Act.Load k)) (entry_at now (Some s) (Act.Load k) r)) (deferred_of h s b live ∙ d) w)
reply_stored script told h s now (Act.List q) r b live d p w = bridge_rows script told h (changes s h) s now (Act.List q) r b
    (subst (λ cs. IsReplyBy told cs (λ start. reply_by script cs (stored start h) h s now (Act.List q)) (entry_at now (Some s) (Act.List q) r)) (deferred_of h s b live ∙ d) w)
reply_stored script told h s now Act.Commit r b live d p w = bridge_rows script told h (changes s h) s now Act.Commit r b
    (subst (λ cs. IsReplyBy told cs (λ start. reply_by script cs (stored start h) h s now Act.Commit) (entry_at now (Some s) Act.Commit r)) (deferred_of h s b live ∙ d) w)
reply_stored script None h s now (Act.Write c) r b live d p w = w
reply_stored script (Some start) h s now (Act.Write c) r b live d p w = w
reply_stored script None h s now Act.Rollback r b live d p w = w
reply_stored script (Some start) h s now Act.Rollback r b live d p w = w
reply_stored script told h s now _ r b live d p w = absurd (false≢true p)

-- the keeper is asked as the act asks
pub asks_same : (h : Journal) (s : ℕ) (a : Act) (cs : List Change) → cs ≡ deferred (own s h) → AreStored (own s h) a → asks cs a ≡ asks (changes_in (own s h)) a
asks_same h s (Act.Load k) cs e d = ap (λ x. asks x (Act.Load k)) (e ∙ d)
asks_same h s _ cs e d = refl

-- ---- a fault

failed_with : (b : Bool) (f r : Reply) → cond b None (Some f) ≡ Some r → f ≡ r
failed_with true f r p = absurd (none-some r p)
failed_with false f r p = same_Some f r p

-- the answer that an act may fail with is of the store's kind
fault_kind : (cs : List Change) (a : Act) (r : Reply) → fault_of cs a ≡ Some r → is_of_store a r ≡ true
fault_kind cs (Act.Load k) r p = subst (λ x. is_of_store (Act.Load k) x ≡ true) (failed_with (is_in k cs) Reply.Fault r p) refl
fault_kind cs (Act.List q) r p = subst (λ x. is_of_store (Act.List q) x ≡ true) (same_Some Reply.Fault r p) refl
fault_kind cs Act.Commit r p = subst (λ x. is_of_store Act.Commit x ≡ true) (failed_with (is_empty cs) (Reply.Commit Commit.Fault) r p) refl
fault_kind cs _ r p = refl

pub reply_fault : (script : Script) (told : Option Tables) (h : Journal) (s now : ℕ) (a : Act) (r : Reply) → fault_of (changes s h) a ≡ Some r → IsReply script told h (entry_at now (Some s) a r)
reply_fault script None h s now a r f = (fault_kind (changes s h) a r f, λ q. inr f)
reply_fault script (Some start) h s now a r f = inr f
