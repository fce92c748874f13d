-- The reply that a part gives over its entries is the one that is due over them.
use Rattle.std.proofs.Common.{◌≡◌, ℕ, false, [], Some, None, Option, refl, sym, ap, ◌∙◌, subst, inl}
use Rattle.std.proofs.lemmas.Bool.{true≢false}
use Rattle.hib_base.specs.Tables.{Tables}
use Rattle.hib_journal.specs.Types.{Script, Act, Reply, Part}
use Rattle.hib_journal.specs.Sessions.{Journal, same_part}
use Rattle.hib_journal.specs.Legal.{part_of}
use Rattle.hib_journal.specs.Lists.{entry_at, of_part, IsReplyOf, IsStoreReply}
use Rattle.hib_split_law.specs.Apart.{is_of_session}
use Rattle.hib_nodes_law.specs.Types.{Noded}
use Rattle.hib_nodes_law.specs.Legal.{seen_at}

-- an act that isn't the store's is answered without the rows and the changes
any_reply : (script : Script) (told : Option Tables) (l : Journal) (s now : ℕ) (a : Act) (r : Reply) → IsReplyOf script l (Some s) now a r →
    same_part Part.Store (part_of a s) ≡ false → is_of_session a ≡ false → IsStoreReply script told l (entry_at now (Some s) a r)
any_reply script told l s now (Act.Load k) r f p o = absurd (true≢false p)
any_reply script told l s now (Act.List q) r f p o = absurd (true≢false p)
any_reply script told l s now (Act.Write c) r f p o = absurd (true≢false p)
any_reply script told l s now Act.Commit r f p o = absurd (true≢false p)
any_reply script told l s now Act.Rollback r f p o = absurd (true≢false p)
any_reply script told l s now Act.End r f p o = absurd (true≢false o)
any_reply script told l s now (Act.Find k) r f p o = absurd (true≢false o)
any_reply script told l s now (Act.Persist k row) r f p o = absurd (true≢false o)
any_reply script told l s now (Act.Set k cells) r f p o = absurd (true≢false o)
any_reply script told l s now (Act.Remove k) r f p o = absurd (true≢false o)
any_reply script told l s now Act.Clear r f p o = absurd (true≢false o)
any_reply script None l s now _ r f p o = (refl, λ q. inl (f []))
any_reply script (Some start) l s now _ r f p o = inl (f start)

-- over what its part sees of the entries of both nodes
pub due_reply : (script : Script) (told : Option Tables) (h : Noded) (n s now : ℕ) (a : Act) (r : Reply) (p : Part) → part_of a s ≡ p → same_part Part.Store p ≡ false →
    IsReplyOf script (of_part p (seen_at p n h)) (Some s) now a r → is_of_session a ≡ false →
    IsStoreReply script told (of_part (part_of a s) (seen_at (part_of a s) n h)) (entry_at now (Some s) a r)
due_reply script told h n s now a r p q d f o =
    subst (λ t. IsStoreReply script told (of_part t (seen_at t n h)) (entry_at now (Some s) a r)) (sym q)
    (any_reply script told (of_part p (seen_at p n h)) s now a r f (ap (same_part Part.Store) q ∙ d) o)

-- of a fence, whose halves are nobody's
pub lock_reply : (script : Script) (told : Option Tables) (l : Journal) (now : ℕ) (k : Rattle.hib_journal.specs.Types.Key) (f : ℕ) (r : Reply) →
    IsReplyOf script l None now (Act.Lock k None f) r → IsStoreReply script told l (entry_at now None (Act.Lock k None f) r)
lock_reply script None l now k f r g = (refl, λ q. inl (g []))
lock_reply script (Some start) l now k f r g = inl (g start)

pub unlock_reply : (script : Script) (told : Option Tables) (l : Journal) (now : ℕ) (k : Rattle.hib_journal.specs.Types.Key) (i : ℕ) (r : Reply) →
    IsReplyOf script l None now (Act.Unlock k i) r → IsStoreReply script told l (entry_at now None (Act.Unlock k i) r)
unlock_reply script None l now k i r g = (refl, λ q. inl (g []))
unlock_reply script (Some start) l now k i r g = inl (g start)
