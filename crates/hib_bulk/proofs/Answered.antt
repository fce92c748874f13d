-- What a part answers an act of a session, and what then stands.
use Rattle.std.proofs.Common.{◌≡◌, inl, inr, ℕ, ◌==◌, true, false, cond, List, ◌∷◌, length, Some, None, Option, refl, sym, ap, ◌∙◌, subst}
use Rattle.std.proofs.lemmas.Bool.{eqb-true}
use Rattle.std.proofs.lemmas.Option.{none-some}
use Rattle.std.specs.Option.{option_map, option_map_or}
use Rattle.hib_base.specs.Tables.{Tables, after_changes}
use Rattle.hib_base.proofs.Tables.{Tested, tested}
use Rattle.hib_journal.specs.Types.{Commit, Script, Part, Act, Reply}
use Rattle.hib_journal.specs.Sessions as Sessions
use Rattle.hib_journal.specs.Sessions.{own, changes, deferred, same_part, time}
use Rattle.hib_journal.specs.Legal as Legal
use Rattle.hib_journal.specs.Lists as Lists
use Rattle.hib_journal.specs.Lists.{unsaved, stored, stored_by}
use Rattle.hib_journal.specs.Slot.{key_in}
use Rattle.hib_journal.specs.Held.{is_begin}
use Rattle.hib_journal.proofs.Open.{begun_open}
use Rattle.hib_journal.specs.Next.{strategy}
use Rattle.hib_session.specs.Session.{own_reply}
use Rattle.hib_session.proofs.OwnReplies.{own_is, begins_only}
use Rattle.hib_store.specs.Stores.{changes_of}
use Rattle.hib_engines.specs.Laws.{Laws}
use Rattle.hib_engines.specs.Registry.{IsRegistry, own_after, time_of}
use Rattle.hib_engines.specs.Region.{is_regional, acts_on, entity_in, Suits}
use Rattle.hib_engines.specs.Served.{is_for, IsServed, HasQuery}
use Rattle.hib_engines.specs.Stamps.{AreStamps}
use Rattle.hib_engines.specs.Results.{AreResults}
use Rattle.hib_engines.specs.Store.{IsStored, IsStoreServed}
use Rattle.hib_engines.specs.Due.{AreStored}
use Rattle.hib_engines.proofs.Answered.{own_has}
use Rattle.hib_engines.proofs.Bridge.{deferred_of}
use Rattle.hib_engines.proofs.OwnActs.{is_own, IsOwnAct, own_act, registry_own}
use Rattle.hib_engines.proofs.Grows.{regional_part}
use Rattle.hib_engines.proofs.RegionList.{of_region}
use Rattle.hib_engines.proofs.RegionServed.{named}
use Rattle.hib_bulk.specs.Types.{BulkDef, BulkAct, BulkReply, BulkEntry}
use Rattle.hib_bulk_law.specs.Plain.{Bulked, plain, plain_reply}
use Rattle.hib_bulk_law.specs.Rows.{committed, committer}
use Rattle.hib_bulk_region.specs.Laws as Wide
use Rattle.hib_bulk.specs.declared.region.EntityRegion.{EntityRegion}
use Rattle.hib_bulk.specs.Regions.{region_of, IsAtRegion, IsPlaced}
use Rattle.hib_bulk.specs.Standing.{BulkPartsState, told_committed, IsReady, IsAnswered, entry_at}
use Rattle.hib_bulk.proofs.Placed.{IsRegional}
use Rattle.hib_bulk.proofs.Replies.{due_plain, due_stored, quiet, unsaved_quiet, stored_quiet, told_quiet}
use Rattle.hib_bulk.proofs.Kept.{AreKept, kept, plain_next, bulk_none, standing_of}

module _ (l : Laws) (w : Wide.Stays) (script : Script) (lines : List BulkDef) (told : Option Tables) (h : Bulked) (s now : ℕ) (a : Act) (x : BulkPartsState) (k : IsReady script lines told h s now a x) where
  abbrev Kept : BulkReply → Type 0
  Kept r = AreKept script lines told h s now a r x

  its : (r : BulkReply) → Kept r
  its r = kept l w script lines told h s now a r x k.standing k.due.inside

  -- an act of no region leaves the regions
  regions_kept : (r : BulkReply) (ys : List EntityRegion) → (is_regional a ≡ true → ⊥) → ys ≡ x.regions → (n : ℕ) → IsPlaced script n (entry_at now s (BulkAct.Plain a) r ∷ h) (region_of ys n)
  regions_kept r ys p e n = subst (λ zs. IsPlaced script n (entry_at now s (BulkAct.Plain a) r ∷ h) (region_of zs n)) (sym e) ((its r).regions n (λ t. absurd (p t)))

  pub registry_answered : (r : Reply) (y : BulkPartsState) → Legal.part_of a s ≡ Part.Registry → (is_regional a ≡ true → ⊥) → own_reply script (own s (plain h)) a ≡ None →
      (IsRegistry x.registry (plain h) → Lists.IsLate Part.Registry now (plain h) → a ≡ Act.Begin → IsServed (λ m. IsRegistry y.registry m) script (plain h) (Some s) now a r) →
      y.store ≡ x.store → y.stamps ≡ x.stamps → y.regions ≡ x.regions → y.results ≡ x.results → IsAnswered script lines told h s now (BulkAct.Plain a) (BulkReply.Plain r) y
  registry_answered r y p f o served b c d e = record {
    reply = due_plain script lines told h s now a r (bulk_none script lines h s a k.session f) v.reply (ap (same_part Part.Store) p);
    standing = standing_of script lines told h s now a (BulkReply.Plain r) y (ap (λ z. z.tables) b ∙ m.rows (ap (same_part Part.Store) p))
        (plain_next script (plain h) s now a r x y k.standing.plain k.due (λ n. ap (λ z. changes_of z n) b ∙ m.changes (ap (same_part Part.Store) p) n) v.stands
        (subst (λ z. AreStamps script (Lists.entry_at now (Some s) a r ∷ plain h) z) (sym c) (m.stamps (ap (same_part Part.Stamps) p)))
        (subst (λ z. AreResults script (Lists.entry_at now (Some s) a r ∷ plain h) z) (sym e) (m.results (ap (same_part Part.Results) p))))
        (regions_kept (BulkReply.Plain r) y.regions f d) (ap length d ∙ k.standing.entities);
  }
    where
      m : Kept (BulkReply.Plain r)
      m = its (BulkReply.Plain r)

      v : IsServed (λ m. IsRegistry y.registry m) script (plain h) (Some s) now a r
      v = served k.standing.plain.registry (k.late (λ d. same_part Part.Registry d.part)) (begins_only script (own s (plain h)) a s (ap (same_part Part.Registry) p) o k.due.inside)

  pub stamps_answered : (r : Reply) (y : BulkPartsState) → Legal.part_of a s ≡ Part.Stamps → (is_regional a ≡ true → ⊥) →
      (AreStamps script (plain h) x.stamps → is_for Part.Stamps a s ≡ true → IsServed (λ m. AreStamps script m y.stamps) script (plain h) (Some s) now a r) →
      y.store ≡ x.store → y.registry ≡ x.registry → y.regions ≡ x.regions → y.results ≡ x.results → IsAnswered script lines told h s now (BulkAct.Plain a) (BulkReply.Plain r) y
  stamps_answered r y p f served b c d e = record {
    reply = due_plain script lines told h s now a r (bulk_none script lines h s a k.session f) v.reply (ap (same_part Part.Store) p);
    standing = standing_of script lines told h s now a (BulkReply.Plain r) y (ap (λ z. z.tables) b ∙ m.rows (ap (same_part Part.Store) p))
        (plain_next script (plain h) s now a r x y k.standing.plain k.due (λ n. ap (λ z. changes_of z n) b ∙ m.changes (ap (same_part Part.Store) p) n)
        (subst (λ z. IsRegistry z (Lists.entry_at now (Some s) a r ∷ plain h)) (sym c) (m.registry (ap (same_part Part.Registry) p))) v.stands
        (subst (λ z. AreResults script (Lists.entry_at now (Some s) a r ∷ plain h) z) (sym e) (m.results (ap (same_part Part.Results) p))))
        (regions_kept (BulkReply.Plain r) y.regions f d) (ap length d ∙ k.standing.entities);
  }
    where
      m : Kept (BulkReply.Plain r)
      m = its (BulkReply.Plain r)

      v : IsServed (λ m. AreStamps script m y.stamps) script (plain h) (Some s) now a r
      v = served k.standing.plain.stamps (ap (same_part Part.Stamps) p)

  pub results_answered : (r : Reply) (y : BulkPartsState) → Legal.part_of a s ≡ Part.Results → (is_regional a ≡ true → ⊥) →
      (AreResults script (plain h) x.results → is_for Part.Results a s ≡ true → HasQuery script a → IsServed (λ m. AreResults script m y.results) script (plain h) (Some s) now a r) →
      y.store ≡ x.store → y.registry ≡ x.registry → y.stamps ≡ x.stamps → y.regions ≡ x.regions → IsAnswered script lines told h s now (BulkAct.Plain a) (BulkReply.Plain r) y
  results_answered r y p f served b c d e = record {
    reply = due_plain script lines told h s now a r (bulk_none script lines h s a k.session f) v.reply (ap (same_part Part.Store) p);
    standing = standing_of script lines told h s now a (BulkReply.Plain r) y (ap (λ z. z.tables) b ∙ m.rows (ap (same_part Part.Store) p))
        (plain_next script (plain h) s now a r x y k.standing.plain k.due (λ n. ap (λ z. changes_of z n) b ∙ m.changes (ap (same_part Part.Store) p) n)
        (subst (λ z. IsRegistry z (Lists.entry_at now (Some s) a r ∷ plain h)) (sym c) (m.registry (ap (same_part Part.Registry) p)))
        (subst (λ z. AreStamps script (Lists.entry_at now (Some s) a r ∷ plain h) z) (sym d) (m.stamps (ap (same_part Part.Stamps) p))) v.stands)
        (regions_kept (BulkReply.Plain r) y.regions f e) (ap length e ∙ k.standing.entities);
  }
    where
      m : Kept (BulkReply.Plain r)
      m = its (BulkReply.Plain r)

      v : IsServed (λ m. AreResults script m y.results) script (plain h) (Some s) now a r
      v = served k.standing.plain.results (ap (same_part Part.Results) p) k.due.query

  -- ---- the store

  -- what the store defers of s is what s has written
  deferred_here : unsaved s (plain h) ≡ deferred (own s (plain h))
  deferred_here = deferred_of (plain h) s k.standing.plain.bridged (k.standing.plain.live s)

  pub store_stands : IsStored x.store.tables (quiet (plain h)) x.store
  store_stands = record { rows = told_quiet x.store.tables (plain h); changes = λ n. k.standing.plain.changes n ∙ sym (unsaved_quiet n (plain h)) }

  rows_by : (a : Act) (r : Reply) (t : Tables) → AreStored (own s (plain h)) a →
      stored_by (Sessions.committer a r (Some s)) (quiet (plain h)) (stored t (quiet (plain h)))
      ≡ option_map_or (λ n. after_changes (changes n (plain h)) t) (committer s (BulkAct.Plain a) (BulkReply.Plain r)) t
  rows_by Act.Commit (Reply.Commit Commit.Committed) t d =
      ap (λ cs. after_changes cs (stored t (quiet (plain h)))) (unsaved_quiet s (plain h) ∙ (deferred_here ∙ d)) ∙ ap (λ u. after_changes (changes s (plain h)) u) (stored_quiet t (plain h))
  rows_by Act.Commit _ t d = stored_quiet t (plain h)
  rows_by _ r t d = stored_quiet t (plain h)

  rows_next : (r : Reply) (y z : Option Tables) → (told : Option Tables) → z ≡ told_committed script lines told h →
      y ≡ option_map (λ t. stored t (Lists.entry_at now (Some s) a r ∷ quiet (plain h))) z → y ≡ told_committed script lines told (entry_at now s (BulkAct.Plain a) (BulkReply.Plain r) ∷ h)
  rows_next r y z None e p = p ∙ ap (option_map (λ t. stored t (Lists.entry_at now (Some s) a r ∷ quiet (plain h)))) e
  rows_next r y z (Some start) e p =
      p ∙ ap (option_map (λ t. stored t (Lists.entry_at now (Some s) a r ∷ quiet (plain h)))) e ∙ ap Some (rows_by a r (committed script lines start h) k.due.stored)

  pub store_answered : (r : Reply) (y : BulkPartsState) → Legal.part_of a s ≡ Part.Store → (is_regional a ≡ true → ⊥) → IsStoreServed script x.store.tables (quiet (plain h)) now s a r y.store →
      y.registry ≡ x.registry → y.stamps ≡ x.stamps → y.regions ≡ x.regions → y.results ≡ x.results → IsAnswered script lines told h s now (BulkAct.Plain a) (BulkReply.Plain r) y
  store_answered r y p f v b c d e = record {
    reply = due_stored script lines told h s now a r deferred_here k.due.stored (ap (same_part Part.Store) p)
        (subst (λ z. Lists.IsStoreReply script z (quiet (plain h)) (Lists.entry_at now (Some s) a r)) k.standing.rows v.reply);
    standing = standing_of script lines told h s now a (BulkReply.Plain r) y (rows_next r y.store.tables x.store.tables told k.standing.rows v.stands.rows)
        (plain_next script (plain h) s now a r x y k.standing.plain k.due (λ n. v.stands.changes n ∙ ap (Lists.unsaved_after n (Some s) a) (unsaved_quiet n (plain h)))
        (subst (λ z. IsRegistry z (Lists.entry_at now (Some s) a r ∷ plain h)) (sym b) (m.registry (ap (same_part Part.Registry) p)))
        (subst (λ z. AreStamps script (Lists.entry_at now (Some s) a r ∷ plain h) z) (sym c) (m.stamps (ap (same_part Part.Stamps) p)))
        (subst (λ z. AreResults script (Lists.entry_at now (Some s) a r ∷ plain h) z) (sym e) (m.results (ap (same_part Part.Results) p))))
        (regions_kept (BulkReply.Plain r) y.regions f d) (ap length d ∙ k.standing.entities);
  }
    where
      m : Kept (BulkReply.Plain r)
      m = its (BulkReply.Plain r)

  -- ---- a session's own answers

  pub own_answered : (r : Reply) (y : BulkPartsState) → own_reply script (own s (plain h)) a ≡ Some r → y ≡ record x { registry = own_after s a x.registry } →
      IsAnswered script lines told h s now (BulkAct.Plain a) (BulkReply.Plain r) y
  own_answered r y p q = subst (λ v. IsAnswered script lines told h s now (BulkAct.Plain a) (BulkReply.Plain r) v) (sym q) (record {
    reply = due_plain script lines told h s now a r (bulk_none script lines h s a k.session v.region) (own_is script (plain h) s now a r p) v.store;
    standing = standing_of script lines told h s now a (BulkReply.Plain r) (record x { registry = own_after s a x.registry }) (m.rows v.store)
        (plain_next script (plain h) s now a r x (record x { registry = own_after s a x.registry }) k.standing.plain k.due (m.changes v.store)
        (registry_own (plain h) s now a r x.registry o k.standing.plain.registry (k.late (λ d. same_part (Legal.part_of a s) d.part))) (m.stamps v.stamps) (m.results v.results))
        (λ n. m.regions n (λ t. absurd (v.region t))) k.standing.entities;
  })
    where
      o : is_own a ≡ true
      o = own_has script (own s (plain h)) a r p

      v : IsOwnAct a s
      v = own_act a s o

      m : Kept (BulkReply.Plain r)
      m = its (BulkReply.Plain r)

  -- ---- a region

  -- the regions, after that of entity n has changed
  regions_at : (e : BulkEntry) (n : ℕ) (ys : List EntityRegion) → IsAtRegion n x.regions ys → IsPlaced script n (e ∷ h) (region_of ys n) →
      ((m : ℕ) → (n == m) ≡ false → IsPlaced script m (e ∷ h) (region_of x.regions m)) → (m : ℕ) → IsPlaced script m (e ∷ h) (region_of ys m)
  regions_at e n ys at here others m = by (tested (n == m))
    where
      by : Tested (n == m) → IsPlaced script m (e ∷ h) (region_of ys m)
      by (inl q) = subst (λ i. IsPlaced script i (e ∷ h) (region_of ys i)) (eqb-true n m q) here
      by (inr q) = subst (λ z. IsPlaced script m (e ∷ h) z) (sym (at.others m q)) (others m q)

  pub region_answered : (n : ℕ) (r : BulkReply) (y : BulkPartsState) → Legal.part_of a s ≡ Part.Region n → entity_in a ≡ Some n → IsRegional script lines told h s now n a r (region_of y.regions n) →
      IsAtRegion n x.regions y.regions → y.store ≡ x.store → y.registry ≡ x.registry → y.stamps ≡ x.stamps → y.results ≡ x.results → IsAnswered script lines told h s now (BulkAct.Plain a) r y
  region_answered n r y p q v at b c d e = record {
    reply = v.reply;
    standing = standing_of script lines told h s now a r y (ap (λ z. z.tables) b ∙ m.rows (ap (same_part Part.Store) p))
        (plain_next script (plain h) s now a (plain_reply a r) x y k.standing.plain k.due (λ i. ap (λ z. changes_of z i) b ∙ m.changes (ap (same_part Part.Store) p) i)
        (subst (λ z. IsRegistry z (Lists.entry_at now (Some s) a (plain_reply a r) ∷ plain h)) (sym c) (m.registry (ap (same_part Part.Registry) p)))
        (subst (λ z. AreStamps script (Lists.entry_at now (Some s) a (plain_reply a r) ∷ plain h) z) (sym d) (m.stamps (ap (same_part Part.Stamps) p)))
        (subst (λ z. AreResults script (Lists.entry_at now (Some s) a (plain_reply a r) ∷ plain h) z) (sym e) (m.results (ap (same_part Part.Results) p))))
        (regions_at (entry_at now s (BulkAct.Plain a) r) n y.regions at v.placed (λ i u. m.regions i (λ t. ap (λ j. j == i) here.1 ∙ u))) (at.all ∙ k.standing.entities);
  }
    where
      m : Kept r
      m = its r

      here : (is_regional a ≡ true) × (acts_on a ≡ n)
      here = named (key_in a) n q

-- ---- what is known of an act of a region that is due

not_begin : (a : Act) (n : ℕ) → entity_in a ≡ Some n → is_begin a ≡ false
not_begin Act.Begin n e = absurd (none-some n e)
not_begin _ n e = refl

-- its session is open, and has a time
pub time_known : (script : Script) (lines : List BulkDef) (told : Option Tables) (h : Bulked) (s now : ℕ) (a : Act) (x : BulkPartsState) → IsReady script lines told h s now a x → (n : ℕ) → entity_in a ≡ Some n →
    time_of x.registry s ≡ Some (time s (plain h))
time_known script lines told h s now a x k n e =
    k.standing.plain.registry.each s
    ∙ ap (λ b. cond b (Some (time s (plain h))) None) (begun_open s (plain h) (k.standing.plain.live s) ∙ k.due.within (not_begin a n e))

-- its part and its entity
pub regional_of : (script : Script) (a : Act) (s n : ℕ) → entity_in a ≡ Some n → Suits (strategy script (acts_on a)) a → (Legal.part_of a s ≡ Part.Region n) × Suits (strategy script n) a
regional_of script a s n e u =
    let t : (is_regional a ≡ true) × (acts_on a ≡ n) = named (key_in a) n e in
    (regional_part a s t.0 ∙ ap (λ i. Part.Region i) t.1, subst (λ i. Suits (strategy script i) a) t.1 u)

-- an act of another part names no entity
pub of_other : (a : Act) (s : ℕ) → ((n : ℕ) → Legal.part_of a s ≡ Part.Region n → ⊥) → entity_in a ≡ None
of_other a s f = by_entity (entity_in a) refl
  where
    by_entity : (o : Option ℕ) → entity_in a ≡ o → entity_in a ≡ None
    by_entity None q = q
    by_entity (Some n) q =
        let t : (is_regional a ≡ true) × (acts_on a ≡ n) = named (key_in a) n q in absurd (f (acts_on a) (regional_part a s t.0))

pub region_act : (a : Act) (s n : ℕ) → Legal.part_of a s ≡ Part.Region n → entity_in a ≡ Some n
region_act a s n p = of_region a s n p
