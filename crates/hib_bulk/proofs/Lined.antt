-- What a part answers a line, and what then stands.
use Rattle.std.proofs.Common.{◌≡◌, ◌⊎◌, inl, inr, ℕ, zero, suc, ◌+◌, ◌==◌, Bool, true, false, cond, List, [], ◌∷◌, length, slice_get, Some, None, Option, IfSome, refl, sym, ap, ◌∙◌, subst}
use Rattle.std.proofs.lemmas.Bool.{true≢false, false≢true}
use Rattle.std.proofs.lemmas.Option.{none-some, same_Some}
use Rattle.std.specs.Option.{option_map_or}
use Rattle.hib_base.specs.Tables.{Tables}
use Rattle.hib_journal.specs.Types.{Key, Script, Part, Act, Reply, Outcome}
use Rattle.hib_journal.specs.Sessions.{Journal, own, same_part}
use Rattle.hib_journal.specs.Lists as Lists
use Rattle.hib_journal.specs.Next.{strategy, is_cached}
use Rattle.hib_engines.specs.Laws.{Laws}
use Rattle.hib_engines.specs.Registry.{IsRegistry}
use Rattle.hib_engines.specs.Stamps.{AreStamps}
use Rattle.hib_engines.specs.Results.{AreResults}
use Rattle.hib_engines.specs.Served.{IsServed}
use Rattle.hib_engines.specs.Due.{IsDue}
use Rattle.hib_store.specs.Stores.{changes_of, changes_in}
use Rattle.hib_bulk.specs.Types.{BulkDef, BulkAct, BulkReply, BulkEntry}
use Rattle.hib_bulk_law.specs.Plain.{Bulked, plain}
use Rattle.hib_bulk_law.specs.Rows.{committed, found, bulked, changer, committer}
use Rattle.hib_bulk_law.specs.Wide.{wide_holders}
use Rattle.hib_bulk_law.specs.Acts.{change_of, part_of}
use Rattle.hib_bulk_law.specs.Legal.{IsReply, is_of_store, has_failed, reply_of}
use Rattle.hib_bulk_law.proofs.Entries.{is_wide, plain_rests}
use Rattle.hib_engines.proofs.Regions.{uncached_not}
use Rattle.hib_bulk_region.specs.Region.{BulkState}
use Rattle.hib_bulk_region.specs.Steps as Steps
use Rattle.hib_bulk_region.specs.Stands.{IsBulkRegion}
use Rattle.hib_bulk_region.specs.Laws as Wide
use Rattle.hib_bulk.specs.declared.region.EntityRegion.{EntityRegion}
use Rattle.hib_bulk.specs.Changed.{IsChanged, tables_changed}
use Rattle.hib_bulk.specs.Regions.{region_of, held_by, locked_all, unlocked_all, IsAtRegion, IsOfEntity, IsPlaced}
use Rattle.hib_bulk.specs.Standing.{BulkPartsState, ArePlain, IsAnswered, told_committed, entry_at}
use Rattle.hib_bulk.specs.Run.{IsLineTurn, is_under_way, outcome_of}
use Rattle.hib_bulk.proofs.Placed.{placed_stays, regions_by, other_way}
use Rattle.hib_bulk.proofs.Replies.{due_plain}
use Rattle.hib_bulk.proofs.Kept.{AreKept, kept, plain_next, rows_rest, standing_of}

-- ---- the acts of a line

pub data LineCase (cached : Bool) (n b m : ℕ) (x : BulkAct) : Type 0 where
  Begins : x ≡ BulkAct.Plain Act.Begin → m ≡ 0 → LineCase cached n b m x
  Locks : cached ≡ true → m ≡ 1 → x ≡ BulkAct.LockAll n → LineCase cached n b m x
  Changes : x ≡ BulkAct.Bulk b → m ≡ cond cached 2 1 → LineCase cached n b m x
  Unlocks : cached ≡ true → m ≡ 3 → x ≡ BulkAct.UnlockAll n → LineCase cached n b m x
  Ends : x ≡ BulkAct.Plain Act.End → m ≡ cond cached 4 2 → LineCase cached n b m x

line_case : (cached : Bool) (n b m : ℕ) (x : BulkAct) → slice_get (BulkAct.Plain Act.Begin ∷ change_of cached n b (BulkAct.Plain Act.End ∷ [])) m ≡ Some x → LineCase cached n b m x
line_case cached n b zero x p = LineCase.Begins (sym (same_Some (BulkAct.Plain Act.Begin) x p)) refl
line_case true n b (suc zero) x p = LineCase.Locks refl refl (sym (same_Some (BulkAct.LockAll n) x p))
line_case true n b (suc (suc zero)) x p = LineCase.Changes (sym (same_Some (BulkAct.Bulk b) x p)) refl
line_case true n b (suc (suc (suc zero))) x p = LineCase.Unlocks refl refl (sym (same_Some (BulkAct.UnlockAll n) x p))
line_case true n b (suc (suc (suc (suc zero)))) x p = LineCase.Ends (sym (same_Some (BulkAct.Plain Act.End) x p)) refl
line_case true n b (suc (suc (suc (suc (suc m))))) x p = absurd (none-some x p)
line_case false n b (suc zero) x p = LineCase.Changes (sym (same_Some (BulkAct.Bulk b) x p)) refl
line_case false n b (suc (suc zero)) x p = LineCase.Ends (sym (same_Some (BulkAct.Plain Act.End) x p)) refl
line_case false n b (suc (suc (suc m))) x p = absurd (none-some x p)

module _ (script : Script) (lines : List BulkDef) (told : Option Tables) (h : Bulked) (s : ℕ) (d : BulkDef) (m : ℕ) (b : Bool) (a : BulkAct) (x : BulkPartsState) (k : IsLineTurn script lines told h s d m b a x) where
  pub case_of : LineCase (is_cached script d.entity) d.entity s m a
  case_of = line_case (is_cached script d.entity) d.entity s m a k.act

  at_begin : a ≡ BulkAct.Plain Act.Begin → m ≡ 0
  at_begin e = by_case case_of
    where
      by_case : LineCase (is_cached script d.entity) d.entity s m a → m ≡ 0
      by_case (LineCase.Begins p q) = q
      by_case (LineCase.Locks c q p) = let g : BulkAct.Plain Act.Begin ≡ BulkAct.LockAll d.entity = sym e ∙ p in absurd (cc)
      by_case (LineCase.Changes p q) = let g : BulkAct.Plain Act.Begin ≡ BulkAct.Bulk s = sym e ∙ p in absurd (cc)
      by_case (LineCase.Unlocks c q p) = let g : BulkAct.Plain Act.Begin ≡ BulkAct.UnlockAll d.entity = sym e ∙ p in absurd (cc)
      by_case (LineCase.Ends p q) = let g : BulkAct.Plain Act.Begin ≡ BulkAct.Plain Act.End = sym e ∙ p in absurd (cc)

  at_end : a ≡ BulkAct.Plain Act.End → m ≡ cond (is_cached script d.entity) 4 2
  at_end e = by_case case_of
    where
      by_case : LineCase (is_cached script d.entity) d.entity s m a → m ≡ cond (is_cached script d.entity) 4 2
      by_case (LineCase.Begins p q) = let g : BulkAct.Plain Act.End ≡ BulkAct.Plain Act.Begin = sym e ∙ p in absurd (cc)
      by_case (LineCase.Locks c q p) = let g : BulkAct.Plain Act.End ≡ BulkAct.LockAll d.entity = sym e ∙ p in absurd (cc)
      by_case (LineCase.Changes p q) = let g : BulkAct.Plain Act.End ≡ BulkAct.Bulk s = sym e ∙ p in absurd (cc)
      by_case (LineCase.Unlocks c q p) = let g : BulkAct.Plain Act.End ≡ BulkAct.UnlockAll d.entity = sym e ∙ p in absurd (cc)
      by_case (LineCase.Ends p q) = q

  -- ---- Begin and End

  begins_due : a ≡ BulkAct.Plain Act.Begin → IsDue script (own s (plain h)) Act.Begin
  begins_due e = record {
    begins = λ p. k.stands.begun ∙ ap (is_under_way (is_cached script d.entity)) (at_begin e);
    within = λ p. absurd (true≢false p);
    ends = λ p. absurd (cc);
    stored = tt;
    known = tt;
    suits = tt;
    inside = refl;
    query = tt;
  }

  under_way_at_end : (c : Bool) → is_under_way c (cond c 4 2) ≡ true
  under_way_at_end true = refl
  under_way_at_end false = refl

  ends_due : a ≡ BulkAct.Plain Act.End → IsDue script (own s (plain h)) Act.End
  ends_due e = record {
    begins = λ p. absurd (false≢true p);
    within = λ p. k.stands.begun ∙ (ap (is_under_way (is_cached script d.entity)) (at_end e) ∙ under_way_at_end (is_cached script d.entity));
    ends = λ p. k.stands.deferred;
    stored = tt;
    known = tt;
    suits = tt;
    inside = refl;
    query = tt;
  }

  pub line_begins : Laws → Wide.Stays → a ≡ BulkAct.Plain Act.Begin → (r : Reply) (y : BulkPartsState) →
      ((l : Journal) → IsRegistry x.registry l → Lists.IsLate Part.Registry (length h + 1) l → Act.Begin ≡ Act.Begin → IsServed (λ m. IsRegistry y.registry m) script l (Some s) (length h + 1) Act.Begin r) →
      y.store ≡ x.store → y.stamps ≡ x.stamps → y.regions ≡ x.regions → y.results ≡ x.results → IsAnswered script lines told h s (length h + 1) (BulkAct.Plain Act.Begin) (BulkReply.Plain r) y
  line_begins l w e r y served b c f i = record {
    reply = due_plain script lines told h s (length h + 1) Act.Begin r refl v.reply refl;
    standing = standing_of script lines told h s (length h + 1) Act.Begin (BulkReply.Plain r) y (ap (λ z. z.tables) b ∙ its.rows refl)
        (plain_next script (plain h) s (length h + 1) Act.Begin r x y k.standing.plain (begins_due e) (λ n. ap (λ z. changes_of z n) b ∙ its.changes refl n) v.stands
        (subst (λ z. AreStamps script (Lists.entry_at (length h + 1) (Some s) Act.Begin r ∷ plain h) z) (sym c) (its.stamps refl))
        (subst (λ z. AreResults script (Lists.entry_at (length h + 1) (Some s) Act.Begin r ∷ plain h) z) (sym i) (its.results refl)))
        (λ n. subst (λ zs. IsPlaced script n (entry_at (length h + 1) s (BulkAct.Plain Act.Begin) (BulkReply.Plain r) ∷ h) (region_of zs n)) (sym f) (its.regions n (λ p. absurd (false≢true p))))
        (ap length f ∙ k.standing.entities);
  }
    where
      its : AreKept script lines told h s (length h + 1) Act.Begin (BulkReply.Plain r) x
      its = kept l w script lines told h s (length h + 1) Act.Begin (BulkReply.Plain r) x k.standing refl

      v : IsServed (λ m. IsRegistry y.registry m) script (plain h) (Some s) (length h + 1) Act.Begin r
      v = served (plain h) k.standing.plain.registry (k.late (λ d. same_part Part.Registry d.part)) refl

  outcome_due : (b c : Bool) → b ≡ c → outcome_of b ≡ cond c Outcome.Fault Outcome.Committed
  outcome_due true c e = subst (λ z. Outcome.Fault ≡ cond z Outcome.Fault Outcome.Committed) e refl
  outcome_due false c e = subst (λ z. Outcome.Committed ≡ cond z Outcome.Fault Outcome.Committed) e refl

  pub line_ends : Laws → Wide.Stays → a ≡ BulkAct.Plain Act.End → (y : BulkPartsState) →
      ((l : Journal) (now : ℕ) (r : Reply) → IsRegistry x.registry l → Lists.IsLate Part.Registry now l → IsRegistry y.registry (Lists.entry_at now (Some s) Act.End r ∷ l)) →
      y.store ≡ x.store → y.stamps ≡ x.stamps → y.regions ≡ x.regions → y.results ≡ x.results →
      IsAnswered script lines told h s (length h + 1) (BulkAct.Plain Act.End) (BulkReply.Plain (Reply.Ended (outcome_of b))) y
  line_ends l w e y stands v c f i = record {
    reply = reply told;
    standing = standing_of script lines told h s (length h + 1) Act.End (BulkReply.Plain r) y (ap (λ z. z.tables) v ∙ its.rows refl)
        (plain_next script (plain h) s (length h + 1) Act.End r x y k.standing.plain (ends_due e) (λ n. ap (λ z. changes_of z n) v ∙ its.changes refl n)
        (stands (plain h) (length h + 1) r k.standing.plain.registry (k.late (λ d. same_part Part.Registry d.part)))
        (subst (λ z. AreStamps script (Lists.entry_at (length h + 1) (Some s) Act.End r ∷ plain h) z) (sym c) (its.stamps refl))
        (subst (λ z. AreResults script (Lists.entry_at (length h + 1) (Some s) Act.End r ∷ plain h) z) (sym i) (its.results refl)))
        (λ n. subst (λ zs. IsPlaced script n (entry_at (length h + 1) s (BulkAct.Plain Act.End) (BulkReply.Plain r) ∷ h) (region_of zs n)) (sym f) (its.regions n (λ p. absurd (false≢true p))))
        (ap length f ∙ k.standing.entities);
  }
    where
      r : Reply
      r = Reply.Ended (outcome_of b)

      its : AreKept script lines told h s (length h + 1) Act.End (BulkReply.Plain r) x
      its = kept l w script lines told h s (length h + 1) Act.End (BulkReply.Plain r) x k.standing refl

      due : (rows : Tables) → BulkReply.Plain r ≡ reply_of script lines rows h s (length h + 1) (BulkAct.Plain Act.End)
      due rows = rw k.line (ap (λ o. BulkReply.Plain (Reply.Ended o)) (outcome_due b (has_failed s h) k.stands.failed))

      reply : (told : Option Tables) → IsReply script lines told h (entry_at (length h + 1) s (BulkAct.Plain Act.End) (BulkReply.Plain r))
      reply None = (refl, λ p. inl (due []))
      reply (Some start) = inl (due (committed script lines start h))

  -- ---- acts that are not in the plain journal

  -- such an entry leaves what the plain journal gives
  plain_same : (e : BulkEntry) (y : BulkPartsState) → is_wide e.act ≡ true → y.store.written ≡ x.store.written → y.registry ≡ x.registry → y.stamps ≡ x.stamps → y.results ≡ x.results → ArePlain script (plain (e ∷ h)) y
  plain_same e y w c r t u = subst (λ g. ArePlain script g y) (sym (plain_rests e h w)) (record {
    changes = λ n. ap (λ v. changes_in v n) c ∙ k.standing.plain.changes n;
    bridged = k.standing.plain.bridged;
    registry = subst (λ z. IsRegistry z (plain h)) (sym r) k.standing.plain.registry;
    stamps = subst (λ z. AreStamps script (plain h) z) (sym t) k.standing.plain.stamps;
    results = subst (λ z. AreResults script (plain h) z) (sym u) k.standing.plain.results;
    live = k.standing.plain.live;
  })

  pub line_changes : Wide.Stays → (r : BulkReply) (y : BulkPartsState) → a ≡ BulkAct.Bulk s → IsChanged d r x.store y.store → y.registry ≡ x.registry → y.stamps ≡ x.stamps → y.regions ≡ x.regions →
      y.results ≡ x.results → IsAnswered script lines told h s (length h + 1) (BulkAct.Bulk s) r y
  line_changes w r y p v c f g i = record {
    reply = reply told k.standing.rows;
    standing = record {
      rows = v.tables ∙ (ap (tables_changed d r) k.standing.rows ∙ rows told r);
      plain = plain_same e y refl v.written c f i;
      regions = λ n. subst (λ zs. IsPlaced script n (e ∷ h) (region_of zs n)) (sym g)
          (placed_stays w script h e n (region_of x.regions n) (record { part = refl; act = refl; stays = refl }) (k.standing.regions n));
      entities = ap length g ∙ k.standing.entities;
    };
  }
    where
      e : BulkEntry
      e = entry_at (length h + 1) s (BulkAct.Bulk s) r

      kind_of : (r : BulkReply) → is_of_store (BulkAct.Bulk 0) r ≡ true → is_of_store (BulkAct.Bulk s) r ≡ true
      kind_of (BulkReply.Plain Reply.Fault) q = refl
      kind_of (BulkReply.Changed n) q = refl
      kind_of _ q = absurd (false≢true q)

      count : (start : Tables) → x.store.tables ≡ Some (committed script lines start h) → IsReply script lines (Some start) h e
      count start q = by_count (subst (λ z. IfSome z (λ m. (r ≡ BulkReply.Changed (length (found d m))) ⊎ (r ≡ BulkReply.Plain Reply.Fault))) q v.count)
        where
          by_count : (r ≡ BulkReply.Changed (length (found d (committed script lines start h)))) ⊎ (r ≡ BulkReply.Plain Reply.Fault) → IsReply script lines (Some start) h e
          by_count (inl u) = inl (u ∙ sym (ap (λ o. BulkReply.Changed (option_map_or (λ d. length (found d (committed script lines start h))) o 0)) k.line))
          by_count (inr u) = inr (ap Some (sym u))

      reply : (told : Option Tables) → x.store.tables ≡ told_committed script lines told h → IsReply script lines told h e
      reply None q = (kind_of r v.kind, λ z. absurd (true≢false z))
      reply (Some start) q = count start q

      rows : (told : Option Tables) (r : BulkReply) → tables_changed d r (told_committed script lines told h) ≡ told_committed script lines told (entry_at (length h + 1) s (BulkAct.Bulk s) r ∷ h)
      rows None (BulkReply.Changed n) = refl
      rows (Some start) (BulkReply.Changed n) = ap Some (sym (ap (λ o. option_map_or (λ d. bulked d (committed script lines start h)) o (committed script lines start h)) k.line))
      rows None _ = refl
      rows (Some start) _ = refl

  -- an act on a whole region
  wide_answered : Wide.Stays → (act : BulkAct) (n : ℕ) (r : BulkReply) (y : BulkPartsState) (st nx : BulkState) → is_wide act ≡ true → part_of act s ≡ Part.Region n →
      ((i : ℕ) → (n == i) ≡ false → Wide.is_of i act ≡ false) → Wide.restarts act ≡ false → changer act r ≡ None → committer s act r ≡ None →
      IsReply script lines told h (entry_at (length h + 1) s act r) → region_of x.regions n ≡ EntityRegion.ReadWrite st → region_of y.regions n ≡ EntityRegion.ReadWrite nx → nx.inner ≡ st.inner →
      IsBulkRegion nx n (entry_at (length h + 1) s act r ∷ h) → IsAtRegion n x.regions y.regions → y ≡ record x { regions = y.regions } → IsAnswered script lines told h s (length h + 1) act r y
  wide_answered w act n r y st nx wide part apart stays c1 c2 reply was is inner stands at same = record {
    reply = reply;
    standing = record {
      rows = ap (λ (z : BulkPartsState). z.store.tables) same ∙ (k.standing.rows ∙ rows_rest script lines told h e c1 c2);
      plain = plain_same e y wide (ap (λ (z : BulkPartsState). z.store.written) same) (ap (λ (z : BulkPartsState). z.registry) same) (ap (λ (z : BulkPartsState). z.stamps) same) (ap (λ (z : BulkPartsState). z.results) same);
      regions = regions_by (λ i z. IsPlaced script i (e ∷ h) z) n x.regions y.regions at (subst (λ z. IsPlaced script n (e ∷ h) z) (sym is) here)
          (λ i q. placed_stays w script h e i (region_of x.regions i) (record { part = ap (same_part (Part.Region i)) part ∙ other_way n i q; act = apart i q; stays = stays }) (k.standing.regions i));
      entities = at.all ∙ k.standing.entities;
    };
  }
    where
      e : BulkEntry
      e = entry_at (length h + 1) s act r

      before : IsOfEntity script n st h
      before = subst (λ z. IsPlaced script n h z) was (k.standing.regions n)

      here : IsOfEntity script n nx (e ∷ h)
      here = record { strategy = before.strategy; capacity = ap (λ z. z.capacity) inner ∙ before.capacity; timeout = ap (λ z. z.timeout) inner ∙ before.timeout; stands = stands }

  -- the region of a cached entity
  region_here : (n : ℕ) → is_cached script n ≡ true → (st : BulkState) × (region_of x.regions n ≡ EntityRegion.ReadWrite st) × IsBulkRegion st n h
  region_here n c = by_region (region_of x.regions n) refl
    where
      by_region : (z : EntityRegion) → region_of x.regions n ≡ z → (st : BulkState) × (region_of x.regions n ≡ EntityRegion.ReadWrite st) × IsBulkRegion st n h
      by_region EntityRegion.Uncached q = absurd (uncached_not (strategy script n) (subst (λ z. IsPlaced script n h z) q (k.standing.regions n)) c)
      by_region (EntityRegion.ReadWrite st) q = (st, q, (subst (λ z. IsPlaced script n h z) q (k.standing.regions n)).stands)

  cached_if : (n : ℕ) → (a ≡ BulkAct.LockAll n) ⊎ (a ≡ BulkAct.UnlockAll n) → is_cached script n ≡ true
  cached_if n o = by_case case_of o
    where
      by_case : LineCase (is_cached script d.entity) d.entity s m a → (a ≡ BulkAct.LockAll n) ⊎ (a ≡ BulkAct.UnlockAll n) → is_cached script n ≡ true
      by_case (LineCase.Begins p q) (inl e) = let g : BulkAct.LockAll n ≡ BulkAct.Plain Act.Begin = sym e ∙ p in absurd (cc)
      by_case (LineCase.Begins p q) (inr e) = let g : BulkAct.UnlockAll n ≡ BulkAct.Plain Act.Begin = sym e ∙ p in absurd (cc)
      by_case (LineCase.Locks c q p) (inl e) = let g : BulkAct.LockAll n ≡ BulkAct.LockAll d.entity = sym e ∙ p in let i : d.entity ≡ n = cc in subst (λ z. is_cached script z ≡ true) i c
      by_case (LineCase.Locks c q p) (inr e) = let g : BulkAct.UnlockAll n ≡ BulkAct.LockAll d.entity = sym e ∙ p in absurd (cc)
      by_case (LineCase.Changes p q) (inl e) = let g : BulkAct.LockAll n ≡ BulkAct.Bulk s = sym e ∙ p in absurd (cc)
      by_case (LineCase.Changes p q) (inr e) = let g : BulkAct.UnlockAll n ≡ BulkAct.Bulk s = sym e ∙ p in absurd (cc)
      by_case (LineCase.Unlocks c q p) (inl e) = let g : BulkAct.LockAll n ≡ BulkAct.UnlockAll d.entity = sym e ∙ p in absurd (cc)
      by_case (LineCase.Unlocks c q p) (inr e) = let g : BulkAct.UnlockAll n ≡ BulkAct.UnlockAll d.entity = sym e ∙ p in let i : d.entity ≡ n = cc in subst (λ z. is_cached script z ≡ true) i c
      by_case (LineCase.Ends p q) (inl e) = let g : BulkAct.LockAll n ≡ BulkAct.Plain Act.End = sym e ∙ p in absurd (cc)
      by_case (LineCase.Ends p q) (inr e) = let g : BulkAct.UnlockAll n ≡ BulkAct.Plain Act.End = sym e ∙ p in absurd (cc)

  pub line_locks : Wide.Stays → Wide.LocksAll → Wide.LockAllGrows → (n : ℕ) (r : BulkReply) (y : BulkPartsState) → a ≡ BulkAct.LockAll n → r ≡ BulkReply.Held (held_by (region_of y.regions n)) →
      region_of y.regions n ≡ locked_all (region_of x.regions n) → IsAtRegion n x.regions y.regions → y ≡ record x { regions = y.regions } →
      IsAnswered script lines told h s (length h + 1) (BulkAct.LockAll n) r y
  line_locks w v g n r y p q here at same =
      let t = region_here n (cached_if n (inl p)) in
      let is : region_of y.regions n ≡ EntityRegion.ReadWrite (Steps.locked_all t.0) = here ∙ ap locked_all t.1 in
      let due : (rows : Tables) → r ≡ reply_of script lines rows h s (length h + 1) (BulkAct.LockAll n) =
      λ rows. q ∙ (ap (λ z. BulkReply.Held (held_by z)) is ∙ v script lines rows h s (length h + 1) n t.0 t.2) in
      wide_answered w (BulkAct.LockAll n) n r y t.0 (Steps.locked_all t.0) refl refl (λ i u. u) refl refl refl (reply due told) t.1 is refl (g h (entry_at (length h + 1) s (BulkAct.LockAll n) r) t.0 n refl t.2) at same
    where
      reply : ((rows : Tables) → r ≡ reply_of script lines rows h s (length h + 1) (BulkAct.LockAll n)) → (told : Option Tables) → IsReply script lines told h (entry_at (length h + 1) s (BulkAct.LockAll n) r)
      reply due None = (refl, λ z. inl (due []))
      reply due (Some start) = inl (due (committed script lines start h))

  pub line_unlocks : Wide.Stays → Wide.UnlocksAll → Wide.UnlockAllGrows → (n : ℕ) (r : BulkReply) (y : BulkPartsState) → a ≡ BulkAct.UnlockAll n → r ≡ BulkReply.Released (held_by (region_of y.regions n)) →
      region_of y.regions n ≡ unlocked_all (length h + 1) (region_of x.regions n) → IsAtRegion n x.regions y.regions → y ≡ record x { regions = y.regions } →
      IsAnswered script lines told h s (length h + 1) (BulkAct.UnlockAll n) r y
  line_unlocks w v g n r y p q here at same =
      let t = region_here n (cached_if n (inr p)) in
      let is : region_of y.regions n ≡ EntityRegion.ReadWrite (Steps.unlocked_all (length h + 1) t.0) = here ∙ ap (unlocked_all (length h + 1)) t.1 in
      let due : (rows : Tables) → r ≡ reply_of script lines rows h s (length h + 1) (BulkAct.UnlockAll n) =
      λ rows. q ∙ (ap (λ z. BulkReply.Released (held_by z)) is ∙ v script lines rows h s (length h + 1) n t.0 t.2) in
      wide_answered w (BulkAct.UnlockAll n) n r y t.0 (Steps.unlocked_all (length h + 1) t.0) refl refl (λ i u. u) refl refl refl (reply due told) t.1 is refl (g h (entry_at (length h + 1) s (BulkAct.UnlockAll n) r) t.0 n refl t.2) at same
    where
      reply : ((rows : Tables) → r ≡ reply_of script lines rows h s (length h + 1) (BulkAct.UnlockAll n)) → (told : Option Tables) → IsReply script lines told h (entry_at (length h + 1) s (BulkAct.UnlockAll n) r)
      reply due None = (refl, λ z. inl (due []))
      reply due (Some start) = inl (due (committed script lines start h))

  -- the change of a line is its own
  pub bulk_same : (n : ℕ) → a ≡ BulkAct.Bulk n → BulkAct.Bulk n ≡ BulkAct.Bulk s
  bulk_same n e = by_case case_of
    where
      by_case : LineCase (is_cached script d.entity) d.entity s m a → BulkAct.Bulk n ≡ BulkAct.Bulk s
      by_case (LineCase.Begins p q) = let g : BulkAct.Bulk n ≡ BulkAct.Plain Act.Begin = sym e ∙ p in absurd (cc)
      by_case (LineCase.Locks c q p) = let g : BulkAct.Bulk n ≡ BulkAct.LockAll d.entity = sym e ∙ p in absurd (cc)
      by_case (LineCase.Changes p q) = sym e ∙ p
      by_case (LineCase.Unlocks c q p) = let g : BulkAct.Bulk n ≡ BulkAct.UnlockAll d.entity = sym e ∙ p in absurd (cc)
      by_case (LineCase.Ends p q) = let g : BulkAct.Bulk n ≡ BulkAct.Plain Act.End = sym e ∙ p in absurd (cc)

  -- a line begins and ends, sweeps nothing, and does no other act of a session
  pub own_else : (o : Act) → a ≡ BulkAct.Plain o → (o ≡ Act.Begin → ⊥) → (o ≡ Act.End → ⊥) → ⊥
  own_else o e f g = by_case case_of
    where
      by_case : LineCase (is_cached script d.entity) d.entity s m a → ⊥
      by_case (LineCase.Begins p q) = let g : BulkAct.Plain o ≡ BulkAct.Plain Act.Begin = sym e ∙ p in f (cc)
      by_case (LineCase.Locks c q p) = let g : BulkAct.Plain o ≡ BulkAct.LockAll d.entity = sym e ∙ p in absurd (cc)
      by_case (LineCase.Changes p q) = let g : BulkAct.Plain o ≡ BulkAct.Bulk s = sym e ∙ p in absurd (cc)
      by_case (LineCase.Unlocks c q p) = let g : BulkAct.Plain o ≡ BulkAct.UnlockAll d.entity = sym e ∙ p in absurd (cc)
      by_case (LineCase.Ends p q) = let i : BulkAct.Plain o ≡ BulkAct.Plain Act.End = sym e ∙ p in g (cc)

  pub no_sweep : (k : Key) → a ≡ BulkAct.Sweep k → ⊥
  no_sweep k e = by_case case_of
    where
      by_case : LineCase (is_cached script d.entity) d.entity s m a → ⊥
      by_case (LineCase.Begins p q) = let g : BulkAct.Sweep k ≡ BulkAct.Plain Act.Begin = sym e ∙ p in absurd (cc)
      by_case (LineCase.Locks c q p) = let g : BulkAct.Sweep k ≡ BulkAct.LockAll d.entity = sym e ∙ p in absurd (cc)
      by_case (LineCase.Changes p q) = let g : BulkAct.Sweep k ≡ BulkAct.Bulk s = sym e ∙ p in absurd (cc)
      by_case (LineCase.Unlocks c q p) = let g : BulkAct.Sweep k ≡ BulkAct.UnlockAll d.entity = sym e ∙ p in absurd (cc)
      by_case (LineCase.Ends p q) = let g : BulkAct.Sweep k ≡ BulkAct.Plain Act.End = sym e ∙ p in absurd (cc)

  pub held_here : (n : ℕ) → (a ≡ BulkAct.LockAll n) ⊎ (a ≡ BulkAct.UnlockAll n) → held_by (region_of x.regions n) ≡ wide_holders n h
  held_here n o = let t = region_here n (cached_if n o) in ap held_by t.1 ∙ t.2.holders
