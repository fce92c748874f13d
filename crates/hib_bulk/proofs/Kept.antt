-- The parts that an entry of a session isn't of stand for the entries with it.
use Rattle.std.proofs.Common.{◌≡◌, ℕ, ◌==◌, true, false, List, ◌∷◌, length, Some, None, Option, refl, sym, ap, ◌∙◌, subst, arith}
use Rattle.std.specs.Option.{option_map}
use Rattle.std.proofs.lemmas.Bool.{true≢false, false≢true}
use Rattle.std.proofs.lemmas.Option.{none-some}
use Rattle.hib_base.specs.Tables.{Tables}
use Rattle.hib_journal.specs.Types.{Key, Script, Part, Act, Reply}
use Rattle.hib_journal.specs.Slot.{key_in}
use Rattle.hib_journal.specs.Sessions.{Journal, own}
use Rattle.hib_journal.specs.Legal.{is_outside}
use Rattle.hib_journal.specs.Lists as Lists
use Rattle.hib_journal.specs.Lists.{unsaved}
use Rattle.hib_journal.proofs.Open.{killed_same}
use Rattle.hib_store.specs.Stores.{StoreState, changes_of}
use Rattle.hib_engines.specs.Laws.{Laws}
use Rattle.hib_engines.specs.Registry.{IsRegistry}
use Rattle.hib_engines.specs.Region.{is_of_key, is_regional, entity_in, acts_on}
use Rattle.hib_engines.specs.Served.{is_for}
use Rattle.hib_engines.specs.Stamps.{AreStamps}
use Rattle.hib_engines.specs.Results.{AreResults}
use Rattle.hib_engines.specs.Due.{IsDue}
use Rattle.hib_engines.proofs.Bridge.{bridged_own, inside_stops, not_outside}
use Rattle.hib_engines.proofs.Elsewhere.{registry_kept}
use Rattle.hib_engines.proofs.StampsServed.{stamps_stay}
use Rattle.hib_engines.proofs.ResultsServed.{results_stay}
use Rattle.hib_engines.proofs.Stored.{store_stays}
use Rattle.hib_bulk.specs.Types.{BulkDef, BulkAct, BulkReply, BulkEntry}
use Rattle.hib_bulk_law.specs.Plain.{Bulked, plain, plain_reply}
use Rattle.hib_bulk_law.specs.Rows.{line, committed, committed_after, changer, committer}
use Rattle.hib_bulk_law.specs.Legal.{bulk_answer}
use Rattle.hib_bulk_law.proofs.Entries.{plain_does}
use Rattle.hib_bulk_region.specs.Laws as Wide
use Rattle.hib_bulk.specs.Regions.{region_of, IsPlaced}
use Rattle.hib_bulk.specs.Standing.{BulkPartsState, told_committed, ArePlain, AreStanding, IsStill, entry_at}
use Rattle.hib_bulk.proofs.Placed.{placed_kept}

-- ---- what the plain journal gives

pub plain_next : (script : Script) (g : Journal) (s now : ℕ) (a : Act) (r : Reply) (x y : BulkPartsState) → ArePlain script g x → IsDue script (own s g) a →
    ((n : ℕ) → changes_of y.store n ≡ unsaved n (Lists.entry_at now (Some s) a r ∷ g)) → IsRegistry y.registry (Lists.entry_at now (Some s) a r ∷ g) →
    AreStamps script (Lists.entry_at now (Some s) a r ∷ g) y.stamps → AreResults script (Lists.entry_at now (Some s) a r ∷ g) y.results → ArePlain script (Lists.entry_at now (Some s) a r ∷ g) y
plain_next script g s now a r x y k due changes registry stamps results = record {
  changes = changes;
  bridged = bridged_own script g s now a r k.bridged (k.live s) due;
  registry = registry;
  stamps = stamps;
  results = results;
  live = λ n. killed_same n (Lists.entry_at now (Some s) a r) g due.inside ∙ k.live n;
}

changes_stay : (g : Journal) (s now : ℕ) (a : Act) (r : Reply) (x : StoreState) → ((n : ℕ) → changes_of x n ≡ unsaved n g) → is_for Part.Store a s ≡ false → Lists.stops a ≡ false →
    (n : ℕ) → changes_of x n ≡ unsaved n (Lists.entry_at now (Some s) a r ∷ g)
changes_stay g s now a r x f p q n = (store_stays None g (Some s) now a r y (record { rows = refl; changes = f }) p q).changes n
  where
    y : StoreState
    y = record x { tables = None }

-- ---- the committed rows

pub rows_rest : (script : Script) (lines : List BulkDef) (told : Option Tables) (h : Bulked) (e : BulkEntry) → changer e.act e.reply ≡ None → committer e.session e.act e.reply ≡ None →
    told_committed script lines told h ≡ told_committed script lines told (e ∷ h)
rows_rest script lines None h e p q = refl
rows_rest script lines (Some start) h e p q = ap Some (sym (rest (committed script lines start h)))
  where
    rest : (t : Tables) → committed_after script lines h e t ≡ t
    rest t = rw (p, q) refl

-- an act of another part than the store commits nothing
pub commits_not : (s : ℕ) (a : Act) (r : BulkReply) → is_for Part.Store a s ≡ false → committer s (BulkAct.Plain a) r ≡ None
commits_not s Act.Commit r p = absurd (true≢false p)
commits_not s _ r p = refl

-- ---- the other parts

-- only acts of regions, and an End, have answers of their own where bulk lines are
pub bulk_none : (script : Script) (lines : List BulkDef) (h : Bulked) (s : ℕ) (a : Act) → line script lines s ≡ None → (is_regional a ≡ true → ⊥) → bulk_answer script lines h s a ≡ None
bulk_none script lines h s Act.End n p = rw n refl
bulk_none script lines h s (Act.Get k t) n p = absurd (p refl)
bulk_none script lines h s (Act.Put k r t f) n p = absurd (p refl)
bulk_none script lines h s (Act.AfterInsert k r f) n p = absurd (p refl)
bulk_none script lines h s (Act.AfterUpdate k i r) n p = absurd (p refl)
bulk_none script lines h s _ n p = refl

pub record AreKept (script : Script) (lines : List BulkDef) (told : Option Tables) (h : Bulked) (s now : ℕ) (a : Act) (r : BulkReply) (x : BulkPartsState) : Type 0 where
  pub rows : is_for Part.Store a s ≡ false → x.store.tables ≡ told_committed script lines told (entry_at now s (BulkAct.Plain a) r ∷ h)
  pub changes : is_for Part.Store a s ≡ false → (n : ℕ) → changes_of x.store n ≡ unsaved n (Lists.entry_at now (Some s) a (plain_reply a r) ∷ plain h)
  pub registry : is_for Part.Registry a s ≡ false → IsRegistry x.registry (Lists.entry_at now (Some s) a (plain_reply a r) ∷ plain h)
  pub stamps : is_for Part.Stamps a s ≡ false → AreStamps script (Lists.entry_at now (Some s) a (plain_reply a r) ∷ plain h) x.stamps
  pub regions : (n : ℕ) → (is_regional a ≡ true → (acts_on a == n) ≡ false) → IsPlaced script n (entry_at now s (BulkAct.Plain a) r ∷ h) (region_of x.regions n)
  pub results : is_for Part.Results a s ≡ false → AreResults script (Lists.entry_at now (Some s) a (plain_reply a r) ∷ plain h) x.results

pub kept : Laws → Wide.Stays → (script : Script) (lines : List BulkDef) (told : Option Tables) (h : Bulked) (s now : ℕ) (a : Act) (r : BulkReply) (x : BulkPartsState) →
    AreStanding script lines told h x → is_outside a ≡ false → AreKept script lines told h s now a r x
kept l w script lines told h s now a r x k i =
    let q = plain_reply a r in
    let p = k.plain in
    record {
      rows = λ n. k.rows ∙ rows_rest script lines told h (entry_at now s (BulkAct.Plain a) r) refl (commits_not s a r n);
      changes = λ n. changes_stay (plain h) s now a q x.store p.changes n (inside_stops a i);
      registry = λ n. registry_kept (plain h) (Some s) now a q x.registry p.registry n;
      stamps = λ n. stamps_stay l script (plain h) (Some s) now a q x.stamps p.stamps n (not_outside a i);
      regions = λ n d. placed_kept w script h n s now a r (region_of x.regions n) (k.regions n) d (not_outside a i);
      results = λ n. results_stay l script (plain h) (Some s) now a q x.results p.results n (not_outside a i);
    }

-- the parts stand for the entries with that of a plain act
pub standing_of : (script : Script) (lines : List BulkDef) (told : Option Tables) (h : Bulked) (s now : ℕ) (a : Act) (r : BulkReply) (y : BulkPartsState) →
    y.store.tables ≡ told_committed script lines told (entry_at now s (BulkAct.Plain a) r ∷ h) → ArePlain script (Lists.entry_at now (Some s) a (plain_reply a r) ∷ plain h) y →
    ((n : ℕ) → IsPlaced script n (entry_at now s (BulkAct.Plain a) r ∷ h) (region_of y.regions n)) → length y.regions ≡ length script.mapping →
    AreStanding script lines told (entry_at now s (BulkAct.Plain a) r ∷ h) y
standing_of script lines told h s now a r y rows p regions entities = record {
  rows = rows;
  plain = subst (λ g. ArePlain script g y) (sym (plain_does (entry_at now s (BulkAct.Plain a) r) h a refl)) p;
  regions = regions;
  entities = entities;
}

-- an act that names no entity is one of no region
pub of_none : (a : Act) → entity_in a ≡ None → is_regional a ≡ true → ⊥
of_none a p r = by_key (key_in a) p r
  where
    by_key : (o : Option Key) → option_map (λ k. k.entity) o ≡ None → is_of_key o ≡ true → ⊥
    by_key None p r = false≢true r
    by_key (Some k) p r = none-some k.entity (sym p)

-- ---- parts that are as before

pub still_same : (x y : BulkPartsState) → y ≡ x → IsStill x y
still_same x y e = subst (λ v. IsStill x v) (sym e) (record {
  store = record { tables = refl; written = refl; faults = omega arith; later = omega arith; few = omega arith };
  registry = refl;
  stamps = refl;
  regions = refl;
  results = refl;
})
