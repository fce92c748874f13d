-- Rows of entities of the mapping are well formed, at the start and after each commit.
use Rattle.std.specs.Prelude.{pos, negsuc, unwrap_or, option_map}
use Rattle.std.specs.Option.{option_map_or}
use Rattle.std.proofs.Common.{◌≡◌, ℕ, ◌<◌, ◌^◌, Bool, true, false, cond, ◌&&◌, List, [], ◌∷◌, length, slice_get, Some, None, Option, IfSome, refl, sym, subst, inl, inr, arith}
use Rattle.std.proofs.lemmas.Bool.{false≢true, and_parts, and_from, ltb-true, lt-ltb}
use Rattle.std.specs.List.{AllByRecursion, list_all}
use Rattle.hib_base.specs.Fits
use Rattle.hib_base.specs.Fits.{is_identifier, is_of_type, are_of_types, fits, fits_entity}
use Rattle.hib_base.specs.Keys.{same_key, is_before}
use Rattle.hib_base.specs.Start.{start, widened}
use Rattle.hib_base.specs.Tables.{Tables, row_at, with_row, without_row, unless_there, with_absent, after_change, after_changes, same_version, unless_expected, refusal, commit_answer, in_order}
use Rattle.hib_base.proofs.Tables.{Tested, tested, same_key_eq}
use Rattle.hib_base.proofs.Valid.{Rules, rules}
use Rattle.hib_base.specs.Valid.{is_valid}
use Rattle.hib_outside.proofs.Orders.{in_order_changes, in_order_with_absent}
use Rattle.hib_journal.specs.Types.{Key, Row, Cell, ColumnType, ColumnDef, EntityDef, Change, Commit, Script}
use Rattle.hib_journal.specs.Sessions.{Journal, own, changes, committer, committed}
use Rattle.hib_entry_fields.specs.Known.{is_key, is_entity, is_version, is_cell, are_cells, is_row}
use Rattle.hib_entry_texts.specs.WellFormed.{is_change, is_read, is_commit}
use Rattle.hib_formed.specs.Fitting.{AreFit}
use Rattle.hib_formed.proofs.Each.{within_some}
use Rattle.hib_formed.proofs.Goods.{AllGood, AreChanges, key_parts, own_good, changes_good}

-- a row of an entity of the mapping has an identifier and is well formed
abbrev pub IsPlaced : Script → Key × Row → Type 0
IsPlaced script x = is_entity script x.0.entity ≡ true → (is_identifier x.0.id ≡ true) × (is_row x.1 ≡ true)

pub record AreRows (script : Script) (t : Tables) : Type 0 where
  pub placed : AllByRecursion (IsPlaced script) t
  pub ordered : in_order t ≡ true

module _ (script : Script) where
  pub row_found : (t : Tables) (k : Key) → AllByRecursion (IsPlaced script) t → is_entity script k.entity ≡ true → is_read (row_at t k) ≡ true
  row_found [] k h d = refl
  row_found (e ∷ es) k h d = by (tested (same_key e.0 k)) (row_found es k h.1 d)
    where
      by : Tested (same_key e.0 k) → is_read (row_at es k) ≡ true → is_read (row_at (e ∷ es) k) ≡ true
      by (inl p) r = rw p (h.0 (subst (λ (z : Key). is_entity script z.entity ≡ true) (sym (same_key_eq e.0 k p)) d)).1
      by (inr p) r = rw p r

  with_placed : (t : Tables) (k : Key) (r : Row) → AllByRecursion (IsPlaced script) t → IsPlaced script (k, r) → AllByRecursion (IsPlaced script) (with_row t k r)
  with_placed [] k r h g = (g, tt)
  with_placed (e ∷ es) k r h g = by (same_key e.0 k) (is_before k e.0) (with_placed es k r h.1 g)
    where
      by : (a b : Bool) → AllByRecursion (IsPlaced script) (with_row es k r) →
          AllByRecursion (IsPlaced script) (cond a ((k, r) ∷ es) (cond b ((k, r) ∷ e ∷ es) (e ∷ with_row es k r)))
      by true b i = (g, h.1)
      by false true i = (g, h)
      by false false i = (h.0, i)

  without_placed : (t : Tables) (k : Key) → AllByRecursion (IsPlaced script) t → AllByRecursion (IsPlaced script) (without_row t k)
  without_placed [] k h = tt
  without_placed (e ∷ es) k h = by (same_key e.0 k) (without_placed es k h.1)
    where
      by : (a : Bool) → AllByRecursion (IsPlaced script) (without_row es k) → AllByRecursion (IsPlaced script) (cond a (without_row es k) (e ∷ without_row es k))
      by true i = i
      by false i = (h.0, i)

  change_placed : (c : Change) (t : Tables) → is_change script c ≡ true → AllByRecursion (IsPlaced script) t → AllByRecursion (IsPlaced script) (after_change c t)
  change_placed (Change.Insert k r) t g h =
      let p : (is_key script k ≡ true) × (is_row r ≡ true) = and_parts (is_key script k) (is_row r) g in
      with_placed t k r h (λ d. ((key_parts script k p.0).1, p.1))
  change_placed (Change.Update k v r) t g h =
      let p : (is_key script k ≡ true) × ((is_version v && is_row r) ≡ true) = and_parts (is_key script k) (is_version v && is_row r) g in
      with_placed t k r h (λ d. ((key_parts script k p.0).1, (and_parts (is_version v) (is_row r) p.1).1))
  change_placed (Change.Delete k v) t g h = without_placed t k h

  changes_placed : (cs : List Change) (t : Tables) → AreChanges script cs → AllByRecursion (IsPlaced script) t → AllByRecursion (IsPlaced script) (after_changes cs t)
  changes_placed [] t g h = h
  changes_placed (c ∷ cs) t g h = changes_placed cs (after_change c t) g.1 (change_placed c t g.0 h)

  pub rows_changed : (cs : List Change) (t : Tables) → AreChanges script cs → AreRows script t → AreRows script (after_changes cs t)
  rows_changed cs t g h = record { placed = changes_placed cs t g h.placed; ordered = in_order_changes cs t h.ordered }

  -- the committed rows
  pub rows_committed : (start : Tables) (h : Journal) → AreRows script start → AllGood script h → AreRows script (committed start h)
  rows_committed start [] r g = r
  rows_committed start (e ∷ h) r g = by (committer e.act e.reply e.session) (rows_committed start h r g.1)
    where
      by : (o : Option ℕ) → AreRows script (committed start h) → AreRows script (option_map_or (λ s. after_changes (changes s h) (committed start h)) o (committed start h))
      by None i = i
      by (Some s) i = rows_changed (changes s h) (committed start h) (changes_good script (own s h) (own_good script s h g.1)) i

  -- what a commit answers
  expected_good : (k : Key) (v : Option ℕ) (o : Option Row) → is_key script k ≡ true → is_read o ≡ true → IfSome (unless_expected k v o) (λ a. is_commit script a ≡ true)
  expected_good k v None h r = and_from (is_key script k) true h refl
  expected_good k v (Some x) h r = by (same_version v x.version)
    where
      by : (b : Bool) → IfSome (cond b None (Some (Commit.Stale k x.version))) (λ a. is_commit script a ≡ true)
      by true = tt
      by false = and_from (is_key script k) (is_version x.version) h (and_parts (is_version x.version) (are_cells x.cells) r).0

  absent_good : (k : Key) (o : Option Row) → is_key script k ≡ true → IfSome (option_map (λ _. Commit.Duplicate k) o) (λ a. is_commit script a ≡ true)
  absent_good k None h = tt
  absent_good k (Some r) h = h

  refusal_good : (c : Change) (t : Tables) → is_change script c ≡ true → AllByRecursion (IsPlaced script) t → IfSome (refusal c t) (λ a. is_commit script a ≡ true)
  refusal_good (Change.Insert k r) t g h = absent_good k (row_at t k) (and_parts (is_key script k) (is_row r) g).0
  refusal_good (Change.Update k v r) t g h =
      let p : is_key script k ≡ true = (and_parts (is_key script k) (is_version v && is_row r) g).0 in
      expected_good k v (row_at t k) p (row_found t k h (key_parts script k p).0)
  refusal_good (Change.Delete k v) t g h =
      let p : is_key script k ≡ true = (and_parts (is_key script k) (is_version v) g).0 in
      expected_good k v (row_at t k) p (row_found t k h (key_parts script k p).0)

  pub commit_good : (cs : List Change) (t : Tables) → AreChanges script cs → AllByRecursion (IsPlaced script) t → is_commit script (commit_answer cs t) ≡ true
  commit_good [] t g h = refl
  commit_good (c ∷ cs) t g h = by (refusal c t) (refusal_good c t g.0 h) (commit_good cs (after_change c t) g.1 (change_placed c t g.0 h))
    where
      by : (o : Option Commit) → IfSome o (λ a. is_commit script a ≡ true) → is_commit script (commit_answer cs (after_change c t)) ≡ true →
          is_commit script (unwrap_or o (commit_answer cs (after_change c t))) ≡ true
      by None p i = i
      by (Some a) p i = p

-- ---- the rows at the start

pub typed_cell : (k : ColumnType) (c : Cell) → is_of_type k c ≡ true → is_cell c ≡ true
typed_cell ColumnType.Int (Cell.Int (pos n)) h = h
typed_cell ColumnType.Int (Cell.Int (negsuc n)) h = h
typed_cell (ColumnType.Ref e) (Cell.Int (pos n)) h = h
typed_cell (ColumnType.Ref e) (Cell.Int (negsuc n)) h = h
typed_cell k (Cell.Int n) h = absurd (false≢true h)
typed_cell ColumnType.Text (Cell.Text t) h = h
typed_cell k (Cell.Text t) h = absurd (false≢true h)
typed_cell k (Cell.Bool b) h = refl

pub typed_cells : (ds : List ColumnDef) (cs : List Cell) → are_of_types ds cs ≡ true → are_cells cs ≡ true
typed_cells [] [] h = refl
typed_cells (d ∷ ds) [] h = refl
typed_cells [] (c ∷ cs) h = absurd (false≢true h)
typed_cells (d ∷ ds) (c ∷ cs) h =
    let p : (is_of_type d.kind c ≡ true) × (are_of_types ds cs ≡ true) = and_parts (is_of_type d.kind c) (are_of_types ds cs) h in
    and_from (is_cell c) (are_cells cs) (typed_cell d.kind c p.0) (typed_cells ds cs p.1)

given_version : (b : Bool) (v : Option ℕ) → Fits.is_version b v ≡ true → is_version v ≡ true
given_version true (Some v) h = let p : v < 4000000000 = ltb-true v 4000000000 h in lt-ltb v (2 ^ 32) (omega arith)
given_version true None h = refl
given_version false None h = refl
given_version false (Some v) h = absurd (false≢true h)

start_placed : (script : Script) (t : Tables) → fits script.mapping t ≡ true → AllByRecursion (IsPlaced script) t
start_placed script [] h = tt
start_placed script (e ∷ es) h =
    let p : (fits_entity (slice_get script.mapping e.0.entity) e.0 e.1 ≡ true) × (fits script.mapping es ≡ true) =
    and_parts (fits_entity (slice_get script.mapping e.0.entity) e.0 e.1) (fits script.mapping es) h in
    (λ d. by (slice_get script.mapping e.0.entity) refl d p.0, start_placed script es p.1)
  where
    by : (o : Option EntityDef) → slice_get script.mapping e.0.entity ≡ o → is_entity script e.0.entity ≡ true → fits_entity o e.0 e.1 ≡ true →
        (is_identifier e.0.id ≡ true) × (is_row e.1 ≡ true)
    by None n d f = absurd (within_some script.mapping e.0.entity (ltb-true e.0.entity (length script.mapping) d) n)
    by (Some d) n y f =
        let p : (is_identifier e.0.id ≡ true) × ((Fits.is_version d.versioned e.1.version && are_of_types d.columns e.1.cells) ≡ true) =
        and_parts (is_identifier e.0.id) (Fits.is_version d.versioned e.1.version && are_of_types d.columns e.1.cells) f in
        let q : (Fits.is_version d.versioned e.1.version ≡ true) × (are_of_types d.columns e.1.cells ≡ true) =
        and_parts (Fits.is_version d.versioned e.1.version) (are_of_types d.columns e.1.cells) p.1 in
        (p.0, and_from (is_version e.1.version) (are_cells e.1.cells) (given_version d.versioned e.1.version q.0) (typed_cells d.columns e.1.cells q.1))

pub rows_start : (script : Script) (t : Tables) → AreFit script t → AreRows script t
rows_start script t f = record { placed = start_placed script t f.fit; ordered = f.ordered }

-- the script's rows beside those that were kept
module _ (p : Key × Row → Bool) where
  all_with : (t : Tables) (k : Key) (r : Row) → list_all p t ≡ true → p (k, r) ≡ true → list_all p (with_row t k r) ≡ true
  all_with [] k r h g = and_from (p (k, r)) true g refl
  all_with (e ∷ es) k r h g = by (same_key e.0 k) (is_before k e.0) (all_with es k r q.1 g)
    where
      q : (p e ≡ true) × (list_all p es ≡ true)
      q = and_parts (p e) (list_all p es) h

      by : (a b : Bool) → list_all p (with_row es k r) ≡ true → list_all p (cond a ((k, r) ∷ es) (cond b ((k, r) ∷ e ∷ es) (e ∷ with_row es k r))) ≡ true
      by true b i = and_from (p (k, r)) (list_all p es) g q.1
      by false true i = and_from (p (k, r)) (list_all p (e ∷ es)) g h
      by false false i = and_from (p e) (list_all p (with_row es k r)) q.0 i

  all_unless : (t : Tables) (k : Key) (r : Row) (o : Option Row) → list_all p t ≡ true → p (k, r) ≡ true → list_all p (unless_there t k r o) ≡ true
  all_unless t k r None h g = all_with t k r h g
  all_unless t k r (Some old) h g = h

  all_absent : (t es : Tables) → list_all p t ≡ true → list_all p es ≡ true → list_all p (with_absent t es) ≡ true
  all_absent t [] h g = h
  all_absent t (e ∷ es) h g =
      let q : (p e ≡ true) × (list_all p es ≡ true) = and_parts (p e) (list_all p es) g in
      all_absent (unless_there t e.0 e.1 (row_at t e.0)) es (all_unless t e.0 e.1 (row_at t e.0) h q.0) q.1

pub start_fits : (script : Script) (kept : Tables) → is_valid script ≡ true → AreFit script (widened script.mapping kept) → AreFit script (start script.mapping kept script.rows)
start_fits script kept v f =
    let r : Rules script = rules script v in
    record {
      fit = all_absent (λ e. fits_entity (slice_get script.mapping e.0.entity) e.0 e.1) (widened script.mapping kept) script.rows f.fit r.fit;
      ordered = in_order_with_absent (widened script.mapping kept) script.rows f.ordered;
    }
