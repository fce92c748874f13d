-- What a session holds is well formed, and so is what a flush would write.
use Rattle.std.specs.Prelude.{option_and_then, unwrap_or}
use Rattle.std.specs.Option.{option_map_or, option_or}
use Rattle.std.proofs.Common.{◌≡◌, ℕ, ◌+◌, ◌<◌, ◌^◌, Bool, true, false, cond, not, ◌&&◌, ◌==◌, List, [], ◌∷◌, ◌++◌, nat_lt, nat_le, length, set, Some, None, Option, IfSome, refl, inl, inr, arith}
use Rattle.std.proofs.lemmas.Bool.{and_parts, and_from, ltb-true, lt-ltb}
use Rattle.std.proofs.lemmas.Bool.Decides.{nat_tests}
use Rattle.std.specs.List.{AllByRecursion, filter_map, list_all}
use Rattle.hib_base.specs.Fits.{entity_columns}
use Rattle.hib_base.specs.Keys.{same_key}
use Rattle.hib_base.proofs.Tables.{Tested, tested}
use Rattle.hib_journal.specs.Types.{Key, Row, Cell, Change, State, Script, Act, Reply, Entry}
use Rattle.hib_journal.specs.Sessions.{Journal}
use Rattle.hib_journal.specs.Held.{Arrival, arrival, arrived_key, arrived_row, is_break, Stay, longer, stay_after, stay, row_written, has_left, last_written, base_of, with_cells, cells_after, cells_set, Instance, instance_of, held, without_key, arrived, key_removed, removed, same_cells, next_version, insert_by, update_by, delete_by, pending}
use Rattle.hib_journal.specs.Legal.{row_of, unless_removed}
use Rattle.hib_journal.proofs.Shapes.{insert_of, update_of, delete_of}
use Rattle.hib_entry_fields.specs.Known.{is_key, is_version, is_tick, is_cell, are_cells, is_row, is_set, are_sets}
use Rattle.hib_entry_texts.specs.WellFormed.{is_act, is_reply, is_change, is_read}
use Rattle.hib_formed.proofs.Each.{each_filter, each_append, each_push, each_filter_map, each_test, test_set}
use Rattle.hib_formed.proofs.Goods.{IsGood, AllGood, AreChanges}

module _ (script : Script) where
  -- ---- arrivals

  pub record IsArrival (a : Arrival) : Type 0 where
    pub key : is_key script (arrived_key a) ≡ true
    pub row : is_row (arrived_row a) ≡ true

  arrival_good : (a : Act) (r : Reply) → is_act script a ≡ true → is_reply script a r ≡ true → IfSome (arrival a r) IsArrival
  arrival_good (Act.Get k t) (Reply.Hit r) h g = record { key = (and_parts (is_key script k) (is_tick t) h).0; row = g }
  arrival_good (Act.Load k) (Reply.Row (Some r)) h g = record { key = h; row = g }
  arrival_good (Act.Persist k r) Reply.New h g =
      let p : (is_key script k ≡ true) × (is_row r ≡ true) = and_parts (is_key script k) (is_row r) h in record { key = p.0; row = p.1 }
  arrival_good _ _ h g = tt

  pub record IsStay (s : Stay) : Type 0 where
    pub arrival : IsArrival s.0
    pub later : AllGood script s.1

  longer_good : (e : Entry) (o : Option Stay) → IsGood script e → IfSome o IsStay → IfSome (longer e o) IsStay
  longer_good e None g h = tt
  longer_good e (Some s) g h = record { arrival = h.arrival; later = (g, h.later) }

  stay_good : (k : Key) (m : Journal) → AllGood script m → IfSome (stay k m) IsStay
  stay_good k [] g = tt
  stay_good k (e ∷ m) g = by_break (is_break e.act e.reply) (arrival e.act e.reply) (arrival_good e.act e.reply g.0.act g.0.reply) (stay_good k m g.1)
    where
      by_key : (a : Arrival) (b : Bool) → IsArrival a → IfSome (stay k m) IsStay → IfSome (cond b (Some (a, [])) (longer e (stay k m))) IsStay
      by_key a true x i = record { arrival = x; later = tt }
      by_key a false x i = longer_good e (stay k m) g.0 i

      by_arrival : (o : Option Arrival) → IfSome o IsArrival → IfSome (stay k m) IsStay → IfSome (stay_after k e o (stay k m)) IsStay
      by_arrival None x i = longer_good e (stay k m) g.0 i
      by_arrival (Some a) x i = by_key a (same_key (arrived_key a) k) x i

      by_break : (b : Bool) (o : Option Arrival) → IfSome o IsArrival → IfSome (stay k m) IsStay → IfSome (cond b None (stay_after k e o (stay k m))) IsStay
      by_break true o x i = tt
      by_break false o x i = by_arrival o x i

  -- ---- what was written since

  if_row : (b : Bool) (r : Row) → is_row r ≡ true → is_read (cond b (Some r) None) ≡ true
  if_row true r h = h
  if_row false r h = refl

  written_good : (k : Key) (a : Act) → is_act script a ≡ true → is_read (row_written k a) ≡ true
  written_good k (Act.Write (Change.Insert j r)) h = if_row (same_key j k) r (and_parts (is_key script j) (is_row r) h).1
  written_good k (Act.Write (Change.Update j v r)) h =
      if_row (same_key j k) r (and_parts (is_version v) (is_row r) (and_parts (is_key script j) (is_version v && is_row r) h).1).1
  written_good k _ h = refl

  or_good : (x y : Option Row) → is_read x ≡ true → is_read y ≡ true → is_read (option_or x y) ≡ true
  or_good None y h g = g
  or_good (Some r) y h g = h

  last_good : (k : Key) (m : Journal) → AllGood script m → is_read (last_written k m) ≡ true
  last_good k [] g = refl
  last_good k (e ∷ m) g = or_good (row_written k e.act) (last_written k m) (written_good k e.act g.0.act) (last_good k m g.1)

  base_good : (k : Key) (s : Stay) → IsStay s → is_read (base_of k s) ≡ true
  base_good k (Arrival.Read j r, m) h = or_good (last_written k m) (Some r) (last_good k m h.later) h.arrival.row
  base_good k (Arrival.Made j r, m) h = last_good k m h.later

  with_good : (n : ℕ) (ps : List (ℕ × Cell)) (cs : List Cell) → AllByRecursion (λ p. is_set script n p ≡ true) ps → are_cells cs ≡ true → are_cells (with_cells ps cs) ≡ true
  with_good n [] cs h g = g
  with_good n (p ∷ ps) cs h g =
      with_good n ps (set cs p.0 p.1) h.1
      (test_set is_cell cs p.0 p.1 g (and_parts (nat_lt p.0 (length (entity_columns script.mapping n))) (is_cell p.1) h.0).1)

  set_good : (k : Key) (a : Act) (r : Reply) (cs : List Cell) → is_act script a ≡ true → are_cells cs ≡ true → are_cells (cells_after k a r cs) ≡ true
  set_good k (Act.Set j ps) Reply.Set cs h g = by (same_key j k)
    where
      sets : AllByRecursion (λ p. is_set script j.entity p ≡ true) ps
      sets = each_test (λ x. is_set script j.entity x) ps (and_parts (nat_le 1 (length ps)) (list_all (λ x. is_set script j.entity x) ps) (and_parts (is_key script j) (are_sets script j.entity ps) h).1).1

      by : (b : Bool) → are_cells (cond b (with_cells ps cs) cs) ≡ true
      by true = with_good j.entity ps cs sets g
      by false = g
  set_good k _ _ cs h g = g

  cells_good : (k : Key) (m : Journal) (cs : List Cell) → AllGood script m → are_cells cs ≡ true → are_cells (cells_set k m cs) ≡ true
  cells_good k [] cs g h = h
  cells_good k (e ∷ m) cs g h = set_good k e.act e.reply (cells_set k m cs) g.0.act (cells_good k m cs g.1 h)

  row_parts : (r : Row) → is_row r ≡ true → (is_version r.version ≡ true) × (are_cells r.cells ≡ true)
  row_parts r h = and_parts (is_version r.version) (are_cells r.cells) h

  base_version : (o : Option Row) (r : Row) → is_read o ≡ true → is_row r ≡ true → is_version ((unwrap_or o r).version) ≡ true
  base_version None r h g = (row_parts r g).0
  base_version (Some b) r h g = (row_parts b h).0

  -- ---- instances

  pub record IsHeld (i : Instance) : Type 0 where
    pub key : is_key script i.key ≡ true
    pub base : is_read i.base ≡ true
    pub row : is_row i.row ≡ true

  instance_good : (k : Key) (s : Stay) → is_key script k ≡ true → IsStay s → IsHeld (instance_of k s)
  instance_good k s h g =
      let b : is_read (base_of k s) ≡ true = base_good k s g in
      record {
        key = h;
        base = b;
        row = and_from (is_version ((unwrap_or (base_of k s) (arrived_row s.0)).version)) (are_cells (cells_set k s.1 (arrived_row s.0).cells))
            (base_version (base_of k s) (arrived_row s.0) b g.arrival.row)
            (cells_good k s.1 (arrived_row s.0).cells g.later (row_parts (arrived_row s.0) g.arrival.row).1);
      }

  pub held_good : (m : Journal) (k : Key) → AllGood script m → is_key script k ≡ true → IfSome (held m k) IsHeld
  unfolding held
  held_good m k g h = by (stay k m) (stay_good k m g)
    where
      by_left : (s : Stay) (b : Bool) → IsStay s → IfSome (cond b None (Some (instance_of k s))) IsHeld
      by_left s true x = tt
      by_left s false x = instance_good k s h x

      by : (o : Option Stay) → IfSome o IsStay → IfSome (option_and_then (λ s. cond (has_left k s) None (Some (instance_of k s))) o) IsHeld
      by None x = tt
      by (Some s) x = by_left s (has_left k s) x

  -- the row that a find gives
  pub find_good : (o : Option Instance) → IfSome o IsHeld → is_read (row_of o) ≡ true
  find_good None h = refl
  find_good (Some i) h = by i.state
    where
      by : (s : State) → is_read (unless_removed s i.row) ≡ true
      by State.Removed = refl
      by State.New = h.row
      by State.Managed = h.row

  -- ---- keys

  abbrev pub AreKeys : List Key → Type 0
  AreKeys ks = AllByRecursion (λ k. is_key script k ≡ true) ks

  moved_good : (k : Key) (ks : List Key) → is_key script k ≡ true → AreKeys ks → AreKeys (without_key k ks ++ k ∷ [])
  moved_good k ks h g = each_push (λ k. is_key script k ≡ true) (without_key k ks) k (each_filter (λ k. is_key script k ≡ true) (λ j. not (same_key j k)) ks g) h

  arrived_good : (m : Journal) → AllGood script m → AreKeys (arrived m)
  arrived_good [] g = tt
  arrived_good (e ∷ m) g = by (arrival e.act e.reply) (arrival_good e.act e.reply g.0.act g.0.reply) (arrived_good m g.1)
    where
      by : (o : Option Arrival) → IfSome o IsArrival → AreKeys (arrived m) → AreKeys (option_map_or (λ a. without_key (arrived_key a) (arrived m) ++ arrived_key a ∷ []) o (arrived m))
      by None x i = i
      by (Some a) x i = moved_good (arrived_key a) (arrived m) x.key i

  removed_step : (a : Act) (r : Reply) (ks : List Key) → is_act script a ≡ true → AreKeys ks → AreKeys (key_removed a r ks)
  removed_step (Act.Remove k) Reply.Removed ks h g = moved_good k ks h g
  removed_step _ _ ks h g = g

  removed_good : (m : Journal) → AllGood script m → AreKeys (removed m)
  removed_good [] g = tt
  removed_good (e ∷ m) g = removed_step e.act e.reply (removed m) g.0.act (removed_good m g.1)

  -- ---- what a flush would write

  abbrev IsChanged : Change → Type 0
  IsChanged c = is_change script c ≡ true

  more_good : (v : Option ℕ) → is_version v ≡ true → is_version (next_version v) ≡ true
  more_good None h = refl
  more_good (Some v) h = by (tested (v == 4294967295))
    where
      low : v < 2 ^ 32
      low = ltb-true v (2 ^ 32) h

      by : Tested (v == 4294967295) → is_version (next_version (Some v)) ≡ true
      by (inl p) = rw p h
      by (inr p) = let d : v + 1 < 2 ^ 32 = grind (arith, nat_tests) in rw p (lt-ltb (v + 1) (2 ^ 32) d)

  insert_good : (o : Option Instance) → IfSome o IsHeld → IfSome (insert_of o) IsChanged
  insert_good None h = tt
  insert_good (Some i) h = by i.state
    where
      by : (s : State) → IfSome (insert_by s i.key i.row) IsChanged
      by State.New = and_from (is_key script i.key) (is_row i.row) h.key h.row
      by State.Managed = tt
      by State.Removed = tt

  update_good : (o : Option Instance) → IfSome o IsHeld → IfSome (update_of o) IsChanged
  update_good None h = tt
  update_good (Some i) h = by i.state i.base h.base
    where
      by_cells : (b : Row) (x : Bool) → is_row b ≡ true → IfSome (cond x None (Some (Change.Update i.key b.version (record { version = next_version b.version; cells = i.row.cells })))) IsChanged
      by_cells b true g = tt
      by_cells b false g =
          let v : is_version b.version ≡ true = (row_parts b g).0 in
          and_from (is_key script i.key) (is_version b.version && (is_version (next_version b.version) && are_cells i.row.cells)) h.key
          (and_from (is_version b.version) (is_version (next_version b.version) && are_cells i.row.cells) v
          (and_from (is_version (next_version b.version)) (are_cells i.row.cells) (more_good b.version v) (row_parts i.row h.row).1))

      by : (s : State) (o : Option Row) → is_read o ≡ true → IfSome (update_by s i.key i.row o) IsChanged
      by State.Managed (Some b) g = by_cells b (same_cells i.row.cells b.cells) g
      by State.Managed None g = tt
      by State.New o g = tt
      by State.Removed o g = tt

  delete_good : (o : Option Instance) → IfSome o IsHeld → IfSome (delete_of o) IsChanged
  delete_good None h = tt
  delete_good (Some i) h = by i.state i.base h.base
    where
      by : (s : State) (o : Option Row) → is_read o ≡ true → IfSome (delete_by s i.key o) IsChanged
      by State.Removed (Some b) g = and_from (is_key script i.key) (is_version b.version) h.key (row_parts b g).0
      by State.Removed None g = tt
      by State.New o g = tt
      by State.Managed o g = tt

  pub pending_good : (m : Journal) → AllGood script m → AreChanges script (pending m)
  unfolding pending
  pending_good m g =
      each_append IsChanged (filter_map (λ k. insert_of (held m k)) (arrived m) ++ filter_map (λ k. update_of (held m k)) (arrived m)) (filter_map (λ k. delete_of (held m k)) (removed m))
      (each_append IsChanged (filter_map (λ k. insert_of (held m k)) (arrived m)) (filter_map (λ k. update_of (held m k)) (arrived m))
      (each_filter_map IsChanged (λ k. is_key script k ≡ true) (λ k. insert_of (held m k)) (λ k h. insert_good (held m k) (held_good m k g h)) (arrived m) (arrived_good m g))
      (each_filter_map IsChanged (λ k. is_key script k ≡ true) (λ k. update_of (held m k)) (λ k h. update_good (held m k) (held_good m k g h)) (arrived m) (arrived_good m g)))
      (each_filter_map IsChanged (λ k. is_key script k ≡ true) (λ k. delete_of (held m k)) (λ k h. delete_good (held m k) (held_good m k g h)) (removed m) (removed_good m g))
