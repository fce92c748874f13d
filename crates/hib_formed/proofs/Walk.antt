-- Each act that is due is well formed, if a session's entries so far are good.
use Rattle.std.specs.Prelude.{is_some, option_and_then}
use Rattle.std.specs.Option.{option_map_or, option_or}
use Rattle.std.proofs.Common.{◌≡◌, ℕ, zero, suc, ◌+◌, ◌<◌, ◌≤◌, Bool, true, false, cond, not, ◌&&◌, ◌==◌, List, [], ◌∷◌, ◌++◌, length, nat_le, slice_get, Some, None, Option, IfSome, refl, sym, ap, ◌∙◌, subst, inl, inr, arith}
use Rattle.std.proofs.lemmas.Bool.{false≢true, and_parts, and_from, or_left, ltb-true, eq-eqb, le-leb}
use Rattle.std.specs.List.{AllByRecursion, filter, flat_map, list_all, list_any, range_with_len}
use Rattle.hib_base.specs.Keys.{same_key}
use Rattle.hib_base.specs.Tables.{key_of, first_on, last_on, row_left}
use Rattle.hib_base.proofs.Tables.{Tested, tested}
use Rattle.hib_journal.specs.Types.{Key, Row, Cell, Change, Strategy, Mode, Statement, Script, Act, Reply, Checked, Entry}
use Rattle.hib_journal.specs.Sessions.{Journal, time_in, floor_in, changes_in}
use Rattle.hib_journal.specs.Held.{held, pending, is_fresh}
use Rattle.hib_journal.specs.Plan.{Block, one, each, left_of, InOrder}
use Rattle.hib_journal.specs.Next
use Rattle.hib_journal.specs.Next.{strategy, plan_of, next, mode_after, ends, tables_of, tables_in, lock_id, is_in, is_in_tables}
use Rattle.hib_journal.proofs.Plans.{Good, Runs, Allows, runs_each, runs_if, AllRight, good_left, allowed_first}
use Rattle.hib_entry_fields.specs.Known.{is_key, is_entity, is_query, is_tick, is_version, are_cells, is_row, are_tables, are_sets}
use Rattle.hib_entry_texts.specs.WellFormed.{is_act, is_reply, is_change, is_read, is_evicted_id}
use Rattle.hib_formed.proofs.Each.{each_filter, each_append, each_flat, range_below, test_each}
use Rattle.hib_formed.proofs.Goods.{IsGood, AllGood, AreChanges, early_tick, key_parts, time_tick, floor_tick, changes_good}
use Rattle.hib_formed.proofs.Held.{AreKeys, pending_good}

-- what a statement says is well formed
abbrev pub IsSaid : Script → Statement → Type 0
IsSaid script (Statement.Find k) = is_key script k ≡ true
IsSaid script (Statement.Persist k cells) = (is_key script k ≡ true) × (are_cells cells ≡ true)
IsSaid script (Statement.Set k xs) = (is_key script k ≡ true) × (are_sets script k.entity xs ≡ true)
IsSaid script (Statement.Remove k) = is_key script k ≡ true
IsSaid script (Statement.List q) = is_query script q ≡ true
IsSaid script _ = Unit {0}

module _ (script : Script) where
  abbrev Ok : Journal → Act → Type 0
  Ok m a = is_act script a ≡ true

  abbrev Rt : Journal → Entry → Type 0
  Rt m e = IsGood script e

  abbrev W : Journal → Type 0
  W m = AllGood script m

  abbrev Goes : Block → Type 0
  Goes b = (m : Journal) → W m → Runs Ok Rt b m W

  abbrev AreActs : List Act → Type 0
  AreActs acts = AllByRecursion (λ a. is_act script a ≡ true) acts

  goes_if : (b : Journal → Bool) (p q : Block) → Goes p → Goes q → Goes (λ d n. cond (b d) (p d n) (q d n))
  goes_if b p q f g m w = runs_if Ok Rt (b m) p q m W (f m w) (g m w)

  nothing : Goes (λ d n. n d)
  nothing m w go g = g m w

  goes_act : (a : Act) (m : Journal) → is_act script a ≡ true → W m → Runs Ok Rt (one a) m W
  goes_act a m p w go g = (p, λ e q r. g (e ∷ m) (r, w))

  answered : (a : Act) (e : Entry) → e.act ≡ a → IsGood script e → is_reply script a e.reply ≡ true
  answered a e p g = subst (λ x. is_reply script x e.reply ≡ true) p g.reply

  allow_acts : (acts : List Act) (m : Journal) → AreActs acts → W m → Allows Ok Rt acts m W
  allow_acts [] m h w = w
  allow_acts (a ∷ acts) m h w = (h.0, λ e p r. allow_acts acts (e ∷ m) h.1 (r, w))

  goes_acts : (f : Journal → List Act) → ((m : Journal) → W m → AreActs (f m)) → Goes (λ d n. each (f d) d n)
  goes_acts f h m w = runs_each Ok Rt (f m) m W (allow_acts (f m) m (h m w) w)

  -- ---- find

  module _ (mode : Mode) (k : Key) (named : is_key script k ≡ true) where
    put_act : (r : Row) (m : Journal) → is_row r ≡ true → W m → is_act script (Act.Put k r (time_in m) (floor_in m)) ≡ true
    put_act r m h w =
        and_from (is_key script k) (is_row r && (is_tick (time_in m) && is_tick (floor_in m))) named
        (and_from (is_row r) (is_tick (time_in m) && is_tick (floor_in m)) h
        (and_from (is_tick (time_in m)) (is_tick (floor_in m)) (time_tick script m w) (floor_tick script m w)))

    goes_put : (r : Reply) → is_reply script (Act.Load k) r ≡ true → Goes (Next.put_loaded script mode k r)
    goes_put (Reply.Row (Some x)) h = λ m w. runs_if Ok Rt (Next.may_put script mode k m) (one (Act.Put k x (time_in m) (floor_in m))) (λ d n. n d) m W
        (goes_act (Act.Put k x (time_in m) (floor_in m)) m (put_act x m h w) w) (nothing m w)
    goes_put (Reply.Row None) h = nothing
    goes_put _ h = nothing

    goes_load : Goes (Next.load script mode k)
    goes_load m w go g = (named, λ e p r. goes_put e.reply (answered (Act.Load k) e p r) (e ∷ m) (r, w) go g)

    goes_unless_hit : (r : Reply) → Goes (Next.load_unless_hit script mode k r)
    goes_unless_hit (Reply.Hit x) = nothing
    goes_unless_hit _ = goes_load

    goes_get : Goes (Next.get script mode k)
    goes_get m w go g = (
      and_from (is_key script k) (is_tick (time_in m)) named (time_tick script m w),
      λ e p r. goes_unless_hit e.reply (e ∷ m) (r, w) go g,
    )

    goes_find : Goes (Next.find script mode k)
    goes_find = goes_if (λ d. is_some (held d k)) (one (Act.Find k)) (Next.find_away script mode k) (λ m w. goes_act (Act.Find k) m named w)
        (goes_if (λ d. Next.may_read script mode k d) (Next.get script mode k) (Next.load script mode k) goes_get goes_load)

  -- ---- list

  module _ (mode : Mode) (q : ℕ) (asked : is_query script q ≡ true) where
    keep_act : (l : List Cell) (m : Journal) → are_cells l ≡ true → W m → is_act script (Act.Keep q (time_in m) l) ≡ true
    keep_act l m h w =
        and_from (is_query script q) (is_tick (time_in m) && are_cells l) asked (and_from (is_tick (time_in m)) (are_cells l) (time_tick script m w) h)

    goes_keep : (r : Reply) → is_reply script (Act.List q) r ≡ true → Goes (Next.keep_listed script mode q r)
    goes_keep (Reply.Listed l) h = λ m w. runs_if Ok Rt (Next.is_free script q (Next.mode_puts mode) m) (one (Act.Keep q (time_in m) l)) (λ d n. n d) m W
        (goes_act (Act.Keep q (time_in m) l) m (keep_act l m h w) w) (nothing m w)
    goes_keep _ h = nothing

    goes_store : Goes (Next.list_store script mode q)
    goes_store m w go g = (asked, λ e p r. goes_keep e.reply (answered (Act.List q) e p r) (e ∷ m) (r, w) go g)

    goes_unless_fresh : (r : Reply) → Goes (Next.list_unless_fresh script mode q r)
    goes_unless_fresh (Reply.Check Checked.Fresh) = nothing
    goes_unless_fresh (Reply.Check (Checked.Stale t v)) = goes_store
    goes_unless_fresh _ = goes_store

    goes_found : (r : Reply) → is_reply script (Act.Look q) r ≡ true → Goes (Next.check_found script mode q r)
    goes_found (Reply.Found t l) h = λ m w go g. (
      and_from (is_query script q) (is_tick t) asked (and_parts (is_tick t) (are_cells l) h).0,
      λ e p r. goes_unless_fresh e.reply (e ∷ m) (r, w) go g,
    )
    goes_found _ h = goes_store

    goes_answer : Goes (Next.answer script mode q)
    goes_answer = goes_if (λ d. Next.is_free script q (Next.mode_reads mode) d) (Next.look script mode q) (Next.list_store script mode q)
        (λ m w go g. (asked, λ e p r. goes_found e.reply (answered (Act.Look q) e p r) (e ∷ m) (r, w) go g)) goes_store

  -- ---- flush

  declared_tables : (cs : List Change) → AllByRecursion (λ t. is_entity script t ≡ true) (tables_in script cs)
  declared_tables cs =
      each_filter (λ t. is_entity script t ≡ true) (λ n. list_any (λ c. (key_of c).entity == n) cs) (range_with_len 0 (length script.mapping))
      (range_below (length script.mapping) 0 (length script.mapping) (omega arith))

  some_tables : (t : ℕ) (ts : List ℕ) → AllByRecursion (λ t. is_entity script t ≡ true) (t ∷ ts) → are_tables script (t ∷ ts) ≡ true
  some_tables t ts h =
      and_from (nat_le 1 (length (t ∷ ts))) (list_all (λ t. is_entity script t) (t ∷ ts)) (le-leb 1 (length (t ∷ ts)) (omega arith))
      (test_each (λ t. is_entity script t) (t ∷ ts) h)

  abbrev Has : (ℕ → Bool) → ℕ → ℕ → Type 0
  Has p a m = (t : ℕ) × (ts : List ℕ) × (filter p (range_with_len a m) ≡ t ∷ ts)

  has_here : (p : ℕ → Bool) (a m : ℕ) → p a ≡ true → Has p a (suc m)
  has_here p a m q = (a, filter p (range_with_len (a + 1) m), rw q refl)

  has_later : (p : ℕ → Bool) (a m : ℕ) → p a ≡ false → Has p (a + 1) m → Has p a (suc m)
  has_later p a m q i = (i.0, i.1, rw q i.2)

  other_number : (p : ℕ → Bool) (a n : ℕ) → p n ≡ true → p a ≡ false → a ≤ n → a + 1 ≤ n
  other_number p a n h q l = let d : (a ≡ n) → ⊥ = λ e. false≢true (sym q ∙ (ap p e ∙ h)) in omega arith

  filter_has : (p : ℕ → Bool) (n a m : ℕ) → p n ≡ true → a ≤ n → n < a + m → Has p a m
  filter_has p n a zero h l u = absurd (omega arith)
  filter_has p n a (suc m) h l u = by (tested (p a)) (λ k. filter_has p n (a + 1) m h k (omega arith))
    where
      by : Tested (p a) → (a + 1 ≤ n → Has p (a + 1) m) → Has p a (suc m)
      by (inl q) f = has_here p a m q
      by (inr q) f = has_later p a m q (f (other_number p a n h q l))

  change_key : (c : Change) → is_change script c ≡ true → is_key script (key_of c) ≡ true
  change_key (Change.Insert k r) h = (and_parts (is_key script k) (is_row r) h).0
  change_key (Change.Update k v r) h = (and_parts (is_key script k) (is_version v && is_row r) h).0
  change_key (Change.Delete k v) h = (and_parts (is_key script k) (is_version v) h).0

  changed_tables : (c : Change) (cs : List Change) → is_change script c ≡ true → are_tables script (tables_in script (c ∷ cs)) ≡ true
  changed_tables c cs h =
      let l : (key_of c).entity < length script.mapping = ltb-true (key_of c).entity (length script.mapping) (key_parts script (key_of c) (change_key c h)).0 in
      let i = filter_has (λ n. list_any (λ d. (key_of d).entity == n) (c ∷ cs)) (key_of c).entity 0 (length script.mapping)
      (or_left ((key_of c).entity == (key_of c).entity) (list_any (λ d. (key_of d).entity == (key_of c).entity) cs) (eq-eqb (key_of c).entity (key_of c).entity refl))
      (omega arith) (omega arith) in
      subst (λ ts. are_tables script ts ≡ true) (sym i.2)
      (some_tables i.0 i.1 (subst (λ ts. AllByRecursion (λ t. is_entity script t ≡ true) ts) i.2 (declared_tables (c ∷ cs))))

  cached_acts : (g : Strategy) (k : Key) (v : Option ℕ) (f : ℕ) → is_key script k ≡ true → is_version v ≡ true → is_tick f ≡ true → AreActs (Next.before_cached g k v f)
  cached_acts Strategy.ReadWrite k v f h x t = (and_from (is_key script k) (is_version v && is_tick f) h (and_from (is_version v) (is_tick f) x t), tt)
  cached_acts Strategy.Uncached k v f h x t = tt
  cached_acts Strategy.ReadOnly k v f h x t = (h, tt)
  cached_acts Strategy.Nonstrict k v f h x t = (h, tt)

  fresh_good : (b : Bool) (v : Option ℕ) → is_version v ≡ true → is_version (cond b v None) ≡ true
  fresh_good true v h = h
  fresh_good false v h = refl

  module _ (d : Journal) (w : W d) where
    key_acts : (k : Key) (v : Option ℕ) → is_key script k ≡ true → is_version v ≡ true → AreActs (Next.before_key script d k v)
    key_acts k v h x = by (is_in k (changes_in d))
      where
        by : (b : Bool) → AreActs (cond b [] (Next.before_cached (strategy script k.entity) k (cond (is_fresh k d) v None) (floor_in d)))
        by true = tt
        by false = cached_acts (strategy script k.entity) k (cond (is_fresh k d) v None) (floor_in d) h (fresh_good (is_fresh k d) v x) (floor_tick script d w)

    before_acts : (c : Change) → is_change script c ≡ true → AreActs (Next.before_write script d c)
    before_acts (Change.Insert k r) h = tt
    before_acts (Change.Update k v r) h =
        let p : (is_key script k ≡ true) × ((is_version v && is_row r) ≡ true) = and_parts (is_key script k) (is_version v && is_row r) h in
        key_acts k v p.0 (and_parts (is_version v) (is_row r) p.1).0
    before_acts (Change.Delete k v) h = let p : (is_key script k ≡ true) × (is_version v ≡ true) = and_parts (is_key script k) (is_version v) h in key_acts k v p.0 p.1

    write_acts : (c : Change) → is_change script c ≡ true → AreActs (Next.before_write script d c ++ Act.Write c ∷ [])
    write_acts c h = each_append (λ a. is_act script a ≡ true) (Next.before_write script d c) (Act.Write c ∷ []) (before_acts c h) (h, tt)

    flush_acts : (cs : List Change) → AreChanges script cs → AreActs (Next.flush_of script d cs)
    flush_acts [] h = tt
    flush_acts (c ∷ cs) h = (
      changed_tables c cs h.0,
      each_flat (λ a. is_act script a ≡ true) (λ c. is_change script c ≡ true) (λ c. Next.before_write script d c ++ Act.Write c ∷ []) write_acts (c ∷ cs) h,
    )

  goes_flush : Goes (Next.flush script)
  goes_flush = goes_acts (λ d. Next.flush_of script d (pending d)) (λ m w. flush_acts m w (pending m) (pending_good script m w))

  -- ---- the end of a transaction

  lock_step : (k : Key) (a : Act) (r : Reply) (i : ℕ) → is_reply script a r ≡ true → is_tick i ≡ true → is_tick (Next.lock_in k a r i) ≡ true
  lock_step k (Act.Lock j v f) (Reply.Locked l) i h g = by (same_key j k)
    where
      by : (b : Bool) → is_tick (cond b l.id i) ≡ true
      by true = (and_parts (is_tick l.id) (is_tick l.until && is_evicted_id l.evicted) h).0
      by false = g
  lock_step k _ _ i h g = g

  lock_tick : (k : Key) (m : Journal) → W m → is_tick (lock_id k m) ≡ true
  lock_tick k [] w = early_tick 0 (omega arith)
  lock_tick k (e ∷ m) w = lock_step k e.act e.reply (lock_id k m) w.0.reply (lock_tick k m w.1)

  last_change : (k : Key) (cs : List Change) → AreChanges script cs → IfSome (last_on k cs) (λ c. is_change script c ≡ true)
  last_change k [] h = tt
  last_change k (c ∷ cs) h = by (last_on k cs) (same_key (key_of c) k) (last_change k cs h.1)
    where
      by : (o : Option Change) (b : Bool) → IfSome o (λ c. is_change script c ≡ true) → IfSome (option_or o (cond b (Some c) None)) (λ c. is_change script c ≡ true)
      by (Some d) b i = i
      by None true i = h.0
      by None false i = tt

  back_row : (b : Bool) (o : Option Change) → IfSome o (λ c. is_change script c ≡ true) → is_read (cond b (option_and_then row_left o) None) ≡ true
  back_row false o h = refl
  back_row true None h = refl
  back_row true (Some (Change.Insert k r)) h = (and_parts (is_key script k) (is_row r) h).1
  back_row true (Some (Change.Update k v r)) h = (and_parts (is_version v) (is_row r) (and_parts (is_key script k) (is_version v && is_row r) h).1).1
  back_row true (Some (Change.Delete k v)) h = refl

  module _ (k : Key) (i floor : ℕ) (named : is_key script k ≡ true) (lock : is_tick i ≡ true) (low : is_tick floor ≡ true) where
    insert_act : (r : Row) → is_row r ≡ true → is_act script (Act.AfterInsert k r floor) ≡ true
    insert_act r h = and_from (is_key script k) (is_row r && is_tick floor) named (and_from (is_row r) (is_tick floor) h low)

    update_acts : (g : Strategy) (r : Option Row) → is_read r ≡ true → AreActs (Next.complete_update g k i r)
    update_acts Strategy.ReadWrite (Some r) h = (and_from (is_key script k) (is_tick i && is_row r) named (and_from (is_tick i) (is_row r) lock h), tt)
    update_acts Strategy.ReadWrite None h = (and_from (is_key script k) (is_tick i) named lock, tt)
    update_acts Strategy.Uncached r h = tt
    update_acts Strategy.ReadOnly r h = (named, tt)
    update_acts Strategy.Nonstrict r h = (named, tt)

    insert_acts : (g : Strategy) (r : Option Row) → is_read r ≡ true → AreActs (Next.complete_insert g k r floor)
    insert_acts Strategy.ReadOnly (Some r) h = (insert_act r h, tt)
    insert_acts Strategy.ReadWrite (Some r) h = (insert_act r h, tt)
    insert_acts Strategy.Nonstrict (Some r) h = tt
    insert_acts Strategy.Uncached (Some r) h = tt
    insert_acts Strategy.ReadOnly None h = tt
    insert_acts Strategy.ReadWrite None h = tt
    insert_acts Strategy.Nonstrict None h = tt
    insert_acts Strategy.Uncached None h = tt

    complete_acts : (o : Option Change) (g : Strategy) (r : Option Row) → is_read r ≡ true → AreActs (Next.complete_by o g k i floor r)
    complete_acts None g r h = tt
    complete_acts (Some (Change.Insert j x)) g r h = insert_acts g r h
    complete_acts (Some (Change.Update j v x)) g r h = update_acts g r h
    complete_acts (Some (Change.Delete j v)) g r h = update_acts g r h

  keys_good : (cs : List Change) → AreChanges script cs → AreKeys script (Next.keys_of cs)
  keys_good [] h = tt
  keys_good (c ∷ cs) h = (
    change_key c h.0,
    each_filter (λ k. is_key script k ≡ true) (λ j. not (same_key j (key_of c))) (Next.keys_of cs) (keys_good cs h.1),
  )

  stamp_acts : (ts : List ℕ) → AllByRecursion (λ t. is_entity script t ≡ true) ts → AreActs (Next.stamps_of ts)
  stamp_acts [] h = tt
  stamp_acts (t ∷ ts) h = (some_tables t ts h, tt)

  completion_acts : (mode : Mode) (x : Bool) (m : Journal) → W m → AreActs (Next.completion script mode x m)
  completion_acts mode x m w =
      let cs : AreChanges script (changes_in m) = changes_good script m w in
      each_append (λ a. is_act script a ≡ true) (flat_map (λ k. Next.complete script mode m x (changes_in m) k) (Next.keys_of (changes_in m)) ++ Next.stamps_of (tables_in script (changes_in m))) (Act.End ∷ [])
      (each_append (λ a. is_act script a ≡ true) (flat_map (λ k. Next.complete script mode m x (changes_in m) k) (Next.keys_of (changes_in m))) (Next.stamps_of (tables_in script (changes_in m)))
      (each_flat (λ a. is_act script a ≡ true) (λ k. is_key script k ≡ true) (λ k. Next.complete script mode m x (changes_in m) k)
      (λ k h. complete_acts k (lock_id k m) (floor_in m) h (lock_tick k m w) (floor_tick script m w) (first_on k (changes_in m)) (strategy script k.entity)
      (cond (x && Next.mode_puts mode) (option_and_then row_left (last_on k (changes_in m))) None)
      (back_row (x && Next.mode_puts mode) (last_on k (changes_in m)) (last_change k (changes_in m) cs)))
      (Next.keys_of (changes_in m)) (keys_good (changes_in m) cs))
      (stamp_acts (tables_in script (changes_in m)) (declared_tables (changes_in m)))) (refl, tt)

  goes_commit : (mode : Mode) → Goes (Next.commit script mode)
  goes_commit mode m w go g = (
    refl,
    λ e p r. goes_acts (λ d. Next.completion script mode (Next.is_committed_reply e.reply) d) (completion_acts mode (Next.is_committed_reply e.reply)) (e ∷ m) (r, w) go g,
  )

  goes_rollback : (mode : Mode) → Goes (Next.rollback script mode)
  goes_rollback mode m w go g = (refl, λ e p r. goes_acts (λ d. Next.completion script mode false d) (completion_acts mode false) (e ∷ m) (r, w) go g)

  -- ---- statements

  versioned : (n : ℕ) → is_version (Next.first_version script n) ≡ true
  versioned n = by (option_map_or (λ d. d.versioned) (slice_get script.mapping n) false)
    where
      by : (b : Bool) → is_version (cond b (Some 0) None) ≡ true
      by true = refl
      by false = refl

  goes_list : (mode : Mode) (q : ℕ) → is_query script q ≡ true → Goes (Next.list script mode q)
  goes_list mode q h m w go g =
      goes_if (λ d. is_in_tables (tables_of script q) (pending d)) (Next.flush script) (λ d n. n d) goes_flush nothing m w
      (λ d. Next.answer script mode q d go) (λ n v. goes_answer mode q h n v go g)

  goes_block : (mode : Mode) (st : Statement) → IsSaid script st → Goes (Next.block script mode st)
  goes_block mode (Statement.Find k) h = goes_find mode k h
  goes_block mode (Statement.Persist k cells) h = λ m w. goes_act (Act.Persist k (record { version = Next.first_version script k.entity; cells = cells })) m
      (and_from (is_key script k) (is_version (Next.first_version script k.entity) && are_cells cells) h.0
      (and_from (is_version (Next.first_version script k.entity)) (are_cells cells) (versioned k.entity) h.1)) w
  goes_block mode (Statement.Set k xs) h = λ m w. goes_act (Act.Set k xs) m (and_from (is_key script k) (are_sets script k.entity xs) h.0 h.1) w
  goes_block mode (Statement.Remove k) h = λ m w. goes_act (Act.Remove k) m h w
  goes_block mode (Statement.List q) h = goes_list mode q h
  goes_block mode Statement.Flush h = goes_flush
  goes_block mode Statement.Clear h = λ m w. goes_act Act.Clear m refl w
  goes_block mode (Statement.Mode n) h = nothing
  goes_block mode Statement.Commit h = λ m w go g. goes_flush m w (λ d. Next.commit script mode d go) (λ n v. goes_commit mode n v go g)
  goes_block mode Statement.Rollback h = goes_rollback mode

  goes_begin : (b : Bool) → Goes (Next.begin_if b)
  goes_begin true = λ m w. goes_act Act.Begin m refl w
  goes_begin false = nothing

  good_blocks : (mode : Mode) (b : Bool) (sts : List Statement) (m : Journal) → AllByRecursion (IsSaid script) sts → W m → Good Ok Rt (Next.blocks script mode b sts m) m
  good_blocks mode b [] m h w = tt
  good_blocks mode b (st ∷ sts) m h w =
      goes_begin b m w (λ d. Next.block script mode st d (λ x. Next.blocks script (mode_after st mode) (ends st) sts x))
      (λ n v. goes_block mode st h.0 n v (λ x. Next.blocks script (mode_after st mode) (ends st) sts x) (λ o u. good_blocks (mode_after st mode) (ends st) sts o h.1 u))

  all_right : (m : Journal) → W m → AllRight Ok Rt m
  all_right [] w = tt
  all_right (e ∷ m) w = (all_right m w.1, w.0)

  -- the act that is due is well formed
  pub next_good : (s : ℕ) (m : Journal) (a : Act) → AllByRecursion (IsSaid script) (option_map_or (λ d. d.statements) (slice_get script.sessions s) []) → W m → InOrder (plan_of script s) m →
      next script s m ≡ Some a → is_act script a ≡ true
  unfolding next
  next_good s m a h w o p =
      allowed_first Ok Rt (left_of (plan_of script s) m) m a
      (good_left Ok Rt (plan_of script s) m (good_blocks Mode.Normal true (option_map_or (λ d. d.statements) (slice_get script.sessions s) []) [] h tt) o (all_right m w)) p
