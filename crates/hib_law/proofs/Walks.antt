-- A session made of good blocks: what holds of each act that it does. And blocks of acts that all keep one condition.
use Rattle.std.specs.Prelude.{is_some, option_and_then}
use Rattle.std.specs.Option.{option_map_or}
use Rattle.std.proofs.Common.{◌≡◌, ℕ, inl, inr, Bool, true, false, cond, not, ◌&&◌, List, [], ◌∷◌, ◌++◌, slice_get, Some, None, Option, refl}
use Rattle.std.proofs.lemmas.Bool.{and_parts, not-true}
use Rattle.std.specs.List.{flat_map}
use Rattle.hib_journal.specs.Types.{Key, Row, Change, Strategy, Mode, Statement, Script, Act, Reply, Checked, Entry}
use Rattle.hib_base.specs.Tables.{Tables, first_on, last_on, row_left}
use Rattle.hib_journal.specs.Sessions.{Journal, own, is_by, changes_in, time_in, floor_in}
use Rattle.hib_journal.specs.Held.{held, pending, is_fresh}
use Rattle.hib_journal.specs.Plan.{Block, one, left_of, InOrder}
use Rattle.hib_journal.specs.Next
use Rattle.hib_journal.specs.Next.{strategy, plan_of, next, mode_after, ends, tables_of, tables_in, is_in, is_in_tables, mode_puts, mode_reads}
use Rattle.hib_journal.specs.Legal.{IsLegal, IsStep}
use Rattle.hib_base.proofs.Tables.{Tested, tested}
use Rattle.hib_journal.proofs.Plans.{Good, Runs, Allows, allows_join, runs_each, runs_if, AllRight, good_left, allowed_first}
use Rattle.hib_journal.proofs.Steps.{next_act, next_is, steps_in_order}

-- what a block's test says of what is not in the changes
pub not_in_test : (x y b : Bool) → (x && (y && not b)) ≡ true → b ≡ false
not_in_test x y b e = not-true b (and_parts y (not b) (and_parts x (y && not b) e).1).1

-- the acts of a find, of a list without its flush, of a flush, and of what completes a key; and the other acts within a transaction
abbrev pub is_find_act : Act → Bool
is_find_act (Act.Find k) = true
is_find_act (Act.Get k t) = true
is_find_act (Act.Load k) = true
is_find_act (Act.Put k r t f) = true
is_find_act _ = false

abbrev pub is_list_act : Act → Bool
is_list_act (Act.Look q) = true
is_list_act (Act.Check q t) = true
is_list_act (Act.List q) = true
is_list_act (Act.Keep q t l) = true
is_list_act _ = false

abbrev pub is_flush_act : Act → Bool
is_flush_act (Act.Pre ts) = true
is_flush_act (Act.Lock k v f) = true
is_flush_act (Act.RegionRemove k) = true
is_flush_act (Act.Write c) = true
is_flush_act _ = false

abbrev pub is_end_act : Act → Bool
is_end_act (Act.AfterInsert k r f) = true
is_end_act (Act.AfterUpdate k i r) = true
is_end_act (Act.Unlock k i) = true
is_end_act (Act.RegionRemove k) = true
is_end_act _ = false

abbrev pub is_own_act : Act → Bool
is_own_act (Act.Set k cells) = true
is_own_act (Act.Remove k) = true
is_own_act Act.Clear = true
is_own_act _ = false

module _ (Allowed : Journal → Act → Type 0) (Right : Journal → Entry → Type 0) where
  -- from Pre the block is good, and leaves Post
  abbrev pub Goes : Block → (Journal → Type 0) → (Journal → Type 0) → Type 0
  Goes b Pre Post = (m : Journal) → Pre m → Runs Allowed Right b m Post

  -- a choice, with what the test says
  pub runs_test : (b : Bool) (p q : Block) (m : Journal) (Post : Journal → Type 0) → (b ≡ true → Runs Allowed Right p m Post) →
      (b ≡ false → Runs Allowed Right q m Post) → Runs Allowed Right (λ d n. cond b (p d n) (q d n)) m Post
  runs_test true p q m Post f g = f refl
  runs_test false p q m Post f g = g refl

  pub allows_as : (xs : List Act) (m : Journal) (P Q : Journal → Type 0) → ((n : Journal) → P n → Q n) → Allows Allowed Right xs m P → Allows Allowed Right xs m Q
  allows_as [] m P Q f h = f m h
  allows_as (x ∷ xs) m P Q f h = (h.0, λ e p r. allows_as xs (e ∷ m) P Q f (h.1 e p r))

  -- acts that are allowed under W, and keep it
  abbrev pub Keeps : (Journal → Type 0) → Act → Type 0
  Keeps W a = (m : Journal) → W m → Allowed m a × ((e : Entry) → e.act ≡ a → Right m e → W (e ∷ m))

  abbrev pub AllKeep : (Journal → Type 0) → (Act → Bool) → Type 0
  AllKeep W p = (a : Act) → p a ≡ true → Keeps W a

  module _ (W : Journal → Type 0) where
    pub goes_act : (a : Act) → Keeps W a → Goes (one a) W W
    goes_act a f m w go g = ((f m w).0, λ e p r. g (e ∷ m) ((f m w).1 e p r))

    nothing : Goes (λ d n. n d) W W
    nothing m w go g = g m w

    pub allow_flat : {X : Type 0} (f : X → List Act) → ((x : X) (m : Journal) → W m → Allows Allowed Right (f x) m W) → (xs : List X) (m : Journal) → W m →
        Allows Allowed Right (flat_map f xs) m W
    allow_flat f h [] m w = w
    allow_flat f h (x ∷ xs) m w = allows_join Allowed Right (f x) (flat_map f xs) m W W (h x m w) (λ n v. allow_flat f h xs n v)

    module _ (script : Script) (mode : Mode) where
      module _ (keep : AllKeep W is_find_act) where
        goes_put : (k : Key) (r : Reply) → Goes (Next.put_loaded script mode k r) W W
        goes_put k (Reply.Row (Some x)) m w = runs_if Allowed Right (Next.may_put script mode k m) (λ d n. one (Act.Put k x (time_in m) (floor_in m)) d n) (λ d n. n d) m W
            (goes_act (Act.Put k x (time_in m) (floor_in m)) (keep (Act.Put k x (time_in m) (floor_in m)) refl) m w) (nothing m w)
        goes_put k (Reply.Row None) m w = nothing m w
        goes_put k _ m w = nothing m w

        goes_load : (k : Key) → Goes (Next.load script mode k) W W
        goes_load k m w go g = ((keep (Act.Load k) refl m w).0, λ e p r. goes_put k e.reply (e ∷ m) ((keep (Act.Load k) refl m w).1 e p r) go g)

        goes_unless_hit : (k : Key) (r : Reply) → Goes (Next.load_unless_hit script mode k r) W W
        goes_unless_hit k (Reply.Hit x) = nothing
        goes_unless_hit k _ = goes_load k

        goes_get : (k : Key) → Goes (Next.get script mode k) W W
        goes_get k m w go g =
            let f : Keeps W (Act.Get k (time_in m)) = keep (Act.Get k (time_in m)) refl in
            ((f m w).0, λ e p r. goes_unless_hit k e.reply (e ∷ m) ((f m w).1 e p r) go g)

        -- a find, if each of its acts keeps W
        pub goes_find : (k : Key) → Goes (Next.find script mode k) W W
        goes_find k m w = runs_if Allowed Right (is_some (held m k)) (one (Act.Find k)) (Next.find_away script mode k) m W
            (goes_act (Act.Find k) (keep (Act.Find k) refl) m w)
            (runs_if Allowed Right (Next.may_read script mode k m) (Next.get script mode k) (Next.load script mode k) m W (goes_get k m w) (goes_load k m w))

      module _ (keep : AllKeep W is_list_act) where
        goes_keep : (q : ℕ) (r : Reply) → Goes (Next.keep_listed script mode q r) W W
        goes_keep q (Reply.Listed l) m w = runs_if Allowed Right (Next.is_free script q (mode_puts mode) m) (λ d n. one (Act.Keep q (time_in m) l) d n) (λ d n. n d) m W
            (goes_act (Act.Keep q (time_in m) l) (keep (Act.Keep q (time_in m) l) refl) m w) (nothing m w)
        goes_keep q _ m w = nothing m w

        goes_store : (q : ℕ) → Goes (Next.list_store script mode q) W W
        goes_store q m w go g = ((keep (Act.List q) refl m w).0, λ e p r. goes_keep q e.reply (e ∷ m) ((keep (Act.List q) refl m w).1 e p r) go g)

        goes_unless_fresh : (q : ℕ) (r : Reply) → Goes (Next.list_unless_fresh script mode q r) W W
        goes_unless_fresh q (Reply.Check Checked.Fresh) = nothing
        goes_unless_fresh q (Reply.Check (Checked.Stale t v)) = goes_store q
        goes_unless_fresh q _ = goes_store q

        goes_found : (q : ℕ) (r : Reply) → Goes (Next.check_found script mode q r) W W
        goes_found q (Reply.Found t l) m w = λ go g.
            ((keep (Act.Check q t) refl m w).0, λ e p r. goes_unless_fresh q e.reply (e ∷ m) ((keep (Act.Check q t) refl m w).1 e p r) go g)
        goes_found q _ m w = goes_store q m w

        goes_look : (q : ℕ) → Goes (Next.look script mode q) W W
        goes_look q m w go g = ((keep (Act.Look q) refl m w).0, λ e p r. goes_found q e.reply (e ∷ m) ((keep (Act.Look q) refl m w).1 e p r) go g)

        -- a list, but for its flush
        pub goes_answer : (q : ℕ) → Goes (Next.answer script mode q) W W
        goes_answer q m w = runs_if Allowed Right (Next.is_free script q (mode_reads mode) m) (Next.look script mode q) (Next.list_store script mode q) m W
            (goes_look q m w) (goes_store q m w)

      module _ (keep : AllKeep W is_end_act) where
        allow_complete : (d : Journal) (x : Bool) (cs : List Change) (k : Key) (m : Journal) → W m → Allows Allowed Right (Next.complete script mode d x cs k) m W
        allow_complete d x cs k m w = by_first (first_on k cs) (strategy script k.entity) (cond (x && mode_puts mode) (option_and_then row_left (last_on k cs)) None)
          where
            act : (a : Act) → is_end_act a ≡ true → Allows Allowed Right (a ∷ []) m W
            act a p = keep a p m w

            by_update : (g : Strategy) (r : Option Row) → Allows Allowed Right (Next.complete_update g k (Next.lock_id k d) r) m W
            by_update Strategy.ReadWrite (Some r) = act (Act.AfterUpdate k (Next.lock_id k d) r) refl
            by_update Strategy.ReadWrite None = act (Act.Unlock k (Next.lock_id k d)) refl
            by_update Strategy.Uncached r = w
            by_update Strategy.ReadOnly r = act (Act.RegionRemove k) refl
            by_update Strategy.Nonstrict r = act (Act.RegionRemove k) refl

            by_insert : (g : Strategy) (r : Option Row) → Allows Allowed Right (Next.complete_insert g k r (floor_in d)) m W
            by_insert Strategy.ReadOnly (Some r) = act (Act.AfterInsert k r (floor_in d)) refl
            by_insert Strategy.ReadWrite (Some r) = act (Act.AfterInsert k r (floor_in d)) refl
            by_insert Strategy.Nonstrict (Some r) = w
            by_insert Strategy.Uncached (Some r) = w
            by_insert Strategy.ReadOnly None = w
            by_insert Strategy.ReadWrite None = w
            by_insert Strategy.Nonstrict None = w
            by_insert Strategy.Uncached None = w

            by_first : (o : Option Change) (g : Strategy) (r : Option Row) → Allows Allowed Right (Next.complete_by o g k (Next.lock_id k d) (floor_in d) r) m W
            by_first None g r = w
            by_first (Some (Change.Insert j y)) g r = by_insert g r
            by_first (Some (Change.Update j v y)) g r = by_update g r
            by_first (Some (Change.Delete j v)) g r = by_update g r

        -- what completes each key of the changes
        pub allow_keys : (d : Journal) (x : Bool) (cs : List Change) (ks : List Key) (m : Journal) → W m →
            Allows Allowed Right (flat_map (λ k. Next.complete script mode d x cs k) ks) m W
        allow_keys d x cs ks m w = allow_flat (λ k. Next.complete script mode d x cs k) (λ k n v. allow_complete d x cs k n v) ks m w

    module _ (script : Script) (keep : AllKeep W is_flush_act) where
      allow_before : (d : Journal) (c : Change) (m : Journal) → W m → Allows Allowed Right (Next.before_write script d c ++ Act.Write c ∷ []) m W
      allow_before d c m w = allows_join Allowed Right (Next.before_write script d c) (Act.Write c ∷ []) m W W (by_change c) (λ n v. keep (Act.Write c) refl n v)
        where
          act : (a : Act) → is_flush_act a ≡ true → Allows Allowed Right (a ∷ []) m W
          act a p = keep a p m w

          by_strategy : (g : Strategy) (k : Key) (v : Option ℕ) → Allows Allowed Right (Next.before_cached g k v (floor_in d)) m W
          by_strategy Strategy.ReadWrite k v = act (Act.Lock k v (floor_in d)) refl
          by_strategy Strategy.Uncached k v = w
          by_strategy Strategy.ReadOnly k v = act (Act.RegionRemove k) refl
          by_strategy Strategy.Nonstrict k v = act (Act.RegionRemove k) refl

          by_test : (b : Bool) (k : Key) (v : Option ℕ) → Allows Allowed Right (cond b [] (Next.before_cached (strategy script k.entity) k v (floor_in d))) m W
          by_test true k v = w
          by_test false k v = by_strategy (strategy script k.entity) k v

          by_change : (c : Change) → Allows Allowed Right (Next.before_write script d c) m W
          by_change (Change.Insert k r) = w
          by_change (Change.Update k v r) = by_test (is_in k (changes_in d)) k (cond (is_fresh k d) v None)
          by_change (Change.Delete k v) = by_test (is_in k (changes_in d)) k (cond (is_fresh k d) v None)

      -- a flush, if each of its acts keeps W
      pub goes_flush : Goes (Next.flush script) W W
      goes_flush m w = runs_each Allowed Right (Next.flush_of script m (pending m)) m W (by_pending (pending m))
        where
          by_pending : (cs : List Change) → Allows Allowed Right (Next.flush_of script m cs) m W
          by_pending [] = w
          by_pending (c ∷ cs) =
              let f : Keeps W (Act.Pre (tables_in script (c ∷ cs))) = keep (Act.Pre (tables_in script (c ∷ cs))) refl in
              ((f m w).0, λ e p r. allow_flat (λ x. Next.before_write script m x ++ Act.Write x ∷ []) (λ x n v. allow_before m x n v) (c ∷ cs) (e ∷ m) ((f m w).1 e p r))

  -- the blocks of a session: W holds within a transaction, and Over before a Begin
  pub record AreGood (script : Script) (Over W : Journal → Type 0) : Type 0 where
    pub find : (mode : Mode) (k : Key) → Goes (Next.find script mode k) W W
    pub persist : (k : Key) (r : Row) → r.version ≡ Next.first_version script k.entity → Keeps W (Act.Persist k r)
    pub own : AllKeep W is_own_act
    pub flush : Goes (Next.flush script) W W
    pub answer : (mode : Mode) (q : ℕ) → Goes (Next.answer script mode q) W W
    pub commit : (mode : Mode) → Goes (Next.commit script mode) W Over
    pub rollback : (mode : Mode) → Goes (Next.rollback script mode) W Over
    pub begins : Goes (one Act.Begin) Over W

  module _ (script : Script) (Over W : Journal → Type 0) (good : AreGood script Over W) where
    abbrev Between : Bool → Journal → Type 0
    Between true m = Over m
    Between false m = W m

    goes_own : (a : Act) → is_own_act a ≡ true → Goes (one a) W W
    goes_own a p = goes_act W a (good.own a p)

    goes_list : (mode : Mode) (q : ℕ) → Goes (Next.list script mode q) W W
    goes_list mode q m w go g =
        runs_if Allowed Right (is_in_tables (tables_of script q) (pending m)) (Next.flush script) (λ d n. n d) m W (good.flush m w) (λ n v. v m w)
        (λ d. Next.answer script mode q d go) (λ n v. good.answer mode q n v go g)

    goes_block : (mode : Mode) (st : Statement) → Goes (Next.block script mode st) W (Between (ends st))
    goes_block mode (Statement.Find k) = good.find mode k
    goes_block mode (Statement.Persist k cells) =
        goes_act W (Act.Persist k (record { version = Next.first_version script k.entity; cells = cells }))
        (good.persist k (record { version = Next.first_version script k.entity; cells = cells }) refl)
    goes_block mode (Statement.Set k cells) = goes_own (Act.Set k cells) refl
    goes_block mode (Statement.Remove k) = goes_own (Act.Remove k) refl
    goes_block mode (Statement.List q) = goes_list mode q
    goes_block mode Statement.Flush = good.flush
    goes_block mode Statement.Clear = goes_own Act.Clear refl
    goes_block mode (Statement.Mode n) = λ m w go g. g m w
    goes_block mode Statement.Commit = λ m w go g. good.flush m w (λ d. Next.commit script mode d go) (λ n v. good.commit mode n v go g)
    goes_block mode Statement.Rollback = good.rollback mode

    goes_begin : (b : Bool) → Goes (Next.begin_if b) (Between b) W
    goes_begin true = good.begins
    goes_begin false = λ m w go g. g m w

    good_blocks : (mode : Mode) (b : Bool) (sts : List Statement) (m : Journal) → Between b m → Good Allowed Right (Next.blocks script mode b sts m) m
    good_blocks mode b [] m w = tt
    good_blocks mode b (st ∷ sts) m w =
        goes_begin b m w (λ d. Next.block script mode st d (λ x. Next.blocks script (mode_after st mode) (ends st) sts x))
        (λ n v. goes_block mode st n v (λ x. Next.blocks script (mode_after st mode) (ends st) sts x) (λ o u. good_blocks (mode_after st mode) (ends st) sts o u))

    -- an act that is due is allowed, by the session's own entries alone: they are the acts of its plan, with right replies
    pub allowed_own : Over [] → (s : ℕ) (m : Journal) (a : Act) → InOrder (plan_of script s) m → AllRight Allowed Right m → next script s m ≡ Some a → Allowed m a
    allowed_own o s m a f r n =
        allowed_first Allowed Right (left_of (plan_of script s) m) m a
        (good_left Allowed Right (plan_of script s) m (good_blocks Mode.Normal true (option_map_or (λ d. d.statements) (slice_get script.sessions s) []) [] o) f r)
        (next_is script s m a n)

    module _ (told : Option Tables) (s : ℕ) (right : (h : Journal) (e : Entry) → IsStep script told h e → is_by s e ≡ true → Right (own s h) e) where
      all_right : (h : Journal) → IsLegal script told h → AllRight Allowed Right (own s h)
      all_right [] l = tt
      all_right (e ∷ h) l = by_session (tested (is_by s e)) (all_right h l.0)
        where
          by_session : Tested (is_by s e) → AllRight Allowed Right (own s h) → AllRight Allowed Right (own s (e ∷ h))
          by_session (inr p) a = rw p a
          by_session (inl p) a = rw p (a, right h e l.1 p)

      -- in a legal journal the act that is due of a session is allowed by what the session did before
      pub due_allowed : Over [] → (h : Journal) → IsLegal script told h → (a : Act) → next script s (own s h) ≡ Some a → Allowed (own s h) a
      due_allowed o h l a p = allowed_own o s (own s h) a (steps_in_order script told s h l) (all_right h l) p

      -- and so is each act that it does
      pub allowed : Over [] → (h : Journal) (e : Entry) → IsLegal script told h → IsStep script told h e → is_by s e ≡ true → Allowed (own s h) e.act
      allowed o h e l t p = due_allowed o h l e.act (next_act script told h e s t p).1
