-- No session does an outside act.
use Rattle.std.specs.Prelude.{is_some, option_and_then}
use Rattle.std.specs.Option.{option_map_or}
use Rattle.std.proofs.Common.{◌≡◌, ℕ, Bool, true, false, cond, List, [], ◌∷◌, ◌++◌, Some, None, Option, refl, slice_get, ◌&&◌}
use Rattle.std.specs.List.{flat_map}
use Rattle.hib_journal.specs.Types.{Key, Row, Change, Strategy, Mode, Statement, Script, Act, Reply, Checked, Entry}
use Rattle.hib_journal.specs.Sessions.{Journal, changes_in, floor_in, time_in}
use Rattle.hib_base.specs.Tables.{first_on, last_on, row_left}
use Rattle.hib_journal.specs.Held.{held, pending, is_fresh}
use Rattle.hib_journal.specs.Plan.{Block, one, left_of, InOrder}
use Rattle.hib_journal.specs.Next
use Rattle.hib_journal.specs.Next.{strategy, plan_of, next}
use Rattle.hib_journal.specs.Legal.{is_outside}
use Rattle.hib_journal.proofs.Plans.{Good, Runs, Allows, runs_each, runs_if, allows_join, AllRight, good_left, allowed_first}

abbrev Ok : Journal → Act → Type 0
Ok m a = is_outside a ≡ false

abbrev Any : Journal → Entry → Type 0
Any m e = Unit {0}

abbrev Yes : Journal → Type 0
Yes m = Unit {0}

abbrev Goes : Block → Type 0
Goes b = (m : Journal) → Runs Ok Any b m Yes

abbrev Allow : List Act → Type 0
Allow acts = (m : Journal) → Allows Ok Any acts m Yes

allow_one : (a : Act) → is_outside a ≡ false → Allow (a ∷ [])
allow_one a p m = (p, λ e q r. tt)

allow_map : {X : Type 0} (f : X → List Act) → ((x : X) → Allow (f x)) → (xs : List X) → Allow (flat_map f xs)
allow_map f h [] m = tt
allow_map f h (x ∷ xs) m = allows_join Ok Any (f x) (flat_map f xs) m Yes Yes (h x m) (λ n t. allow_map f h xs n)

goes_one : (a : Act) → is_outside a ≡ false → Goes (one a)
goes_one a p m next g = (p, λ e q r. g (e ∷ m) tt)

goes_if : (b : Journal → Bool) (p q : Block) → Goes p → Goes q → Goes (λ d n. cond (b d) (p d n) (q d n))
goes_if b p q f g m = runs_if Ok Any (b m) p q m Yes (f m) (g m)

nothing : Goes (λ d n. n d)
nothing m next g = g m tt

module _ (script : Script) (mode : Mode) where
  goes_put : (k : Key) (r : Reply) → Goes (Next.put_loaded script mode k r)
  goes_put k (Reply.Row (Some x)) = goes_if (λ d. Next.may_put script mode k d) (λ d n. one (Act.Put k x (time_in d) (floor_in d)) d n) (λ d n. n d)
      (λ m. goes_one (Act.Put k x (time_in m) (floor_in m)) refl m) nothing
  goes_put k (Reply.Row None) = nothing
  goes_put k _ = nothing

  goes_load : (k : Key) → Goes (Next.load script mode k)
  goes_load k m next g = (refl, λ e p r. goes_put k e.reply (e ∷ m) next g)

  goes_unless_hit : (k : Key) (r : Reply) → Goes (Next.load_unless_hit script mode k r)
  goes_unless_hit k (Reply.Hit x) = nothing
  goes_unless_hit k _ = goes_load k

  goes_find : (k : Key) → Goes (Next.find script mode k)
  goes_find k = goes_if (λ d. is_some (held d k)) (one (Act.Find k)) (Next.find_away script mode k) (goes_one (Act.Find k) refl)
      (goes_if (λ d. Next.may_read script mode k d) (Next.get script mode k) (Next.load script mode k)
      (λ m next g. (refl, λ e p r. goes_unless_hit k e.reply (e ∷ m) next g)) (goes_load k))

  allow_before : (d : Journal) (c : Change) → Allow (Next.before_write script d c ++ Act.Write c ∷ [])
  allow_before d c m = allows_join Ok Any (Next.before_write script d c) (Act.Write c ∷ []) m Yes Yes (by_change c) (λ n t. allow_one (Act.Write c) refl n)
    where
      by_strategy : (g : Strategy) (k : Key) (v : Option ℕ) → Allow (Next.before_cached g k v (floor_in d))
      by_strategy Strategy.ReadWrite k v = allow_one (Act.Lock k v (floor_in d)) refl
      by_strategy Strategy.Uncached k v = λ n. tt
      by_strategy Strategy.ReadOnly k v = allow_one (Act.RegionRemove k) refl
      by_strategy Strategy.Nonstrict k v = allow_one (Act.RegionRemove k) refl

      by_test : (b : Bool) (k : Key) (v : Option ℕ) → Allow (cond b [] (Next.before_cached (strategy script k.entity) k v (floor_in d)))
      by_test true k v n = tt
      by_test false k v n = by_strategy (strategy script k.entity) k v n

      by_change : (c : Change) → Allows Ok Any (Next.before_write script d c) m Yes
      by_change (Change.Insert k r) = tt
      by_change (Change.Update k v r) = by_test (Next.is_in k (changes_in d)) k (cond (is_fresh k d) v None) m
      by_change (Change.Delete k v) = by_test (Next.is_in k (changes_in d)) k (cond (is_fresh k d) v None) m

  goes_flush : Goes (Next.flush script)
  goes_flush m = runs_each Ok Any (Next.flush_of script m (pending m)) m Yes (by_pending (pending m))
    where
      by_pending : (cs : List Change) → Allows Ok Any (Next.flush_of script m cs) m Yes
      by_pending [] = tt
      by_pending (c ∷ cs) = (refl, λ e p r. allow_map (λ x. Next.before_write script m x ++ Act.Write x ∷ []) (allow_before m) (c ∷ cs) (e ∷ m))

  goes_keep : (q : ℕ) (r : Reply) → Goes (Next.keep_listed script mode q r)
  goes_keep q (Reply.Listed l) = goes_if (λ d. Next.is_free script q (Next.mode_puts mode) d) (λ d n. one (Act.Keep q (time_in d) l) d n) (λ d n. n d)
      (λ m. goes_one (Act.Keep q (time_in m) l) refl m) nothing
  goes_keep q _ = nothing

  goes_store : (q : ℕ) → Goes (Next.list_store script mode q)
  goes_store q m next g = (refl, λ e p r. goes_keep q e.reply (e ∷ m) next g)

  goes_unless_fresh : (q : ℕ) (r : Reply) → Goes (Next.list_unless_fresh script mode q r)
  goes_unless_fresh q (Reply.Check Checked.Fresh) = nothing
  goes_unless_fresh q (Reply.Check (Checked.Stale t v)) = goes_store q
  goes_unless_fresh q _ = goes_store q

  goes_found : (q : ℕ) (r : Reply) → Goes (Next.check_found script mode q r)
  goes_found q (Reply.Found t l) m next g = (refl, λ e p r. goes_unless_fresh q e.reply (e ∷ m) next g)
  goes_found q _ m next g = goes_store q m next g

  goes_list : (q : ℕ) → Goes (Next.list script mode q)
  goes_list q m next g = goes_if (λ d. Next.is_in_tables (Next.tables_of script q) (pending d)) (Next.flush script) (λ d n. n d) goes_flush nothing m
      (λ d. Next.answer script mode q d next)
      (λ n t. goes_if (λ d. Next.is_free script q (Next.mode_reads mode) d) (Next.look script mode q) (Next.list_store script mode q)
      (λ n next g. (refl, λ e p r. goes_found q e.reply (e ∷ n) next g)) (goes_store q) n next g)

  allow_complete : (d : Journal) (x : Bool) (cs : List Change) (k : Key) → Allow (Next.complete script mode d x cs k)
  allow_complete d x cs k = by_first (first_on k cs) (strategy script k.entity) (cond (x && Next.mode_puts mode) (option_and_then row_left (last_on k cs)) None)
    where
      by_update : (g : Strategy) (r : Option Row) → Allow (Next.complete_update g k (Next.lock_id k d) r)
      by_update Strategy.ReadWrite (Some r) = allow_one (Act.AfterUpdate k (Next.lock_id k d) r) refl
      by_update Strategy.ReadWrite None = allow_one (Act.Unlock k (Next.lock_id k d)) refl
      by_update Strategy.Uncached r = λ m. tt
      by_update Strategy.ReadOnly r = allow_one (Act.RegionRemove k) refl
      by_update Strategy.Nonstrict r = allow_one (Act.RegionRemove k) refl

      by_insert : (g : Strategy) (r : Option Row) → Allow (Next.complete_insert g k r (floor_in d))
      by_insert Strategy.ReadOnly (Some r) = allow_one (Act.AfterInsert k r (floor_in d)) refl
      by_insert Strategy.ReadWrite (Some r) = allow_one (Act.AfterInsert k r (floor_in d)) refl
      by_insert Strategy.Nonstrict (Some r) = λ m. tt
      by_insert Strategy.Uncached (Some r) = λ m. tt
      by_insert Strategy.ReadOnly None = λ m. tt
      by_insert Strategy.ReadWrite None = λ m. tt
      by_insert Strategy.Nonstrict None = λ m. tt
      by_insert Strategy.Uncached None = λ m. tt

      by_first : (o : Option Change) (g : Strategy) (r : Option Row) → Allow (Next.complete_by o g k (Next.lock_id k d) (floor_in d) r)
      by_first None g r = λ m. tt
      by_first (Some (Change.Insert j y)) g r = by_insert g r
      by_first (Some (Change.Update j v y)) g r = by_update g r
      by_first (Some (Change.Delete j v)) g r = by_update g r

  allow_completion : (x : Bool) (d : Journal) → Allow (Next.completion script mode x d)
  allow_completion x d m =
      let cs : List Change = changes_in d in
      allows_join Ok Any (flat_map (λ k. Next.complete script mode d x (changes_in d) k) (Next.keys_of (changes_in d)) ++ Next.stamps_of (Next.tables_in script (changes_in d))) (Act.End ∷ []) m Yes Yes
      (allows_join Ok Any (flat_map (λ k. Next.complete script mode d x (changes_in d) k) (Next.keys_of (changes_in d))) (Next.stamps_of (Next.tables_in script (changes_in d))) m Yes Yes
      (allow_map (λ k. Next.complete script mode d x (changes_in d) k) (allow_complete d x (changes_in d)) (Next.keys_of (changes_in d)) m)
      (λ n t. by_tables (Next.tables_in script (changes_in d)) n)) (λ n t. allow_one Act.End refl n)
    where
      by_tables : (ts : List ℕ) → Allow (Next.stamps_of ts)
      by_tables [] n = tt
      by_tables (t ∷ ts) n = allow_one (Act.Stamp (t ∷ ts)) refl n

  goes_block : (st : Statement) → Goes (Next.block script mode st)
  goes_block (Statement.Find k) = goes_find k
  goes_block (Statement.Persist k cells) = goes_one (Act.Persist k (record { version = Next.first_version script k.entity; cells = cells })) refl
  goes_block (Statement.Set k cells) = goes_one (Act.Set k cells) refl
  goes_block (Statement.Remove k) = goes_one (Act.Remove k) refl
  goes_block (Statement.List q) = goes_list q
  goes_block Statement.Flush = goes_flush
  goes_block Statement.Clear = goes_one Act.Clear refl
  goes_block (Statement.Mode n) = nothing
  goes_block Statement.Commit = λ m next g. goes_flush m (λ d. Next.commit script mode d next)
      (λ n t. (refl, λ e p r. runs_each Ok Any (Next.completion script mode (Next.is_committed_reply e.reply) (e ∷ n)) (e ∷ n) Yes (allow_completion (Next.is_committed_reply e.reply) (e ∷ n) (e ∷ n)) next g))
  goes_block Statement.Rollback = λ m next g.
      (refl, λ e p r. runs_each Ok Any (Next.completion script mode false (e ∷ m)) (e ∷ m) Yes (allow_completion false (e ∷ m) (e ∷ m)) next g)

goes_begin : (b : Bool) → Goes (Next.begin_if b)
goes_begin true = goes_one Act.Begin refl
goes_begin false = nothing

good_blocks : (script : Script) (mode : Mode) (b : Bool) (sts : List Statement) (m : Journal) → Good Ok Any (Next.blocks script mode b sts m) m
good_blocks script mode b [] m = tt
good_blocks script mode b (st ∷ sts) m =
    goes_begin b m (λ d. Next.block script mode st d (λ x. Next.blocks script (Next.mode_after st mode) (Next.ends st) sts x))
    (λ n t. goes_block script mode st n (λ x. Next.blocks script (Next.mode_after st mode) (Next.ends st) sts x)
    (λ o u. good_blocks script (Next.mode_after st mode) (Next.ends st) sts o))

all_right : (m : Journal) → AllRight Ok Any m
all_right [] = tt
all_right (e ∷ m) = (all_right m, tt)

-- the next act of a session whose entries came in order is none of the outside acts
pub inside : (script : Script) (s : ℕ) (m : Journal) (a : Act) → InOrder (plan_of script s) m → next script s m ≡ Some a → is_outside a ≡ false
unfolding next
inside script s m a o p = allowed_first Ok Any (left_of (plan_of script s) m) m a
    (good_left Ok Any (plan_of script s) m (good_blocks script Mode.Normal true (option_map_or (λ d. d.statements) (slice_get script.sessions s) []) []) o (all_right m)) p
