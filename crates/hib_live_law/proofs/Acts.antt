-- A session that is given more statements does what it did, for as long as the earlier ones last.
use Rattle.std.proofs.Common.{◌≡◌, ℕ, zero, suc, Bool, true, false, List, [], ◌∷◌, ◌++◌, Some, None, refl}
use Rattle.std.specs.Prelude.{slice_get, is_some}
use Rattle.std.specs.List.{flat_map}
use Rattle.std.specs.Option.{option_map_or}
use Rattle.hib_journal.specs.Types.{Key, Row, Change, Mode, Statement, SessionDef, Order, Script, Act, Reply, Checked}
use Rattle.hib_journal.specs.Sessions.{Journal, time_in, floor_in}
use Rattle.hib_journal.specs.Held.{held, pending}
use Rattle.hib_journal.specs.Plan.{Plan, one, left_of}
use Rattle.hib_journal.specs.Next as acts
use Rattle.hib_journal.specs.Next.{mode_reads, mode_puts, ends, mode_after, begin_if, tables_of, tables_in, is_in_tables, is_committed_reply, next}
use Rattle.hib_live_law.specs.Grown.{AreLonger}
use Rattle.hib_live_law.proofs.Longer.{Extends, GoesOn, one_longer, each_longer, if_longer, left_longer, first_longer}

-- the script with other rows, other sessions and another schedule
abbrev pub with_rest : Script → List (Key × Row) → List SessionDef → List Order → Script
with_rest s rows ds os = record s { rows = rows; sessions = ds; schedule = os }

-- of a place among sessions the statements, and none where there is no session
abbrev pub statements_at : List SessionDef → ℕ → List Statement
statements_at ds n = option_map_or (λ (d : SessionDef). d.statements) (slice_get ds n) []

pub longer_at : (ds es : List SessionDef) (n : ℕ) → AreLonger ds es → (more : List Statement) × (statements_at es n ≡ statements_at ds n ++ more)
longer_at [] es n l = (statements_at es n, refl)
longer_at (d ∷ ds) [] n l = absurd l
longer_at (d ∷ ds) (e ∷ es) zero l = (l.0.more, l.0.statements)
longer_at (d ∷ ds) (e ∷ es) (suc n) l = longer_at ds es n l.1

module _ (s : Script) (rows : List (Key × Row)) (ds : List SessionDef) (os : List Order) where
  abbrev t : Script
  t = with_rest s rows ds os

  -- find
  put_longer : (m : Mode) (k : Key) (r : Reply) (done : Journal) (go on : Journal → Plan) → GoesOn go on → Extends (acts.put_loaded s m k r done go) (acts.put_loaded t m k r done on)
  put_longer m k (Reply.Row (Some r)) done go on f =
      if_longer (acts.may_put s m k done) (one (Act.Put k r (time_in done) (floor_in done)) done go) (go done) (one (Act.Put k r (time_in done) (floor_in done)) done on) (on done)
      (one_longer (Act.Put k r (time_in done) (floor_in done)) done go on f) (f done)
  put_longer m k (Reply.Row None) done go on f = f done
  put_longer m k _ done go on f = f done

  load_longer : (m : Mode) (k : Key) (done : Journal) (go on : Journal → Plan) → GoesOn go on → Extends (acts.load s m k done go) (acts.load t m k done on)
  load_longer m k done go on f = (refl, λ e. put_longer m k e.reply (e ∷ done) go on f)

  miss_longer : (m : Mode) (k : Key) (r : Reply) (done : Journal) (go on : Journal → Plan) → GoesOn go on → Extends (acts.load_unless_hit s m k r done go) (acts.load_unless_hit t m k r done on)
  miss_longer m k (Reply.Hit r) done go on f = f done
  miss_longer m k _ done go on f = load_longer m k done go on f

  get_longer : (m : Mode) (k : Key) (done : Journal) (go on : Journal → Plan) → GoesOn go on → Extends (acts.get s m k done go) (acts.get t m k done on)
  get_longer m k done go on f = (refl, λ e. miss_longer m k e.reply (e ∷ done) go on f)

  find_longer : (m : Mode) (k : Key) (done : Journal) (go on : Journal → Plan) → GoesOn go on → Extends (acts.find s m k done go) (acts.find t m k done on)
  find_longer m k done go on f =
      if_longer (is_some (held done k)) (one (Act.Find k) done go) (acts.find_away s m k done go) (one (Act.Find k) done on) (acts.find_away t m k done on)
      (one_longer (Act.Find k) done go on f)
      (if_longer (acts.may_read s m k done) (acts.get s m k done go) (acts.load s m k done go) (acts.get t m k done on) (acts.load t m k done on)
      (get_longer m k done go on f) (load_longer m k done go on f))

  -- flush
  before_same : (past : Journal) (c : Change) → acts.before_write s past c ≡ acts.before_write t past c
  before_same past (Change.Insert k r) = refl
  before_same past (Change.Update k v r) = refl
  before_same past (Change.Delete k v) = refl

  flushed_same : (past : Journal) (cs : List Change) → acts.flush_of s past cs ≡ acts.flush_of t past cs
  flushed_same past [] = refl
  flushed_same past (c ∷ cs) = λ i. Act.Pre (tables_in s (c ∷ cs)) ∷ flat_map (λ d. before_same past d i ++ Act.Write d ∷ []) (c ∷ cs)

  flush_longer : (done : Journal) (go on : Journal → Plan) → GoesOn go on → Extends (acts.flush s done go) (acts.flush t done on)
  flush_longer done go on f = rw (flushed_same done (pending done)) (each_longer (acts.flush_of t done (pending done)) done go on f)

  -- list
  keep_longer : (m : Mode) (q : ℕ) (r : Reply) (done : Journal) (go on : Journal → Plan) → GoesOn go on → Extends (acts.keep_listed s m q r done go) (acts.keep_listed t m q r done on)
  keep_longer m q (Reply.Listed l) done go on f =
      if_longer (acts.is_free s q (mode_puts m) done) (one (Act.Keep q (time_in done) l) done go) (go done) (one (Act.Keep q (time_in done) l) done on) (on done)
      (one_longer (Act.Keep q (time_in done) l) done go on f) (f done)
  keep_longer m q _ done go on f = f done

  store_longer : (m : Mode) (q : ℕ) (done : Journal) (go on : Journal → Plan) → GoesOn go on → Extends (acts.list_store s m q done go) (acts.list_store t m q done on)
  store_longer m q done go on f = (refl, λ e. keep_longer m q e.reply (e ∷ done) go on f)

  fresh_longer : (m : Mode) (q : ℕ) (r : Reply) (done : Journal) (go on : Journal → Plan) → GoesOn go on → Extends (acts.list_unless_fresh s m q r done go) (acts.list_unless_fresh t m q r done on)
  fresh_longer m q (Reply.Check Checked.Fresh) done go on f = f done
  fresh_longer m q (Reply.Check (Checked.Stale n u)) done go on f = store_longer m q done go on f
  fresh_longer m q _ done go on f = store_longer m q done go on f

  check_longer : (m : Mode) (q time : ℕ) (done : Journal) (go on : Journal → Plan) → GoesOn go on → Extends (acts.check s m q time done go) (acts.check t m q time done on)
  check_longer m q time done go on f = (refl, λ e. fresh_longer m q e.reply (e ∷ done) go on f)

  found_longer : (m : Mode) (q : ℕ) (r : Reply) (done : Journal) (go on : Journal → Plan) → GoesOn go on → Extends (acts.check_found s m q r done go) (acts.check_found t m q r done on)
  found_longer m q (Reply.Found time l) done go on f = check_longer m q time done go on f
  found_longer m q _ done go on f = store_longer m q done go on f

  look_longer : (m : Mode) (q : ℕ) (done : Journal) (go on : Journal → Plan) → GoesOn go on → Extends (acts.look s m q done go) (acts.look t m q done on)
  look_longer m q done go on f = (refl, λ e. found_longer m q e.reply (e ∷ done) go on f)

  answer_longer : (m : Mode) (q : ℕ) (done : Journal) (go on : Journal → Plan) → GoesOn go on → Extends (acts.answer s m q done go) (acts.answer t m q done on)
  answer_longer m q done go on f =
      if_longer (acts.is_free s q (mode_reads m) done) (acts.look s m q done go) (acts.list_store s m q done go) (acts.look t m q done on) (acts.list_store t m q done on)
      (look_longer m q done go on f) (store_longer m q done go on f)

  list_longer : (m : Mode) (q : ℕ) (done : Journal) (go on : Journal → Plan) → GoesOn go on → Extends (acts.list s m q done go) (acts.list t m q done on)
  list_longer m q done go on f =
      if_longer (is_in_tables (tables_of s q) (pending done)) (acts.flush s done (λ d. acts.answer s m q d go)) (acts.answer s m q done go)
      (acts.flush t done (λ d. acts.answer t m q d on)) (acts.answer t m q done on)
      (flush_longer done (λ d. acts.answer s m q d go) (λ d. acts.answer t m q d on) (λ d. answer_longer m q d go on f)) (answer_longer m q done go on f)

  -- the end of a transaction
  commit_longer : (m : Mode) (done : Journal) (go on : Journal → Plan) → GoesOn go on → Extends (acts.commit s m done go) (acts.commit t m done on)
  commit_longer m done go on f = (refl, λ e. each_longer (acts.completion s m (is_committed_reply e.reply) (e ∷ done)) (e ∷ done) go on f)

  rollback_longer : (m : Mode) (done : Journal) (go on : Journal → Plan) → GoesOn go on → Extends (acts.rollback s m done go) (acts.rollback t m done on)
  rollback_longer m done go on f = (refl, λ e. each_longer (acts.completion s m false (e ∷ done)) (e ∷ done) go on f)

  -- statements
  block_longer : (m : Mode) (st : Statement) (done : Journal) (go on : Journal → Plan) → GoesOn go on → Extends (acts.block s m st done go) (acts.block t m st done on)
  block_longer m (Statement.Find k) done go on f = find_longer m k done go on f
  block_longer m (Statement.Persist k cells) done go on f = (refl, λ e. f (e ∷ done))
  block_longer m (Statement.Set k cells) done go on f = (refl, λ e. f (e ∷ done))
  block_longer m (Statement.Remove k) done go on f = (refl, λ e. f (e ∷ done))
  block_longer m (Statement.List q) done go on f = list_longer m q done go on f
  block_longer m Statement.Flush done go on f = flush_longer done go on f
  block_longer m Statement.Clear done go on f = (refl, λ e. f (e ∷ done))
  block_longer m (Statement.Mode n) done go on f = f done
  block_longer m Statement.Commit done go on f = flush_longer done (λ d. acts.commit s m d go) (λ d. acts.commit t m d on) (λ d. commit_longer m d go on f)
  block_longer m Statement.Rollback done go on f = rollback_longer m done go on f

  begin_longer : (due : Bool) (done : Journal) (go on : Journal → Plan) → GoesOn go on → Extends (begin_if due done go) (begin_if due done on)
  begin_longer true done go on f = one_longer Act.Begin done go on f
  begin_longer false done go on f = f done

  pub blocks_longer : (m : Mode) (due : Bool) (sts more : List Statement) (done : Journal) → Extends (acts.blocks s m due sts done) (acts.blocks t m due (sts ++ more) done)
  blocks_longer m due [] more done = tt
  blocks_longer m due (st ∷ sts) more done =
      begin_longer due done
      (λ d. acts.block s m st d (λ x. acts.blocks s (mode_after st m) (ends st) sts x))
      (λ d. acts.block t m st d (λ x. acts.blocks t (mode_after st m) (ends st) (sts ++ more) x))
      (λ d. block_longer m st d (λ x. acts.blocks s (mode_after st m) (ends st) sts x) (λ x. acts.blocks t (mode_after st m) (ends st) (sts ++ more) x)
      (λ x. blocks_longer (mode_after st m) (ends st) sts more x))

  -- an act that is due in a session stays due
  pub next_longer : (n : ℕ) (mine : Journal) (a : Act) → AreLonger s.sessions ds → next s n mine ≡ Some a → next t n mine ≡ Some a
  unfolding next
  next_longer n mine a l p =
      let m : (more : List Statement) × (statements_at ds n ≡ statements_at s.sessions n ++ more) = longer_at s.sessions ds n l in
      rw m.1 (first_longer (left_of (acts.blocks s Mode.Normal true (statements_at s.sessions n) []) mine)
      (left_of (acts.blocks t Mode.Normal true (statements_at s.sessions n ++ m.0) []) mine) a
      (left_longer (acts.blocks s Mode.Normal true (statements_at s.sessions n) []) (acts.blocks t Mode.Normal true (statements_at s.sessions n ++ m.0) []) mine
      (blocks_longer Mode.Normal true (statements_at s.sessions n) m.0 [])) p)
