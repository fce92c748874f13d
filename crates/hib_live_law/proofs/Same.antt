-- What a session does next, and what completes a transaction, doesn't hang on the rows, the other sessions and the schedule of a script.
use Rattle.std.specs.Prelude.{is_some}
use Rattle.std.specs.List.{flat_map}
use Rattle.std.proofs.Common.{◌≡◌, ℕ, Bool, cond, List, [], ◌∷◌, ◌++◌, Some, refl}
use Rattle.hib_journal.specs.Types.{Key, Row, Change, Mode, Statement, SessionDef, Checked, Order, Script, Act, Reply}
use Rattle.hib_journal.specs.Sessions.{Journal, time_in}
use Rattle.hib_journal.specs.Held.{held, pending}
use Rattle.hib_journal.specs.Plan.{Plan, each, one}
use Rattle.hib_journal.specs.Next as acts
use Rattle.hib_journal.specs.Next.{block, blocks, mode_after, ends, begin_if}
use Rattle.hib_live_law.proofs.Acts.{with_rest}

module _ (s : Script) (rows : List (Key × Row)) (ds : List SessionDef) (os : List Order) where
  abbrev t : Script
  t = with_rest s rows ds os

  put_same : (m : Mode) (k : Key) (r : Reply) (done : Journal) (go : Journal → Plan) → acts.put_loaded s m k r done go ≡ acts.put_loaded t m k r done go
  put_same m k (Reply.Row (Some r)) done go = refl
  put_same m k _ done go = refl

  pub load_same : (m : Mode) (k : Key) (done : Journal) (go : Journal → Plan) → acts.load s m k done go ≡ acts.load t m k done go
  load_same m k done go = λ i. Plan.Do (Act.Load k) (λ e. put_same m k e.reply (e ∷ done) go i)

  miss_same : (m : Mode) (k : Key) (r : Reply) (done : Journal) (go : Journal → Plan) → acts.load_unless_hit s m k r done go ≡ acts.load_unless_hit t m k r done go
  miss_same m k (Reply.Hit r) done go = refl
  miss_same m k _ done go = load_same m k done go

  pub get_same : (m : Mode) (k : Key) (done : Journal) (go : Journal → Plan) → acts.get s m k done go ≡ acts.get t m k done go
  get_same m k done go = λ i. Plan.Do (Act.Get k (time_in done)) (λ e. miss_same m k e.reply (e ∷ done) go i)

  find_same : (m : Mode) (k : Key) (done : Journal) (go : Journal → Plan) → acts.find s m k done go ≡ acts.find t m k done go
  find_same m k done go = λ i. cond (is_some (held done k)) (one (Act.Find k) done go) (cond (acts.may_read s m k done) (get_same m k done go i) (load_same m k done go i))

  before_same : (past : Journal) (c : Change) → acts.before_write s past c ≡ acts.before_write t past c
  before_same past (Change.Insert k r) = refl
  before_same past (Change.Update k v r) = refl
  before_same past (Change.Delete k v) = refl

  flushed_same : (past : Journal) (cs : List Change) → acts.flush_of s past cs ≡ acts.flush_of t past cs
  flushed_same past [] = refl
  flushed_same past (c ∷ cs) = λ i. Act.Pre (acts.tables_in s (c ∷ cs)) ∷ flat_map (λ d. before_same past d i ++ Act.Write d ∷ []) (c ∷ cs)

  flush_same : (done : Journal) (go : Journal → Plan) → acts.flush s done go ≡ acts.flush t done go
  flush_same done go = λ i. each (flushed_same done (pending done) i) done go

  keep_same : (m : Mode) (q : ℕ) (r : Reply) (done : Journal) (go : Journal → Plan) → acts.keep_listed s m q r done go ≡ acts.keep_listed t m q r done go
  keep_same m q (Reply.Listed l) done go = refl
  keep_same m q _ done go = refl

  pub store_same : (m : Mode) (q : ℕ) (done : Journal) (go : Journal → Plan) → acts.list_store s m q done go ≡ acts.list_store t m q done go
  store_same m q done go = λ i. Plan.Do (Act.List q) (λ e. keep_same m q e.reply (e ∷ done) go i)

  fresh_same : (m : Mode) (q : ℕ) (r : Reply) (done : Journal) (go : Journal → Plan) → acts.list_unless_fresh s m q r done go ≡ acts.list_unless_fresh t m q r done go
  fresh_same m q (Reply.Check Checked.Fresh) done go = refl
  fresh_same m q (Reply.Check (Checked.Stale n u)) done go = store_same m q done go
  fresh_same m q _ done go = store_same m q done go

  pub check_same : (m : Mode) (q time : ℕ) (done : Journal) (go : Journal → Plan) → acts.check s m q time done go ≡ acts.check t m q time done go
  check_same m q time done go = λ i. Plan.Do (Act.Check q time) (λ e. fresh_same m q e.reply (e ∷ done) go i)

  found_same : (m : Mode) (q : ℕ) (r : Reply) (done : Journal) (go : Journal → Plan) → acts.check_found s m q r done go ≡ acts.check_found t m q r done go
  found_same m q (Reply.Found time l) done go = check_same m q time done go
  found_same m q _ done go = store_same m q done go

  pub look_same : (m : Mode) (q : ℕ) (done : Journal) (go : Journal → Plan) → acts.look s m q done go ≡ acts.look t m q done go
  look_same m q done go = λ i. Plan.Do (Act.Look q) (λ e. found_same m q e.reply (e ∷ done) go i)

  pub answer_same : (m : Mode) (q : ℕ) (done : Journal) (go : Journal → Plan) → acts.answer s m q done go ≡ acts.answer t m q done go
  answer_same m q done go = λ i. cond (acts.is_free s q (acts.mode_reads m) done) (look_same m q done go i) (store_same m q done go i)

  list_same : (m : Mode) (q : ℕ) (done : Journal) (go : Journal → Plan) → acts.list s m q done go ≡ acts.list t m q done go
  list_same m q done go =
      λ i. cond (acts.is_in_tables (acts.tables_of s q) (pending done)) (each (flushed_same done (pending done) i) done (λ d. answer_same m q d go i)) (answer_same m q done go i)

  pub block_same : (m : Mode) (st : Statement) (done : Journal) (go : Journal → Plan) → block s m st done go ≡ block t m st done go
  block_same m (Statement.Find k) done go = find_same m k done go
  block_same m (Statement.List q) done go = list_same m q done go
  block_same m Statement.Flush done go = flush_same done go
  block_same m Statement.Commit done go = flush_same done (λ d. acts.commit s m d go)
  block_same m _ done go = refl

  pub blocks_same : (m : Mode) (due : Bool) (sts : List Statement) (done : Journal) → blocks s m due sts done ≡ blocks t m due sts done
  blocks_same m due [] done = refl
  blocks_same m due (st ∷ sts) done =
      λ i. begin_if due done (λ d. block_same m st d (λ x. blocks_same (mode_after st m) (ends st) sts x i) i)
