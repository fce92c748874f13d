-- What a session does next, and what is answered, doesn't hang on the schedule.
use Rattle.std.specs.Prelude.{slice_get, option_map, is_some, unwrap_or, IsSome}
use Rattle.std.specs.Option.{option_map_or}
use Rattle.std.specs.List.{flat_map}
use Rattle.std.proofs.Common.{◌≡◌, ℕ, Bool, true, cond, not, ◌&&◌, List, [], ◌∷◌, ◌++◌, Some, None, Option, refl, sym, ◌∙◌, subst}
use Rattle.hib_base.specs.Tables.{Tables}
use Rattle.hib_journal.specs.Types.{Key, Row, Change, Strategy, Mode, Statement, Checked, Order, Script, Act, Reply, Entry}
use Rattle.hib_journal.specs.Sessions.{Journal, own, changes, committed, time_in, was_killed}
use Rattle.hib_journal.specs.Held.{held, pending}
use Rattle.hib_journal.specs.Plan.{Plan, each, one, left_of, first_act}
use Rattle.hib_journal.specs.Next as next_act
use Rattle.hib_journal.specs.Next.{next, block, blocks}
use Rattle.hib_journal.specs.Legal as legal
use Rattle.hib_journal.specs.Legal.{IsLegal, IsStep, IsReplyBy, due, due_by, may_come, reply_by, part_of}
use Rattle.hib_journal.specs.Played.{has_next}
use Rattle.hib_order_law.specs.Orders.{IsUndisturbed, IsRun, onto}
use Rattle.hib_order_schedule.specs.Schedules.{with_schedule}

module _ (script : Script) (os : List Order) where
  abbrev other : Script
  other = with_schedule script os

  -- ---- a find
  put_loaded : (m : Mode) (k : Key) (r : Reply) (done : Journal) (go : Journal → Plan) → next_act.put_loaded other m k r done go ≡ next_act.put_loaded script m k r done go
  put_loaded m k (Reply.Row (Some r)) done go = refl
  put_loaded m k _ done go = refl

  load : (m : Mode) (k : Key) (done : Journal) (go : Journal → Plan) → next_act.load other m k done go ≡ next_act.load script m k done go
  load m k done go = λ i. Plan.Do (Act.Load k) (λ e. put_loaded m k e.reply (e ∷ done) go i)

  load_unless_hit : (m : Mode) (k : Key) (r : Reply) (done : Journal) (go : Journal → Plan) → next_act.load_unless_hit other m k r done go ≡ next_act.load_unless_hit script m k r done go
  load_unless_hit m k (Reply.Hit r) done go = refl
  load_unless_hit m k _ done go = load m k done go

  find : (m : Mode) (k : Key) (done : Journal) (go : Journal → Plan) → next_act.find other m k done go ≡ next_act.find script m k done go
  find m k done go = λ i. cond (is_some (held done k)) (one (Act.Find k) done go)
      (cond (next_act.may_read script m k done) (Plan.Do (Act.Get k (time_in done)) (λ e. load_unless_hit m k e.reply (e ∷ done) go i)) (load m k done go i))

  -- ---- a flush
  before_write : (past : Journal) (c : Change) → next_act.before_write other past c ≡ next_act.before_write script past c
  before_write past (Change.Insert k r) = refl
  before_write past (Change.Update k v r) = refl
  before_write past (Change.Delete k v) = refl

  flush_of : (past : Journal) (cs : List Change) → next_act.flush_of other past cs ≡ next_act.flush_of script past cs
  flush_of past [] = refl
  flush_of past (c ∷ cs) = λ i. Act.Pre (next_act.tables_in script (c ∷ cs)) ∷ flat_map (λ d. before_write past d i ++ Act.Write d ∷ []) (c ∷ cs)

  flush : (done : Journal) (go : Journal → Plan) → next_act.flush other done go ≡ next_act.flush script done go
  flush done go = λ i. each (flush_of done (pending done) i) done go

  -- ---- a list
  keep_listed : (m : Mode) (q : ℕ) (r : Reply) (done : Journal) (go : Journal → Plan) → next_act.keep_listed other m q r done go ≡ next_act.keep_listed script m q r done go
  keep_listed m q (Reply.Listed l) done go = refl
  keep_listed m q _ done go = refl

  list_store : (m : Mode) (q : ℕ) (done : Journal) (go : Journal → Plan) → next_act.list_store other m q done go ≡ next_act.list_store script m q done go
  list_store m q done go = λ i. Plan.Do (Act.List q) (λ e. keep_listed m q e.reply (e ∷ done) go i)

  list_unless_fresh : (m : Mode) (q : ℕ) (r : Reply) (done : Journal) (go : Journal → Plan) → next_act.list_unless_fresh other m q r done go ≡ next_act.list_unless_fresh script m q r done go
  list_unless_fresh m q (Reply.Check Checked.Fresh) done go = refl
  list_unless_fresh m q _ done go = list_store m q done go

  check_found : (m : Mode) (q : ℕ) (r : Reply) (done : Journal) (go : Journal → Plan) → next_act.check_found other m q r done go ≡ next_act.check_found script m q r done go
  check_found m q (Reply.Found time l) done go = λ i. Plan.Do (Act.Check q time) (λ e. list_unless_fresh m q e.reply (e ∷ done) go i)
  check_found m q _ done go = list_store m q done go

  answer : (m : Mode) (q : ℕ) (done : Journal) (go : Journal → Plan) → next_act.answer other m q done go ≡ next_act.answer script m q done go
  answer m q done go = λ i. cond (next_act.is_free script q (next_act.mode_reads m) done) (Plan.Do (Act.Look q) (λ e. check_found m q e.reply (e ∷ done) go i)) (list_store m q done go i)

  list : (m : Mode) (q : ℕ) (done : Journal) (go : Journal → Plan) → next_act.list other m q done go ≡ next_act.list script m q done go
  list m q done go = λ i. cond (next_act.is_in_tables (next_act.tables_of script q) (pending done)) (flush done (λ d. answer m q d go i) i) (answer m q done go i)

  -- ---- a session
  block_same : (m : Mode) (st : Statement) (done : Journal) (go : Journal → Plan) → block other m st done go ≡ block script m st done go
  block_same m (Statement.Find k) done go = find m k done go
  block_same m (Statement.List q) done go = list m q done go
  block_same m Statement.Flush done go = flush done go
  block_same m Statement.Commit done go = flush done (λ d. next_act.commit script m d go)
  block_same m _ done go = refl

  blocks_same : (m : Mode) (b : Bool) (sts : List Statement) (done : Journal) → blocks other m b sts done ≡ blocks script m b sts done
  blocks_same m b [] done = refl
  blocks_same m b (st ∷ sts) done =
      λ i. next_act.begin_if b done (λ d. block_same m st d (λ x. blocks_same (next_act.mode_after st m) (next_act.ends st) sts x i) i)

  pub next_same : (s : ℕ) (mine : Journal) → next other s mine ≡ next script s mine
  unfolding next
  next_same s mine = λ i. first_act (left_of (blocks_same Mode.Normal true (option_map_or (λ d. d.statements) (slice_get script.sessions s) []) [] i) mine)

  pub has_same : (h : Journal) (s : ℕ) → has_next other h s ≡ has_next script h s
  has_same h s = λ i. not (was_killed s h) && is_some (next_same s (own s h) i)

  -- ---- the replies
  get_reply : (g : Strategy) (h : Journal) (k : Key) (t : ℕ) → legal.get_reply g other h k t ≡ legal.get_reply g script h k t
  get_reply Strategy.ReadWrite h k t = refl
  get_reply _ h k t = refl

  put_reply : (g : Strategy) (h : Journal) (k : Key) (r : Row) (t f : ℕ) → legal.put_reply g other h k r t f ≡ legal.put_reply g script h k r t f
  put_reply Strategy.ReadWrite h k r t f = refl
  put_reply _ h k r t f = refl

  insert_reply : (g : Strategy) (h : Journal) (k : Key) (f : ℕ) → legal.insert_reply g other h k f ≡ legal.insert_reply g script h k f
  insert_reply Strategy.ReadWrite h k f = refl
  insert_reply _ h k f = refl

  evict_reply : (g : Strategy) (h : Journal) (k : Key) → legal.evict_reply g other h k ≡ legal.evict_reply g script h k
  evict_reply Strategy.ReadWrite h k = refl
  evict_reply _ h k = refl

  reply_same : (cs : List Change) (rows : Tables) (h : Journal) (s now : ℕ) (a : Act) → reply_by other cs rows h s now a ≡ reply_by script cs rows h s now a
  reply_same cs rows h s now (Act.Get k t) = get_reply (next_act.strategy script k.entity) h k t
  reply_same cs rows h s now (Act.Put k r t f) = put_reply (next_act.strategy script k.entity) h k r t f
  reply_same cs rows h s now (Act.AfterInsert k r f) = insert_reply (next_act.strategy script k.entity) h k f
  reply_same cs rows h s now (Act.Evict k) = evict_reply (next_act.strategy script k.entity) h k
  reply_same cs rows h s now _ = refl

  -- ---- legal journals
  due_same : (h : Journal) (by : Option ℕ) (a : Act) → due_by other h by a ≡ due_by script h by a
  due_same h None a = refl
  due_same h (Some s) a = λ i. cond (was_killed s h) None (next_same s (own s h) i)

  may_same : (h : Journal) (o : Option Act) → may_come other h o ≡ may_come script h o
  may_same h (Some (Act.Evict k)) = refl
  may_same h _ = refl

  step_same : (told : Option Tables) (h : Journal) (e : Entry) → IsStep script told h e → IsStep other told h e
  step_same told h e t =
      let d : due script h e ≡ due other h e = sym (due_same h e.session e.act) in
      record {
        tick = t.tick;
        session = subst (λ o. IsSome o) d t.session;
        part = subst (λ o. option_map (λ a. part_of a (unwrap_or e.session 0)) o ≡ Some e.part) d t.part;
        act = may_same h (due other h e) ∙ subst (λ o. may_come script h o ≡ Some e.act) d t.act;
        reply = subst (λ (r : Tables → Reply). IsReplyBy told (changes (unwrap_or e.session 0) h) r e)
            (λ i start. sym (reply_same (changes (unwrap_or e.session 0) h) (committed start h) h (unwrap_or e.session 0) e.tick e.act) i) t.reply;
      }

  pub legal_same : (told : Option Tables) (h : Journal) → IsLegal script told h → IsLegal other told h
  legal_same told [] l = tt
  legal_same told (e ∷ h) l = (legal_same told h l.0, step_same told h e l.1)

  pub undisturbed_same : (start : Tables) (h : Journal) → IsUndisturbed script start h → IsUndisturbed other start h
  undisturbed_same start h u = record { legal = legal_same (Some start) h u.legal; numbered = u.numbered; plain = u.plain }

  pub run_same : (start : Tables) (most_kills : ℕ) (es : List Entry) → IsRun script start most_kills es → IsRun other start most_kills es
  run_same start most_kills es r = record {
    undisturbed = undisturbed_same start (onto es []) r.undisturbed;
    over = λ s. has_same (onto es []) s ∙ r.over s;
    few_kills = r.few_kills;
  }
