-- A control that takes a step stands for what is left.
use Rattle.std.specs.Option.{option_map_or}
use Rattle.std.proofs.Common.{◌≡◌, ℕ, zero, suc, ◌+◌, ◌≤◌, Bool, true, false, cond, List, [], ◌∷◌, ◌++◌, length, drop, slice_get, Some, None, Option, refl, ap, sym, ◌∙◌, arith}
use Rattle.std.proofs.lemmas.Bool.{true≢false, false≢true}
use Rattle.std.proofs.lemmas.List.{append-nil}
use Rattle.hib_journal.specs.Types.{Mode, Statement, Script, Act, Entry}
use Rattle.hib_journal.specs.Sessions.{Journal}
use Rattle.hib_journal.specs.Held.{pending}
use Rattle.hib_journal.specs.Plan.{Plan, after, left_of, first_act}
use Rattle.hib_journal.specs.Next.{block, blocks, list, is_in_tables, tables_of, flush_of, mode_after, ends, mode_reads, is_free, look, list_store, plan_of, next}
use Rattle.hib_session.specs.declared.control.Stage.{Stage}
use Rattle.hib_session.specs.declared.control.Control.{Control}
use Rattle.hib_session.specs.declared.written.Written.{Written}
use Rattle.hib_session.specs.Memory.{Fits}
use Rattle.hib_session.specs.Ahead.{Copies}
use Rattle.hib_session.specs.Control.{staged, queued, untaken, settles, is_settled, is_over, is_over_at, decided, is_answering, is_due, is_resting, act_at, act_staged, begin_at, plan_at, Stands}

pub flush_taken : (script : Script) (st : Statement) (acts : List Act) (mode : Mode) (done : Journal) (go : Journal → Plan) →
    st ≡ Statement.Flush → acts ≡ flush_of script done (pending done) →
    queued script (mode_after st mode) acts Stage.Idle done go ≡ block script mode st done go
flush_taken script st acts mode done go p e = rw (p, e) refl

pub commit_taken : (script : Script) (st : Statement) (acts : List Act) (mode : Mode) (done : Journal) (go : Journal → Plan) →
    st ≡ Statement.Commit → acts ≡ flush_of script done (pending done) →
    queued script (mode_after st mode) acts Stage.Committing done go ≡ block script mode st done go
commit_taken script st acts mode done go p e = rw (p, e) refl

pub list_flushed : (script : Script) (acts : List Act) (q : ℕ) (mode : Mode) (done : Journal) (go : Journal → Plan) → acts ≡ flush_of script done (pending done) →
    is_in_tables (tables_of script q) (pending done) ≡ true → queued script mode acts (Stage.Answering q) done go ≡ list script mode q done go
list_flushed script acts q mode done go p t = rw (p, t) refl

-- a statement that is left stands within the list
within : (xs : List Statement) (n : ℕ) (st : Statement) (ss : List Statement) → drop n xs ≡ st ∷ ss → n + 1 ≤ length xs
within [] zero st ss p = absurd (cc)
within [] (suc n) st ss p = absurd (cc)
within (x ∷ xs) zero st ss p = omega (arith)
within (x ∷ xs) (suc n) st ss p = let h : n + 1 ≤ length xs = within xs n st ss p in omega (arith, h)

-- it takes a statement
pub takes : (script : Script) (c : Control) (done : Journal) (st : Statement) (acts : List Act) (stage : Stage) (m : Mode) (b : Bool) → Stands script c done →
    c.queue ≡ [] → c.stage ≡ Stage.Idle → c.begins ≡ false → untaken script c ≡ st ∷ drop (c.place + 1) (option_map_or (λ d. d.statements) (slice_get script.sessions c.number) []) →
    ((go : Journal → Plan) → queued script (mode_after st c.mode) acts stage done go ≡ block script c.mode st done go) →
    m ≡ mode_after st c.mode → b ≡ ends st →
    Stands script (record { number = c.number; place = c.place + 1; mode = m; begins = b; queue = acts; stage = stage }) done
takes script c done st acts stage m b h q i g s f p e = rw (p, e) (
  within (option_map_or (λ d. d.statements) (slice_get script.sessions c.number) []) c.place st (drop (c.place + 1) (option_map_or (λ d. d.statements) (slice_get script.sessions c.number) [])) s,
  λ more. h.1 more ∙ (same more ∙ sym (f (λ x. blocks script (mode_after st c.mode) (ends st) (drop (c.place + 1) (option_map_or (λ d. d.statements) (slice_get script.sessions c.number) []) ++ more) x))),
)
  where
    same : (more : List Statement) → plan_at script c more done ≡ block script c.mode st done (λ x. blocks script (mode_after st c.mode) (ends st) (drop (c.place + 1) (option_map_or (λ d. d.statements) (slice_get script.sessions c.number) []) ++ more) x)
    same more = rw (q, i, g, s) refl

-- it answers from the results or from the store
pub answers : (script : Script) (c : Control) (done : Journal) → Stands script c done → c.queue ≡ [] → is_answering c.stage ≡ true →
    Stands script (record { number = c.number; place = c.place; mode = c.mode; begins = c.begins; queue = c.queue; stage = decided script c.mode done c.stage }) done
answers script c done h e a = (h.0, λ more. h.1 more ∙ rw e (by_stage c.stage a (λ d. blocks script c.mode c.begins (untaken script c ++ more) d)))
  where
    by_test : (x : Bool) (q : ℕ) (go : Journal → Plan) → cond x (look script c.mode q done go) (list_store script c.mode q done go) ≡
        staged script c.mode (cond x (Stage.Looking q) (Stage.Listing q)) done go
    by_test true q go = refl
    by_test false q go = refl

    by_stage : (stage : Stage) → is_answering stage ≡ true → (go : Journal → Plan) → staged script c.mode stage done go ≡ staged script c.mode (decided script c.mode done stage) done go
    by_stage (Stage.Answering q) a go = by_test (is_free script q (mode_reads c.mode) done) q go
    by_stage _ a go = refl

-- what is not settled and does not answer is idle, with nothing queued, and has a statement to take
pub open_idle : (acts : List Act) (stage : Stage) (due : Bool) (sts : List Statement) → settles acts stage due sts ≡ false → is_answering stage ≡ false →
    (acts ≡ []) × (stage ≡ Stage.Idle) × (due ≡ false) × ((st : Statement) × (ss : List Statement) × (sts ≡ st ∷ ss))
open_idle (a ∷ acts) stage due sts p q = absurd (true≢false p)
open_idle [] Stage.Idle due [] p q = absurd (true≢false p)
open_idle [] Stage.Idle due (st ∷ ss) p q = (refl, refl, p, (st, ss, refl))
open_idle [] (Stage.Answering x) due sts p q = absurd (true≢false q)
open_idle [] _ due sts p q = absurd (true≢false p)

pub open_queue : (acts : List Act) (stage : Stage) (due : Bool) (sts : List Statement) → settles acts stage due sts ≡ false → acts ≡ []
open_queue (a ∷ acts) stage due sts p = absurd (true≢false p)
open_queue [] stage due sts p = refl

-- it stands for what is left of its session's plan as it is
plan_now : (script : Script) (c : Control) (done : Journal) → Stands script c done →
    left_of (plan_of script c.number) done ≡ queued script c.mode c.queue c.stage done (λ d. blocks script c.mode c.begins (untaken script c) d)
plan_now script c done h =
    sym (ap (λ sts. left_of (blocks script Mode.Normal true sts []) done) (append-nil (option_map_or (λ d. d.statements) (slice_get script.sessions c.number) [])))
    ∙ (h.1 [] ∙ ap (λ sts. queued script c.mode c.queue c.stage done (λ d. blocks script c.mode c.begins sts d)) (append-nil (untaken script c)))

-- the act that is due, if it is settled
pub act_due : (script : Script) (c : Control) (done : Journal) → Stands script c done → is_settled script c ≡ true →
    act_at c.queue c.stage c.begins (untaken script c) done ≡ next script c.number done
unfolding next
act_due script c done h s = by_queue c.queue c.stage c.begins (untaken script c) s ∙ ap first_act (sym (plan_now script c done h))
  where
    by_queue : (acts : List Act) (stage : Stage) (due : Bool) (sts : List Statement) → settles acts stage due sts ≡ true →
        act_at acts stage due sts done ≡ first_act (queued script c.mode acts stage done (λ d. blocks script c.mode due sts d))
    by_queue (a ∷ acts) stage due sts p = refl
    by_queue [] Stage.Idle true [] p = refl
    by_queue [] Stage.Idle false [] p = refl
    by_queue [] Stage.Idle true (st ∷ sts) p = refl
    by_queue [] Stage.Idle false (st ∷ sts) p = absurd (false≢true p)
    by_queue [] (Stage.Answering q) due sts p = absurd (false≢true p)
    by_queue [] (Stage.Getting k) due sts p = refl
    by_queue [] (Stage.Loading k) due sts p = refl
    by_queue [] (Stage.Looking k) due sts p = refl
    by_queue [] (Stage.Checking k t) due sts p = refl
    by_queue [] (Stage.Listing k) due sts p = refl
    by_queue [] Stage.Committing due sts p = refl
    by_queue [] Stage.RollingBack due sts p = refl

-- an entry of an act that was queued
pub queue_steps : (script : Script) (c : Control) (done : Journal) (e : Entry) (a : Act) (acts : List Act) → c.queue ≡ a ∷ acts → Stands script c done →
    Stands script (record { number = c.number; place = c.place; mode = c.mode; begins = c.begins; queue = acts; stage = c.stage }) (e ∷ done)
queue_steps script c done e a acts q h = (h.0, λ more. ap (λ p. after p e) (h.1 more) ∙ rw q refl)

-- an entry, if nothing is queued and no block is open, and something is left: a transaction begins
pub begin_steps : (script : Script) (c : Control) (done : Journal) (e : Entry) → c.queue ≡ [] → c.stage ≡ Stage.Idle → is_settled script c ≡ true → is_over script c ≡ false → Stands script c done →
    Stands script (record { number = c.number; place = c.place; mode = c.mode; begins = false; queue = c.queue; stage = c.stage }) (e ∷ done)
begin_steps script c done e q i s o h = by_rest (untaken script c) refl (rw (q, i) at s) (rw (q, i) at o)
  where
    by_rest : (sts : List Statement) → untaken script c ≡ sts → settles [] Stage.Idle c.begins (untaken script c) ≡ true → is_over_at [] Stage.Idle c.begins (untaken script c) ≡ false →
        Stands script (record { number = c.number; place = c.place; mode = c.mode; begins = false; queue = c.queue; stage = c.stage }) (e ∷ done)
    by_rest [] r s o = let n : true ≡ false = rw r at o in absurd (true≢false n)
    by_rest (st ∷ sts) r s o = let b : c.begins ≡ true = rw r at s in (h.0, λ more. ap (λ p. after p e) (h.1 more) ∙ rw (q, i, b, r) refl)

-- an entry of the act of a stage
pub stage_steps : (script : Script) (c : Control) (done : Journal) (e : Entry) (acts : List Act) (stage : Stage) → c.queue ≡ [] →
    ((go : Journal → Plan) → queued script c.mode acts stage (e ∷ done) go ≡ after (staged script c.mode c.stage done go) e) → Stands script c done →
    Stands script (record { number = c.number; place = c.place; mode = c.mode; begins = c.begins; queue = acts; stage = stage }) (e ∷ done)
stage_steps script c done e acts stage q f h =
    (h.0, λ more. ap (λ p. after p e) (h.1 more) ∙ (rw q refl ∙ sym (f (λ d. blocks script c.mode c.begins (untaken script c ++ more) d))))

-- a settled stage with nothing queued that is not idle has an act due
pub stage_due : (stage : Stage) (due : Bool) (sts : List Statement) → settles [] stage due sts ≡ true → is_resting stage ≡ false → is_due stage ≡ true
stage_due Stage.Idle due sts s r = absurd (true≢false r)
stage_due (Stage.Answering q) due sts s r = absurd (false≢true s)
stage_due _ due sts s r = refl

pub resting_idle : (stage : Stage) → is_resting stage ≡ true → stage ≡ Stage.Idle
resting_idle Stage.Idle p = refl
resting_idle _ p = absurd (false≢true p)

pub head_due : (acts : List Act) (stage : Stage) (due : Bool) (sts : List Statement) (done : Journal) (a b : Act) → slice_get acts 0 ≡ Some a → b ≡ a →
    Some b ≡ act_at acts stage due sts done
head_due [] stage due sts done a b e p = absurd (no e)
  where
    no : ◌≡◌ {A = Option Act} None (Some a) → ⊥
    no x = cc
head_due (x ∷ acts) stage due sts done a b e p = ap (λ z. Some z) p ∙ sym e

pub rest_due : (acts : List Act) (stage : Stage) (due : Bool) (sts : List Statement) (done : Journal) (r : Option Act) → acts ≡ [] → is_resting stage ≡ true →
    r ≡ begin_at due sts → r ≡ act_at acts stage due sts done
rest_due acts stage due sts done r q i e = e ∙ rw (q, resting_idle stage i) refl

pub staged_due : (acts : List Act) (stage : Stage) (due : Bool) (sts : List Statement) (done : Journal) (r : Option Act) → acts ≡ [] → is_resting stage ≡ false →
    r ≡ act_staged stage done → r ≡ act_at acts stage due sts done
staged_due acts stage due sts done r q i e = e ∙ rw q (by_stage stage i)
  where
    by_stage : (stage : Stage) → is_resting stage ≡ false → act_staged stage done ≡ act_at [] stage due sts done
    by_stage Stage.Idle i = absurd (true≢false i)
    by_stage _ i = refl

-- if something is left at an idle stage, a transaction is to begin
pub begin_left : (due : Bool) (sts : List Statement) → is_over_at [] Stage.Idle due sts ≡ false → due ≡ true
begin_left true sts p = refl
begin_left false [] p = absurd (true≢false p)
begin_left false (st ∷ sts) p = absurd (true≢false p)

-- copies that fit the first act that is queued
pub copies_first : (acts : List Act) (a : Act) (w : Option Written) → slice_get acts 0 ≡ Some a → Fits w a → Copies acts w
copies_first acts a None g f = tt
copies_first [] a (Some w) g f = absurd (no g)
  where
    no : ◌≡◌ {A = Option Act} None (Some a) → ⊥
    no x = cc
copies_first (x ∷ acts) a (Some w) g f = ((acts, ap (λ z. z ∷ acts) (same g ∙ f.0)), f.1)
  where
    same : ◌≡◌ {A = Option Act} (Some x) (Some a) → x ≡ a
    same e = cc
