-- A session that takes the entry of the act that was due.
use Rattle.std.proofs.Common.{◌≡◌, ◌<◌, ℕ, Bool, true, false, not, ◌&&◌, ◌||◌, List, [], ◌∷◌, IfSome, Some, None, Option, refl, sym, ap, ◌∙◌, subst}
use Rattle.std.proofs.lemmas.Bool.{false≢true, true≢false, and_parts}
use Rattle.hib_journal.specs.Types.{Key, Change, Statement, Script, Act, Reply, Entry}
use Rattle.hib_journal.specs.Sessions.{Journal, time_in, time_after, floor_in, floor_after, changes_in, changes_after, is_begun}
use Rattle.hib_journal.specs.Plan.{InOrder}
use Rattle.hib_journal.specs.Next.{plan_of, next, lock_in, lock_id}
use Rattle.hib_journal.proofs.Steps.{next_is}
use Rattle.hib_session.specs.declared.control.Stage.{Stage}
use Rattle.hib_session.specs.declared.control.Control.{Control}
use Rattle.hib_session.specs.declared.session.Session.{Session}
use Rattle.hib_session.specs.declared.written.Written.{Written}
use Rattle.hib_session.specs.declared.ahead.Ending.{Ending}
use Rattle.hib_session.specs.Memory.{Remembered, Knows, Recalls, Fits, brings, has_copies, takes_room}
use Rattle.hib_journal.specs.Due.{IsAllowed, is_closed}
use Rattle.hib_session.specs.Control.{Stands, untaken, is_due, is_over_at, is_over, is_settled, act_at, act_staged, weight}
use Rattle.hib_session.specs.Ahead.{Ends, Copies, asks_rows, has_ending, needs_room, is_made}
use Rattle.hib_session.specs.Session.{Follows, IsTaken, number_of, left_in, is_ready}
use Rattle.hib_journal.proofs.Due.{allowed_due, closed_end}
use Rattle.hib_session.proofs.Taken.{act_due}

-- the acts of stages leave what is asked for the acts that follow
abbrev is_staged : Act → Bool
is_staged (Act.Get k t) = true
is_staged (Act.Load k) = true
is_staged (Act.Look q) = true
is_staged (Act.Check q t) = true
is_staged (Act.List q) = true
is_staged Act.Commit = true
is_staged Act.Rollback = true
is_staged _ = false

same_time : (a : Act) (now t : ℕ) → is_staged a ≡ true → t ≡ time_after a now t
same_time Act.Begin now t p = absurd (false≢true p)
same_time _ now t p = refl

same_floor : (a : Act) (r : Reply) (f : ℕ) → is_staged a ≡ true → f ≡ floor_after a r f
same_floor Act.Begin r f p = absurd (false≢true p)
same_floor _ r f p = refl

same_changes : (a : Act) (cs : List Change) → is_staged a ≡ true → cs ≡ changes_after a cs
same_changes Act.Begin cs p = absurd (false≢true p)
same_changes (Act.Write c) cs p = absurd (false≢true p)
same_changes _ cs p = refl

same_lock : (k : Key) (a : Act) (r : Reply) (i : ℕ) → is_staged a ≡ true → i ≡ lock_in k a r i
same_lock k (Act.Lock j v f) r i p = absurd (false≢true p)
same_lock k _ r i p = refl

staged_act : (stage : Stage) (mine : Journal) (a : Act) → is_due stage ≡ true → act_staged stage mine ≡ Some a → is_staged a ≡ true
staged_act Stage.Idle mine a d p = absurd (false≢true d)
staged_act (Stage.Answering q) mine a d p = absurd (false≢true d)
staged_act (Stage.Getting k) mine a d p = let e : a ≡ Act.Get k (time_in mine) = cc in ap is_staged e
staged_act (Stage.Loading k) mine a d p = let e : a ≡ Act.Load k = cc in ap is_staged e
staged_act (Stage.Looking q) mine a d p = let e : a ≡ Act.Look q = cc in ap is_staged e
staged_act (Stage.Checking q t) mine a d p = let e : a ≡ Act.Check q t = cc in ap is_staged e
staged_act (Stage.Listing q) mine a d p = let e : a ≡ Act.List q = cc in ap is_staged e
staged_act Stage.Committing mine a d p = let e : a ≡ Act.Commit = cc in ap is_staged e
staged_act Stage.RollingBack mine a d p = let e : a ≡ Act.Rollback = cc in ap is_staged e

due_staged : (acts : List Act) (stage : Stage) (b : Bool) (sts : List Statement) (mine : Journal) (a : Act) → acts ≡ [] → is_due stage ≡ true → act_at acts stage b sts mine ≡ Some a → is_staged a ≡ true
due_staged acts stage b sts mine a q d p = staged_act stage mine a d (sym (staged stage d) ∙ rw q at p)
  where
    staged : (stage : Stage) → is_due stage ≡ true → act_at [] stage b sts mine ≡ act_staged stage mine
    staged Stage.Idle d = absurd (false≢true d)
    staged _ d = refl

recalls_more : (x : Remembered) (mine : Journal) (e : Entry) → Knows x mine → is_staged e.act ≡ true → Recalls x (e ∷ mine)
recalls_more x mine e k s = record {
  time = k.time ∙ same_time e.act e.tick (time_in mine) s;
  floor = k.floor ∙ same_floor e.act e.reply (floor_in mine) s;
  changes = k.changes ∙ same_changes e.act (changes_in mine) s;
  locks = λ j. k.locks j ∙ same_lock j e.act e.reply (lock_id j mine) s;
}

-- what is remembered before the entry of a stage's act is asked for the acts that follow it
pub recalls_next : (script : Script) (c : Control) (x : Remembered) (mine : Journal) (e : Entry) → Knows x mine → Stands script c mine → is_settled script c ≡ true → next script c.number mine ≡ Some e.act →
    c.queue ≡ [] → is_due c.stage ≡ true → Recalls x (e ∷ mine)
recalls_next script c x mine e k h s n q d =
    recalls_more x mine e k (due_staged c.queue c.stage c.begins (untaken script c) mine e.act q d (act_due script c mine h s ∙ n))

-- something is left if an act is due
pub left_over : (script : Script) (c : Control) (mine : Journal) (a : Act) → Stands script c mine → is_settled script c ≡ true → next script c.number mine ≡ Some a → is_over script c ≡ false
left_over script c mine a h s p = by_state c.queue c.stage c.begins (untaken script c) (act_due script c mine h s ∙ p)
  where
    no : ◌≡◌ {A = Option Act} None (Some a) → ⊥
    no x = cc

    by_state : (acts : List Act) (stage : Stage) (due : Bool) (sts : List Statement) → act_at acts stage due sts mine ≡ Some a → is_over_at acts stage due sts ≡ false
    by_state [] Stage.Idle true [] e = absurd (no e)
    by_state [] Stage.Idle false [] e = absurd (no e)
    by_state [] Stage.Idle true (st ∷ sts) e = refl
    by_state [] Stage.Idle false (st ∷ sts) e = absurd (no e)
    by_state (x ∷ acts) Stage.Idle due sts e = refl
    by_state acts stage due sts e = refl

pub follows_on : (script : Script) (s z : Session) (mine : Journal) (e : Entry) → Follows script s mine → IsTaken script (number_of s) mine e → number_of z ≡ number_of s → z.killed ≡ s.killed →
    Knows z.memory (e ∷ mine) → Stands script z.control (e ∷ mine) → z.copies ≡ None → z.ending ≡ None → Follows script z (e ∷ mine)
follows_on script s z mine e f t n l k h w d = record {
  alive = l ∙ f.alive;
  order = subst (λ m. InOrder (plan_of script m) (e ∷ mine)) (sym n) (f.order, next_is script (number_of s) mine e.act t.due);
  knows = k;
  stands = h;
  copies = subst (λ o. Copies z.control.queue o) (sym w) tt;
  ending = λ more r. subst (λ o. Ends script z.control.mode more o) (sym d) tt;
}

-- the control went on, and something was made ready
pub follows_same : (script : Script) (s z : Session) (mine : Journal) → Follows script s mine → number_of z ≡ number_of s → z.killed ≡ s.killed → Knows z.memory mine →
    Stands script z.control mine → Copies z.control.queue z.copies → ((more : Journal) → Recalls z.memory more → Ends script z.control.mode more z.ending) → Follows script z mine
follows_same script s z mine f n l k h w d = record {
  alive = l ∙ f.alive;
  order = subst (λ x. InOrder (plan_of script x) mine) (sym n) f.order;
  knows = k;
  stands = h;
  copies = w;
  ending = d;
}

-- copies that are there are those of the act that is due
pub fits_due : (script : Script) (s : Session) (mine : Journal) (a : Act) → Follows script s mine → is_settled script s.control ≡ true → next script s.control.number mine ≡ Some a → Fits s.copies a
fits_due script s mine a f t n = by_copies s.copies f.copies (act_due script s.control mine f.stands t ∙ n)
  where
    by_copies : (w : Option Written) → Copies s.control.queue w → act_at s.control.queue s.control.stage s.control.begins (untaken script s.control) mine ≡ Some a → Fits w a
    by_copies None c d = tt
    by_copies (Some w) c d = (same (rw c.0.1 at d), c.1)
      where
        same : Some (Act.Write w.change) ≡ Some a → a ≡ Act.Write w.change
        same e = cc

-- what is made ready is enough for an entry that brings nothing
pub made_due : (acts : List Act) (stage : Stage) (b : Bool) (sts : List Statement) (mine : Journal) (a : Act) (w : Option Written) (e : Option Ending) →
    act_at acts stage b sts mine ≡ Some a → brings a ≡ false → is_made acts stage w e ≡ true →
    ((acts ≡ [] → asks_rows stage ≡ false) × ((acts ≡ [] → has_ending stage e ≡ true) × (has_copies w a ≡ true))) × (takes_room a ≡ needs_room acts)
made_due (x ∷ acts) stage b sts mine a w e d n m = ((λ q. absurd (no q), (λ q. absurd (no q), subst (λ y. has_copies w y ≡ true) same m)), ap takes_room (sym same))
  where
    no : x ∷ acts ≡ [] → ⊥
    no q = cc

    same : x ≡ a
    same = cc
made_due [] (Stage.Getting k) b sts mine a w e d n m = absurd (true≢false (ap brings (sym same) ∙ n))
  where
    same : a ≡ Act.Get k (time_in mine)
    same = cc
made_due [] (Stage.Loading k) b sts mine a w e d n m = absurd (true≢false (ap brings (sym same) ∙ n))
  where
    same : a ≡ Act.Load k
    same = cc
made_due [] (Stage.Listing k) b sts mine a w e d n m = absurd (true≢false (ap brings (sym same) ∙ n))
  where
    same : a ≡ Act.List k
    same = cc
made_due [] Stage.Idle true (st ∷ sts) mine a w e d n m = let same : a ≡ Act.Begin = cc in ((λ q. refl, (λ q. m, ap (has_copies w) same)), ap takes_room same)
made_due [] Stage.Idle true [] mine a w e d n m = absurd (cc)
made_due [] Stage.Idle false sts mine a w e d n m = absurd (cc)
made_due [] (Stage.Answering k) b sts mine a w e d n m = absurd (cc)
made_due [] (Stage.Looking k) b sts mine a w e d n m = let same : a ≡ Act.Look k = cc in ((λ q. refl, (λ q. m, ap (has_copies w) same)), ap takes_room same)
made_due [] (Stage.Checking k t) b sts mine a w e d n m = let same : a ≡ Act.Check k t = cc in ((λ q. refl, (λ q. m, ap (has_copies w) same)), ap takes_room same)
made_due [] Stage.Committing b sts mine a w e d n m = let same : a ≡ Act.Commit = cc in ((λ q. refl, (λ q. m, ap (has_copies w) same)), ap takes_room same)
made_due [] Stage.RollingBack b sts mine a w e d n m = let same : a ≡ Act.Rollback = cc in ((λ q. refl, (λ q. m, ap (has_copies w) same)), ap takes_room same)

-- a session that is ready has nothing to expand
pub settled_ready : (script : Script) (s : Session) → is_ready script s ≡ true → is_settled script s.control ≡ true
settled_ready script s r =
    (and_parts (is_settled script s.control) (not (needs_room s.control.queue) || s.memory.room)
    (and_parts (is_settled script s.control && (not (needs_room s.control.queue) || s.memory.room)) (is_made s.control.queue s.control.stage s.copies s.ending) r).0).0

-- the memory is there for an entry of the act that is due, unless it brings something
pub room_next : (script : Script) (s : Session) (mine : Journal) (a : Act) → Follows script s mine → is_ready script s ≡ true → next script s.control.number mine ≡ Some a → brings a ≡ false →
    ((s.control.queue ≡ [] → asks_rows s.control.stage ≡ false) × (s.control.queue ≡ [] → has_ending s.control.stage s.ending ≡ true)) × ((has_copies s.copies a ≡ true) × ((not (takes_room a) || s.memory.room) ≡ true))
room_next script s mine a f r n b =
    let u : Bool = not (needs_room s.control.queue) || s.memory.room in
    let p : ((is_settled script s.control && u) ≡ true) × (is_made s.control.queue s.control.stage s.copies s.ending ≡ true) =
    and_parts (is_settled script s.control && u) (is_made s.control.queue s.control.stage s.copies s.ending) r in
    let q : (is_settled script s.control ≡ true) × (u ≡ true) = and_parts (is_settled script s.control) u p.0 in
    let m = made_due s.control.queue s.control.stage s.control.begins (untaken script s.control) mine a s.copies s.ending (act_due script s.control mine f.stands q.0 ∙ n) b p.1 in
    ((m.0.0, m.0.1.0), (m.0.1.1, rw m.1 q.1))

pub if_allowed : (script : Script) (s : Session) (mine : Journal) (o : Option Act) → Follows script s mine → o ≡ next script (number_of s) mine → IfSome o (IsAllowed script (number_of s) mine)
if_allowed script s mine None f e = tt
if_allowed script s mine (Some a) f e = allowed_due script (number_of s) mine a f.order (sym e)

pub if_ended : (script : Script) (s : Session) (mine : Journal) (o : Option Act) → Follows script s mine → o ≡ next script (number_of s) mine → o ≡ None → is_closed script (number_of s) ≡ true → is_begun mine ≡ false
if_ended script s mine o f e n c = closed_end script (number_of s) mine f.order (sym e ∙ n) c

-- a number that falls if the session was not killed
pub left_falls : (script : Script) (s z : Session) → s.killed ≡ false → z.killed ≡ false → weight script z.control < weight script s.control → left_in script z < left_in script s
left_falls script s z a b h = rw (a, b) h
