-- A journal that is legal for a script stays so as the script grows.
use Rattle.std.proofs.Common.{◌≡◌, ℕ, Bool, true, false, cond, List, [], ◌∷◌, Option, Some, None, option_map, IsSome, refl, subst, ◌∙◌, sym}
use Rattle.std.proofs.lemmas.Bool.{false≢true}
use Rattle.std.specs.Prelude.{unwrap_or}
use Rattle.hib_base.specs.Tables.{Tables}
use Rattle.hib_journal.specs.Types.{Key, Row, Change, Strategy, SessionDef, Order, Script, Act, Entry}
use Rattle.hib_journal.specs.Sessions.{Journal, own, changes, committed, was_killed}
use Rattle.hib_journal.specs.Next.{strategy, next}
use Rattle.hib_journal.specs.Legal.{get_reply, put_reply, insert_reply, evict_reply, reply_by, reply_of, IsReplyBy, part_of, due_by, due, may_come, IsStep, IsLegal}
use Rattle.hib_live_law.specs.Grown.{AreLonger, HasGrown}
use Rattle.hib_live_law.proofs.Acts.{with_rest, next_longer}

module _ (s : Script) (rows : List (Key × Row)) (ds : List SessionDef) (os : List Order) where
  abbrev t : Script
  t = with_rest s rows ds os

  -- ---- replies
  get_same : (g : Strategy) (h : Journal) (k : Key) (n : ℕ) → get_reply g s h k n ≡ get_reply g t h k n
  get_same Strategy.ReadWrite h k n = refl
  get_same _ h k n = refl

  put_same : (g : Strategy) (h : Journal) (k : Key) (r : Row) (n f : ℕ) → put_reply g s h k r n f ≡ put_reply g t h k r n f
  put_same Strategy.ReadWrite h k r n f = refl
  put_same _ h k r n f = refl

  insert_same : (g : Strategy) (h : Journal) (k : Key) (f : ℕ) → insert_reply g s h k f ≡ insert_reply g t h k f
  insert_same Strategy.ReadWrite h k f = refl
  insert_same _ h k f = refl

  evict_same : (g : Strategy) (h : Journal) (k : Key) → evict_reply g s h k ≡ evict_reply g t h k
  evict_same Strategy.ReadWrite h k = refl
  evict_same _ h k = refl

  reply_same : (cs : List Change) (rows : Tables) (h : Journal) (n now : ℕ) (a : Act) → reply_by s cs rows h n now a ≡ reply_by t cs rows h n now a
  reply_same cs rows h n now (Act.Get k u) = get_same (strategy s k.entity) h k u
  reply_same cs rows h n now (Act.Put k r u f) = put_same (strategy s k.entity) h k r u f
  reply_same cs rows h n now (Act.AfterInsert k r f) = insert_same (strategy s k.entity) h k f
  reply_same cs rows h n now (Act.Evict k) = evict_same (strategy s k.entity) h k
  reply_same cs rows h n now _ = refl

  -- ---- steps
  none_if : (b : Bool) (x y : Option Act) → ((a : Act) → x ≡ Some a → y ≡ Some a) → (a : Act) → cond b None x ≡ Some a → cond b None y ≡ Some a
  none_if true x y f a p = p
  none_if false x y f a p = f a p

  due_longer : AreLonger s.sessions ds → (h : Journal) (n : Option ℕ) (b a : Act) → due_by s h n b ≡ Some a → due_by t h n b ≡ Some a
  due_longer l h None b a p = p
  due_longer l h (Some n) b a p = none_if (was_killed n h) (next s n (own n h)) (next t n (own n h)) (λ c q. next_longer s rows ds os n (own n h) c l q) a p

  -- an act that is due is one, and the same one is due in the script that has grown
  some_due : (x y : Option Act) → ((a : Act) → x ≡ Some a → y ≡ Some a) → IsSome x → x ≡ y
  some_due None y f i = absurd (false≢true i)
  some_due (Some a) y f i = sym (f a refl)

  may_same : (h : Journal) (o : Option Act) → may_come s h o ≡ may_come t h o
  may_same h (Some (Act.Kill n)) = refl
  may_same h (Some (Act.Evict k)) = refl
  may_same h (Some _) = refl
  may_same h None = refl

  step_longer : AreLonger s.sessions ds → (told : Option Tables) (h : Journal) (e : Entry) → IsStep s told h e → IsStep t told h e
  step_longer l told h e step =
      let same_due : due s h e ≡ due t h e = some_due (due s h e) (due t h e) (λ a p. due_longer l h e.session e.act a p) step.session in
      let n : ℕ = unwrap_or e.session 0 in
      let replies : (λ (start : Tables). reply_of s start h n e.tick e.act) ≡ (λ (start : Tables). reply_of t start h n e.tick e.act) =
      λ i (start : Tables). reply_same (changes n h) (committed start h) h n e.tick e.act i in
      record {
        tick = step.tick;
        session = subst (λ o. IsSome o) same_due step.session;
        part = subst (λ o. option_map (λ a. part_of a n) o ≡ Some e.part) same_due step.part;
        act = subst (λ o. may_come t h o ≡ Some e.act) same_due (sym (may_same h (due s h e)) ∙ step.act);
        reply = subst (λ f. IsReplyBy told (changes n h) f e) replies step.reply;
      }

  pub legal_longer : AreLonger s.sessions ds → (told : Option Tables) (es : Journal) → IsLegal s told es → IsLegal t told es
  legal_longer l told [] legal = tt
  legal_longer l told (e ∷ h) legal = (legal_longer l told h legal.0, step_longer l told h e legal.1)

-- a script that has grown is the other one with longer sessions, and with other rows and another schedule
pub is_with : (s t : Script) → HasGrown s t → with_rest s t.rows t.sessions t.schedule ≡ t
is_with s t g = λ i. record {
  timeout = g.timeout i;
  results = g.results i;
  mapping = g.mapping i;
  rows = t.rows;
  queries = g.queries i;
  sessions = t.sessions;
  schedule = t.schedule;
}

pub legal : (s t : Script) → HasGrown s t → (told : Option Tables) (es : Journal) → IsLegal s told es → IsLegal t told es
legal s t g told es l = subst (λ x. IsLegal x told es) (is_with s t g) (legal_longer s t.rows t.sessions t.schedule g.sessions told es l)
