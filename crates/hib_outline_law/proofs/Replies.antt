-- Scripts that differ in places in memory alone give the same replies, and the same journals are legal for them.
use Rattle.std.proofs.Common.{◌≡◌, ℕ, cond, List, [], ◌∷◌, map, Option, Some, None, option_map, IsSome, refl, ap, subst, ◌∙◌, sym}
use Rattle.std.specs.Prelude.{slice_get, unwrap_or}
use Rattle.std.specs.Option.{option_map_or}
use Rattle.hib_base.specs.Queries.{said}
use Rattle.hib_base.specs.Tables.{Tables, after_changes}
use Rattle.hib_journal.specs.Types.{Key, Row, Change, Strategy, Query, Script, Act, Reply, Entry}
use Rattle.hib_journal.specs.Sessions.{Journal, own, changes, committed, was_killed}
use Rattle.hib_journal.specs.Results.{dropped}
use Rattle.hib_journal.specs.Stamps.{check}
use Rattle.hib_journal.specs.Query.{gives}
use Rattle.hib_journal.specs.Next.{strategy}
use Rattle.hib_journal.specs.Legal.{get_reply, put_reply, insert_reply, evict_reply, reply_by, reply_of, IsReplyBy, part_of, due_by, due, may_come, IsStep, IsLegal}
use Rattle.hib_outline_law.proofs.Queries.{with_queries, tables_same, got_same, as_many, gives_same}
use Rattle.hib_outline_law.proofs.Acts.{next_same}

module _ (s : Script) (qs : List Query) (same : map said s.queries ≡ map said qs) where
  abbrev t : Script
  t = with_queries s qs

  -- ---- replies
  get_same : (g : Strategy) (h : Journal) (k : Key) (n : ℕ) → get_reply g s h k n ≡ get_reply g t h k n
  get_same Strategy.ReadWrite h k n = refl
  get_same _ h k n = refl

  put_same : (g : Strategy) (h : Journal) (k : Key) (r : Row) (n f : ℕ) → put_reply g s h k r n f ≡ put_reply g t h k r n f
  put_same Strategy.ReadWrite h k r n f = refl
  put_same _ h k r n f = refl

  insert_same : (g : Strategy) (h : Journal) (k : Key) (f : ℕ) → insert_reply g s h k f ≡ insert_reply g t h k f
  insert_same Strategy.ReadWrite h k f = refl
  insert_same _ h k f = refl

  evict_same : (g : Strategy) (h : Journal) (k : Key) → evict_reply g s h k ≡ evict_reply g t h k
  evict_same Strategy.ReadWrite h k = refl
  evict_same _ h k = refl

  listed_same : (cs : List Change) (rows : Tables) (q : ℕ)
      → option_map_or (λ d. Reply.Listed (gives d (after_changes cs rows))) (slice_get s.queries q) Reply.Fault ≡ option_map_or (λ d. Reply.Listed (gives d (after_changes cs rows))) (slice_get qs q) Reply.Fault
  listed_same cs rows q =
      got_same (λ o. option_map_or (λ d. Reply.Listed (gives d (after_changes cs rows))) o Reply.Fault) (λ p r e. ap (λ l. Reply.Listed l) (gives_same p r e (after_changes cs rows))) s.queries qs q same

  reply_same : (cs : List Change) (rows : Tables) (h : Journal) (n now : ℕ) (a : Act) → reply_by s cs rows h n now a ≡ reply_by t cs rows h n now a
  reply_same cs rows h n now (Act.List q) = listed_same cs rows q
  reply_same cs rows h n now (Act.Check q u) = ap (λ ts. Reply.Check (check s.timeout u ts h)) (tables_same s qs same q)
  reply_same cs rows h n now (Act.Keep q u l) = ap (λ m. Reply.Kept (dropped s.results m q h)) (as_many s.queries qs same)
  reply_same cs rows h n now (Act.Get k u) = get_same (strategy s k.entity) h k u
  reply_same cs rows h n now (Act.Put k r u f) = put_same (strategy s k.entity) h k r u f
  reply_same cs rows h n now (Act.AfterInsert k r f) = insert_same (strategy s k.entity) h k f
  reply_same cs rows h n now (Act.Evict k) = evict_same (strategy s k.entity) h k
  reply_same cs rows h n now _ = refl

  -- ---- steps
  due_same : (h : Journal) (n : Option ℕ) (a : Act) → due_by s h n a ≡ due_by t h n a
  due_same h None a = refl
  due_same h (Some n) a = ap (λ o. cond (was_killed n h) None o) (next_same s qs same n (own n h))

  may_same : (h : Journal) (o : Option Act) → may_come s h o ≡ may_come t h o
  may_same h (Some (Act.Kill n)) = refl
  may_same h (Some (Act.Evict k)) = refl
  may_same h (Some _) = refl
  may_same h None = refl

  step_same : (told : Option Tables) (h : Journal) (e : Entry) → IsStep s told h e → IsStep t told h e
  step_same told h e step =
      let same_due : due s h e ≡ due t h e = due_same h e.session e.act in
      let n : ℕ = unwrap_or e.session 0 in
      let replies : (λ (start : Tables). reply_of s start h n e.tick e.act) ≡ (λ (start : Tables). reply_of t start h n e.tick e.act) =
      λ i (start : Tables). reply_same (changes n h) (committed start h) h n e.tick e.act i in
      record {
        tick = step.tick;
        session = subst (λ o. IsSome o) same_due step.session;
        part = subst (λ o. option_map (λ a. part_of a n) o ≡ Some e.part) same_due step.part;
        act = subst (λ o. may_come t h o ≡ Some e.act) same_due (sym (may_same h (due s h e)) ∙ step.act);
        reply = subst (λ f. IsReplyBy told (changes n h) f e) replies step.reply;
      }

  pub legal_same : (told : Option Tables) (es : Journal) → IsLegal s told es → IsLegal t told es
  legal_same told [] legal = tt
  legal_same told (e ∷ h) legal = (legal_same told h legal.0, step_same told h e legal.1)
