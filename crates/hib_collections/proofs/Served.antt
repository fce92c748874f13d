-- A run with collections goes on: with one entry more its journal is legal, and its engines, regions and sessions stand for it.
use Rattle.std.specs.Prelude.{is_some}
use Rattle.std.proofs.Common.{◌≡◌, ℕ, ◌+◌, ◌<◌, ◌≤◌, ◌^◌, Bool, true, false, cond, List, ◌∷◌, length, Some, None, Option, refl, ap, sym, ◌∙◌, subst, arith}
use Rattle.std.proofs.lemmas.Bool.{true≢false, false≢true}
use Rattle.hib_base.specs.Tables.{Tables}
use Rattle.hib_journal.specs.Types.{Cell, Row, Script, Part, Act, Reply, Entry}
use Rattle.hib_journal.specs.Sessions.{Journal, own, same_part, was_killed}
use Rattle.hib_journal.specs.Next.{next}
use Rattle.hib_journal.specs.Legal.{part_of, is_outside}
use Rattle.hib_journal.specs.Lists.{entry_at}
use Rattle.hib_journal.specs.Runs.{fault_count, is_fault}
use Rattle.hib_journal.proofs.Open.{killed_same}
use Rattle.hib_law.proofs.Basics.{none_some, some_same}
use Rattle.hib_session.specs.Session.{Follows, IsTaken, number_of, own_reply}
use Rattle.hib_engines.specs.declared.region.Region.{Region}
use Rattle.hib_engines.specs.Engines.{EnginesState, AreStanding, IsReady, IsRefused, IsTold}
use Rattle.hib_engines.specs.Origin.{Origin}
use Rattle.hib_engines.specs.Stays.{ListsLeave}
use Rattle.hib_engines.proofs.Bridge.{own_self, self_by}
use Rattle.hib_engines.proofs.Rose.{rose_more, rose_if}
use Rattle.hib_collections_law.specs.declared.entries.Def.{Def}
use Rattle.hib_collections_law.specs.declared.entries.MemberAct.{MemberAct}
use Rattle.hib_collections_law.specs.declared.entries.MemberEntry.{MemberEntry}
use Rattle.hib_collections_law.specs.declared.entries.GatherEntry.{GatherEntry}
use Rattle.hib_collections_law.specs.Types.{Gathered}
use Rattle.hib_collections_law.specs.Gathered
use Rattle.hib_collections_law.specs.Gathered.{Due, Held, due_in, hit_in, listed, listed_by, locks_after, mine, missed, plain, unless_begun}
use Rattle.hib_collections_law.proofs.Apart.{are_plain}
use Rattle.hib_collections_law.proofs.Dues.{Cause, after_member}
use Rattle.hib_collections.specs.declared.members.Gatherer.{Gatherer}
use Rattle.hib_collections.specs.declared.turns.Turned.{Turned}
use Rattle.hib_collections.specs.Gatherers.{IsGatherer}
use Rattle.hib_collections.specs.Notes.{AreNoted, listed_from, locks_with}
use Rattle.hib_collections.specs.Run.{IsAnsweredAt, IsRun, IsTurn, Serves, list_of_hit}
use Rattle.hib_collections.proofs.Entries.{plain_member, plain_hit, mine_self}

-- the list that is noted is the one that was listed
listed_same : (a : Act) (r : Reply) (m : Gathered) → listed_from (missed m) a r ≡ listed_by a r m
listed_same (Act.List q) (Reply.Listed l) m = refl
listed_same (Act.List q) _ m = refl
listed_same _ r m = refl

-- a Get that answers no list is no Hit
pub get_miss : (t : ℕ) (r : Reply) → list_of_hit r ≡ None → hit_in (MemberAct.Get t) r ≡ None
get_miss t (Reply.Hit d) e = none_some (sym e)
get_miss t _ e = refl

-- the locks that are noted are those with the one that was answered
pub lock_same : (m : MemberEntry) (f : ℕ) (r : Reply) (hs : List Held) → locks_with (m.collection, m.owner) r hs ≡ locks_after m (MemberAct.Lock f) r hs
lock_same m f (Reply.Locked l) hs = refl
lock_same m f _ hs = refl

pub entry_is : (now n s c o : ℕ) (a b : MemberAct) (r : Reply) (e : MemberEntry) → e ≡ record { tick = now; session = n; collection = c; owner = o; act = a; reply = r } → n ≡ s → a ≡ b →
    e ≡ record { tick = now; session = s; collection = c; owner = o; act = b; reply = r }
entry_is now n s c o a b r e q d p =
    q ∙ (ap (λ z. record { tick = now; session = z; collection = c; owner = o; act = a; reply = r }) d
    ∙ ap (λ z. record { tick = now; session = s; collection = c; owner = o; act = z; reply = r }) p)

pub plain_is : (t n s : ℕ) (a : Act) (r : Reply) (p : Part) → n ≡ s → p ≡ part_of a n →
    ◌≡◌ {A = Entry} (record { tick = t; session = Some n; part = p; act = a; reply = r }) (entry_at t (Some s) a r)
plain_is t n s a r p d q =
    ap (λ v. record { tick = t; session = Some n; part = v; act = a; reply = r }) q ∙ ap (λ m. record { tick = t; session = Some m; part = part_of a m; act = a; reply = r }) d

pub brings_so : (b : Bool) → (b ≡ false → ⊥) → b ≡ true
brings_so true f = refl
brings_so false f = absurd (f refl)

pub taken_at : (script : Script) (g : Gathered) (u : Gatherer) (a : Act) (r : Reply) (now : ℕ) → IsTurn script g u a →
    ((q : Reply) → own_reply script (own (number_of u.session) (plain script g)) a ≡ Some q → r ≡ q) →
    IsTaken script (number_of u.session) (own (number_of u.session) (plain script g)) (entry_at now (Some (number_of u.session)) a r)
taken_at script g u a r now t f = record { due = t.next; own = f }

pub some_of : {A : Type 0} (o : Option A) → is_some o ≡ true → (x : A) × (o ≡ Some x)
some_of None e = absurd (false≢true e)
some_of (Some x) e = (x, refl)

module _ (script : Script) (defs : List Def) (from : Origin) (g : Gathered) (x : EnginesState) (rs : List Region) where
  abbrev P : Journal
  P = plain script g

  -- what the engines want to know of an act that is due
  pub ready_at : (u : Gatherer) (a : Act) (now : ℕ) → IsRun script defs from g x rs → IsTurn script g u a → now ≡ length g + 1 → IsReady script from.tables P (number_of u.session) now a x
  ready_at u a now run t e = record {
    standing = run.engines;
    live = run.live (number_of u.session);
    late = omega (arith, (are_plain script defs from.tables g run.gathered).below (λ d. same_part (part_of a (number_of u.session)) d.part), e);
    due = t.due;
  }

  -- what they leave of such an act if they refuse it, by the script that was handed in
  pub refused_at : (told : Script) (u : Gatherer) (a : Act) (now : ℕ) (y : EnginesState) → told ≡ script →
      ((o : Option Tables) (h : Journal) → IsReady told o h (number_of u.session) now a x → IsRefused h (number_of u.session) a x y) →
      IsRun script defs from g x rs → IsTurn script g u a → now ≡ length g + 1 → IsRefused P (number_of u.session) a x y
  refused_at told u a now y q f run t e =
      subst (λ (z : Script). (o : Option Tables) (h : Journal) → IsReady z o h (number_of u.session) now a x → IsRefused h (number_of u.session) a x y) q f from.tables P (ready_at u a now run t e)

  module _ (s : ℕ) (y : EnginesState) (u v : Gatherer) where
    -- an act of the plan was answered, and its session and the notes have taken it
    pub plain_serves : (a : Act) (r : Reply) (now : ℕ) (e : Entry) (new : Gathered) (ls : Option ((ℕ × ℕ) × List Cell)) → s ≡ number_of u.session → now ≡ length g + 1 → length g + 1 < 2 ^ 62 →
        IsTold script from.tables P s now a r x y → x.store.faults ≤ y.store.faults → e ≡ entry_at now (Some s) a r → number_of v.session ≡ s →
        ((m : Journal) → Follows script u.session m → IsTaken script s m e → Follows script v.session (e ∷ m)) →
        v.notes.locks ≡ unless_begun a u.notes.locks → v.notes.missed ≡ None → v.notes.listed ≡ ls → ls ≡ listed_from u.notes.missed a r → new ≡ GatherEntry.Plain e ∷ g →
        IsRun script defs from g x rs → IsTurn script g u a → Gathered.due script defs s g ≡ Some (Due.Plain a) → Serves script defs from s g new x y rs v Turned.Did
    plain_serves a r now e new ls n t few told later q d f locks miss list from_list grown run turn due =
        subst (λ (z : Gathered). Serves script defs from s g z x y rs v Turned.Did) (sym (grown ∙ ap (λ (z : Entry). GatherEntry.Plain z ∷ g) q)) serves
      where
        E : Entry
        E = entry_at now (Some s) a r

        G : Gathered
        G = GatherEntry.Plain E ∷ g

        at : IsGatherer script g s u
        at = subst (λ z. IsGatherer script g z u) (sym n) turn.member

        inside : is_outside a ≡ false
        inside = turn.due.inside

        next_is : next script s (own s P) ≡ Some a
        next_is = subst (λ z. due_in script z P ≡ Some a) (sym n) turn.next

        taken : IsTaken script s (own s P) E
        taken = record { due = next_is; own = told.mine }

        follows : Follows script v.session (own s (E ∷ P))
        follows = subst (λ m. Follows script v.session m) (sym (own_self P s now a r))
            (subst (λ (z : Entry). (m : Journal) → Follows script u.session m → IsTaken script s m z → Follows script v.session (z ∷ m)) q f (own s P) at.follows taken)

        noted : AreNoted v.notes (GatherEntry.Plain E ∷ mine s g)
        noted = record {
          locks = locks ∙ ap (unless_begun a) at.noted.locks;
          missed = miss;
          listed = list ∙ (from_list ∙ (ap (λ o. listed_from o a r) at.noted.missed ∙ listed_same a r (mine s g)));
        }

        serves : Serves script defs from s g G x y rs v Turned.Did
        serves = record {
          entry = GatherEntry.Plain E;
          grown = refl;
          by = self_by s;
          due = ap is_some due;
          some = refl;
          run = record {
            gathered = (run.gathered, record { session = s; by = refl; tick = omega (arith, t); due = due; part = refl; reply = told.answered.reply });
            few = omega (arith, few);
            live = λ i. killed_same i E P inside ∙ run.live i;
            engines = told.answered.standing;
            regions = run.regions;
            faults = rose_more from.faults (fault_count P) x.store.faults (cond (is_fault r) 1 0) y.store.faults run.faults (rose_if r x.store.faults y.store.faults later told.fault);
            ordered = run.ordered;
            built = run.built;
            set = run.set;
          };
          member = record {
            number = d;
            follows = follows;
            noted = subst (λ m. AreNoted v.notes m) (sym (mine_self script g s (GatherEntry.Plain E) (self_by s))) noted;
          };
          asked = told.asked;
          fault = told.fault;
          told = refl;
        }

    -- an act at a region was answered by no Hit: nothing else has changed
    pub member_serves : (now : ℕ) (p : ℕ × ℕ) (z : MemberAct) (r : Reply) (new : Gathered) (qs : List Region) → now ≡ length g + 1 → length g + 1 < 2 ^ 62 →
        IsAnsweredAt script defs g s now p z r qs → hit_in z r ≡ None → is_fault r ≡ false →
        new ≡ GatherEntry.Member (record { tick = now; session = s; collection = p.0; owner = p.1; act = z; reply = r }) ∷ g → number_of v.session ≡ s →
        ((m : Journal) → Follows script u.session m → Follows script v.session m) →
        AreNoted v.notes (GatherEntry.Member (record { tick = now; session = s; collection = p.0; owner = p.1; act = z; reply = r }) ∷ mine s g) →
        IsRun script defs from g x rs → IsGatherer script g s u → Gathered.due script defs s g ≡ Some (Due.Member p z) → Serves script defs from s g new x x qs v Turned.Did
    member_serves now p z r new qs t few answer miss calm grown d f noted run at due =
        subst (λ (j : Gathered). Serves script defs from s g j x x qs v Turned.Did) (sym grown) serves
      where
        M : MemberEntry
        M = record { tick = now; session = s; collection = p.0; owner = p.1; act = z; reply = r }

        G : Gathered
        G = GatherEntry.Member M ∷ g

        same : plain script G ≡ P
        same = plain_member script g M miss

        serves : Serves script defs from s g G x x qs v Turned.Did
        serves = record {
          entry = GatherEntry.Member M;
          grown = refl;
          by = self_by s;
          due = ap is_some due;
          some = refl;
          run = record {
            gathered = (run.gathered, record { tick = omega (arith, t); due = due; reply = answer.reply });
            few = omega (arith, few);
            live = λ i. ap (was_killed i) same ∙ run.live i;
            engines = subst (λ h. AreStanding script from.tables h x) (sym same) run.engines;
            regions = answer.regions;
            faults = subst (λ h. Rattle.hib_engines.specs.Counts.RoseBy from.faults (fault_count h) x.store.faults) (sym same) run.faults;
            ordered = run.ordered;
            built = run.built;
            set = run.set;
          };
          member = record {
            number = d;
            follows = subst (λ h. Follows script v.session (own s h)) (sym same) (f (own s P) at.follows);
            noted = subst (λ m. AreNoted v.notes m) (sym (mine_self script g s (GatherEntry.Member M) (self_by s))) noted;
          };
          asked = record { later = omega arith; few = omega arith };
          fault = λ e. absurd (true≢false (sym e ∙ calm));
          told = same;
        }

    -- members were answered by a Hit, and its session has taken them as the list that was due
    pub hit_serves : ListsLeave → (now : ℕ) (p : ℕ × ℕ) (k : ℕ) (a : Act) (r : Reply) (l : List Cell) (e : Entry) (new : Gathered) (qs : List Region) → s ≡ number_of u.session → now ≡ length g + 1 →
        length g + 1 < 2 ^ 62 → IsAnsweredAt script defs g s now p (MemberAct.Get k) r qs → list_of_hit r ≡ Some l → e ≡ entry_at now (Some s) a (Reply.Listed l) →
        new ≡ GatherEntry.Member (record { tick = now; session = s; collection = p.0; owner = p.1; act = MemberAct.Get k; reply = r }) ∷ g → number_of v.session ≡ s →
        ((m : Journal) → Follows script u.session m → IsTaken script s m e → Follows script v.session (e ∷ m)) →
        v.notes.locks ≡ u.notes.locks → v.notes.missed ≡ None → v.notes.listed ≡ None →
        IsRun script defs from g x rs → IsTurn script g u a → Gathered.due script defs s g ≡ Some (Due.Member p (MemberAct.Get k)) → Serves script defs from s g new x x qs v (Turned.Hit e)
    hit_serves law now p k a r l e new qs n t few answer hit q grown d f locks miss list run turn due =
        subst (λ (j : Gathered). Serves script defs from s g j x x qs v (Turned.Hit e)) (sym grown)
        (subst (λ (z : Entry). Serves script defs from s g G x x qs v (Turned.Hit z)) (sym q) (serves (kind r hit)))
      where
        M : MemberEntry
        M = record { tick = now; session = s; collection = p.0; owner = p.1; act = MemberAct.Get k; reply = r }

        G : Gathered
        G = GatherEntry.Member M ∷ g

        E : Entry
        E = entry_at now (Some s) a (Reply.Listed l)

        at : IsGatherer script g s u
        at = subst (λ z. IsGatherer script g z u) (sym n) turn.member

        next_is : due_in script s P ≡ Some a
        next_is = subst (λ z. due_in script z P ≡ Some a) (sym n) turn.next

        -- what is due is a list
        query : (i : ℕ) × (a ≡ Act.List i)
        query = by_cause (after_member script defs (own s P) (mine s g) (listed (mine s g)) (due_in script s P) p (MemberAct.Get k) due)
          where
            no_get : {A : Type 0} {j : ℕ} {c : List Cell} {i o : ℕ} → MemberAct.Get j ≡ MemberAct.Put c i o → A
            no_get b = absurd (no b)
              where
                no : {j : ℕ} {c : List Cell} {i o : ℕ} → MemberAct.Get j ≡ MemberAct.Put c i o → ⊥
                no b = cc

            no_lock : {A : Type 0} {j o : ℕ} → MemberAct.Get j ≡ MemberAct.Lock o → A
            no_lock b = absurd (no b)
              where
                no : {j o : ℕ} → MemberAct.Get j ≡ MemberAct.Lock o → ⊥
                no b = cc

            no_unlock : {A : Type 0} {j o : ℕ} → MemberAct.Get j ≡ MemberAct.Unlock o → A
            no_unlock b = absurd (no b)
              where
                no : {j o : ℕ} → MemberAct.Get j ≡ MemberAct.Unlock o → ⊥
                no b = cc

            by_cause : Cause script defs (own s P) (mine s g) (listed (mine s g)) (due_in script s P) p (MemberAct.Get k) → (i : ℕ) × (a ≡ Act.List i)
            by_cause (Cause.Puts c b z) = no_get z
            by_cause (Cause.Gets i b z w c o) = (i, some_same (sym next_is ∙ b))
            by_cause (Cause.Locks c b z w) = no_lock w
            by_cause (Cause.Unlocks h hs b z w c) = no_unlock c

        ready : IsReady script from.tables P s now (Act.List query.0) x
        ready = subst (λ z. IsReady script from.tables P s now z x) query.1
            (subst (λ i. IsReady script from.tables P i now a x) (sym n) (ready_at u a now run turn t))

        standing : AreStanding script from.tables (E ∷ P) x
        standing = subst (λ z. AreStanding script from.tables (entry_at now (Some s) z (Reply.Listed l) ∷ P) x) (sym query.1)
            (law script from.tables P s now query.0 (Reply.Listed l) x ready)

        taken : IsTaken script s (own s P) E
        taken = record { due = next_is; own = λ o b. none_some (sym (ap (λ z. own_reply script (own s P) z) query.1) ∙ b) }

        follows : Follows script v.session (own s (E ∷ P))
        follows = subst (λ m. Follows script v.session m) (sym (own_self P s now a (Reply.Listed l)))
            (subst (λ (z : Entry). (m : Journal) → Follows script u.session m → IsTaken script s m z → Follows script v.session (z ∷ m)) q f (own s P) at.follows taken)

        kind : (r : Reply) → list_of_hit r ≡ Some l → (d : Row) × (r ≡ Reply.Hit d) × (d.cells ≡ l)
        kind (Reply.Hit d) b = (d, refl, some_same b)
        kind _ b = none_some b

        serves : (d : Row) × (r ≡ Reply.Hit d) × (d.cells ≡ l) → Serves script defs from s g G x x qs v (Turned.Hit E)
        serves (d', is, cells) = record {
          entry = GatherEntry.Member M;
          grown = refl;
          by = self_by s;
          due = ap is_some due;
          some = refl;
          run = record {
            gathered = (run.gathered, record { tick = omega (arith, t); due = due; reply = answer.reply });
            few = omega (arith, few);
            live = λ i. ap (was_killed i) same ∙ (killed_same i E P turn.due.inside ∙ run.live i);
            engines = subst (λ h. AreStanding script from.tables h x) (sym same) standing;
            regions = answer.regions;
            faults = subst (λ h. Rattle.hib_engines.specs.Counts.RoseBy from.faults (fault_count h) x.store.faults) (sym same) (omega (arith, run.faults));
            ordered = run.ordered;
            built = run.built;
            set = run.set;
          };
          member = record {
            number = d;
            follows = subst (λ h. Follows script v.session (own s h)) (sym same) follows;
            noted = subst (λ m. AreNoted v.notes m) (sym (mine_self script g s (GatherEntry.Member M) (self_by s))) (record {
              locks = locks ∙ at.noted.locks;
              missed = miss ∙ sym (ap (λ o. cond (Rattle.hib_collections_law.specs.Gathered.is_miss o) (Some p) None) is);
              listed = list;
            });
          };
          asked = record { later = omega arith; few = omega arith };
          fault = λ e. absurd (false≢true (sym (ap is_fault is) ∙ e));
          told = same;
        }
          where
            same : plain script G ≡ E ∷ P
            same = plain_hit script g M l a (ap (λ o. hit_in (MemberAct.Get k) o) is ∙ ap Some cells) next_is
