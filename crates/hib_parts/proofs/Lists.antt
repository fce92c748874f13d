-- The list of a session and that of a part, with one entry more.
use Rattle.std.proofs.Common.{◌≡◌, ◌<◌, ◌≤◌, ◌^◌, ℕ, true, false, cond, [], ◌∷◌, Some, Option, refl, sym, ap, ◌∙◌, subst, arith}
use Rattle.std.proofs.lemmas.Bool.{false≢true}
use Rattle.hib_base.specs.Tables.{Tables}
use Rattle.hib_journal.specs.Types.{Script, Act, Part, Entry}
use Rattle.hib_journal.specs.Sessions.{Journal, own, last_tick, same_part}
use Rattle.hib_journal.specs.Plan.{InOrder}
use Rattle.hib_journal.specs.Next.{plan_of, next}
use Rattle.hib_journal.specs.Legal.{reply_of}
use Rattle.hib_journal.specs.Lists.{IsLate, IsStoreReply, of_part}
use Rattle.hib_journal.specs.Due.{IsAllowed}
use Rattle.hib_journal.proofs.Due.{allowed_due}
use Rattle.hib_journal.proofs.Steps.{next_is}
use Rattle.hib_session.specs.Session.{IsTaken, own_reply}
use Rattle.hib_split_law.specs.Apart.{is_of_session, IsOwnLegal}
use Rattle.hib_split_law.proofs.Apart.{by_self, same_self}
use Rattle.hib_parts.specs.Listed.{AreOf, AreBy, last_of, IsPartList, IsOwnList, IsDueEntry}

-- the entries of a session's list are its own
pub own_all : (s : ℕ) (m : Journal) → AreBy s m → own s m ≡ m
own_all s [] b = refl
own_all s (e ∷ m) b = rw (by_self e s b.1) (ap (λ k. e ∷ k) (own_all s m b.0))

own_due : (script : Script) (m : Journal) (s now : ℕ) (a : Act) → is_of_session a ≡ true → own_reply script (own s m) a ≡ Some (reply_of script [] m s now a)
own_due script m s now Act.End o = refl
own_due script m s now (Act.Find k) o = refl
own_due script m s now (Act.Persist k r) o = refl
own_due script m s now (Act.Set k cells) o = refl
own_due script m s now (Act.Remove k) o = refl
own_due script m s now Act.Clear o = refl
own_due script m s now _ o = absurd (false≢true o)

pub own_more : (script : Script) (s : ℕ) (m : Journal) (last : ℕ) (e : Entry) → IsOwnList script s m last → IsDueEntry script s m e → IsOwnList script s (e ∷ m) e.tick
own_more script s m last e k d = record {
  legal = (
    k.legal,
    record {
      tick = d.later;
      act = d.due;
      part = d.part;
      reply = λ o. d.own (reply_of script [] m s e.tick e.act) (subst (λ j. own_reply script j e.act ≡ Some (reply_of script [] m s e.tick e.act)) (own_all s m k.by_session) (own_due script m s e.tick e.act o));
    },
  );
  by_session = (k.by_session, d.session);
  newest = refl;
  bounded = d.bounded;
}

pub taken : (script : Script) (s : ℕ) (m : Journal) (e : Entry) → IsDueEntry script s m e → IsTaken script s m e
taken script s m e d = record { due = d.due; own = d.own }

-- the entries of a session are the acts of its plan, in order
pub in_order : (script : Script) (s : ℕ) (m : Journal) → IsOwnLegal script s m → InOrder (plan_of script s) m
in_order script s [] l = tt
in_order script s (e ∷ m) l = (in_order script s m l.0, next_is script s m e.act l.1.act)

-- what is known of the act that is due
pub allowed : (script : Script) (s : ℕ) (m : Journal) (last : ℕ) (a : Act) → IsOwnList script s m last → next script s m ≡ Some a → IsAllowed script s m a
allowed script s m last a k n = allowed_due script s m a (in_order script s m k.legal) n

-- a part's list

pub last_in : (p : Part) (l : Journal) → AreOf p l → last_tick (λ d. same_part p d.part) l ≡ last_of l
last_in p [] o = refl
last_in p (e ∷ l) o = ap (λ b. cond b e.tick (last_tick (λ d. same_part p d.part) l)) (ap (same_part p) o.1 ∙ same_self p)

pub late_in : (p : Part) (l : Journal) (now : ℕ) → AreOf p l → last_of l < now → IsLate p now l
late_in p l now o t = subst (λ n. n < now) (sym (last_in p l o)) t

pub part_more : (script : Script) (told : Option Tables) (p : Part) (l : Journal) (last : ℕ) (e : Entry) → IsPartList script told p l last → e.part ≡ p → last_of l < e.tick → e.tick ≤ 2 ^ 62 →
    (is_of_session e.act ≡ false → IsStoreReply script told l e) → IsPartList script told p (e ∷ l) e.tick
part_more script told p l last e k q t b r = record {
  legal = (k.legal, record { tick = t; reply = r });
  of_part = (k.of_part, q);
  newest = refl;
  bounded = b;
}

-- the entries of another part than the list's
pub none_of : (p q : Part) (l : Journal) → AreOf p l → same_part q p ≡ false → of_part q l ≡ []
none_of p q [] o d = refl
none_of p q (e ∷ l) o d = rw (ap (same_part q) o.1 ∙ d) (none_of p q l o.0 d)

-- and of the list's own
pub all_of : (p : Part) (l : Journal) → AreOf p l → of_part p l ≡ l
all_of p [] o = refl
all_of p (e ∷ l) o = rw (ap (same_part p) o.1 ∙ same_self p) (ap (λ k. e ∷ k) (all_of p l o.0))

pub part_begins : (script : Script) (told : Option Tables) (p : Part) (l : Journal) → l ≡ [] → IsPartList script told p l 0
part_begins script told p l e = subst (λ k. IsPartList script told p k 0) (sym e) (record { legal = tt; of_part = tt; newest = refl; bounded = omega arith })
