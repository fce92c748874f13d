-- The part of the store goes on: it stands for its list with one entry more, and its keeper's counts rise as the list says.
use Rattle.std.specs.Prelude.{cond, unwrap_or, slice_get, MatchOption}
use Rattle.std.proofs.Common.{◌≡◌, ◌⊎◌, ◌<◌, ◌≤◌, ◌+◌, ◌^◌, ℕ, Bool, true, false, List, [], ◌∷◌, Some, None, Option, refl, sym, ap, ◌∙◌, subst, arith, inl, inr}
use Rattle.std.proofs.lemmas.Bool.{true≢false, false≢true}
use Rattle.hib_base.specs.Tables.{Tables}
use Rattle.hib_base.proofs.Tables.{Tested, tested}
use Rattle.hib_journal.specs.Types.{Change, Commit, Entry, Script, Act, Reply, Part, Query}
use Rattle.hib_journal.specs.Sessions.{Journal, is_empty}
use Rattle.hib_journal.specs.Legal.{part_of, is_of_store}
use Rattle.hib_journal.specs.Lists.{entry_at, unsaved, IsStoreReply}
use Rattle.hib_journal.specs.Runs.{asks, is_fault, fault_count}
use Rattle.hib_outside.specs.Causes.{Rose}
use Rattle.hib_session.specs.Memory.{brings}
use Rattle.hib_store.specs.Stores.{StoreState, changes_of, IsListed}
use Rattle.hib_store.specs.declared.store.Listed.{Listed}
use Rattle.hib_engines.specs.Counts.{RoseBy, RoseWithin}
use Rattle.hib_engines.specs.Served.{is_for, HasQuery, reads}
use Rattle.hib_engines.specs.Store.{IsStored, IsStoreServed, IsCounted, changes_rows}
use Rattle.hib_split_law.specs.Apart.{store_ask_count}
use Rattle.hib_engines.specs.Built.{IsBuilt}
use Rattle.hib_engines.specs.Origin.{Origin}
use Rattle.hib_engines.proofs.Brought.{store_reads}
use Rattle.hib_engines.proofs.Stored.{list_served}
use Rattle.hib_engines.proofs.Rose.{rose_more, rose_on, rose_if}
use Rattle.hib_parts.specs.Copied.{is_small}
use Rattle.hib_parts.specs.Listed.{WorkerState, IsPartList, IsDueAct, IsDueEntry, IsDueOn, IsLater, IsKept}
use Rattle.hib_parts.specs.Stored.{IsKeeping, IsStartReply, IsStoreEntered}
use Rattle.hib_parts.proofs.Lists.{part_more}
use Rattle.hib_parts.proofs.Steps.{shared_fits, part_on, for_part, known}

-- the replies of the store that own no memory

abbrev pub SmallIf : Option Reply → Type 0
SmallIf None = Unit {0}
SmallIf (Some r) = is_small r ≡ true

answer_small : (q r : Reply) (f : Option Reply) → (r ≡ q) ⊎ (f ≡ Some r) → is_small q ≡ true → SmallIf f → is_small r ≡ true
answer_small q r f (inl e) p h = ap is_small e ∙ p
answer_small q r None (inr e) p h = absurd (none_some e)
  where
    none_some : ◌≡◌ {A = Option Reply} None (Some r) → ⊥
    none_some z = cc
answer_small q r (Some x) (inr e) p h = ap is_small (sym (same e)) ∙ h
  where
    same : Some x ≡ Some r → x ≡ r
    same z = cc

fault_small : (b : Bool) → SmallIf (cond b None (Some (Reply.Commit Commit.Fault)))
fault_small true = tt
fault_small false = refl

commit_small : (r : Reply) → is_of_store Act.Commit r ≡ true → is_small r ≡ true
commit_small (Reply.Commit c) p = refl
commit_small _ p = absurd (false≢true p)

pub store_small : (script : Script) (told : Option Tables) (l : Journal) (s now : ℕ) (a : Act) (r : Reply) → IsStoreReply script told l (entry_at now (Some s) a r) → is_for Part.Store a s ≡ true → brings a ≡ false → is_small r ≡ true
store_small script told l s now (Act.Load k) r v p b = absurd (true≢false b)
store_small script told l s now (Act.List q) r v p b = absurd (true≢false b)
store_small script None l s now (Act.Write c) r v p b = answer_small Reply.Written r None (v.1 refl) refl tt
store_small script (Some start) l s now (Act.Write c) r v p b = answer_small Reply.Written r None v refl tt
store_small script None l s now Act.Commit r v p b = commit_small r v.0
store_small script (Some start) l s now Act.Commit r v p b = answer_small _ r _ v refl (fault_small (is_empty (unsaved s l)))
store_small script None l s now Act.Rollback r v p b = answer_small Reply.Done r None (v.1 refl) refl tt
store_small script (Some start) l s now Act.Rollback r v p b = answer_small Reply.Done r None v refl tt
store_small script told l s now _ r v p b = absurd (false≢true p)

pub record StoreStep (script : Script) (told : Option Tables) (l : Journal) (x y : StoreState) (w : WorkerState) (a : Act) (now : ℕ) (r : Reply) : Type 0 where
  pub fits : IsDueEntry script w.number w.list (entry_at now (Some w.number) a r)
  pub part : part_of a w.number ≡ Part.Store
  pub reply : IsStoreReply script told l (entry_at now (Some w.number) a r)
  pub stands : IsStored told (entry_at now (Some w.number) a r ∷ l) y
  pub small : brings a ≡ false → is_small r ≡ true
  pub asked : RoseWithin x.asked (cond (asks (unsaved w.number l) a) 1 0) y.asked

pub store_step : (script : Script) (told : Option Tables) (l : Journal) (x y : StoreState) (w : WorkerState) (a : Act) (now : ℕ) (r : Reply) → IsStored told l x →
    IsDueOn script Part.Store w → IsDueAct script w a → IsLater now l w.list →
    (is_for Part.Store a w.number ≡ true → IsStoreServed script told l now w.number a r y) →
    RoseWithin x.asked (cond (asks (changes_of x w.number) a) 1 0) y.asked → StoreStep script told l x y w a now r
store_step script told l x y w a now r stands on d t f g =
    let q : part_of a w.number ≡ Part.Store = part_on script Part.Store w a on d in
    let here : is_for Part.Store a w.number ≡ true = for_part Part.Store a w.number q in
    let v : IsStoreServed script told l now w.number a r y = f here in
    record {
      fits = shared_fits script Part.Store w a l now r refl d q t;
      part = q;
      reply = v.reply;
      stands = v.stands;
      small = λ p. store_small script told l w.number now a r v.reply here p;
      asked = subst (λ cs. RoseWithin x.asked (cond (asks cs a) 1 0) y.asked) (stands.changes w.number) g;
    }

-- ---- whether the rows may have changed

-- what is known of the act that was made holds of that of the entry which was added
said_of : (l k : Journal) (n m now : ℕ) (a : Act) (r : Reply) (b : Bool) → k ≡ entry_at now (Some n) a r ∷ l → b ≡ changes_rows (unsaved m l) a →
    (e : Entry) → k ≡ e ∷ l → b ≡ changes_rows (unsaved m l) e.act
said_of l k n m now a r b q h e g = h ∙ ap (λ (x : Entry). changes_rows (unsaved m l) x.act) (head q g)
  where
    head : k ≡ entry_at now (Some n) a r ∷ l → k ≡ e ∷ l → entry_at now (Some n) a r ≡ e
    head u v = cc

pub may_change : (script : Script) (told : Option Tables) (l k : Journal) (n now : ℕ) (x : StoreState) (w v : WorkerState) (a : Act) (r : Reply) (b : Bool) → IsKept w v → n ≡ v.number → IsStored told l x →
    k ≡ entry_at now (Some w.number) a r ∷ l → b ≡ changes_rows (changes_of x n) a → (e : Entry) → k ≡ e ∷ l → b ≡ changes_rows (unsaved w.number l) e.act
may_change script told l k n now x w v a r b kept number stands q h =
    said_of l k w.number w.number now a r b q (h ∙ ap (λ cs. changes_rows cs a) (ap (changes_of x) (number ∙ kept.number) ∙ stands.changes w.number))

-- ---- a list over the rows at the start

start_served : (script : Script) (told : Option Tables) (l : Journal) (now s : ℕ) (a : Act) (r : Reply) (x : StoreState) → IsStored told l x → x.tables ≡ told → changes_of x s ≡ [] →
    IsStartReply script told a r → IsStoreServed script told l now s a r x
start_served script told l now s (Act.List q) (Reply.Listed cells) x k e c g = at (slice_get script.queries q) refl g
  where
    at : (o : Option Query) → slice_get script.queries q ≡ o → MatchOption o ⊥ (λ d. IsListed told [] d (Listed.List cells)) → IsStoreServed script told l now s (Act.List q) (Reply.Listed cells) x
    at None there h = absurd h
    at (Some d) there h = list_served script told l now s q d (Listed.List cells) x x k there
        (subst (λ t. IsListed t (changes_of x s) d (Listed.List cells)) (sym e) (subst (λ cs. IsListed told cs d (Listed.List cells)) (sym c) h)) refl refl
start_served script told l now s (Act.List q) r x k e c g = absurd g
start_served script told l now s a r x k e c g = absurd g

pub start_calm : (script : Script) (told : Option Tables) (a : Act) (r : Reply) → IsStartReply script told a r → is_fault r ≡ true → ⊥
start_calm script told (Act.List q) (Reply.Listed cells) g p = false≢true p
start_calm script told (Act.List q) r g p = absurd g
start_calm script told a r g p = absurd g

start_stays : (script : Script) (told : Option Tables) (a : Act) (r : Reply) (cs : List Change) → IsStartReply script told a r → changes_rows cs a ≡ false
start_stays script told (Act.List q) r cs g = refl
start_stays script told a r cs g = absurd g

within_same : (n : ℕ) (b : Bool) → RoseWithin n (cond b 1 0) n
within_same n true = record { later = omega arith; few = omega arith }
within_same n false = record { later = omega arith; few = omega arith }

pub start_keeps : (script : Script) (told : Option Tables) (l k : Journal) (n now : ℕ) (a : Act) (r : Reply) → k ≡ entry_at now (Some n) a r ∷ l → IsStartReply script told a r →
    (e : Entry) → k ≡ e ∷ l → false ≡ changes_rows (unsaved n l) e.act
start_keeps script told l k n now a r q g = said_of l k n n now a r false q (sym (start_stays script told a r (unsaved n l) g))

pub start_on : (script : Script) (told : Option Tables) (l : Journal) (n : ℕ) (x : StoreState) (w v : WorkerState) (a : Act) (now : ℕ) (r : Reply) → IsKept w v → n ≡ v.number →
    IsStored told l x → IsDueOn script Part.Store w → IsDueAct script w a → IsLater now l w.list → x.tables ≡ told → changes_of x n ≡ [] → IsStartReply script told a r →
    StoreStep script told l x x w a now r
start_on script told l n x w v a now r k e stands on d t same clean given =
    store_step script told l x x w a now r stands on d t
    (λ h. start_served script told l now w.number a r x stands same (subst (λ m. changes_of x m ≡ []) (e ∙ k.number) clean) given)
    (within_same x.asked (asks (changes_of x w.number) a))

-- ---- the part

within_more : (b n o m w : ℕ) → RoseWithin b n o → RoseWithin o m w → RoseWithin b (n + m) w
within_more b n o m w p q = record { later = omega (arith, p.later, q.later); few = omega (arith, p.few, q.few) }

pub keeping_more : (script : Script) (from : Origin) (now : ℕ) (l k : Journal) (x y : StoreState) (w v : WorkerState) (refused : Bool) → IsKeeping from l x refused → IsStoreEntered script from.tables now l k x y w v → IsKeeping from k y refused
keeping_more script from now l k x y w v refused h m = record {
  stands = m.stands;
  faults = subst (λ j. RoseBy from.faults (fault_count j) y.faults) (sym m.list)
      (rose_more from.faults (fault_count l) x.faults (cond (is_fault m.entry.reply) 1 0) y.faults h.faults (rose_if m.entry.reply x.faults y.faults m.faults m.fault));
  asked = λ u. subst (λ j. RoseWithin from.asked (store_ask_count j) y.asked) (sym m.list)
      (within_more from.asked (store_ask_count l) x.asked (cond (asks (unsaved (unwrap_or m.entry.session 0) l) m.entry.act) 1 0) y.asked (h.asked u) m.asked);
}

pub list_more : (script : Script) (told : Option Tables) (now : ℕ) (l k : Journal) (x y : StoreState) (w v : WorkerState) (last : ℕ) → IsPartList script told Part.Store l last → IsLater now l w.list → IsStoreEntered script told now l k x y w v →
    IsPartList script told Part.Store k now
list_more script told now l k x y w v last h t m = subst (λ j. IsPartList script told Part.Store j now) (sym m.list)
    (subst (λ n. IsPartList script told Part.Store (m.entry ∷ l) n) m.tick
    (part_more script told Part.Store l last m.entry h m.part (subst (λ n. Rattle.hib_parts.specs.Listed.last_of l < n) (sym m.tick) t.part) (subst (λ n. n ≤ 2 ^ 62) (sym m.tick) t.bounded) (λ o. m.reply)))

pub keeping_counted : (from : Origin) (l k : Journal) (x y : StoreState) (refused : Bool) → IsKeeping from l x refused → k ≡ l → IsCounted x y → IsKeeping from k y true
keeping_counted from l k x y refused h e c = record {
  stands = subst (λ j. IsStored from.tables j y) (sym e)
      (record { rows = c.tables ∙ h.stands.rows; changes = λ n. ap (λ z. Rattle.hib_store.specs.Stores.changes_in z n) c.written ∙ h.stands.changes n });
  faults = subst (λ j. RoseBy from.faults (fault_count j) y.faults) (sym e) (rose_on from.faults (fault_count l) x.faults y.faults h.faults c.faults);
  asked = λ u. absurd (true≢false u);
}

pub keeping_begins : (from : Origin) (l : Journal) (x : StoreState) → l ≡ [] → x.tables ≡ from.tables → from.faults ≤ x.faults → x.written ≡ [] → x.asked ≡ from.asked → IsKeeping from l x false
keeping_begins from l x e t f w a = subst (λ j. IsKeeping from j x false) (sym e) (record {
  stands = record { rows = t ∙ told_same from.tables; changes = λ n. ap (λ v. Rattle.hib_store.specs.Stores.changes_in v n) w };
  faults = omega (arith, f);
  asked = λ u. record { later = omega (arith, a); few = omega (arith, a) };
})
  where
    told_same : (told : Option Tables) → told ≡ Rattle.std.specs.Option.option_map (λ start. Rattle.hib_journal.specs.Lists.stored start []) told
    told_same None = refl
    told_same (Some start) = refl

pub store_on : (said script : Script) (told : Option Tables) (l : Journal) (n : ℕ) (x y : StoreState) (w v : WorkerState) (a : Act) (now : ℕ) (r : Reply) → said ≡ script → IsKept w v → n ≡ v.number → IsBuilt script →
    IsStored told l x → IsDueOn script Part.Store w → IsDueAct script w a → IsLater now l w.list →
    ((given : Option Tables) (j : Journal) (t : ℕ) → IsStored given j x → is_for Part.Store a n ≡ true → HasQuery said a → IsStoreServed said given j t n a r y) →
    RoseWithin x.asked (cond (asks (changes_of x n) a) 1 0) y.asked → StoreStep script told l x y w a now r
store_on said script told l n x y w v a now r q k e b stands on d t f g =
    let same : n ≡ w.number = e ∙ k.number in
    let served : (given : Option Tables) (j : Journal) (u : ℕ) → IsStored given j x → is_for Part.Store a w.number ≡ true → HasQuery script a → IsStoreServed script given j u w.number a r y =
    subst (λ m. (given : Option Tables) (j : Journal) (u : ℕ) → IsStored given j x → is_for Part.Store a m ≡ true → HasQuery script a → IsStoreServed script given j u m a r y) same
    (subst (λ (s : Script). (given : Option Tables) (j : Journal) (u : ℕ) → IsStored given j x → is_for Part.Store a n ≡ true → HasQuery s a → IsStoreServed s given j u n a r y) q f) in
    store_step script told l x y w a now r stands on d t
    (λ h. served told l now stands h (known script w a b d).query)
    (subst (λ m. RoseWithin x.asked (cond (asks (changes_of x m) a) 1 0) y.asked) same g)

pub store_entered : (script : Script) (told : Option Tables) (l new : Journal) (x y : StoreState) (w v : WorkerState) (a : Act) (now : ℕ) (r : Reply) → StoreStep script told l x y w a now r →
    new ≡ entry_at now (Some w.number) a r ∷ l → v.list ≡ entry_at now (Some w.number) a r ∷ w.list → v.left < w.left → x.faults ≤ y.faults → (is_fault r ≡ true → Rose x.faults y.faults) → IsStoreEntered script told now l new x y w v
store_entered script told l new x y w v a now r s e m less later fault = record {
  entry = entry_at now (Some w.number) a r;
  tick = refl;
  part = s.part;
  list = e;
  mine = m;
  less = less;
  reply = s.reply;
  stands = subst (λ j. IsStored told j y) (sym e) s.stands;
  asked = s.asked;
  faults = later;
  fault = fault;
}

pub store_left : (x y : StoreState) (a : Act) (s : ℕ) → part_of a s ≡ Part.Store → (reads a ≡ true → IsCounted x y) → (brings a ≡ false → ⊥) → IsCounted x y
store_left x y a s q f g = by_test (tested (brings a))
  where
    by_test : Tested (brings a) → IsCounted x y
    by_test (inl b) = f (store_reads a s q b)
    by_test (inr b) = absurd (g b)

-- the store has given its index away
pub keeping_same : (from : Origin) (l : Journal) (x y : StoreState) (refused : Bool) → IsKeeping from l x refused → y.tables ≡ x.tables → y.written ≡ x.written → y.faults ≡ x.faults → y.asked ≡ x.asked → IsKeeping from l y refused
keeping_same from l x y refused h t w f a = record {
  stands = record { rows = t ∙ h.stands.rows; changes = λ n. ap (λ z. Rattle.hib_store.specs.Stores.changes_in z n) w ∙ h.stands.changes n };
  faults = subst (λ n. RoseBy from.faults (fault_count l) n) (sym f) h.faults;
  asked = λ u. subst (λ n. RoseWithin from.asked (store_ask_count l) n) (sym a) (h.asked u);
}
