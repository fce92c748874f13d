-- A flush, as one read-write key sees it.
use Rattle.std.specs.Prelude.{option_and_then}
use Rattle.std.specs.Option.{option_map_or}
use Rattle.std.proofs.Common.{◌≡◌, ℕ, suc, ◌+◌, ◌≤◌, ◌⊎◌, inl, inr, Bool, true, false, cond, List, [], ◌∷◌, ◌++◌, Some, None, Option, refl, ap, sym, ◌∙◌, subst, arith}
use Rattle.std.proofs.lemmas.Bool.{true≢false, or_right}
use Rattle.std.specs.List.{list_any, filter_map, cons_option}
use Rattle.hib_journal.specs.Types.{State, Key, Row, Change, Strategy, Script, Act, Reply, Entry}
use Rattle.hib_base.specs.Keys.{same_key}
use Rattle.hib_base.specs.Tables.{key_of, first_on}
use Rattle.hib_journal.specs.Sessions.{Journal, floor_in, changes_in}
use Rattle.hib_journal.specs.Held.{Arrival, arrival, arrived_key, key_removed, without_key, held, stay, Stay, base_of, has_left, instance_of, Instance, is_fresh, next_version, same_cells, pending, arrived, removed, insert_by, update_by, delete_by}
use Rattle.hib_journal.specs.Next.{strategy, is_in, before_cached, before_key, before_write, writes, flush_of, flush, tables_in}
use Rattle.hib_journal.proofs.Shapes.{insert_of, update_of, delete_of}
use Rattle.hib_base.proofs.Tables.{Tested, tested, same_key_eq}
use Rattle.hib_journal.proofs.Plans.{Allows, allows_join, runs_each}
use Rattle.hib_law.proofs.Walks.{allows_as}
use Rattle.hib_law.proofs.HeldRows.{HasRead, fresh_stay, reads_on}
use Rattle.hib_law.proofs.Pending.{PendingBy, new_unwritten, insert_says, update_says, delete_says}
use Rattle.hib_law.proofs.Working.{IsWorking, IsFreeIn, IsSettled, IsNoUpdate, MayWrite, settled_plain, Allowed, Right, Goes, holds, working_plain}
use Rattle.hib_law.proofs.Basics.{none_some, some_same}
use Rattle.hib_law.proofs.Flushing.{first_append_other, working_lock, not_in_first, in_first, IsFlushing, flushing_on, flushing_write, none_not_in, Kept, kept_on, free_write, held_stay}

-- some changes name k; each is of what is held of its key; and k is changed once at most
module _ (k : Key) (start : Journal) where
  abbrev pub Names : List Change → Bool
  Names cs = list_any (λ c. same_key (key_of c) k) cs

  abbrev pub AllPending : List Change → Type 0
  AllPending [] = Unit {0}
  AllPending (c ∷ cs) = PendingBy (held start (key_of c)) c × AllPending cs

  abbrev pub IsOnceIn : List Change → Type 0
  IsOnceIn [] = Unit {0}
  IsOnceIn (c ∷ cs) = (same_key (key_of c) k ≡ true → Names cs ≡ false) × IsOnceIn cs

module _ (script : Script) (k : Key) (rw_k : strategy script k.entity ≡ Strategy.ReadWrite) (start : Journal) where
  abbrev Allow : List Act → Journal → (Journal → Type 0) → Type 0
  Allow = Allows (Allowed script k) (Right k)

  -- after the write of c, from m: no lock is held if none is to be held, and only c's key is changed
  abbrev Wrote : Change → Journal → Journal → Type 0
  Wrote c m n = IsFlushing k start n × IsFreeIn k n (first_on k (changes_in n))
      × (same_key (key_of c) k ≡ false → first_on k (changes_in n) ≡ first_on k (changes_in m))

  allow_write : (c : Change) (n m : Journal) → IsFlushing k start m → MayWrite k m c → PendingBy (held start (key_of c)) c →
      changes_in m ≡ changes_in n → Kept k n m c → IsFreeIn k n (first_on k (changes_in n)) → Allow (Act.Write c ∷ []) m (Wrote c n)
  allow_write c n m f a b q g w = (
    (f.working.undone, a),
    λ e p r.
        let u : changes_in (e ∷ m) ≡ changes_in n ++ c ∷ [] = rw p (ap (λ cs. cs ++ c ∷ []) q) in (
          flushing_write k start m e c f p a r b,
          free_write k n (e ∷ m) c w u (kept_on k n m e c p g),
          λ x. ap (λ cs. first_on k cs) u ∙ first_append_other k (changes_in n) c x,
        ),
  )

  -- ready to write a change of j, from n: under the lock, if it comes first on k
  abbrev IsSet : Key → Journal → Journal → Type 0
  IsSet j n m = IsFlushing k start m × (same_key j k ≡ true → first_on k (changes_in m) ≡ None → holds k m ≡ true)
      × (changes_in m ≡ changes_in n) × ((same_key j k ≡ true → first_on k (changes_in start) ≡ None → ⊥) → holds k m ≡ holds k n)

  -- k is not in the changes, and its lock is not held
  abbrev IsNew : Journal → Type 0
  IsNew m = (is_in k (changes_in m) ≡ false) × (holds k m ≡ false)

  not_in_none : (j : Key) → same_key j k ≡ true → is_in j (changes_in start) ≡ false → first_on k (changes_in start) ≡ None
  not_in_none j s n = not_in_first k (changes_in start) (subst (λ y. is_in y (changes_in start) ≡ false) (same_key_eq j k s) n)

  -- an act on a key other than k leaves its lock
  kept_lock : (j : Key) (v : Option ℕ) (f : ℕ) (m : Journal) (e : Entry) → e.act ≡ Act.Lock j v f → is_in j (changes_in start) ≡ false →
      (same_key j k ≡ true → first_on k (changes_in start) ≡ None → ⊥) → Tested (same_key j k) → holds k (e ∷ m) ≡ holds k m
  kept_lock j v f m e p n x (inl s) = absurd (x s (not_in_none j s n))
  kept_lock j v f m e p n x (inr s) = rw (p, s) refl

  -- the version that a lock names is that of a row that was read, or none
  names_read : (j : Key) (v : Option ℕ) (m : Journal) (z : Instance) (b : Row) → IsFlushing k start m → same_key j k ≡ true → is_in j (changes_in start) ≡ false →
      held start j ≡ Some z → z.base ≡ Some b → b.version ≡ v → (x : Bool) → is_fresh j start ≡ x →
      (cond x v None ≡ None) ⊎ ((d : Row) × HasRead k d m × (d.version ≡ cond x v None))
  names_read j v m z b f s n h p q false u = inl refl
  names_read j v m z b f s n h p q true u =
      let t : j ≡ k = same_key_eq j k s in
      let h' : held start k ≡ Some z = subst (λ y. held start y ≡ Some z) t h in
      let y : (a : Arrival) × (l : Journal) × (stay k start ≡ Some (a, l)) × (has_left k (a, l) ≡ false) × (base_of k (a, l) ≡ z.base) × (z.state ≡ State.New → z.base ≡ None) =
      held_stay k start z h' in
      let n' : is_in k (changes_in start) ≡ false = subst (λ y. is_in y (changes_in start) ≡ false) t n in
      let u' : is_fresh k start ≡ true = subst (λ y. is_fresh y start ≡ true) t u in
      inr (b, f.reads b (fresh_stay k b start y.0 y.1 y.2 (y.4 ∙ p) n' u'), q)

  allow_lock : (j : Key) (v : Option ℕ) (m : Journal) (z : Instance) (b : Row) → IsFlushing k start m → (same_key j k ≡ true → IsNew m) →
      is_in j (changes_in start) ≡ false → held start j ≡ Some z → z.base ≡ Some b → b.version ≡ v →
      Allow (Act.Lock j (cond (is_fresh j start) v None) (floor_in start) ∷ []) m (IsSet j m)
  allow_lock j v m z b f g n h p q = (
    λ s. (f.working.undone, sym f.floor, f.working.begun, names_read j v m z b f s n h p q (is_fresh j start) refl, (g s).0, (g s).1),
    λ e w r. (
      flushing_on k start m e f (rw w refl) (rw w refl) (rw w refl) (working_lock k m e j (cond (is_fresh j start) v None) (floor_in start) f.working w r),
      λ s g. rw (w, s) refl,
      rw w refl,
      λ x. kept_lock j (cond (is_fresh j start) v None) (floor_in start) m e w n x (tested (same_key j k)),
    ),
  )

  not_cached : (j : Key) (g : Strategy) → strategy script j.entity ≡ g → (Strategy.ReadWrite ≡ g → ⊥) → same_key j k ≡ true → ⊥
  not_cached j g p f s = f (sym rw_k ∙ (ap (λ y. strategy script y.entity) (sym (same_key_eq j k s)) ∙ p))

  allow_remove : (j : Key) (g : Strategy) (m : Journal) → strategy script j.entity ≡ g → (Strategy.ReadWrite ≡ g → ⊥) → IsFlushing k start m →
      Allow (Act.RegionRemove j ∷ []) m (IsSet j m)
  allow_remove j g m p f w = (
    λ x. f (sym x ∙ p),
    λ e y r. (
      flushing_on k start m e w (rw y refl) (rw y refl) (rw y refl) (working_plain k m e w.working (rw y refl) r),
      λ s u. absurd (not_cached j g p f s),
      rw y refl,
      λ x. rw y refl,
    ),
  )

  allow_before : (j : Key) (v : Option ℕ) (m : Journal) (z : Instance) (b : Row) → IsFlushing k start m →
      (same_key j k ≡ true → is_in j (changes_in start) ≡ false → IsNew m) → held start j ≡ Some z → z.base ≡ Some b → b.version ≡ v →
      Allow (before_key script start j v) m (IsSet j m)
  allow_before j v m z b f w h p q = by_changes (is_in j (changes_in start)) refl
    where
      by_strategy : (g : Strategy) → strategy script j.entity ≡ g → is_in j (changes_in start) ≡ false →
          Allow (before_cached g j (cond (is_fresh j start) v None) (floor_in start)) m (IsSet j m)
      by_strategy Strategy.ReadWrite e n = allow_lock j v m z b f (λ s. w s n) n h p q
      by_strategy Strategy.Uncached e n = (f, λ s u. absurd (not_cached j Strategy.Uncached e (λ x. cc) s), refl, λ x. refl)
      by_strategy Strategy.ReadOnly e n = allow_remove j Strategy.ReadOnly m e (λ x. cc) f
      by_strategy Strategy.Nonstrict e n = allow_remove j Strategy.Nonstrict m e (λ x. cc) f

      by_changes : (x : Bool) → is_in j (changes_in start) ≡ x →
          Allow (cond x [] (before_cached (strategy script j.entity) j (cond (is_fresh j start) v None) (floor_in start))) m (IsSet j m)
      by_changes true n = (f, λ s u. absurd (f.was (subst (λ y. is_in y (changes_in start) ≡ true) (same_key_eq j k s) n) u), refl, λ x. refl)
      by_changes false n = by_strategy (strategy script j.entity) refl n

  -- at a change of a flush, with these left
  pub record IsAt (cs : List Change) (m : Journal) : Type 0 where
    pub flushing : IsFlushing k start m
    pub free : IsFreeIn k m (first_on k (changes_in m))
    pub still : Names k start cs ≡ true → first_on k (changes_in m) ≡ first_on k (changes_in start)

  -- before the first change on k its lock is not held
  new_at : (j : Key) (m : Journal) → IsFreeIn k m (first_on k (changes_in m)) → (same_key j k ≡ true → first_on k (changes_in m) ≡ first_on k (changes_in start)) →
      same_key j k ≡ true → is_in j (changes_in start) ≡ false → IsNew m
  new_at j m f t s n =
      let q : first_on k (changes_in m) ≡ None = t s ∙ not_in_none j s n in
      (none_not_in k (changes_in m) q, subst (λ o. IsFreeIn k m o) q f)

  moved : (j : Key) (m : Journal) → (same_key j k ≡ true → first_on k (changes_in m) ≡ first_on k (changes_in start)) →
      (same_key j k ≡ true → first_on k (changes_in m) ≡ None → ⊥) → same_key j k ≡ true → first_on k (changes_in start) ≡ None → ⊥
  moved j m t x s q = x s (t s ∙ q)

  allow_change : (c : Change) (m : Journal) → IsFlushing k start m → IsFreeIn k m (first_on k (changes_in m)) →
      (same_key (key_of c) k ≡ true → first_on k (changes_in m) ≡ first_on k (changes_in start)) → PendingBy (held start (key_of c)) c →
      Allow (before_write script start c ++ Act.Write c ∷ []) m (Wrote c m)
  allow_change (Change.Insert j r) m f w t b =
      allow_write (Change.Insert j r) m m f
      (λ s. f.kind b.0 (subst (λ y. held start y ≡ Some b.0) (same_key_eq j k s) b.1) b.2) b refl refl w
  allow_change (Change.Update j v r) m f w t b =
      allows_join (Allowed script k) (Right k) (before_key script start j v) (Act.Write (Change.Update j v r) ∷ []) m
      (IsSet j m) (Wrote (Change.Update j v r) m) (allow_before j v m b.0 b.1 f (new_at j m w t) b.2 b.4 b.5)
      (λ n x. allow_write (Change.Update j v r) m n x.0 (λ s. (b.6, x.1 s)) b x.2 (λ y. x.3 (moved j m t y)) w)
  allow_change (Change.Delete j v) m f w t b =
      allows_join (Allowed script k) (Right k) (before_key script start j v) (Act.Write (Change.Delete j v) ∷ []) m
      (IsSet j m) (Wrote (Change.Delete j v) m) (allow_before j v m b.0 b.1 f (new_at j m w t) b.2 b.4 b.5)
      (λ n x. allow_write (Change.Delete j v) m n x.0 (λ s. x.1 s) b x.2 (λ y. x.3 (moved j m t y)) w)

  -- the writes of a flush are allowed, and leave the session working
  pub allow_writes : (cs : List Change) (m : Journal) → AllPending k start cs → IsOnceIn k start cs → IsAt cs m → Allow (writes script start cs) m (IsAt [])
  allow_writes [] m a o f = f
  allow_writes (c ∷ cs) m a o f =
      allows_join (Allowed script k) (Right k) (before_write script start c ++ Act.Write c ∷ []) (writes script start cs) m (Wrote c m) (IsAt [])
      (allow_change c m f.flushing f.free (λ s. f.still (rw s refl)) a.0)
      (λ n w. allow_writes cs n a.1 o.1 (record { flushing = w.0; free = w.1; still = λ x. by_key n w x (tested (same_key (key_of c) k)) }))
    where
      by_key : (n : Journal) → Wrote c m n → Names k start cs ≡ true → Tested (same_key (key_of c) k) → first_on k (changes_in n) ≡ first_on k (changes_in start)
      by_key n w x (inl s) = absurd (true≢false (sym x ∙ o.0 s))
      by_key n w x (inr s) = w.2 s ∙ f.still (or_right (same_key (key_of c) k) (Names k start cs) x)

-- each pending change is of what is held of its key

pub held_key : (m : Journal) (j : Key) (z : Instance) → held m j ≡ Some z → z.key ≡ j
unfolding held
held_key m j z e = by_stay (stay j m) e
  where
    by_left : (s : Stay) (x : Bool) → cond x None (Some (instance_of j s)) ≡ Some z → z.key ≡ j
    by_left s true e = none_some e
    by_left s false e = sym (ap (λ i. i.key) (some_same e))

    by_stay : (s : Option Stay) → option_and_then (λ x. cond (has_left j x) None (Some (instance_of j x))) s ≡ Some z → z.key ≡ j
    by_stay None e = none_some e
    by_stay (Some s) e = by_left s (has_left j s) e

pub insert_key : (z : Instance) (c : Change) → insert_of (Some z) ≡ Some c → key_of c ≡ z.key
insert_key z c e = by_state z.state e
  where
    by_state : (t : State) → insert_by t z.key z.row ≡ Some c → key_of c ≡ z.key
    by_state State.New e = sym (ap key_of (some_same e))
    by_state State.Managed e = none_some e
    by_state State.Removed e = none_some e

pub update_key : (z : Instance) (c : Change) → update_of (Some z) ≡ Some c → key_of c ≡ z.key
update_key z c e = by_state z.state z.base e
  where
    by_cells : (b : Row) (x : Bool) → cond x None (Some (Change.Update z.key b.version (record { version = next_version b.version; cells = z.row.cells }))) ≡ Some c →
        key_of c ≡ z.key
    by_cells b true e = none_some e
    by_cells b false e = sym (ap key_of (some_same e))

    by_state : (t : State) (b : Option Row) → update_by t z.key z.row b ≡ Some c → key_of c ≡ z.key
    by_state State.New b e = none_some e
    by_state State.Removed b e = none_some e
    by_state State.Managed None e = none_some e
    by_state State.Managed (Some b) e = by_cells b (same_cells z.row.cells b.cells) e

pub delete_key : (z : Instance) (c : Change) → delete_of (Some z) ≡ Some c → key_of c ≡ z.key
delete_key z c e = by_state z.state z.base e
  where
    by_state : (t : State) (b : Option Row) → delete_by t z.key b ≡ Some c → key_of c ≡ z.key
    by_state State.New b e = none_some e
    by_state State.Managed b e = none_some e
    by_state State.Removed None e = none_some e
    by_state State.Removed (Some b) e = sym (ap key_of (some_same e))

module _ (k : Key) (start : Journal) where
  abbrev Says : (Option Instance → Option Change) → Type 0
  Says f = ((i : Option Instance) (c : Change) → f i ≡ Some c → PendingBy i c) × ((z : Instance) (c : Change) → f (Some z) ≡ Some c → key_of c ≡ z.key)
      × (f None ≡ None)

  at_key : (f : Option Instance → Option Change) → Says f → (j : Key) (c : Change) → f (held start j) ≡ Some c → PendingBy (held start (key_of c)) c
  at_key f s j c e = by_held (held start j) refl e
    where
      by_held : (i : Option Instance) → held start j ≡ i → f i ≡ Some c → PendingBy (held start (key_of c)) c
      by_held None p e = none_some (sym s.2 ∙ e)
      by_held (Some z) p e =
          let q : key_of c ≡ j = s.1 z c e ∙ held_key start j z p in
          subst (λ y. PendingBy (held start y) c) (sym q) (rw p (s.0 (Some z) c e))

  all_filter : (f : Option Instance → Option Change) → Says f → (ks : List Key) → AllPending k start (filter_map (λ j. f (held start j)) ks)
  all_filter f s [] = tt
  all_filter f s (j ∷ ks) = by_change (f (held start j)) refl (all_filter f s ks)
    where
      by_change : (o : Option Change) → f (held start j) ≡ o → AllPending k start (filter_map (λ j. f (held start j)) ks) →
          AllPending k start (cons_option (f (held start j)) (filter_map (λ j. f (held start j)) ks))
      by_change None p a = rw p a
      by_change (Some c) p a = rw p (at_key f s j c p, a)

  all_append : (xs ys : List Change) → AllPending k start xs → AllPending k start ys → AllPending k start (xs ++ ys)
  all_append [] ys a b = b
  all_append (x ∷ xs) ys a b = (a.0, all_append xs ys a.1 b)

  pub all_pending : AllPending k start (pending start)
  unfolding pending
  all_pending =
      all_append (filter_map (λ j. insert_of (held start j)) (arrived start) ++ filter_map (λ j. update_of (held start j)) (arrived start))
      (filter_map (λ j. delete_of (held start j)) (removed start))
      (all_append (filter_map (λ j. insert_of (held start j)) (arrived start)) (filter_map (λ j. update_of (held start j)) (arrived start))
      (all_filter insert_of (insert_says, insert_key, refl) (arrived start)) (all_filter update_of (update_says, update_key, refl) (arrived start)))
      (all_filter delete_of (delete_says, delete_key, refl) (removed start))

-- each key is changed once at most by a flush

abbrev pub times : Key → List Change → ℕ
times k [] = 0
times k (c ∷ cs) = cond (same_key (key_of c) k) (suc (times k cs)) (times k cs)

abbrev pub times_in : Key → List Key → ℕ
times_in k [] = 0
times_in k (j ∷ ks) = cond (same_key j k) (suc (times_in k ks)) (times_in k ks)

times_append : (k : Key) (xs ys : List Change) → times k (xs ++ ys) ≡ times k xs + times k ys
times_append k [] ys = omega arith
times_append k (x ∷ xs) ys = by_key (same_key (key_of x) k) (times_append k xs ys)
  where
    by_key : (b : Bool) → times k (xs ++ ys) ≡ times k xs + times k ys → cond b (suc (times k (xs ++ ys))) (times k (xs ++ ys)) ≡ cond b (suc (times k xs)) (times k xs) + times k ys
    by_key true i = omega arith
    by_key false i = i

without_times : (k j : Key) (ks : List Key) → times_in k (without_key j ks) ≤ times_in k ks
without_times k j [] = omega arith
without_times k j (i ∷ ks) = by_test (tested (same_key i j)) (same_key i k) (without_times k j ks)
  where
    kept : (b : Bool) → times_in k (without_key j ks) ≤ times_in k ks → cond b (suc (times_in k (without_key j ks))) (times_in k (without_key j ks)) ≤ cond b (suc (times_in k ks)) (times_in k ks)
    kept true l = omega arith
    kept false l = l

    less : (b : Bool) → times_in k (without_key j ks) ≤ times_in k ks → times_in k (without_key j ks) ≤ cond b (suc (times_in k ks)) (times_in k ks)
    less true l = omega arith
    less false l = l

    by_test : Tested (same_key i j) → (b : Bool) → times_in k (without_key j ks) ≤ times_in k ks → times_in k (without_key j (i ∷ ks)) ≤ times_in k (i ∷ ks)
    by_test (inl x) b l = rw x (less (same_key i k) l)
    by_test (inr x) b l = rw x (kept (same_key i k) l)

without_none : (k : Key) (ks : List Key) → times_in k (without_key k ks) ≡ 0
without_none k [] = refl
without_none k (i ∷ ks) = by_test (tested (same_key i k)) (without_none k ks)
  where
    by_test : Tested (same_key i k) → times_in k (without_key k ks) ≡ 0 → times_in k (without_key k (i ∷ ks)) ≡ 0
    by_test (inl x) l = rw x l
    by_test (inr x) l = rw (x, x) l

last_times : (k j : Key) (ks : List Key) → times_in k (ks ++ j ∷ []) ≡ times_in k ks + cond (same_key j k) 1 0
last_times k j [] = by_key (same_key j k)
  where
    by_key : (b : Bool) → cond {A = ℕ} b 1 0 ≡ 0 + cond b 1 0
    by_key true = omega arith
    by_key false = omega arith
last_times k j (i ∷ ks) = by_key (same_key i k) (last_times k j ks)
  where
    by_key : (b : Bool) → times_in k (ks ++ j ∷ []) ≡ times_in k ks + cond (same_key j k) 1 0 →
        cond b (suc (times_in k (ks ++ j ∷ []))) (times_in k (ks ++ j ∷ [])) ≡ cond b (suc (times_in k ks)) (times_in k ks) + cond (same_key j k) 1 0
    by_key true e = omega arith
    by_key false e = e

moved_times : (k j : Key) (ks : List Key) → times_in k ks ≤ 1 → times_in k (without_key j ks ++ j ∷ []) ≤ 1
moved_times k j ks l = by_key (tested (same_key j k))
  where
    by_key : Tested (same_key j k) → times_in k (without_key j ks ++ j ∷ []) ≤ 1
    by_key (inl s) =
        let e : times_in k (without_key j ks) ≡ 0 = subst (λ y. times_in k (without_key y ks) ≡ 0) (sym (same_key_eq j k s)) (without_none k ks) in
        rw (last_times k j (without_key j ks), s, e) (omega arith)
    by_key (inr s) =
        let e : times_in k (without_key j ks) ≤ times_in k ks = without_times k j ks in
        rw (last_times k j (without_key j ks), s) (omega arith)

arrived_once : (k : Key) (m : Journal) → times_in k (arrived m) ≤ 1
arrived_once k [] = omega arith
arrived_once k (e ∷ m) = by_arrival (arrival e.act e.reply) (arrived_once k m)
  where
    by_arrival : (o : Option Arrival) → times_in k (arrived m) ≤ 1 → times_in k (option_map_or (λ a. without_key (arrived_key a) (arrived m) ++ arrived_key a ∷ []) o (arrived m)) ≤ 1
    by_arrival None l = l
    by_arrival (Some a) l = moved_times k (arrived_key a) (arrived m) l

removed_once : (k : Key) (m : Journal) → times_in k (removed m) ≤ 1
removed_once k [] = omega arith
removed_once k (e ∷ m) = by_act e.act e.reply (removed_once k m)
  where
    by_act : (a : Act) (r : Reply) → times_in k (removed m) ≤ 1 → times_in k (key_removed a r (removed m)) ≤ 1
    by_act (Act.Remove j) Reply.Removed l = moved_times k j (removed m) l
    by_act _ _ l = l

module _ (k : Key) (start : Journal) where
  abbrev F : (Option Instance → Option Change) → List Key → List Change
  F f ks = filter_map (λ j. f (held start j)) ks

  key_is : (f : Option Instance → Option Change) → Says k start f → (j : Key) (c : Change) → f (held start j) ≡ Some c → key_of c ≡ j
  key_is f s j c e = by_held (held start j) refl e
    where
      by_held : (i : Option Instance) → held start j ≡ i → f i ≡ Some c → key_of c ≡ j
      by_held None p e = none_some (sym s.2 ∙ e)
      by_held (Some z) p e = s.1 z c e ∙ held_key start j z p

  filter_times : (f : Option Instance → Option Change) → Says k start f → (ks : List Key) →
      (times k (F f ks) ≤ times_in k ks) × (f (held start k) ≡ None → times k (F f ks) ≡ 0)
  filter_times f s [] = (omega arith, λ n. refl)
  filter_times f s (j ∷ ks) = by_change (f (held start j)) refl (filter_times f s ks)
    where
      more : (b : Bool) (x y : ℕ) → x ≤ y → x ≤ cond b (suc y) y
      more true x y l = omega arith
      more false x y l = l

      both : (b : Bool) (x y : ℕ) → x ≤ y → cond b (suc x) x ≤ cond b (suc y) y
      both true x y l = omega arith
      both false x y l = l

      by_key : (c : Change) → f (held start j) ≡ Some c → key_of c ≡ j → f (held start k) ≡ None → times k (F f ks) ≡ 0 → Tested (same_key j k) → times k (c ∷ F f ks) ≡ 0
      by_key c p q n z (inl x) = none_some (sym n ∙ subst (λ y. f (held start y) ≡ Some c) (same_key_eq j k x) p)
      by_key c p q n z (inr x) = rw (q, x) z

      by_change : (o : Option Change) → f (held start j) ≡ o → (times k (F f ks) ≤ times_in k ks) × (f (held start k) ≡ None → times k (F f ks) ≡ 0) →
          (times k (F f (j ∷ ks)) ≤ times_in k (j ∷ ks)) × (f (held start k) ≡ None → times k (F f (j ∷ ks)) ≡ 0)
      by_change None p a = (rw p (more (same_key j k) (times k (F f ks)) (times_in k ks) a.0), λ n. rw p (a.1 n))
      by_change (Some c) p a =
          let q : key_of c ≡ j = key_is f s j c p in
          (rw (p, q) (both (same_key j k) (times k (F f ks)) (times_in k ks) a.0), λ n. rw p (by_key c p q n (a.1 n) (tested (same_key j k))))

  -- what is held of k gives one change at most
  pub data OneOf (i : Option Instance) : Type 0 where
    Inserts : update_of i ≡ None → delete_of i ≡ None → OneOf i
    Updates : insert_of i ≡ None → delete_of i ≡ None → OneOf i
    Deletes : insert_of i ≡ None → update_of i ≡ None → OneOf i

  one_of : (i : Option Instance) → OneOf i
  one_of None = OneOf.Inserts refl refl
  one_of (Some z) = by_state z.state refl
    where
      by_state : (t : State) → z.state ≡ t → OneOf (Some z)
      by_state State.New p = OneOf.Inserts (rw p refl) (rw p refl)
      by_state State.Managed p = OneOf.Updates (rw p refl) (rw p refl)
      by_state State.Removed p = OneOf.Deletes (rw p refl) (rw p refl)

  pub once_times : (cs : List Change) → times k cs ≤ 1 → IsOnceIn k start cs
  once_times [] l = tt
  once_times (c ∷ cs) l = by_key (tested (same_key (key_of c) k)) l (once_times cs)
    where
      none : (ds : List Change) → times k ds ≤ 0 → list_any (λ d. same_key (key_of d) k) ds ≡ false
      none [] l = refl
      none (d ∷ ds) l = by_one (tested (same_key (key_of d) k)) l (none ds)
        where
          by_one : Tested (same_key (key_of d) k) → times k (d ∷ ds) ≤ 0 → (times k ds ≤ 0 → list_any (λ d. same_key (key_of d) k) ds ≡ false) →
              list_any (λ d. same_key (key_of d) k) (d ∷ ds) ≡ false
          by_one (inl x) l i = let g : suc (times k ds) ≤ 0 = rw x at l in absurd (omega arith)
          by_one (inr x) l i = let g : times k ds ≤ 0 = rw x at l in rw x (i g)

      by_key : Tested (same_key (key_of c) k) → times k (c ∷ cs) ≤ 1 → (times k cs ≤ 1 → IsOnceIn k start cs) → IsOnceIn k start (c ∷ cs)
      by_key (inl x) l i =
          let g : suc (times k cs) ≤ 1 = rw x at l in
          let h : times k cs ≤ 0 = omega arith in
          let m : times k cs ≤ 1 = omega arith in
          (λ s. none cs h, i m)
      by_key (inr x) l i =
          let g : times k cs ≤ 1 = rw x at l in
          (λ s. absurd (true≢false (sym s ∙ x)), i g)

  pub once_pending : IsOnceIn k start (pending start)
  unfolding pending
  once_pending = once_times _ (rw (
    times_append k (F insert_of (arrived start) ++ F update_of (arrived start)) (F delete_of (removed start)),
    times_append k (F insert_of (arrived start)) (F update_of (arrived start)),
  ) (by_kind (one_of (held start k))))
    where
      a : times_in k (arrived start) ≤ 1
      a = arrived_once k start

      r : times_in k (removed start) ≤ 1
      r = removed_once k start

      ti : (times k (F insert_of (arrived start)) ≤ times_in k (arrived start)) × (insert_of (held start k) ≡ None → times k (F insert_of (arrived start)) ≡ 0)
      ti = filter_times insert_of (insert_says, insert_key, refl) (arrived start)

      tu : (times k (F update_of (arrived start)) ≤ times_in k (arrived start)) × (update_of (held start k) ≡ None → times k (F update_of (arrived start)) ≡ 0)
      tu = filter_times update_of (update_says, update_key, refl) (arrived start)

      td : (times k (F delete_of (removed start)) ≤ times_in k (removed start)) × (delete_of (held start k) ≡ None → times k (F delete_of (removed start)) ≡ 0)
      td = filter_times delete_of (delete_says, delete_key, refl) (removed start)

      by_kind : OneOf (held start k) → times k (F insert_of (arrived start)) + times k (F update_of (arrived start)) + times k (F delete_of (removed start)) ≤ 1
      by_kind (OneOf.Inserts u d) =
          let x : times k (F insert_of (arrived start)) ≤ times_in k (arrived start) = ti.0 in
          let y : times_in k (arrived start) ≤ 1 = a in
          rw (tu.1 u, td.1 d) (omega arith)
      by_kind (OneOf.Updates i d) =
          let x : times k (F update_of (arrived start)) ≤ times_in k (arrived start) = tu.0 in
          let y : times_in k (arrived start) ≤ 1 = a in
          rw (ti.1 i, td.1 d) (omega arith)
      by_kind (OneOf.Deletes i u) =
          let x : times k (F delete_of (removed start)) ≤ times_in k (removed start) = td.0 in
          let y : times_in k (removed start) ≤ 1 = r in
          rw (ti.1 i, tu.1 u) (omega arith)

-- a flush is allowed all through
module _ (script : Script) (k : Key) (rw_k : strategy script k.entity ≡ Strategy.ReadWrite) where
  flushing_first : (m : Journal) (e : Entry) (ts : List ℕ) → IsWorking k m → e.act ≡ Act.Pre ts → Right k m e → IsFlushing k m (e ∷ m)
  flushing_first m e ts w p r = record {
    working = working_plain k m e w (rw p refl) r;
    reads = λ b h. reads_on k b e m (rw p refl) h;
    floor = rw p refl;
    was = λ x y. in_first k (changes_in m) x (subst (λ cs. first_on k cs ≡ None) same y);
    kind = λ z x y. subst (λ cs. IsNoUpdate (first_on k cs)) (sym same) (none z x y);
  }
    where
      same : changes_in (e ∷ m) ≡ changes_in m
      same = rw p refl

      none : (z : Instance) → held m k ≡ Some z → z.state ≡ State.New → IsNoUpdate (first_on k (changes_in m))
      none z x y =
          let s : (a : Arrival) × (l : Journal) × (stay k m ≡ Some (a, l)) × (has_left k (a, l) ≡ false) × (base_of k (a, l) ≡ z.base) × (z.state ≡ State.New → z.base ≡ None) =
          held_stay k m z x in
          rw (not_in_first k (changes_in m) (new_unwritten k m s.0 s.1 w.fair s.2 s.3 (s.4 ∙ s.5 y))) tt

  pub goes_flush : Goes script k (flush script) (IsSettled k) (IsSettled k)
  goes_flush m w = runs_each (Allowed script k) (Right k) (flush_of script m (pending m)) m (IsSettled k)
      (by_pending (pending m) (all_pending k m) (once_pending k m))
    where
      by_pending : (cs : List Change) → AllPending k m cs → IsOnceIn k m cs → Allows (Allowed script k) (Right k) (flush_of script m cs) m (IsSettled k)
      by_pending [] a o = w
      by_pending (c ∷ cs) a o = (
        tt,
        λ e p r. allows_as (Allowed script k) (Right k) (writes script m (c ∷ cs)) (e ∷ m) (IsAt script k rw_k m []) (IsSettled k) (λ n h. record { working = h.flushing.working; free = h.free })
            (allow_writes script k rw_k m (c ∷ cs) (e ∷ m) a o (at_first e p r)),
      )
        where
          at_first : (e : Entry) → e.act ≡ Act.Pre (tables_in script (c ∷ cs)) → Right k m e → IsAt script k rw_k m (c ∷ cs) (e ∷ m)
          at_first e p r = record {
            flushing = flushing_first m e (tables_in script (c ∷ cs)) w.working p r;
            free = (settled_plain k m e w (rw p refl) r).free;
            still = λ x. rw p refl;
          }
