-- The keys that are kept of instances with a change that is pending are all that there are of them.
use Rattle.std.proofs.Common.{◌≡◌, length, arith, ℕ, inl, inr, Bool, true, false, cond, not, ◌&&◌, ◌||◌, List, [], ◌∷◌, ◌++◌, Some, None, Option, refl, sym, ap, ◌∙◌, subst}
use Rattle.std.proofs.lemmas.Bool.{false≢true, true≢false, and_parts, and_from}
use Rattle.std.proofs.lemmas.List.Folds.{list_any-append}
use Rattle.std.specs.List.{filter_map, cons_option, list_any}
use Rattle.std.specs.Option.{option_map}
use Rattle.hib_base.specs.Keys.{same_key}
use Rattle.hib_base.specs.Tables.{key_of}
use Rattle.hib_base.proofs.Tables.{same_key_eq, same_key_refl, Tested, tested}
use Rattle.hib_journal.specs.Types.{Key, Row, State, Change, Held}
use Rattle.hib_journal.specs.Held.{same_cells, insert_by, update_by, delete_by, next_version}
use Rattle.hib_completion.specs.Completed.{is_key_in}
use Rattle.hib_dirty_check.specs.Changed.{insert_of, update_of}
use Rattle.hib_flush.specs.Planned.{planned, inserts_in, updates_in, deletes_in, delete_held}
use Rattle.hib_identity_map.specs.Identity.{MapState, Pairs, look_in, are_distinct, drop_in, add_in, change_in, without, remove_last, state_written, written}
use Rattle.hib_session.specs.Instances.{is_changed, is_pending, is_removed_state, is_gone, Covers}
use Rattle.hib_completion.proofs.Keys.{in_more}
use Rattle.indexmap.specs.IndexSet.{insert_key}
use Rattle.hib_session.proofs.KeyMaps.{any_among, key_more}
use Rattle.hib_session.proofs.Orders.{look_changed, look_dropped, look_added, distinct_changed, distinct_dropped, distinct_added, both}

-- ---- what becomes of the instance of one key

pub covers_none : (ks rs : List Key) → Covers ks rs []
covers_none ks rs = record { distinct = refl; pending = λ k p. absurd (false≢true p); gone = λ k p. absurd (false≢true p) }

-- the keys that are kept, but for one that may have left
abbrev pub KeepsBut : Key → List Key → List Key → Type 0
KeepsBut k old new = (q : Key) → same_key k q ≡ false → is_key_in q old ≡ true → is_key_in q new ≡ true

pub covers_with : (ks ls rs ss : List Key) (ps qs : Pairs) (k : Key) (o : Option Held) → Covers ks rs ps → are_distinct qs ≡ true →
    ((q : Key) → look_in qs q ≡ cond (same_key k q) o (look_in ps q)) → KeepsBut k ks ls → KeepsBut k rs ss →
    (is_pending o ≡ true → is_key_in k ls ≡ true) → (is_gone o ≡ true → is_key_in k ss ≡ true) → Covers ls ss qs
covers_with ks ls rs ss ps qs k o c d n touched removed p g = record {
  distinct = d;
  pending = λ q e. by_pending q e (tested (same_key k q));
  gone = λ q e. by_gone q e (tested (same_key k q));
}
  where
    by_pending : (q : Key) → is_pending (look_in qs q) ≡ true → Tested (same_key k q) → is_key_in q ls ≡ true
    by_pending q e (inl t) = subst (λ x. is_key_in x ls ≡ true) (same_key_eq k q t) (p (ap is_pending (sym (n q ∙ ap (λ b. cond b o (look_in ps q)) t)) ∙ e))
    by_pending q e (inr t) = touched q t (c.pending q (ap is_pending (sym (n q ∙ ap (λ b. cond b o (look_in ps q)) t)) ∙ e))

    by_gone : (q : Key) → is_gone (look_in qs q) ≡ true → Tested (same_key k q) → is_key_in q ss ≡ true
    by_gone q e (inl t) = subst (λ x. is_key_in x ss ≡ true) (same_key_eq k q t) (g (ap is_gone (sym (n q ∙ ap (λ b. cond b o (look_in ps q)) t)) ∙ e))
    by_gone q e (inr t) = removed q t (c.gone q (ap is_gone (sym (n q ∙ ap (λ b. cond b o (look_in ps q)) t)) ∙ e))

pub kept_all : (k : Key) (ks : List Key) → KeepsBut k ks ks
kept_all k ks = λ q d e. e

-- an instance arrives
pub covers_arrived : (ks ls rs : List Key) (ps : Pairs) (k : Key) (h : Held) → Covers ks rs ps → KeepsBut k ks ls →
    (is_pending (Some h) ≡ true → is_key_in k ls ≡ true) → is_gone (Some h) ≡ false → Covers ls rs (add_in k h (drop_in k ps))
covers_arrived ks ls rs ps k h c touched p g =
    covers_with ks ls rs rs ps (add_in k h (drop_in k ps)) k (Some h) c (distinct_added k h (drop_in k ps) absent (distinct_dropped k ps c.distinct))
    (λ q. look_added k h (drop_in k ps) q absent ∙ by_key q (tested (same_key k q))) touched (kept_all k rs) p (λ e. absurd (true≢false (sym e ∙ g)))
  where
    absent : look_in (drop_in k ps) k ≡ None
    absent = look_dropped k ps k c.distinct ∙ rw (same_key_refl k) refl

    by_key : (q : Key) → Tested (same_key k q) → cond (same_key k q) (Some h) (look_in (drop_in k ps) q) ≡ cond (same_key k q) (Some h) (look_in ps q)
    by_key q (inl t) = rw t refl
    by_key q (inr t) = rw t (look_dropped k ps q c.distinct ∙ rw t refl)

-- the instance of a key leaves
pub covers_dropped : (ks ls rs ss : List Key) (ps : Pairs) (k : Key) → Covers ks rs ps → KeepsBut k ks ls → KeepsBut k rs ss → Covers ls ss (drop_in k ps)
covers_dropped ks ls rs ss ps k c touched removed =
    covers_with ks ls rs ss ps (drop_in k ps) k None c (distinct_dropped k ps c.distinct) (λ q. look_dropped k ps q c.distinct) touched removed
    (λ e. absurd (false≢true e)) (λ e. absurd (false≢true e))

-- the instance of a key changes
pub covers_changed : (ks ls rs ss : List Key) (ps : Pairs) (k : Key) (f : Held → Held) → Covers ks rs ps → KeepsBut k ks ls → KeepsBut k rs ss →
    (is_pending (look_in (change_in k f ps) k) ≡ true → is_key_in k ls ≡ true) → (is_gone (look_in (change_in k f ps) k) ≡ true → is_key_in k ss ≡ true) → Covers ls ss (change_in k f ps)
covers_changed ks ls rs ss ps k f c touched removed p g =
    covers_with ks ls rs ss ps (change_in k f ps) k (look_in (change_in k f ps) k) c (distinct_changed k f ps ∙ c.distinct) (λ q. by_key q (tested (same_key k q))) touched removed p g
  where
    by_key : (q : Key) → Tested (same_key k q) → look_in (change_in k f ps) q ≡ cond (same_key k q) (look_in (change_in k f ps) k) (look_in ps q)
    by_key q (inl t) = rw t (ap (look_in (change_in k f ps)) (sym (same_key_eq k q t)))
    by_key q (inr t) = look_changed k f ps q ∙ rw t refl

-- an instance that is changed, but not marked, is marked if it was
pub gone_before : (ps : Pairs) (k : Key) (f : Held → Held) → ((h : Held) → is_removed_state (f h).state ≡ true → is_removed_state h.state ≡ true) →
    is_gone (look_in (change_in k f ps) k) ≡ true → is_gone (look_in ps k) ≡ true
gone_before ps k f s e = by (look_in ps k) (ap is_gone (sym (look_changed k f ps k ∙ rw (same_key_refl k) refl)) ∙ e)
  where
    by : (o : Option Held) → is_gone (option_map f o) ≡ true → is_gone o ≡ true
    by None e = absurd (false≢true e)
    by (Some h) e = s h e

-- more keys are kept
pub covers_touched : (ks ls rs : List Key) (ps : Pairs) → Covers ks rs ps → ((q : Key) → is_key_in q ks ≡ true → is_key_in q ls ≡ true) → Covers ls rs ps
covers_touched ks ls rs ps c f = record { distinct = c.distinct; pending = λ q e. f q (c.pending q e); gone = c.gone }

or_right : (a b : Bool) → b ≡ true → (a || b) ≡ true
or_right true b e = refl
or_right false b e = e

or_left : (a b : Bool) → a ≡ true → (a || b) ≡ true
or_left true b e = refl
or_left false b e = absurd (false≢true e)

pub grown : (k : Key) (ks : List Key) (q : Key) → is_key_in q ks ≡ true → is_key_in q (insert_key same_key ks k) ≡ true
grown k ks q e = key_more q k ks ∙ or_left (is_key_in q ks) (same_key k q) e

pub is_there : (k : Key) (ks : List Key) → is_key_in k (insert_key same_key ks k) ≡ true
is_there k ks = key_more k k ks ∙ or_right (is_key_in k ks) (same_key k k) (same_key_refl k)

pub left : (k : Key) (old new : List Key) → ((q : Key) → same_key k q ≡ false → list_any (same_key q) new ≡ list_any (same_key q) old) → KeepsBut k old new
left k old new h = λ q d e. sym (any_among q new) ∙ (h q d ∙ (any_among q old ∙ e))

others_stay : (k q : Key) (ks : List Key) → same_key k q ≡ false → is_key_in q ks ≡ true → is_key_in q (without k ks) ≡ true
others_stay k q [] d e = e
others_stay k q (j ∷ js) d e = by (tested (same_key j k)) (tested (same_key j q)) (λ x. others_stay k q js d x)
  where
    by : Tested (same_key j k) → Tested (same_key j q) → (is_key_in q js ≡ true → is_key_in q (without k js) ≡ true) → is_key_in q (without k (j ∷ js)) ≡ true
    by (inl a) (inl b) i = absurd (true≢false (sym b ∙ (ap (λ x. same_key x q) (same_key_eq j k a) ∙ d)))
    by (inl a) (inr b) i = rw a (i (sym (ap (λ x. x || is_key_in q js) b) ∙ e))
    by (inr a) (inl b) i = rw (a, b) refl
    by (inr a) (inr b) i = rw (a, b) (i (sym (ap (λ x. x || is_key_in q js) b) ∙ e))

pub removal_keeps : (k : Key) (ks : List Key) → KeepsBut k ks (remove_last k ks)
removal_keeps k ks = λ q d e. in_more q (without k ks) k ∙ or_left (is_key_in q (without k ks)) (same_key k q) (others_stay k q ks d e)

pub removal_there : (k : Key) (ks : List Key) → is_key_in k (remove_last k ks) ≡ true
removal_there k ks = in_more k (without k ks) k ∙ or_right (is_key_in k (without k ks)) (same_key k k) (same_key_refl k)

pub written_stays : (r : Row) (h : Held) → is_removed_state (written r h).state ≡ true → is_removed_state h.state ≡ true
written_stays r h e = by h.state e
  where
    by : (s : State) → is_removed_state (state_written s) ≡ true → is_removed_state s ≡ true
    by State.New e = e
    by State.Managed e = e
    by State.Removed e = e

-- ---- what is asked of the keys is asked of the changes

same_answer : (a b : Bool) → (a ≡ true → b ≡ true) → (b ≡ true → a ≡ true) → a ≡ b
same_answer a b f g = by (tested a) (tested b)
  where
    by : Tested a → Tested b → a ≡ b
    by (inl p) q = p ∙ sym (f p)
    by (inr p) (inl q) = absurd (true≢false (sym (g q) ∙ p))
    by (inr p) (inr q) = p ∙ sym q

any_key : (f : Key → Bool) (k : Key) (ks : List Key) → is_key_in k ks ≡ true → f k ≡ true → list_any f ks ≡ true
any_key f k [] e t = absurd (false≢true e)
any_key f k (j ∷ js) e t = by (tested (same_key j k)) (λ x. any_key f k js x t)
  where
    by : Tested (same_key j k) → (is_key_in k js ≡ true → list_any f js ≡ true) → (f j || list_any f js) ≡ true
    by (inl s) i = or_left (f j) (list_any f js) (ap f (same_key_eq j k s) ∙ t)
    by (inr s) i = or_right (f j) (list_any f js) (i (sym (ap (λ b. b || is_key_in k js) s) ∙ e))

one_key : (f : Key → Bool) (ks : List Key) → list_any f ks ≡ true → (k : Key) × (f k ≡ true)
one_key f [] e = absurd (false≢true e)
one_key f (j ∷ js) e = by (tested (f j)) (λ x. one_key f js x)
  where
    by : Tested (f j) → (list_any f js ≡ true → (k : Key) × (f k ≡ true)) → (k : Key) × (f k ≡ true)
    by (inl s) i = (j, s)
    by (inr s) i = i (sym (ap (λ b. b || list_any f js) s) ∙ e)

-- each kind of change is of its key, and pending

same_change : (b c : Change) → Some b ≡ Some c → b ≡ c
same_change b c e = cc

none_some : (c : Change) → ◌≡◌ {A = Option Change} None (Some c) → ⊥
none_some c e = cc

insert_says : (k : Key) (h : Held) (c : Change) → insert_of k h ≡ Some c → (key_of c ≡ k) × (is_pending (Some h) ≡ true)
insert_says k h c e = by h.state e
  where
    by : (s : State) → insert_by s k h.row ≡ Some c → (key_of c ≡ k) × (is_changed s h.row h.base ≡ true)
    by State.New e = (ap key_of (sym (same_change _ c e)), refl)
    by State.Managed e = absurd (none_some c e)
    by State.Removed e = absurd (none_some c e)

update_says : (k : Key) (h : Held) (c : Change) → update_of k h ≡ Some c → (key_of c ≡ k) × (is_pending (Some h) ≡ true)
update_says k h c e = by h.state h.base e
  where
    by_cells : (r b : Row) (same : Bool) → cond same None (Some (Change.Update k b.version (record { version = next_version b.version; cells = r.cells }))) ≡ Some c → (key_of c ≡ k) × (not same ≡ true)
    by_cells r b true e = absurd (none_some c e)
    by_cells r b false e = (ap key_of (sym (same_change _ c e)), refl)

    by : (s : State) (o : Option Row) → update_by s k h.row o ≡ Some c → (key_of c ≡ k) × (is_changed s h.row o ≡ true)
    by State.New o e = absurd (none_some c e)
    by State.Managed None e = absurd (none_some c e)
    by State.Managed (Some b) e = by_cells h.row b (same_cells h.row.cells b.cells) e
    by State.Removed o e = absurd (none_some c e)

delete_says : (k : Key) (o : Option Held) (c : Change) → delete_held k o ≡ Some c → (key_of c ≡ k) × (is_pending o ≡ true)
delete_says k None c e = absurd (none_some c e)
delete_says k (Some h) c e = by h.state h.base e
  where
    by : (s : State) (o : Option Row) → delete_by s k o ≡ Some c → (key_of c ≡ k) × (is_changed s h.row o ≡ true)
    by State.New o e = absurd (none_some c e)
    by State.Managed o e = absurd (none_some c e)
    by State.Removed None e = absurd (none_some c e)
    by State.Removed (Some b) e = (ap key_of (sym (same_change _ c e)), refl)

-- and a pending one is of one of them

more_any : (f : Change → Bool) (o : Option Change) (cs : List Change) → list_any f cs ≡ true → list_any f (cons_option o cs) ≡ true
more_any f None cs e = e
more_any f (Some c) cs e = or_right (f c) (list_any f cs) e

module _ (test : ℕ → Bool) where
  -- the change is of a table that passes the test
  abbrev passes : Change → Bool
  passes c = test (key_of c).entity

  -- a key whose instance has a change that is pending, and whose table passes the test
  record Pending (ps : Pairs) : Type 0 where
    key : Key
    table : test key.entity ≡ true
    pending : is_pending (look_in ps key) ≡ true

  -- what a kind of change says of an instance
  abbrev Says : (Key → Held → Option Change) → Type 0
  Says f = (k : Key) (h : Held) (c : Change) → f k h ≡ Some c → (key_of c ≡ k) × (is_pending (Some h) ≡ true)

  later_one : (p : Key × Held) (ps : Pairs) → are_distinct (p ∷ ps) ≡ true → Pending ps → Pending (p ∷ ps)
  later_one p ps d x = record { key = x.key; table = x.table; pending = by (tested (same_key x.key p.0)) }
    where
      by : Tested (same_key x.key p.0) → is_pending (look_in (p ∷ ps) x.key) ≡ true
      by (inl t) = absurd (false≢true (ap is_pending (sym (ap (look_in ps) (same_key_eq x.key p.0 t) ∙ (both p ps d).0)) ∙ x.pending))
      by (inr t) = rw t x.pending

  of_held : (f : Key → Held → Option Change) → Says f → (ps : Pairs) → are_distinct ps ≡ true → list_any passes (filter_map (λ p. f p.0 p.1) ps) ≡ true → Pending ps
  of_held f s [] d e = absurd (false≢true e)
  of_held f s (p ∷ ps) d e = by (f p.0 p.1) refl (λ x. later_one p ps d (of_held f s ps (both p ps d).1 x)) e
    where
      by : (o : Option Change) → f p.0 p.1 ≡ o → (list_any passes (filter_map (λ p. f p.0 p.1) ps) ≡ true → Pending (p ∷ ps)) →
          list_any passes (cons_option o (filter_map (λ p. f p.0 p.1) ps)) ≡ true → Pending (p ∷ ps)
      by None q i x = i x
      by (Some c) q i x = at_first (tested (passes c))
        where
          at_first : Tested (passes c) → Pending (p ∷ ps)
          at_first (inl t) = record {
            key = p.0;
            table = subst (λ k. test k.entity ≡ true) (s p.0 p.1 c q).0 t;
            pending = rw (same_key_refl p.0) (s p.0 p.1 c q).1;
          }
          at_first (inr t) = i (sym (ap (λ b. b || list_any passes (filter_map (λ p. f p.0 p.1) ps)) t) ∙ x)

  of_removals : (ps : Pairs) (ks : List Key) → list_any passes (deletes_in ps ks) ≡ true → Pending ps
  of_removals ps [] e = absurd (false≢true e)
  of_removals ps (k ∷ ks) e = by (delete_held k (look_in ps k)) refl (λ x. of_removals ps ks x) e
    where
      by : (o : Option Change) → delete_held k (look_in ps k) ≡ o → (list_any passes (deletes_in ps ks) ≡ true → Pending ps) →
          list_any passes (cons_option o (deletes_in ps ks)) ≡ true → Pending ps
      by None q i x = i x
      by (Some c) q i x = at_first (tested (passes c))
        where
          at_first : Tested (passes c) → Pending ps
          at_first (inl t) = record {
            key = k;
            table = subst (λ j. test j.entity ≡ true) (delete_says k (look_in ps k) c q).0 t;
            pending = (delete_says k (look_in ps k) c q).1;
          }
          at_first (inr t) = i (sym (ap (λ b. b || list_any passes (deletes_in ps ks)) t) ∙ x)

  in_held : (f : Key → Held → Option Change) (ps : Pairs) (k : Key) (h : Held) (c : Change) → look_in ps k ≡ Some h → f k h ≡ Some c → passes c ≡ true →
      list_any passes (filter_map (λ p. f p.0 p.1) ps) ≡ true
  in_held f [] k h c l e t = absurd (no_held h l)
    where
      no_held : (x : Held) → ◌≡◌ {A = Option Held} None (Some x) → ⊥
      no_held x e = cc
  in_held f (p ∷ ps) k h c l e t = by (tested (same_key k p.0)) (λ x. in_held f ps k h c x e t)
    where
      same_held : (x y : Held) → Some x ≡ Some y → x ≡ y
      same_held x y e = cc

      by : Tested (same_key k p.0) → (look_in ps k ≡ Some h → list_any passes (filter_map (λ p. f p.0 p.1) ps) ≡ true) → list_any passes (filter_map (λ p. f p.0 p.1) (p ∷ ps)) ≡ true
      by (inl s) i =
          let a : p.1 ≡ h = same_held p.1 h (sym (ap (λ b. cond b (Some p.1) (look_in ps k)) s) ∙ l) in
          let b : f p.0 p.1 ≡ Some c = ap (λ x. f p.0 x) a ∙ (ap (λ x. f x h) (sym (same_key_eq k p.0 s)) ∙ e) in
          rw b (or_left (passes c) (list_any passes (filter_map (λ p. f p.0 p.1) ps)) t)
      by (inr s) i = more_any passes (f p.0 p.1) (filter_map (λ p. f p.0 p.1) ps) (i (sym (ap (λ b. cond b (Some p.1) (look_in ps k)) s) ∙ l))

  in_removals : (ps : Pairs) (ks : List Key) (k : Key) (c : Change) → is_key_in k ks ≡ true → delete_held k (look_in ps k) ≡ Some c → passes c ≡ true →
      list_any passes (deletes_in ps ks) ≡ true
  in_removals ps [] k c i e t = absurd (false≢true i)
  in_removals ps (j ∷ js) k c i e t = by (tested (same_key j k)) (λ x. in_removals ps js k c x e t)
    where
      by : Tested (same_key j k) → (is_key_in k js ≡ true → list_any passes (deletes_in ps js) ≡ true) → list_any passes (deletes_in ps (j ∷ js)) ≡ true
      by (inl s) r =
          let b : delete_held j (look_in ps j) ≡ Some c = ap (λ x. delete_held x (look_in ps x)) (same_key_eq j k s) ∙ e in
          rw b (or_left (passes c) (list_any passes (deletes_in ps js)) t)
      by (inr s) r = more_any passes (delete_held j (look_in ps j)) (deletes_in ps js) (r (sym (ap (λ b. b || is_key_in k js) s) ∙ i))

  module _ (m : MapState) (ks : List Key) (w : Covers ks m.removals m.held) where
    -- which keys are asked
    abbrev asked : Key → Bool
    asked k = test k.entity && is_pending (look_in m.held k)

    abbrev in_three : Bool → Bool → Bool → Bool
    in_three a b c = (a || b) || c

    split : list_any passes (planned m) ≡ in_three (list_any passes (inserts_in m.held)) (list_any passes (updates_in m.held)) (list_any passes (deletes_in m.held m.removals))
    split = list_any-append passes (inserts_in m.held ++ updates_in m.held) (deletes_in m.held m.removals)
        ∙ ap (λ b. b || list_any passes (deletes_in m.held m.removals)) (list_any-append passes (inserts_in m.held) (updates_in m.held))

    planned_is : list_any passes (planned m) ≡ true → Pending m.held
    planned_is e = by (tested (list_any passes (inserts_in m.held))) (tested (list_any passes (updates_in m.held)))
      where
        three : in_three (list_any passes (inserts_in m.held)) (list_any passes (updates_in m.held)) (list_any passes (deletes_in m.held m.removals)) ≡ true
        three = sym split ∙ e

        by : Tested (list_any passes (inserts_in m.held)) → Tested (list_any passes (updates_in m.held)) → Pending m.held
        by (inl i) u = of_held insert_of insert_says m.held w.distinct i
        by (inr i) (inl u) = of_held update_of update_says m.held w.distinct u
        by (inr i) (inr u) = of_removals m.held m.removals (sym (ap (λ a. in_three a (list_any passes (updates_in m.held)) (list_any passes (deletes_in m.held m.removals))) i
            ∙ ap (λ b. in_three false b (list_any passes (deletes_in m.held m.removals))) u) ∙ three)

    is_planned : (k : Key) → test k.entity ≡ true → is_pending (look_in m.held k) ≡ true → list_any passes (planned m) ≡ true
    is_planned k t p = split ∙ by (look_in m.held k) refl p
      where
        goal : Type 0
        goal = in_three (list_any passes (inserts_in m.held)) (list_any passes (updates_in m.held)) (list_any passes (deletes_in m.held m.removals)) ≡ true

        third : list_any passes (deletes_in m.held m.removals) ≡ true → goal
        third e = or_right (list_any passes (inserts_in m.held) || list_any passes (updates_in m.held)) _ e

        early : (list_any passes (inserts_in m.held) || list_any passes (updates_in m.held)) ≡ true → goal
        early e = or_left (list_any passes (inserts_in m.held) || list_any passes (updates_in m.held)) _ e

        by : (o : Option Held) → look_in m.held k ≡ o → is_pending o ≡ true → goal
        by None l p = absurd (false≢true p)
        by (Some h) l p = by_state h.state h.base refl refl p
          where
            by_state : (s : State) (o : Option Row) → h.state ≡ s → h.base ≡ o → is_changed s h.row o ≡ true → goal
            by_state State.New o e f p =
                let i : insert_of k h ≡ Some (Change.Insert k h.row) = rw e refl in
                early (or_left (list_any passes (inserts_in m.held)) _ (in_held insert_of m.held k h (Change.Insert k h.row) l i t))
            by_state State.Managed None e f p = absurd (false≢true p)
            by_state State.Managed (Some b) e f p =
                let c : Change = Change.Update k b.version (record { version = next_version b.version; cells = h.row.cells }) in
                let d : same_cells h.row.cells b.cells ≡ false = undone (same_cells h.row.cells b.cells) p in
                let u : update_of k h ≡ Some c = rw (e, f, d) refl in
                early (or_right (list_any passes (inserts_in m.held)) _ (in_held update_of m.held k h c l u t))
              where
                undone : (b : Bool) → not b ≡ true → b ≡ false
                undone true e = absurd (false≢true e)
                undone false e = refl
            by_state State.Removed None e f p = absurd (false≢true p)
            by_state State.Removed (Some b) e f p =
                let d : delete_held k (look_in m.held k) ≡ Some (Change.Delete k b.version) = rw l (rw (e, f) refl) in
                let g : is_gone (look_in m.held k) ≡ true = rw l (rw e refl) in
                third (in_removals m.held m.removals k (Change.Delete k b.version) (w.gone k g) d t)

    pub any_planned : list_any (λ k. test k.entity && is_pending (look_in m.held k)) ks ≡ list_any (λ c. test (key_of c).entity) (planned m)
    any_planned = same_answer (list_any asked ks) (list_any passes (planned m)) to from
      where
        to : list_any asked ks ≡ true → list_any passes (planned m) ≡ true
        to e =
            let x = one_key asked ks e in
            let y = and_parts (test x.0.entity) (is_pending (look_in m.held x.0)) x.1 in
            is_planned x.0 y.0 y.1

        from : list_any passes (planned m) ≡ true → list_any asked ks ≡ true
        from e =
            let x = planned_is e in
            any_key asked x.key ks (w.pending x.key x.pending) (and_from (test x.key.entity) (is_pending (look_in m.held x.key)) x.table x.pending)

-- nothing is planned if no key is kept
pub none_planned : (m : MapState) (ks : List Key) → length ks ≡ 0 → Covers ks m.removals m.held → planned m ≡ []
none_planned m (k ∷ ks) e w = absurd (omega (arith, e))
none_planned m [] e w = by (planned m) (any_planned (λ n. true) m [] w)
  where
    by : (cs : List Change) → false ≡ list_any (λ c. true) cs → cs ≡ []
    by [] e = refl
    by (c ∷ cs) e = absurd (false≢true e)
