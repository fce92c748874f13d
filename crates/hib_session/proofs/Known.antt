-- A memory that takes one more entry stands for it.
use Rattle.std.proofs.Common.{◌≡◌, ℕ, inl, inr, Bool, true, false, cond, not, ◌&&◌, ◌||◌, List, [], ◌∷◌, ◌++◌, map, Some, None, Option, refl, sym, ap, ◌∙◌}
use Rattle.std.specs.List.{filter_map, cons_option, list_any}
use Rattle.std.specs.Option.{option_map}
use Rattle.std.specs.Map.{lookup}
use Rattle.hib_base.specs.Keys.{same_key}
use Rattle.hib_base.proofs.Tables.{same_key_eq, same_key_refl, Tested, tested}
use Rattle.hib_journal.specs.Types.{Key, Row, Change, Held, Act, Reply, Entry}
use Rattle.hib_journal.specs.Sessions.{Journal, time_after, floor_after, changes_after}
use Rattle.hib_journal.specs.Held as held
use Rattle.hib_journal.specs.Held.{Instance, Stay, Arrival, arrival, arrived, arrived_key, is_break, row_written, without_key, stay, longer, inserts, is_inserted, gives_row, is_begin, since_begin, is_fresh, key_removed}
use Rattle.hib_journal.specs.Next.{lock_in, lock_id}
use Rattle.hib_journal.specs.Legal.{outcome_after}
use Rattle.hib_completion.specs.Completed.{is_key_in, or_zero, lock_of}
use Rattle.hib_identity_map.specs.Identity.{MapState, Pairs, look_in, drop_in, change_in, written, as_removed, with_sets}
use Rattle.hib_identity_map.specs.Holds.{shown_of, shown_by, Holds}
use Rattle.hib_session.specs.Memory.{Remembered, with_room, is_unwritten, or_false, marked_in, with_value, with_key, Knows, made, managed, arrive_in, remove_in, unless_broken, map_after, marks_after, fresh_after, locks_after, noted}
use Rattle.hib_session.proofs.KeyMaps.{value_more, key_more}
use Rattle.hib_session.proofs.Kept.{after_write, after_removal, after_sets, unless_unwritten, later, fresh, arrives_other, held_later, held_arrives, held_broken}
use Rattle.hib_journal.proofs.Words.{gives_base}
use Rattle.hib_session.proofs.Orders.{held_key, none_map, later_map, same_map, without_none, without_same, others, dropped_map, join_map, look_changed, look_dropped, look_added, distinct_changed, distinct_dropped, distinct_added, change_at, shown_changed, shown_dropped, shown_added}

-- the instances after an entry, by what it does to those that are held

module _ (ps : Pairs) (mine : Journal) (e : Entry) (h : Holds ps mine) where
  same_arrived : arrival e.act e.reply ≡ None → arrived (e ∷ mine) ≡ arrived mine
  same_arrived a = rw a refl

  holds_same : arrival e.act e.reply ≡ None → ((q : Key) → held.held (e ∷ mine) q ≡ held.held mine q) → Holds ps (e ∷ mine)
  holds_same a s = record {
    instances = λ q. h.instances q ∙ sym (s q);
    order = h.order ∙ (same_map (λ q. held.held mine q) (λ q. held.held (e ∷ mine) q) (arrived mine) (λ q. sym (s q)) ∙ ap (filter_map (λ q. held.held (e ∷ mine) q)) (sym (same_arrived a)));
    distinct = h.distinct;
  }

  holds_broken : is_break e.act e.reply ≡ true → Holds [] (e ∷ mine)
  holds_broken b = record {
    instances = λ q. sym (held_broken q e mine b);
    order = sym (none_map (arrived (e ∷ mine)) (λ q. held.held (e ∷ mine) q) (λ q. held_broken q e mine b));
    distinct = refl;
  }

  shown_change : (k q : Key) (f : Held → Held) (g : Instance → Instance) → ((j : Key) (x : Held) → shown_of j (f x) ≡ g (shown_of j x)) → (b : Bool) (o : Option Held) →
      shown_by q (cond b (option_map f o) o) ≡ cond b (option_map g (shown_by q o)) (shown_by q o)
  shown_change k q f g s true None = refl
  shown_change k q f g s true (Some x) = ap (λ i. Some i) (s q x)
  shown_change k q f g s false o = refl

  holds_changed : (k : Key) (f : Held → Held) (g : Instance → Instance) → ((j : Key) (x : Held) → shown_of j (f x) ≡ g (shown_of j x)) → arrival e.act e.reply ≡ None →
      ((q : Key) → held.held (e ∷ mine) q ≡ cond (same_key k q) (option_map g (held.held mine q)) (held.held mine q)) → Holds (change_in k f ps) (e ∷ mine)
  holds_changed k f g s a n = record {
    instances = λ q. ap (shown_by q) (look_changed k f ps q) ∙ (shown_change k q f g s (same_key k q) (look_in ps q)
        ∙ (ap (λ o. cond (same_key k q) (option_map g o) o) (h.instances q) ∙ sym (n q)));
    order = shown_changed k f g ps s h.distinct ∙ (ap (map (change_at k g)) h.order ∙ sym all_held);
    distinct = distinct_changed k f ps ∙ h.distinct;
  }
    where
      at_one : (q : Key) (o : Option Instance) → cond (same_key k q) (option_map g o) o ≡ option_map (λ i. cond (same_key k q) (g i) i) o
      at_one q o = by (same_key k q) o
        where
          by : (b : Bool) (o : Option Instance) → cond b (option_map g o) o ≡ option_map (λ i. cond b (g i) i) o
          by true None = refl
          by true (Some i) = refl
          by false None = refl
          by false (Some i) = refl

      all_held : filter_map (λ q. held.held (e ∷ mine) q) (arrived (e ∷ mine)) ≡ map (change_at k g) (filter_map (λ q. held.held mine q) (arrived mine))
      all_held =
          ap (filter_map (λ q. held.held (e ∷ mine) q)) (same_arrived a)
          ∙ (same_map (λ q. held.held (e ∷ mine) q) (λ q. option_map (λ i. cond (same_key k q) (g i) i) (held.held mine q)) (arrived mine) (λ q. n q ∙ at_one q (held.held mine q))
          ∙ later_map (λ q i. cond (same_key k q) (g i) i) (λ q. held.held mine q) (arrived mine) (λ q z p. held_key q mine z p))

  shown_drop : (q : Key) (b : Bool) (o : Option Held) → shown_by q (cond b None o) ≡ cond b None (shown_by q o)
  shown_drop q true o = refl
  shown_drop q false o = refl

  holds_dropped : (k : Key) → arrival e.act e.reply ≡ None → ((q : Key) → held.held (e ∷ mine) q ≡ cond (same_key k q) None (held.held mine q)) → Holds (drop_in k ps) (e ∷ mine)
  holds_dropped k a n = record {
    instances = λ q. ap (shown_by q) (look_dropped k ps q h.distinct) ∙ (shown_drop q (same_key k q) (look_in ps q) ∙ (ap (λ o. cond (same_key k q) None o) (h.instances q) ∙ sym (n q)));
    order = shown_dropped k ps h.distinct ∙ (ap (others k) h.order ∙ sym (ap (filter_map (λ q. held.held (e ∷ mine) q)) (same_arrived a)
        ∙ dropped_map (λ q. held.held (e ∷ mine) q) (λ q. held.held mine q) k (arrived mine) (λ q z p. held_key q mine z p) n));
    distinct = distinct_dropped k ps h.distinct;
  }

  holds_arrived : (a : Arrival) (x : Held) → is_break e.act e.reply ≡ false → arrival e.act e.reply ≡ Some a → ((q : Key) → shown_of q x ≡ fresh q a) →
      ((q : Key) → same_key (arrived_key a) q ≡ false → held.held (e ∷ mine) q ≡ held.held mine q) → Holds (arrive_in (arrived_key a) x ps) (e ∷ mine)
  holds_arrived a x b p s n = record {
    instances = λ q. ap (shown_by q) (look_added k x (drop_in k ps) q absent ∙ ap (λ o. cond (same_key k q) (Some x) o) (look_dropped k ps q h.distinct)) ∙ by_key q (tested (same_key k q));
    order = shown_added k x (drop_in k ps) ∙ (ap (λ is. is ++ shown_of k x ∷ []) (shown_dropped k ps h.distinct ∙ ap (others k) h.order) ∙ sym all_held);
    distinct = distinct_added k x (drop_in k ps) absent (distinct_dropped k ps h.distinct);
  }
    where
      k : Key
      k = arrived_key a

      absent : look_in (drop_in k ps) k ≡ None
      absent = look_dropped k ps k h.distinct ∙ rw (same_key_refl k) refl

      arrives : (q : Key) → same_key k q ≡ true → held.held (e ∷ mine) q ≡ Some (fresh q a)
      arrives q d = held_arrives q e mine a b p d

      by_key : (q : Key) → Tested (same_key k q) → shown_by q (cond (same_key k q) (Some x) (cond (same_key k q) None (look_in ps q))) ≡ held.held (e ∷ mine) q
      by_key q (inl d) = rw d (ap (λ i. Some i) (s q) ∙ sym (arrives q d))
      by_key q (inr d) = rw d (h.instances q ∙ sym (n q d))

      -- what is held of the other keys
      rest : Key → Option Instance
      rest q = cond (same_key k q) None (held.held mine q)

      rest_other : (q : Key) → same_key k q ≡ false → held.held (e ∷ mine) q ≡ rest q
      rest_other q d = n q d ∙ rw d refl

      keys : arrived (e ∷ mine) ≡ without_key k (arrived mine) ++ k ∷ []
      keys = rw p refl

      all_held : filter_map (λ q. held.held (e ∷ mine) q) (arrived (e ∷ mine)) ≡ others k (filter_map (λ q. held.held mine q) (arrived mine)) ++ shown_of k x ∷ []
      all_held =
          ap (filter_map (λ q. held.held (e ∷ mine) q)) keys
          ∙ (join_map (λ q. held.held (e ∷ mine) q) (without_key k (arrived mine)) (k ∷ [])
          ∙ (ap (λ is. is ++ filter_map (λ q. held.held (e ∷ mine) q) (k ∷ []))
          (without_same (λ q. held.held (e ∷ mine) q) (λ q. cond (same_key k q) None (held.held mine q)) k (arrived mine) rest_other
          ∙ (without_none (λ q. cond (same_key k q) None (held.held mine q)) k (arrived mine) (rw (same_key_refl k) refl)
          ∙ dropped_map (λ q. cond (same_key k q) None (held.held mine q)) (λ q. held.held mine q) k (arrived mine) (λ q z y. held_key q mine z y) (λ q. refl)))
          ∙ ap (λ o. others k (filter_map (λ q. held.held mine q) (arrived mine)) ++ cons_option o []) (arrives k (same_key_refl k) ∙ ap (λ i. Some i) (sym (s k)))))

-- the marks: which instances were never written

or_test : {A B : Type 0} (f : Option A → B) (b : Bool) (v : A) (o : Option A) → f (cond b (Some v) o) ≡ cond b (f (Some v)) (f o)
or_test f true v o = refl
or_test f false v o = refl

marked_more : (k : Key) (ms : List (Key × Bool)) (j : Key) (b : Bool) → marked_in k (with_value j b ms) ≡ cond (same_key j k) b (marked_in k ms)
marked_more k ms j b = ap or_false (value_more k j b ms) ∙ or_test or_false (same_key j k) b (lookup (same_key k) ms)

lock_more : (k : Key) (ls : List (Key × ℕ)) (j : Key) (n : ℕ) → lock_of k (with_value j n ls) ≡ cond (same_key j k) n (lock_of k ls)
lock_more k ls j n = ap or_zero (value_more k j n ls) ∙ or_test or_zero (same_key j k) n (lookup (same_key k) ls)

unwritten_longer : (k : Key) (e : Entry) (o : Option Stay) → is_unwritten k (longer e o) ≡ (not (inserts k e.act) && is_unwritten k o)
unwritten_longer k e None = by (inserts k e.act)
  where
    by : (b : Bool) → false ≡ (not b && false)
    by true = refl
    by false = refl
unwritten_longer k e (Some (Arrival.Read j r, m)) = by (inserts k e.act)
  where
    by : (b : Bool) → false ≡ (not b && false)
    by true = refl
    by false = refl
unwritten_longer k e (Some (Arrival.Made j r, m)) = by (inserts k e.act) (is_inserted k m)
  where
    by : (a b : Bool) → not (a || b) ≡ (not a && not b)
    by true b = refl
    by false b = refl

-- how an arrival changes that
abbrev unwritten_arrival : Key → Option Arrival → Bool → Bool
unwritten_arrival k None b = b
unwritten_arrival k (Some (Arrival.Read j r)) b = cond (same_key j k) false b
unwritten_arrival k (Some (Arrival.Made j r)) b = cond (same_key j k) true b

unwritten_after : (k : Key) (e : Entry) (a : Option Arrival) (o : Option Stay) → is_unwritten k (held.stay_after k e a o) ≡ unwritten_arrival k a (not (inserts k e.act) && is_unwritten k o)
unwritten_after k e None o = unwritten_longer k e o
unwritten_after k e (Some (Arrival.Read j r)) o = by (same_key j k) (unwritten_longer k e o)
  where
    by : (b : Bool) → is_unwritten k (longer e o) ≡ (not (inserts k e.act) && is_unwritten k o) →
        is_unwritten k (cond b (Some (Arrival.Read j r, [])) (longer e o)) ≡ cond b false (not (inserts k e.act) && is_unwritten k o)
    by true i = refl
    by false i = i
unwritten_after k e (Some (Arrival.Made j r)) o = by (same_key j k) (unwritten_longer k e o)
  where
    by : (b : Bool) → is_unwritten k (longer e o) ≡ (not (inserts k e.act) && is_unwritten k o) →
        is_unwritten k (cond b (Some (Arrival.Made j r, [])) (longer e o)) ≡ cond b true (not (inserts k e.act) && is_unwritten k o)
    by true i = refl
    by false i = i

unwritten_next : (k : Key) (e : Entry) (m : Journal) → is_break e.act e.reply ≡ false →
    is_unwritten k (stay k (e ∷ m)) ≡ unwritten_arrival k (arrival e.act e.reply) (not (inserts k e.act) && is_unwritten k (stay k m))
unwritten_next k e m b = rw b (unwritten_after k e (arrival e.act e.reply) (stay k m))

or_comm : (a b : Bool) → (a || b) ≡ (b || a)
or_comm true true = refl
or_comm true false = refl
or_comm false true = refl
or_comm false false = refl

fresh_next : (k : Key) (e : Entry) (m : Journal) → is_fresh k (e ∷ m) ≡ cond (is_begin e.act) false (gives_row k (arrival e.act e.reply) (row_written k e.act) || is_fresh k m)
fresh_next k e m = by (is_begin e.act)
  where
    by : (b : Bool) → list_any (λ d. gives_base k d) (cond b [] (e ∷ since_begin m)) ≡ cond b false (gives_row k (arrival e.act e.reply) (row_written k e.act) || is_fresh k m)
    by true = refl
    by false = refl

written_gives : (k j : Key) (r : Row) → gives_row k None (cond (same_key j k) (Some r) None) ≡ same_key j k
written_gives k j r = by (same_key j k)
  where
    by : (b : Bool) → gives_row k None (cond b (Some r) None) ≡ b
    by true = refl
    by false = refl

removals_after : (u : Key → Bool) (a : Act) (r : Reply) (m : MapState) → (map_after u a r m).removals ≡ key_removed a r m.removals
removals_after u (Act.Write (Change.Insert j row)) r m = refl
removals_after u (Act.Write (Change.Update j v row)) r m = refl
removals_after u (Act.Write (Change.Delete j v)) r m = refl
removals_after u (Act.Remove j) Reply.Removed m = refl
removals_after u (Act.Persist j row) Reply.New m = refl
removals_after u (Act.Load j) (Reply.Row (Some row)) m = refl
removals_after u (Act.Get j t) (Reply.Hit row) m = refl
removals_after u (Act.Set j cells) Reply.Set m = refl
removals_after u _ r m = refl

module _ (x : Remembered) (mine : Journal) (e : Entry) (k : Knows x mine) where
  two : {T : Type 0} (f : Act → Reply → T) (a : Act) (r : Reply) → e.act ≡ a → e.reply ≡ r → f e.act e.reply ≡ f a r
  two f a r p q = ap (λ b. f b e.reply) p ∙ ap (f a) q

  module _ (a : Act) (r : Reply) (p : e.act ≡ a) (q : e.reply ≡ r) where
    breaks : (b : Bool) → is_break a r ≡ b → is_break e.act e.reply ≡ b
    breaks b h = two is_break a r p q ∙ h

    arrives : (o : Option Arrival) → arrival a r ≡ o → arrival e.act e.reply ≡ o
    arrives o h = two arrival a r p q ∙ h

    now : is_break a r ≡ false → (o : Option Arrival) → arrival a r ≡ o → (j : Key) → arrives_other j o ≡ true →
        held.held (e ∷ mine) j ≡ later (is_unwritten j (stay j mine)) j a r (held.held mine j)
    now b o n j t = held_later j e mine (breaks false b) (ap (arrives_other j) (arrives o n) ∙ t)
        ∙ two (λ z y. later (is_unwritten j (stay j mine)) j z y (held.held mine j)) a r p q

    holds_kept : is_break a r ≡ false → arrival a r ≡ None → ((j : Key) → later (is_unwritten j (stay j mine)) j a r (held.held mine j) ≡ held.held mine j) → Holds x.instances.held (e ∷ mine)
    holds_kept b n s = holds_same x.instances.held mine e k.holds (arrives None n) (λ j. now b None n j refl ∙ s j)

    holds_at : (j : Key) (f : Held → Held) (g : Instance → Instance) → ((i : Key) (h : Held) → shown_of i (f h) ≡ g (shown_of i h)) → is_break a r ≡ false → arrival a r ≡ None →
        ((i : Key) → later (is_unwritten i (stay i mine)) i a r (held.held mine i) ≡ cond (same_key j i) (option_map g (held.held mine i)) (held.held mine i)) → Holds (change_in j f x.instances.held) (e ∷ mine)
    holds_at j f g s b n l = holds_changed x.instances.held mine e k.holds j f g s (arrives None n) (λ i. now b None n i refl ∙ l i)

    holds_without : (j : Key) → is_break a r ≡ false → arrival a r ≡ None →
        ((i : Key) → later (is_unwritten i (stay i mine)) i a r (held.held mine i) ≡ cond (same_key j i) None (held.held mine i)) → Holds (drop_in j x.instances.held) (e ∷ mine)
    holds_without j b n l = holds_dropped x.instances.held mine e k.holds j (arrives None n) (λ i. now b None n i refl ∙ l i)

    holds_with : (n : Arrival) (h : Held) → is_break a r ≡ false → arrival a r ≡ Some n → ((i : Key) → shown_of i h ≡ fresh i n) →
        ((i : Key) → later (is_unwritten i (stay i mine)) i a r (held.held mine i) ≡ held.held mine i) → Holds (arrive_in (arrived_key n) h x.instances.held) (e ∷ mine)
    holds_with n h b t s l = holds_arrived x.instances.held mine e k.holds n h (breaks false b) (arrives (Some n) t) s
        (λ i d. now b (Some n) t i (ap not d) ∙ l i)

    holds_removed : (j : Key) (b : Bool) → marked_in j x.marks ≡ b → a ≡ Act.Remove j → r ≡ Reply.Removed → Holds (remove_in b j x.instances.held) (e ∷ mine)
    holds_removed j true m i z = holds_dropped x.instances.held mine e k.holds j (two arrival (Act.Remove j) Reply.Removed (p ∙ i) (q ∙ z))
        (λ y. held_later y e mine (two is_break (Act.Remove j) Reply.Removed (p ∙ i) (q ∙ z)) (ap (arrives_other y) (two arrival (Act.Remove j) Reply.Removed (p ∙ i) (q ∙ z)))
        ∙ (two (λ c d. later (is_unwritten y (stay y mine)) y c d (held.held mine y)) (Act.Remove j) Reply.Removed (p ∙ i) (q ∙ z) ∙ by y (tested (same_key j y))))
      where
        by : (y : Key) → Tested (same_key j y) → cond (same_key j y) (unless_unwritten (is_unwritten y (stay y mine)) (held.held mine y)) (held.held mine y) ≡ cond (same_key j y) None (held.held mine y)
        by y (inl t) =
            let v : is_unwritten y (stay y mine) ≡ true = sym (k.unwritten y) ∙ (ap (λ i. marked_in i x.marks) (sym (same_key_eq j y t)) ∙ m) in
            rw (t, v) refl
        by y (inr t) = rw t refl
    holds_removed j false m i z = holds_changed x.instances.held mine e k.holds j as_removed after_removal (λ c d. refl) (two arrival (Act.Remove j) Reply.Removed (p ∙ i) (q ∙ z))
        (λ y. held_later y e mine (two is_break (Act.Remove j) Reply.Removed (p ∙ i) (q ∙ z)) (ap (arrives_other y) (two arrival (Act.Remove j) Reply.Removed (p ∙ i) (q ∙ z)))
        ∙ (two (λ c d. later (is_unwritten y (stay y mine)) y c d (held.held mine y)) (Act.Remove j) Reply.Removed (p ∙ i) (q ∙ z) ∙ by y (tested (same_key j y))))
      where
        by : (y : Key) → Tested (same_key j y) → cond (same_key j y) (unless_unwritten (is_unwritten y (stay y mine)) (held.held mine y)) (held.held mine y)
            ≡ cond (same_key j y) (option_map after_removal (held.held mine y)) (held.held mine y)
        by y (inl t) =
            let v : is_unwritten y (stay y mine) ≡ false = sym (k.unwritten y) ∙ (ap (λ i. marked_in i x.marks) (sym (same_key_eq j y t)) ∙ m) in
            rw (t, v) refl
        by y (inr t) = rw t refl

  holds_commit : (r : Reply) → e.act ≡ Act.Commit → e.reply ≡ r → (b : Bool) → is_break Act.Commit r ≡ b → Holds (unless_broken b x.instances.held) (e ∷ mine)
  holds_commit r p q true b = holds_broken x.instances.held mine e k.holds (breaks Act.Commit r p q true b)
  holds_commit r p q false b = holds_kept Act.Commit r p q b refl (λ j. refl)

  holds_after : (a : Act) (r : Reply) → e.act ≡ a → e.reply ≡ r → Holds (map_after (λ j. marked_in j x.marks) a r x.instances).held (e ∷ mine)
  holds_after (Act.Persist j row) Reply.New p q = holds_with (Act.Persist j row) Reply.New p q (Arrival.Made j row) (made row) refl refl (λ i. refl) (λ i. refl)
  holds_after (Act.Load j) (Reply.Row (Some row)) p q = holds_with (Act.Load j) (Reply.Row (Some row)) p q (Arrival.Read j row) (managed row) refl refl (λ i. refl) (λ i. refl)
  holds_after (Act.Get j t) (Reply.Hit row) p q = holds_with (Act.Get j t) (Reply.Hit row) p q (Arrival.Read j row) (managed row) refl refl (λ i. refl) (λ i. refl)
  holds_after (Act.Write (Change.Insert j row)) r p q = holds_at (Act.Write (Change.Insert j row)) r p q j (written row) (after_write row) (λ i h. refl) refl refl (λ i. refl)
  holds_after (Act.Write (Change.Update j v row)) r p q = holds_at (Act.Write (Change.Update j v row)) r p q j (written row) (after_write row) (λ i h. refl) refl refl (λ i. refl)
  holds_after (Act.Write (Change.Delete j v)) r p q = holds_without (Act.Write (Change.Delete j v)) r p q j refl refl (λ i. refl)
  holds_after (Act.Set j cells) Reply.Set p q = holds_at (Act.Set j cells) Reply.Set p q j (with_sets cells) (after_sets cells) (λ i h. refl) refl refl (λ i. refl)
  holds_after (Act.Remove j) Reply.Removed p q = holds_removed (Act.Remove j) Reply.Removed p q j (marked_in j x.marks) refl refl refl
  holds_after Act.Commit r p q = holds_commit r p q (is_break Act.Commit r) refl
  holds_after Act.Rollback r p q = holds_broken x.instances.held mine e k.holds (breaks Act.Rollback r p q true refl)
  holds_after Act.Clear r p q = holds_broken x.instances.held mine e k.holds (breaks Act.Clear r p q true refl)
  holds_after a r p q = holds_kept a r p q refl refl (λ j. refl)

  -- the marks

  marks_next : (j : Key) (a : Act) (r : Reply) → e.act ≡ a → e.reply ≡ r → is_break a r ≡ false →
      is_unwritten j (stay j (e ∷ mine)) ≡ unwritten_arrival j (arrival a r) (not (inserts j a) && marked_in j x.marks)
  marks_next j a r p q b =
      unwritten_next j e mine (breaks a r p q false b)
      ∙ (two (λ c d. unwritten_arrival j (arrival c d) (not (inserts j c) && is_unwritten j (stay j mine))) a r p q
      ∙ ap (λ t. unwritten_arrival j (arrival a r) (not (inserts j a) && t)) (sym (k.unwritten j)))

  marks_broken : (j : Key) → is_break e.act e.reply ≡ true → false ≡ is_unwritten j (stay j (e ∷ mine))
  marks_broken j b = rw b refl

  marks_commit : (j : Key) (r : Reply) → e.act ≡ Act.Commit → e.reply ≡ r → (b : Bool) → is_break Act.Commit r ≡ b → marked_in j (unless_broken b x.marks) ≡ is_unwritten j (stay j (e ∷ mine))
  marks_commit j r p q true b = marks_broken j (breaks Act.Commit r p q true b)
  marks_commit j r p q false b = sym (marks_next j Act.Commit r p q b)

  and_cond : (b c : Bool) → cond b false c ≡ (not b && c)
  and_cond true c = refl
  and_cond false c = refl

  unwritten_noted : (j : Key) (a : Act) (r : Reply) → e.act ≡ a → e.reply ≡ r → marked_in j (marks_after a r x.marks) ≡ is_unwritten j (stay j (e ∷ mine))
  unwritten_noted j (Act.Persist i row) Reply.New p q = marked_more j x.marks i true ∙ sym (marks_next j (Act.Persist i row) Reply.New p q refl)
  unwritten_noted j (Act.Load i) (Reply.Row (Some row)) p q = marked_more j x.marks i false ∙ sym (marks_next j (Act.Load i) (Reply.Row (Some row)) p q refl)
  unwritten_noted j (Act.Get i t) (Reply.Hit row) p q = marked_more j x.marks i false ∙ sym (marks_next j (Act.Get i t) (Reply.Hit row) p q refl)
  unwritten_noted j (Act.Write (Change.Insert i row)) r p q =
      marked_more j x.marks i false ∙ (and_cond (same_key i j) (marked_in j x.marks) ∙ sym (marks_next j (Act.Write (Change.Insert i row)) r p q refl))
  unwritten_noted j (Act.Write (Change.Update i v row)) r p q = sym (marks_next j (Act.Write (Change.Update i v row)) r p q refl)
  unwritten_noted j (Act.Write (Change.Delete i v)) r p q = sym (marks_next j (Act.Write (Change.Delete i v)) r p q refl)
  unwritten_noted j Act.Commit r p q = marks_commit j r p q (is_break Act.Commit r) refl
  unwritten_noted j Act.Rollback r p q = marks_broken j (breaks Act.Rollback r p q true refl)
  unwritten_noted j Act.Clear r p q = marks_broken j (breaks Act.Clear r p q true refl)
  unwritten_noted j a r p q = sym (marks_next j a r p q refl)

  -- the keys whose base is fresh

  fresh_by : (j : Key) (a : Act) (r : Reply) → e.act ≡ a → e.reply ≡ r →
      is_fresh j (e ∷ mine) ≡ cond (is_begin a) false (gives_row j (arrival a r) (row_written j a) || is_key_in j x.fresh)
  fresh_by j a r p q =
      fresh_next j e mine ∙ (two (λ c d. cond (is_begin c) false (gives_row j (arrival c d) (row_written j c) || is_fresh j mine)) a r p q
      ∙ ap (λ t. cond (is_begin a) false (gives_row j (arrival a r) (row_written j a) || t)) (sym (k.fresh j)))

  fresh_more : (i j : Key) → is_key_in j (with_key i x.fresh) ≡ (same_key i j || is_key_in j x.fresh)
  fresh_more i j = key_more j i x.fresh ∙ or_comm (is_key_in j x.fresh) (same_key i j)

  fresh_write : (i j : Key) (row : Row) → is_key_in j (with_key i x.fresh) ≡ (gives_row j None (cond (same_key i j) (Some row) None) || is_key_in j x.fresh)
  fresh_write i j row = fresh_more i j ∙ ap (λ t. t || is_key_in j x.fresh) (sym (written_gives j i row))

  fresh_noted : (j : Key) (a : Act) (r : Reply) → e.act ≡ a → e.reply ≡ r → is_key_in j (fresh_after a r x.fresh) ≡ is_fresh j (e ∷ mine)
  fresh_noted j (Act.Load i) (Reply.Row (Some row)) p q = fresh_more i j ∙ sym (fresh_by j (Act.Load i) (Reply.Row (Some row)) p q)
  fresh_noted j (Act.Get i t) (Reply.Hit row) p q = fresh_more i j ∙ sym (fresh_by j (Act.Get i t) (Reply.Hit row) p q)
  fresh_noted j (Act.Write (Change.Insert i row)) r p q = fresh_write i j row ∙ sym (fresh_by j (Act.Write (Change.Insert i row)) r p q)
  fresh_noted j (Act.Write (Change.Update i v row)) r p q = fresh_write i j row ∙ sym (fresh_by j (Act.Write (Change.Update i v row)) r p q)
  fresh_noted j (Act.Write (Change.Delete i v)) r p q = sym (fresh_by j (Act.Write (Change.Delete i v)) r p q)
  fresh_noted j (Act.Persist i row) Reply.New p q = sym (fresh_by j (Act.Persist i row) Reply.New p q)
  fresh_noted j a r p q = sym (fresh_by j a r p q)

  locks_noted : (j : Key) (a : Act) (r : Reply) → e.act ≡ a → e.reply ≡ r → lock_of j (locks_after a r x.locks) ≡ lock_in j a r (lock_id j mine)
  locks_noted j (Act.Lock i v f) (Reply.Locked l) p q = lock_more j x.locks i l.id ∙ ap (λ n. cond (same_key i j) l.id n) (k.locks j)
  locks_noted j _ r p q = k.locks j

  -- the memory that takes an entry stands for it
  pub knows_noted : Knows (noted x e) (e ∷ mine)
  knows_noted = record {
    time = ap (time_after e.act e.tick) k.time;
    floor = ap (floor_after e.act e.reply) k.floor;
    changes = ap (changes_after e.act) k.changes;
    outcome = ap (outcome_after e.act e.reply) k.outcome;
    holds = holds_after e.act e.reply refl refl;
    removals = removals_after (λ j. marked_in j x.marks) e.act e.reply x.instances ∙ ap (key_removed e.act e.reply) k.removals;
    unwritten = λ j. unwritten_noted j e.act e.reply refl refl;
    fresh = λ j. fresh_noted j e.act e.reply refl refl;
    locks = λ j. locks_noted j e.act e.reply refl refl;
  }

-- whatever room it has
pub knows_room : (b : Bool) (x : Remembered) (mine : Journal) → Knows x mine → Knows (with_room b x) mine
knows_room b x mine k = record {
  time = k.time;
  floor = k.floor;
  changes = k.changes;
  outcome = k.outcome;
  holds = k.holds;
  removals = k.removals;
  unwritten = k.unwritten;
  fresh = k.fresh;
  locks = k.locks;
}
