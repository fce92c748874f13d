-- The claims on cached rows and on finds.
use Rattle.std.specs.Prelude.{unwrap_or}
use Rattle.std.specs.Option.{option_map_or}
use Rattle.std.proofs.Common.{◌≡◌, ℕ, ◌<◌, inl, inr, Bool, true, false, cond, ◌&&◌, nat_le, [], ◌∷◌, Some, None, Option, refl, ap, sym, ◌∙◌, subst, eq-eqb}
use Rattle.hib_journal.specs.Types.{Key, Row, Change, Strategy, Miss, Script, Act, Reply, Entry}
use Rattle.hib_base.specs.Tables.{Tables, row_at, last_on, row_left}
use Rattle.hib_journal.specs.Sessions.{Journal, own, changes, committed}
use Rattle.hib_journal.specs.Slot.{Slot, slot, history}
use Rattle.hib_journal.specs.Room.{item}
use Rattle.hib_journal.specs.Regions
use Rattle.hib_journal.specs.Held.{held}
use Rattle.hib_journal.specs.Next.{strategy}
use Rattle.hib_journal.specs.Legal.{IsLegal, IsStep, IsReply, reply_of, fault_of, row_of, get_reply}
use Rattle.hib_journal.specs.Sound.{is_sound}
use Rattle.hib_law.specs.Prefixes.{AtEachPrefix, AtEachEntry}
use Rattle.hib_law.specs.Rows.{IsItemCommitted, IsHitCommitted, WasCommitted, IsFindAnswered, IsKeyCoherent}
use Rattle.hib_law.specs.Items.{IsItemOld}
use Rattle.hib_base.proofs.Tables.{left_by, row_at_changes, same_key_refl}
use Rattle.hib_law.proofs.Guarded.{IsRowOf}
use Rattle.hib_law.proofs.Working.{Allowed}
use Rattle.hib_law.proofs.Blocks.{allowed_act}
use Rattle.hib_law.proofs.Whole.{coherent, got_by, loaded_by, hit_item}
use Rattle.hib_law.proofs.Basics.{none_some, replied}
use Rattle.hib_law.proofs.Stored.{is_item_old}

own_same : (c : Option Change) (r : Option Row) → left_by c r ≡ option_map_or row_left c r
own_same None r = refl
own_same (Some c) r = refl

-- what an own Find answers
find_by : (script : Script) (start : Tables) (k : Key) (h : Journal) (e : Entry) (s : ℕ) (o : Option Row) → IsReply script (Some start) h e →
    e.session ≡ Some s → e.act ≡ Act.Find k → e.reply ≡ Reply.Row o → o ≡ row_of (held (own s h) k)
find_by script start k h e s o r w p d = elim r [
  | inl q ↦
      let g : e.reply ≡ Reply.Row (row_of (held (own (unwrap_or e.session 0) h) k)) = subst (λ a. e.reply ≡ reply_of script start h (unwrap_or e.session 0) e.tick a) p q in
      let f : Reply.Row o ≡ Reply.Row (row_of (held (own s h) k)) = sym d ∙ (g ∙ ap (λ x. Reply.Row (row_of (held (own (unwrap_or x 0) h) k))) w) in cc
  | inr f ↦
      let g : fault_of (changes (unwrap_or e.session 0) h) (Act.Find k) ≡ Some e.reply = subst (λ a. fault_of (changes (unwrap_or e.session 0) h) a ≡ Some e.reply) p f in
      none_some g
]

module _ (script : Script) (start : Tables) (k : Key) (rw_k : strategy script k.entity ≡ Strategy.ReadWrite) where
  pub item_committed : (h : Journal) → IsLegal script (Some start) h → is_sound k h ≡ true → IsItemCommitted script start k h
  item_committed h l w r t p = subst (λ x. IsRowOf x (row_at (committed start h) k)) p (coherent script start k rw_k h l w).holding.item

  hit_committed : (h : Journal) (e : Entry) → IsLegal script (Some start) h → IsStep script (Some start) h e → is_sound k h ≡ true → IsHitCommitted start k h e
  hit_committed h e l t w s u r b p q =
      let g : Regions.got (slot script.timeout k h) u ≡ Reply.Hit r = sym (got_by script start k h e u rw_k t.reply p) ∙ q in
      let z : (v : ℕ) × (slot script.timeout k h ≡ Slot.Item r v) × (v < u) = hit_item (slot script.timeout k h) u r g in
      let a : Allowed script k (own s h) (Act.Get k u) =
      subst (λ x. Allowed script k (own s h) x) p (allowed_act script start k s rw_k h e l t (rw b (eq-eqb s s refl))) in
      (item_committed h l w r z.0 z.1, a (same_key_refl k))

  pub key_coherent : (h : Journal) → IsLegal script (Some start) h → IsKeyCoherent script start k h
  key_coherent h l = record { item = items h l; hit = hits h l }
    where
      items : (h : Journal) → IsLegal script (Some start) h → AtEachPrefix (λ g. is_sound k g ≡ true → IsItemCommitted script start k g) h
      items [] l = item_committed [] l
      items (e ∷ h) l = (item_committed (e ∷ h) l, items h l.0)

      hits : (h : Journal) → IsLegal script (Some start) h → AtEachEntry (λ g e. is_sound k g ≡ true → IsHitCommitted start k g e) h
      hits [] l = tt
      hits (e ∷ h) l = (hit_committed h e l.0 l.1, hits h l.0)

-- finds of any key

item_hit : (by_time : Bool) (t : ℕ) (i : Option (Row × ℕ)) (r : Row) → Regions.got_item by_time t i ≡ Reply.Hit r → (u : ℕ) × (i ≡ Some (r, u))
item_hit by_time t None r e = absurd (cc)
item_hit by_time t (Some p) r e = by_test (by_time && nat_le t p.1) e
  where
    same : Reply.Hit p.0 ≡ Reply.Hit r → p.0 ≡ r
    same e = cc

    by_test : (b : Bool) → cond b (Reply.Miss (Miss.Young p.1)) (Reply.Hit p.0) ≡ Reply.Hit r → (u : ℕ) × (Some p ≡ Some (r, u))
    by_test true e = absurd (cc)
    by_test false e = (p.1, ap (λ x. Some (x, p.1)) (same e))

module _ (script : Script) (start : Tables) where
  -- a Hit answers the item that is there
  hit_old : (h : Journal) (k : Key) (t : ℕ) (r : Row) → IsItemOld script start k h → (g : Strategy) → get_reply g script h k t ≡ Reply.Hit r → WasCommitted start k r h
  hit_old h k t r o Strategy.ReadWrite e =
      let z : (v : ℕ) × (slot script.timeout k h ≡ Slot.Item r v) × (v < t) = hit_item (slot script.timeout k h) t r e in o.slot r z.0 z.1
  hit_old h k t r o Strategy.ReadOnly e = let z : (u : ℕ) × (item (history k h) ≡ Some (r, u)) = item_hit true t (item (history k h)) r e in o.item r z.0 z.1
  hit_old h k t r o Strategy.Nonstrict e = let z : (u : ℕ) × (item (history k h) ≡ Some (r, u)) = item_hit false t (item (history k h)) r e in o.item r z.0 z.1
  hit_old h k t r o Strategy.Uncached e = let z : (u : ℕ) × (item (history k h) ≡ Some (r, u)) = item_hit false t (item (history k h)) r e in o.item r z.0 z.1

  find_answered : (h : Journal) (e : Entry) → IsLegal script (Some start) h → IsStep script (Some start) h e → IsFindAnswered start h e
  find_answered h e l t = record {
    hit = λ k u r p q. hit_old h k u r (is_item_old script start k h l) (strategy script k.entity) (sym (replied script start h e (Act.Get k u) t.reply p (λ cs. refl)) ∙ q);
    load = λ s k o b p q. loaded_by script start k h e s o t.reply b p q
        ∙ (row_at_changes (changes s h) (committed start h) k ∙ own_same (last_on k (changes s h)) (row_at (committed start h) k));
    own = λ s k o b p q. find_by script start k h e s o t.reply b p q;
  }

  pub finds_answered : (h : Journal) → IsLegal script (Some start) h → AtEachEntry (IsFindAnswered start) h
  finds_answered [] l = tt
  finds_answered (e ∷ h) l = (find_answered h e l.0 l.1, finds_answered h l.0)
