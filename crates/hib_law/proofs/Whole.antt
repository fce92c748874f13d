-- A sound read-write key is coherent at every entry of every legal journal; and what its sessions read, they have seen.
use Rattle.std.specs.Prelude.{unwrap_or, cond, nat_lt}
use Rattle.std.proofs.Common.{◌≡◌, ℕ, ◌<◌, ◌⊎◌, inl, inr, Bool, true, false, List, [], ◌∷◌, Some, None, Option, refl, ap, sym, ◌∙◌, subst}
use Rattle.std.proofs.lemmas.Bool.{true≢false, false≢true, ltb-true}
use Rattle.hib_journal.specs.Types.{Key, Row, Change, Strategy, Miss, Script, Act, Reply, Entry}
use Rattle.hib_base.specs.Keys.{same_key}
use Rattle.hib_base.specs.Tables.{Tables, key_of, row_at, last_on}
use Rattle.hib_journal.specs.Sessions.{Journal, is_by, own, changes, changes_in, changes_after, is_open, is_restart, committed, view}
use Rattle.hib_journal.specs.Slot.{Slot, slot, history}
use Rattle.hib_journal.specs.Regions
use Rattle.hib_journal.specs.Held.{Arrival, arrival, is_begin}
use Rattle.hib_journal.specs.Next.{strategy, is_in}
use Rattle.hib_journal.specs.Legal.{IsLegal, IsReply, reply_of, fault_of, get_reply}
use Rattle.hib_journal.specs.Sound.{is_sound}
use Rattle.hib_journal.specs.Coherence.{Seen}
use Rattle.hib_base.proofs.Tables.{Tested, tested, left_by, row_at_changes}
use Rattle.hib_journal.proofs.Sessions.{is_some_session}
use Rattle.hib_journal.proofs.Slots.{IsKept}
use Rattle.hib_law.proofs.Guarded.{IsRowOf, IsCoherent}
use Rattle.hib_law.proofs.Views.{view_of}
use Rattle.hib_law.proofs.Coherent.{open_before, closed, WasSound, was_sound, kept_history, coherent_at_first, coherent_anew, coherent_next}
use Rattle.hib_law.proofs.HeldRows.{HasRead, not_in_before}
use Rattle.hib_law.proofs.Orderly.{Reads, orderly, removes_none, seen_on, seen_now}
use Rattle.hib_law.proofs.Basics.{none_some, some_same}

-- a row arrives by a Hit or by a Load
pub data Read (k : Key) (b : Row) (a : Act) (r : Reply) : Type 0 where
  ByGet : (t : ℕ) → a ≡ Act.Get k t → r ≡ Reply.Hit b → Read k b a r
  ByLoad : a ≡ Act.Load k → r ≡ Reply.Row (Some b) → Read k b a r

pub read_by : (k : Key) (b : Row) (a : Act) (r : Reply) → arrival a r ≡ Some (Arrival.Read k b) → Read k b a r
read_by k b (Act.Get j t) (Reply.Hit x) e =
    let g : Arrival.Read j x ≡ Arrival.Read k b = some_same e in
    let p : j ≡ k = cc in let q : x ≡ b = cc in
    Read.ByGet t (ap (λ z. Act.Get z t) p) (ap (λ z. Reply.Hit z) q)
read_by k b (Act.Load j) (Reply.Row (Some x)) e =
    let g : Arrival.Read j x ≡ Arrival.Read k b = some_same e in
    let p : j ≡ k = cc in let q : x ≡ b = cc in
    Read.ByLoad (ap (λ z. Act.Load z) p) (ap (λ z. Reply.Row (Some z)) q)
read_by k b (Act.Load j) (Reply.Row None) e = none_some e
read_by k b (Act.Persist j x) Reply.New e = let g : Arrival.Made j x ≡ Arrival.Read k b = some_same e in absurd (cc)
read_by k b _ _ e = none_some e

-- a list of changes that does not name k has no last change on it
pub last_none : (k : Key) (cs : List Change) → is_in k cs ≡ false → last_on k cs ≡ None
last_none k [] p = refl
last_none k (c ∷ cs) p = by_key (tested (same_key (key_of c) k)) p (last_none k cs)
  where
    by_key : Tested (same_key (key_of c) k) → is_in k (c ∷ cs) ≡ false → (is_in k cs ≡ false → last_on k cs ≡ None) → last_on k (c ∷ cs) ≡ None
    by_key (inl x) p i = let g : true ≡ false = rw x at p in absurd (true≢false g)
    by_key (inr x) p i = let g : is_in k cs ≡ false = rw x at p in rw (i g, x)

-- what a session sees of a key that it has not changed
pub view_unchanged : (start : Tables) (h : Journal) (s : ℕ) (k : Key) → is_in k (changes s h) ≡ false → view start h s k ≡ row_at (committed start h) k
view_unchanged start h s k n =
    row_at_changes (changes s h) (committed start h) k ∙ ap (λ o. left_by o (row_at (committed start h) k)) (last_none k (changes s h) n)

-- a Hit is of the item
pub hit_item : (z : Slot) (t : ℕ) (b : Row) → Regions.got z t ≡ Reply.Hit b → (u : ℕ) × (z ≡ Slot.Item b u) × (u < t)
hit_item Slot.Vacant t b e = absurd (cc)
hit_item (Slot.Lock l) t b e = absurd (cc)
hit_item (Slot.Item r u) t b e = by_time (tested (nat_lt u t)) e
  where
    by_time : Tested (nat_lt u t) → Regions.got (Slot.Item r u) t ≡ Reply.Hit b → (v : ℕ) × (Slot.Item r u ≡ Slot.Item b v) × (v < t)
    by_time (inl p) e =
        let g : Reply.Hit r ≡ Reply.Hit b = rw p at e in
        let q : r ≡ b = cc in (u, ap (λ x. Slot.Item x u) q, ltb-true u t p)
    by_time (inr p) e = let g : Reply.Miss (Miss.Young u) ≡ Reply.Hit b = rw p at e in absurd (cc)

module _ (script : Script) (start : Tables) (k : Key) where
  get_fault : (cs : List Change) (t : ℕ) (r : Reply) → fault_of cs (Act.Get k t) ≡ Some r → ⊥
  get_fault cs t r e = none_some e

  load_fault : (b : Bool) (x : Option Row) → cond b None (Some Reply.Fault) ≡ Some (Reply.Row x) → ⊥
  load_fault true x e = none_some e
  load_fault false x e = let g : Reply.Fault ≡ Reply.Row x = some_same e in absurd (cc)

  -- what a Get answers
  pub got_by : (h : Journal) (e : Entry) (t : ℕ) → strategy script k.entity ≡ Strategy.ReadWrite → IsReply script (Some start) h e → e.act ≡ Act.Get k t →
      e.reply ≡ Regions.got (slot script.timeout k h) t
  got_by h e t rw_k r p = elim r [
    | inl q ↦
        let g : e.reply ≡ get_reply (strategy script k.entity) script h k t =
        subst (λ a. e.reply ≡ reply_of script start h (unwrap_or e.session 0) e.tick a) p q in
        g ∙ ap (λ x. get_reply x script h k t) rw_k
    | inr f ↦ absurd (get_fault (changes (unwrap_or e.session 0) h) t e.reply (subst (λ a. fault_of (changes (unwrap_or e.session 0) h) a ≡ Some e.reply) p f))
  ]

  -- what a Load answers
  pub loaded_by : (h : Journal) (e : Entry) (s : ℕ) (x : Option Row) → IsReply script (Some start) h e → e.session ≡ Some s → e.act ≡ Act.Load k → e.reply ≡ Reply.Row x →
      x ≡ view start h s k
  loaded_by h e s x r w p d = elim r [
    | inl q ↦
        let g : e.reply ≡ Reply.Row (view start h (unwrap_or e.session 0) k) = subst (λ a. e.reply ≡ reply_of script start h (unwrap_or e.session 0) e.tick a) p q in
        let f : Reply.Row x ≡ Reply.Row (view start h s k) = sym d ∙ (g ∙ ap (λ o. Reply.Row (view start h (unwrap_or o 0) k)) w) in cc
    | inr f ↦
        let g : fault_of (changes (unwrap_or e.session 0) h) (Act.Load k) ≡ Some (Reply.Row x) =
        subst (λ z. fault_of (changes (unwrap_or e.session 0) h) (Act.Load k) ≡ Some z) d (subst (λ a. fault_of (changes (unwrap_or e.session 0) h) a ≡ Some e.reply) p f) in
        absurd (load_fault (is_in k (changes (unwrap_or e.session 0) h)) x g)
  ]

module _ (script : Script) (start : Tables) (k : Key) (rw_k : strategy script k.entity ≡ Strategy.ReadWrite) where
  -- what is read now is committed
  read_committed : (h : Journal) (e : Entry) (s : ℕ) (b : Row) → IsReply script (Some start) h e → e.session ≡ Some s → IsRowOf (slot script.timeout k h) (row_at (committed start h) k) →
      is_in k (changes s h) ≡ false → Read k b e.act e.reply → row_at (committed start (e ∷ h)) k ≡ Some b
  read_committed h e s b r w c n (Read.ByGet t p q) =
      let g : Regions.got (slot script.timeout k h) t ≡ Reply.Hit b = sym (got_by script start k h e t rw_k r p) ∙ q in
      let z : (u : ℕ) × (slot script.timeout k h ≡ Slot.Item b u) × (u < t) = hit_item (slot script.timeout k h) t b g in
      rw p (subst (λ x. IsRowOf x (row_at (committed start h) k)) z.1 c)
  read_committed h e s b r w c n (Read.ByLoad p q) =
      rw p (sym (view_unchanged start h s k n) ∙ sym (loaded_by script start k h e s (Some b) r w p q))

  pub reads_next : (h : Journal) (e : Entry) → IsLegal script (Some start) (e ∷ h) → is_restart e.act ≡ false → IsRowOf (slot script.timeout k h) (row_at (committed start h) k) →
      Reads script start k rw_k h → Reads script start k rw_k (e ∷ h)
  reads_next h e l n c i s b o m x = by_session (tested (is_by s e))
    where
      by_session : Tested (is_by s e) → Seen start k s b (e ∷ h)
      by_session (inr p) =
          let m2 : HasRead k b (own s h) = rw p at m in
          let x2 : is_in k (changes s h) ≡ false = rw p at x in
          seen_on start k s b e h (rw p refl) (i s b (open_before s e.session e.act (is_open s h) (rw p refl) o) m2 x2)
      by_session (inl p) = by_begin (tested (is_begin e.act))
        where
          by_begin : Tested (is_begin e.act) → Seen start k s b (e ∷ h)
          by_begin (inl y) = let g : ⊥ = rw (p, y) at m in absurd g
          by_begin (inr y) =
              let g : (arrival e.act e.reply ≡ Some (Arrival.Read k b)) ⊎ HasRead k b (own s h) = rw (p, y) at m in
              let x1 : is_in k (changes_after e.act (changes_in (own s h))) ≡ false = rw p at x in
              let x2 : is_in k (changes s h) ≡ false = (not_in_before k e.act (changes_in (own s h)) y x1).0 in
              elim g [
                | inl z ↦ seen_now start k s b e h p y
                    (read_committed h e s b l.1.reply (is_some_session s e.session p) c x2 (read_by k b e.act e.reply z))
                | inr z ↦ seen_on start k s b e h (rw (p, y) refl) (i s b (open_before s e.session e.act (is_open s h) (rw (p, y) refl) o) z x2)
              ]

  pub is_kept : (h : Journal) → IsLegal script (Some start) h → IsKept script.timeout (history k h)
  is_kept h l = kept_history script start k rw_k (removes_none script start k rw_k) h l

  whole : (h : Journal) → IsLegal script (Some start) h → is_sound k h ≡ true → IsCoherent (view_of script start k h) × Reads script start k rw_k h
  whole [] l w = (coherent_at_first script start k rw_k, λ s b o m x. absurd (false≢true o))
  whole (e ∷ h) l w = by_restart (tested (is_restart e.act)) (whole h l.0)
    where
      by_restart : Tested (is_restart e.act) → (is_sound k h ≡ true → IsCoherent (view_of script start k h) × Reads script start k rw_k h) →
          IsCoherent (view_of script start k (e ∷ h)) × Reads script start k rw_k (e ∷ h)
      by_restart (inl r) f = (coherent_anew script start k rw_k h e r, λ s b o m x. absurd (closed s e.session e.act (is_open s h) r o))
      by_restart (inr n) f =
          let z : WasSound k h e = was_sound k h e n w in
          let c : IsCoherent (view_of script start k h) × Reads script start k rw_k h = f z.before in
          (coherent_next script start k rw_k h e l n (orderly script start k rw_k h e l.0 l.1 c.1) z (is_kept h l.0) c.0, reads_next h e l n c.0.holding.item c.1)

  -- a sound key is coherent at every entry
  pub coherent : (h : Journal) → IsLegal script (Some start) h → is_sound k h ≡ true → IsCoherent (view_of script start k h)
  coherent h l w = (whole h l w).0
