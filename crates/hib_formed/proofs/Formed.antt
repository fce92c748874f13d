-- Each entry of a legal journal is well formed, over rows that fit.
use Rattle.std.specs.Prelude.{option_map, unwrap_or}
use Rattle.std.specs.Option.{option_map_or}
use Rattle.std.proofs.Common.{◌≡◌, ◌⊎◌, inl, inr, ℕ, ◌+◌, ◌≤◌, ◌^◌, Bool, true, false, cond, ◌&&◌, ◌==◌, List, [], ◌∷◌, length, map, nat_lt, nat_le, reverse, slice_get, Some, None, Option, refl, sym, ap, ◌∙◌, subst, eq-eqb, arith}
use Rattle.std.proofs.lemmas.Bool.{false≢true, and_parts, and_from, lt-ltb}
use Rattle.std.proofs.lemmas.Option.{slice_get_within}
use Rattle.std.proofs.lemmas.List.Elements.{All-from_recursion}
use Rattle.std.specs.List.{AllByRecursion, list_all}
use Rattle.hib_base.specs.Apart.{are_apart_by}
use Rattle.hib_base.specs.Fits
use Rattle.hib_base.specs.Fits.{kind_in, is_of_type_in, are_of_types, entity_columns, fits_statement}
use Rattle.hib_base.specs.Scripts.{is_known, lists_known}
use Rattle.hib_base.specs.Tables.{Tables}
use Rattle.hib_base.specs.Valid.{is_valid}
use Rattle.hib_base.proofs.Lists.{all_at}
use Rattle.hib_base.proofs.Valid.{Rules, rules}
use Rattle.hib_journal.specs.Types.{Cell, Change, ColumnDef, Statement, SessionDef, Script, Part, Act, Reply, Commit, Entry}
use Rattle.hib_journal.specs.Sessions.{Journal, own, is_by, is_open, was_killed, changes, is_empty}
use Rattle.hib_journal.specs.Runs.{IsNumbered, names_identifier, name_identifiers}
use Rattle.hib_journal.specs.Plan.{Plan, left_of, first_act, after}
use Rattle.hib_journal.specs.Next.{next, plan_of, is_cached, is_in}
use Rattle.hib_journal.specs.Legal
use Rattle.hib_journal.specs.Legal.{IsLegal, IsStep, due_by, may_come, is_outside, reply_of, fault_of}
use Rattle.hib_journal.proofs.Steps.{next_act, next_is, steps_in_order}
use Rattle.hib_entry_fields.specs.Known
use Rattle.hib_entry_fields.specs.Known.{is_key, is_session, is_tick, is_cell}
use Rattle.hib_entry_texts.specs.WellFormed.{is_act, is_reply, part_of, is_actor, IsEntry, AreEntries}
use Rattle.hib_formed.specs.Fitting.{AreFit}
use Rattle.hib_formed.specs.Early.{AreEarly}
use Rattle.hib_formed.proofs.Each.{none_some, each_onto}
use Rattle.hib_formed.proofs.Goods.{IsGood, AllGood, early_tick, own_good, open_session, cached_entity}
use Rattle.hib_formed.proofs.Rows.{typed_cell, typed_cells, rows_start}
use Rattle.hib_formed.proofs.Walk.{IsSaid, next_good}
use Rattle.hib_formed.proofs.Replies.{reply_good}

-- ---- what statements say

module _ (script : Script) where
  set_said : (n : ℕ) (x : ℕ × Cell) → Fits.is_set (entity_columns script.mapping n) x ≡ true → Known.is_set script n x ≡ true
  set_said n x h = by (slice_get (entity_columns script.mapping n) x.0) refl h
    where
      by : (o : Option ColumnDef) → slice_get (entity_columns script.mapping n) x.0 ≡ o → is_of_type_in (kind_in o) x.1 ≡ true → Known.is_set script n x ≡ true
      by None e f = absurd (false≢true f)
      by (Some d) e f =
          and_from (nat_lt x.0 (length (entity_columns script.mapping n))) (is_cell x.1)
          (lt-ltb x.0 (length (entity_columns script.mapping n)) (slice_get_within (entity_columns script.mapping n) x.0 d e)) (typed_cell d.kind x.1 f)

  sets_said : (n : ℕ) (xs : List (ℕ × Cell)) → list_all (λ x. Fits.is_set (entity_columns script.mapping n) x) xs ≡ true → list_all (λ x. Known.is_set script n x) xs ≡ true
  sets_said n [] h = refl
  sets_said n (x ∷ xs) h =
      let p : (Fits.is_set (entity_columns script.mapping n) x ≡ true) × (list_all (λ x. Fits.is_set (entity_columns script.mapping n) x) xs ≡ true) =
      and_parts (Fits.is_set (entity_columns script.mapping n) x) (list_all (λ x. Fits.is_set (entity_columns script.mapping n) x) xs) h in
      and_from (Known.is_set script n x) (list_all (λ x. Known.is_set script n x) xs) (set_said n x p.0) (sets_said n xs p.1)

  said : (t : Statement) → fits_statement script.mapping t ≡ true → is_known (length script.queries) t ≡ true → IsSaid script t
  said (Statement.Find k) f q = f
  said (Statement.Persist k cs) f q =
      let p : (is_key script k ≡ true) × (are_of_types (entity_columns script.mapping k.entity) cs ≡ true) = and_parts (is_key script k) (are_of_types (entity_columns script.mapping k.entity) cs) f in
      (p.0, typed_cells (entity_columns script.mapping k.entity) cs p.1)
  said (Statement.Set k xs) f q =
      let p : (is_key script k ≡ true) × (Fits.are_sets (entity_columns script.mapping k.entity) xs ≡ true) = and_parts (is_key script k) (Fits.are_sets (entity_columns script.mapping k.entity) xs) f in
      let n : (nat_le 1 (length xs) ≡ true)
      × ((list_all (λ x. Fits.is_set (entity_columns script.mapping k.entity) x) xs && are_apart_by (λ c d. c == d) (map (λ x. x.0) xs)) ≡ true) =
      and_parts (nat_le 1 (length xs)) (list_all (λ x. Fits.is_set (entity_columns script.mapping k.entity) x) xs && are_apart_by (λ c d. c == d) (map (λ x. x.0) xs)) p.1 in
      let a : list_all (λ x. Fits.is_set (entity_columns script.mapping k.entity) x) xs ≡ true =
      (and_parts (list_all (λ x. Fits.is_set (entity_columns script.mapping k.entity) x) xs) (are_apart_by (λ c d. c == d) (map (λ x. x.0) xs)) n.1).0 in
      (p.0, and_from (nat_le 1 (length xs)) (list_all (λ x. Known.is_set script k.entity x) xs) n.0 (sets_said k.entity xs a))
  said (Statement.Remove k) f q = f
  said (Statement.List n) f q = q
  said Statement.Flush f q = tt
  said Statement.Clear f q = tt
  said (Statement.Mode m) f q = tt
  said Statement.Commit f q = tt
  said Statement.Rollback f q = tt

  all_said : (ts : List Statement) → list_all (λ t. fits_statement script.mapping t) ts ≡ true → list_all (λ t. is_known (length script.queries) t) ts ≡ true →
      AllByRecursion (IsSaid script) ts
  all_said [] f q = tt
  all_said (t ∷ ts) f q =
      let a : (fits_statement script.mapping t ≡ true) × (list_all (λ t. fits_statement script.mapping t) ts ≡ true) = and_parts (fits_statement script.mapping t) (list_all (λ t. fits_statement script.mapping t) ts) f in
      let b : (is_known (length script.queries) t ≡ true) × (list_all (λ t. is_known (length script.queries) t) ts ≡ true) =
      and_parts (is_known (length script.queries) t) (list_all (λ t. is_known (length script.queries) t) ts) q in
      (said t a.0 b.0, all_said ts a.1 b.1)

  session_said : (r : Rules script) (s : ℕ) → AllByRecursion (IsSaid script) (option_map_or (λ d. d.statements) (slice_get script.sessions s) [])
  session_said r s = by (slice_get script.sessions s) refl
    where
      by : (o : Option SessionDef) → slice_get script.sessions s ≡ o → AllByRecursion (IsSaid script) (option_map_or (λ d. d.statements) o [])
      by None e = tt
      by (Some d) e =
          all_said d.statements (all_at (λ d. list_all (λ t. fits_statement script.mapping t) d.statements) script.sessions s d r.statement_fit e)
          (all_at (λ d. lists_known (length script.queries) d) script.sessions s d r.known e)

-- ---- who does it

over_left : (m : Journal) → left_of Plan.Over m ≡ Plan.Over
over_left [] = refl
over_left (e ∷ m) = ap (λ p. after p e) (over_left m)

-- a session with a next act is one of the script's
has_session : (script : Script) (s : ℕ) (m : Journal) (a : Act) → next script s m ≡ Some a → is_session script s ≡ true
has_session script s m a p = by (slice_get script.sessions s) refl
  where
    by : (o : Option SessionDef) → slice_get script.sessions s ≡ o → is_session script s ≡ true
    by (Some d) e = lt-ltb s (length script.sessions) (slice_get_within script.sessions s d e)
    by None e =
        let q : first_act (left_of (plan_of script s) m) ≡ Some a = next_is script s m a p in
        let n : left_of (plan_of script s) m ≡ Plan.Over = rw e (over_left m) in
        none_some (sym (ap first_act n) ∙ q)

same_part : (a : Act) (s : ℕ) → part_of a (Some s) ≡ Some (Legal.part_of a s)
same_part Act.Begin s = refl
same_part _ s = refl

-- what is done from outside
outside_good : (script : Script) (h : Journal) (a : Act) (p : Part) → AllGood script h → names_identifier None a ≡ true → may_come script h (cond (is_outside a) (Some a) None) ≡ Some a →
    option_map (λ x. Legal.part_of x 0) (cond (is_outside a) (Some a) None) ≡ Some p → (is_act script a ≡ true) × (part_of a None ≡ Some p)
outside_good script h (Act.Kill n) p g i m d = (open_session script n h g (by (is_open n h) m), d)
  where
    by : (b : Bool) → cond b (Some (Act.Kill n)) None ≡ Some (Act.Kill n) → b ≡ true
    by true x = refl
    by false x = none_some x
outside_good script h Act.Restart p g i m d = (refl, d)
outside_good script h (Act.Evict k) p g i m d = (and_from (Known.is_entity script k.entity) (Fits.is_identifier k.id) (cached_entity script k.entity (by (is_cached script k.entity) m)) i, d)
  where
    by : (b : Bool) → cond b (Some (Act.Evict k)) None ≡ Some (Act.Evict k) → b ≡ true
    by true x = refl
    by false x = none_some x
outside_good script h _ p g i m d = none_some m

-- ---- the journal

fault_good : (script : Script) (cs : List Change) (a : Act) (r : Reply) → fault_of cs a ≡ Some r → is_reply script a r ≡ true
fault_good script cs (Act.Load k) r f = by (is_in k cs) f
  where
    by : (b : Bool) → cond b None (Some Reply.Fault) ≡ Some r → is_reply script (Act.Load k) r ≡ true
    by true x = none_some x
    by false x = subst (λ y. is_reply script (Act.Load k) y ≡ true) (same x) refl
      where
        same : Some Reply.Fault ≡ Some r → Reply.Fault ≡ r
        same y = cc
fault_good script cs (Act.List q) r f = subst (λ y. is_reply script (Act.List q) y ≡ true) (same f) refl
  where
    same : Some Reply.Fault ≡ Some r → Reply.Fault ≡ r
    same y = cc
fault_good script cs Act.Commit r f = by (is_empty cs) f
  where
    by : (b : Bool) → cond b None (Some (Reply.Commit Commit.Fault)) ≡ Some r → is_reply script Act.Commit r ≡ true
    by true x = none_some x
    by false x = subst (λ y. is_reply script Act.Commit y ≡ true) (same x) refl
      where
        same : Some (Reply.Commit Commit.Fault) ≡ Some r → Reply.Commit Commit.Fault ≡ r
        same y = cc
fault_good script cs _ r f = none_some f

module _ (script : Script) (start : Tables) (v : is_valid script ≡ true) (fit : AreFit script start) where
  record IsDone (e : Entry) : Type 0 where
    act : is_act script e.act ≡ true
    actor : is_actor script e.session ≡ true
    part : part_of e.act e.session ≡ Some e.part

  done : (h : Journal) (e : Entry) → IsLegal script (Some start) h → IsStep script (Some start) h e → AllGood script h → names_identifier e.session e.act ≡ true → IsDone e
  done h e l t g i = by e.session refl
    where
      by : (o : Option ℕ) → e.session ≡ o → IsDone e
      by None p =
          let x : (is_act script e.act ≡ true) × (part_of e.act None ≡ Some e.part) =
          outside_good script h e.act e.part g (subst (λ o. names_identifier o e.act ≡ true) p i) (subst (λ o. may_come script h (due_by script h o e.act) ≡ Some e.act) p t.act)
          (subst (λ o. option_map (λ a. Legal.part_of a (unwrap_or o 0)) (due_by script h o e.act) ≡ Some e.part) p t.part) in
          record { act = x.0; actor = subst (λ o. is_actor script o ≡ true) (sym p) refl; part = subst (λ o. part_of e.act o ≡ Some e.part) (sym p) x.1 }
      by (Some s) p =
          let b : is_by s e ≡ true = rw p (eq-eqb s s refl) in
          let n : (was_killed s h ≡ false) × (next script s (own s h) ≡ Some e.act) = next_act script (Some start) h e s t b in
          let d : option_map (λ a. Legal.part_of a s) (due_by script h (Some s) e.act) ≡ Some e.part = subst (λ o. option_map (λ a. Legal.part_of a (unwrap_or o 0)) (due_by script h o e.act) ≡ Some e.part) p t.part in
          let f : Some (Legal.part_of e.act s) ≡ Some e.part = rw (n.0, n.1) at d in
          record {
            act = next_good script s (own s h) e.act (session_said script (rules script v) s) (own_good script s h g) (steps_in_order script (Some start) s h l) n.1;
            actor = subst (λ o. is_actor script o ≡ true) (sym p) (has_session script s (own s h) e.act n.1);
            part = subst (λ o. part_of e.act o ≡ Some e.part) (sym p) (same_part e.act s ∙ f);
          }

  good_step : (h : Journal) (e : Entry) → IsStep script (Some start) h e → AllGood script h → length h ≤ 2 ^ 61 → e.tick ≤ 2 ^ 61 → IsDone e → IsGood script e
  good_step h e t g few small d = record { act = d.act; reply = by t.reply; actor = d.actor; tick = small }
    where
      by : (e.reply ≡ reply_of script start h (unwrap_or e.session 0) e.tick e.act) ⊎ (fault_of (changes (unwrap_or e.session 0) h) e.act ≡ Some e.reply) → is_reply script e.act e.reply ≡ true
      by (inl q) = subst (λ r. is_reply script e.act r ≡ true) (sym q)
          (reply_good script (rules script v) h g few start (rows_start script start fit) (unwrap_or e.session 0) e.tick e.act small d.act)
      by (inr q) = fault_good script (changes (unwrap_or e.session 0) h) e.act e.reply q

  entry_of : (e : Entry) → IsGood script e → IsDone e → IsEntry script e
  entry_of e g d = record {
    known = and_from (is_act script e.act) (is_reply script e.act e.reply && (is_actor script e.session && is_tick e.tick)) g.act
        (and_from (is_reply script e.act e.reply) (is_actor script e.session && is_tick e.tick) g.reply
        (and_from (is_actor script e.session) (is_tick e.tick) g.actor (let t : e.tick ≤ 2 ^ 61 = g.tick in early_tick e.tick (omega arith))));
    part = d.part;
  }

  all_formed : (h : Journal) → IsLegal script (Some start) h → length h ≤ 2 ^ 61 → AreEarly h → name_identifiers h ≡ true → AllGood script h × AllByRecursion (IsEntry script) h
  all_formed [] l few early named = (tt, tt)
  all_formed (e ∷ h) l few early named =
      let n : (names_identifier e.session e.act ≡ true) × (name_identifiers h ≡ true) = and_parts (names_identifier e.session e.act) (name_identifiers h) named in
      let i : AllGood script h × AllByRecursion (IsEntry script) h = all_formed h l.0 (omega arith) early.0 n.1 in
      let d : IsDone e = done h e l.0 l.1 i.0 n.0 in
      let g : IsGood script e = good_step h e l.1 i.0 (omega arith) early.1 d in
      ((g, i.0), (entry_of e g d, i.1))

-- each entry of a legal journal is well formed
pub formed : (script : Script) (start : Tables) (h : Journal) → is_valid script ≡ true → AreFit script start → length h ≤ 2 ^ 61 → AreEarly h →
    name_identifiers h ≡ true → IsLegal script (Some start) h → AreEntries script (reverse h)
formed script start h v fit few early named l =
    All-from_recursion (IsEntry script) (reverse h) (each_onto (IsEntry script) h [] (all_formed script start v fit h l few early named).1 tt)

pub numbered_early : (h : Journal) → IsNumbered h → length h ≤ 2 ^ 61 → AreEarly h
numbered_early [] n f = tt
numbered_early (e ∷ h) n f = let t : e.tick ≡ length h + 1 = n.0 in (numbered_early h n.1 (omega arith), omega arith)
