-- The act of a well-formed entry is read again from its object.
use Rattle.std.proofs.Common.{◌≡◌, ℕ, ◌<◌, List, [], ◌∷◌, length, map, Option, Some, refl, ap, ap₂, ◌∙◌, true, ◌&&◌, codes, nat_lt, nat_le, option_map}
use Rattle.std.specs.List.{list_all}
use Rattle.hib_base.specs.Fits.{entity_columns}
use Rattle.hib_journal.specs.Types.{Key, Cell, Row, Change, Part, Act, Reply, Entry, Script}
use Rattle.hib_texts.specs.Texts.{entity_text, query_text}
use Rattle.hib_entry_fields.specs.Fields.{entity_of, query_of, session_of, column_of}
use Rattle.hib_entry_fields.specs.Known.{is_key, is_entity, is_query, is_tick, is_cell, are_cells, is_set, are_sets}
use Rattle.hib_entry_fields.proofs.PieceLaws.{and_left, and_right}
use Rattle.hib_entry_fields.proofs.NameLaws.{IsNamed, known_entity, known_query, known_session, known_column}
use Rattle.hib_entry_fields.proofs.FieldLaws.{lt_from}
use Rattle.hib_entry_texts.proofs.ActWhole.{part_word}
use Rattle.hib_flat.specs.Words.{act_word, change_word}
use Rattle.hib_flat.specs.Parts as parts
use Rattle.hib_flat.specs.Members.{set_cells}
use Rattle.hib_flat_law.specs.Reading.{or_zero, or_empty, act_by, query_at}
use Rattle.hib_flat_law.proofs.Facts as facts
use Rattle.hib_flat_law.proofs.Fine.{fine_cells}
use Rattle.hib_flat_law.proofs.Looks.{found, IsGood, at_killed, at_query, at_tables, at_list, at_version, at_expected, at_time, at_floor, at_lock, key_back, at_cells, row_back}

abbrev pub mk : ℕ → Option ℕ → Part → Act → Reply → Entry
mk t s p a r = record { tick = t; session = s; part = p; act = a; reply = r }

query_back : (script : Script) (e : Entry) (q : ℕ) → IsNamed script → parts.query_in e.act ≡ Some q → is_query script q ≡ true → query_at script (found script e) ≡ q
query_back script e q n i w =
    ap (query_of script) (at_query script e ∙ ap (λ (o : Option ℕ). or_empty (option_map (query_text script) o)) i) ∙ (known_query script q n (lt_from q (length script.queries) w)).back

names_again : (script : Script) (ts : List ℕ) → IsNamed script → list_all (λ t. is_entity script t) ts ≡ true → map (entity_of script) (map (entity_text script) ts) ≡ ts
names_again script [] n w = refl
names_again script (t ∷ ts) n w =
    ap₂ (λ (x : ℕ) (y : List ℕ). x ∷ y) (known_entity script t n (lt_from t (length script.mapping) (and_left (is_entity script t) (list_all (λ t. is_entity script t) ts) w))).back
    (names_again script ts n (and_right (is_entity script t) (list_all (λ t. is_entity script t) ts) w))

sets_again : (script : Script) (entity : ℕ) (xs : List (ℕ × Cell)) → IsNamed script → list_all (λ x. is_set script entity x) xs ≡ true → map (λ c. (column_of script entity c.0, c.1)) (set_cells script entity xs) ≡ xs
sets_again script entity [] n w = refl
sets_again script entity (x ∷ xs) n w =
    let one : is_set script entity x ≡ true = and_left (is_set script entity x) (list_all (λ x. is_set script entity x) xs) w in
    let lt : x.0 < length (entity_columns script.mapping entity) = lt_from x.0 (length (entity_columns script.mapping entity)) (and_left (nat_lt x.0 (length (entity_columns script.mapping entity))) (is_cell x.1) one) in
    ap₂ (λ (y : ℕ × Cell) (ys : List (ℕ × Cell)). y ∷ ys) (ap (λ (c : ℕ). (c, x.1)) (known_column script entity x.0 n lt).back)
    (sets_again script entity xs n (and_right (is_set script entity x) (list_all (λ x. is_set script entity x) xs) w))

set_by : (script : Script) (j k : Key) (cs : List (List ℕ × Cell)) (xs : List (ℕ × Cell)) → j ≡ k → cs ≡ set_cells script k.entity xs → map (λ c. (column_of script k.entity c.0, c.1)) (set_cells script k.entity xs) ≡ xs
    → Act.Set j (map (λ c. (column_of script j.entity c.0, c.1)) cs) ≡ Act.Set k xs
set_by script j k cs xs e1 e2 e3 = rw (e1, e2) (ap (Act.Set k) e3)

update_by : (j k : Key) (u v : Option ℕ) (q r : Row) → j ≡ k → u ≡ v → q ≡ r → Change.Update j u q ≡ Change.Update k v r
update_by j k u v q r e1 e2 e3 = rw (e1, e2, e3) refl

keep_by : (p q t u : ℕ) (l m : List Cell) → p ≡ q → t ≡ u → l ≡ m → Act.Keep p t l ≡ Act.Keep q u m
keep_by p q t u l m e1 e2 e3 = rw (e1, e2, e3) refl

put_by : (j k : Key) (q r : Row) (t u f g : ℕ) → j ≡ k → q ≡ r → t ≡ u → f ≡ g → Act.Put j q t f ≡ Act.Put k r u g
put_by j k q r t u f g e1 e2 e3 e4 = rw (e1, e2, e3, e4) refl

lock_by : (j k : Key) (u v : Option ℕ) (f g : ℕ) → j ≡ k → u ≡ v → f ≡ g → Act.Lock j u f ≡ Act.Lock k v g
lock_by j k u v f g e1 e2 e3 = rw (e1, e2, e3) refl

after_insert_by : (j k : Key) (q r : Row) (f g : ℕ) → j ≡ k → q ≡ r → f ≡ g → Act.AfterInsert j q f ≡ Act.AfterInsert k r g
after_insert_by j k q r f g e1 e2 e3 = rw (e1, e2, e3) refl

after_update_by : (j k : Key) (i h : ℕ) (q r : Row) → j ≡ k → i ≡ h → q ≡ r → Act.AfterUpdate j i q ≡ Act.AfterUpdate k h r
after_update_by j k i h q r e1 e2 e3 = rw (e1, e2, e3) refl

change_back : (script : Script) (t : ℕ) (s : Option ℕ) (p : Part) (c : Change) (r : Reply) → IsNamed script → IsGood script (mk t s p (Act.Write c) r) → act_by script (found script (mk t s p (Act.Write c) r)) (codes "store") (change_word c) ≡ Act.Write c
change_back script t s p (Change.Insert k x) r n h =
    let e = mk t s p (Act.Write (Change.Insert k x)) r in
    ap Act.Write (ap₂ Change.Insert (key_back script e k n h refl (facts.key_known script e.act r h.act h.reply)) (row_back script e x (entity_columns script.mapping k.entity) h (fine_cells script e n h.act h.reply) refl refl))
change_back script t s p (Change.Update k v x) r n h =
    let e = mk t s p (Act.Write (Change.Update k v x)) r in
    ap Act.Write (update_by _ k _ v _ x (key_back script e k n h refl (facts.key_known script e.act r h.act h.reply)) (at_expected script e h) (row_back script e x (entity_columns script.mapping k.entity) h (fine_cells script e n h.act h.reply) refl refl))
change_back script t s p (Change.Delete k v) r n h =
    let e = mk t s p (Act.Write (Change.Delete k v)) r in
    ap Act.Write (ap₂ Change.Delete (key_back script e k n h refl (facts.key_known script e.act r h.act h.reply)) (at_expected script e h))

pub act_back : (script : Script) (t : ℕ) (s : Option ℕ) (p : Part) (a : Act) (r : Reply) → IsNamed script → IsGood script (mk t s p a r) → act_by script (found script (mk t s p a r)) (part_word a) (act_word a) ≡ a
act_back script t s p Act.Begin r n h = refl
act_back script t s p Act.End r n h = refl
act_back script t s p (Act.Kill q) r n h = ap Act.Kill (ap (session_of script) (at_killed script (mk t s p (Act.Kill q) r)) ∙ (known_session script q n (lt_from q (length script.sessions) h.act)).back)
act_back script t s p Act.Restart r n h = refl
act_back script t s p (Act.Find k) r n h = ap Act.Find (key_back script (mk t s p (Act.Find k) r) k n h refl h.act)
act_back script t s p (Act.Persist k x) r n h =
    let e = mk t s p (Act.Persist k x) r in
    ap₂ Act.Persist (key_back script e k n h refl (facts.key_known script e.act r h.act h.reply)) (row_back script e x (entity_columns script.mapping k.entity) h (fine_cells script e n h.act h.reply) refl refl)
act_back script t s p (Act.Set k xs) r n h =
    let e = mk t s p (Act.Set k xs) r in
    set_by script _ k _ xs (key_back script e k n h refl (facts.key_known script e.act r h.act h.reply)) (at_cells script e (fine_cells script e n h.act h.reply))
    (sets_again script k.entity xs n (and_right (nat_le 1 (length xs)) (list_all (λ x. is_set script k.entity x) xs) (and_right (is_key script k) (are_sets script k.entity xs) h.act)))
act_back script t s p (Act.Remove k) r n h = ap Act.Remove (key_back script (mk t s p (Act.Remove k) r) k n h refl h.act)
act_back script t s p Act.Clear r n h = refl
act_back script t s p (Act.Load k) r n h = ap Act.Load (key_back script (mk t s p (Act.Load k) r) k n h refl h.act)
act_back script t s p (Act.List q) r n h = ap Act.List (query_back script (mk t s p (Act.List q) r) q n refl h.act)
act_back script t s p (Act.Write c) r n h = change_back script t s p c r n h
act_back script t s p Act.Commit r n h = refl
act_back script t s p Act.Rollback r n h = refl
act_back script t s p (Act.Pre ts) r n h =
    ap Act.Pre (ap (map (entity_of script)) (at_tables script (mk t s p (Act.Pre ts) r)) ∙ names_again script ts n (and_right (nat_le 1 (length ts)) (list_all (λ t. is_entity script t) ts) h.act))
act_back script t s p (Act.Stamp ts) r n h =
    ap Act.Stamp (ap (map (entity_of script)) (at_tables script (mk t s p (Act.Stamp ts) r)) ∙ names_again script ts n (and_right (nat_le 1 (length ts)) (list_all (λ t. is_entity script t) ts) h.act))
act_back script t s p (Act.Check q u) r n h =
    let e = mk t s p (Act.Check q u) r in
    ap₂ Act.Check (query_back script e q n refl (and_left (is_query script q) (is_tick u) h.act)) (ap or_zero (at_time script e h))
act_back script t s p (Act.Look q) r n h = ap Act.Look (query_back script (mk t s p (Act.Look q) r) q n refl h.act)
act_back script t s p (Act.Keep q u l) r n h =
    let e = mk t s p (Act.Keep q u l) r in
    keep_by _ q _ u _ l (query_back script e q n refl (and_left (is_query script q) (is_tick u && are_cells l) h.act)) (ap or_zero (at_time script e h)) (at_list script e h)
act_back script t s p (Act.Get k u) r n h =
    let e = mk t s p (Act.Get k u) r in
    ap₂ Act.Get (key_back script e k n h refl (facts.key_known script e.act r h.act h.reply)) (ap or_zero (at_time script e h))
act_back script t s p (Act.Put k x u f) r n h =
    let e = mk t s p (Act.Put k x u f) r in
    put_by _ k _ x _ u _ f (key_back script e k n h refl (facts.key_known script e.act r h.act h.reply)) (row_back script e x (entity_columns script.mapping k.entity) h (fine_cells script e n h.act h.reply) refl refl)
    (ap or_zero (at_time script e h)) (ap or_zero (at_floor script e h))
act_back script t s p (Act.Lock k v f) r n h =
    let e = mk t s p (Act.Lock k v f) r in
    lock_by _ k _ v _ f (key_back script e k n h refl (facts.key_known script e.act r h.act h.reply)) (at_version script e h) (ap or_zero (at_floor script e h))
act_back script t s p (Act.Unlock k i) r n h =
    let e = mk t s p (Act.Unlock k i) r in
    ap₂ Act.Unlock (key_back script e k n h refl (facts.key_known script e.act r h.act h.reply)) (ap or_zero (at_lock script e h))
act_back script t s p (Act.AfterInsert k x f) r n h =
    let e = mk t s p (Act.AfterInsert k x f) r in
    after_insert_by _ k _ x _ f (key_back script e k n h refl (facts.key_known script e.act r h.act h.reply)) (row_back script e x (entity_columns script.mapping k.entity) h (fine_cells script e n h.act h.reply) refl refl)
    (ap or_zero (at_floor script e h))
act_back script t s p (Act.AfterUpdate k i x) r n h =
    let e = mk t s p (Act.AfterUpdate k i x) r in
    after_update_by _ k _ i _ x (key_back script e k n h refl (facts.key_known script e.act r h.act h.reply)) (ap or_zero (at_lock script e h))
    (row_back script e x (entity_columns script.mapping k.entity) h (fine_cells script e n h.act h.reply) refl refl)
act_back script t s p (Act.RegionRemove k) r n h = ap Act.RegionRemove (key_back script (mk t s p (Act.RegionRemove k) r) k n h refl h.act)
act_back script t s p (Act.Evict k) r n h = ap Act.Evict (key_back script (mk t s p (Act.Evict k) r) k n h refl h.act)
