-- Every act that is well formed is read again from its text and the word of its part.
use Rattle.std.proofs.Common.{◌≡◌, ℕ, List, Option, Some, None, refl, ap, sym, true, ◌&&◌, codes, length}
use Rattle.hib_journal.specs.Types.{Change, Part, Act, Script}
use Rattle.hib_report.specs.Lines.{act_text, part_text}
use Rattle.hib_entry_fields.specs.Fields.{piece, behind}
use Rattle.hib_entry_fields.specs.Known.{is_key, is_query, is_tick, is_version, are_cells, is_row, are_sets}
use Rattle.hib_entry_fields.proofs.PieceLaws.{and_left, and_right}
use Rattle.hib_entry_fields.proofs.NameLaws.{IsNamed, known_query, known_session}
use Rattle.hib_entry_fields.proofs.FieldLaws.{lt_from, tick_small, known_key}
use Rattle.hib_entry_fields.proofs.ListLaws.{cells_fit, version_fits, row_fits}
use Rattle.hib_entry_texts.specs.Acts.{act_of}
use Rattle.hib_entry_texts.specs.WellFormed.{is_change, is_act, own_part, part_of}
use Rattle.hib_entry_texts.proofs.ActLaws.{kill_again, find_again, remove_again, persist_again, set_again, load_again, list_act_again, insert_again, update_again, delete_again, pre_again, stamp_again, check_again, look_again, keep_again}
use Rattle.hib_entry_texts.proofs.RegionLaws.{get_again, unlock_again, put_again, lock_again, after_insert_again, after_update_again, region_remove_again, evict_again}

-- the word of the part that an act is on
abbrev pub part_word : Act → List ℕ
part_word Act.Begin = codes "registry"
part_word Act.End = codes "registry"
part_word (Act.Kill n) = codes "registry"
part_word Act.Restart = codes "registry"
part_word (Act.Find k) = codes "own"
part_word (Act.Persist k r) = codes "own"
part_word (Act.Set k xs) = codes "own"
part_word (Act.Remove k) = codes "own"
part_word Act.Clear = codes "own"
part_word (Act.Load k) = codes "store"
part_word (Act.List q) = codes "store"
part_word (Act.Write c) = codes "store"
part_word Act.Commit = codes "store"
part_word Act.Rollback = codes "store"
part_word (Act.Pre ts) = codes "stamps"
part_word (Act.Stamp ts) = codes "stamps"
part_word (Act.Check q t) = codes "stamps"
part_word (Act.Look q) = codes "results"
part_word (Act.Keep q t l) = codes "results"
part_word (Act.Get k t) = codes "region"
part_word (Act.Put k r t f) = codes "region"
part_word (Act.Lock k v f) = codes "region"
part_word (Act.Unlock k i) = codes "region"
part_word (Act.AfterInsert k r f) = codes "region"
part_word (Act.AfterUpdate k i r) = codes "region"
part_word (Act.RegionRemove k) = codes "region"
part_word (Act.Evict k) = codes "region"

same_part : (p q : Part) → Some p ≡ Some q → part_text q ≡ part_text p
same_part p q e = let one : p ≡ q = cc in ap part_text (sym one)

own_word : (s : Option ℕ) (q : Part) → own_part s ≡ Some q → part_text q ≡ codes "own"
own_word None q e = absurd cc
own_word (Some s) q e = same_part (Part.Own s) q e

pub part_word_of : (act : Act) (s : Option ℕ) (q : Part) → part_of act s ≡ Some q → part_text q ≡ part_word act
part_word_of Act.Begin s q e = same_part Part.Registry q e
part_word_of Act.End s q e = same_part Part.Registry q e
part_word_of (Act.Kill n) s q e = same_part Part.Registry q e
part_word_of Act.Restart s q e = same_part Part.Registry q e
part_word_of (Act.Find k) s q e = own_word s q e
part_word_of (Act.Persist k r) s q e = own_word s q e
part_word_of (Act.Set k xs) s q e = own_word s q e
part_word_of (Act.Remove k) s q e = own_word s q e
part_word_of Act.Clear s q e = own_word s q e
part_word_of (Act.Load k) s q e = same_part Part.Store q e
part_word_of (Act.List n) s q e = same_part Part.Store q e
part_word_of (Act.Write c) s q e = same_part Part.Store q e
part_word_of Act.Commit s q e = same_part Part.Store q e
part_word_of Act.Rollback s q e = same_part Part.Store q e
part_word_of (Act.Pre ts) s q e = same_part Part.Stamps q e
part_word_of (Act.Stamp ts) s q e = same_part Part.Stamps q e
part_word_of (Act.Check n t) s q e = same_part Part.Stamps q e
part_word_of (Act.Look n) s q e = same_part Part.Results q e
part_word_of (Act.Keep n t l) s q e = same_part Part.Results q e
part_word_of (Act.Get k t) s q e = same_part (Part.Region k.entity) q e
part_word_of (Act.Put k r t f) s q e = same_part (Part.Region k.entity) q e
part_word_of (Act.Lock k v f) s q e = same_part (Part.Region k.entity) q e
part_word_of (Act.Unlock k i) s q e = same_part (Part.Region k.entity) q e
part_word_of (Act.AfterInsert k r f) s q e = same_part (Part.Region k.entity) q e
part_word_of (Act.AfterUpdate k i r) s q e = same_part (Part.Region k.entity) q e
part_word_of (Act.RegionRemove k) s q e = same_part (Part.Region k.entity) q e
part_word_of (Act.Evict k) s q e = same_part (Part.Region k.entity) q e

change_again : (script : Script) (c : Change) → IsNamed script → is_change script c ≡ true → act_of script (codes "store") (act_text script (Act.Write c)) ≡ Act.Write c
change_again script (Change.Insert k r) h w = insert_again script k r (known_key script k h (and_left (is_key script k) (is_row r) w)) (row_fits r (and_right (is_key script k) (is_row r) w))
change_again script (Change.Update k v r) h w =
    let more = and_right (is_key script k) (is_version v && is_row r) w in
    update_again script k v r (known_key script k h (and_left (is_key script k) (is_version v && is_row r) w)) (version_fits v (and_left (is_version v) (is_row r) more)) (row_fits r (and_right (is_version v) (is_row r) more))
change_again script (Change.Delete k v) h w = delete_again script k v (known_key script k h (and_left (is_key script k) (is_version v) w)) (version_fits v (and_right (is_key script k) (is_version v) w))

pub act_again : (script : Script) (act : Act) → IsNamed script → is_act script act ≡ true → act_of script (part_word act) (act_text script act) ≡ act
unfolding act_of piece behind
act_again script Act.Begin h w = refl
act_again script Act.End h w = refl
act_again script (Act.Kill s) h w = kill_again script s (known_session script s h (lt_from s (length script.sessions) w))
act_again script Act.Restart h w = refl
act_again script (Act.Find k) h w = find_again script k (known_key script k h w)
act_again script (Act.Persist k r) h w = persist_again script k r (known_key script k h (and_left (is_key script k) (is_row r) w)) (row_fits r (and_right (is_key script k) (is_row r) w))
act_again script (Act.Set k xs) h w = set_again script k xs h (known_key script k h (and_left (is_key script k) (are_sets script k.entity xs) w)) (and_right (is_key script k) (are_sets script k.entity xs) w)
act_again script (Act.Remove k) h w = remove_again script k (known_key script k h w)
act_again script Act.Clear h w = refl
act_again script (Act.Load k) h w = load_again script k (known_key script k h w)
act_again script (Act.List q) h w = list_act_again script q (known_query script q h (lt_from q (length script.queries) w))
act_again script (Act.Write c) h w = change_again script c h w
act_again script Act.Commit h w = refl
act_again script Act.Rollback h w = refl
act_again script (Act.Pre ts) h w = pre_again script ts h w
act_again script (Act.Stamp ts) h w = stamp_again script ts h w
act_again script (Act.Check q t) h w = check_again script q t (known_query script q h (lt_from q (length script.queries) (and_left (is_query script q) (is_tick t) w))) (tick_small t (and_right (is_query script q) (is_tick t) w))
act_again script (Act.Look q) h w = look_again script q (known_query script q h (lt_from q (length script.queries) w))
act_again script (Act.Keep q t l) h w =
    let more = and_right (is_query script q) (is_tick t && are_cells l) w in
    keep_again script q t l (known_query script q h (lt_from q (length script.queries) (and_left (is_query script q) (is_tick t && are_cells l) w))) (tick_small t (and_left (is_tick t) (are_cells l) more)) (cells_fit l (and_right (is_tick t) (are_cells l) more))
act_again script (Act.Get k t) h w = get_again script k t (known_key script k h (and_left (is_key script k) (is_tick t) w)) (tick_small t (and_right (is_key script k) (is_tick t) w))
act_again script (Act.Put k r t f) h w =
    let more = and_right (is_key script k) (is_row r && (is_tick t && is_tick f)) w in
    let ticks = and_right (is_row r) (is_tick t && is_tick f) more in
    put_again script k r t f (known_key script k h (and_left (is_key script k) (is_row r && (is_tick t && is_tick f)) w)) (row_fits r (and_left (is_row r) (is_tick t && is_tick f) more))
    (tick_small t (and_left (is_tick t) (is_tick f) ticks)) (tick_small f (and_right (is_tick t) (is_tick f) ticks))
act_again script (Act.Lock k v f) h w =
    let more = and_right (is_key script k) (is_version v && is_tick f) w in
    lock_again script k v f (known_key script k h (and_left (is_key script k) (is_version v && is_tick f) w)) (version_fits v (and_left (is_version v) (is_tick f) more)) (tick_small f (and_right (is_version v) (is_tick f) more))
act_again script (Act.Unlock k i) h w = unlock_again script k i (known_key script k h (and_left (is_key script k) (is_tick i) w)) (tick_small i (and_right (is_key script k) (is_tick i) w))
act_again script (Act.AfterInsert k r f) h w =
    let more = and_right (is_key script k) (is_row r && is_tick f) w in
    after_insert_again script k r f (known_key script k h (and_left (is_key script k) (is_row r && is_tick f) w)) (row_fits r (and_left (is_row r) (is_tick f) more)) (tick_small f (and_right (is_row r) (is_tick f) more))
act_again script (Act.AfterUpdate k i r) h w =
    let more = and_right (is_key script k) (is_tick i && is_row r) w in
    after_update_again script k i r (known_key script k h (and_left (is_key script k) (is_tick i && is_row r) w)) (tick_small i (and_left (is_tick i) (is_row r) more)) (row_fits r (and_right (is_tick i) (is_row r) more))
act_again script (Act.RegionRemove k) h w = region_remove_again script k (known_key script k h w)
act_again script (Act.Evict k) h w = evict_again script k (known_key script k h w)
