-- The text of a journal with collections, as bytes.
use Rattle.std.specs.Prelude.{ℕ, ◌+◌, ◌==◌, ◌&&◌, Bool, true, false, List, [], ◌∷◌, ◌++◌, length, slice_get, codes, flat_map, count_by}
use Rattle.std.specs.Option.{option_map_or}
use Rattle.std.specs.Fmt.{decimal}
use Rattle.hib_journal.specs.Types.{Reply, Script}
use Rattle.hib_listeners.specs.Counts.{is_put_stored}
use Rattle.hib_report.specs.Lines.{line_text, reply_text}
use Rattle.hib_texts.specs.Texts.{list_text, session_text}
use Rattle.hib_collections_law.specs.declared.entries.Def.{Def}
use Rattle.hib_collections_law.specs.declared.entries.MemberAct.{MemberAct}
use Rattle.hib_collections_law.specs.declared.entries.MemberEntry.{MemberEntry}
use Rattle.hib_collections_law.specs.declared.entries.GatherEntry.{GatherEntry}

-- ---- lines

-- a collection's name and an owner
abbrev pub owner_text : List Def → ℕ → ℕ → List ℕ
owner_text defs c o = option_map_or (λ d. d.name) (slice_get defs c) [] ++ codes " " ++ decimal o

abbrev pub member_act_text : List ℕ → MemberAct → List ℕ
member_act_text k (MemberAct.Get t) = codes "get " ++ k ++ codes " at " ++ decimal t
member_act_text k (MemberAct.Put l t f) = codes "put " ++ k ++ codes " " ++ list_text l ++ codes " at " ++ decimal t ++ codes " floor " ++ decimal f
member_act_text k (MemberAct.Lock f) = codes "lock " ++ k ++ codes " v- floor " ++ decimal f
member_act_text k (MemberAct.Unlock i) = codes "unlock " ++ k ++ codes " lock " ++ decimal i

-- the list of members stands in place of a row
abbrev pub member_reply_text : Script → Reply → List ℕ
member_reply_text script (Reply.Hit r) = codes "hit " ++ list_text r.cells
member_reply_text script r = reply_text script r

abbrev pub member_text : Script → List Def → MemberEntry → List ℕ
member_text script defs m =
    decimal m.tick ++ codes " " ++ session_text script m.session ++ codes " members "
    ++ member_act_text (owner_text defs m.collection m.owner) m.act ++ codes " = " ++ member_reply_text script m.reply

abbrev pub entry_text : Script → List Def → GatherEntry → List ℕ
entry_text script defs (GatherEntry.Plain e) = line_text script e ++ codes "\n"
entry_text script defs (GatherEntry.Member m) = member_text script defs m ++ codes "\n"

-- ---- counts: the entries on the region of collection c

abbrev pub is_on : ℕ → (MemberEntry → Bool) → GatherEntry → Bool
is_on c p (GatherEntry.Plain e) = false
is_on c p (GatherEntry.Member m) = (m.collection == c) && p m

abbrev pub is_hit : MemberEntry → Bool
is_hit m = hit_by m.reply
  where
    hit_by : Reply → Bool
    hit_by (Reply.Hit r) = true
    hit_by _ = false

abbrev pub is_miss : MemberEntry → Bool
is_miss m = miss_by m.reply
  where
    miss_by : Reply → Bool
    miss_by (Reply.Miss x) = true
    miss_by _ = false

abbrev pub is_stored : MemberEntry → Bool
is_stored m = is_put_stored m.reply

abbrev pub is_locked : MemberEntry → Bool
is_locked m = lock_by m.act
  where
    lock_by : MemberAct → Bool
    lock_by (MemberAct.Lock f) = true
    lock_by _ = false

abbrev pub numbers_text : ℕ → ℕ → ℕ → ℕ → List ℕ
numbers_text h m p l = codes " hits " ++ decimal h ++ codes " misses " ++ decimal m ++ codes " puts " ++ decimal p ++ codes " locks " ++ decimal l ++ codes "\n"

abbrev pub counted_text : List GatherEntry → ℕ → List ℕ
counted_text es c = numbers_text (count_by (is_on c is_hit) es) (count_by (is_on c is_miss) es) (count_by (is_on c is_stored) es) (count_by (is_on c is_locked) es)

abbrev pub count_text : List GatherEntry → ℕ → Def → List ℕ
count_text es c d = codes "collection " ++ d.name ++ counted_text es c

-- a line for each collection, which are counted from n
abbrev pub counts_text : List GatherEntry → ℕ → List Def → List ℕ
counts_text es n [] = []
counts_text es n (d ∷ ds) = count_text es n d ++ counts_text es (n + 1) ds

-- the number of entries, a line for each, and what they come to for each collection
abbrev pub gathered_text : Script → List Def → List GatherEntry → List ℕ
gathered_text script defs es =
    codes "journal " ++ decimal (length es) ++ codes "\n" ++ flat_map (λ x. entry_text script defs x) es ++ counts_text es 0 defs ++ codes "end\n"
