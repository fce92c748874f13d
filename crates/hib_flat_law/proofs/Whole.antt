-- The line of a well-formed entry is read again as this entry, and has no line feed.
use Rattle.std.proofs.Common.{◌≡◌, ℕ, Option, Some, None, refl, ap, ap₂, ◌∙◌, true, ◌&&◌, codes, length, option_map}
use Rattle.std.specs.Prelude.{option_and_then}
use Rattle.json.specs.Json as json
use Rattle.serde_json.specs.Written.{outline}
use Rattle.hib_base.specs.Valid.{is_valid}
use Rattle.hib_journal.specs.Types.{Part, Reply, Entry, Script}
use Rattle.hib_texts.specs.Texts.{session_text}
use Rattle.hib_entry_fields.specs.Fields.{session_of}
use Rattle.hib_entry_fields.specs.Known.{is_tick}
use Rattle.hib_entry_fields.proofs.PieceLaws.{and_left, and_right}
use Rattle.hib_entry_fields.proofs.NameLaws.{IsNamed, valid_names, known_session}
use Rattle.hib_entry_fields.proofs.FieldLaws.{lt_from, tick_small}
use Rattle.hib_entry_texts.specs.WellFormed.{IsEntry, is_actor, is_act, is_reply, part_of}
use Rattle.hib_entry_texts.proofs.ActWhole.{part_word_of}
use Rattle.hib_flat.specs.Lines.{flat_line}
use Rattle.hib_flat_law.specs.Objects.{object_of}
use Rattle.hib_flat_law.specs.Reading.{word_at, act_by, act_at, session_at, reply_by, entry_with, entry_in, entry_of, read_flat}
use Rattle.hib_flat_law.proofs.Facts as facts
use Rattle.hib_flat_law.proofs.Printed.{line_read}
use Rattle.hib_flat_law.proofs.Fine.{fine_members, fine_cells}
use Rattle.hib_flat_law.proofs.Looks.{found, IsGood, at_tick, at_session, at_part, at_act, at_reply}
use Rattle.hib_flat_law.proofs.Acts.{act_back}
use Rattle.hib_flat_law.proofs.Replies.{reply_back}

-- ---- what is known of a well-formed entry

entry_act : (script : Script) (e : Entry) → IsEntry script e → is_act script e.act ≡ true
entry_act script e i = and_left (is_act script e.act) (is_reply script e.act e.reply && (is_actor script e.session && is_tick e.tick)) i.known

entry_reply : (script : Script) (e : Entry) → IsEntry script e → is_reply script e.act e.reply ≡ true
entry_reply script e i =
    and_left (is_reply script e.act e.reply) (is_actor script e.session && is_tick e.tick) (and_right (is_act script e.act) (is_reply script e.act e.reply && (is_actor script e.session && is_tick e.tick)) i.known)

entry_rest : (script : Script) (e : Entry) → IsEntry script e → is_actor script e.session && is_tick e.tick ≡ true
entry_rest script e i =
    and_right (is_reply script e.act e.reply) (is_actor script e.session && is_tick e.tick) (and_right (is_act script e.act) (is_reply script e.act e.reply && (is_actor script e.session && is_tick e.tick)) i.known)

pub entry_good : (script : Script) (e : Entry) → IsEntry script e → IsGood script e
entry_good script e i = record { act = entry_act script e i; reply = facts.reply_good script e.act e.reply (entry_reply script e i) }

pub entry_tick : (script : Script) (e : Entry) → IsEntry script e → is_tick e.tick ≡ true
entry_tick script e i = and_right (is_actor script e.session) (is_tick e.tick) (entry_rest script e i)

-- ---- it is read again

session_again : (script : Script) (o : Option ℕ) → IsNamed script → is_actor script o ≡ true → option_map (session_of script) (option_map (session_text script) o) ≡ o
session_again script None n w = refl
session_again script (Some s) n w = ap Some (known_session script s n (lt_from s (length script.sessions) w)).back

entry_by : (t : ℕ) (s : Option ℕ) (r : Reply) (e : Entry) → t ≡ e.tick → s ≡ e.session → r ≡ e.reply → record { tick = t; session = s; part = e.part; act = e.act; reply = r } ≡ e
entry_by t s r e e1 e2 e3 = rw (e1, e2, e3) refl

act_found : (script : Script) (e : Entry) → IsNamed script → IsEntry script e → act_at script (found script e) ≡ e.act
act_found script e n i =
    ap₂ (act_by script (found script e)) (at_part script e ∙ part_word_of e.act e.session e.part i.part) (at_act script e) ∙ act_back script e.tick e.session e.part e.act e.reply n (entry_good script e i)

session_found : (script : Script) (e : Entry) → IsNamed script → IsEntry script e → session_at script (found script e) ≡ e.session
session_found script e n i =
    ap (option_map (session_of script)) (at_session script e) ∙ session_again script e.session n (and_left (is_actor script e.session) (is_tick e.tick) (entry_rest script e i))

reply_found : (script : Script) (e : Entry) → IsNamed script → IsEntry script e → reply_by script (found script e) e.act (word_at (codes "reply") (found script e)) ≡ e.reply
reply_found script e n i =
    ap (reply_by script (found script e) e.act) (at_reply script e) ∙ reply_back script e.tick e.session e.part e.act e.reply n (entry_good script e i) (entry_reply script e i)

with_found : (script : Script) (e : Entry) → IsNamed script → IsEntry script e → entry_with script (found script e) e.act e.part ≡ e
with_found script e n i = entry_by _ _ _ e (at_tick script e (entry_tick script e i)) (session_found script e n i) (reply_found script e n i)

entry_found : (script : Script) (e : Entry) → IsNamed script → IsEntry script e → entry_of script (outline (object_of script e)) ≡ Some e
entry_found script e n i =
    ap (entry_in script (found script e)) (act_found script e n i)
    ∙ ap (λ (o : Option ℕ). option_map (λ (p : Part). entry_with script (found script e) e.act p) (part_of e.act o)) (session_found script e n i)
    ∙ ap (option_map (λ (p : Part). entry_with script (found script e) e.act p)) i.part
    ∙ ap Some (with_found script e n i)

pub object_read : (script : Script) (e : Entry) → is_valid script ≡ true → IsEntry script e → json.document (flat_line script e) ≡ Some (outline (object_of script e))
object_read script e v i =
    let n = valid_names script v in
    let h = entry_good script e i in
    line_read script e (tick_small e.tick (entry_tick script e i)) (fine_members script e n h.act h.reply) (fine_cells script e n h.act h.reply)

pub line_back : (script : Script) (e : Entry) → is_valid script ≡ true → IsEntry script e → read_flat script (flat_line script e) ≡ Some e
unfolding read_flat
line_back script e v i = ap (option_and_then (entry_of script)) (object_read script e v i) ∙ entry_found script e (valid_names script v) i
