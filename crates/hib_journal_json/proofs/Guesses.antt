-- The entry whose texts were written is guessed from them.
use Rattle.std.proofs.Common.{◌≡◌, ℕ, List, Option, Some, None, refl, ap, sym, ◌∙◌, subst, true, false, ◌&&◌, ◌==◌, arith, bytes_eq, option_map, length, IsUtf8}
use Rattle.std.proofs.lemmas.Bool.Decides.{nat_tests}
use Rattle.std.proofs.lemmas.Slice.Eq.{bytes_eq-Decides}
use Rattle.serde_json.specs.Data.{string}
use Rattle.serde_json.specs.Read.{read}
use Rattle.hib_base.specs.Valid.{is_valid}
use Rattle.hib_journal.specs.Types.{Part, Act, Reply, Entry, Script}
use Rattle.hib_report.specs.Lines.{act_text, part_text, reply_text}
use Rattle.hib_texts.specs.Texts.{session_text}
use Rattle.hib_entry_fields.specs.Fields.{session_of}
use Rattle.hib_entry_fields.specs.Known.{is_tick}
use Rattle.hib_entry_fields.proofs.PieceLaws.{and_left, and_right}
use Rattle.hib_entry_fields.proofs.NameLaws.{IsNamed, valid_names, known_session}
use Rattle.hib_entry_fields.proofs.FieldLaws.{lt_from}
use Rattle.hib_entry_texts.specs.Acts.{act_of}
use Rattle.hib_entry_texts.specs.Replies.{reply_of}
use Rattle.hib_entry_texts.specs.WellFormed.{is_act, is_reply, part_of}
use Rattle.hib_entry_texts.proofs.ActWhole.{part_word_of, act_again}
use Rattle.hib_entry_texts.proofs.ReplyWhole.{reply_again}
use Rattle.hib_json_lines.specs.Line.{LineText, texts, object_of, session_data}
use Rattle.hib_journal_json.specs.Entries.{is_actor, is_known, IsEntry, IsLine, IsBad}
use Rattle.hib_journal_json.specs.Guesses.{guess_with, guess, same_names, same_texts}

session_again : (script : Script) (s : Option ℕ) → IsNamed script → is_actor script s ≡ true → option_map (session_of script) (option_map (session_text script) s) ≡ s
session_again script None h w = refl
session_again script (Some s) h w = ap Some (known_session script s h (lt_from s (length script.sessions) w)).back

entry_by : (script : Script) (e : Entry) (session : Option ℕ) (act : Act) (reply : Reply) (part : Option Part) → session ≡ e.session → act ≡ e.act → reply ≡ e.reply → part ≡ Some e.part
    → option_map (λ (p : Part). record { tick = e.tick; session = session; part = p; act = act; reply = reply }) part ≡ Some e
entry_by script e session act reply part e1 e2 e3 e4 = rw (e1, e2, e3, e4) refl

pub guess_again : (script : Script) (e : Entry) → IsNamed script → IsEntry script e → guess script (texts script e) ≡ Some e
guess_again script e h i =
    let a = is_act script e.act in
    let r = is_reply script e.act e.reply in
    let s = is_actor script e.session in
    let t = is_tick e.tick in
    let w1 = and_right a (r && (s && t)) i.known in
    let w2 = and_right r (s && t) w1 in
    let act : act_of script (part_text e.part) (act_text script e.act) ≡ e.act =
    ap (λ (w : List ℕ). act_of script w (act_text script e.act)) (part_word_of e.act e.session e.part i.part) ∙ act_again script e.act h (and_left a (r && (s && t)) i.known) in
    let reply : reply_of script (act_of script (part_text e.part) (act_text script e.act)) (reply_text script e.reply) ≡ e.reply =
    ap (λ (x : Act). reply_of script x (reply_text script e.reply)) act ∙ reply_again script e.act e.reply h (and_left r (s && t) w1) in
    let session : option_map (session_of script) (option_map (session_text script) e.session) ≡ e.session = session_again script e.session h (and_left s t w2) in
    let part : part_of (act_of script (part_text e.part) (act_text script e.act)) (option_map (session_of script) (option_map (session_text script) e.session)) ≡ Some e.part =
    ap (λ (x : Act). part_of x (option_map (session_of script) (option_map (session_text script) e.session))) act ∙ ap (λ (x : Option ℕ). part_of e.act x) session ∙ i.part in
    entry_by script e _ _ _ _ session act reply part

-- ---- texts that are the same

string_one : (a b : List ℕ) → string a ≡ string b → a ≡ b
string_one a b h = cc

abbrev line_text : List ℕ → List ℕ → List ℕ → Option (List ℕ) → ℕ → LineText
line_text a p r s t = record { act = a; part = p; reply = r; session = s; tick = t }

parts_by : (a1 b1 a2 b2 a3 b3 : List ℕ) (a4 b4 : Option (List ℕ)) (a5 b5 : ℕ) → a1 ≡ b1 → a2 ≡ b2 → a3 ≡ b3 → a4 ≡ b4 → a5 ≡ b5
    → line_text a1 a2 a3 a4 a5 ≡ line_text b1 b2 b3 b4 b5
parts_by a1 b1 a2 b2 a3 b3 a4 b4 a5 b5 e1 e2 e3 e4 e5 = rw (e1, e2, e3, e4, e5) refl

same_parts : (a b : LineText) → a.act ≡ b.act → a.part ≡ b.part → a.reply ≡ b.reply → a.session ≡ b.session → a.tick ≡ b.tick → a ≡ b
same_parts a b e1 e2 e3 e4 e5 = parts_by a.act b.act a.part b.part a.reply b.reply a.session b.session a.tick b.tick e1 e2 e3 e4 e5

session_one : (a b : Option (List ℕ)) → session_data a ≡ session_data b → a ≡ b
session_one None None h = refl
session_one (Some a) (Some b) h = ap Some (string_one a b h)
session_one None (Some b) h = absurd cc
session_one (Some a) None h = absurd cc

object_one : (a b : LineText) → Some (object_of a) ≡ Some (object_of b) → a ≡ b
object_one a b e =
    let e1 : a.act ≡ b.act = cc in
    let e2 : a.part ≡ b.part = cc in
    let e3 : a.reply ≡ b.reply = cc in
    let e4 : session_data a.session ≡ session_data b.session = cc in
    let e5 : a.tick ≡ b.tick = cc in
    same_parts a b e1 e2 e3 (session_one a.session b.session e4) e5

names_decide : (a b : Option (List ℕ)) → same_names a b ≡ true → a ≡ b
names_decide None None h = refl
names_decide (Some a) (Some b) h = ap Some ((bytes_eq-Decides a b).0 h)
names_decide None (Some b) h = absurd cc
names_decide (Some a) None h = absurd cc

same_number : (a b : ℕ) → (a == b) ≡ true → a ≡ b
same_number a b h = grind (arith, nat_tests)

texts_decide : (a b : LineText) → same_texts a b ≡ true → a ≡ b
texts_decide a b h =
    let s = same_names a.session b.session && (a.tick == b.tick) in
    let h1 = and_right (bytes_eq a.act b.act) (bytes_eq a.part b.part && (bytes_eq a.reply b.reply && s)) h in
    let h2 = and_right (bytes_eq a.part b.part) (bytes_eq a.reply b.reply && s) h1 in
    let h3 = and_right (bytes_eq a.reply b.reply) s h2 in
    same_parts a b ((bytes_eq-Decides a.act b.act).0 (and_left (bytes_eq a.act b.act) (bytes_eq a.part b.part && (bytes_eq a.reply b.reply && s)) h))
    ((bytes_eq-Decides a.part b.part).0 (and_left (bytes_eq a.part b.part) (bytes_eq a.reply b.reply && s) h1))
    ((bytes_eq-Decides a.reply b.reply).0 (and_left (bytes_eq a.reply b.reply) s h2))
    (names_decide a.session b.session (and_left (same_names a.session b.session) (a.tick == b.tick) h3))
    (same_number a.tick b.tick (and_right (same_names a.session b.session) (a.tick == b.tick) h3))

name_same : (w : List ℕ) → bytes_eq w w ≡ true
name_same w = (bytes_eq-Decides w w).1 refl

names_same : (a : Option (List ℕ)) → same_names a a ≡ true
names_same None = refl
names_same (Some a) = name_same a

number_same : (n : ℕ) → (n == n) ≡ true
number_same n = grind (arith, nat_tests)

texts_same : (a : LineText) → same_texts a a ≡ true
texts_same a = rw (name_same a.act, name_same a.part, name_same a.reply, names_same a.session, number_same a.tick) refl

-- ---- what was read is the entry's

some_one : (a b : Entry) → Some a ≡ Some b → a ≡ b
some_one a b h = cc

read_one : (a b : LineText) (text : List ℕ) → read text ≡ Some (object_of a) → read text ≡ Some (object_of b) → a ≡ b
read_one a b text p q = object_one a b (sym p ∙ q)

part_from : (script : Script) (l : LineText) (session : Option ℕ) (act : Act) (part : Option Part) (e : Entry) → part_of act session ≡ part → guess_with script l session act ≡ Some e → part_of e.act e.session ≡ Some e.part
part_from script l session act None e p h = absurd (cc (rw p at h))
part_from script l session act (Some q) e p h =
    let found : record { tick = l.tick; session = session; part = q; act = act; reply = reply_of script act l.reply } ≡ e = some_one _ e (rw p at h) in
    subst (λ (x : Entry). part_of x.act x.session ≡ Some x.part) found p

pub guessed_part : (script : Script) (l : LineText) (e : Entry) → guess script l ≡ Some e → part_of e.act e.session ≡ Some e.part
guessed_part script l e h = part_from script l (option_map (session_of script) l.session) (act_of script l.part l.act) _ e refl h

pub found_line : (script : Script) (text : List ℕ) (l : LineText) (e : Entry) → IsUtf8 text → read text ≡ Some (object_of l) → guess script l ≡ Some e → (is_known script e && same_texts (texts script e) l) ≡ true → IsLine script text e
found_line script text l e u r g w = record {
  text = u;
  entry = record { known = and_left (is_known script e) (same_texts (texts script e) l) w; part = guessed_part script l e g };
  object = r ∙ ap (λ (x : LineText). Some (object_of x)) (sym (texts_decide (texts script e) l (and_right (is_known script e) (same_texts (texts script e) l) w)));
}

pub bad_members : (script : Script) (text : List ℕ) → ((l : LineText) → read text ≡ Some (object_of l) → ⊥) → IsBad script text
bad_members script text none = λ e i. none (texts script e) i.object

pub bad_entry : (script : Script) (text : List ℕ) (l : LineText) → is_valid script ≡ true → read text ≡ Some (object_of l)
    → ((e : Entry) → guess script l ≡ Some e → (is_known script e && same_texts (texts script e) l) ≡ false) → IsBad script text
bad_entry script text l h r none = λ e i.
    let same : l ≡ texts script e = read_one l (texts script e) text r i.object in
    let guessed : guess script l ≡ Some e = ap (guess script) same ∙ guess_again script e (valid_names script h) i.entry in
    let yes : (is_known script e && same_texts (texts script e) l) ≡ true = rw i.entry.known (ap (λ (x : LineText). same_texts (texts script e) x) same ∙ texts_same (texts script e)) in
    let no : (is_known script e && same_texts (texts script e) l) ≡ false = none e guessed in
    absurd (cc (yes, no))

-- a line is one entry's at most
pub line_one : (script : Script) (line : List ℕ) (a b : Entry) → is_valid script ≡ true → IsLine script line a → IsLine script line b → a ≡ b
line_one script line a b h i j =
    let same : texts script a ≡ texts script b = read_one (texts script a) (texts script b) line i.object j.object in
    some_one a b (sym (guess_again script a (valid_names script h) i.entry) ∙ ap (guess script) same ∙ guess_again script b (valid_names script h) j.entry)
