-- Lines and the entries that they are, one after the other.
use Rattle.std.proofs.Common.{◌≡◌, ℕ, zero, suc, ◌+◌, ◌-◌, ◌<◌, ◌≤◌, List, [], ◌∷◌, ◌++◌, length, take, drop, Option, Some, None, refl, ap, sym, ◌∙◌, subst, true, false, not, ◌&&◌, ◌==◌, arith, append_assoc, IsUtf8, nat_lt, option_map}
use Rattle.std.specs.Fmt.{decimal}
use Rattle.std.specs.List.{list_all}
use Rattle.std.proofs.lemmas.List.{append-nil, drop_all}
use Rattle.std.proofs.lemmas.Bool.{not-true}
use Rattle.std.proofs.lemmas.Bool.Decides.{nat_tests}
use Rattle.json.proofs.Printed.Utf8.{are_ascii, IsUtf8-are_ascii}
use Rattle.hib_base.specs.Valid.{is_valid}
use Rattle.hib_lex.specs.Tokens.{is_digit}
use Rattle.hib_lex.specs.Lines.{before_lines, lines_of, line_length}
use Rattle.hib_lex.proofs.Texts.{line_here}
use Rattle.hib_journal.specs.Types.{Entry, Script}
use Rattle.hib_texts.specs.Texts.{session_text}
use Rattle.hib_entry_fields.specs.Known.{is_tick}
use Rattle.hib_entry_fields.proofs.PieceLaws.{is_ascii, and_left, and_right, numeral}
use Rattle.hib_entry_fields.proofs.NameLaws.{IsNamed, valid_names}
use Rattle.hib_entry_fields.proofs.FieldLaws.{tick_small}
use Rattle.hib_entry_texts.specs.WellFormed.{is_act, is_reply}
use Rattle.hib_entry_texts.proofs.AsciiWhole.{act_ascii, reply_ascii, part_ascii, session_ascii}
use Rattle.hib_json_lines.specs.Line.{texts, json_line, json_lines}
use Rattle.hib_json_lines.proofs.Feeds.{has_none, line_none}
use Rattle.hib_json_lines.proofs.ReadsBack.{IsText, reads_back, line_text}
use Rattle.hib_journal_json.specs.Entries.{is_actor, IsEntry, AreEntries, IsLine, IsBad, AreLines, IsFirstBad, refused_at, IsRefusedAs, IsRefused}
use Rattle.hib_journal_json.specs.declared.faults.JournalFault.{JournalFault}
use Rattle.hib_journal_json.proofs.Guesses.{line_one}

-- ---- one journal, or one first bad line

pub one_list : (script : Script) (ls : List (List ℕ)) (es fs : List Entry) → is_valid script ≡ true → AreLines script ls es → AreLines script ls fs → es ≡ fs
one_list script [] [] [] h a b = refl
one_list script [] [] (f ∷ fs) h a b = absurd b
one_list script [] (e ∷ es) fs h a b = absurd a
one_list script (l ∷ ls) [] fs h a b = absurd a
one_list script (l ∷ ls) (e ∷ es) [] h a b = absurd b
one_list script (l ∷ ls) (e ∷ es) (f ∷ fs) h a b = ap (λ (x : Entry). x ∷ es) (line_one script l e f h a.0 b.0) ∙ ap (λ (xs : List Entry). f ∷ xs) (one_list script ls es fs h a.1 b.1)

pub none_bad : (script : Script) (ls : List (List ℕ)) (es : List Entry) (n : ℕ) → AreLines script ls es → IsFirstBad script ls n → ⊥
none_bad script [] es n a b = b
none_bad script (l ∷ ls) [] n a b = a
none_bad script (l ∷ ls) (e ∷ es) zero a b = b e a.0
none_bad script (l ∷ ls) (e ∷ es) (suc n) a b = none_bad script ls es n a.1 b.1

first_one : (script : Script) (ls : List (List ℕ)) (m n : ℕ) → IsFirstBad script ls m → IsFirstBad script ls n → m ≡ n
first_one script [] m n a b = absurd a
first_one script (l ∷ ls) zero zero a b = refl
first_one script (l ∷ ls) zero (suc n) a b = absurd (a b.0.0 b.0.1)
first_one script (l ∷ ls) (suc m) zero a b = absurd (b a.0.0 a.0.1)
first_one script (l ∷ ls) (suc m) (suc n) a b = ap suc (first_one script ls m n a.1 b.1)

pub refused_one : (script : Script) (ls : List (List ℕ)) (first n : ℕ) (f : JournalFault) → IsFirstBad script ls n → IsRefused script ls first f → IsRefusedAs (refused_at first n) f
refused_one script ls first n JournalFault.NoMemory b r = tt
refused_one script ls first n (JournalFault.Refused x) b r = r.1.1 ∙ ap (refused_at first) (first_one script ls r.0 n r.1.0 b)

pub only_memory : (script : Script) (ls : List (List ℕ)) (first : ℕ) (es : List Entry) (f : JournalFault) → AreLines script ls es → IsRefused script ls first f → f ≡ JournalFault.NoMemory
only_memory script ls first es JournalFault.NoMemory a r = refl
only_memory script ls first es (JournalFault.Refused x) a r = absurd (none_bad script ls es r.0 a r.1.0)

-- ---- one line more

pub same_length : (script : Script) (ls : List (List ℕ)) (es : List Entry) → AreLines script ls es → length ls ≡ length es
same_length script [] [] a = refl
same_length script [] (e ∷ es) a = absurd a
same_length script (l ∷ ls) [] a = absurd a
same_length script (l ∷ ls) (e ∷ es) a = ap suc (same_length script ls es a.1)

pub one_more : (script : Script) (ls : List (List ℕ)) (es : List Entry) (l : List ℕ) (e : Entry) → AreLines script ls es → IsLine script l e → AreLines script (ls ++ l ∷ []) (es ++ e ∷ [])
one_more script [] [] l e a i = (i, tt)
one_more script [] (f ∷ es) l e a i = absurd a
one_more script (k ∷ ls) [] l e a i = absurd a
one_more script (k ∷ ls) (f ∷ es) l e a i = (a.0, one_more script ls es l e a.1 i)

pub bad_behind : (script : Script) (ls : List (List ℕ)) (es : List Entry) (l : List ℕ) (more : List (List ℕ)) → AreLines script ls es → IsBad script l → IsFirstBad script (ls ++ l ∷ more) (length ls)
bad_behind script [] es l more a b = b
bad_behind script (k ∷ ls) [] l more a b = absurd a
bad_behind script (k ∷ ls) (e ∷ es) l more a b = ((e, a.0), bad_behind script ls es l more a.1 b)

-- ---- the line at a place of the text

-- what was read before a place, and what is left
pub record SoFar (script : Script) (text : List ℕ) (start : ℕ) (es : List Entry) : Type 0 where
  pub before : List (List ℕ)
  pub split : lines_of text ≡ before ++ lines_of (drop start text)
  pub are : AreLines script before es

pub at_start : (script : Script) (text : List ℕ) (es : List Entry) → es ≡ [] → SoFar script text 0 es
at_start script text es e = record { before = []; split = refl; are = subst (AreLines script []) (sym e) tt }

pub at_end : (script : Script) (text : List ℕ) (start : ℕ) (es : List Entry) → length text ≤ start → SoFar script text start es → AreLines script (lines_of text) es
at_end script text start es h s =
    let all : lines_of text ≡ s.before = s.split ∙ ap (λ (t : List ℕ). s.before ++ lines_of t) (drop_all start text h) ∙ append-nil s.before in
    subst (λ (ls : List (List ℕ)). AreLines script ls es) (sym all) s.are

pub goes_on : (script : Script) (text : List ℕ) (start size : ℕ) (es : List Entry) (e : Entry) → start < length text → size ≡ line_length (take (length text - start) (drop start text)) → SoFar script text start es
    → IsLine script (take (start + size - start) (drop start text)) e → SoFar script text (start + size + 1) (es ++ e ∷ [])
goes_on script text start size es e h k s i =
    let line : List ℕ = take (start + size - start) (drop start text) in
    let rest : List (List ℕ) = lines_of (drop (start + size + 1) text) in
    record {
      before = s.before ++ line ∷ [];
      split = s.split ∙ ap (λ (ls : List (List ℕ)). s.before ++ ls) (line_here text start size h k) ∙ sym (append_assoc s.before (line ∷ []) rest);
      are = one_more script s.before es line e s.are i;
    }

pub stops_at : (script : Script) (text : List ℕ) (start size first : ℕ) (es : List Entry) → start < length text → size ≡ line_length (take (length text - start) (drop start text)) → SoFar script text start es
    → IsBad script (take (start + size - start) (drop start text)) → IsRefused script (lines_of text) first (JournalFault.Refused (refused_at first (length es)))
stops_at script text start size first es h k s b =
    let line : List ℕ = take (start + size - start) (drop start text) in
    let rest : List (List ℕ) = lines_of (drop (start + size + 1) text) in
    let all : lines_of text ≡ s.before ++ line ∷ rest = s.split ∙ ap (λ (ls : List (List ℕ)). s.before ++ ls) (line_here text start size h k) in
    let here : IsFirstBad script (lines_of text) (length s.before) = subst (λ (ls : List (List ℕ)). IsFirstBad script ls (length s.before)) (sym all) (bad_behind script s.before es line rest s.are b) in
    (length s.before, (here, ap (refused_at first) (sym (same_length script s.before es s.are))))

-- ---- what was written

ascii_same : (bs : List ℕ) → is_ascii bs ≡ true → are_ascii bs ≡ true
ascii_same [] h = refl
ascii_same (b ∷ bs) h = rw (and_left (nat_lt b 128) (is_ascii bs) h) (ascii_same bs (and_right (nat_lt b 128) (is_ascii bs) h))

text_of : (bs : List ℕ) → is_ascii bs ≡ true → IsUtf8 bs
text_of bs h = IsUtf8-are_ascii bs (ascii_same bs h)

name_of : (script : Script) (s : Option ℕ) → IsNamed script → is_actor script s ≡ true → IsText (option_map (session_text script) s)
name_of script None h w = tt
name_of script (Some s) h w = text_of (session_text script s) (session_ascii script s h w)

digit_none : (d : ℕ) → is_digit d ≡ true → not (d == 10) ≡ true
digit_none d h = grind (arith, nat_tests)

digits_none : (ds : List ℕ) → list_all is_digit ds ≡ true → has_none ds ≡ true
digits_none [] h = refl
digits_none (d ∷ ds) h = rw (digit_none d (and_left (is_digit d) (list_all is_digit ds) h)) (digits_none ds (and_right (is_digit d) (list_all is_digit ds) h))

pub written_line : (script : Script) (e : Entry) → is_valid script ≡ true → IsEntry script e → IsLine script (json_line script e) e
unfolding json_line
written_line script e v i =
    let h = valid_names script v in
    let a = is_act script e.act in
    let r = is_reply script e.act e.reply in
    let s = is_actor script e.session in
    let t = is_tick e.tick in
    let w1 = and_right a (r && (s && t)) i.known in
    let w2 = and_right r (s && t) w1 in
    let small = tick_small e.tick (and_right s t w2) in
    record {
      text = line_text (texts script e) (text_of _ (act_ascii script e.act h (and_left a (r && (s && t)) i.known))) (text_of _ (part_ascii e.part)) (text_of _ (reply_ascii script e.act e.reply h (and_left r (s && t) w1))) (name_of script e.session h (and_left s t w2)) small;
      entry = i;
      object = reads_back (texts script e) small;
    }

written_none : (script : Script) (e : Entry) → IsEntry script e → has_none (json_line script e) ≡ true
unfolding json_line
written_none script e i =
    let a = is_act script e.act in
    let r = is_reply script e.act e.reply in
    let s = is_actor script e.session in
    let t = is_tick e.tick in
    let small = tick_small e.tick (and_right s t (and_right r (s && t) (and_right a (r && (s && t)) i.known))) in
    line_none (texts script e) (digits_none (decimal e.tick) (numeral e.tick small).0)

feed_splits : (l rest : List ℕ) → has_none l ≡ true → lines_of (l ++ (10 ∷ rest)) ≡ l ∷ lines_of rest
feed_splits [] rest h = refl
feed_splits (b ∷ l) rest h =
    let no : (b == 10) ≡ false = not-true (b == 10) (and_left (not (b == 10)) (has_none l) h) in
    rw no (ap (before_lines b) (feed_splits l rest (and_right (not (b == 10)) (has_none l) h)))

lines_split : (script : Script) (e : Entry) (es : List Entry) → json_lines script (e ∷ es) ≡ json_line script e ++ (10 ∷ json_lines script es)
lines_split script e es = append_assoc (json_line script e) (10 ∷ []) (json_lines script es)

first_entry : (script : Script) (e : Entry) (es : List Entry) → AreEntries script (e ∷ es) → IsEntry script e
first_entry script e es a = a 0 e (omega arith)

other_entries : (script : Script) (e : Entry) (es : List Entry) → AreEntries script (e ∷ es) → AreEntries script es
other_entries script e es a = λ k d h. a (suc k) d (omega (arith, h))

pub written_lines : (script : Script) (es : List Entry) → is_valid script ≡ true → AreEntries script es → AreLines script (lines_of (json_lines script es)) es
written_lines script [] v a = tt
written_lines script (e ∷ es) v a =
    let split : lines_of (json_lines script (e ∷ es)) ≡ json_line script e ∷ lines_of (json_lines script es) = ap lines_of (lines_split script e es) ∙ feed_splits (json_line script e) (json_lines script es) (written_none script e (first_entry script e es a)) in
    subst (λ (ls : List (List ℕ)). AreLines script ls (e ∷ es)) (sym split) (written_line script e v (first_entry script e es a), written_lines script es v (other_entries script e es a))
