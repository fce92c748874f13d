-- What is read of a text that has the form, and of one that hasn't.
use Rattle.std.proofs.Common.{◌≡◌, ℕ, suc, ◌-◌, ◌≤◌, Bool, true, false, cond, ◌==◌, List, [], ◌∷◌, length, take, drop, Option, Some, None, Result, Ok, Err, inl, inr, refl, sym, ap, ◌∙◌, subst, arith}
use Rattle.std.specs.Prelude.{IfOk, IfErr}
use Rattle.std.proofs.lemmas.List.{length-drop, length-take}
use Rattle.hib_base.specs.declared.refusals.Refused.{Refused}
use Rattle.hib_journal.specs.Types.{Script, Entry}
use Rattle.hib_lex.specs.Lines.{line_feed, before_lines, lines_of}
use Rattle.hib_lex.proofs.Texts.{from_place}
use Rattle.hib_script.specs.Outline.{Outline, outline_of}
use Rattle.hib_journal_json.specs.Entries.{AreLines}
use Rattle.hib_journal_json.proofs.Journals.{same_length, none_bad}
use Rattle.hib_script.specs.declared.errors.ScriptError.{ScriptError}
use Rattle.hib_input.specs.declared.with_journal.WithJournal.{WithJournal}
use Rattle.hib_input.specs.Cut.{TextLines, script_of_lines}
use Rattle.hib_input.specs.WithJournal.{cut_off, IsBadCut, IsWholeInput}

-- ---- a text has no more lines than bytes

before_few : (b : ℕ) (ls : TextLines) (n : ℕ) → length ls ≤ n → length (before_lines b ls) ≤ suc n
before_few b [] n h = omega (arith, h)
before_few b (l ∷ ls) n h = omega (arith, h)

lines_few : (bs : List ℕ) → length (lines_of bs) ≤ length bs
lines_few [] = omega arith
lines_few (b ∷ bs) = by (b == line_feed) (lines_few bs)
  where
    by : (v : Bool) → length (lines_of bs) ≤ length bs → length (cond v ([] ∷ lines_of bs) (before_lines b (lines_of bs))) ≤ suc (length bs)
    by true h = omega (arith, h)
    by false h = before_few b (lines_of bs) (length bs) h

pub rest_few : (text : List ℕ) (n k : ℕ) → length (lines_of (take n (drop k text))) ≤ length text
rest_few text n k =
    let few : length (lines_of (take n (drop k text))) ≤ length (take n (drop k text)) = lines_few (take n (drop k text)) in
    let part : length (take n (drop k text)) ≤ length text = simp (length-take, length-drop) (omega arith) in
    omega (arith, few, part)

pub few_entries : (r : Result WithJournal ScriptError) (ls : TextLines) (n : ℕ) → IfOk r (λ i. AreLines i.script ls i.journal.list) → length ls ≤ n → IfOk r (λ i. length i.journal.list ≤ n)
few_entries (Err f) ls n a h = tt
few_entries (Ok i) ls n a h = subst (λ m. m ≤ n) (same_length i.script ls i.journal.list a) h

-- ---- a text that has the form isn't refused

said_one : (a b : Outline) → ◌≡◌ {A = Result Outline Refused} (Ok a) (Ok b) → a ≡ b
said_one a b e = cc

other : (a : Outline) (r : Refused) → ◌≡◌ {A = Result Outline Refused} (Ok a) (Err r) → ⊥
other a r e = cc

abbrev left : {A B : Type 0} → A → Option (A × B) → A
left a None = a
left a (Some p) = p.0

abbrev right : {A B : Type 0} → B → Option (A × B) → B
right b None = b
right b (Some p) = p.1

first_part : {A B : Type 0} (a c : A) (b d : B) → ◌≡◌ {A = Option (A × B)} (Some (a, b)) (Some (c, d)) → (a ≡ c) × (b ≡ d)
first_part a c b d e = (ap (left a) e, ap (right b) e)

not_bad : (before behind : TextLines) (said : Outline) (f : ScriptError) → script_of_lines before ≡ Ok said → ((script : Script) → outline_of script ≡ said → (es : List Entry) × AreLines script behind es) →
    IsBadCut before behind f → f ≡ ScriptError.NoMemory
not_bad before behind said ScriptError.NoMemory is lines bad = refl
not_bad before behind said (ScriptError.Refused r) is lines (inl e) = absurd (other said r (sym is ∙ e))
not_bad before behind said (ScriptError.Refused r) is lines (inr bad) =
    let same : outline_of bad.0 ≡ said = said_one (outline_of bad.0) said (sym bad.1.0 ∙ is) in
    let read : (es : List Entry) × AreLines bad.0 behind es = lines bad.0 same in
    absurd (none_bad bad.0 behind read.0 bad.1.1.0 read.1 bad.1.1.1.0)

-- the rest of a text, as code takes it
pub whole_read : (text : List ℕ) (b k : ℕ) (r : Result WithJournal ScriptError) → IfErr r (IsBadCut (lines_of (take b text)) (lines_of (take (length text - k) (drop k text)))) →
    cut_off text ≡ Some (lines_of (take b text), lines_of (drop k text)) → IsWholeInput text → IfErr r (λ f. f ≡ ScriptError.NoMemory)
whole_read text b k (Ok i) bad here w = tt
whole_read text b k (Err f) bad here w =
    let same : (w.before ≡ lines_of (take b text)) × (w.behind ≡ lines_of (drop k text)) = first_part w.before _ w.behind _ (sym w.cut ∙ here) in
    let is : script_of_lines (lines_of (take b text)) ≡ Ok w.said = subst (λ ls. script_of_lines ls ≡ Ok w.said) same.0 w.is in
    let bad_there : IsBadCut (lines_of (take b text)) (lines_of (drop k text)) f = subst (λ t. IsBadCut (lines_of (take b text)) (lines_of t) f) (from_place text k) bad in
    not_bad (lines_of (take b text)) (lines_of (drop k text)) w.said f is (subst (λ ls. (script : Script) → outline_of script ≡ w.said → (es : List Entry) × AreLines script ls es) same.1 w.lines) bad_there
