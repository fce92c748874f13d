-- A text that goes to a sink in pieces.
use Rattle.std.proofs.Common.{◌≡◌, ℕ, ◌+◌, ◌≤◌, ◌<◌, min, List, [], ◌∷◌, ◌++◌, take, drop, get_or, length, refl, sym, ◌∙◌, ap, subst, append_assoc, append-nil, arith}
use Rattle.std.proofs.KnownBytes.{Appends-nil, Appends-trans}
use Rattle.std.proofs.Math.Seq.{take-append_seam, take-append-add}
use Rattle.std.proofs.lemmas.List.{take-append-le, take_min, take-append-drop, take_more}
use Rattle.std.proofs.lemmas.Grind.{flat_map-append}
use Rattle.std.specs.Prelude.{flat_map, reverse, OnErr, Result, Ok, Err}
use Rattle.hib_listeners.specs.Statistics.{counted}
use Rattle.hib_report.specs.Report.{journal_text, sessions_text, counts_text, report}
use Rattle.hib_report.specs.Unsound.{unsound_text}
use Rattle.std.specs.declared.option.Option.{Option}
use Rattle.std.specs.Io.KnownBytes.{Appends}
use Rattle.hib_outside.specs.Fronts.{TakesFront}
use Rattle.hib_report.specs.Sending.{IsSent}
use Rattle.hib_report.specs.Lines.{lines_text}
use Rattle.hib_journal.specs.Types.{Entry, Script}

pub none_sent : (old : Option (List ℕ)) (text : List ℕ) → IsSent old old text text
none_sent old text = record { front = []; taken = Appends-nil old; whole = refl }

-- more is gathered
pub sent_more : (old new : Option (List ℕ)) (text rest more : List ℕ) → IsSent old new text rest → IsSent old new (text ++ more) (rest ++ more)
sent_more old new text rest more s = record { front = s.front; taken = s.taken; whole = sym (append_assoc s.front rest more) ∙ ap (λ w. w ++ more) s.whole }

-- all that was gathered was taken
pub sent_all : (old mid new : Option (List ℕ)) (text rest : List ℕ) → IsSent old mid text rest → Appends mid new rest → IsSent old new text []
sent_all old mid new text rest s a = record { front = s.front ++ rest; taken = Appends-trans old mid new s.front rest s.taken a; whole = append-nil (s.front ++ rest) ∙ s.whole }

pub whole_sent : (old new : Option (List ℕ)) (text : List ℕ) → IsSent old new text [] → Appends old new text
whole_sent old new text s = subst (Appends old new) (sym (append-nil s.front) ∙ s.whole) s.taken

-- what was taken is a front of all that is to come
pub sent_front : (old new : Option (List ℕ)) (text rest more : List ℕ) → IsSent old new text rest → TakesFront old new (text ++ more)
sent_front old new text rest more s =
    (length s.front, subst (Appends old new) (sym (ap (λ w. take (length s.front) (w ++ more)) (sym s.whole) ∙ (ap (take (length s.front)) (append_assoc s.front rest more) ∙ take-append_seam s.front (rest ++ more)))) s.taken)

-- a front is one of so many bytes as there are at most
short_front : (xs : List ℕ) (n : ℕ) → (m : ℕ) × (m ≤ length xs) × (take m xs ≡ take n xs)
short_front xs n = (min n (length xs), omega arith, take_min n xs)

-- and so it is if the sink failed on the way
pub sent_part : (old mid new : Option (List ℕ)) (text rest more : List ℕ) → IsSent old mid text rest → TakesFront mid new rest → TakesFront old new (text ++ more)
sent_part old mid new text rest more s f =
    let m : (m : ℕ) × (m ≤ length rest) × (take m rest ≡ take f.0 rest) = short_front rest f.0 in
    let joined : Appends old new (s.front ++ take m.0 rest) = Appends-trans old mid new s.front (take m.0 rest) s.taken (subst (Appends mid new) (sym m.2) f.1) in
    let part : take (length s.front + m.0) (text ++ more) ≡ s.front ++ take m.0 rest =
    ap (λ w. take (length s.front + m.0) (w ++ more)) (sym s.whole)
    ∙ (ap (take (length s.front + m.0)) (append_assoc s.front rest more)
    ∙ (take-append-add s.front (rest ++ more) m.0 ∙ ap (λ w. s.front ++ w) (take-append-le m.0 rest more m.1))) in
    (length s.front + m.0, subst (Appends old new) (sym part) joined)

-- of what was still to go a front went, too
pub sent_on : (old mid new : Option (List ℕ)) (text rest last : List ℕ) → IsSent old mid text rest → IsSent mid new rest last → IsSent old new text last
sent_on old mid new text rest last s t = record {
  front = s.front ++ t.front;
  taken = Appends-trans old mid new s.front t.front s.taken t.taken;
  whole = append_assoc s.front t.front last ∙ (ap (λ w. s.front ++ w) t.whole ∙ s.whole);
}

-- ---- the texts of entries
split_lines : (f : Entry → List ℕ) (es : List Entry) (i : ℕ) (text : List ℕ) → (text ++ flat_map f (take i es)) ++ flat_map f (drop i es) ≡ text ++ flat_map f es
split_lines f es i text = append_assoc text _ _ ∙ ap (λ w. text ++ w) (sym (flat_map-append f (take i es) (drop i es)) ∙ ap (flat_map f) (take-append-drop i es))

-- what was taken after some entries is a front of the texts of all
pub lines_front : (f : Entry → List ℕ) (es : List Entry) (i : ℕ) (old new : Option (List ℕ)) (text rest : List ℕ) → IsSent old new (text ++ flat_map f (take i es)) rest → TakesFront old new (text ++ flat_map f es)
lines_front f es i old new text rest s = subst (TakesFront old new) (split_lines f es i text) (sent_front old new _ rest (flat_map f (drop i es)) s)

pub lines_part : (f : Entry → List ℕ) (es : List Entry) (i : ℕ) (old mid new : Option (List ℕ)) (text rest : List ℕ) → IsSent old mid (text ++ flat_map f (take i es)) rest → TakesFront mid new rest →
    TakesFront old new (text ++ flat_map f es)
lines_part f es i old mid new text rest s t = subst (TakesFront old new) (split_lines f es i text) (sent_part old mid new _ rest (flat_map f (drop i es)) s t)

-- one entry more
pub one_line : (f : Entry → List ℕ) (es : List Entry) (i : ℕ) (e : Entry) (old mid : Option (List ℕ)) (text rest : List ℕ) → i < length es → e ≡ get_or es i e → IsSent old mid (text ++ flat_map f (take i es)) rest →
    IsSent old mid (text ++ flat_map f (take (i + 1) es)) (rest ++ f e)
one_line f es i e old mid text rest h q s =
    let step : flat_map f (take (i + 1) es) ≡ flat_map f (take i es) ++ f e =
    ap (flat_map f) (take_more es i e h) ∙ (flat_map-append f (take i es) (get_or es i e ∷ []) ∙ ap (λ w. flat_map f (take i es) ++ w) (append-nil (f (get_or es i e)) ∙ ap f (sym q))) in
    subst (λ w. IsSent old mid w (rest ++ f e)) (append_assoc text (flat_map f (take i es)) (f e) ∙ ap (λ w. text ++ w) (sym step)) (sent_more old mid (text ++ flat_map f (take i es)) rest (f e) s)

-- what holds whatever was answered
pub on_err : {T E P : Type 0} (r : Result T E) → P → OnErr r P
on_err (Ok x) p = tt
on_err (Err e) p = p

-- ---- the report
text_front : (old new : Option (List ℕ)) (text : List ℕ) → TakesFront old new (text ++ []) → TakesFront old new text
text_front old new text f = subst (TakesFront old new) (append-nil text) f

front_more : (old new : Option (List ℕ)) (text more : List ℕ) → TakesFront old new text → TakesFront old new (text ++ more)
front_more old new text more f = sent_part old old new text text more (none_sent old text) f

-- the number of entries and their lines, as they were gathered
begun : (script : Script) (list es fs : List Entry) (none g : List ℕ) → none ≡ [] → es ≡ list → fs ≡ list → g ≡ none ++ journal_text es → g ++ lines_text script fs ≡ journal_text list ++ lines_text script list
begun script list es fs none g n p q e =
    ap (λ (w : List ℕ). w ++ lines_text script fs) (e ∙ ap (λ (w : List ℕ). w ++ journal_text es) n) ∙ ap (λ (x : List Entry). journal_text x ++ lines_text script fs) p ∙ ap (λ (x : List Entry). journal_text list ++ lines_text script x) q

-- what comes after the lines is gathered, too
with_ends : (script : Script) (list : List Entry) (old new : Option (List ℕ)) (text rest : List ℕ) → text ≡ journal_text list ++ lines_text script list → IsSent old new text rest →
    IsSent old new (report script list) (rest ++ sessions_text script (reverse list) ++ unsound_text script (reverse list) ++ counts_text script (counted script list))
with_ends script list old new text rest e s =
    sent_more old new _ _ (counts_text script (counted script list)) (sent_more old new _ _ (unsound_text script (reverse list)) (sent_more old new _ rest (sessions_text script (reverse list)) (subst (λ (w : List ℕ). IsSent old new w rest) e s)))

pub report_begun : (script : Script) (list es fs : List Entry) (old new : Option (List ℕ)) (none g : List ℕ) → none ≡ [] → es ≡ list → fs ≡ list → g ≡ none ++ journal_text es → TakesFront old new (g ++ lines_text script fs) →
    TakesFront old new (report script list)
report_begun script list es fs old new none g n p q e f =
    front_more old new _ (counts_text script (counted script list)) (front_more old new _ (unsound_text script (reverse list)) (front_more old new _ (sessions_text script (reverse list))
    (subst (TakesFront old new) (begun script list es fs none g n p q e) f)))

pub report_lined : (script : Script) (list es fs : List Entry) (old new : Option (List ℕ)) (none g rest : List ℕ) → none ≡ [] → es ≡ list → fs ≡ list → g ≡ none ++ journal_text es → IsSent old new (g ++ lines_text script fs) rest →
    IsSent old new (report script list) (rest ++ sessions_text script (reverse list) ++ unsound_text script (reverse list) ++ counts_text script (counted script list))
report_lined script list es fs old new none g rest n p q e s = with_ends script list old new (g ++ lines_text script fs) rest (begun script list es fs none g n p q e) s

pub taken_front : (old new : Option (List ℕ)) (text rest : List ℕ) → IsSent old new text rest → TakesFront old new text
taken_front old new text rest s = text_front old new text (sent_front old new text rest [] s)

pub failed_front : (old mid new : Option (List ℕ)) (text rest last : List ℕ) → IsSent old mid text rest → last ≡ rest → TakesFront mid new last → TakesFront old new text
failed_front old mid new text rest last s e f = text_front old new text (sent_part old mid new text rest [] s (subst (TakesFront mid new) e f))

pub taken_whole : (old mid new : Option (List ℕ)) (text rest last : List ℕ) → IsSent old mid text rest → last ≡ rest → Appends mid new last → Appends old new text
taken_whole old mid new text rest last s e a = whole_sent old new text (sent_all old mid new text rest s (subst (Appends mid new) e a))
