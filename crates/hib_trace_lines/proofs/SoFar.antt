-- Lines and the events that they are, one after the other.
use Rattle.std.proofs.Common.{◌≡◌, ℕ, zero, suc, ◌+◌, ◌-◌, ◌<◌, ◌≤◌, List, [], ◌∷◌, ◌++◌, length, take, drop, Some, None, refl, ap, sym, ◌∙◌, subst, inl, inr, arith, append_assoc, Result, Ok, Err, IfOk, IfErr, MatchResult}
use Rattle.std.proofs.lemmas.List.{append-nil, drop_all}
use Rattle.serde_json.specs.Data.{Data}
use Rattle.hib_lex.specs.Lines.{lines_of, line_length}
use Rattle.hib_lex.proofs.Texts.{line_here}
use Rattle.hib_trace_lines.specs.Events.{EventText}
use Rattle.hib_trace_lines.specs.Faults.{fault_of}
use Rattle.hib_trace_lines.specs.Members.{event_of}
use Rattle.hib_trace_lines.specs.Lines.{IsLine, IsBad, AreLines, IsFirstBad, IsRefused, IsRefusedAs, most_bytes}
use Rattle.hib_trace_lines.specs.declared.faults.Fault.{Fault}
use Rattle.hib_trace_lines.specs.declared.faults.RefusedLine.{RefusedLine}
use Rattle.hib_trace_lines.specs.declared.faults.TraceError.{TraceError}

-- ---- a line says one thing

some_event : (a b : EventText) → Some a ≡ Some b → a ≡ b
some_event a b h = cc

some_fault : (a b : Fault) → Some a ≡ Some b → a ≡ b
some_fault a b h = cc

some_data : (a b : Data) → Some a ≡ Some b → a ≡ b
some_data a b h = cc

none_some : {A : Type 0} (a : A) → None ≡ Some a → ⊥
none_some a h = cc

line_one : (line : List ℕ) (a b : EventText) → IsLine line a → IsLine line b → a ≡ b
line_one line a b i j =
    some_event a b (sym i.event ∙ ap event_of (some_data i.object j.object (sym i.read ∙ j.read)) ∙ j.event)

bad_one : (line : List ℕ) (f g : Fault) → IsBad line f → IsBad line g → f ≡ g
bad_one line f g (inl a) (inl b) = some_fault f g (sym a.wrong ∙ ap fault_of (some_data a.object b.object (sym a.read ∙ b.read)) ∙ b.wrong)
bad_one line f g (inl a) (inr b) = absurd (none_some a.object (sym (b.1 a.text) ∙ a.read))
bad_one line f g (inr a) (inl b) = absurd (none_some b.object (sym (a.1 b.text) ∙ b.read))
bad_one line f g (inr a) (inr b) = a.0 ∙ sym b.0

line_bad : (line : List ℕ) (e : EventText) (f : Fault) → IsLine line e → IsBad line f → ⊥
line_bad line e f i (inl b) = none_some f (sym i.right ∙ ap fault_of (some_data i.object b.object (sym i.read ∙ b.read)) ∙ b.wrong)
line_bad line e f i (inr b) = none_some i.object (sym (b.1 i.text) ∙ i.read)

-- ---- one list of events, or one first bad line

pub one_list : (ls : List (List ℕ)) (es fs : List EventText) → AreLines ls es → AreLines ls fs → es ≡ fs
one_list [] [] [] a b = refl
one_list [] [] (f ∷ fs) a b = absurd b
one_list [] (e ∷ es) fs a b = absurd a
one_list (l ∷ ls) [] fs a b = absurd a
one_list (l ∷ ls) (e ∷ es) [] a b = absurd b
one_list (l ∷ ls) (e ∷ es) (f ∷ fs) a b =
    ap (λ (x : EventText). x ∷ es) (line_one l e f a.0 b.0) ∙ ap (λ (xs : List EventText). f ∷ xs) (one_list ls es fs a.1 b.1)

pub none_bad : (ls : List (List ℕ)) (es : List EventText) (n : ℕ) (f : Fault) → AreLines ls es → IsFirstBad ls n f → ⊥
none_bad [] es n f a b = b
none_bad (l ∷ ls) [] n f a b = a
none_bad (l ∷ ls) (e ∷ es) zero f a b = line_bad l e f a.0 b
none_bad (l ∷ ls) (e ∷ es) (suc n) f a b = none_bad ls es n f a.1 b.1

first_one : (ls : List (List ℕ)) (m n : ℕ) (f g : Fault) → IsFirstBad ls m f → IsFirstBad ls n g → (m ≡ n) × (f ≡ g)
first_one [] m n f g a b = absurd a
first_one (l ∷ ls) zero zero f g a b = (refl, bad_one l f g a b)
first_one (l ∷ ls) zero (suc n) f g a b = absurd (line_bad l b.0.0 f b.0.1 a)
first_one (l ∷ ls) (suc m) zero f g a b = absurd (line_bad l a.0.0 g a.0.1 b)
first_one (l ∷ ls) (suc m) (suc n) f g a b = let r = first_one ls m n f g a.1 b.1 in (ap suc r.0, r.1)

abbrev refusal : ℕ → Fault → RefusedLine
refusal n f = record { line = n; fault = f }

refusal_by : (m n : ℕ) (f g : Fault) → m ≡ n → f ≡ g → refusal m f ≡ refusal n g
refusal_by m n f g a b = ap (λ (k : ℕ). refusal k f) a ∙ ap (refusal n) b

refused_as : (x : RefusedLine) (n : ℕ) (f : Fault) → x.line ≡ n + 1 → x.fault ≡ f → x ≡ refusal (n + 1) f
refused_as x n f a b = refusal_by x.line (n + 1) x.fault f a b

pub refused_one : (text : List ℕ) (n : ℕ) (f : Fault) (e : TraceError) → length text ≤ most_bytes → IsFirstBad (lines_of text) n f → IsRefused text e → IsRefusedAs n f e
refused_one text n f TraceError.NoMemory s b r = tt
refused_one text n f TraceError.TooLong s b r = omega (arith, r, s)
refused_one text n f (TraceError.Refused x) s b r =
    let o = first_one (lines_of text) r.0 n x.fault f r.1.0 b in
    refused_as x n f (r.1.1 ∙ ap (λ k. k + 1) o.0) o.1

pub only_memory : (text : List ℕ) (es : List EventText) (e : TraceError) → length text ≤ most_bytes → AreLines (lines_of text) es → IsRefused text e → e ≡ TraceError.NoMemory
only_memory text es TraceError.NoMemory s a r = refl
only_memory text es TraceError.TooLong s a r = absurd (omega (arith, r, s))
only_memory text es (TraceError.Refused x) s a r = absurd (none_bad (lines_of text) es r.0 x.fault a r.1.0)

-- ---- one line more

same_length : (ls : List (List ℕ)) (es : List EventText) → AreLines ls es → length ls ≡ length es
same_length [] [] a = refl
same_length [] (e ∷ es) a = absurd a
same_length (l ∷ ls) [] a = absurd a
same_length (l ∷ ls) (e ∷ es) a = ap suc (same_length ls es a.1)

one_more : (ls : List (List ℕ)) (es : List EventText) (l : List ℕ) (e : EventText) → AreLines ls es → IsLine l e → AreLines (ls ++ l ∷ []) (es ++ e ∷ [])
one_more [] [] l e a i = (i, tt)
one_more [] (f ∷ es) l e a i = absurd a
one_more (k ∷ ls) [] l e a i = absurd a
one_more (k ∷ ls) (f ∷ es) l e a i = (a.0, one_more ls es l e a.1 i)

bad_behind : (ls : List (List ℕ)) (es : List EventText) (l : List ℕ) (f : Fault) (more : List (List ℕ)) → AreLines ls es → IsBad l f → IsFirstBad (ls ++ l ∷ more) (length ls) f
bad_behind [] es l f more a b = b
bad_behind (k ∷ ls) [] l f more a b = absurd a
bad_behind (k ∷ ls) (e ∷ es) l f more a b = ((e, a.0), bad_behind ls es l f more a.1 b)

-- ---- the line at a place of the text

-- what was read before a place, and what is left
pub record ReadUpTo (text : List ℕ) (start : ℕ) (es : List EventText) : Type 0 where
  pub before : List (List ℕ)
  pub split : lines_of text ≡ before ++ lines_of (drop start text)
  pub are : AreLines before es

pub at_start : (text : List ℕ) (es : List EventText) → es ≡ [] → ReadUpTo text 0 es
at_start text es e = record { before = []; split = refl; are = subst (AreLines []) (sym e) tt }

pub at_end : (text : List ℕ) (start : ℕ) (es : List EventText) → length text ≤ start → ReadUpTo text start es → AreLines (lines_of text) es
at_end text start es h s =
    let all : lines_of text ≡ s.before = s.split ∙ ap (λ (t : List ℕ). s.before ++ lines_of t) (drop_all start text h) ∙ append-nil s.before in
    subst (λ (ls : List (List ℕ)). AreLines ls es) (sym all) s.are

pub goes_on : (text : List ℕ) (start size : ℕ) (es : List EventText) (e : EventText) → start < length text →
    size ≡ line_length (take (length text - start) (drop start text)) → ReadUpTo text start es →
    IsLine (take (start + size - start) (drop start text)) e → ReadUpTo text (start + size + 1) (es ++ e ∷ [])
goes_on text start size es e h k s i =
    let line : List ℕ = take (start + size - start) (drop start text) in
    let rest : List (List ℕ) = lines_of (drop (start + size + 1) text) in
    record {
      before = s.before ++ line ∷ [];
      split = s.split ∙ ap (λ (ls : List (List ℕ)). s.before ++ ls) (line_here text start size h k) ∙ sym (append_assoc s.before (line ∷ []) rest);
      are = one_more s.before es line e s.are i;
    }

pub stops_at : (text : List ℕ) (start size : ℕ) (es : List EventText) (f : Fault) → start < length text →
    size ≡ line_length (take (length text - start) (drop start text)) → ReadUpTo text start es →
    IsBad (take (start + size - start) (drop start text)) f → IsRefused text (TraceError.Refused (record { line = length es + 1; fault = f }))
stops_at text start size es f h k s b =
    let line : List ℕ = take (start + size - start) (drop start text) in
    let rest : List (List ℕ) = lines_of (drop (start + size + 1) text) in
    let all : lines_of text ≡ s.before ++ line ∷ rest = s.split ∙ ap (λ (ls : List (List ℕ)). s.before ++ ls) (line_here text start size h k) in
    let here : IsFirstBad (lines_of text) (length s.before) f =
    subst (λ (ls : List (List ℕ)). IsFirstBad ls (length s.before) f) (sym all) (bad_behind s.before es line f rest s.are b) in
    (length s.before, (here, ap (λ k. k + 1) (sym (same_length s.before es s.are))))

-- ---- whether the text was read or refused

pub each_way : {V E : Type 0} (r : Result V E) (P R : V → Type 0) (Q S : E → Type 0) → ((v : V) → P v → R v) → ((e : E) → Q e → S e) →
    IfOk r P → IfErr r Q → MatchResult r R S
each_way (Ok v) P R Q S f g p q = f v p
each_way (Err e) P R Q S f g p q = g e q
