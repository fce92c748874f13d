-- The place at which a line cuts a text.
use Rattle.std.proofs.Common.{◌≡◌, ℕ, zero, suc, ◌+◌, ◌-◌, ◌<◌, ◌≤◌, Bool, true, false, cond, not, ◌&&◌, ◌==◌, List, [], ◌∷◌, ◌++◌, length, take, drop, get_or, Option, Some, None, option_map, refl, sym, ap, ◌∙◌, append_assoc, arith, add-one, min}
use Rattle.std.specs.List.{list_all}
use Rattle.std.proofs.lemmas.List.{append-nil, append_cancel_right, drop_all, length-drop, length-append, length-take, get_or-drop}
use Rattle.std.proofs.lemmas.Bool.Decides.{nat_tests}
use Rattle.hib_lex.specs.Lines.{line_feed, before_lines, lines_of, line_length}
use Rattle.hib_lex.proofs.Texts.{lines_first, from_place, line_here, drop_least}
use Rattle.hib_input.specs.Cut.{TextLines, is_mark, with_first, cut}

-- ---- a text is cut after a line feed

is_feed : (b : ℕ) → (b == line_feed) ≡ true → b ≡ 10
is_feed b e = grind (arith, nat_tests)

-- a byte before the lines of something, and of more
before_more : (b : ℕ) (bs : List ℕ) (more : TextLines) → 0 < length bs → before_lines b (lines_of bs ++ more) ≡ before_lines b (lines_of bs) ++ more
before_more b bs more h = rw (lines_first bs h) refl

pub split_behind : (text : List ℕ) (i : ℕ) → i < length text → get_or text i 0 ≡ 10 → lines_of text ≡ lines_of (take (suc i) text) ++ lines_of (drop (suc i) text)
split_behind [] i h e = absurd (omega (arith, h))
split_behind (b ∷ bs) zero h e = let f : b ≡ 10 = e in rw f refl
split_behind (b ∷ bs) (suc i) h e = by (b == line_feed) (split_behind bs i (omega (arith, h)) e)
  where
    inside : 0 < length (take (suc i) bs)
    inside = simp length-take (omega (arith, h))

    by : (v : Bool) → lines_of bs ≡ lines_of (take (suc i) bs) ++ lines_of (drop (suc i) bs) →
        cond v ([] ∷ lines_of bs) (before_lines b (lines_of bs)) ≡ cond v ([] ∷ lines_of (take (suc i) bs)) (before_lines b (lines_of (take (suc i) bs))) ++ lines_of (drop (suc i) bs)
    by true r = ap (λ ls. [] ∷ ls) r
    by false r = ap (before_lines b) r ∙ before_more b (take (suc i) bs) (lines_of (drop (suc i) bs)) inside

-- a line feed stands after a line that isn't the rest of the text
feed_behind : (bs : List ℕ) → line_length bs < length bs → get_or bs (line_length bs) 0 ≡ 10
feed_behind [] h = absurd (omega (arith, h))
feed_behind (b ∷ bs) h = by (b == line_feed) refl h (λ k. feed_behind bs k)
  where
    by : (v : Bool) → (b == line_feed) ≡ v → cond v 0 (suc (line_length bs)) < suc (length bs) → (line_length bs < length bs → get_or bs (line_length bs) 0 ≡ 10) →
        get_or (b ∷ bs) (cond v 0 (suc (line_length bs))) 0 ≡ 10
    by true e h rest = is_feed b e
    by false e h rest = let k : line_length bs < length bs = omega (arith, h) in rest k

-- ---- the lines so far

pub record SoFar (w text : List ℕ) (start count : ℕ) : Type 0 where
  pub before : TextLines
  pub split : lines_of text ≡ before ++ lines_of (drop start text)
  pub counted : length before ≡ count
  pub unmarked : list_all (λ l. not (is_mark w l)) before ≡ true
  pub text_before : start ≤ length text → before ≡ lines_of (take start text)

pub at_start : (w text : List ℕ) → SoFar w text 0 0
at_start w text = record { before = []; split = refl; counted = refl; unmarked = refl; text_before = λ h. refl }

-- lines that aren't the mark stay before the cut
abbrev behind_all : TextLines → TextLines × TextLines → TextLines × TextLines
behind_all ls c = (ls ++ c.0, c.1)

cut_on : (w : List ℕ) (before ls : TextLines) → list_all (λ l. not (is_mark w l)) before ≡ true → cut w (before ++ ls) ≡ option_map (behind_all before) (cut w ls)
cut_on w [] ls h = same (cut w ls)
  where
    same : (o : Option (TextLines × TextLines)) → o ≡ option_map (behind_all []) o
    same None = refl
    same (Some c) = refl
cut_on w (l ∷ before) ls h = by (is_mark w l) h (λ e. cut_on w before ls e)
  where
    more : (o : Option (TextLines × TextLines)) → option_map (with_first l) (option_map (behind_all before) o) ≡ option_map (behind_all (l ∷ before)) o
    more None = refl
    more (Some c) = refl

    by : (b : Bool) → (not b && list_all (λ k. not (is_mark w k)) before) ≡ true → (list_all (λ k. not (is_mark w k)) before ≡ true → cut w (before ++ ls) ≡ option_map (behind_all before) (cut w ls)) →
        cond b (Some ([], before ++ ls)) (option_map (with_first l) (cut w (before ++ ls))) ≡ option_map (behind_all (l ∷ before)) (cut w ls)
    by true e rest = absurd (cc)
    by false e rest = ap (option_map (with_first l)) (rest e) ∙ more (cut w ls)

pub found : (w text : List ℕ) (start size count : ℕ) → SoFar w text start count → start < length text → size ≡ line_length (take (length text - start) (drop start text)) →
    is_mark w (take (start + size - start) (drop start text)) ≡ true → cut w (lines_of text) ≡ Some (lines_of (take start text), lines_of (drop (min (length text) (start + size + 1)) text))
found w text start size count s h k m =
    let line : List ℕ = take (start + size - start) (drop start text) in
    let rest : TextLines = lines_of (drop (start + size + 1) text) in
    let here : cut w (line ∷ rest) ≡ Some ([], rest) = rw m refl in
    ap (cut w) (s.split ∙ ap (λ ls. s.before ++ ls) (line_here text start size h k))
    ∙ (cut_on w s.before (line ∷ rest) s.unmarked
    ∙ (ap (option_map (behind_all s.before)) here
    ∙ (ap (λ ls. Some (ls, rest)) (append-nil s.before ∙ s.text_before (omega (arith, h)))
    ∙ ap (λ xs. Some (lines_of (take start text), lines_of xs)) (sym (drop_least text (start + size + 1))))))

pub counted_before : (w text : List ℕ) (start count : ℕ) → SoFar w text start count → start < length text → count ≡ length (lines_of (take start text))
counted_before w text start count s h = sym s.counted ∙ ap length (s.text_before (omega (arith, h)))

-- ---- one line more

list_all_more : {A : Type 0} (f : A → Bool) (xs : List A) (x : A) → list_all f xs ≡ true → f x ≡ true → list_all f (xs ++ x ∷ []) ≡ true
list_all_more f [] x h e = rw e refl
list_all_more f (y ∷ xs) x h e = by (f y) h (λ i. list_all_more f xs x i e)
  where
    by : (b : Bool) → (b && list_all f xs) ≡ true → (list_all f xs ≡ true → list_all f (xs ++ x ∷ []) ≡ true) → (b && list_all f (xs ++ x ∷ [])) ≡ true
    by true i rest = rest i
    by false i rest = absurd (cc)

feed_at : (text : List ℕ) (start size : ℕ) → start < length text → size ≡ line_length (take (length text - start) (drop start text)) → start + size < length text → get_or text (start + size) 0 ≡ 10
feed_at text start size h k m =
    let same : size ≡ line_length (drop start text) = rw (from_place text start) at k in
    let inside : line_length (drop start text) < length (drop start text) = simp length-drop (omega (arith, same, m)) in
    let at : get_or (drop start text) (line_length (drop start text)) 0 ≡ 10 = feed_behind (drop start text) inside in
    sym (get_or-drop start text size 0) ∙ (ap (λ n. get_or (drop start text) n 0) same ∙ at)

pub goes_on : (w text : List ℕ) (start size count : ℕ) → SoFar w text start count → start < length text → size ≡ line_length (take (length text - start) (drop start text)) →
    is_mark w (take (start + size - start) (drop start text)) ≡ false → SoFar w text (start + size + 1) (count + 1)
goes_on w text start size count s h k m =
    let line : List ℕ = take (start + size - start) (drop start text) in
    let behind : List ℕ = drop (start + size + 1) text in
    let more : lines_of text ≡ (s.before ++ line ∷ []) ++ lines_of behind =
    s.split ∙ (ap (λ ls. s.before ++ ls) (line_here text start size h k) ∙ sym (append_assoc s.before (line ∷ []) (lines_of behind))) in
    record {
      before = s.before ++ line ∷ [];
      split = more;
      counted = length-append s.before (line ∷ []) ∙ ap (λ n. n + 1) s.counted;
      unmarked = list_all_more (λ l. not (is_mark w l)) s.before line s.unmarked (ap not m);
      text_before = λ within.
          let inside : start + size < length text = omega (arith, within) in
          let cut_here : lines_of text ≡ lines_of (take (start + size + 1) text) ++ lines_of behind =
          rw add-one (split_behind text (start + size) inside (feed_at text start size h k inside)) in
          append_cancel_right (s.before ++ line ∷ []) (lines_of (take (start + size + 1) text)) (lines_of behind) (sym more ∙ cut_here);
    }

-- no line is the mark
pub not_found : (w text : List ℕ) (start count : ℕ) → SoFar w text start count → length text ≤ start → cut w (lines_of text) ≡ None
not_found w text start count s h =
    ap (cut w) (s.split ∙ ap (λ ls. s.before ++ lines_of ls) (drop_all start text h)) ∙ cut_on w s.before [] s.unmarked

pub counted_all : (w text : List ℕ) (start count : ℕ) → SoFar w text start count → length text ≤ start → count ≡ length (lines_of text)
counted_all w text start count s h =
    sym s.counted ∙ ap length (sym (s.split ∙ (ap (λ ls. s.before ++ lines_of ls) (drop_all start text h) ∙ append-nil s.before)))
