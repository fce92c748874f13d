-- An answer is its pieces, one behind the other.
use Rattle.std.proofs.Common.{◌≡◌, ℕ, ◌-◌, ◌+◌, ◌<◌, List, [], ◌∷◌, ◌++◌, length, take, refl, ap, sym, ◌∙◌, append_assoc, codes, map, Bool, true, false, Option, Some, None, arith}
use Rattle.json.specs.Print.{escape_byte, quoted}
use Rattle.serde_json.specs.Data.{Data, string, Members, no_members, member}
use Rattle.serde_json.specs.View.{items_of}
use Rattle.serde_json.specs.Written.{compact_text, items_text, members_text}
use Rattle.hib_journal.specs.Types.{Entry, Script}
use Rattle.hib_json_lines.specs.Line.{json_line, object_of, texts}
use Rattle.hib_serve_requests.specs.Requests.{IdText, id_data}
use Rattle.hib_serve_answers.specs.Answers.{and_id, and_text, stop, done_text, refused_text}
use Rattle.hib_serve_answers.specs.Pieces.{id_behind, id_before, text_behind, more_entries, all_entries}
use Rattle.hib_serve_answers.specs.Refusals.{word_of, why_of}
use Rattle.hib_serve_answers.specs.declared.refusals.Refusal.{Refusal}

-- ---- a line without its line feed

take_front : (xs ys : List ℕ) → take (length xs) (xs ++ ys) ≡ xs
take_front [] ys = refl
take_front (x ∷ xs) ys = ap (λ (zs : List ℕ). x ∷ zs) (take_front xs ys)

one_longer : (xs : List ℕ) (b : ℕ) → length (xs ++ b ∷ []) ≡ length xs + 1
one_longer [] b = refl
one_longer (x ∷ xs) b = let h : length (xs ++ b ∷ []) ≡ length xs + 1 = one_longer xs b in omega (arith, h)

before_one : (n m : ℕ) → m ≡ n + 1 → m - 1 ≡ n
before_one n m e = omega (arith, e)

pub without_last : (all xs : List ℕ) (b : ℕ) → all ≡ xs ++ b ∷ [] → take (length all - 1) all ≡ xs
without_last all xs b e =
    rw e (ap (λ (n : ℕ). take n (xs ++ b ∷ [])) (before_one (length xs) (length (xs ++ b ∷ [])) (one_longer xs b)) ∙ take_front xs (b ∷ []))

pub some_byte : (all xs : List ℕ) (b : ℕ) → all ≡ xs ++ b ∷ [] → 0 < length all
some_byte all xs b e = rw e (rw (one_longer xs b) (omega arith))

-- ---- pieces of the objects

id_is_behind : (i : Option IdText) (ms : Members) → members_text true (and_id i ms) ≡ id_behind i ++ members_text true ms
unfolding escape_byte
id_is_behind None ms = refl
id_is_behind (Some i) ms = refl

id_is_before : (i : Option IdText) (k : List ℕ) (d : Data) (ms : Members) → members_text false (and_id i (member k d ms)) ≡ id_before i ++ members_text false (member k d ms)
unfolding escape_byte
id_is_before None k d ms = refl
id_is_before (Some i) k d ms = sym (append_assoc (codes "\"id\":" ++ compact_text (id_data i)) (codes ",") (members_text false (member k d ms)))

session_is_behind : (s : Option (List ℕ)) (ms : Members) → members_text true (and_text (codes "session") s ms) ≡ text_behind (codes ",\"session\":") s ++ members_text true ms
unfolding escape_byte
session_is_behind None ms = refl
session_is_behind (Some s) ms = refl

stop_is_behind : (b : Bool) → members_text true (and_text (codes "stopped") (stop b) no_members) ≡ text_behind (codes ",\"stopped\":") (stop b) ++ codes "}"
unfolding escape_byte
stop_is_behind false = refl
stop_is_behind true = refl

why_is_behind : (s : Option (List ℕ)) → members_text true (and_text (codes "why") s no_members) ≡ text_behind (codes ",\"why\":") s ++ codes "}"
unfolding escape_byte
why_is_behind None = refl
why_is_behind (Some s) = refl

abbrev data_of : Script → Entry → Data
data_of script e = object_of (texts script e)

more_are : (script : Script) (es : List Entry) → items_text true (items_of (map (data_of script) es)) ≡ more_entries script es ++ codes "]"
unfolding json_line
more_are script [] = refl
more_are script (e ∷ es) =
    ap (λ (t : List ℕ). codes "," ++ (json_line script e ++ t)) (more_are script es)
    ∙ sym (append_assoc (codes "," ++ json_line script e) (more_entries script es) (codes "]"))

all_are : (script : Script) (es : List Entry) → items_text false (items_of (map (data_of script) es)) ≡ all_entries script es ++ codes "]"
unfolding json_line
all_are script [] = refl
all_are script (e ∷ es) =
    ap (λ (t : List ℕ). json_line script e ++ t) (more_are script es) ∙ sym (append_assoc (json_line script e) (more_entries script es) (codes "]"))

-- ---- whole answers

joined : (o a b c d e f g : List ℕ) → ((((((o ++ a) ++ b) ++ c) ++ d) ++ e) ++ f) ++ g ≡ o ++ (a ++ (b ++ (c ++ (d ++ (e ++ (f ++ g))))))
joined o a b c d e f g = simp append_assoc

done_spelled : (script : Script) (i : Option IdText) (s : Option (List ℕ)) (es : List Entry) (b : Bool) → done_text script i s es b
    ≡ codes "{\"answers\":[" ++ (all_entries script es ++ (codes "]" ++ (id_behind i ++ (text_behind (codes ",\"session\":") s ++ (text_behind (codes ",\"stopped\":") (stop b) ++ codes "}")))))
unfolding escape_byte done_text
done_spelled script i s es b =
    let r2 : Members = and_text (codes "stopped") (stop b) no_members in
    let r1 : Members = and_text (codes "session") s r2 in
    let more : List ℕ = members_text true (and_id i r1) in
    ap (λ (t : List ℕ). codes "{\"answers\":[" ++ (t ++ more)) (all_are script es)
    ∙ ap (λ (t : List ℕ). codes "{\"answers\":[" ++ t) (append_assoc (all_entries script es) (codes "]") more
    ∙ ap (λ (t : List ℕ). all_entries script es ++ (codes "]" ++ t)) (id_is_behind i r1
    ∙ ap (λ (t : List ℕ). id_behind i ++ t) (session_is_behind s r2 ∙ ap (λ (t : List ℕ). text_behind (codes ",\"session\":") s ++ t) (stop_is_behind b))))

pub done_put : (o0 o1 o2 o3 o4 o5 o6 o7 : List ℕ) (script : Script) (i : Option IdText) (s : Option (List ℕ)) (es : List Entry) (b : Bool) →
    o1 ≡ o0 ++ codes "{\"answers\":[" → o2 ≡ o1 ++ all_entries script es → o3 ≡ o2 ++ codes "]" → o4 ≡ o3 ++ id_behind i →
    o5 ≡ o4 ++ text_behind (codes ",\"session\":") s → o6 ≡ o5 ++ text_behind (codes ",\"stopped\":") (stop b) → o7 ≡ o6 ++ codes "}" →
    o7 ≡ o0 ++ done_text script i s es b
done_put o0 o1 o2 o3 o4 o5 o6 o7 script i s es b e1 e2 e3 e4 e5 e6 e7 =
    rw (e7, e6, e5, e4, e3, e2, e1) (joined o0 (codes "{\"answers\":[") (all_entries script es) (codes "]") (id_behind i) (text_behind (codes ",\"session\":") s) (text_behind (codes ",\"stopped\":") (stop b)) (codes "}"))
    ∙ ap (λ (t : List ℕ). o0 ++ t) (sym (done_spelled script i s es b))

joined_six : (o a b c d e f : List ℕ) → (((((o ++ a) ++ b) ++ c) ++ d) ++ e) ++ f ≡ o ++ (a ++ (b ++ (c ++ (d ++ (e ++ f)))))
joined_six o a b c d e f = simp append_assoc

refused_spelled : (i : Option IdText) (r : Refusal) → refused_text i r
    ≡ codes "{" ++ (id_before i ++ (codes "\"refused\":" ++ (quoted (word_of r) ++ (text_behind (codes ",\"why\":") (why_of r) ++ codes "}"))))
unfolding escape_byte refused_text
refused_spelled i r =
    let more : Members = and_text (codes "why") (why_of r) no_members in
    ap (λ (t : List ℕ). codes "{" ++ t) (id_is_before i (codes "refused") (string (word_of r)) more
    ∙ ap (λ (t : List ℕ). id_before i ++ (codes "\"refused\":" ++ (quoted (word_of r) ++ t))) (why_is_behind (why_of r)))

pub refused_put : (o0 o1 o2 o3 o4 o5 o6 : List ℕ) (i : Option IdText) (r : Refusal) → o1 ≡ o0 ++ codes "{" → o2 ≡ o1 ++ id_before i → o3 ≡ o2 ++ codes "\"refused\":" →
    o4 ≡ o3 ++ quoted (word_of r) → o5 ≡ o4 ++ text_behind (codes ",\"why\":") (why_of r) → o6 ≡ o5 ++ codes "}" → o6 ≡ o0 ++ refused_text i r
refused_put o0 o1 o2 o3 o4 o5 o6 i r e1 e2 e3 e4 e5 e6 =
    rw (e6, e5, e4, e3, e2, e1) (joined_six o0 (codes "{") (id_before i) (codes "\"refused\":") (quoted (word_of r)) (text_behind (codes ",\"why\":") (why_of r)) (codes "}"))
    ∙ ap (λ (t : List ℕ). o0 ++ t) (sym (refused_spelled i r))
