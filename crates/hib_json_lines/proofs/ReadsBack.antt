-- The object that is written is read again.
use Rattle.std.proofs.Common.{◌≡◌, ℕ, ◌^◌, ◌<◌, ◌≤◌, List, [], Option, Some, None, refl, ap, sym, ◌∙◌, append-nil, arith, IsUtf8, codes}
use Rattle.std.specs.Fmt.{decimal}
use Rattle.std.proofs.lemmas.Str.{IsUtf8-append, IsUtf8-from_ascii}
use Rattle.std.proofs.lemmas.Fmt.{IsAscii-decimal}
use Rattle.json.specs.Json as json
use Rattle.json.specs.Lex.{tokens}
use Rattle.json.specs.Print.{quoted, escape_byte}
use Rattle.json.specs.Tree as tree
use Rattle.json.proofs.Printed.Tokens.{tokens-print}
use Rattle.json.proofs.Printed.Trees.{ArePrintable-json_tokens, value-json_tokens}
use Rattle.json.proofs.Printed.Decimals.{IsNumber-decimal}
use Rattle.json.proofs.Printed.Utf8.{IsUtf8-quoted, IsUtf8-are_ascii}
use Rattle.serde_json.specs.Data.{Data}
use Rattle.serde_json.specs.Read.{read, of_json, max_depth}
use Rattle.serde_json.specs.Written.{outline, compact_text}
use Rattle.serde_json.proofs.Numbers.{number_of-decimal}
use Rattle.serde_json.proofs.Texts.{print-outline}
use Rattle.hib_json_lines.specs.Line.{LineText, object_of, session_data}

numbers : (l : LineText) (s : Option (List ℕ)) → l.session ≡ s → l.tick < 2 ^ 64 → tree.HasNumbers (outline (object_of l))
numbers l None e lt = rw e (tt, (tt, (tt, (tt, (IsNumber-decimal l.tick lt, tt)))))
numbers l (Some s) e lt = rw e (tt, (tt, (tt, (tt, (IsNumber-decimal l.tick lt, tt)))))

shallow : (l : LineText) (s : Option (List ℕ)) → l.session ≡ s → tree.depth (outline (object_of l)) ≤ 127
shallow l None e = rw e (omega arith)
shallow l (Some s) e = rw e (omega arith)

same_data : (l : LineText) (s : Option (List ℕ)) → l.session ≡ s → l.tick < 2 ^ 64 → of_json (outline (object_of l)) ≡ Some (object_of l)
same_data l None e lt = rw e (rw (number_of-decimal l.tick lt) refl)
same_data l (Some s) e lt = rw e (rw (number_of-decimal l.tick lt) refl)

pub reads_back : (l : LineText) → l.tick < 2 ^ 64 → read (compact_text (object_of l)) ≡ Some (object_of l)
reads_back l lt =
    let d : Data = object_of l in
    let spelled : tokens (compact_text d) ≡ tree.json_tokens (outline d) = ap tokens (sym (print-outline d)) ∙ tokens-print (tree.json_tokens (outline d)) (ArePrintable-json_tokens (outline d) (numbers l l.session refl lt)) in
    let parsed : json.value max_depth (tokens (compact_text d)) ≡ Some (outline d, []) = ap (json.value max_depth) (spelled ∙ sym (append-nil (tree.json_tokens (outline d)))) ∙ value-json_tokens (outline d) max_depth [] (shallow l l.session refl) in
    rw parsed (same_data l l.session refl lt)

-- ---- it is text

abbrev pub IsText : Option (List ℕ) → Type 0
IsText None = Unit {0}
IsText (Some s) = IsUtf8 s

value_text : (s : Option (List ℕ)) → IsText s → IsUtf8 (compact_text (session_data s))
value_text None h = IsUtf8-are_ascii (codes "null") refl
value_text (Some s) h = IsUtf8-quoted s h

decimal_text : (n : ℕ) → n < 2 ^ 64 → IsUtf8 (decimal n)
decimal_text n lt = IsUtf8-from_ascii (decimal n) (IsAscii-decimal n lt)

pub line_text : (l : LineText) → IsUtf8 l.act → IsUtf8 l.part → IsUtf8 l.reply → IsText l.session → l.tick < 2 ^ 64 → IsUtf8 (compact_text (object_of l))
unfolding escape_byte
line_text l a p r s lt =
    IsUtf8-append (codes "{\"act\":") _ (IsUtf8-are_ascii (codes "{\"act\":") refl) (IsUtf8-append (quoted l.act) _ (IsUtf8-quoted l.act a)
    (IsUtf8-append (codes ",\"part\":") _ (IsUtf8-are_ascii (codes ",\"part\":") refl) (IsUtf8-append (quoted l.part) _ (IsUtf8-quoted l.part p)
    (IsUtf8-append (codes ",\"reply\":") _ (IsUtf8-are_ascii (codes ",\"reply\":") refl) (IsUtf8-append (quoted l.reply) _ (IsUtf8-quoted l.reply r)
    (IsUtf8-append (codes ",\"session\":") _ (IsUtf8-are_ascii (codes ",\"session\":") refl) (IsUtf8-append (compact_text (session_data l.session)) _ (value_text l.session s)
    (IsUtf8-append (codes ",\"tick\":") _ (IsUtf8-are_ascii (codes ",\"tick\":") refl) (IsUtf8-append (decimal l.tick) (codes "}") (decimal_text l.tick lt) (IsUtf8-are_ascii (codes "}") refl))))))))))
