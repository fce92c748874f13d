-- The pieces of a JSON line, in order.
use Rattle.std.proofs.Common.{◌≡◌, ℕ, List, ◌++◌, refl, ap, sym, ◌∙◌, append_assoc, codes, option_map, Option, Some, None}
use Rattle.std.specs.Fmt.{decimal}
use Rattle.json.specs.Print.{escape_byte, quoted}
use Rattle.serde_json.specs.Written.{compact_text}
use Rattle.hib_journal.specs.Types.{Entry, Script}
use Rattle.hib_report.specs.Lines.{act_text, part_text, reply_text}
use Rattle.hib_texts.specs.Texts.{session_text}
use Rattle.hib_json_lines.specs.Line.{session_data, session_value, json_line, LineText, object_of, texts}

-- as compact_text spells it
pub spelled : (l : LineText) → compact_text (object_of l) ≡ codes "{\"act\":" ++ (quoted l.act ++ (codes ",\"part\":" ++ (quoted l.part ++ (codes ",\"reply\":" ++ (quoted l.reply ++ (codes ",\"session\":" ++ (compact_text (session_data l.session) ++ (codes ",\"tick\":" ++ (decimal l.tick ++ codes "}")))))))))
unfolding escape_byte
spelled l = refl

-- as it is put
joined : (out a b c d e f g h i j k : List ℕ) → (((((out ++ (a ++ b)) ++ (c ++ d)) ++ (e ++ f)) ++ (g ++ h)) ++ i ++ j) ++ (k ++ codes "\n") ≡ out ++ ((a ++ (b ++ (c ++ (d ++ (e ++ (f ++ (g ++ (h ++ (i ++ (j ++ k)))))))))) ++ codes "\n")
joined out a b c d e f g h i j k = simp append_assoc

value_spelled : (script : Script) (s : Option ℕ) → session_value script s ≡ compact_text (session_data (option_map (session_text script) s))
value_spelled script None = refl
value_spelled script (Some s) = refl

line_parts : (out value : List ℕ) (script : Script) (e : Entry) → value ≡ compact_text (session_data (option_map (session_text script) e.session))
    → (((((out ++ (codes "{\"act\":" ++ quoted (act_text script e.act))) ++ (codes ",\"part\":" ++ quoted (part_text e.part))) ++ (codes ",\"reply\":" ++ quoted (reply_text script e.reply))) ++ (codes ",\"session\":" ++ value)) ++ codes ",\"tick\":" ++ decimal e.tick) ++ codes "}\n"
    ≡ out ++ (json_line script e ++ codes "\n")
unfolding json_line
line_parts out value script e h =
    joined out (codes "{\"act\":") (quoted (act_text script e.act)) (codes ",\"part\":") (quoted (part_text e.part)) (codes ",\"reply\":") (quoted (reply_text script e.reply)) (codes ",\"session\":") value (codes ",\"tick\":") (decimal e.tick) (codes "}")
    ∙ ap (λ (v : List ℕ). out ++ ((codes "{\"act\":" ++ (quoted (act_text script e.act) ++ (codes ",\"part\":" ++ (quoted (part_text e.part) ++ (codes ",\"reply\":" ++ (quoted (reply_text script e.reply) ++ (codes ",\"session\":" ++ (v ++ (codes ",\"tick\":" ++ (decimal e.tick ++ codes "}")))))))))) ++ codes "\n")) h
    ∙ ap (λ (t : List ℕ). out ++ (t ++ codes "\n")) (sym (spelled (texts script e)))

-- one piece after the other, of an entry's fields
pub line_put : (o0 o1 o2 o3 o4 o5 o6 : List ℕ) (script : Script) (x e : Entry) → x ≡ e → o1 ≡ o0 ++ (codes "{\"act\":" ++ quoted (act_text script x.act)) → o2 ≡ o1 ++ (codes ",\"part\":" ++ quoted (part_text x.part))
    → o3 ≡ o2 ++ (codes ",\"reply\":" ++ quoted (reply_text script x.reply)) → o4 ≡ o3 ++ (codes ",\"session\":" ++ session_value script x.session) → o5 ≡ o4 ++ codes ",\"tick\":" ++ decimal x.tick → o6 ≡ o5 ++ codes "}\n"
    → o6 ≡ o0 ++ (json_line script e ++ codes "\n")
line_put o0 o1 o2 o3 o4 o5 o6 script x e same e1 e2 e3 e4 e5 e6 =
    rw (e6, e5, e4, e3, e2, e1) (line_parts o0 (session_value script x.session) script x (value_spelled script x.session)) ∙ ap (λ (y : Entry). o0 ++ (json_line script y ++ codes "\n")) same
