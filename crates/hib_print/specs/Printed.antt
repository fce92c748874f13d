-- The text of a script.
use Rattle.std.specs.Prelude.{ℕ, List, [], ◌∷◌, ◌++◌, map, flat_map, codes}
use Rattle.hib_base.specs.declared.scripts.Script.{Script}
use Rattle.hib_lex.specs.declared.lexer.Token.{Token}
use Rattle.hib_print.specs.Spelling.{lines_text}
use Rattle.hib_print.specs.Lines.{natural, entity_lines, row_line, query_line, session_lines, schedule_lines}

-- what stands before the entities
abbrev pub head_lines : Script → List (List Token)
head_lines script =
    (Token.Word (codes "hib") ∷ natural 1 ∷ []) ∷ (Token.Word (codes "timeout") ∷ natural script.timeout ∷ [])
    ∷ (Token.Word (codes "results") ∷ natural script.results ∷ []) ∷ []

abbrev pub script_lines : Script → List (List Token)
script_lines script =
    head_lines script ++ flat_map (λ e. entity_lines script e) script.mapping ++ map (λ x. row_line script x) script.rows
    ++ map (λ q. query_line script q) script.queries ++ flat_map (λ d. session_lines script d) script.sessions
    ++ schedule_lines script script.schedule

unfoldable pub printed : Script → List ℕ
printed script = lines_text (script_lines script)

-- the lines of its rows
unfoldable pub printed_rows : Script → List ℕ
printed_rows script = lines_text (map (λ x. row_line script x) script.rows)
