-- The scripts that are read back from what is printed of them.
use Rattle.std.specs.Prelude.{◌^◌, Bool, true, ◌&&◌, nat_lt, nat_le, List, length, pos, negsuc}
use Rattle.std.specs.List.{list_all}
use Rattle.hib_base.specs.declared.scripts.Script.{Script}
use Rattle.hib_base.specs.Valid.{is_valid}
use Rattle.hib_lex.specs.Tokens.{max_line}
use Rattle.hib_lex.specs.declared.lexer.Token.{Token}
use Rattle.hib_print.specs.Printed.{script_lines}
use Rattle.hib_print.specs.Spelling.{text_of}

-- ---- lines
-- numbers are within 64 bits, signed
abbrev pub is_wide : Token → Bool
is_wide (Token.Number (pos n)) = nat_lt n (2 ^ 63)
is_wide (Token.Number (negsuc n)) = nat_lt n (2 ^ 63)
is_wide _ = true

-- and a line isn't longer than the reader takes
abbrev pub is_short : List Token → Bool
is_short ts = nat_le (length (text_of ts)) max_line && list_all is_wide ts

-- ---- the script
unfoldable pub is_readable : Script → Bool
is_readable s = is_valid s && list_all is_short (script_lines s)
