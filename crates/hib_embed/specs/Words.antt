-- Words that come as the lines of a text.
use Rattle.std.specs.Prelude.{ℕ, List, [], Option, if◌then◌else◌}
use Rattle.std.specs.Str.{is_utf8}
use Rattle.std.specs.Str.Lines.{lines}
use Rattle.hib_words.specs.Commands.{Asked, command}
use Rattle.hib_words.specs.Tools.{tool_command}
use Rattle.hib_words.specs.declared.tools.Tool.{Tool}

-- a text that isn't UTF-8 has none
unfoldable pub words_in : List ℕ → List (List ℕ)
words_in text = if is_utf8 text then lines text else []

-- what they ask of the program
abbrev pub asked_in_lines : List ℕ → Option Asked
asked_in_lines text = command (words_in text)

-- and of its tools
abbrev pub tool_in_lines : List ℕ → Option Tool
tool_in_lines text = tool_command (words_in text)
