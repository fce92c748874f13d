-- What words ask of the program's tools.
use Rattle.std.specs.Prelude.{ℕ, false, List, [], ◌∷◌, Option, Some, None, unwrap_or}
use Rattle.std.specs.Prelude.{if◌then◌else◌, option_map, option_and_then}
use Rattle.std.specs.Option.{option_map_or}
use Rattle.std.specs.Str.{bytes_eq}
use Rattle.hib_words.specs.Given.{Text, options_in}
use Rattle.hib_words.specs.Commands.{Chosen, chosen_in, form_of, is_value, number_between, verb_word}
use Rattle.hib_words.specs.declared.forms.Verb.{Verb}
use Rattle.hib_words.specs.declared.forms.Verb.TheVariants.{Orders, Report, Flat, Schedule, Spans, States, Rows}
use Rattle.hib_words.specs.declared.tools.Tool.{Tool}
use Rattle.hib_words.specs.declared.tools.Tool.TheVariants as variant

-- the tool that the first word names
abbrev pub tool_named : Text → Option Verb
tool_named word =
    if bytes_eq word (verb_word Orders) then Some Orders
    else if bytes_eq word (verb_word Report) then Some Report
    else if bytes_eq word (verb_word Flat) then Some Flat
    else if bytes_eq word (verb_word Schedule) then Some Schedule
    else if bytes_eq word (verb_word Spans) then Some Spans
    else if bytes_eq word (verb_word States) then Some States
    else if bytes_eq word (verb_word Rows) then Some Rows
    else None

-- a number that need not be given; none if it is out of its range
abbrev pub number_if_any : ℕ → ℕ → Option Text → Option (Option ℕ)
number_if_any low high None = Some None
number_if_any low high (Some text) = option_map Some (number_between low high text)

-- the most switches of an order, 2 if it isn't said, and the most kills, 0 if it isn't said; no more orders than this; and which finding is
-- shown
abbrev pub orders_asked : Option (Option ℕ) → Option (Option ℕ) → Option (Option ℕ) → Option (Option ℕ) → Option Tool
orders_asked (Some switches) (Some kills) (Some at_most) (Some show) = Some (variant.Orders (unwrap_or switches 2) (unwrap_or kills 0) at_most show)
orders_asked _ _ _ _ = None

-- the most switches of an order that words ask for, and the most sessions that are killed in one
abbrev pub max_switches : ℕ
max_switches = 64

abbrev pub max_kills : ℕ
max_kills = 64

abbrev pub tool_asked : Verb → Chosen → Option Tool
tool_asked Orders chosen = orders_asked (number_if_any 0 max_switches chosen.switches) (number_if_any 0 max_kills chosen.kills)
    (number_if_any 1 4294967295 chosen.at_most) (number_if_any 1 5 chosen.show)
tool_asked Report chosen = Some variant.Report
tool_asked Flat chosen = Some (variant.Flat chosen.csv)
tool_asked Schedule chosen = Some variant.Schedule
tool_asked Spans chosen = Some (variant.Spans chosen.jaeger)
tool_asked States chosen = Some variant.States
tool_asked Rows chosen = if option_map_or is_value chosen.file false then Some variant.Rows else None
tool_asked _ chosen = None

-- what words ask of the tools, without the program's name; none if they have no form
abbrev pub tool_command : List Text → Option Tool
tool_command [] = None
tool_command (word ∷ rest) = option_and_then (λ verb. option_and_then (λ given. tool_asked verb (chosen_in given))
    (options_in (form_of verb) rest)) (tool_named word)

-- the path of the file that they name
abbrev pub file_in : List Text → Option Text
file_in [] = None
file_in (word ∷ rest) = option_and_then (λ verb. option_and_then (λ given. (chosen_in given).file) (options_in (form_of verb) rest)) (tool_named word)
