-- The command that words are.
use Rattle.std.specs.Prelude.{ℕ, ◌==◌, ◌&&◌, Bool, true, false, not, List, [], ◌∷◌, Option, Some, None}
use Rattle.std.specs.Prelude.{if◌then◌else◌, option_map, option_and_then, nat_le, nat_lt, string_bytes, codes, length, map, slice_index}
use Rattle.std.specs.Option.{option_map_or}
use Rattle.std.specs.Char.{is_ascii_digit}
use Rattle.std.specs.List.{list_all}
use Rattle.std.specs.Str.{bytes_eq}
use Rattle.std.specs.Str.Parse.{digits_value}
use Rattle.hib_words.specs.Given.{Text, Form, Given, is_given, options_in, value_of}
use Rattle.hib_words.specs.declared.forms.OptionName.{OptionName}
use Rattle.hib_words.specs.declared.forms.OptionName.TheVariants as name
use Rattle.hib_words.specs.declared.forms.Verb.{Verb}
use Rattle.hib_words.specs.declared.forms.Verb.TheVariants.{Play, Work, Make, Audit, Collect, Bulk, Nodes, Orders, Report, Flat, Schedule, Spans, States, Rows}
use Rattle.hib_words.specs.declared.words.Command.{Command}
use Rattle.hib_words.specs.declared.words.Command.TheVariants as variant
use Rattle.hib_words.specs.declared.words.Options.{Options}

-- ---- the forms: a command more is a line of verb_word, options_of and asked; an option more is a line of word_of and its place in
-- options_of

abbrev pub verb_word : Verb → Text
verb_word Play = codes "play"
verb_word Work = codes "work"
verb_word Make = codes "make"
verb_word Audit = codes "audit"
verb_word Collect = codes "collect"
verb_word Bulk = codes "bulk"
verb_word Nodes = codes "nodes"
verb_word Orders = codes "orders"
verb_word Report = codes "report"
verb_word Flat = codes "flat"
verb_word Schedule = codes "schedule"
verb_word Spans = codes "spans"
verb_word States = codes "states"
verb_word Rows = codes "rows"

abbrev pub word_of : OptionName → Text
word_of name.Journal = codes "journal"
word_of name.File = codes "file"
word_of name.Trace = codes "trace"
word_of name.Workers = codes "workers"
word_of name.Split = codes "split"
word_of name.Seed = codes "seed"
word_of name.Text = codes "text"
word_of name.Switches = codes "switches"
word_of name.AtMost = codes "at-most"
word_of name.Show = codes "show"
word_of name.Kills = codes "kills"
word_of name.Csv = codes "csv"
word_of name.Jaeger = codes "jaeger"

abbrev pub is_valued : OptionName → Bool
is_valued name.File = true
is_valued name.Workers = true
is_valued name.Seed = true
is_valued name.Switches = true
is_valued name.AtMost = true
is_valued name.Show = true
is_valued name.Kills = true
is_valued _ = false

abbrev pub options_of : Verb → List OptionName
options_of Play = name.Journal ∷ name.File ∷ name.Trace ∷ []
options_of Work = name.Workers ∷ name.Split ∷ name.Journal ∷ name.File ∷ name.Trace ∷ []
options_of Make = name.Seed ∷ name.Text ∷ []
options_of Audit = []
options_of Collect = []
options_of Bulk = []
options_of Nodes = []
options_of Orders = name.Switches ∷ name.Kills ∷ name.AtMost ∷ name.Show ∷ []
options_of Report = []
options_of Flat = name.Csv ∷ []
options_of Schedule = []
options_of Spans = name.Jaeger ∷ []
options_of States = []
options_of Rows = name.File ∷ []

abbrev pub form_of : Verb → Form
form_of verb = map (λ o. (word_of o, is_valued o)) (options_of verb)

-- the command of the program that the first word names; its tools have others (Tools.antt)
abbrev pub verb_named : Text → Option Verb
verb_named word =
    if bytes_eq word (verb_word Play) then Some Play
    else if bytes_eq word (verb_word Work) then Some Work
    else if bytes_eq word (verb_word Make) then Some Make
    else if bytes_eq word (verb_word Audit) then Some Audit
    else if bytes_eq word (verb_word Collect) then Some Collect
    else if bytes_eq word (verb_word Bulk) then Some Bulk
    else if bytes_eq word (verb_word Nodes) then Some Nodes
    else None

-- ---- values

-- not empty, and its first byte is no hyphen (45)
abbrev pub is_value : Text → Bool
is_value text = nat_lt 0 (length text) && not (slice_index text 0 == 45)

-- decimal digits, with no sign and no leading zero (48)
abbrev pub is_numeral : Text → Bool
is_numeral text = not (nat_lt 1 (length text) && slice_index text 0 == 48)
    && (nat_lt 0 (length text) && list_all is_ascii_digit text)

abbrev pub in_range : ℕ → ℕ → ℕ → Option ℕ
in_range low high n = if nat_le low n && nat_le n high then Some n else None

-- the number that a text is, from low to high
abbrev pub number_between : ℕ → ℕ → Text → Option ℕ
number_between low high text = if is_numeral text then in_range low high (digits_value 10 text) else None

-- ---- commands

-- the options that were given, each by its name
pub record Chosen : Type 0 where
  pub journal : Bool
  pub trace : Bool
  pub split : Bool
  pub text : Bool
  pub file : Option Text
  pub workers : Option Text
  pub seed : Option Text
  pub switches : Option Text
  pub at_most : Option Text
  pub show : Option Text
  pub kills : Option Text
  pub csv : Bool
  pub jaeger : Bool

abbrev pub chosen_in : Given → Chosen
chosen_in given = record {
  journal = is_given (word_of name.Journal) given;
  trace = is_given (word_of name.Trace) given;
  split = is_given (word_of name.Split) given;
  text = is_given (word_of name.Text) given;
  file = value_of (word_of name.File) given;
  workers = value_of (word_of name.Workers) given;
  seed = value_of (word_of name.Seed) given;
  switches = value_of (word_of name.Switches) given;
  at_most = value_of (word_of name.AtMost) given;
  show = value_of (word_of name.Show) given;
  kills = value_of (word_of name.Kills) given;
  csv = is_given (word_of name.Csv) given;
  jaeger = is_given (word_of name.Jaeger) given;
}

-- the options of play and work
pub record Settings : Type 0 where
  pub journal : Bool
  pub trace : Bool
  pub file : Option Text

-- what a command line asks for; of work the number of workers, and whether each part stands behind a lock of its own
pub data Asked : Type 0 where
  play : Settings → Asked
  work : ℕ → Bool → Settings → Asked
  make : ℕ → Bool → Asked
  audit : Asked
  collect : Asked
  bulk : Asked
  nodes : Asked

-- none if the file's path is no value
abbrev pub settings_in : Chosen → Option Settings
settings_in chosen = if option_map_or is_value chosen.file true
    then Some (record { journal = chosen.journal; trace = chosen.trace; file = chosen.file }) else None

-- the most workers that words ask for
abbrev pub max_workers : ℕ
max_workers = 64

-- what a verb asks of the program with these options; none if a number is missing or out of its range, a value is none, or the verb is
-- one of its tools
abbrev pub asked : Verb → Chosen → Option Asked
asked Play chosen = option_map play (settings_in chosen)
asked Work chosen = option_and_then (λ n. option_map (work n chosen.split) (settings_in chosen))
    (option_and_then (number_between 1 max_workers) chosen.workers)
asked Make chosen = option_map (λ n. make n chosen.text) (option_and_then (number_between 0 4294967295) chosen.seed)
asked Audit chosen = Some audit
asked Collect chosen = Some collect
asked Bulk chosen = Some bulk
asked Nodes chosen = Some nodes
asked Orders chosen = None
asked Report chosen = None
asked Flat chosen = None
asked Schedule chosen = None
asked Spans chosen = None
asked States chosen = None
asked Rows chosen = None

-- the command that words are, without the program's name; none if they have no form
abbrev pub command : List Text → Option Asked
command [] = None
command (word ∷ rest) = option_and_then (λ verb. option_and_then (λ given. asked verb (chosen_in given))
    (options_in (form_of verb) rest)) (verb_named word)

-- ---- a command of the program, with its path as a text

abbrev pub settings_of : Options → Settings
settings_of o = record { journal = o.journal; trace = o.trace; file = option_map string_bytes o.file }

abbrev pub asked_of : Command → Asked
asked_of (variant.Play options) = play (settings_of options)
asked_of (variant.Work workers split options) = work workers split (settings_of options)
asked_of (variant.Make seed text) = make seed text
asked_of variant.Audit = audit
asked_of variant.Collect = collect
asked_of variant.Bulk = bulk
asked_of variant.Nodes = nodes
