-- A form as a command of `clap`.
use Rattle.std.specs.Prelude.{Bool, true, false, List, [], ◌∷◌, Option, Some, None}
use Rattle.std.specs.Prelude.{map, codes, unwrap_or, fold}
use Rattle.clap.specs.Walk.{Row, Rule, with_default}
use Rattle.clap.specs.Simple.{App, Shape, new_rule, new_shape, filled, with_rule}
use Rattle.clap.specs.declared.builder.action.ArgAction.TheVariants.{Set, SetTrue}
use Rattle.clap.specs.declared.builder.value_parser.Reading.TheVariants.{AsWritten}
use Rattle.clap.specs.declared.parser.matches.ValueSource.TheVariants.{CommandLine}
use Rattle.hib_words.specs.Given.{Text, Form, Given}
use Rattle.hib_words.specs.Commands.{is_valued, word_of}
use Rattle.hib_words.specs.declared.forms.OptionName.{OptionName}

-- `--NAME`, as the builders make it, of a flag and of an option with a value
abbrev pub rule_for : Text → Bool → Rule
rule_for name false =
    record (new_rule name) { long = Some name; action = Some SetTrue }
rule_for name true =
    record (new_rule name) { long = Some name; action = Some Set; value_names = 1 }

-- the options added in turn
abbrev pub with_options : App → List OptionName → App
with_options app options = fold (λ a o. with_rule a (rule_for (word_of o) (is_valued o))) app options

-- the same once the command is built
abbrev pub built_rule : Text → Bool → Rule
built_rule name false = filled (rule_for name false)
built_rule name true = filled (rule_for name true)

abbrev pub built_rules : Form → List Rule
built_rules form = map (λ o. built_rule o.0 o.1) form

abbrev pub app_for : Text → Form → App
app_for name form = record {
  top = record (new_shape name) {
    rules = map (λ o. rule_for o.0 o.1) form;
    disable_help_flag = true;
  };
  subs = [];
}

abbrev pub built_shape : Text → Form → Shape
built_shape name form = record (new_shape name) {
  rules = built_rules form;
  disable_help_flag = true;
  disable_help_subcommand = true;
  is_built = true;
}

-- the entry of an option that was given
abbrev pub given_row : Text × Option Text → Row
given_row g = record {
  id = g.0;
  values = unwrap_or g.1 (codes "true") ∷ [];
  count = None;
  source = Some CommandLine;
  reading = AsWritten;
}

-- the entries of a parse that gave these options
abbrev pub rows_for : Form → Given → List Row
rows_for form given = fold with_default (map given_row given) (built_rules form)
