use Rattle.std.proofs.Common.{◌≡◌, drop}
use Rattle.clap.specs.Words.{app_of}
use Rattle.hib_words.specs.Clap.{app_for, with_options}
use Rattle.hib_words.specs.Commands.{form_of, verb_word}
use Rattle.hib_words.proofs.forms.command_for.Given as goal

-- with the options that are left, the command is whole
abbrev pub invariant-loop-option : goal.invariant-loop-option
invariant-loop-option l = with_options (app_of l.command) (drop l.option-index l.option-items) ≡ app_for (verb_word l.fn.verb) (form_of l.fn.verb)
