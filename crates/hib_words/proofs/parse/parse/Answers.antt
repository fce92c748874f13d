use Rattle.std.proofs.Common.{drop, map, string_bytes, Option, subst}
use Rattle.clap.specs.declared.parser.matches.ArgMatches.{ArgMatches}
use Rattle.hib_words.specs.Matched.{HoldsGiven}
use Rattle.hib_words.specs.Commands.{form_of}
use Rattle.hib_words.specs.Given.{options_in}
use Rattle.hib_words.proofs.OptionsByName.{all_read}
use Rattle.hib_words.proofs.parse.parse.Goals as goal

pub returns : goal.returns
returns c =
    all_read c.args.verb (options_in (form_of c.args.verb) (drop 1 (map string_bytes c.args.words.now))) c.in-Some.matches
    (subst (λ (o : Option ArgMatches). HoldsGiven (form_of c.args.verb) (options_in (form_of c.args.verb) (drop 1 (map string_bytes c.args.words.now))) o) c.in-Some.is c.in_ok-matches.ensures)
    _ _ _ _ _ _ _ _ _ _ _ _ _
    (record { no_text = c.get_flag-journal.ensures.none; at_true = c.get_flag-journal.ensures.value; at_false = c.get_flag-journal.ensures.other })
    (record { no_text = c.get_flag-trace.ensures.none; at_true = c.get_flag-trace.ensures.value; at_false = c.get_flag-trace.ensures.other })
    (record { no_text = c.get_flag-split.ensures.none; at_true = c.get_flag-split.ensures.value; at_false = c.get_flag-split.ensures.other })
    (record { no_text = c.get_flag-text.ensures.none; at_true = c.get_flag-text.ensures.value; at_false = c.get_flag-text.ensures.other })
    (record { no_text = c.get_flag-csv.ensures.none; at_true = c.get_flag-csv.ensures.value; at_false = c.get_flag-csv.ensures.other })
    (record { no_text = c.get_flag-jaeger.ensures.none; at_true = c.get_flag-jaeger.ensures.value; at_false = c.get_flag-jaeger.ensures.other })
    c.get_str-file.ensures c.get_str-workers.ensures c.get_str-seed.ensures
    c.get_str-switches.ensures c.get_str-at_most.ensures c.get_str-show.ensures
    c.get_str-kills.ensures
