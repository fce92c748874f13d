-- What clap is asked, and what its matches hold; only clauses of private functions name these.
use Rattle.std.specs.Prelude.{◌≡◌, ⊤, ◌==◌, ◌&&◌, ◌||◌, Bool, not, [], ◌∷◌, Option, Some, None, is_some, option_map, nat_lt, length, slice_index}
use Rattle.std.specs.Option.{IsSomeAnd}
use Rattle.clap.specs.Walk.{rows_of}
use Rattle.clap.specs.Matches.{found_of}
use Rattle.clap.specs.declared.parser.matches.ArgMatches.{ArgMatches}
use Rattle.hib_words.specs.Given.{Text, Form, Given, takes_value}
use Rattle.hib_words.specs.Clap.{rows_for}
use Rattle.hib_words.specs.Commands.{Chosen}
use Rattle.hib_words.specs.declared.parse.Found.{Found}

-- the word begins with no hyphen, or with two before something more
abbrev pub is_fit : Text → Bool
is_fit word = not (slice_index word 0 == 45) || (nat_lt 2 (length word) && slice_index word 1 == 45)

-- each option that was given is one of the form, with a value if it takes one
abbrev pub IsProper : Form → Given → Type 0
IsProper form [] = ⊤
IsProper form (g ∷ given) = (takes_value form g.0 ≡ Some (is_some g.1)) × IsProper form given

-- the matches that hold these options, and none if the words have no form
abbrev pub HoldsGiven : Form → Option Given → Option ArgMatches → Type 0
HoldsGiven form None found = found ≡ None
HoldsGiven form (Some given) found =
    IsSomeAnd found (λ m. IsProper form given × (rows_of (found_of m) ≡ rows_for form given))

-- the options as the program holds them
abbrev pub chosen_of : Found → Chosen
chosen_of found = record {
  journal = found.journal;
  trace = found.trace;
  split = found.split;
  text = found.text;
  file = option_map (λ s. s.now) found.file;
  workers = option_map (λ s. s.now) found.workers;
  seed = option_map (λ s. s.now) found.seed;
  switches = option_map (λ s. s.now) found.switches;
  at_most = option_map (λ s. s.now) found.at_most;
  show = option_map (λ s. s.now) found.show;
  kills = option_map (λ s. s.now) found.kills;
  csv = found.csv;
  jaeger = found.jaeger;
}
