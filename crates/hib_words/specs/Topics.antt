-- What words ask of main itself, and what a command asks of it.
use Rattle.std.specs.Prelude.{Bool, false, List, [], ◌∷◌, Option, Some, None, if◌then◌else◌, codes}
use Rattle.std.specs.Str.{bytes_eq}
use Rattle.hib_words.specs.Given.{Text}
use Rattle.hib_words.specs.Commands.{Asked, play, work, make, audit, collect, bulk, nodes}
use Rattle.hib_words.specs.declared.topics.Topic.{Topic}

abbrev pub topic_named : Text → Option Topic
topic_named word =
    if bytes_eq word (codes "--help") then Some Topic.Help
    else if bytes_eq word (codes "--version") then Some Topic.Version
    else None

-- help and the version are asked for by one word that stands alone
abbrev pub topic_of : List Text → Option Topic
topic_of (word ∷ []) = topic_named word
topic_of _ = None

-- the path of the file that it works on
abbrev pub file_of : Asked → Option Text
file_of (play s) = s.file
file_of (work n p s) = s.file
file_of (make n t) = None
file_of audit = None
file_of collect = None
file_of bulk = None
file_of nodes = None

-- its steps are told on standard error
abbrev pub is_traced : Asked → Bool
is_traced (play s) = s.trace
is_traced (work n p s) = s.trace
is_traced (make n t) = false
is_traced audit = false
is_traced collect = false
is_traced bulk = false
is_traced nodes = false
