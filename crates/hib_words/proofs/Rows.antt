-- The definition at words that are written out: each row is a line, its words apart by single spaces.
use Rattle.std.proofs.Common.{◌≡◌, ◌==◌, Bool, true, false, refl, List, [], ◌∷◌, Option, Some, None}
use Rattle.std.specs.Prelude.{codes, is_none}
use Rattle.std.specs.List.{list_all, slice_split}
use Rattle.hib_words.specs.Given.{Text, options_from}
use Rattle.hib_words.specs.Commands.{Asked, Settings, command, play, work, make, audit, collect, bulk, nodes}

-- the command of a line
abbrev at : Text → Option Asked
at line = command (slice_split (λ c. c == 32) line)

abbrev are_none : List Text → Bool
are_none lines = list_all (λ line. is_none (at line)) lines

abbrev settings : Bool → Bool → Option Text → Settings
settings journal trace file = record { journal = journal; trace = trace; file = file }

abbrev plain : Settings
plain = settings false false None

-- ---- words that have a form

plays_1 : at (codes "play") ≡ Some (play plain)
unfolding options_from
plays_1 = refl

plays_2 : at (codes "play --journal") ≡ Some (play (settings true false None))
unfolding options_from
plays_2 = refl

plays_3 : at (codes "play --trace") ≡ Some (play (settings false true None))
unfolding options_from
plays_3 = refl

plays_4 : at (codes "play --file a") ≡ Some (play (settings false false (Some (codes "a"))))
unfolding options_from
plays_4 = refl

plays_5 : at (codes "play --file=a=b") ≡ Some (play (settings false false (Some (codes "a=b"))))
unfolding options_from
plays_5 = refl

plays_6 : at (codes "play --file play") ≡ Some (play (settings false false (Some (codes "play"))))
unfolding options_from
plays_6 = refl

plays_7 : at (codes "play --trace --file a --journal") ≡ Some (play (settings true true (Some (codes "a"))))
unfolding options_from
plays_7 = refl

works_1 : at (codes "work --workers 1") ≡ Some (work 1 false plain)
unfolding options_from
works_1 = refl

works_2 : at (codes "work --workers=64") ≡ Some (work 64 false plain)
unfolding options_from
works_2 = refl

works_3 : at (codes "work --journal --workers 2 --trace") ≡ Some (work 2 false (settings true true None))
unfolding options_from
works_3 = refl

works_4 : at (codes "work --file=a --workers=10") ≡ Some (work 10 false (settings false false (Some (codes "a"))))
unfolding options_from
works_4 = refl

splits_1 : at (codes "work --workers 1 --split") ≡ Some (work 1 true plain)
unfolding options_from
splits_1 = refl

splits_2 : at (codes "work --split --workers=64") ≡ Some (work 64 true plain)
unfolding options_from
splits_2 = refl

splits_3 : at (codes "work --split --journal --workers 2 --trace") ≡ Some (work 2 true (settings true true None))
unfolding options_from
splits_3 = refl

splits_4 : at (codes "work --journal --workers 2 --split --file a") ≡ Some (work 2 true (settings true false (Some (codes "a"))))
unfolding options_from
splits_4 = refl

splits_5 : at (codes "work --trace --file=a --workers 10 --split") ≡ Some (work 10 true (settings false true (Some (codes "a"))))
unfolding options_from
splits_5 = refl

-- a word that an option waits for is its value
splits_6 : at (codes "work --file split --workers 2") ≡ Some (work 2 false (settings false false (Some (codes "split"))))
unfolding options_from
splits_6 = refl

makes_1 : at (codes "make --seed 0") ≡ Some (make 0 false)
unfolding options_from
makes_1 = refl

makes_2 : at (codes "make --seed=4294967295") ≡ Some (make 4294967295 false)
unfolding options_from
makes_2 = refl

makes_3 : at (codes "make --text --seed 7") ≡ Some (make 7 true)
unfolding options_from
makes_3 = refl

makes_4 : at (codes "make --seed 7 --text") ≡ Some (make 7 true)
unfolding options_from
makes_4 = refl

audits_1 : at (codes "audit") ≡ Some (audit)
unfolding options_from
audits_1 = refl

collects_1 : at (codes "collect") ≡ Some (collect)
unfolding options_from
collects_1 = refl

bulks_1 : at (codes "bulk") ≡ Some (bulk)
unfolding options_from
bulks_1 = refl

nodes_1 : at (codes "nodes") ≡ Some (nodes)
unfolding options_from
nodes_1 = refl

-- ---- words that have none

no_words : command [] ≡ None
no_words = refl

-- the first word is the command, and no other stands before it
commands : are_none (
    codes "" ∷ codes "help" ∷ codes "--help" ∷ codes "--version" ∷ codes "PLAY" ∷ codes "pla" ∷ codes "plays" ∷
    codes " play" ∷ codes "collects" ∷ codes "bulks" ∷ codes "node" ∷ codes "-- play" ∷ codes "--journal play" ∷
    codes "--split work --workers 1" ∷ codes "split --workers 1" ∷ codes "x play" ∷ []) ≡ true
unfolding options_from
commands = refl

-- an option of another command, a shortened one, a short one, and any other word
others : are_none (
    codes "play x" ∷ codes "play " ∷ codes "play play" ∷ codes "play -" ∷ codes "play -j" ∷ codes "play -h" ∷
    codes "play --help" ∷ codes "play --version" ∷ codes "play --journa" ∷ codes "play --j" ∷
    codes "play --Journal" ∷ codes "play ---journal" ∷ codes "play --seed 1" ∷ codes "play --workers 1" ∷
    codes "play --split" ∷ codes "play --journal --split" ∷ codes "make --seed 1 --split" ∷ codes "audit --split" ∷
    codes "work --workers 1 --spli" ∷ codes "work --workers 1 --Split" ∷ codes "work --workers 1 -s" ∷
    codes "work --workers 1 split" ∷ codes "work --worker 1" ∷ codes "work --workers 1 --text" ∷
    codes "make --seed 1 --journal" ∷ codes "make --seed 1 x" ∷ codes "audit --journal" ∷ codes "audit x" ∷
    codes "audit audit" ∷ codes "collect x" ∷ codes "collect --journal" ∷ codes "collect collect" ∷ codes "bulk x" ∷ codes "bulk --journal" ∷ codes "nodes x" ∷ codes "nodes --split" ∷ []) ≡ true
unfolding options_from
others = refl

-- each option at most once
twice : are_none (
    codes "play --journal --journal" ∷ codes "play --trace --journal --trace" ∷ codes "play --file a --file a" ∷
    codes "play --file=a --file=b" ∷ codes "play --file a --file=a" ∷ codes "play --file --file" ∷
    codes "work --workers 1 --workers 1" ∷ codes "work --workers=1 --journal --workers=2" ∷
    codes "work --workers 1 --split --split" ∷ codes "work --split --workers 1 --split" ∷
    codes "make --seed 1 --seed 1" ∷ codes "make --text --seed 1 --text" ∷ []) ≡ true
unfolding options_from
twice = refl

-- a flag takes no value
flags : are_none (
    codes "play --journal=x" ∷ codes "play --journal=" ∷ codes "play --trace=true" ∷ codes "play --trace true" ∷
    codes "make --seed 1 --text=" ∷ codes "play --=journal" ∷ codes "play --=" ∷
    codes "work --workers 1 --split=" ∷ codes "work --workers 1 --split=true" ∷
    codes "work --workers 1 --split true" ∷ []) ≡ true
unfolding options_from
flags = refl

-- a value that is missing, empty or begins with a hyphen
values : are_none (
    codes "play --file" ∷ codes "play --journal --file" ∷ codes "play --file=" ∷ codes "play --file " ∷
    codes "play --file= --journal" ∷ codes "play --file -" ∷ codes "play --file -a" ∷ codes "play --file=-a" ∷
    codes "play --file=-" ∷ codes "play --file --trace" ∷ codes "play --file --trace a" ∷ codes "work --workers" ∷
    codes "work --workers --split" ∷ codes "work --workers --split 1" ∷ codes "work --workers 1 --file --split" ∷
    codes "work --workers=" ∷ codes "work --workers " ∷ codes "make --seed" ∷ codes "make --seed=" ∷
    codes "make --seed " ∷ codes "make --text" ∷ []) ≡ true
unfolding options_from
values = refl

-- the word of two hyphens, at each place
hyphens : are_none (
    codes "play --" ∷ codes "play -- --journal" ∷ codes "play --journal --" ∷ codes "play --journal -- --trace" ∷
    codes "play --file -- a" ∷ codes "play --file a --" ∷ codes "play --file=-- a" ∷ codes "work -- --workers 1" ∷
    codes "work --workers -- 1" ∷ codes "work --workers 1 --" ∷ codes "work --workers 1 -- --split" ∷
    codes "make --seed 1 -- --text" ∷ codes "audit --" ∷ []) ≡ true
unfolding options_from
hyphens = refl

-- a number with a sign, with a leading zero, with other bytes, beyond its ends, or of twenty digits
numbers : are_none (
    codes "work" ∷ codes "work --split" ∷ codes "work --split --workers 0" ∷ codes "work --workers 0" ∷
    codes "work --workers 65" ∷ codes "work --workers=65" ∷
    codes "work --workers 00" ∷ codes "work --workers 01" ∷ codes "work --workers=064" ∷ codes "work --workers +1" ∷
    codes "work --workers=-1" ∷ codes "work --workers 1a" ∷ codes "work --workers 1.0" ∷
    codes "work --workers 0x1" ∷ codes "work --workers 99999999999999999999" ∷
    codes "work --workers 18446744073709551617" ∷ codes "make" ∷ codes "make --seed -1" ∷ codes "make --seed +0" ∷
    codes "make --seed=00" ∷ codes "make --seed=007" ∷ codes "make --seed 4294967296" ∷
    codes "make --seed 10000000000000000000" ∷ codes "make --seed 18446744073709551616" ∷ codes "make --seed 1_0" ∷
    codes "make --seed a" ∷ []) ≡ true
unfolding options_from
numbers = refl
