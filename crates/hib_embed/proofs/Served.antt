-- What is asked for that is done here is asked for without threads.
use Rattle.std.specs.Prelude.{◌≡◌, Bool, true, false, if◌then◌else◌, is_some}
use Rattle.std.specs.Prelude.{Option, Some, None, option_and_then}
use Rattle.std.specs.Prelude.{ℕ, List, map}
use Rattle.std.specs.String.{string_bytes}
use Rattle.std.specs.declared.string.String.{String}
use Rattle.std.specs.declared.alloc.Global.{Global}
use Rattle.std.proofs.Common.{refl, ap}
use Rattle.hib_words.specs.Commands.{Asked, command, play, work, make, audit, collect, bulk, nodes}
use Rattle.hib_top.specs.Words.{asked_in, if_alone}
use Rattle.hib_embed.specs.declared.unserved.Unserved.{Unserved}
use Rattle.hib_embed.specs.Unserved.{unserved_of}
use Rattle.hib_embed.specs.Words.{asked_in_lines, words_in}

some_none : (it : Unserved) → Some it ≡ None → ⊥
some_none it e = cc

-- one of three is something
of_three : {B : Type 0} (a b c : Unserved) (p q : Bool) →
    (if p then Some a else if q then Some b else Some c) ≡ None → B
of_three a b c true q e = absurd (some_none a e)
of_three a b c false true e = absurd (some_none b e)
of_three a b c false false e = absurd (some_none c e)

pub alone_if_served : (asked : Option Asked) → option_and_then unserved_of asked ≡ None →
    option_and_then if_alone asked ≡ asked
alone_if_served None e = refl
alone_if_served (Some (play s)) e = refl
alone_if_served (Some (work n p s)) e = of_three _ _ _ (is_some s.file) s.trace e
alone_if_served (Some (make n t)) e = refl
alone_if_served (Some audit) e = refl
alone_if_served (Some collect) e = refl
alone_if_served (Some bulk) e = refl
alone_if_served (Some nodes) e = refl

pub asked_in_words : (words : List (String Global)) → command (map string_bytes words) ≡ asked_in words
unfolding asked_in
asked_in_words words = refl

-- words that are the lines of a text
pub asked_in-lines : (words : List (String Global)) (text : List ℕ) → map string_bytes words ≡ words_in text →
    asked_in words ≡ asked_in_lines text
unfolding asked_in
asked_in-lines words text e = ap command e
