-- The words of a refusal.
use Rattle.std.specs.Prelude.{ℕ, List, codes, string_bytes, Option, Some, None}
use Rattle.hib_base.specs.Kinds.{kind_word}
use Rattle.hib_serve_answers.specs.declared.refusals.Refusal.{Refusal}

-- what names it
abbrev pub word_of : Refusal → List ℕ
word_of Refusal.Line = codes "line"
word_of Refusal.Long = codes "long"
word_of (Refusal.Unknown name) = codes "member"
word_of Refusal.Members = codes "member"
word_of Refusal.Session = codes "session"
word_of Refusal.Killed = codes "killed"
word_of Refusal.Busy = codes "busy"
word_of (Refusal.Statement kind) = codes "statement"
word_of Refusal.Unfit = codes "statement"
word_of Refusal.Memory = codes "memory"

-- what says more
abbrev pub why_of : Refusal → Option (List ℕ)
why_of (Refusal.Unknown name) = Some (string_bytes name)
why_of (Refusal.Statement kind) = Some (kind_word kind)
why_of _ = None
