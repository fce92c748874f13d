-- Bytes that were written in pieces.
use Rattle.std.proofs.Common.{ℕ, ◌+◌, List, ◌++◌, Some, None, take, drop, sym, ◌∙◌, ap, append_assoc}
use Rattle.std.proofs.Math.Seq.{take-add}
use Rattle.std.specs.declared.option.Option.{Option}
use Rattle.std.specs.Io.KnownBytes.{Appends}

pub appends_more : (old mid new : Option (List ℕ)) (bytes : List ℕ) (at n : ℕ)
    → Appends old mid (take at bytes) → Appends mid new (take n (drop at bytes)) → Appends old new (take (at + n) bytes)
appends_more None mid new bytes at n a b = tt
appends_more (Some xs) None new bytes at n a b = absurd a
appends_more (Some xs) (Some ys) None bytes at n a b = absurd b
appends_more (Some xs) (Some ys) (Some zs) bytes at n a b =
    b ∙ ap (λ w. w ++ take n (drop at bytes)) a ∙ append_assoc xs _ _ ∙ ap (λ w. xs ++ w) (sym (take-add at n bytes))
