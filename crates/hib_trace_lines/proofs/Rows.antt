-- What was read so far, before what is left.
use Rattle.std.proofs.Common.{List, ◌++◌, Option, Some, None}

abbrev pub after : {A : Type 0} → List A → Option (List A) → Option (List A)
after xs None = None
after xs (Some ys) = Some (xs ++ ys)
