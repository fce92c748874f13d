-- Bytes that were taken in pieces.
use Rattle.std.proofs.Common.{ℕ, ◌+◌, ◌≤◌, List, [], ◌++◌, Some, None, length, sym, ◌∙◌, ap, append_assoc, length-append, arith, refl}
use Rattle.std.specs.declared.option.Option.{Option}
use Rattle.std.specs.Io.KnownBytes.{Consumes, Keeps}
use Rattle.hib_call.specs.Streams.{ReadsFew}

consumes_more : (old mid new : Option (List ℕ)) (xs ys : List ℕ) → Consumes old mid xs → Consumes mid new ys → Consumes old new (xs ++ ys)
consumes_more None mid new xs ys a b = tt
consumes_more (Some zs) None new xs ys a b = absurd a
consumes_more (Some zs) (Some ws) None xs ys a b = absurd b
consumes_more (Some zs) (Some ws) (Some vs) xs ys a b = a ∙ ap (λ w. xs ++ w) b ∙ sym (append_assoc xs ys vs)

consumes_still : (old mid new : Option (List ℕ)) (xs : List ℕ) → Consumes old mid xs → Keeps mid new → Consumes old new xs
consumes_still None mid new xs a b = tt
consumes_still (Some zs) None new xs a b = absurd a
consumes_still (Some zs) (Some ws) None xs a b = absurd b
consumes_still (Some zs) (Some ws) (Some vs) xs a b = a ∙ ap (λ w. xs ++ w) (sym b)

-- one piece more
pub reads_more : (limit : ℕ) (old mid new : Option (List ℕ)) (xs ys : List ℕ) → Consumes old mid xs → Consumes mid new ys → length xs ≤ limit → length ys ≤ 4096 → ReadsFew (limit + 4096) old new
reads_more limit old mid new xs ys a b few more = record { bytes = xs ++ ys; front = consumes_more old mid new xs ys a b; few = simp length-append (omega arith) }

-- and a call that failed
pub reads_still : (limit : ℕ) (old mid new : Option (List ℕ)) (xs : List ℕ) → Consumes old mid xs → Keeps mid new → length xs ≤ limit → ReadsFew (limit + 4096) old new
reads_still limit old mid new xs a b few = record { bytes = xs; front = consumes_still old mid new xs a b; few = omega arith }

consumes_none : (left : Option (List ℕ)) → Consumes left left []
consumes_none None = tt
consumes_none (Some xs) = refl

pub reads_none : (most : ℕ) (left : Option (List ℕ)) → ReadsFew most left left
reads_none most left = record { bytes = []; front = consumes_none left; few = omega arith }
