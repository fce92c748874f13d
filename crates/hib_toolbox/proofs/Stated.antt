-- The states of a journal that was read.
use Rattle.std.proofs.Common.{◌≡◌, ◌≤◌, ◌<◌, ◌^◌, ℕ, length, sym, subst, arith}
use Rattle.std.proofs.lemmas.List.{length-reverse}
use Rattle.hib_call.specs.Limits.{max_journal}
use Rattle.hib_journal.specs.Kept.{Kept, past}

-- a text has fewer entries than an audit takes
pub few_entries : (k : Kept) → length k.list ≤ max_journal → length (past k) < 2 ^ 32
unfolding past
few_entries k few = let n : length k.list ≤ 67108864 = few in let m : length k.list < 4294967296 = omega (arith, n) in subst (λ (n : ℕ). n < 2 ^ 32) (sym (length-reverse k.list)) m
