-- What a call says of a journal that it has judged.
use Rattle.std.proofs.Common.{◌≡◌, ◌≢◌, ◌⊎◌, ◌<◌, ◌≤◌, ◌^◌, ℕ, List, length, Option, refl, sym, subst, inl, inr, arith}
use Rattle.std.proofs.lemmas.List.{length-reverse}
use Rattle.hib_journal.specs.Kept.{Kept, past}
use Rattle.hib_audit.specs.declared.verdict.Audit.{Audit}
use Rattle.hib_call.specs.declared.status.Status.{Status}
use Rattle.hib_call.specs.Ends.{IsAfterRun, IsTextTold}
use Rattle.hib_top.specs.Auditing.{IsVerdictTold, status_said}

-- the status says it, unless it could not be written
abbrev IsSaid : Status → Audit → Type 0
IsSaid answer a = (answer ≡ status_said a) ⊎ ((answer ≡ Status.WriteFault) ⊎ (answer ≡ Status.NoMemory))

pub is_said : (a : Audit) → IsSaid (status_said a) a
is_said a = inl refl

pub said_written : (a : Audit) (text : List ℕ) (taken written : Option (List ℕ)) → IsTextTold Status.Done text taken written → IsVerdictTold (status_said a) text taken written
said_written Audit.Legal text taken written w = w
said_written (Audit.Illegal entry kind) text taken written w = w

-- it could not be written
pub front_written : (answer : Status) (text : List ℕ) (taken written : Option (List ℕ)) → IsTextTold answer text taken written → IsVerdictTold answer text taken written
front_written Status.Done text taken written w = w
front_written (Status.Illegal n k) text taken written w = absurd w
front_written Status.Usage text taken written w = w
front_written (Status.Refused r) text taken written w = w
front_written Status.ReadFault text taken written w = w
front_written Status.WriteFault text taken written w = w
front_written Status.TooLong text taken written w = w
front_written (Status.Torn t) text taken written w = w
front_written Status.NoMemory text taken written w = w
front_written Status.StoreFault text taken written w = w

pub said_after : (a : Audit) → IsAfterRun (status_said a)
said_after Audit.Legal = tt
said_after (Audit.Illegal entry kind) = tt

pub not_write_fault : (a : Audit) → status_said a ≡ Status.WriteFault → ⊥
not_write_fault Audit.Legal e = absurd (cc)
not_write_fault (Audit.Illegal entry kind) e = absurd (cc)

-- if it couldn't be written
pub not_said : (answer : Status) (a : Audit) → ((answer ≡ Status.Done) ⊎ (answer ≡ Status.WriteFault)) → answer ≢ Status.Done → IsSaid answer a
not_said answer a (inl e) other = absurd (other e)
not_said answer a (inr e) other = inr (inl e)

-- a text has fewer entries than an audit takes
pub few_entries : (k : Kept) → length k.list ≤ 67108864 → length (past k) < 2 ^ 32
unfolding past
few_entries k few = let m : length k.list < 4294967296 = omega (arith, few) in subst (λ (n : ℕ). n < 2 ^ 32) (sym (length-reverse k.list)) m
