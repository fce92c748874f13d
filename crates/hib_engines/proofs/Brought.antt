-- Acts that bring something to a session change no engine.
use Rattle.std.proofs.Common.{◌≡◌, ℕ, Bool, true, false, refl, sym, ap, ◌∙◌, Result, Ok, Err, OnOk}
use Rattle.std.proofs.lemmas.Bool.{true≢false, false≢true}
use Rattle.hib_journal.specs.Types.{Part, Act}
use Rattle.hib_journal.specs.Legal.{part_of}
use Rattle.hib_session.specs.Memory.{brings}
use Rattle.hib_engines.specs.Served.{reads}

-- what the part is that such an act is on
abbrev pub of_reader : Part → Bool
of_reader Part.Store = true
of_reader (Part.Region n) = true
of_reader (Part.Own n) = true
of_reader _ = false

pub brought_of : (a : Act) (s : ℕ) → brings a ≡ true → of_reader (part_of a s) ≡ true
brought_of (Act.Persist k r) s b = refl
brought_of (Act.Load k) s b = refl
brought_of (Act.List q) s b = refl
brought_of (Act.Get k t) s b = refl
brought_of (Act.Set k cells) s b = refl
brought_of (Act.Remove k) s b = refl
brought_of _ s b = absurd (false≢true b)

-- an act of these parts brings nothing
pub brings_none : (a : Act) (s : ℕ) (p : Part) → part_of a s ≡ p → of_reader p ≡ false → brings a ≡ true → ⊥
brings_none a s p e n b = true≢false (sym (brought_of a s b) ∙ (ap of_reader e ∙ n))

-- of the store and of a region it is one that reads
pub store_reads : (a : Act) (s : ℕ) → part_of a s ≡ Part.Store → brings a ≡ true → reads a ≡ true
store_reads (Act.Persist k r) s e b = absurd (cc)
store_reads (Act.Set k cells) s e b = absurd (cc)
store_reads (Act.Remove k) s e b = absurd (cc)
store_reads (Act.Load k) s e b = refl
store_reads (Act.List q) s e b = refl
store_reads (Act.Get k t) s e b = refl
store_reads _ s e b = absurd (false≢true b)

pub region_reads : (a : Act) (s n : ℕ) → part_of a s ≡ Part.Region n → brings a ≡ true → reads a ≡ true
region_reads (Act.Persist k r) s n e b = absurd (cc)
region_reads (Act.Set k cells) s n e b = absurd (cc)
region_reads (Act.Remove k) s n e b = absurd (cc)
region_reads (Act.Load k) s n e b = refl
region_reads (Act.List q) s n e b = refl
region_reads (Act.Get k t) s n e b = refl
region_reads _ s n e b = absurd (false≢true b)

pub ok_all : {T E : Type 0} (r : Result T E) (Q : Type 0) → Q → OnOk r Q
ok_all (Ok t) Q q = q
ok_all (Err e) Q q = tt
