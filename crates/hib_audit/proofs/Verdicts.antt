-- What an audit says holds.
use Rattle.std.proofs.Common.{◌≡◌, ℕ, ◌+◌, ◌<◌, List, [], ◌∷◌, ◌++◌, length, get_or, take, drop, reverse, Some, refl, sym, ap, ◌∙◌, subst, arith}
use Rattle.std.proofs.lemmas.List.{take_more, reverse-append, take-append-drop, length-take-le, length-reverse}
use Rattle.hib_base.specs.Tables.{Tables}
use Rattle.hib_journal.specs.Types.{Script, Entry}
use Rattle.hib_journal.specs.Sessions.{Journal}
use Rattle.hib_journal.specs.Legal.{IsLegal, IsStep}
use Rattle.hib_law.specs.Hits.{AreListsGiven}
use Rattle.hib_law.specs.Law.{Coheres}
use Rattle.hib_audit.specs.declared.verdict.Audit.{Audit}
use Rattle.hib_audit.specs.declared.points.AuditKind.{AuditKind}
use Rattle.hib_audit.specs.Breaks.{Breaks}
use Rattle.hib_audit.specs.Audit.{BreaksAt, IsVerdict, IsFound, IsLawful}

-- one more entry stands at the head of those before
pub reverse_more : {X : Type 0} → (xs : List X) (i : ℕ) (d : X) → i < length xs → reverse (take (i + 1) xs) ≡ get_or xs i d ∷ reverse (take i xs)
reverse_more xs i d h = ap reverse (take_more xs i d h) ∙ reverse-append (take i xs) (get_or xs i d ∷ [])

pub breaks_at : (script : Script) (start : Tables) (xs : List Entry) (i n : ℕ) (e : Entry) (kind : AuditKind) → i < length xs → e ≡ get_or xs i e → n ≡ i + 1 → IsLegal script (Some start) (reverse (take i xs)) →
    Breaks script start (reverse (take i xs)) e kind → BreaksAt script start (reverse xs) n kind
breaks_at script start xs i n e kind l q m legal broken = record {
  later = reverse (drop (i + 1) xs);
  entry = e;
  before = reverse (take i xs);
  split = ap reverse (sym (take-append-drop (i + 1) xs))
      ∙ (reverse-append (take (i + 1) xs) (drop (i + 1) xs) ∙ ap (λ zs. reverse (drop (i + 1) xs) ++ zs) (reverse_more xs i e l ∙ ap (λ (u : Entry). u ∷ reverse (take i xs)) (sym q)));
  place = let k : length (reverse (take i xs)) ≡ i = length-reverse (take i xs) ∙ length-take-le i xs (omega (arith, l)) in omega (arith, k, m);
  legal = legal;
  broken = broken;
}

-- an entry that breaks a point is no step
refuted : (script : Script) (start : Tables) (h : Journal) (e : Entry) (kind : AuditKind) → Breaks script start h e kind → IsStep script (Some start) h e → ⊥
refuted script start h e AuditKind.Tick b s = b s.tick
refuted script start h e AuditKind.Session b s = b.1 s.session
refuted script start h e AuditKind.Part b s = b.2 s.part
refuted script start h e AuditKind.Act b s = b.3 s.act
refuted script start h e AuditKind.Reply b s = b.4 s.reply

step_in : (script : Script) (start : Tables) (later : Journal) (e : Entry) (before : Journal) → IsLegal script (Some start) (later ++ e ∷ before) → IsStep script (Some start) before e
step_in script start [] e before l = l.1
step_in script start (d ∷ later) e before l = step_in script start later e before l.0

not_legal : (script : Script) (start : Tables) (whole : Journal) (n : ℕ) (kind : AuditKind) → BreaksAt script start whole n kind → IsLegal script (Some start) whole → ⊥
not_legal script start whole n kind b l = refuted script start b.before b.entry kind b.broken (step_in script start b.later b.entry b.before (subst (λ h. IsLegal script (Some start) h) b.split l))

pub legal_iff : (script : Script) (start : Tables) (whole : Journal) (a : Audit) → IsVerdict script start whole a → (a ≡ Audit.Legal → IsLegal script (Some start) whole) × (IsLegal script (Some start) whole → a ≡ Audit.Legal)
legal_iff script start whole Audit.Legal v = (λ e. v, λ l. refl)
legal_iff script start whole (Audit.Illegal n kind) v = (λ e. absurd (apart e), λ l. absurd (not_legal script start whole n kind v l))
  where
    apart : Audit.Illegal n kind ≡ Audit.Legal → ⊥
    apart e = cc

pub found_of : (script : Script) (start : Tables) (whole : Journal) (a : Audit) → IsVerdict script start whole a → IsFound script start whole a
found_of script start whole Audit.Legal v = tt
found_of script start whole (Audit.Illegal n kind) v = v

pub lawful_of : (script : Script) (start : Tables) (whole : Journal) (a : Audit) → (IsLegal script (Some start) whole → Coheres script start whole) → (IsLegal script (Some start) whole → AreListsGiven script start whole) →
    IsVerdict script start whole a → IsLawful script start whole a
lawful_of script start whole Audit.Legal f g v = (f v, g v)
lawful_of script start whole (Audit.Illegal n kind) f g v = tt
