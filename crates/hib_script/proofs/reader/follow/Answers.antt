use Rattle.std.proofs.Common.{◌≡◌, ◌⊎◌, ℕ, ◌+◌, Bool, [], ◌∷◌, Some, Ok, Err, refl, sym, subst}
use Rattle.hib_base.specs.declared.refusals.Refused.{Refused}
use Rattle.hib_lex.specs.Lines.{lines_of, line_of, lex_after}
use Rattle.hib_script.specs.Drafts.{reader_of}
use Rattle.hib_script.specs.Passing.{come_to, unless_bad}
use Rattle.hib_script.specs.Script.{step, begins_column, IsWhere}
use Rattle.hib_script.specs.declared.errors.ScriptError.{ScriptError}
use Rattle.hib_script.proofs.Passing.{goes_on, refused_on}
use Rattle.hib_script.proofs.reader.follow.Goals as goal

pub returns-in-Ok-clause-passed : goal.returns-in-Ok-clause-passed
returns-in-Ok-clause-passed c = λ n line e l.
    let r = reader_of c.args.draft.now in
    let z = reader_of c.take.new.draft in
    let ls = lines_of c.args.rest.now in
    let column : c.begins-followed.result ≡ begins_column (c.args.next ∷ []) = rw (c.begins-followed.ensures, c.as_slice.ensures) refl in
    let said : line_of (n + 1) line ≡ Ok (Some c.args.next) = subst (λ m. line_of m line ≡ Ok (Some c.args.next)) e l in
    let took : step r (begins_column (c.args.next ∷ [])) c.in-Some.last ≡ Ok z = subst (λ b. step r b c.in-Some.last ≡ Ok z) column c.in-Ok.ensures.step in
    subst (λ m. come_to r c.args.last n (line ∷ ls) ≡ come_to z (Some c.args.next) m ls) (sym e)
    (subst (λ o. come_to r o n (line ∷ ls) ≡ come_to z (Some c.args.next) (n + 1) ls) (sym c.in-Some.is)
    (goes_on r z n line ls c.in-Some.last c.args.next said took))

pub returns-in-Err-clause-refused : goal.returns-in-Err-clause-refused
returns-in-Err-clause-refused c = λ n line e l.
    let r = reader_of c.args.draft.now in
    let ls = lines_of c.args.rest.now in
    let x : ScriptError = c.in-Err.error in
    let column : c.begins-followed.result ≡ begins_column (c.args.next ∷ []) = rw (c.begins-followed.ensures, c.as_slice.ensures) refl in
    let said : line_of (n + 1) line ≡ Ok (Some c.args.next) = subst (λ m. line_of m line ≡ Ok (Some c.args.next)) e l in
    let Why : Bool → ℕ → Type 0 = λ b m. (x ≡ ScriptError.NoMemory)
    ⊎ ((fault : Refused) × (step r b c.in-Some.last ≡ Err fault) × IsWhere (unless_bad fault (lex_after m c.args.rest.now)) x) in
    let why : Why (begins_column (c.args.next ∷ [])) (n + 1) =
    subst (λ m. Why (begins_column (c.args.next ∷ [])) m) e (subst (λ b. Why b c.args.number) column c.in-Err.ensures.refused) in
    subst (λ o. IsWhere (come_to r o n (line ∷ ls)) x) (sym c.in-Some.is) (refused_on r n line ls c.in-Some.last c.args.next x said why)
