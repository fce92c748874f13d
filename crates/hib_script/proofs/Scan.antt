-- One line more of a script.
use Rattle.std.proofs.Common.{◌≡◌, ℕ, ◌+◌, ◌<◌, ◌≤◌, false, List, [], ◌∷◌, length, drop, get_or, Result, Ok, refl, sym, ◌∙◌, add-one, drop-cons}
use Rattle.std.proofs.lemmas.List.{drop_all}
use Rattle.hib_base.specs.declared.refusals.Refused.{Refused}
use Rattle.hib_lex.specs.declared.lines.Line.{Line}
use Rattle.hib_script.specs.Script.{begins_column}
use Rattle.hib_script.specs.Lines.{Reader}
use Rattle.hib_script.specs.Script.{step, reading, IsWhere}
use Rattle.hib_script.specs.declared.errors.ScriptError.{ScriptError}

pub reading_next : (r : Reader) (ls : List Line) (i : ℕ) (l : Line) → i < length ls → reading (Ok r) (drop i ls) ≡ reading (step r (begins_column (drop (i + 1) ls)) (get_or ls i l)) (drop (i + 1) ls)
reading_next r ls i l h = rw (add-one, drop-cons ls i l) refl

pub reading_done : (r : Reader) (ls : List Line) (i : ℕ) → length ls ≤ i → reading (Ok r) (drop i ls) ≡ Ok r
reading_done r ls i h = rw (drop_all i ls h) refl

-- why the line there is bad is why the lines are
pub where_on : (r : Reader) (ls : List Line) (i : ℕ) (l : Line) (whole : Result Reader Refused) (x : ScriptError) → reading (Ok r) (drop i ls) ≡ whole → i < length ls → IsWhere (step r (begins_column (drop (i + 1) ls)) (get_or ls i l)) x → IsWhere whole x
where_on r ls i l whole ScriptError.NoMemory e h w = tt
where_on r ls i l whole (ScriptError.Refused x) e h w = sym e ∙ rw (reading_next r ls i l h, w) refl

pub next_column : (ls : List Line) (i : ℕ) (l : Line) → i < length ls → begins_column (drop i ls) ≡ begins_column (get_or ls i l ∷ [])
next_column ls i l h = rw (drop-cons ls i l) refl

pub no_column : (ls : List Line) (i : ℕ) → length ls ≤ i → begins_column (drop i ls) ≡ false
no_column ls i h = rw (drop_all i ls h) refl
