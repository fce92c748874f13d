-- One line more of a section of bulk changes.
use Rattle.std.proofs.Common.{◌≡◌, ℕ, ◌+◌, ◌<◌, ◌≤◌, List, length, drop, get_or, Result, Ok, refl, sym, ◌∙◌, add-one, drop-cons}
use Rattle.std.proofs.lemmas.List.{drop_all}
use Rattle.hib_base.specs.declared.refusals.Refused.{Refused}
use Rattle.hib_base.specs.declared.scripts.EntityDef.{EntityDef}
use Rattle.hib_lex.specs.declared.lines.Line.{Line}
use Rattle.hib_sections.specs.Bulks.{Read, after, reading}
use Rattle.hib_script.specs.Script.{IsWhere}
use Rattle.hib_sections.specs.Sections.{at_line}
use Rattle.hib_script.specs.declared.errors.ScriptError.{ScriptError}

abbrev with_next : List EntityDef → Read → Line → Result Read Refused
with_next m r l = at_line l.line (after m r l.tokens)

pub reading_next : (m : List EntityDef) (r : Read) (ls : List Line) (i : ℕ) (l : Line) → i < length ls →
    reading m (Ok r) (drop i ls) ≡ reading m (at_line (get_or ls i l).line (after m r (get_or ls i l).tokens)) (drop (i + 1) ls)
reading_next m r ls i l h = rw (add-one, drop-cons ls i l) refl

pub reading_done : (m : List EntityDef) (r : Read) (ls : List Line) (i : ℕ) → length ls ≤ i → reading m (Ok r) (drop i ls) ≡ Ok r
reading_done m r ls i h = rw (drop_all i ls h) refl

-- why the line there is bad is why the lines are
pub where_on : (m : List EntityDef) (r : Read) (ls : List Line) (i : ℕ) (l : Line) (whole : Result Read Refused) (x : ScriptError) →
    reading m (Ok r) (drop i ls) ≡ whole → i < length ls → IsWhere (at_line (get_or ls i l).line (after m r (get_or ls i l).tokens)) x → IsWhere whole x
where_on m r ls i l whole ScriptError.NoMemory e h w = tt
where_on m r ls i l whole (ScriptError.Refused x) e h w = sym e ∙ rw (reading_next m r ls i l h, w) refl
