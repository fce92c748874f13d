-- One line more of a section of collections.
use Rattle.std.proofs.Common.{◌≡◌, ℕ, ◌+◌, ◌<◌, ◌≤◌, List, length, drop, get_or, Result, Ok, refl, sym, ◌∙◌, add-one, drop-cons}
use Rattle.std.proofs.lemmas.List.{drop_all}
use Rattle.hib_base.specs.declared.refusals.Refused.{Refused}
use Rattle.hib_base.specs.declared.scripts.EntityDef.{EntityDef}
use Rattle.hib_lex.specs.declared.lines.Line.{Line}
use Rattle.hib_collections_law.specs.declared.entries.Def.{Def}
use Rattle.hib_script.specs.Script.{IsWhere}
use Rattle.hib_sections.specs.Collections.{declaring, with_line}
use Rattle.hib_script.specs.declared.errors.ScriptError.{ScriptError}

pub declaring_next : (m : List EntityDef) (ds : List Def) (ls : List Line) (i : ℕ) (l : Line) → i < length ls →
    declaring m (Ok ds) (drop i ls) ≡ declaring m (with_line m ds (get_or ls i l)) (drop (i + 1) ls)
declaring_next m ds ls i l h = rw (add-one, drop-cons ls i l) refl

pub declaring_done : (m : List EntityDef) (ds : List Def) (ls : List Line) (i : ℕ) → length ls ≤ i → declaring m (Ok ds) (drop i ls) ≡ Ok ds
declaring_done m ds ls i h = rw (drop_all i ls h) refl

-- why the line there is bad is why the lines are
pub where_on : (m : List EntityDef) (ds : List Def) (ls : List Line) (i : ℕ) (l : Line) (whole : Result (List Def) Refused) (x : ScriptError) →
    declaring m (Ok ds) (drop i ls) ≡ whole → i < length ls → IsWhere (with_line m ds (get_or ls i l)) x → IsWhere whole x
where_on m ds ls i l whole ScriptError.NoMemory e h w = tt
where_on m ds ls i l whole (ScriptError.Refused x) e h w = sym e ∙ rw (declaring_next m ds ls i l h, w) refl
