-- Lines that go to a sink in pieces.
use Rattle.std.proofs.Common.{◌≡◌, ℕ, List, [], ◌++◌, ap, ◌∙◌, codes}
use Rattle.hib_journal.specs.Types.{Entry, Script}
use Rattle.hib_flat.specs.declared.form.Form.{Form}
use Rattle.hib_flat.specs.Forms.{lines_as}
use Rattle.hib_flat.specs.Lines.{header, flat_csv}

-- the line of names was gathered first
pub csv_begun : (script : Script) (es : List Entry) (none g : List ℕ) → none ≡ [] → g ≡ none ++ (header script ++ codes "\n") → g ++ lines_as Form.Csv script es ≡ flat_csv script es
csv_begun script es none g n e = ap (λ (w : List ℕ). w ++ lines_as Form.Csv script es) (e ∙ ap (λ (w : List ℕ). w ++ (header script ++ codes "\n")) n)
