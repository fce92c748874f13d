use Rattle.std.proofs.Common.{ℕ, List, ◌++◌, codes, ap, ◌∙◌}
use Rattle.hib_json_lines.specs.Line.{json_line}
use Rattle.hib_serve_answers.proofs.Parts.{without_last, some_byte}
use Rattle.hib_serve_answers.proofs.pieces.put_entry.Goals as goal

pub put_front-requires : goal.put_front-requires
put_front-requires c =
    let line : List ℕ = json_line c.args.script.now c.args.entry.now in
    some_byte c.as_slice.result.now line 10
    (c.as_slice.ensures.value ∙ c.in_ok-put_line.ensures ∙ ap (λ (t : List ℕ). t ++ (line ++ codes "\n")) c.new-line.ensures.items)

pub returns : goal.returns
returns c =
    let line : List ℕ = json_line c.args.script.now c.args.entry.now in
    c.in_ok-put_front.ensures ∙ ap (λ (t : List ℕ). c.args.out.now.items ++ t) (without_last c.as_slice.result.now line 10
    (c.as_slice.ensures.value ∙ c.in_ok-put_line.ensures ∙ ap (λ (t : List ℕ). t ++ (line ++ codes "\n")) c.new-line.ensures.items))
