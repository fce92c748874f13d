use Rattle.hib_print.proofs.Added.{adds_more, lines_ok}
use Rattle.hib_print.proofs.queries.print_query.Goals as goal

pub returns : goal.returns
returns c =
    let name = rw c.as_slice.ensures at c.in_ok-words.ensures in
    let order = rw c.as_slice-2.ensures at c.in_ok-print_order.ensures in
    let select = rw c.selected_word.ensures at c.in_ok-words-2.ensures in
    lines_ok c.end_line.new.self c.end_line.result
    (adds_more (adds_more (adds_more (adds_more (adds_more name c.in_ok-print_from.ensures) c.in_ok-print_where.ensures) order) c.in_ok-print_pages.ensures) select)
    c.end_line.ensures.text c.end_line.ensures.glued
