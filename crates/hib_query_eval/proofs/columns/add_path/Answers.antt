use Rattle.hib_query_eval.proofs.columns.add_path.Goals as goal

pub returns-in-Some : goal.returns-in-Some
returns-in-Some c = λ f. c.add_column-in-Some.ensures (c.add_column.ensures f)
