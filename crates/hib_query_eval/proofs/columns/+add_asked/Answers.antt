use Rattle.hib_query_eval.proofs.columns.+add_asked.Goals as goal

pub returns-in_ok-add_asked-in-And : goal.returns-in_ok-add_asked-in-And
returns-in_ok-add_asked-in-And t c = λ f. c.add_asked-in-And.ensures (c.add_asked.ensures f)
