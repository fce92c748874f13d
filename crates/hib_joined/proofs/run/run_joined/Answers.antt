use Rattle.hib_joined.proofs.One.{came_to}
use Rattle.hib_joined.proofs.run.run_joined.Goals as goal

pub returns-clause-came : goal.returns-clause-came
returns-clause-came g c =
    let split = c.work_split-keeper.result in
    let said = c.work_split-keeper.ensures in
    let opened = c.in-Ok.ensures in
    came_to c.merged_is_legal.ensures.legal c.due_ticks_are_few.ensures.few c.store_stands_alone.ensures.listed c.law.ensures.obeyed c.args.workers g.N.Name.script g.N.Name.from split.lists split.mine
    split.strange split.out_of_memory c.join_unless-joined.result _ _ _ c.requires.workers.0 said.listed said.over said.told said.asked said.alone
    (λ alone short. said.whole alone short opened.registry opened.stamps opened.results opened.regions)
    (λ alone short. said.order alone short c.requires.valid opened.registry opened.stamps opened.results opened.regions) said.failed c.join_unless-joined.ensures
