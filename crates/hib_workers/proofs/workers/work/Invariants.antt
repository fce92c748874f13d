use Rattle.hib_workers.proofs.workers.work.Given as goal

abbrev pub ghosts-work_from : goal.ghosts-work_from
ghosts-work_from g a = record { factory = a.factory }
