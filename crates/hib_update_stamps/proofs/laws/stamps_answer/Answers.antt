use Rattle.hib_update_stamps.proofs.Grown.{answered}
use Rattle.hib_update_stamps.proofs.laws.stamps_answer.Goals as goal

pub returns : goal.returns
returns c timeout stamps h stands time tables within = answered timeout stamps h stands time tables within
