use Rattle.hib_split_law.proofs.Apart.{parts_apart, sessions_apart, later_legal}
use Rattle.hib_split_law.proofs.legal_is_apart.Goals as goal

pub returns : goal.returns
returns c = record {
  apart = λ script told h q l. record { parts = λ p o. parts_apart script told p h q l; sessions = λ s. sessions_apart script told s h q l };
  later = later_legal;
}
