use Rattle.transition.proofs.BatchLemmas.{none_answered, one_more_answered}
use Rattle.transition.proofs.batching.answers_grow.Goals as goal

pub returns-clause-none : goal.returns-clause-none
returns-clause-none c = none_answered

pub returns-clause-more : goal.returns-clause-more
returns-clause-more c = one_more_answered
