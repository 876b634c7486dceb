use Rattle.fault_collapse.specs.Joined.{symmetric}
use Rattle.fault_collapse.proofs.Detected.{detected_too}
use Rattle.fault_collapse.proofs.laws.detected_alike.Goals as goal

pub returns : goal.returns
returns c n f g inputs state point sound same = (
  detected_too c.equivalent_agree.ensures c.some_settles.ensures n sound inputs state point f g same,
  detected_too c.equivalent_agree.ensures c.some_settles.ensures n sound inputs state point g f (symmetric f g same),
)
