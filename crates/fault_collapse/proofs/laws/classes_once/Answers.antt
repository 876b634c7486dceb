use Rattle.fault_collapse.proofs.Once.{same_classes}
use Rattle.fault_collapse.proofs.laws.classes_once.Goals as goal

pub returns : goal.returns
returns g n c d p q = same_classes n c d p q
