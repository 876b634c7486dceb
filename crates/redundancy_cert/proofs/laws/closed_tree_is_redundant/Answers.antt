use Rattle.redundancy_cert.proofs.Redundant.{redundant}
use Rattle.redundancy_cert.proofs.laws.closed_tree_is_redundant.Goals as goal

pub returns : goal.returns
returns c f n holds nodes sound fits none = redundant f n holds nodes sound fits none
