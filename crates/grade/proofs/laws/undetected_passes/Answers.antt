use Rattle.std.proofs.Common.{Some}
use Rattle.grade.proofs.laws.undetected_passes.Goals as goal

pub returns : goal.returns
returns c s g cycles closed acyclic fit h = (c.play_tells_the_truth.ensures s (Some g) cycles closed acyclic fit).passes (h.shown, h.runs, h.told)
