use Rattle.good_files.proofs.TreesAlone.{trees_alone}
use Rattle.good_files.proofs.laws.trees_as_before.Goals as goal

pub returns : goal.returns
returns c = trees_alone c.first_line_tells.ensures
