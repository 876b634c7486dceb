use Rattle.good_files.specs.GoodFiles.{test_in}
use Rattle.good_files.proofs.Asked.{as_before}
use Rattle.good_files.proofs.laws.all_asked_as_before.Goals as goal

pub returns : goal.returns
returns c files contents sound good asked class f represents =
    as_before c.detected_alike.ensures (test_in contents good.tested) sound good.tested.classes good.tested.are_classes contents.said.lines good.faults f asked class represents
