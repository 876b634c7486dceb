use Rattle.std.proofs.Common.{true}
use Rattle.good_slow_files.specs.GoodSlowFiles.{AreGoodSlowFiles}
use Rattle.good_slow_files.proofs.Truth.{any_kinds}
use Rattle.good_slow_files.proofs.laws.slow_checked_is_good.Goals as goal

pub returns : goal.returns
returns c files contents count sound design stand answer =
    let good : AreGoodSlowFiles files contents = record { stand = stand; tested = answer.0; faults = answer.1; totals = answer.2 } in
    record {
      contents = contents;
      holds = good.tested.holds;
      sound = sound;
      design = design;
      held = good.tested.held;
      good = good;
      truth = (c.good_slow_files_tell_the_truth.ensures files contents true sound design good (any_kinds contents.evidence)).0;
    }
