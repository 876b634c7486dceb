use Rattle.good_unknown_files.specs.GoodUnknownFiles.{AreGoodUnknownFiles}
use Rattle.good_unknown_files.proofs.laws.unknown_checked_is_good.Goals as goal

pub returns : goal.returns
returns c files contents count sound design stand answer =
    let good : AreGoodUnknownFiles files contents = record { stand = stand; tested = answer.0; claims = answer.1; totals = answer.2 } in
    record {
      contents = contents;
      sound = sound;
      design = design;
      good = good;
      truth = c.good_unknown_files_tell_the_truth.ensures files contents sound design good;
    }
