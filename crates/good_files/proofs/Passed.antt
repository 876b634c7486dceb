-- Where no clause is false, the files are good.
use Rattle.netlist.specs.Conditions.{IsSound}
use Rattle.netlist.specs.Designs.{IsDesign}
use Rattle.std.proofs.Common.{ℕ}
use Rattle.good_files.specs.declared.answers.Checked.TheVariants.{Faults}
use Rattle.good_files.specs.GoodFiles.{AreGoodFiles, Contents, StandFor}
use Rattle.statement.specs.Statement.{FiveFiles}
use Rattle.good_files.specs.Checks.{ArePassed, IsAnswer}
use Rattle.good_files.specs.Laws.{GoodFilesTellTheTruth}

pub passed : GoodFilesTellTheTruth → (files : FiveFiles) (c : Contents) (count : ℕ) → IsSound c.netlist → IsDesign c.netlist → StandFor files c → IsAnswer c (Faults count)
    → ArePassed files
passed law files c count sound design stand answer =
    let good : AreGoodFiles files c = record { stand = stand; tested = answer.0; faults = answer.1; totals = answer.2 } in
    record { contents = c; sound = sound; good = good; truth = law files c sound design good }
