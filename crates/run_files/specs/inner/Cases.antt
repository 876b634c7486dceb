-- What the texts of a run are about, and what was found.
use Rattle.std.specs.Prelude.{◌≡◌, ◌<◌, ◌≤◌, ◌^◌, length}
use Rattle.statement.specs.Faults.{universe_of}
use Rattle.netlist.specs.Designs.{IsDesign}
use Rattle.netlist.specs.Holds.{AreHoldsOf}
use Rattle.scan_insert.specs.Scanned.{AreChainsOf}
use Rattle.good_files.specs.ScanOff.{design_chains}
use Rattle.list_core.specs.declared.compaction.Finished.{Finished}
use Rattle.run_report.specs.Subjects.{IsSubjectOf}
use Rattle.run_files.specs.declared.case.Case.{Case}
use Rattle.run_files.specs.inner.Verdicts.{AreVerdicts}

-- a design, with held inputs and chains of its own, all its faults, and a mark for each of them
pub record IsCase (c : Case) : Type 0 where
  pub core : c.core.now ≡ c.netlist.now
  pub design : IsDesign c.netlist.now
  pub held : AreHoldsOf c.netlist.now c.holds.now
  pub times : 1 ≤ c.plan.times
  pub dealt : c.chains.now ≡ design_chains c.netlist.now c.plan.chains
  pub chains : AreChainsOf c.netlist.now c.chains.now
  pub subject : IsSubjectOf c.netlist.now c.subject.now
  pub asked : length c.asked.now ≡ length (universe_of c.netlist.now)

-- few patterns, and by them a verdict for each class
pub record AreFoundOf (c : Case) (found : Finished) : Type 0 where
  pub verdicts : AreVerdicts c.netlist.now c.holds.now c.subject.now.classes.representatives c.plan.limit found.patterns.items found.verdicts.items
  pub few : length found.patterns.items < 2 ^ 32
