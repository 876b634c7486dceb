use Rattle.std.proofs.Common.{sym}
use Rattle.atpg_top.proofs.perform.Goals as goal

pub returns-in-Scan : goal.returns-in-Scan
returns-in-Scan g c = rw c.in-Scan.is c.scan_netlist.ensures

pub returns-in-Faults : goal.returns-in-Faults
returns-in-Faults g c = rw c.in-Faults.is c.list_faults.ensures

pub returns-in-Play : goal.returns-in-Play
returns-in-Play g c = rw c.in-Play.is c.play_test.ensures

pub returns-in-Run : goal.returns-in-Run
returns-in-Run g c = rw (c.in-Run.is, sym c.as_slice.ensures.value) c.run_netlist.ensures

pub returns-in-ChainTest : goal.returns-in-ChainTest
returns-in-ChainTest g c = rw c.in-ChainTest.is c.test_chains.ensures

pub returns-in-Diagnose : goal.returns-in-Diagnose
returns-in-Diagnose g c = rw c.in-Diagnose.is c.diagnose_log.ensures

pub returns-in-Transition : goal.returns-in-Transition
returns-in-Transition g c = rw (c.in-Transition.is, sym c.as_slice-in-Transition.ensures.value) c.test_slow_lines.ensures

pub returns-in-Grade : goal.returns-in-Grade
returns-in-Grade g c = rw c.in-Grade.is c.grade_test.ensures

pub returns-in-Check : goal.returns-in-Check
returns-in-Check g c = rw c.in-Check.is c.check_run.ensures

pub returns-in-Sweep : goal.returns-in-Sweep
returns-in-Sweep g c = rw c.in-Sweep.is c.sweep_sample.ensures
