use Rattle.std.proofs.Common.{◌∙◌, ap}
use Rattle.statement.specs.Faults.{universe_of}
use Rattle.transition_run.proofs.files.transition_files.Goals as goal

pub slow_tests-requires-clause-lines : goal.slow_tests-requires-clause-lines
slow_tests-requires-clause-lines g c κs within = record {
  design = c.requires.design;
  held = c.requires.held;
  all = c.in_ok-faults.ensures ∙ ap universe_of c.netlist-netlist.ensures;
}

pub files_of-requires : goal.files_of-requires
files_of-requires g c =
    let tests = c.in_ok-tests.ensures in (
      record { design = c.requires.design; held = c.requires.held; all = c.in_ok-faults.ensures ∙ ap universe_of c.netlist-netlist.ensures },
      (c.requires.some, (c.requires.limit, (tests.tests, (tests.kinds, tests.few)))),
    )
