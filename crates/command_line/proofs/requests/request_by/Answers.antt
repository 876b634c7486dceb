use Rattle.std.proofs.Common.{◌∙◌, ap}
use Rattle.command_line.specs.CommandLine.{line_from}
use Rattle.command_line.proofs.LineLemmas.{asked_as, is_chaintest, is_check, is_diagnose, is_faults, is_grade, is_none, is_play, is_run, is_scan, is_sweep, is_transition, named}
use Rattle.command_line.proofs.requests.request_by.Goals as goal

pub returns-in-scan-clause-line : goal.returns-in-scan-clause-line
returns-in-scan-clause-line c = asked_as _ _ c.scan.result (named _ _ _ _ c.in-scan.is (is_scan _)) c.scan.ensures.line

pub returns-in-faults-clause-line : goal.returns-in-faults-clause-line
returns-in-faults-clause-line c = asked_as _ _ c.taken.result (named _ _ _ _ c.in-faults.is (ap line_from c.faults.ensures.line ∙ is_faults _)) c.taken.ensures.line

pub returns-in-play-clause-line : goal.returns-in-play-clause-line
returns-in-play-clause-line c = asked_as _ _ c.taken-in-play.result (named _ _ _ _ c.in-play.is (ap line_from c.play.ensures.line ∙ is_play _)) c.taken-in-play.ensures.line

pub returns-in-check-clause-line : goal.returns-in-check-clause-line
returns-in-check-clause-line c = asked_as _ _ c.taken-in-check.result (named _ _ _ _ c.in-check.is (ap line_from c.check.ensures.line ∙ is_check _)) c.taken-in-check.ensures.line

pub returns-in-sweep-clause-line : goal.returns-in-sweep-clause-line
returns-in-sweep-clause-line c = asked_as _ _ c.taken-in-sweep.result (named _ _ _ _ c.in-sweep.is (ap line_from c.sweep.ensures.line ∙ is_sweep _)) c.taken-in-sweep.ensures.line

pub returns-in-chaintest-clause-line : goal.returns-in-chaintest-clause-line
returns-in-chaintest-clause-line c = asked_as _ _ c.taken-in-chaintest.result (named _ _ _ _ c.in-chaintest.is (ap line_from c.chaintest.ensures.line ∙ is_chaintest _)) c.taken-in-chaintest.ensures.line

pub returns-in-diagnose-clause-line : goal.returns-in-diagnose-clause-line
returns-in-diagnose-clause-line c = asked_as _ _ c.taken-in-diagnose.result (named _ _ _ _ c.in-diagnose.is (ap line_from c.diagnose.ensures.line ∙ is_diagnose _)) c.taken-in-diagnose.ensures.line

pub returns-in-grade-clause-line : goal.returns-in-grade-clause-line
returns-in-grade-clause-line c = asked_as _ _ c.taken-in-grade.result (named _ _ _ _ c.in-grade.is (ap line_from c.grade.ensures.line ∙ is_grade _)) c.taken-in-grade.ensures.line

pub returns-in-run-clause-line : goal.returns-in-run-clause-line
returns-in-run-clause-line c = asked_as _ _ c.run.result (named _ _ _ _ c.in-run.is (is_run _)) c.run.ensures.line

pub returns-in-transition-clause-line : goal.returns-in-transition-clause-line
returns-in-transition-clause-line c = asked_as _ _ c.transition.result (named _ _ _ _ c.in-transition.is (is_transition _)) c.transition.ensures.line

pub returns-in_default-clause-line : goal.returns-in_default-clause-line
returns-in_default-clause-line c =
    is_none _ _ record {
      scan = c.in_default.not-scan;
      faults = c.in_default.not-faults;
      run = c.in_default.not-run;
      play = c.in_default.not-play;
      check = c.in_default.not-check;
      sweep = c.in_default.not-sweep;
      chaintest = c.in_default.not-chaintest;
      diagnose = c.in_default.not-diagnose;
      transition = c.in_default.not-transition;
      grade = c.in_default.not-grade;
    }
