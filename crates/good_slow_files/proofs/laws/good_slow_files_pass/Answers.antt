use Rattle.good_slow_files.proofs.Passing.{passes}
use Rattle.good_slow_files.proofs.laws.good_slow_files_pass.Goals as goal

pub returns : goal.returns
returns c files contents sound design good answer is = passes (record {
  certificate = c.one_transition_certificate.ensures;
  report = c.transition_texts_tell_reports.ensures;
  stil = c.at_most_one.ensures;
  patterns = c.one_launch_pattern_list.ensures;
}) files contents sound design good answer is
