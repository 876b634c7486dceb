use Rattle.good_files.proofs.Passing.{passes}
use Rattle.good_files.proofs.laws.good_files_pass.Goals as goal

pub returns : goal.returns
returns c files contents sound good answer is = passes (record {
  certificate = c.one_certificate.ensures;
  report = c.texts_tell_reports.ensures;
  stil = c.at_most_one.ensures;
  patterns = c.one_pattern_list.ensures;
  classes = c.classes_once.ensures;
}) files contents sound good answer is
