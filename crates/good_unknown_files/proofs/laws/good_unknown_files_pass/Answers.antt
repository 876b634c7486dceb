use Rattle.good_unknown_files.proofs.Passing.{passes}
use Rattle.good_unknown_files.proofs.laws.good_unknown_files_pass.Goals as goal

pub returns : goal.returns
returns c files contents sound design good answer is = passes (record {
  certificate = c.one_certificate.ensures;
  report = c.unknown_texts_tell_reports.ensures;
  stil = c.at_most_one.ensures;
  classes = c.classes_once.ensures;
  scanned = c.scanned_is_sound.ensures;
  opens = c.opened_is_sound.ensures;
}) files contents sound design good answer is
