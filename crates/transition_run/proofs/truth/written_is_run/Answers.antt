use Rattle.transition_run.proofs.RunLemmas.{is_run}
use Rattle.transition_run.proofs.truth.written_is_run.Goals as goal

pub returns : goal.returns
returns c = is_run (record {
  read = c.canonical_text_is_read.ensures;
  stands = c.written_stands.ensures;
  texts = c.texts_differ.ensures;
  lines = c.faults_have_lines.ensures;
  truth = c.good_slow_files_tell_the_truth.ensures;
})
