use Rattle.good_files.proofs.Truth.{truth}
use Rattle.good_files.proofs.laws.good_files_tell_the_truth.Goals as goal

pub returns : goal.returns
returns c = truth (record {
  scan = c.scan_behaves.ensures;
  sound = c.scanned_is_sound.ensures;
  sites = c.sites_have_names.ensures;
  good = c.good_passes.ensures;
  undetected = c.undetected_passes.ensures;
  detected = c.detected_fails.ensures;
  fit = c.vectors_fit.ensures;
  redundant = c.no_sequence_detects_redundant.ensures;
  run = c.some_run.ensures;
  read = c.canonical_text_is_read.ensures;
  test = c.file_vectors.ensures;
  lines = c.faults_have_lines.ensures;
  alike = c.detected_alike.ensures;
  shown = c.shown_is_redundant.ensures;
})
