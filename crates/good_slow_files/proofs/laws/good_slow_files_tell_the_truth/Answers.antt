use Rattle.good_slow_files.proofs.Truth.{truth}
use Rattle.good_slow_files.proofs.laws.good_slow_files_tell_the_truth.Goals as goal

pub returns : goal.returns
returns c = truth (record {
  lines = c.faults_have_lines.ensures;
  sound = c.scanned_is_sound.ensures;
  shown = c.shown_has_no_transition.ensures;
  vectors = c.launch_file_vectors.ensures;
  fit = c.launch_vectors_fit.ensures;
  good = c.good_passes_launches.ensures;
  detected = c.detected_fails_slowly.ensures;
  undetected = c.undetected_passes_slowly.ensures;
  run = c.some_slow_run.ensures;
  obey = c.launch_vectors_obey.ensures;
})
