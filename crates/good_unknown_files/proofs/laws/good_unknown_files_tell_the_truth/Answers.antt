use Rattle.good_unknown_files.proofs.Truth.{truth}
use Rattle.good_unknown_files.proofs.laws.good_unknown_files_tell_the_truth.Goals as goal

pub returns : goal.returns
returns c = truth (record {
  scan = c.scan_behaves.ensures;
  sound = c.scanned_is_sound.ensures;
  sites = c.sites_have_names.ensures;
  lines = c.faults_have_lines.ensures;
  alike = c.detected_alike.ensures;
  shown = c.shown_is_redundant.ensures;
  redundant = c.no_sequence_detects_redundant.ensures;
  fitting = c.known_cycles.ensures;
  there = c.sites_are_lines.ensures;
  allows = c.opened_allows.ensures;
  tells = c.opened_tells_the_truth.ensures;
  untold = c.held_unknown_is_untold.ensures;
})
