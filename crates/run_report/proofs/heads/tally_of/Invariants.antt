use Rattle.std.proofs.Common.{◌≡◌, ◌+◌, take}
use Rattle.run_report.specs.Heads.{one_if_aborted, count_of, one_if_detected, one_if_redundant, one_if_unasked}
use Rattle.run_report.proofs.heads.tally_of.Given as goal

abbrev pub invariant-loop-k : goal.invariant-loop-k
invariant-loop-k l = record {
  detected : l.tally.detected ≡ count_of one_if_detected (take l.k l.lines);
  redundant : l.tally.redundant ≡ count_of one_if_redundant (take l.k l.lines);
  aborted : l.tally.aborted ≡ count_of one_if_aborted (take l.k l.lines);
  unasked : l.tally.unasked ≡ count_of one_if_unasked (take l.k l.lines);
  all : l.tally.detected + l.tally.redundant + l.tally.aborted + l.tally.unasked ≡ l.k;
}
