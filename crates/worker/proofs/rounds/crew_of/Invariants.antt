use Rattle.std.proofs.Common.{◌≡◌, ◌+◌, ◌≤◌, vec_len, vec_capacity}
use Rattle.std.specs.List.{All}
use Rattle.shared_list.specs.Tally.{Tally}
use Rattle.worker.proofs.rounds.crew_of.Given as goal

abbrev pub invariant-loop-share : goal.invariant-loop-share
invariant-loop-share g l = record {
  tables : All (λ (t : Tally). t.table ≡ l.shared.word.shared.table_id) l.shares.items;
  len : vec_len l.crew + vec_len l.shares ≡ l.workers;
  room : l.workers ≤ vec_capacity l.crew;
}

abbrev pub decreases-loop-share : goal.decreases-loop-share
decreases-loop-share g l = vec_len l.shares
