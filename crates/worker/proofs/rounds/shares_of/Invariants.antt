use Rattle.std.proofs.Common.{◌≡◌, ◌+◌, ◌≤◌, vec_len, vec_capacity}
use Rattle.worker.proofs.rounds.shares_of.Given as goal

abbrev pub invariant-loop-hand : goal.invariant-loop-hand
invariant-loop-hand g l = record {
  len : vec_len l.shares + vec_len l.crew ≡ vec_len l.fn.crew;
  room : vec_len l.fn.crew ≤ vec_capacity l.shares;
}

abbrev pub decreases-loop-hand : goal.decreases-loop-hand
decreases-loop-hand g l = vec_len l.crew
