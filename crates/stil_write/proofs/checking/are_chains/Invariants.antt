use Rattle.std.proofs.Common.{take, length, ◌≤◌}
use Rattle.std.specs.List.{All}
use Rattle.stil_write.specs.StilFiles.{IsStilName}
use Rattle.stil_write.proofs.checking.are_chains.Given as goal

abbrev pub invariant-loop-chain : goal.invariant-loop-chain
invariant-loop-chain l = All (λ chain. 1 ≤ length chain) (take l.chain-index l.chains) × All (All IsStilName) (take l.chain-index l.chains)
