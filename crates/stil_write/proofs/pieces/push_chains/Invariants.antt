use Rattle.std.proofs.Common.{◌≡◌, ◌++◌, take}
use Rattle.statement.specs.Stils.{chain_blocks}
use Rattle.stil_write.proofs.pieces.push_chains.Given as goal

abbrev pub invariant-loop-chain : goal.invariant-loop-chain
invariant-loop-chain l = l.out.items ≡ l.fn.out.items ++ chain_blocks 0 (take l.chain l.chains)
