use Rattle.std.proofs.Common.{◌≡◌, length, take}
use Rattle.scan_insert.specs.Chains.{lengths_of}
use Rattle.cell_order.proofs.reading.are_even.Given as goal

abbrev pub invariant-loop-chain : goal.invariant-loop-chain
invariant-loop-chain l = take l.chain l.lengths ≡ take l.chain (lengths_of l.cells (length l.lengths))
