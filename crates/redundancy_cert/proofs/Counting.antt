-- One node more is counted.
use Rattle.std.proofs.Common.{◌≡◌, ◌+◌, ◌≤◌, List, [], ◌∷◌, ◌++◌, arith}
use Rattle.redundancy_cert.specs.declared.nodes.Node.{Node}
use Rattle.redundancy_cert.specs.declared.nodes.Node.TheVariants.{Closed, Open, Split, Forced}
use Rattle.redundancy_cert.specs.declared.counts.Counts.{Counts}
use Rattle.redundancy_cert.specs.Trees.{closed_count, open_count}
use Rattle.redundancy_cert.specs.Fits.{AreCounts}
use Rattle.redundancy_cert.proofs.Redundant.{closed_count-append, open_count-append}

pub counted : (nodes : List Node) (node : Node) (old new : Counts) → AreCounts nodes old
    → new.closed ≡ old.closed + closed_count (node ∷ []) → new.left_open ≡ old.left_open + open_count (node ∷ []) → AreCounts (nodes ++ node ∷ []) new
counted nodes node old new w a b =
    let e = closed_count-append nodes (node ∷ []) in
    let g = open_count-append nodes (node ∷ []) in
    let h = w.closed in
    let k = w.left_open in
    record { closed = omega arith; left_open = omega arith }

pub few_closed : (node : Node) → closed_count (node ∷ []) ≤ 1
few_closed Closed = omega arith
few_closed Open = omega arith
few_closed (Split x) = omega arith
few_closed (Forced x b) = omega arith

pub few_open : (node : Node) → open_count (node ∷ []) ≤ 1
few_open Closed = omega arith
few_open Open = omega arith
few_open (Split x) = omega arith
few_open (Forced x b) = omega arith
