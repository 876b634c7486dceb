-- The nodes of a tree that fits decide signals of the netlist.
use Rattle.std.proofs.Common.{true, false, List, [], ◌∷◌, ◌++◌, subst}
use Rattle.std.specs.List.{All}
use Rattle.std.proofs.lemmas.List.Elements.{All-append, All-nil, All-cons, All-head, All-tail}
use Rattle.netlist.proofs.Lists.{all_left, all_right}
use Rattle.netlist.proofs.Placed.{signal_below}
use Rattle.statement.specs.declared.lines.Fault.{Fault}
use Rattle.statement.specs.Netlists.{Netlist}
use Rattle.netlist.specs.Conditions.{IsSound}
use Rattle.statement.specs.Patterns.{Holds}
use Rattle.tri.specs.Paths.{Path}
use Rattle.redundancy_cert.specs.declared.nodes.Node.{Node}
use Rattle.redundancy_cert.specs.declared.nodes.Node.TheVariants as node
use Rattle.redundancy_cert.specs.Trees.{Tree, ClosedEnd, OpenEnd, SplitOn, ForcedTo, Place, places, preorder}
use Rattle.redundancy_cert.specs.Fits.{Fits, PlaceFits}
use Rattle.certificate.specs.Certificates.{HasSignal}

tree_named : (n : Netlist) → IsSound n → (f : Fault) (holds : Holds) (path : Path) (t : Tree) → All (PlaceFits f n holds) (places path t) → All (HasSignal n) (preorder t)
tree_named n sound f holds path ClosedEnd fits = All-cons (HasSignal n) node.Closed [] tt (All-nil (HasSignal n))
tree_named n sound f holds path OpenEnd fits = All-cons (HasSignal n) node.Open [] tt (All-nil (HasSignal n))
tree_named n sound f holds path (SplitOn x t u) fits =
    let P = PlaceFits f n holds in
    let here : Place = record { path = path; node = node.Split x } in
    let zero_side = places ((x, false) ∷ path) t in
    let one_side = places ((x, true) ∷ path) u in
    let head = All-head P here (zero_side ++ one_side) fits in
    let tail = All-tail P here (zero_side ++ one_side) fits in
    All-cons (HasSignal n) (node.Split x) (preorder t ++ preorder u) (signal_below n sound.formed.numbered x head.1.signal)
    (All-append (HasSignal n) (preorder t) (preorder u) (tree_named n sound f holds ((x, false) ∷ path) t (all_left P zero_side one_side tail))
    (tree_named n sound f holds ((x, true) ∷ path) u (all_right P zero_side one_side tail)))
tree_named n sound f holds path (ForcedTo x b t) fits =
    let P = PlaceFits f n holds in
    let here : Place = record { path = path; node = node.Forced x b } in
    let side = places ((x, b) ∷ path) t in
    let head = All-head P here side fits in
    All-cons (HasSignal n) (node.Forced x b) (preorder t) (signal_below n sound.formed.numbered x head.1.signal)
    (tree_named n sound f holds ((x, b) ∷ path) t (All-tail P here side fits))

pub nodes_named : (n : Netlist) → IsSound n → (f : Fault) (holds : Holds) (nodes : List Node) → Fits f n holds nodes → All (HasSignal n) nodes
nodes_named n sound f holds nodes fits = subst (All (HasSignal n)) fits.1 (tree_named n sound f holds [] fits.0 fits.2)
