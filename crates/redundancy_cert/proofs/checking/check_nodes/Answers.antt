use Rattle.std.proofs.Common.{◌≡◌, ◌+◌, ◌≤◌, List, [], ◌∷◌, ◌++◌, take, length, refl, ap, sym, ◌∙◌, subst, arith}
use Rattle.std.specs.Bool.{MatchBool}
use Rattle.std.proofs.lemmas.Grind.{take_at_read}
use Rattle.std.proofs.lemmas.List.{take_all}
use Rattle.redundancy_cert.specs.declared.nodes.Node.{Node}
use Rattle.redundancy_cert.specs.declared.steps.Step.{Step}
use Rattle.redundancy_cert.specs.Fits.{AreCounts, NodeFits}
use Rattle.redundancy_cert.specs.inner.Walk.{IsAt, IsChecked, StandsFor, after, path_of, waiting_of}
use Rattle.redundancy_cert.proofs.Counting.{counted, few_closed, few_open}
use Rattle.redundancy_cert.proofs.WalkLemmas.{none_checked, all_checked, checked_more, first_bad, fits_alike}
use Rattle.redundancy_cert.proofs.StepLemmas.{same_start, same_then}
use Rattle.redundancy_cert.proofs.checking.check_nodes.Goals as goal

pub loop-i-init : goal.loop-i-init
loop-i-init c = record {
  at = subst (IsAt c.args.pass.now) (sym c.requires.none) c.requires.root;
  same = same_start c.args.pass.now;
  checked = subst (λ (ss : List Step). IsChecked c.args.fault.now c.args.pass.now.netlist c.args.pass.now.holds c.args.nodes.now 0 ss) (sym c.requires.none)
      (none_checked c.args.fault.now c.args.pass.now.netlist c.args.pass.now.holds c.args.nodes.now c.requires.one);
  counts = record { closed = refl; left_open = refl };
  closed = omega arith;
  left_open = omega arith;
}

pub returns-in-Ok-false-clause-answer : goal.returns-in-Ok-false-clause-answer
returns-in-Ok-false-clause-answer c =
    let f = c.args.fault.now in
    let n = c.args.pass.now.netlist in
    let holds = c.args.pass.now.holds in
    let ss : List Step = c.loop-i.path.items in
    let node : Node = c.index-nodes-i.result in
    let m = c.loop-i.pass.netlist in
    let h = c.loop-i.pass.holds in
    let bad : NodeFits f m h (path_of ss) node → ⊥ =
    subst (λ b. MatchBool b (NodeFits f m h (path_of ss) node × StandsFor c.enter.new.path.items (after (path_of ss) (waiting_of ss) node)) (NodeFits f m h (path_of ss) node → ⊥))
    c.in-Ok-false.field-0-test c.in-Ok-false.ensures.fits in
    first_bad f n holds c.args.nodes.now c.loop-i.i ss c.loop-i.invariant.checked node c.loop-i-test.true c.index-nodes-i.is
    (λ fits. bad (fits_alike f n m holds h (path_of ss) node (sym c.loop-i.invariant.same.netlist) (sym c.loop-i.invariant.same.holds) fits))

pub loop-i-preserved : goal.loop-i-preserved
loop-i-preserved c =
    let f = c.args.fault.now in
    let n = c.args.pass.now.netlist in
    let holds = c.args.pass.now.holds in
    let nodes : List Node = c.args.nodes.now in
    let i = c.loop-i.i in
    let ss : List Step = c.loop-i.path.items in
    let node : Node = c.index-nodes-i.result in
    let again : Node = c.index-nodes-i-in-Ok-true.result in
    let m = c.loop-i.pass.netlist in
    let h = c.loop-i.pass.holds in
    let both : NodeFits f m h (path_of ss) node × StandsFor c.enter.new.path.items (after (path_of ss) (waiting_of ss) node) =
    subst (λ b. MatchBool b (NodeFits f m h (path_of ss) node × StandsFor c.enter.new.path.items (after (path_of ss) (waiting_of ss) node)) (NodeFits f m h (path_of ss) node → ⊥))
    c.in-Ok-true.field-0-test c.in-Ok-true.ensures.fits in
    let more : take i nodes ++ again ∷ [] ≡ take (i + 1) nodes =
    sym ((take_at_read nodes i again c.loop-i-test.true).1 ∙ ap (λ (x : Node). take i nodes ++ x ∷ []) (sym c.index-nodes-i-in-Ok-true.is)) in
    let a = c.count_node.ensures.closed in
    let b = c.count_node.ensures.left_open in
    let one = few_closed again in
    let other = few_open again in
    let d = c.loop-i.invariant.closed in
    let e = c.loop-i.invariant.left_open in
    record {
      at = c.in-Ok-true.ensures.at;
      same = same_then c.args.pass.now c.loop-i.pass c.enter.new.pass c.loop-i.invariant.same c.in-Ok-true.ensures.same;
      checked = checked_more f n holds nodes i ss c.loop-i.invariant.checked node c.enter.new.path.items c.loop-i-test.true c.index-nodes-i.is
          (fits_alike f m n h holds (path_of ss) node c.loop-i.invariant.same.netlist c.loop-i.invariant.same.holds both.0) both.1;
      counts = subst (λ (xs : List Node). AreCounts xs c.count_node.new.counts) more (counted (take i nodes) again c.loop-i.counts c.count_node.new.counts c.loop-i.invariant.counts a b);
      closed = omega arith;
      left_open = omega arith;
    }

pub returns-clause-answer : goal.returns-clause-answer
returns-clause-answer c =
    let nodes : List Node = c.args.nodes.now in
    let l : length nodes ≤ c.loop-i.i = c.loop-i-test.false in (
      all_checked c.args.fault.now c.args.pass.now.netlist c.args.pass.now.holds nodes c.loop-i.i c.loop-i.path.items c.loop-i.invariant.checked l,
      subst (λ (xs : List Node). AreCounts xs c.loop-i.counts) (take_all c.loop-i.i nodes l) c.loop-i.invariant.counts,
    )
