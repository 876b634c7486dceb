use Rattle.std.proofs.Common.{◌≡◌, List, [], ◌∷◌, length, refl, ap, sym, ◌∙◌, subst, arith}
use Rattle.redundancy_cert.specs.declared.stacks.Side.{Side}
use Rattle.redundancy_cert.specs.declared.stacks.Turn.{Turn}
use Rattle.redundancy_cert.specs.Stacks.{IsSideEnd, IsFlipped}
use Rattle.tri.specs.Paths.{IsUnknown}
use Rattle.pair_sim.specs.Sims.{assigned}
use Rattle.decisions.proofs.Climbs.{path_length, none_ended, one_ended, back, all_ended, climbed_end, turned_end, turn_free, last_is}
use Rattle.decisions.proofs.climbing.climb.Goals as goal

empty : (ss : List Side) → length ss ≡ 0 → ss ≡ []
empty [] e = refl
empty (s ∷ ss) e = absurd (omega (arith, e))

pub undo-requires : goal.undo-requires
undo-requires c =
    let a = path_length c.args.labels.now.fault c.args.labels.now.netlist c.args.labels.now.holds c.loop-labels.labels c.loop-labels.stack.items c.loop-labels.invariant.end.at in
    let v = c.loop-labels.stack.ok.0 in
    let l = c.loop-labels-test.true in
    omega arith

pub loop-labels-init : goal.loop-labels-init
loop-labels-init c = record { end = c.requires; ended = none_ended c.args.stack.now.items c.args.done.items }

pub loop-labels-preserved : goal.loop-labels-preserved
loop-labels-preserved c =
    let stack = c.loop-labels.stack.items in
    let stack' = c.end_side.new.stack.items in
    let t = subst (λ (t : Turn). IsSideEnd c.loop-labels.done.items stack stack' t) c.in-Climbed.is c.in_ok-nodes.ensures in
    record {
      end = climbed_end c.args.labels.now.fault c.args.labels.now.netlist c.args.labels.now.holds c.loop-labels.labels c.undo.new.self stack stack' c.loop-labels.done.items c.in-Climbed.nodes.items
          c.loop-labels.invariant.end c.undo.ensures t;
      ended = one_ended c.args.stack.now.items c.args.done.items stack stack' c.loop-labels.done.items c.in-Climbed.nodes.items c.loop-labels.invariant.ended t;
    }

pub assign-requires : goal.assign-requires
assign-requires c =
    let s' = c.undo.new.self in
    let stack = c.loop-labels.stack.items in
    let stack' = c.end_side.new.stack.items in
    let t : IsFlipped c.loop-labels.done.items stack stack' = subst (λ (u : Turn). IsSideEnd c.loop-labels.done.items stack stack' u) c.in-Turned.is c.in_ok-nodes.ensures in
    let last : c.index-last.result.now ≡ t.next = last_is t c.index-last.result.now c.len-in-Turned.result
    (let v = c.end_side.new.stack.ok.0 in let e = c.len-in-Turned.ensures in omega arith) c.index-last.ensures in
    subst (λ (r : Side). IsUnknown s'.fault s'.netlist s'.holds s'.path r.signal) (sym last)
    (turn_free c.args.labels.now.fault c.args.labels.now.netlist c.args.labels.now.holds c.loop-labels.labels s' stack stack' c.loop-labels.done.items c.loop-labels.invariant.end c.undo.ensures t)

pub returns-in-Turned-clause-end : goal.returns-in-Turned-clause-end
returns-in-Turned-clause-end c =
    let s' = c.undo.new.self in
    let stack = c.loop-labels.stack.items in
    let stack' = c.end_side.new.stack.items in
    let t : IsFlipped c.loop-labels.done.items stack stack' = subst (λ (u : Turn). IsSideEnd c.loop-labels.done.items stack stack' u) c.in-Turned.is c.in_ok-nodes.ensures in
    let last : c.index-last.result.now ≡ t.next = last_is t c.index-last.result.now c.len-in-Turned.result
    (let v = c.end_side.new.stack.ok.0 in let e = c.len-in-Turned.ensures in omega arith) c.index-last.ensures in
    turned_end c.args.labels.now.fault c.args.labels.now.netlist c.args.labels.now.holds c.loop-labels.labels s' c.assign.new.self stack stack' c.loop-labels.done.items
    c.loop-labels.invariant.end c.undo.ensures t (c.assign.ensures ∙ ap (λ (r : Side). assigned s' r.signal r.bit) last)

pub returns-in-Turned-clause-tree : goal.returns-in-Turned-clause-tree
returns-in-Turned-clause-tree c =
    let stack = c.loop-labels.stack.items in
    let stack' = c.end_side.new.stack.items in
    back c.args.stack.now.items c.args.done.items stack stack' c.loop-labels.done.items c.loop-labels.invariant.ended
    (subst (λ (u : Turn). IsSideEnd c.loop-labels.done.items stack stack' u) c.in-Turned.is c.in_ok-nodes.ensures)

pub returns-clause-tree : goal.returns-clause-tree
returns-clause-tree c =
    let stack = c.loop-labels.stack.items in
    all_ended c.args.stack.now.items c.args.done.items stack c.loop-labels.done.items c.loop-labels.invariant.ended
    (empty stack (let v = c.loop-labels.stack.ok.0 in let l = c.loop-labels-test.false in omega arith))
