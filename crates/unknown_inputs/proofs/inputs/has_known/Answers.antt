use Rattle.std.proofs.Common.{◌<◌, ◌≤◌, length, subst, sym, ◌∙◌, List, ℕ}
use Rattle.unknown_inputs.specs.Unknowns.{known_part}
use Rattle.unknown_inputs.proofs.Making.{skipped, none_found}
use Rattle.unknown_inputs.proofs.inputs.has_known.Goals as goal

pub loop-k-preserved : goal.loop-k-preserved
loop-k-preserved c =
    let us = c.args.unknown.now in
    let xs : List ℕ = c.args.netlist.now.inputs in
    let l : c.loop-k.k < length xs = subst (λ (ys : List ℕ). c.loop-k.k < length ys) c.inputs-inputs.ensures c.loop-k-test.true in
    skipped us xs c.loop-k.k 0 (known_part us xs) l (sym c.is_unknown.ensures ∙ c.if-not-is_unknown.false) c.loop-k.invariant

pub returns : goal.returns
returns c =
    let us = c.args.unknown.now in
    let xs : List ℕ = c.args.netlist.now.inputs in
    let l : length xs ≤ c.loop-k.k = subst (λ (ys : List ℕ). length ys ≤ c.loop-k.k) c.inputs-inputs.ensures c.loop-k-test.false in
    none_found us xs c.loop-k.k (known_part us xs) l c.loop-k.invariant
