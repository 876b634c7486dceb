use Rattle.std.proofs.Common.{◌++◌, drop, sym, ◌∙◌, ap, append-nil}
use Rattle.unknown_inputs.proofs.Making.{unknown_none}
use Rattle.unknown_inputs.proofs.inputs.push_unknown.Goals as goal

pub returns : goal.returns
returns c =
    let made = c.loop-k.others.items in
    let k = c.loop-k.k in
    sym (append-nil made)
    ∙ (ap (λ r. made ++ r) (sym (unknown_none (drop k c.args.unknown.now) c.args.inputs.now k c.loop-k-test.false)) ∙ c.loop-k.invariant)
