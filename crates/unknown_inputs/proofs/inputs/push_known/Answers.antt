use Rattle.std.proofs.Common.{◌++◌, drop, sym, ◌∙◌, ap, append-nil}
use Rattle.unknown_inputs.proofs.Making.{known_none}
use Rattle.unknown_inputs.proofs.inputs.push_known.Goals as goal

pub returns : goal.returns
returns c =
    let made = c.loop-k.known.items in
    let k = c.loop-k.k in
    sym (append-nil made)
    ∙ (ap (λ r. made ++ r) (sym (known_none (drop k c.args.unknown.now) c.args.inputs.now k c.loop-k-test.false)) ∙ c.loop-k.invariant)
