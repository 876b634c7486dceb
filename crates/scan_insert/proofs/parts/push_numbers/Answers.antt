use Rattle.std.proofs.Common.{◌++◌, ◌+◌, ◌∷◌, [], refl, ◌∙◌, ap}
use Rattle.std.proofs.lemmas.List.{append_assoc}
use Rattle.statement.specs.Runs.{numbers_from}
use Rattle.scan_insert.proofs.Numbers.{then_one}
use Rattle.scan_insert.proofs.parts.push_numbers.Goals as goal

pub loop-c-preserved : goal.loop-c-preserved
loop-c-preserved c =
    let old = c.args.signals.now.items in
    let first = c.args.first in
    let k = c.loop-c.c in
    c.in_ok-push.ensures.items
    ∙ (ap (λ r. r ++ (first + k) ∷ []) c.loop-c.invariant
    ∙ (append_assoc old (numbers_from first k) ((first + k) ∷ []) ∙ ap (λ r. old ++ r) (then_one first (first + k) k refl)))
