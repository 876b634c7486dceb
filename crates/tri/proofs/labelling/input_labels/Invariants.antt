use Rattle.std.proofs.Common.{◌≡◌, None, map, take, get_or}
use Rattle.tri.specs.Labels.{source_label, held_value}
use Rattle.tri.specs.Labelling.{decided_in}
use Rattle.tri.proofs.labelling.input_labels.Given as goal

abbrev pub invariant-loop-id : goal.invariant-loop-id
invariant-loop-id l = l.found.items ≡ map (λ x. source_label (decided_in l.labelling.decided.items) x (held_value (get_or l.holds x None))) (take l.id-index l.ids)
