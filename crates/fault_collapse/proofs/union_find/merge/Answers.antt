use Rattle.std.proofs.Common.{◌∙◌, min, max, ap, arith}
use Rattle.fault_collapse.proofs.Forests.{linked_classes}
use Rattle.fault_collapse.proofs.union_find.merge.Goals as goal

pub returns-clause-merged : goal.returns-clause-merged
returns-clause-merged c first h =
    let one = c.first_member-one.ensures.first first h in
    let later = c.first_member-one.ensures.same first h in
    let other = c.first_member-other.ensures.first first later in
    let last = c.first_member-other.ensures.same first later in
    let i = c.min.ensures in
    let j = c.max.ensures in
    linked_classes c.first_member-other.new.parents first last c.args.one c.args.other c.min.result c.max.result c.first_member-other.ensures.forest
    (i ∙ ap (λ x. min x c.first_member-other.result) one ∙ ap (λ x. min (first c.args.one) x) other)
    (j ∙ ap (λ x. max x c.first_member-other.result) one ∙ ap (λ x. max (first c.args.one) x) other)
    (omega arith)
