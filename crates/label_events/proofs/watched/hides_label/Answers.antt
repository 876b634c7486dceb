use Rattle.label_events.proofs.Hiding.{hides_labels}
use Rattle.label_events.proofs.watched.hides_label.Goals as goal

pub returns : goal.returns
returns c = λ h.
    hides_labels c.args.kind c.args.cover c.args.before c.args.after (c.hides.ensures c.if-not-hides.false) (c.hides-2.ensures h)
    (c.hides_difference.ensures c.if-not-hides_difference.false)
