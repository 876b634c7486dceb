use Rattle.std.proofs.Common.{sym, ◌∙◌, rules}
use Rattle.std.proofs.lemmas.Bool.{not-true}
use Rattle.label_events.proofs.Hiding.{hides_open}
use Rattle.label_events.proofs.watched.hides.Goals as goal

pub returns : goal.returns
returns c = λ h.
    hides_open c.args.kind c.args.cover c.args.before c.args.after (sym c.is_joint.ensures ∙ c.if-not-is_joint.false) (search rules)
    (sym c.controls-2.ensures ∙ c.if-controls-2.false) (sym c.controls-3.ensures ∙ not-true c.controls-3.result h)
