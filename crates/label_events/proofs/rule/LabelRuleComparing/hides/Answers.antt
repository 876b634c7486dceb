use Rattle.std.proofs.Common.{◌≡◌, ◌≢◌, ℕ, List, sym, ◌∙◌, ap, subst, get_or}
use Rattle.std.proofs.lemmas.List.{get_or_default}
use Rattle.statement.specs.declared.kinds.Kind.{Kind}
use Rattle.tri.specs.Labelling.{decided_in}
use Rattle.label_events.specs.Watched.{HidesLabel}
use Rattle.label_events.proofs.Hiding.{turn_hidden}
use Rattle.label_events.proofs.rule.LabelRuleComparing.hides.Goals as goal

pub returns : goal.returns
returns c = λ h.
    let pins = c.args.gate.now.pins in
    let here = c.index-pins-place.result in
    let read : here ≡ get_or pins c.args.place 0 =
    c.index-pins-place.is ∙ (ap (λ (ps : List ℕ). get_or ps c.args.place here) c.pins.ensures ∙ get_or_default pins c.args.place here 0 c.in-Some.ensures.within) in
    let other : get_or pins c.args.place 0 ≢ c.args.id = λ e. c.if-index.false (c.index.ensures ∙ (read ∙ (e ∙ sym c.index-2.ensures))) in
    turn_hidden c.args.self.now.labelling.now.fault (decided_in c.args.self.now.labelling.now.decided.items) c.args.gate.now c.args.values.now c.args.id c.args.value
    c.in-Some.label c.label_at.result c.args.place c.requires.within c.in-Some.ensures.within other (c.is_stuck_reader.ensures c.if-is_stuck_reader.false) c.in-Some.ensures.label
    c.label_at.ensures (subst (λ (k : Kind). HidesLabel k c.in-Some.label c.label_at.result c.args.value) c.kind.ensures (c.hides_label.ensures h))
