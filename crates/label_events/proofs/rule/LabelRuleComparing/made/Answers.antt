use Rattle.std.proofs.Common.{◌≡◌, ◌∙◌, Bool, List, Option, ap, map}
use Rattle.std.specs.List.{list_any}
use Rattle.statement.specs.declared.kinds.Tri.{Tri}
use Rattle.tri.specs.declared.labels.Label.{Label}
use Rattle.tri.specs.Gates.{gate_tri}
use Rattle.tri.specs.Labels.{label_of}
use Rattle.tri.specs.Labelling.{decided_in}
use Rattle.label_events.specs.Gathered.{no_label, pin_labels}
use Rattle.label_events.proofs.Reading.{all_read, same_label}
use Rattle.label_events.proofs.rule.LabelRuleComparing.made.Goals as goal

pub returns : goal.returns
returns c d =
    let f = c.args.self.now.labelling.now.fault in
    let path = decided_in c.args.self.now.labelling.now.decided.items in
    let id = c.args.id in
    let kind = c.args.kind in
    let ls : List Label = pin_labels f path id c.args.pins.now c.args.values.now in
    let differs = c.good_pins-on_pins.result.may_differ in
    let faulty = gate_tri kind (map (λ (l : Label). l.faulty) ls) in
    let made : c.label_of-label.result ≡ label_of (path id) (gate_tri kind (map (λ (l : Label). l.good) ls)) faulty (list_any (λ (l : Label). l.may_differ) ls) =
    c.label_of-label.ensures
    ∙ (ap (λ (o : Option Bool). label_of o c.through.result c.faulty_made-faulty.result differs) c.decision.ensures
    ∙ (ap (λ (t : Tri). label_of (path id) t c.faulty_made-faulty.result differs) (c.through.ensures (map (λ (l : Label). l.good) ls) c.good_pins-on_pins.ensures.good)
    ∙ (same_label (path id) (gate_tri kind (map (λ (l : Label). l.good) ls)) c.faulty_made-faulty.result faulty differs c.faulty_made-faulty.ensures
    ∙ ap (λ (b : Bool). label_of (path id) (gate_tri kind (map (λ (l : Label). l.good) ls)) faulty b) c.good_pins-on_pins.ensures.may_differ))) in
    all_read f path id kind c.args.pins.now c.args.values.now no_label d c.label_of-label.result c.line.result c.requires.below made c.line.ensures
