use Rattle.std.proofs.Common.{◌≡◌, ◌≤◌, ◌∙◌, Bool, ap, map, drop, arith}
use Rattle.std.specs.List.{list_any}
use Rattle.statement.specs.declared.kinds.Tri.{Tri}
use Rattle.tri.specs.declared.labels.Label.{Label}
use Rattle.tri.specs.Gates.{gate_tri}
use Rattle.tri.specs.Labels.{label_of}
use Rattle.tri.proofs.labels.gate_label.Goals as goal

pub returns : goal.returns
returns c =
    let pins = c.args.pins.now in
    let kind = c.args.kind in
    let end : c.loop-k.k ≤ 0 = c.loop-k-test.false in
    let e : drop c.loop-k.k pins ≡ pins = ap (λ j. drop j pins) (let z : c.loop-k.k ≡ 0 = omega arith in z) in
    let good = c.through.ensures (map (λ (m : Label). m.good) (drop c.loop-k.k pins)) c.loop-k.invariant.0
    ∙ ap (λ ms. gate_tri kind (map (λ (m : Label). m.good) ms)) e in
    let faulty = c.through-2.ensures (map (λ (m : Label). m.faulty) (drop c.loop-k.k pins)) c.loop-k.invariant.1
    ∙ ap (λ ms. gate_tri kind (map (λ (m : Label). m.faulty) ms)) e in
    let differs = c.loop-k.invariant.2 ∙ ap (list_any (λ (m : Label). m.may_differ)) e in
    c.label_of.ensures
    ∙ (ap (λ (t : Tri). label_of c.args.decision t c.through-2.result c.loop-k.may_differ) good
    ∙ (ap (λ (t : Tri). label_of c.args.decision (gate_tri kind (map (λ (m : Label). m.good) pins)) t c.loop-k.may_differ) faulty
    ∙ ap (λ (b : Bool). label_of c.args.decision (gate_tri kind (map (λ (m : Label). m.good) pins)) (gate_tri kind (map (λ (m : Label). m.faulty) pins)) b) differs))
